-- A path without visits has the mode word of words alone.
use Rattle.pc_kcas.proofs.PathVisits.{mode_none, mode_words, mode_path, mode_locked}
use Rattle.pc_kcas.proofs.publishing.mode_word.Goals as goal
