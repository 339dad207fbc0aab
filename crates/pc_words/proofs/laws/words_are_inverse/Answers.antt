use Rattle.pc_words.proofs.Words.{kind_raw, raw_is_word, raw_fits, raw_kind, kind_in_range}
use Rattle.pc_words.proofs.laws.words_are_inverse.Goals as goal

pub returns : goal.returns
returns c = (λ w small. (raw_fits w small, raw_is_word w small, kind_raw w small), λ r small is. (kind_in_range r small is, raw_kind r is))
