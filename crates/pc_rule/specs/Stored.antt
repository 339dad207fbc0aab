-- What a pass keeps of the words that stand in its own descriptors.
use Rattle.std.specs.Prelude.{◌≡◌, ℕ, ◌<◌, List, length, slice_index}
use Rattle.pc_rule_law.specs.Views.{OwnInstall, word_in}
use Rattle.pc_rule.specs.declared.stored.InstallWords.{InstallWords}

-- the words of an install's descriptor
abbrev pub install_of : InstallWords → OwnInstall
install_of d = record { number = d.number; op = d.op; place = d.place; old = d.value }

-- how many words of its descriptor a pass keeps: the mode, the two counts, and three words for each of 24 changes
abbrev pub kept_words : ℕ
kept_words = 75

-- the words that are kept are those that stand after these stores
pub record HoldsWords (stored : List (ℕ × ℕ)) (kept : List ℕ) : Type 0 where
  pub wide : length kept ≡ kept_words
  pub each : (place : ℕ) → place < kept_words → slice_index kept place ≡ word_in stored place
