-- What a pass found in a word.
use Rattle.std.specs.Prelude.{◌≡◌, ℕ}
use Rattle.pc_model.specs.declared.cell.Field.{Field}
use Rattle.pc_words.specs.declared.word.WordKind.TheVariants.{Plain}
use Rattle.pc_words.specs.Words.{kind}
use Rattle.pc_exchange_law.specs.Wholes.{Whole}
use Rattle.pc_exchange_law.specs.WholePlays.{CellSeen}
use Rattle.pc_kcas.specs.Obstacles.{GoesOn}

-- the word had this number since, with no reference in it: the pass went on, and its last step was a load that found it so
pub record HasFound (x y : Whole) (n : ℕ) (f : Field) (v : ℕ) : Type 0 where
  pub before : Whole
  pub since : GoesOn x before
  pub word : ℕ
  pub seen : CellSeen before n f word y
  pub plain : kind word ≡ Plain v
