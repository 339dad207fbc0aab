-- What a form has to keep, for exchanges to be run on cells that are sound in it.
use Rattle.std.specs.Prelude.{◌≡◌, ℕ, length}
use Rattle.pc_model.specs.declared.cell.Field.TheVariants.{Version}
use Rattle.pc_model.specs.Map.{Pairs}
use Rattle.pc_model.specs.Cells.{Cells, IsEven, IsSlot, SameButVersions}
use Rattle.pc_model.specs.Forms.{Form, IsSound}

pub record FormLaws (form : Form) : Type 0 where
  -- of versions only the parity matters, to soundness and to debts
  pub parity : (slots : ℕ) (c c' : Cells) (ps : Pairs) → SameButVersions slots c c'
      → form.sound slots c ps → form.sound slots c' ps
  pub debt_parity : (slots : ℕ) (c c' : Cells) (k : ℕ) → SameButVersions slots c c'
      → IsSound form slots c → form.in_debt slots c' k → form.in_debt slots c k
  -- where every slot is in use, there is a pair for each
  pub full : (slots : ℕ) (c : Cells) (ps : Pairs) → form.sound slots c ps
      → ((n : ℕ) → IsSlot slots n → IsEven (c n Version)) → length ps ≡ slots
  -- the sentinel is unmarked
  pub sentinel : (slots : ℕ) (c : Cells) (ps : Pairs) → form.sound slots c ps → IsEven (c 1 Version)
