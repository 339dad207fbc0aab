-- What the shape of a board's cells has to keep, and the loosest shape.
use Rattle.std.specs.Prelude.{◌≡◌, ℕ, ◌⊎◌, ◌↔◌, IsTrue, List, []}
use Rattle.pc_model.specs.Cells.{Cells, IsEven}
use Rattle.pc_model.specs.Debts.{has}
use Rattle.pc_model.specs.Exchanges.{Exchange, Stands, applied}
use Rattle.pc_model.specs.Forms.{Form, IsSound, Fits}
use Rattle.pc_model.specs.Trees.{Kind}
use Rattle.pc_model.specs.TreeForms.{tree_form}
use Rattle.pc_model.specs.Linked.{IsLinked, opening_cells}

pub record ShapeLaws (form : Form) : Type 0 where
  -- sound cells are linked
  pub linked : (slots : ℕ) (c : Cells) → IsSound form slots c → IsLinked slots c
  -- an exchange that fits leaves sound cells sound
  pub leaves : (slots : ℕ) (e : Exchange) (charged : List ℕ) (c : Cells) → Fits form slots e charged
      → IsSound form slots c → Stands e c → IsSound form slots (applied e c)
  -- each debt that it brings is charged
  pub charges : (slots : ℕ) (e : Exchange) (charged : List ℕ) (c : Cells) (k : ℕ) → Fits form slots e charged
      → IsSound form slots c → Stands e c → form.in_debt slots (applied e c) k
      → form.in_debt slots c k ⊎ IsTrue (has k charged)

-- a form whose sound cells are linked has all three laws
pub laws_from_linked : (form : Form) → ((slots : ℕ) (c : Cells) → IsSound form slots c → IsLinked slots c)
    → ShapeLaws form
laws_from_linked form linked = record {
  linked = linked;
  leaves = λ slots e charged c fits sound stands. fits.leaves c sound stands;
  charges = λ slots e charged c k fits sound stands debt. fits.charges c k sound stands debt;
}

-- search trees of either kind have these laws
abbrev pub TreesAreShapes : Type 0
TreesAreShapes = (kind : Kind) → ShapeLaws (tree_form kind)

-- cells are sound where they are linked, with no pairs, and no key is in debt
abbrev pub loose_form : Form
loose_form = record {
  sound = λ slots c ps. IsLinked slots c × (ps ≡ []);
  in_debt = λ slots c k. ⊥;
}

pub loose_laws : ShapeLaws loose_form
loose_laws = laws_from_linked loose_form (λ slots c sound. sound.1.0)

-- what the loose shape is
pub record IsLoose (form : Form) : Type 0 where
  pub sound : (slots : ℕ) (c : Cells) → IsSound form slots c ↔ IsLinked slots c
  pub no_debts : (slots : ℕ) (c : Cells) (k : ℕ) → form.in_debt slots c k → ⊥
  pub opening : (slots start : ℕ) → IsEven start → IsSound form slots (opening_cells start)
