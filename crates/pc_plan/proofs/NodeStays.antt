-- What an exchange by nodes leaves as it was: each word but for versions, the fields that are said to change,
-- and the fresh node.
use Rattle.std.proofs.Common.{◌≡◌, ◌≢◌, ℕ, ⊎_elim, List, [], ◌∷◌, Option, Some, None, sym}
use Rattle.std.specs.Prelude.{IsSome}
use Rattle.pc_model.specs.declared.cell.Field.{Field}
use Rattle.pc_model.specs.declared.cell.Field.TheVariants.{Version}
use Rattle.pc_model.specs.Cells.{Cells}
use Rattle.pc_model.specs.Exchanges.{Visited, applied}
use Rattle.pc_plan.specs.NodeChanges.{FieldChange, NodeChange, adds_at, adds_of, ByNodes, planned_by}
use Rattle.pc_plan.specs.Traces.{Event}
use Rattle.pc_plan.specs.Runs.{exchange_of}
use Rattle.pc_plan.specs.Lawful.{Adds}
use Rattle.pc_plan.proofs.WrittenWords.{adds_append, applied_else_word}

-- the field is none of those that change
abbrev pub SparesField : Field → List FieldChange → Type 0
SparesField f [] = Unit {0}
SparesField f (x ∷ xs) = (f ≢ x.field) × SparesField f xs

-- the field of the node is none of those that change
abbrev pub Spares : ℕ → Field → List NodeChange → Type 0
Spares m f [] = Unit {0}
Spares m f (w ∷ ws) = (m ≡ w.node → SparesField f w.fields) × Spares m f ws

field_not_added : (n : ℕ) (xs : List FieldChange) (m : ℕ) (f : Field) → (m ≡ n → SparesField f xs)
    → Adds m f (adds_at n xs) → ⊥
field_not_added n [] m f spares d = d
field_not_added n (x ∷ xs) m f spares d = ⊎_elim (λ e. (spares (sym e.0)).0 (sym e.1))
    (λ later. field_not_added n xs m f (λ e. (spares e).1) later) d

word_not_added : (ws : List NodeChange) (mark : Option Visited) (m : ℕ) (f : Field) → f ≢ Version → Spares m f ws
    → Adds m f (adds_of ws mark) → ⊥
word_not_added [] None m f ne spares d = d
word_not_added [] (Some v) m f ne spares d = ⊎_elim (λ e. ne (sym e.1)) (λ no. no) d
word_not_added (w ∷ ws) mark m f ne spares d = ⊎_elim (λ e. ne (sym e.1))
    (λ later. ⊎_elim (λ a. field_not_added w.node w.fields m f spares.0 a)
    (λ b. word_not_added ws mark m f ne spares.1 b)
    (adds_append m f (adds_at w.node w.fields) (adds_of ws mark) later))
    d

pub word_stays : (past : List Event) (b : ByNodes) (slot version : ℕ) (c : Cells) (m : ℕ) (f : Field) → f ≢ Version
    → Spares m f b.nodes → (IsSome b.fresh → m ≢ slot)
    → applied (exchange_of past (planned_by b) slot version) c m f ≡ c m f
word_stays past b slot version c m f ne spares other = applied_else_word past (planned_by b) slot version c m f
    (word_not_added b.nodes b.mark m f ne spares) other
