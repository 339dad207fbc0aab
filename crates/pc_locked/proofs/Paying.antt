-- What paying finds: a balanced tree where nothing is owed, and else what is owed first.
use Rattle.std.proofs.Common.{◌≡◌, ℕ, ◌≤◌, length, Option, Some, None, sym, subst, arith}
use Rattle.std.specs.Prelude.{IfSome}
use Rattle.pc_model.specs.declared.owed.Owing.{Owing}
use Rattle.pc_model.specs.Debts.{first_owed}
use Rattle.pc_model.specs.Trees.{balanced}
use Rattle.pc_model.specs.TreeForms.{greatest_height}
use Rattle.pc_model.proofs.DebtReasons.{first_owed_is_owed}
use Rattle.pc_model.proofs.Heights.{is_balanced_without_debts}
use Rattle.pc_plain.specs.PlainCells.{cells_of}
use Rattle.pc_avl.specs.declared.tree_kind.TreeKind.{TreeKind}
use Rattle.pc_avl.specs.declared.tree_kind.TreeKind.TheVariants.{Avl}
use Rattle.pc_locked.specs.Repairs.{IsInFullBalance, Repairs}
use Rattle.pc_locked.specs.States.{MapState, form_of, IsRightState}
use Rattle.pc_locked.proofs.Refusals.{pairs_fit}

-- where nothing is owed a balanced tree is in full balance
pub balanced_when_free : (s : MapState) → IsRightState s → first_owed s.owed.keys s.owed.from ≡ None → s.kind ≡ Avl
    → IsInFullBalance s.cells
balanced_when_free s right none avl ps tree =
    let fit : length ps ≤ s.cells.slots = pairs_fit balanced s.cells.slots ps tree in
    let few : length ps ≤ greatest_height = omega (arith, right.few_slots) in
    (is_balanced_without_debts.exactly s.cells.slots (cells_of s.cells) ps tree few).0
    (λ k debt. (first_owed_is_owed.none s.owed).0 none k (right.answered k
    (subst (λ (kind : TreeKind). (form_of kind).in_debt s.cells.slots (cells_of s.cells) k) (sym avl) debt)))

-- what was seen to be owed first is repaired
pub paid_first : (repairs_key repairs_from : ℕ → MapState → MapState → Type 0) (seen old new : MapState) (o : Owing)
    → seen ≡ old → first_owed seen.owed.keys seen.owed.from ≡ Some o → Repairs repairs_key repairs_from seen new o
    → IfSome (first_owed old.owed.keys old.owed.from) (Repairs repairs_key repairs_from old new)
paid_first repairs_key repairs_from seen old new o same first repairs =
    subst (λ (s : MapState). IfSome (first_owed s.owed.keys s.owed.from) (Repairs repairs_key repairs_from s new)) same
    (subst (λ (x : Option Owing). IfSome x (Repairs repairs_key repairs_from seen new)) (sym first) repairs)
