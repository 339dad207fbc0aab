-- A remove whose walk passes nodes at once goes on by as many turns as its walk has at them.
use Rattle.std.proofs.Common.{◌≡◌, ℕ, ap, sym, subst, ◌∙◌, refl}
use Rattle.pc_model.specs.Cells.{Cells}
use Rattle.pc_plan.specs.declared.descent.Descent.{Descent}
use Rattle.pc_plan.specs.declared.plan.Told.{Told}
use Rattle.pc_plan.specs.declared.plan.Told.TheVariants.{Version}
use Rattle.pc_plan.specs.declared.walk.Step.{Step}
use Rattle.pc_plan.specs.declared.walk.Walk.{Walk}
use Rattle.pc_plan.specs.Descents.{HasDescended, DescendsByNodes}
use Rattle.pc_plan.specs.Turns.{CanGoOn, GoesOn}
use Rattle.pc_plan.proofs.Descending.{Follows, can_descend, descends_to}
use Rattle.pc_avl.specs.declared.remove.AvlRemove.{AvlRemove}
use Rattle.pc_avl.specs.declared.remove.RemovePhase.{RemovePhase}
use Rattle.pc_avl.specs.declared.remove.RemovePhase.TheVariants.{Walking}
use Rattle.pc_avl.specs.Removes.{remove_moves, remove_walked}

-- a remove with another walk, another key of the node above, and in another phase
abbrev pub at_walk : AvlRemove → RemovePhase → Walk → ℕ → AvlRemove
at_walk r phase w x = record r { walk = w; above_key = x; phase = phase }

-- a remove that is on its walk asks as the walk does
pub follows : (r : AvlRemove) → Follows remove_moves (at_walk r Walking)
follows r = record {
  visits = λ w w' x n t is. ap (λ (s : Walk × Step). remove_walked (at_walk r Walking w x) s.0 s.1) is;
  reads = λ w w' x n f t is. ap (λ (s : Walk × Step). remove_walked (at_walk r Walking w x) s.0 s.1) is;
  passes = λ w w' x k t is other. ap (λ (s : Walk × Step). remove_walked (at_walk r Walking w x) s.0 s.1) is ∙ rw other refl;
}

module _ (r : AvlRemove) (slots : ℕ) (c : Cells) (t : Told) (walks : r.phase ≡ Walking)
    (can : CanGoOn remove_moves slots c (remove_moves r t)) where
  can_walk : CanGoOn remove_moves slots c (remove_moves (at_walk r Walking r.walk r.above_key) t)
  can_walk = subst (λ (phase : RemovePhase). CanGoOn remove_moves slots c
      (remove_moves (at_walk r phase r.walk r.above_key) t)) walks can

  pub goes_by_nodes : DescendsByNodes slots c r.walk r.above_key t
  goes_by_nodes = can_descend remove_moves (at_walk r Walking) (follows r) slots c r.walk r.above_key t can_walk

  pub goes_down : (d : Descent) → HasDescended c r.walk r.above_key t d
      → GoesOn remove_moves c (remove_moves r t) 0 (at_walk r r.phase d.walk d.above_key) (Version d.version)
  goes_down d descended =
      subst (λ (phase : RemovePhase). GoesOn remove_moves c
      (remove_moves (at_walk r phase r.walk r.above_key) t) 0
      (at_walk r phase d.walk d.above_key) (Version d.version)) (sym walks)
      (descends_to remove_moves (at_walk r Walking) (follows r) slots c r.walk r.above_key t d descended can_walk).0
