-- A get whose walk passes nodes at once goes on by as many turns as its walk has at them.
use Rattle.std.proofs.Common.{◌≡◌, ℕ, ap, sym, subst, ◌∙◌, refl}
use Rattle.pc_model.specs.Cells.{Cells}
use Rattle.pc_plan.specs.declared.descent.Descent.{Descent}
use Rattle.pc_plan.specs.declared.plan.Told.{Told}
use Rattle.pc_plan.specs.declared.plan.Told.TheVariants.{Version}
use Rattle.pc_plan.specs.declared.walk.Step.{Step}
use Rattle.pc_plan.specs.declared.walk.Walk.{Walk}
use Rattle.pc_plan.specs.Descents.{HasDescended, DescendsByNodes}
use Rattle.pc_plan.specs.Turns.{CanGoOn, GoesOn}
use Rattle.pc_plan.proofs.Descending.{Follows, can_descend, descends_to}
use Rattle.pc_bst.specs.declared.get.BstGet.{BstGet}
use Rattle.pc_bst.specs.declared.get.GetPhase.{GetPhase}
use Rattle.pc_bst.specs.declared.get.GetPhase.TheVariants.{Walking}
use Rattle.pc_bst.specs.Gets.{get_moves, get_walked}

-- a get with another walk and in another phase; it keeps no key of the node above
abbrev pub at_walk : BstGet → GetPhase → Walk → ℕ → BstGet
at_walk r phase w x = record r { walk = w; phase = phase }

-- a get that is on its walk asks as the walk does
pub follows : (r : BstGet) → Follows get_moves (at_walk r Walking)
follows r = record {
  visits = λ w w' x n t is. ap (λ (s : Walk × Step). get_walked (at_walk r Walking w x) s.0 s.1) is;
  reads = λ w w' x n f t is. ap (λ (s : Walk × Step). get_walked (at_walk r Walking w x) s.0 s.1) is;
  passes = λ w w' x k t is other. ap (λ (s : Walk × Step). get_walked (at_walk r Walking w x) s.0 s.1) is ∙ rw other refl;
}

module _ (r : BstGet) (slots : ℕ) (c : Cells) (t : Told) (walks : r.phase ≡ Walking)
    (can : CanGoOn get_moves slots c (get_moves r t)) where
  can_walk : CanGoOn get_moves slots c (get_moves (at_walk r Walking r.walk 0) t)
  can_walk = subst (λ (phase : GetPhase). CanGoOn get_moves slots c
      (get_moves (at_walk r phase r.walk 0) t)) walks can

  pub goes_by_nodes : DescendsByNodes slots c r.walk 0 t
  goes_by_nodes = can_descend get_moves (at_walk r Walking) (follows r) slots c r.walk 0 t can_walk

  pub goes_down : (d : Descent) → HasDescended c r.walk 0 t d
      → GoesOn get_moves c (get_moves r t) 0 (at_walk r r.phase d.walk d.above_key) (Version d.version)
  goes_down d descended =
      subst (λ (phase : GetPhase). GoesOn get_moves c
      (get_moves (at_walk r phase r.walk 0) t) 0
      (at_walk r phase d.walk d.above_key) (Version d.version)) (sym walks)
      (descends_to get_moves (at_walk r Walking) (follows r) slots c r.walk 0 t d descended can_walk).0
