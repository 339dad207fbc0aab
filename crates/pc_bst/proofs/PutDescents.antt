-- A put whose walk passes nodes at once goes on by as many turns as its walk has at them.
use Rattle.std.proofs.Common.{◌≡◌, ℕ, ap, sym, subst, ◌∙◌, refl}
use Rattle.pc_model.specs.Cells.{Cells}
use Rattle.pc_plan.specs.declared.descent.Descent.{Descent}
use Rattle.pc_plan.specs.declared.plan.Told.{Told}
use Rattle.pc_plan.specs.declared.plan.Told.TheVariants.{Version}
use Rattle.pc_plan.specs.declared.walk.Step.{Step}
use Rattle.pc_plan.specs.declared.walk.Walk.{Walk}
use Rattle.pc_plan.specs.Descents.{HasDescended, DescendsByNodes}
use Rattle.pc_plan.specs.Turns.{CanGoOn, GoesOn}
use Rattle.pc_plan.proofs.Descending.{Follows, can_descend, descends_to}
use Rattle.pc_bst.specs.declared.tree_put.PutPhase.{PutPhase}
use Rattle.pc_bst.specs.declared.tree_put.PutPhase.TheVariants.{Walking}
use Rattle.pc_bst.specs.declared.tree_put.TreePut.{TreePut}
use Rattle.pc_bst.specs.Puts.{put_at, put_moves, put_walked}

-- a put that has come so far on its walk
abbrev pub on_walk : TreePut → Walk → ℕ → TreePut
on_walk p w x = put_at p.kind w p.value x Walking

-- it asks as its walk does
pub follows : (p : TreePut) → Follows put_moves (on_walk p)
follows p = record {
  visits = λ w w' x n t is. ap (λ (s : Walk × Step). put_walked (on_walk p w x) s.0 s.1) is;
  reads = λ w w' x n f t is. ap (λ (s : Walk × Step). put_walked (on_walk p w x) s.0 s.1) is;
  passes = λ w w' x k t is other. ap (λ (s : Walk × Step). put_walked (on_walk p w x) s.0 s.1) is ∙ rw other refl;
}

module _ (p : TreePut) (slots : ℕ) (c : Cells) (t : Told) (walks : p.phase ≡ Walking)
    (can : CanGoOn put_moves slots c (put_moves p t)) where
  can_walk : CanGoOn put_moves slots c (put_moves (on_walk p p.walk p.above_key) t)
  can_walk = subst (λ (phase : PutPhase). CanGoOn put_moves slots c
      (put_moves (put_at p.kind p.walk p.value p.above_key phase) t)) walks can

  pub goes_by_nodes : DescendsByNodes slots c p.walk p.above_key t
  goes_by_nodes = can_descend put_moves (on_walk p) (follows p) slots c p.walk p.above_key t can_walk

  pub goes_down : (d : Descent) → HasDescended c p.walk p.above_key t d
      → GoesOn put_moves c (put_moves p t) 0 (put_at p.kind d.walk p.value d.above_key p.phase) (Version d.version)
  goes_down d descended =
      subst (λ (phase : PutPhase). GoesOn put_moves c
      (put_moves (put_at p.kind p.walk p.value p.above_key phase) t) 0
      (put_at p.kind d.walk p.value d.above_key phase) (Version d.version)) (sym walks)
      (descends_to put_moves (on_walk p) (follows p) slots c p.walk p.above_key t d descended can_walk).0
