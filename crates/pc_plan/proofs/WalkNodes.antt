-- The numbers of the node that a walk has come to, and of the one above, fit a word, whatever it is told.
use Rattle.std.proofs.Common.{◌≡◌, ℕ, ◌^◌, ◌<◌, ◌==◌, [], ◌∷◌, Option, Some, None, refl, subst}
use Rattle.std.proofs.lemmas.Bool.{cond_both}
use Rattle.pc_model.specs.declared.cell.Field.TheVariants.{Key as KeyField}
use Rattle.pc_model.specs.declared.cell.Side.{Side}
use Rattle.pc_model.specs.declared.cell.Side.TheVariants.{Left}
use Rattle.pc_model.specs.Cells.{node_at}
use Rattle.pc_model.specs.Debts.{has}
use Rattle.pc_model.proofs.Links.{node_at-some}
use Rattle.pc_plan.specs.declared.plan.Told.{Told}
use Rattle.pc_plan.specs.declared.plan.Told.TheVariants.{Begin, Version, Number}
use Rattle.pc_plan.specs.declared.walk.Awaited.{Awaited}
use Rattle.pc_plan.specs.declared.walk.Awaited.TheVariants.{Begin as ToBegin, Version as AVersion, Key as AKey, Choice}
use Rattle.pc_plan.specs.declared.walk.Awaited.TheVariants.{Link}
use Rattle.pc_plan.specs.declared.walk.Walk.{Walk}
use Rattle.pc_plan.specs.declared.walk.Step.{Step}
use Rattle.pc_plan.specs.declared.walk.Step.TheVariants.{Read, Astray}
use Rattle.pc_plan.specs.Lawful.{IsWord}
use Rattle.pc_plan.specs.Walks.{at_version, reading_link, descending, following, step_at, walk_step}

pub record HasSmallNodes (w : Walk) : Type 0 where
  pub node : w.node < 2 ^ 62
  pub above : w.above.node < 2 ^ 62

abbrev IsSmallAfter : Walk × Step → Type 0
IsSmallAfter s = HasSmallNodes s.0

-- a node that a link of this number names
pub named_small : (x n : ℕ) → node_at x ≡ Some n → x < 2 ^ 62 → n < 2 ^ 62
named_small x n named small = subst (λ (y : ℕ). y < 2 ^ 62) (node_at-some x n named).0 small

followed_small : (w : Walk) (s : Side) (x : ℕ) (o : Option ℕ) → node_at x ≡ o → x < 2 ^ 62 → HasSmallNodes w
    → IsSmallAfter (following w s x o)
followed_small w s x None named small h = h
followed_small w s x (Some n) named small h = cond_both (has n (w.node ∷ 1 ∷ [])) (w, Astray) (descending w s n)
    IsSmallAfter (λ _. h) (λ _. record { node = named_small x n named small; above = h.node })

step_small : (w : Walk) (a : Awaited) (t : Told) → IsWord t → HasSmallNodes w → IsSmallAfter (step_at w a t)
step_small w ToBegin Begin word h = record { node = h.node; above = h.above }
step_small w ToBegin (Version v) word h = h
step_small w ToBegin (Number x) word h = h
step_small w AVersion Begin word h = h
step_small w AVersion (Version v) word h =
    cond_both (w.node == 1) (reading_link (at_version w v w.awaited) Left) (at_version w v AKey, Read w.node KeyField)
    IsSmallAfter (λ _. record { node = h.node; above = h.above }) (λ _. record { node = h.node; above = h.above })
step_small w AVersion (Number x) word h = h
step_small w AKey Begin word h = h
step_small w AKey (Version v) word h = h
step_small w AKey (Number x) word h = record { node = h.node; above = h.above }
step_small w Choice t word h = h
step_small w (Link s) Begin word h = h
step_small w (Link s) (Version v) word h = h
step_small w (Link s) (Number x) word h = followed_small w s x (node_at x) refl word h

pub walk_keeps_small : (w : Walk) (t : Told) → IsWord t → HasSmallNodes w → HasSmallNodes (walk_step w t).0
walk_keeps_small w t word h = step_small w w.awaited t word h
