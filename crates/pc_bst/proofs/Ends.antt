-- In a plain tree the plans charge nothing.
use Rattle.std.proofs.Common.{◌≡◌, ℕ, ◌==◌, List, [], ◌∷◌, Option, Some, None}
use Rattle.std.proofs.Common.{refl, ap}
use Rattle.std.proofs.lemmas.Bool.{cond_both}
use Rattle.pc_model.specs.declared.cell.Field.TheVariants.{Left as LeftLink}
use Rattle.pc_model.specs.Map.{IsKey, IsPair}
use Rattle.pc_model.specs.Cells.{node_at}
use Rattle.pc_model.specs.Debts.{has}
use Rattle.pc_plan.specs.declared.plan.Ask.{Ask}
use Rattle.pc_plan.specs.declared.plan.Ask.TheVariants.{Visit as AskVisit, Read as AskRead}
use Rattle.pc_plan.specs.declared.plan.Told.{Told}
use Rattle.pc_plan.specs.declared.plan.Told.TheVariants.{Begin, Version, Number}
use Rattle.pc_plan.specs.declared.walk.Above.{Above}
use Rattle.pc_plan.specs.declared.walk.Walk.{Walk}
use Rattle.pc_plan.specs.declared.walk.Step.{Step}
use Rattle.pc_plan.specs.declared.walk.Step.TheVariants.{Visit, Read, Here, Missing, Astray}
use Rattle.pc_plan.specs.EndLaws.{IsFree, ChargesNothing}
use Rattle.pc_plan.specs.Walks.{on_way, way, walk_step}
use Rattle.pc_plan.specs.Traces.{after}
use Rattle.pc_plan.proofs.Quiets.{asks_by_steps}
use Rattle.pc_bst.specs.declared.tree_put.PutPhase.{PutPhase}
use Rattle.pc_bst.specs.declared.tree_put.PutPhase.TheVariants.{Walking, Reading, Ended}
use Rattle.pc_bst.specs.declared.tree_put.TreePut.{TreePut}
use Rattle.pc_bst.specs.declared.kind.NodeKind.{NodeKind}
use Rattle.pc_bst.specs.declared.kind.NodeKind.TheVariants.{Plain}
use Rattle.pc_bst.specs.Kinds.{leaf_charges}
use Rattle.pc_bst.specs.declared.remove.RemovePhase.{RemovePhase}
use Rattle.pc_bst.specs.declared.remove.RemovePhase.TheVariants.{Walking as Removing, ReadingLeft, ReadingRight}
use Rattle.pc_bst.specs.declared.remove.RemovePhase.TheVariants.{ReadingValue, Visiting, ReadingNext, ReadingNextKey}
use Rattle.pc_bst.specs.declared.remove.RemovePhase.TheVariants.{ReadingNextValue, ReadingNextRight, Ended as Gone}
use Rattle.pc_bst.specs.declared.remove.BstRemove.{BstRemove}
use Rattle.pc_bst.specs.Puts.{put_of, put_passes, put_reads, put_walked, put_told, put_moves}
use Rattle.pc_bst.specs.Removes.{remove_of, with_walk, with_value, remove_reads, remove_gives_up, visiting_below}
use Rattle.pc_bst.specs.Removes.{going_below, chosen, following, remove_walked, remove_told, remove_moves}

-- the put is one into a plain tree, and charges nothing
abbrev IsFreePut : TreePut × Ask → Type 0
IsFreePut s = (s.0.kind ≡ Plain) × IsFree s.1

put_walked_free : (p : TreePut) (w : Walk) (s : Step) → p.kind ≡ Plain → IsFreePut (put_walked p w s)
put_walked_free p w (Visit n) plain_one = (plain_one, tt)
put_walked_free p w (Read n f) plain_one = (plain_one, tt)
put_walked_free p w (Here x) plain_one =
    cond_both (x == w.key) (put_reads p w) (put_passes p w x) IsFreePut (λ _. (plain_one, tt)) (λ _. (plain_one, tt))
put_walked_free p w (Missing s link) plain_one =
    (plain_one, ap (λ (k : NodeKind). leaf_charges k w.node p.above_key) plain_one)
put_walked_free p w Astray plain_one = (plain_one, tt)

put_told_free : (p : TreePut) (phase : PutPhase) (t : Told) → p.kind ≡ Plain → IsFreePut (put_told p phase t)
put_told_free p Walking t plain_one = put_walked_free p (walk_step p.walk t).0 (walk_step p.walk t).1 plain_one
put_told_free p Reading Begin plain_one = (plain_one, tt)
put_told_free p Reading (Version v) plain_one = (plain_one, tt)
put_told_free p Reading (Number x) plain_one = (plain_one, refl)
put_told_free p Ended t plain_one = (plain_one, tt)

put_after_free : (ts : List Told) (s : TreePut × Ask) → IsFreePut s → IsFreePut (after put_moves s ts)
put_after_free [] s h = h
put_after_free (t ∷ ts) s h = put_after_free ts (put_moves s.0 t) (put_told_free s.0 s.0.phase t h.0)

pub put_charges_nothing : ChargesNothing (put_of Plain) put_moves IsPair
put_charges_nothing call ts pair = (put_after_free ts (put_moves (put_of Plain call) Begin) (refl, tt)).1

abbrev IsFreeRemove : BstRemove × Ask → Type 0
IsFreeRemove s = IsFree s.1

going_free : (r : BstRemove) (a : Above) (n : ℕ) → IsFreeRemove (going_below r a n)
going_free r a n = cond_both (has n (r.walk.node ∷ a.node ∷ [])) (remove_gives_up r) (visiting_below r a n, AskVisit n)
    IsFreeRemove (λ _. tt) (λ _. tt)

chosen_free : (r : BstRemove) (left right : Option ℕ) → IsFreeRemove (chosen r left right)
chosen_free r None right = refl
chosen_free r (Some l) None = refl
chosen_free r (Some l) (Some n) = going_free r _ n

following_free : (r : BstRemove) (o : Option ℕ) → IsFreeRemove (following r o)
following_free r None = tt
following_free r (Some n) = going_free r _ n

remove_walked_free : (r : BstRemove) (w : Walk) (s : Step) → IsFreeRemove (remove_walked r w s)
remove_walked_free r w (Visit n) = tt
remove_walked_free r w (Read n f) = tt
remove_walked_free r w (Here x) =
    cond_both (x == w.key) (remove_reads (with_walk r w) ReadingLeft w.node LeftLink) (
      with_walk r (on_way w x),
      AskRead w.node (way w x),
    ) IsFreeRemove (λ _. tt) (λ _. tt)
remove_walked_free r w (Missing s link) = tt
remove_walked_free r w Astray = tt

remove_number_free : (r : BstRemove) (phase : RemovePhase) (x : ℕ) → IsFreeRemove (remove_told r phase (Number x))
remove_number_free r Removing x = remove_walked_free r (walk_step r.walk (Number x)).0 (walk_step r.walk (Number x)).1
remove_number_free r ReadingLeft x = tt
remove_number_free r ReadingRight x = tt
remove_number_free r ReadingValue x = chosen_free (with_value r x) (node_at r.left) (node_at r.right)
remove_number_free r Visiting x = tt
remove_number_free r ReadingNext x = following_free r (node_at x)
remove_number_free r ReadingNextKey x = tt
remove_number_free r ReadingNextValue x = tt
remove_number_free r ReadingNextRight x = refl
remove_number_free r Gone x = tt

remove_version_free : (r : BstRemove) (phase : RemovePhase) (v : ℕ) → IsFreeRemove (remove_told r phase (Version v))
remove_version_free r Removing v = remove_walked_free r (walk_step r.walk (Version v)).0 (walk_step r.walk
    (Version v)).1
remove_version_free r ReadingLeft v = tt
remove_version_free r ReadingRight v = tt
remove_version_free r ReadingValue v = tt
remove_version_free r Visiting v = tt
remove_version_free r ReadingNext v = tt
remove_version_free r ReadingNextKey v = tt
remove_version_free r ReadingNextValue v = tt
remove_version_free r ReadingNextRight v = tt
remove_version_free r Gone v = tt

remove_begin_free : (r : BstRemove) (phase : RemovePhase) → IsFreeRemove (remove_told r phase Begin)
remove_begin_free r Removing = remove_walked_free r (walk_step r.walk Begin).0 (walk_step r.walk Begin).1
remove_begin_free r ReadingLeft = tt
remove_begin_free r ReadingRight = tt
remove_begin_free r ReadingValue = tt
remove_begin_free r Visiting = tt
remove_begin_free r ReadingNext = tt
remove_begin_free r ReadingNextKey = tt
remove_begin_free r ReadingNextValue = tt
remove_begin_free r ReadingNextRight = tt
remove_begin_free r Gone = tt

remove_free : (r : BstRemove) (t : Told) → IsFree (remove_moves r t).1
remove_free r Begin = remove_begin_free r r.phase
remove_free r (Version v) = remove_version_free r r.phase v
remove_free r (Number x) = remove_number_free r r.phase x

pub remove_charges_nothing : ChargesNothing remove_of remove_moves IsKey
remove_charges_nothing k ts key = asks_by_steps remove_of remove_moves IsFree remove_free k ts
