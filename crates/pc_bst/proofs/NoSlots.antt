-- A put has a fresh node only where its key is new, and a remove from a plain tree has none.
use Rattle.std.proofs.Common.{ℕ, ◌==◌, ◌∷◌, [], inl, inr, Option, Some, None, refl}
use Rattle.std.proofs.lemmas.Bool.{cond_both}
use Rattle.pc_model.specs.declared.cell.Field.TheVariants.{Left as LeftLink}
use Rattle.pc_model.specs.Map.{IsKey, IsPair}
use Rattle.pc_model.specs.Cells.{node_at}
use Rattle.pc_model.specs.Debts.{has}
use Rattle.pc_plan.specs.declared.plan.Ask.{Ask}
use Rattle.pc_plan.specs.declared.plan.Ask.TheVariants.{Visit as AskVisit, Read as AskRead}
use Rattle.pc_plan.specs.declared.plan.Told.{Told}
use Rattle.pc_plan.specs.declared.plan.Told.TheVariants.{Begin, Version, Number}
use Rattle.pc_plan.specs.declared.walk.Above.{Above}
use Rattle.pc_plan.specs.declared.walk.Walk.{Walk}
use Rattle.pc_plan.specs.declared.walk.Step.{Step}
use Rattle.pc_plan.specs.declared.walk.Step.TheVariants.{Visit, Read, Here, Missing, Astray}
use Rattle.pc_plan.specs.EndLaws.{HasNoFresh, WantsNoSlot, IsFreshForNew, WantsSlotForNew}
use Rattle.pc_plan.specs.Walks.{on_way, way, walk_step}
use Rattle.pc_plan.proofs.Quiets.{asks_by_steps}
use Rattle.pc_bst.specs.declared.kind.NodeKind.{NodeKind}
use Rattle.pc_bst.specs.declared.tree_put.PutPhase.{PutPhase}
use Rattle.pc_bst.specs.declared.tree_put.PutPhase.TheVariants.{Walking as Putting, Reading, Ended as Put}
use Rattle.pc_bst.specs.declared.tree_put.TreePut.{TreePut}
use Rattle.pc_bst.specs.Puts.{put_of, put_passes, put_reads, put_walked, put_told, put_moves}
use Rattle.pc_bst.specs.declared.remove.RemovePhase.{RemovePhase}
use Rattle.pc_bst.specs.declared.remove.RemovePhase.TheVariants.{Walking, ReadingLeft, ReadingRight, ReadingValue}
use Rattle.pc_bst.specs.declared.remove.RemovePhase.TheVariants.{Visiting, ReadingNext, ReadingNextKey}
use Rattle.pc_bst.specs.declared.remove.RemovePhase.TheVariants.{ReadingNextValue, ReadingNextRight, Ended}
use Rattle.pc_bst.specs.declared.remove.BstRemove.{BstRemove}
use Rattle.pc_bst.specs.Removes.{remove_of, with_walk, with_value, remove_reads, remove_gives_up, visiting_below}
use Rattle.pc_bst.specs.Removes.{going_below, chosen, following, remove_walked, remove_told, remove_moves}

abbrev IsNewPut : TreePut × Ask → Type 0
IsNewPut s = IsFreshForNew s.1

put_walked_new : (p : TreePut) (w : Walk) (s : Step) → IsNewPut (put_walked p w s)
put_walked_new p w (Visit n) = tt
put_walked_new p w (Read n f) = tt
put_walked_new p w (Here x) =
    cond_both (x == w.key) (put_reads p w) (put_passes p w x) IsNewPut (λ _. tt) (λ _. tt)
put_walked_new p w (Missing s link) = inr refl
put_walked_new p w Astray = tt

put_told_new : (p : TreePut) (phase : PutPhase) (t : Told) → IsNewPut (put_told p phase t)
put_told_new p Putting t = put_walked_new p (walk_step p.walk t).0 (walk_step p.walk t).1
put_told_new p Reading Begin = tt
put_told_new p Reading (Version v) = tt
put_told_new p Reading (Number x) = inl refl
put_told_new p Put t = tt

pub put_wants_slot_for_new : (kind : NodeKind) → WantsSlotForNew (put_of kind) put_moves IsPair
put_wants_slot_for_new kind call ts pair =
    asks_by_steps (put_of kind) put_moves IsFreshForNew (λ p t. put_told_new p p.phase t) call ts

abbrev IsSpare : BstRemove × Ask → Type 0
IsSpare s = HasNoFresh s.1

going_spare : (r : BstRemove) (a : Above) (n : ℕ) → IsSpare (going_below r a n)
going_spare r a n = cond_both (has n (r.walk.node ∷ a.node ∷ [])) (remove_gives_up r) (visiting_below r a n, AskVisit n)
    IsSpare (λ _. tt) (λ _. tt)

chosen_spare : (r : BstRemove) (left right : Option ℕ) → IsSpare (chosen r left right)
chosen_spare r None right = refl
chosen_spare r (Some l) None = refl
chosen_spare r (Some l) (Some n) = going_spare r _ n

following_spare : (r : BstRemove) (o : Option ℕ) → IsSpare (following r o)
following_spare r None = tt
following_spare r (Some n) = going_spare r _ n

walked_spare : (r : BstRemove) (w : Walk) (s : Step) → IsSpare (remove_walked r w s)
walked_spare r w (Visit n) = tt
walked_spare r w (Read n f) = tt
walked_spare r w (Here x) = cond_both (x == w.key) (remove_reads (with_walk r w) ReadingLeft w.node LeftLink)
    (with_walk r (on_way w x), AskRead w.node (way w x)) IsSpare (λ _. tt) (λ _. tt)
walked_spare r w (Missing s link) = tt
walked_spare r w Astray = tt

told_spare : (r : BstRemove) (phase : RemovePhase) (t : Told) → IsSpare (remove_told r phase t)
told_spare r Walking t = walked_spare r (walk_step r.walk t).0 (walk_step r.walk t).1
told_spare r ReadingLeft Begin = tt
told_spare r ReadingLeft (Version v) = tt
told_spare r ReadingLeft (Number x) = tt
told_spare r ReadingRight Begin = tt
told_spare r ReadingRight (Version v) = tt
told_spare r ReadingRight (Number x) = tt
told_spare r ReadingValue Begin = tt
told_spare r ReadingValue (Version v) = tt
told_spare r ReadingValue (Number x) = chosen_spare (with_value r x) (node_at r.left) (node_at r.right)
told_spare r Visiting Begin = tt
told_spare r Visiting (Version v) = tt
told_spare r Visiting (Number x) = tt
told_spare r ReadingNext Begin = tt
told_spare r ReadingNext (Version v) = tt
told_spare r ReadingNext (Number x) = following_spare r (node_at x)
told_spare r ReadingNextKey Begin = tt
told_spare r ReadingNextKey (Version v) = tt
told_spare r ReadingNextKey (Number x) = tt
told_spare r ReadingNextValue Begin = tt
told_spare r ReadingNextValue (Version v) = tt
told_spare r ReadingNextValue (Number x) = tt
told_spare r ReadingNextRight Begin = tt
told_spare r ReadingNextRight (Version v) = tt
told_spare r ReadingNextRight (Number x) = refl
told_spare r Ended Begin = tt
told_spare r Ended (Version v) = tt
told_spare r Ended (Number x) = tt

pub remove_wants_no_slot : WantsNoSlot remove_of remove_moves IsKey
remove_wants_no_slot k ts key =
    asks_by_steps remove_of remove_moves HasNoFresh (λ r t. told_spare r r.phase t) k ts
