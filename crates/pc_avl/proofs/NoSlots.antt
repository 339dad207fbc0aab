-- A remove from a balanced tree has no fresh node.
use Rattle.std.proofs.Common.{ℕ, ◌==◌, List, ◌∷◌, [], Option, Some, None, refl}
use Rattle.std.proofs.lemmas.Bool.{cond_both}
use Rattle.pc_model.specs.declared.cell.Field.TheVariants.{Left as LeftLink}
use Rattle.pc_model.specs.Map.{IsKey}
use Rattle.pc_model.specs.Cells.{node_at}
use Rattle.pc_model.specs.Debts.{has}
use Rattle.pc_plan.specs.declared.plan.Ask.{Ask}
use Rattle.pc_plan.specs.declared.plan.Ask.TheVariants.{Visit as AskVisit}
use Rattle.pc_plan.specs.declared.plan.Told.{Told}
use Rattle.pc_plan.specs.declared.plan.Told.TheVariants.{Begin, Version, Number}
use Rattle.pc_plan.specs.declared.walk.Above.{Above}
use Rattle.pc_plan.specs.declared.walk.Walk.{Walk}
use Rattle.pc_plan.specs.declared.walk.Step.{Step}
use Rattle.pc_plan.specs.declared.walk.Step.TheVariants.{Visit, Read, Here, Missing, Astray}
use Rattle.pc_plan.specs.EndLaws.{HasNoFresh, WantsNoSlot}
use Rattle.pc_plan.specs.Walks.{walk_step}
use Rattle.pc_plan.proofs.Quiets.{asks_by_steps}
use Rattle.pc_avl.specs.declared.remove.Heir.{Heir}
use Rattle.pc_avl.specs.declared.remove.Leaving.{Leaving}
use Rattle.pc_avl.specs.declared.remove.Leaving.TheVariants.{Target, Next as Successor}
use Rattle.pc_avl.specs.declared.remove.RemovePhase.{RemovePhase}
use Rattle.pc_avl.specs.declared.remove.RemovePhase.TheVariants.{Walking, ReadingLeft, ReadingRight, ReadingValue}
use Rattle.pc_avl.specs.declared.remove.RemovePhase.TheVariants.{Visiting, ReadingNext, ReadingNextKey}
use Rattle.pc_avl.specs.declared.remove.RemovePhase.TheVariants.{ReadingNextValue, ReadingNextRight, Ended}
use Rattle.pc_avl.specs.declared.remove.RemovePhase.TheVariants.{VisitingHeir, ReadingParent}
use Rattle.pc_avl.specs.declared.remove.AvlRemove.{AvlRemove}
use Rattle.pc_avl.specs.Removes.{remove_of, with_walk, with_value, remove_reads, remove_gives_up, visiting_below}
use Rattle.pc_avl.specs.Removes.{in_phase, removal, remove_ends, going_below, visiting_heir, unlinking, chosen, lifting}
use Rattle.pc_avl.specs.Removes.{following, remove_passes, remove_walked, remove_told, remove_moves}

abbrev IsSpare : AvlRemove × Ask → Type 0
IsSpare s = HasNoFresh s.1

removal_spare : (r : AvlRemove) (leaving : Leaving) (heir : Option Heir)
    → IsSpare (remove_ends r (removal r leaving heir))
removal_spare r Target heir = refl
removal_spare r Successor heir = refl

going_spare : (r : AvlRemove) (a : Above) (above_key n : ℕ) → IsSpare (going_below r a above_key n)
going_spare r a above_key n = cond_both (has n (r.walk.node ∷ a.node ∷ [])) (remove_gives_up r)
    (visiting_below r a above_key n, AskVisit n) IsSpare (λ _. tt) (λ _. tt)

visiting_spare : (r : AvlRemove) (leaving : Leaving) (n : ℕ) (met : List ℕ) → IsSpare (visiting_heir r leaving n met)
visiting_spare r leaving n met = cond_both (has n met) (remove_gives_up r)
    (in_phase r (VisitingHeir leaving n), AskVisit n) IsSpare (λ _. tt) (λ _. tt)

unlinking_spare : (r : AvlRemove) (heir : Option ℕ) → IsSpare (unlinking r heir)
unlinking_spare r None = refl
unlinking_spare r (Some n) = visiting_spare r Target n (r.walk.node ∷ r.walk.above.node ∷ [])

lifting_spare : (r : AvlRemove) (heir : Option ℕ) → IsSpare (lifting r heir)
lifting_spare r None = refl
lifting_spare r (Some n) = visiting_spare r Successor n (r.walk.node ∷ r.next.node ∷ r.next.above.node ∷ [])

chosen_spare : (r : AvlRemove) (left right : Option ℕ) → IsSpare (chosen r left right)
chosen_spare r None right = unlinking_spare r right
chosen_spare r (Some l) None = visiting_spare r Target l (r.walk.node ∷ r.walk.above.node ∷ [])
chosen_spare r (Some l) (Some n) = going_spare r _ _ n

following_spare : (r : AvlRemove) (o : Option ℕ) → IsSpare (following r o)
following_spare r None = tt
following_spare r (Some n) = going_spare r _ _ n

walked_spare : (r : AvlRemove) (w : Walk) (s : Step) → IsSpare (remove_walked r w s)
walked_spare r w (Visit n) = tt
walked_spare r w (Read n f) = tt
walked_spare r w (Here x) = cond_both (x == w.key) (remove_reads (with_walk r w) ReadingLeft w.node LeftLink)
    (remove_passes r w x) IsSpare (λ _. tt) (λ _. tt)
walked_spare r w (Missing s link) = tt
walked_spare r w Astray = tt

told_spare : (r : AvlRemove) (phase : RemovePhase) (t : Told) → IsSpare (remove_told r phase t)
told_spare r Walking t = walked_spare r (walk_step r.walk t).0 (walk_step r.walk t).1
told_spare r ReadingLeft Begin = tt
told_spare r ReadingLeft (Version v) = tt
told_spare r ReadingLeft (Number x) = tt
told_spare r ReadingRight Begin = tt
told_spare r ReadingRight (Version v) = tt
told_spare r ReadingRight (Number x) = tt
told_spare r ReadingValue Begin = tt
told_spare r ReadingValue (Version v) = tt
told_spare r ReadingValue (Number x) = chosen_spare (with_value r x) (node_at r.left) (node_at r.right)
told_spare r Visiting Begin = tt
told_spare r Visiting (Version v) = tt
told_spare r Visiting (Number x) = tt
told_spare r ReadingNextKey Begin = tt
told_spare r ReadingNextKey (Version v) = tt
told_spare r ReadingNextKey (Number x) = tt
told_spare r ReadingNext Begin = tt
told_spare r ReadingNext (Version v) = tt
told_spare r ReadingNext (Number x) = following_spare r (node_at x)
told_spare r ReadingNextValue Begin = tt
told_spare r ReadingNextValue (Version v) = tt
told_spare r ReadingNextValue (Number x) = tt
told_spare r ReadingNextRight Begin = tt
told_spare r ReadingNextRight (Version v) = tt
told_spare r ReadingNextRight (Number x) = lifting_spare r (node_at x)
told_spare r (VisitingHeir leaving n) Begin = tt
told_spare r (VisitingHeir leaving n) (Version v) = tt
told_spare r (VisitingHeir leaving n) (Number x) = tt
told_spare r (ReadingParent leaving n w) Begin = tt
told_spare r (ReadingParent leaving n w) (Version v) = tt
told_spare r (ReadingParent leaving n w) (Number x) = removal_spare r leaving _
told_spare r Ended Begin = tt
told_spare r Ended (Version v) = tt
told_spare r Ended (Number x) = tt

pub remove_wants_no_slot : WantsNoSlot remove_of remove_moves IsKey
remove_wants_no_slot k ts key =
    asks_by_steps remove_of remove_moves HasNoFresh (λ r t. told_spare r r.phase t) k ts
