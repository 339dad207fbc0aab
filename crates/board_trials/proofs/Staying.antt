-- No install stands of a pass after steps that leave its own.
use Rattle.std.proofs.Common.{◌≡◌, ℕ, ◌+◌, [], ◌∷◌, refl, sym, ap, subst, inl, inr, ⊎_elim}
use mathlib.Core.Logic.{dite}
use native.Mathlib.Decide.{ℕ_discrete}
use Rattle.pc_rule_law.specs.Conditions.{IsFree}
use Rattle.pc_rule_law.specs.Plays.{IsLater}
use Rattle.pc_rule_law.specs.Past.{Has}
use Rattle.pc_rule_law.proofs.Lists.{has_later, has_right}
use Rattle.pc_protocol.specs.Histories.{Stage}
use Rattle.pc_protocol.specs.Notes.{Note, verdict}
use Rattle.pc_exchange_law.specs.Knowing.{outdated_by, after_decision}
use Rattle.pc_rule_law.specs.Views.{removed, decided_below, View}
use Rattle.pc_exchange_law.specs.WholePlays.{StatusTried, after_decided}
use Rattle.pc_exchange_law.specs.Passes.{PassKnows}
use Rattle.pc_exchange_law.specs.Wholes.{Whole}

pub free_later : (v w : View) → IsLater v w → IsFree v → IsFree w
free_later v w l free = subst IsFree (sym l.same) (⊎_elim (λ fresh. inl fresh)
    (λ gone. inr (l.more (removed v.seat v.install.number) gone)) free)

-- after a compare_exchange of a status that decides an attempt, whether it hits or not
pub later_tried : (x : Whole) (p old r q a : ℕ) (k : PassKnows) (y : Whole) → StatusTried x p old r (λ z. z ≡ record x { view = after_decided x.view q a; knows = k }) y
    → IsLater x.view y.view
later_tried x p old r q a k y s = dite (ℕ_discrete r old)
    (λ e. subst (λ (z : Whole). IsLater x.view z.view) (sym (s.hit e)) record {
      same = refl;
      adds = (decided_below q (a + 1) ∷ [], refl);
      more = λ n h. has_later (decided_below q (a + 1)) x.view.notes n h;
    })
    (λ ne. (s.miss ne).1.later)

-- and what is known beside
pub tried_known : (x : Whole) (p old r q a n : ℕ) (st : Stage) (y : Whole)
    → StatusTried x p old r (λ z. z ≡ record x { view = after_decided x.view q a; knows = after_decision x.knows n st }) y
    → (y.knows.own ≡ x.knows.own) × ((m : Note) → Has x.knows.told m → Has y.knows.told m)
tried_known x p old r q a n st y s = dite (ℕ_discrete r old)
    (λ e. (
      ap (λ (z : Whole). z.knows.own) (s.hit e),
      λ m h. subst (λ (z : Whole). Has z.knows.told m) (sym (s.hit e)) (has_right (verdict n st ∷ outdated_by n st) x.knows.told m h),
    ))
    (λ ne. let l = (s.miss ne).2.learns in (l.own, l.told))
