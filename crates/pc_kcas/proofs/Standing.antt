-- What is known of an attempt by a status, found or put.
use Rattle.std.proofs.Common.{◌≡◌, ◌≢◌, ℕ, ◌^◌, ◌<◌, refl, sym, ap, ◌∙◌, subst, inl, inr, ⊎_elim, arith}
use Rattle.pc_words.specs.declared.status.Stage.{Stage as StatusStage}
use Rattle.pc_words.specs.declared.status.Stage.TheVariants.{Idle, Undecided, Succeeded, Withdrawn, Changed as ChangedNode, Locked}
use Rattle.pc_words.specs.declared.status.Status.{Status}
use Rattle.pc_words.specs.Statuses.{packed, unpacked, IsStatus, StageInRange}
use Rattle.pc_words.proofs.Statuses.{packed_unpacked}
use Rattle.pc_rule_law.specs.Board.{Size}
use Rattle.pc_rule_law.specs.Past.{Has}
use Rattle.pc_rule_law.specs.Stages.{IsIdle, IsOpen}
use Rattle.pc_rule_law.specs.Views.{View, OwnAttempt, IsAttempt}
use Rattle.pc_rule_law.specs.Plays.{StatusLoaded}
use Rattle.pc_protocol.specs.Histories.{Stage, ended, changed}
use Rattle.pc_protocol.specs.Notes.{verdict}
use Rattle.pc_exchange_law.specs.ExchangeConditions.{was_told}
use Rattle.pc_exchange_law.specs.Knowing.{StatusSeen}
use Rattle.pc_exchange_law.specs.Ties.{code, IsStageOf}
use Rattle.pc_exchange_law.specs.WholePlays.{verdict_by}
use Rattle.pc_exchange_law.specs.Wholes.{Whole}
use Rattle.pc_rule.specs.Deciding.{MayDecide}
use Rattle.pc_kcas.specs.Settling.{HasLearnt, KnowsOf, StandsAt, IsSettled, MaySettle}

-- a status that was loaded
pub stands_seen : (x y : Whole) (p a : ℕ) (s : Status) → KnowsOf x.view p a → StatusLoaded x.view p s y.view → StatusSeen x.knows p s y.knows
    → StandsAt y p a s
stands_seen x y p a s known told seen = let w = told.later.same in record {
  reached = ⊎_elim (λ met. told.held_below a met.0 met.1 met.2) (λ own. let e = (told.own own.0 own.1).0 in let f = own.2 in omega arith) known;
  decided = seen.decided;
  own = λ at is owns. let t : y.view.attempt ≡ x.view.attempt = ap (λ (v : View). v.attempt) w in
      let o = told.own (at ∙ ap (λ (v : View). v.seat) w) (sym (ap (λ (v : View). v.posted) w) ∙ owns.1) in
      (o.0 ∙ sym (is ∙ ap (λ (u : OwnAttempt). u.number) t), o.2 (sym (ap (λ (u : OwnAttempt). u.published) t) ∙ owns.0));
}

-- and it is known still, when the pass has learnt more
pub stands_still : (y z : Whole) (p a : ℕ) (s : Status) → HasLearnt y z → StandsAt y p a s → StandsAt z p a s
stands_still y z p a s l h = let w = l.view.same in let t : z.view.attempt ≡ y.view.attempt = ap (λ (v : View). v.attempt) w in record {
  reached = h.reached;
  decided = λ i o. let v = h.decided i o in (v.0, v.1, l.told _ v.2);
  own = λ at is owns. h.own (at ∙ ap (λ (v : View). v.seat) w) (is ∙ ap (λ (u : OwnAttempt). u.number) t) (
    sym (ap (λ (u : OwnAttempt). u.published) t) ∙ owns.0,
    sym (ap (λ (v : View). v.posted) w) ∙ owns.1,
    subst (λ (u : OwnAttempt). u.number < 2 ^ 28) t owns.2,
  );
}

pub settled_still : (y z : Whole) (p a : ℕ) (s : Status) → HasLearnt y z → IsSettled y p a s → IsSettled z p a s
unfolding stands_still
settled_still y z p a s l h = record { stands = stands_still y z p a s l h.stands; over = h.over }

open_is : (st : StatusStage) → IsOpen st → st ≡ Undecided
open_is Idle o = absurd o
open_is Undecided o = refl
open_is (Succeeded s) o = absurd o
open_is Withdrawn o = absurd o
open_is (ChangedNode n) o = absurd o
open_is (Locked n q) o = absurd o

-- a status that isn't that of the undecided attempt
pub not_undecided : (r a : ℕ) → IsStatus r → r ≢ packed (record { number = a; stage = Undecided }) → (unpacked r).number ≡ a → IsOpen (unpacked r).stage → ⊥
unfolding open_is
not_undecided r a word other at pending = other (sym (packed_unpacked r word)
    ∙ (ap (λ (n : ℕ). packed (record { number = n; stage = (unpacked r).stage })) at
    ∙ ap (λ (st : StatusStage). packed (record { number = a; stage = st })) (open_is (unpacked r).stage pending)))

says : (st : StatusStage) → (IsIdle st → ⊥) → (IsOpen st → ⊥) → IsStageOf st (verdict_by st)
says Idle i o = absurd (i tt)
says Undecided i o = absurd (o tt)
says (Succeeded s) i o = refl
says Withdrawn i o = inr refl
says (ChangedNode n) i o = refl
says (Locked n q) i o = refl

-- a status that was put
pub settled_as : (y : Whole) (p a : ℕ) (st : StatusStage) (v : Stage) → (IsIdle st → ⊥) → (IsOpen st → ⊥) → IsStageOf st v
    → Has y.knows.told (verdict (code p a) v) → IsSettled y p a (record { number = a; stage = st })
settled_as y p a st v idle pending is has = record {
  stands = record {
    reached = omega arith;
    decided = λ _ _. (v, is, has);
    own = λ _ _ _. (refl, idle);
  };
  over = λ _. pending;
}

pub settled_by : (y : Whole) (p a : ℕ) (st : StatusStage) → (IsIdle st → ⊥) → (IsOpen st → ⊥)
    → Has y.knows.told (verdict (code p a) (verdict_by st)) → IsSettled y p a (record { number = a; stage = st })
unfolding says settled_as
settled_by y p a st idle pending has = settled_as y p a st (verdict_by st) idle pending (says st idle pending) has

pub settles_idle : (x : Whole) (p a : ℕ) (st : StatusStage) → MaySettle x p a st → IsIdle st → ⊥
settles_idle x p a Idle may i = may
settles_idle x p a Undecided may i = may
settles_idle x p a (Succeeded s) may i = i
settles_idle x p a Withdrawn may i = i
settles_idle x p a (ChangedNode n) may i = i
settles_idle x p a (Locked n q) may i = i

pub settles_open : (x : Whole) (p a : ℕ) (st : StatusStage) → MaySettle x p a st → IsOpen st → ⊥
settles_open x p a Idle may o = may
settles_open x p a Undecided may o = may
settles_open x p a (Succeeded s) may o = o
settles_open x p a Withdrawn may o = o
settles_open x p a (ChangedNode n) may o = o
settles_open x p a (Locked n q) may o = o

-- what a pass may settle it may decide
pub may_decide : (z : Size) (x : Whole) (p a : ℕ) (st : StatusStage) (old new : ℕ) → old ≡ packed (record { number = a; stage = Undecided })
    → new ≡ packed (record { number = a; stage = st }) → IsAttempt z p a → StageInRange st → MaySettle x p a st → MayDecide z x p old new
may_decide z x p a Idle old new o n at fits may = absurd may
may_decide z x p a Undecided old new o n at fits may = absurd may
may_decide z x p a (Succeeded s) old new o n at fits may = (a, o, at, inl (s, n, may))
may_decide z x p a Withdrawn old new o n at fits may = (a, o, at, inr (ended, n, tt, may))
may_decide z x p a (ChangedNode m) old new o n at fits may = (a, o, at, inr (changed m, n, fits, was_told may))
may_decide z x p a (Locked m q) old new o n at fits may = absurd may
