-- What a pass knows of its own exchange as it ends it.
use Rattle.std.proofs.Common.{◌≡◌, ℕ, ◌+◌, ◌-◌, ◌<◌, ◌≤◌, List, [], ◌∷◌, length, map, refl, sym, ap, ap₂, ◌∙◌, subst, inl, inr, ⊎_elim, arith}
use Rattle.pc_model.specs.Exchanges.{Visited, Exchange}
use Rattle.pc_history.specs.Footprints.{IsAmong}
use Rattle.pc_words.specs.declared.status.Stage.{Stage as StatusStage}
use Rattle.pc_words.specs.declared.status.Stage.TheVariants.{Idle, Undecided, Succeeded, Withdrawn, Changed, Locked}
use Rattle.pc_words.specs.declared.status.Status.{Status}
use Rattle.pc_rule_law.specs.Board.{place_number}
use Rattle.pc_rule_law.specs.Past.{Has}
use Rattle.pc_rule_law.proofs.Lists.{below_length}
use Rattle.pc_rule_law.specs.Stages.{IsIdle, IsOpen, decided_from, decided_by}
use Rattle.pc_rule_law.specs.Views.{View, decided_below}
use Rattle.pc_rule_law.proofs.Lists.{has_right}
use Rattle.pc_protocol.specs.Histories.{Cause, withdrawn, ended, changed, locked, Stage, committed, aborted}
use Rattle.pc_protocol.specs.Notes.{Note, clock_was, outdated, published, verdict}
use Rattle.pc_exchange_law.specs.OwnSlots.{made_by}
use Rattle.pc_protocol.specs.Seeing.{Covers}
use Rattle.pc_exchange_law.proofs.ChangeLists.{among_has}
use Rattle.pc_exchange_law.specs.Ties.{code, exchange_of, last_stamp, IsStageOf}
use Rattle.pc_exchange_law.specs.WholePlays.{after_clear}
use Rattle.pc_exchange_law.specs.Wholes.{Whole}
use Rattle.pc_rule.specs.Attempts.{AgreeOnAttempt}
use Rattle.pc_rule.specs.declared.opening.Place.{Place}
use Rattle.pc_rule.specs.declared.refs.Ref.{Ref}
use Rattle.pc_rule.specs.Starting.{change_of}
use Rattle.pc_dcss.specs.Installs.{IsDecided}
use Rattle.pc_dcss.proofs.Staying.{adds_then}
use Rattle.pc_kcas.specs.declared.verdict.Verdict.{Verdict}
use Rattle.pc_kcas.specs.declared.verdict.Verdict.TheVariants.{Won, Changed as ChangedSo, Locked as LockedSo, Blocked, Numbers}
use Rattle.pc_rule.specs.Deciding.{took_effect}
use Rattle.pc_kcas.specs.Clearing.{says_success, KnowsOutcome, HasCleared}
use Rattle.pc_kcas.specs.Exchanges.{visit_count, CoversNode, HasPublished, KnowsOwn, attempt_with}
use Rattle.pc_kcas.specs.Settling.{HasLearnt, HasLearntOrWithdrawn, OwnsPublished, StandsAt, IsSettled, TellsFailure}
use Rattle.pc_kcas.specs.Verdicts.{KnowsFailed, KnowsRival, KnowsWhy, HasEnded, EndedSo, IsReason, answer_by}

-- an undecided attempt is none of those that are decided
open_from : (k : ℕ) (st : StatusStage) → IsOpen st → decided_from k st ≡ k
open_from k Idle o = absurd o
open_from k Undecided o = refl
open_from k (Succeeded t) o = absurd o
open_from k Withdrawn o = absurd o
open_from k (Changed n) o = absurd o
open_from k (Locked n q) o = absurd o

owns : (v : View) (places : List Place) → HasPublished v places → OwnsPublished v
owns v places has = (has.published, has.none_posted, has.number)

-- a stage and what it says of whether the attempt took effect
pub success_is : (s : StatusStage) (st : Stage) → IsStageOf s st → (IsIdle s → ⊥) → says_success s ≡ took_effect st
success_is Idle st is busy = absurd (busy tt)
success_is Undecided st is busy = sym (ap took_effect is)
success_is (Succeeded t) st is busy = sym (ap took_effect is)
success_is Withdrawn st is busy = ⊎_elim (λ e. sym (ap took_effect e)) (λ e. sym (ap took_effect e)) is
success_is (Changed n) st is busy = sym (ap took_effect is)
success_is (Locked n q) st is busy = sym (ap took_effect is)

-- a status that settles the own published attempt tells whether it took effect
pub outcome_known : (x : Whole) (places : List Place) (s : Status) → HasPublished x.view places → IsSettled x x.view.seat x.view.attempt.number s
    → KnowsOutcome x (says_success s.stage)
unfolding owns success_is
outcome_known x places s has settled = let o = settled.stands.own refl refl (owns x.view places has) in
    let v = settled.stands.decided o.1 (settled.over o.0) in
    (v.0, subst (λ (n : ℕ). Has x.knows.told (verdict (code x.view.seat n) v.0)) o.0 v.2, success_is s.stage v.0 v.1 o.1)

-- an attempt that was cleared has ended
pub cleared_ended : (x y : Whole) → HasCleared x y → HasEnded x y
cleared_ended x y c = let b : Whole = c.0 in let l : HasLearntOrWithdrawn x b = c.1 in subst (HasEnded x) (sym c.4) record {
  view = ap (λ (v : View). after_clear v) l.view.same;
  adds = l.view.adds;
  noted = l.noted;
  told = λ n h. has_right (made_by c.2 b.knows.slots.named b.knows.slots.spare) b.knows.told n (l.told n h);
}

-- what was learnt before an exchange ended
pub ended_after : (x y z : Whole) → HasLearnt x y → HasEnded y z → HasEnded x z
ended_after x y z l e = record {
  view = e.view ∙ ap (λ (v : View). record (after_clear v) { notes = z.view.notes }) l.view.same;
  adds = adds_then x.view y.view z.view l.view.adds e.adds;
  noted = λ n h. e.noted n (l.noted n h);
  told = λ n h. e.told n (l.told n h);
}

pub ended_withdrawn : (x y z : Whole) → HasLearntOrWithdrawn x y → HasEnded y z → HasEnded x z
ended_withdrawn x y z l e = record {
  view = e.view ∙ ap (λ (v : View). record (after_clear v) { notes = z.view.notes }) l.view.same;
  adds = adds_then x.view y.view z.view l.view.adds e.adds;
  noted = λ n h. e.noted n (l.noted n h);
  told = λ n h. e.told n (l.told n h);
}

-- how an exchange ended that was decided as a status says
module _ (y z : Whole) (places : List Place) (s : Status) (clock : ℕ) (has : HasPublished y.view places) (why : KnowsWhy y s) (ended' : HasEnded y z)
    (was : Has z.knows.told (clock_was clock)) (last : (x : ℕ) → Has y.knows.told (verdict x (aborted ended)) → last_stamp ≤ clock)
    (covers : (x n c : ℕ) (e : Exchange) → Has y.knows.told (outdated x n) → Has y.knows.told (published x e c) → (v : ℕ) × Covers e n v) (X : Ref → Ref → Type 0) where
  at_seat : y.view.seat ≡ z.view.seat
  at_seat = sym (ap (λ (v : View). v.seat) ended'.view)

  at_number : y.view.attempt.number ≡ z.view.attempt.number
  at_number = sym (ap (λ (v : View). v.attempt.number) ended'.view)

  -- a note of the own attempt is one still
  told_still : (note : ℕ → Note) → Has y.knows.told (note (code y.view.seat y.view.attempt.number)) → Has z.knows.told (note (code z.view.seat z.view.attempt.number))
  unfolding at_seat at_number
  told_still note h = subst (λ (p : ℕ). Has z.knows.told (note (code p z.view.attempt.number))) at_seat
      (subst (λ (a : ℕ). Has z.knows.told (note (code y.view.seat a))) at_number (ended'.told _ h))

  -- the descriptor stays
  same_cover : {n : ℕ} → CoversNode y.view n → CoversNode (record (after_clear y.view) { notes = z.view.notes }) n
  same_cover h = h

  own_status : (s.number ≡ y.view.attempt.number) × (IsIdle s.stage → ⊥)
  unfolding owns
  own_status = why.settled.stands.own refl refl (owns y.view places has)

  -- the own exchange was decided so
  own_verdict : (st : Stage) → Has y.knows.told (verdict (code y.view.seat s.number) st) → Has z.knows.told (verdict (code z.view.seat z.view.attempt.number) st)
  unfolding told_still own_status
  own_verdict st h = told_still (λ x. verdict x st) (subst (λ (a : ℕ). Has y.knows.told (verdict (code y.view.seat a) st)) own_status.0 h)

  failed_by : (st : Stage) (cause : Cause) → st ≡ aborted cause → Has y.knows.told (verdict (code y.view.seat s.number) st) → KnowsFailed z z.view.attempt.number cause
  unfolding own_verdict
  failed_by st cause e h = subst (λ (t : Stage). Has z.knows.told (verdict (code z.view.seat z.view.attempt.number) t)) e (own_verdict st h)

  so_at : (st : StatusStage) → s.stage ≡ st → EndedSo z z.view.attempt.number (answer_by st clock) X
  unfolding told_still own_status own_verdict failed_by same_cover
  so_at Idle is = absurd (own_status.1 (subst IsIdle (sym is) tt))
  so_at Undecided is = absurd (why.settled.over own_status.0 (subst IsOpen (sym is) tt))
  so_at (Succeeded t) is = let v = why.settled.stands.decided own_status.1 (why.settled.over own_status.0) in
      let e : v.0 ≡ committed t = subst (λ (st : StatusStage). IsStageOf st v.0) is v.1 in
      own_verdict (committed t) (subst (λ (st : Stage). Has y.knows.told (verdict (code y.view.seat s.number) st)) e v.2)
  so_at Withdrawn is = (inr (told_still (λ x. verdict x (aborted ended)) (why.ended is)), inr (refl, was, last _ (why.ended is)))
  so_at (Changed n) is = let v = why.settled.stands.decided own_status.1 (why.settled.over own_status.0) in (
    failed_by v.0 (changed n) (subst (λ (st : StatusStage). IsStageOf st v.0) is v.1) v.2,
    told_still (λ x. outdated x n) (why.changed n is),
    (let e = why.own in let v = covers _ n e.1 e.0 (why.changed n is) e.2 in subst (λ (u : View). CoversNode u n) (sym ended'.view) (same_cover (e.3 n v.0 v.1))),
  )
  so_at (Locked n q) is = let v = why.settled.stands.decided own_status.1 (why.settled.over own_status.0) in
      let r = why.locked n q is in let back : q ≡ (q + 1) - 1 = omega arith in (
        subst (λ (by : ℕ). KnowsFailed z z.view.attempt.number (locked n by)) back (failed_by v.0 (locked n q) (subst (λ (st : StatusStage). IsStageOf st v.0) is v.1) v.2),
        omega arith,
        subst (λ (by : ℕ). KnowsRival z z.view.attempt.number n by) back record {
          exchange = r.0.exchange;
          clock = r.0.clock;
          noted = told_still (λ x. published x r.0.exchange r.0.clock) r.0.noted;
          visit = r.0.visit;
          other = (λ same. r.0.other (same ∙ ap (λ (v : View). v.seat) ended'.view));
          rival = ended'.told _ r.0.rival;
        },
        subst (λ (c : ℕ). 0 < c) (sym (ap visit_count ended'.view)) r.1,
      )

  pub ended_so : EndedSo z z.view.attempt.number (answer_by s.stage clock) X
  unfolding so_at
  ended_so = so_at s.stage refl

-- it ended for the reason for which it was withdrawn
pub reason_so : (y z : Whole) (r : Verdict) → IsReason y r → z.view.install.number ≡ y.view.install.number → KnowsFailed z z.view.attempt.number withdrawn
    → EndedSo z z.view.attempt.number r (λ first second. r ≡ Blocked first second)
reason_so y z (Won s) is same failed = absurd is
reason_so y z (ChangedSo n) is same failed = absurd is
reason_so y z (LockedSo n by) is same failed = absurd is
reason_so y z (Blocked first second) is same failed = (failed, refl)
reason_so y z (Numbers n) is same failed = (inl failed, inl (is.0, is.1 ∙ sym same, is.2))

-- what was noted of the own attempt before it was withdrawn, and before it was cleared
pub own_withdrawn : (x y : Whole) (st : Stage) → HasLearntOrWithdrawn x y → Has y.knows.told (verdict (code x.view.seat x.view.attempt.number) st)
    → Has y.knows.told (verdict (code y.view.seat y.view.attempt.number) st)
own_withdrawn x y st l h = subst (λ (p : ℕ). Has y.knows.told (verdict (code p y.view.attempt.number) st)) (sym (ap (λ (v : View). v.seat) l.view.same))
    (subst (λ (a : ℕ). Has y.knows.told (verdict (code x.view.seat a) st)) (sym (ap (λ (v : View). v.attempt.number) l.view.same)) h)

pub own_noted : (x z : Whole) (st : Stage) → HasEnded x z → Has x.knows.told (verdict (code x.view.seat x.view.attempt.number) st)
    → Has z.knows.told (verdict (code z.view.seat z.view.attempt.number) st)
own_noted x z st e h = subst (λ (p : ℕ). Has z.knows.told (verdict (code p z.view.attempt.number) st)) (sym (ap (λ (v : View). v.seat) e.view))
    (subst (λ (a : ℕ). Has z.knows.told (verdict (code x.view.seat a) st)) (sym (ap (λ (v : View). v.attempt.number) e.view)) (e.told _ h))

-- what the exchange covers is covered by its descriptor
covers_node : (x : Whole) (places : List Place) (own : KnowsOwn x places) (n v : ℕ) → Covers (exchange_of (attempt_with 0 own.visits own.reads (map change_of places))) n v
    → CoversNode x.view n
covers_node x places own n v (inl visits) = let h = among_has own.visits visits.visit visits.among in let d = own.describes.each_visit h.0 visits.visit h.1 in
    let lt = below_length own.visits h.0 visits.visit h.1 in
    inr (h.0, subst (λ (k : ℕ). h.0 < k) (sym own.describes.visits) lt, d.0 ∙ visits.node)
covers_node x places own n v (inr changes) = let h = among_has (map change_of places) changes.change changes.among in
    let d = own.describes.each_change h.0 changes.change h.1 in let lt = below_length (map change_of places) h.0 changes.change h.1 in
    inl (h.0, subst (λ (k : ℕ). h.0 < k) (sym own.describes.changes) lt, d.0 ∙ ap₂ place_number changes.is_of.0 changes.is_of.1)

-- a list with an element isn't empty
some_among : (visits : List Visited) (u : Visited) → IsAmong u visits → 0 < length visits
some_among [] u among = absurd among
some_among (v ∷ visits) u among = omega arith

-- a pass knows why its own exchange was decided as a status says, which it found or put
pub why_ended : (x y : Whole) (places : List Place) (p a : ℕ) (s : Status) → p ≡ x.view.seat → a ≡ x.view.attempt.number → HasPublished x.view places → KnowsOwn x places
    → AgreeOnAttempt x → HasLearnt x y → IsSettled y p a s → TellsFailure x y p s → KnowsWhy y s
unfolding owns some_among covers_node
why_ended x y places p a s at is has own agree l settled fails =
    let v = l.view.same in let at_y : p ≡ y.view.seat = at ∙ sym (ap (λ (u : View). u.seat) v) in let is_y : a ≡ y.view.attempt.number = is ∙ sym (ap (λ (u : View). u.attempt.number) v) in
    let owned : OwnsPublished y.view = subst OwnsPublished (sym v) (owns x.view places has) in
    let number : s.number ≡ a = (settled.stands.own at_y is_y owned).0 in
    let codes : code p s.number ≡ code y.view.seat y.view.attempt.number = ap₂ (λ (q b : ℕ). code q b) at_y (number ∙ is_y) in
    let own_codes : code x.view.seat x.view.attempt.number ≡ code p s.number = ap₂ (λ (q b : ℕ). code q b) (sym at) (sym (number ∙ is)) in record {
      own = (
        exchange_of (attempt_with 0 own.visits own.reads (map change_of places)),
        own.noted.0,
        subst (λ (c : ℕ). Has y.knows.told (published c (exchange_of (attempt_with 0 own.visits own.reads (map change_of places))) own.noted.0)) (own_codes ∙ codes) (l.told _ own.noted.1),
        λ n u covers. subst (λ (w : View). CoversNode w n) (sym v) (covers_node x places own n u covers),
      );
      settled = subst (λ (q : ℕ). IsSettled y q y.view.attempt.number s) at_y (subst (λ (b : ℕ). IsSettled y p b s) is_y settled);
      changed = λ n e. subst (λ (c : ℕ). Has y.knows.told (outdated c n)) codes (fails.changed n e);
      locked = λ n q e. let r = fails.locked n q e in let e' = exchange_of (attempt_with 0 own.visits own.reads (map change_of places)) in
          let o = r.of e' own.noted.0 (subst (λ (c : ℕ). Has x.knows.told (published c e' own.noted.0)) own_codes own.noted.1) in (
            record {
              exchange = e';
              clock = r.clock;
              noted = subst (λ (t : ℕ). Has y.knows.told (published (code y.view.seat y.view.attempt.number) e' t)) o.0
                  (subst (λ (c : ℕ). Has y.knows.told (published c e' own.noted.0)) (own_codes ∙ codes) (l.told _ own.noted.1));
              visit = o.1;
              other = (λ same. r.other (same ∙ sym at_y));
              rival = r.rival;
            },
            subst (λ (c : ℕ). 0 < c) (sym (ap visit_count v ∙ own.describes.visits)) (some_among own.visits o.1.1.visit o.1.1.among),
          );
      ended = λ e. subst (λ (c : ℕ). Has y.knows.told (verdict c (aborted ended))) codes
          (fails.ended e at (number ∙ (is ∙ sym agree.number)) own.not_withdrawn);
    }

-- a status of the own attempt, which is known to be decided, doesn't say that it is undecided
pub decided_settled : (x y : Whole) (p a : ℕ) (s : Status) → StandsAt y p a s → IsDecided x.view p a → ((m : ℕ) → Has x.view.notes (decided_below p m) → m ≤ decided_by s) → IsSettled y p a s
unfolding open_from
decided_settled x y p a s stands decided below = record {
  stands = stands;
  over = λ number pending. let m = below decided.0 decided.1 in let e = open_from s.number s.stage pending in let lt = decided.2 in omega arith;
}
