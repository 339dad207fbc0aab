-- How a plan's law on sound cells is proved: the course that the plan takes on cells that stand still,
-- step by step with a bound on its turns, decides every trace that agrees with the cells. What is wanted of
-- its end is a parameter.
use Rattle.std.proofs.Common.{◌≡◌, ℕ, zero, suc, ◌*◌, ◌+◌, ◌≤◌, ◌<◌, ◌⊎◌, List, [], ◌∷◌, length, None, subst, arith}
use Rattle.std.specs.Prelude.{IsTrue, map}
use Rattle.pc_model.specs.declared.cell.Field.TheVariants.{Version as VersionField}
use Rattle.pc_model.specs.Map.{Pairs}
use Rattle.pc_model.specs.Cells.{Cells, IsEven, IsNode}
use Rattle.pc_model.specs.Debts.{has}
use Rattle.pc_model.specs.Exchanges.{VisitsStand, ReadsStand, ChangesStand, FreshStands, applied}
use Rattle.pc_model.specs.Forms.{Form}
use Rattle.pc_plan.specs.declared.plan.Ask.{Ask}
use Rattle.pc_plan.specs.declared.plan.Ask.TheVariants.{Visit, Read, Change, Answer}
use Rattle.pc_plan.specs.declared.plan.Told.{Told}
use Rattle.pc_plan.specs.declared.plan.Told.TheVariants.{Begin, Version, Number}
use Rattle.pc_plan.specs.EndLaws.{IsAnswer, IsChange, EndsInChange, EndsInAnswer}
use Rattle.pc_plan.specs.Planned.{Planned}
use Rattle.pc_plan.specs.Terms.{Terms, IsReply}
use Rattle.pc_plan.specs.Traces.{Event, visited, found, after, learned_along, Agrees, visits_in, reads_in}
use Rattle.pc_plan.specs.Traces.{version_seen}
use Rattle.pc_plan.specs.Runs.{change_at, fresh_at, exchange_of, Takes, SettlesIn, IsRightChange, IsRightAsk, IsReady}
use Rattle.pc_plan.specs.Runs.{Runs, reached, past_of, AgreesWith}

-- the cells have all that was learned
abbrev pub PastHolds : Cells → List Event → Type 0
PastHolds c [] = Unit {0}
PastHolds c (visited n v ∷ past) = ((c n VersionField ≡ v) × IsEven v) × PastHolds c past
PastHolds c (found n f x ∷ past) = (c n f ≡ x) × PastHolds c past

pub visits_stand : (c : Cells) (past : List Event) → PastHolds c past → VisitsStand c (visits_in past)
visits_stand c [] h = tt
visits_stand c (visited n v ∷ past) h = (h.0, visits_stand c past h.1)
visits_stand c (found n f x ∷ past) h = visits_stand c past h.1

pub reads_stand : (c : Cells) (past : List Event) → PastHolds c past → ReadsStand c (reads_in past)
reads_stand c [] h = tt
reads_stand c (visited n v ∷ past) h = reads_stand c past h.1
reads_stand c (found n f x ∷ past) h = (h.0, reads_stand c past h.1)

-- The course of a plan on these cells, at whose end something is wanted of what it learned and asks.
module _ (slots : ℕ) (c : Cells) {P : Type 0} (moves : P → Told → P × Ask) (Wanted : List Event → Ask → Type 0) where
  -- from a state with this ask the plan goes on for at most so many turns, each of them right
  abbrev pub Course : Ask → ℕ → List Event → P → Type 0
  Course (Change p) turns past s = Wanted past (Change p)
  Course (Answer r) turns past s = Wanted past (Answer r)
  Course (Visit n) zero past s = ⊥
  Course (Read n f) zero past s = ⊥
  Course (Visit n) (suc turns) past s =
      (IsNode slots n × IsEven (c n VersionField) × (version_seen n past ≡ None))
      × Course (moves s (Version (c n VersionField))).1 turns (visited n (c n VersionField) ∷ past)
      (moves s (Version (c n VersionField))).0
  Course (Read n f) (suc turns) past s =
      IsNode slots n × Course (moves s (Number (c n f))).1 turns (found n f (c n f) ∷ past)
      (moves s (Number (c n f))).0

  -- with more turns it is as good
  pub more_turns : (m n : ℕ) (a : Ask) (past : List Event) (s : P) → m ≤ n → Course a m past s → Course a n past s
  more_turns m n (Change p) past s le h = h
  more_turns m n (Answer r) past s le h = h
  more_turns zero n (Visit k) past s le h = absurd h
  more_turns zero n (Read k f) past s le h = absurd h
  more_turns (suc m) zero (Visit k) past s le h = absurd (omega arith)
  more_turns (suc m) zero (Read k f) past s le h = absurd (omega arith)
  more_turns (suc m) (suc n) (Visit k) past s le h = (
    h.0,
    more_turns m n (moves s (Version (c k VersionField))).1 (visited k (c k VersionField) ∷ past)
        (moves s (Version (c k VersionField))).0 (omega arith) h.1,
  )
  more_turns (suc m) (suc n) (Read k f) past s le h = (
    h.0,
    more_turns m n (moves s (Number (c k f))).1 (found k f (c k f) ∷ past) (moves s (Number (c k f))).0
        (omega arith) h.1,
  )

  -- what holds of an ask along a course: it can go on, or what is wanted holds at its end
  abbrev pub IsOnCourse : List Event → Ask → Type 0
  IsOnCourse past (Visit n) = IsNode slots n × IsEven (c n VersionField) × (version_seen n past ≡ None)
  IsOnCourse past (Read n f) = IsNode slots n
  IsOnCourse past (Change p) = PastHolds c past × Wanted past (Change p)
  IsOnCourse past (Answer r) = PastHolds c past × Wanted past (Answer r)

  -- along a trace that agrees with the cells the plan is on its course
  pub course_goes : (ts : List Told) (a : Ask) (turns : ℕ) (past : List Event) (s : P) → PastHolds c past
      → Course a turns past s → Agrees moves c (s, a) ts
      → IsOnCourse (learned_along moves past (s, a) ts) (after moves (s, a) ts).1
  course_goes [] (Change p) turns past s h k agrees = (h, k)
  course_goes [] (Answer r) turns past s h k agrees = (h, k)
  course_goes [] (Visit n) zero past s h k agrees = absurd k
  course_goes [] (Read n f) zero past s h k agrees = absurd k
  course_goes [] (Visit n) (suc turns) past s h k agrees = k.0
  course_goes [] (Read n f) (suc turns) past s h k agrees = k.0
  course_goes (t ∷ ts) (Change p) turns past s h k agrees = absurd agrees.0
  course_goes (t ∷ ts) (Answer r) turns past s h k agrees = absurd agrees.0
  course_goes (t ∷ ts) (Visit n) zero past s h k agrees = absurd k
  course_goes (t ∷ ts) (Read n f) zero past s h k agrees = absurd k
  course_goes (Version v ∷ ts) (Visit n) (suc turns) past s h k agrees =
      let next : Course (moves s (Version v)).1 turns (visited n v ∷ past) (moves s (Version v)).0 =
      subst (λ (x : ℕ). Course (moves s (Version x)).1 turns (visited n x ∷ past) (moves s (Version x)).0) agrees.0.0
      k.1 in
      course_goes ts (moves s (Version v)).1 turns (visited n v ∷ past) (moves s (Version v)).0 (agrees.0, h) next
      agrees.1
  course_goes (Begin ∷ ts) (Visit n) (suc turns) past s h k agrees = absurd agrees.0
  course_goes (Number x ∷ ts) (Visit n) (suc turns) past s h k agrees = absurd agrees.0
  course_goes (Number v ∷ ts) (Read n f) (suc turns) past s h k agrees =
      let next : Course (moves s (Number v)).1 turns (found n f v ∷ past) (moves s (Number v)).0 =
      subst (λ (x : ℕ). Course (moves s (Number x)).1 turns (found n f x ∷ past) (moves s (Number x)).0) agrees.0
      k.1 in
      course_goes ts (moves s (Number v)).1 turns (found n f v ∷ past) (moves s (Number v)).0 (agrees.0, h) next
      agrees.1
  course_goes (Begin ∷ ts) (Read n f) (suc turns) past s h k agrees = absurd agrees.0
  course_goes (Version x ∷ ts) (Read n f) (suc turns) past s h k agrees = absurd agrees.0

  -- and the trace is no longer than the course
  pub course_ends : (ts : List Told) (a : Ask) (turns : ℕ) (past : List Event) (s : P) → Course a turns past s
      → Agrees moves c (s, a) ts → length ts ≤ turns
  course_ends [] a turns past s k agrees = omega arith
  course_ends (t ∷ ts) (Change p) turns past s k agrees = absurd agrees.0
  course_ends (t ∷ ts) (Answer r) turns past s k agrees = absurd agrees.0
  course_ends (t ∷ ts) (Visit n) zero past s k agrees = absurd k
  course_ends (t ∷ ts) (Read n f) zero past s k agrees = absurd k
  course_ends (Version v ∷ ts) (Visit n) (suc turns) past s k agrees =
      let next : Course (moves s (Version v)).1 turns (visited n v ∷ past) (moves s (Version v)).0 =
      subst (λ (x : ℕ). Course (moves s (Version x)).1 turns (visited n x ∷ past) (moves s (Version x)).0) agrees.0.0
      k.1 in
      let ih : length ts ≤ turns = course_ends ts (moves s (Version v)).1 turns (visited n v ∷ past)
      (moves s (Version v)).0 next agrees.1 in
      omega arith
  course_ends (Begin ∷ ts) (Visit n) (suc turns) past s k agrees = absurd agrees.0
  course_ends (Number x ∷ ts) (Visit n) (suc turns) past s k agrees = absurd agrees.0
  course_ends (Number v ∷ ts) (Read n f) (suc turns) past s k agrees =
      let next : Course (moves s (Number v)).1 turns (found n f v ∷ past) (moves s (Number v)).0 =
      subst (λ (x : ℕ). Course (moves s (Number x)).1 turns (found n f x ∷ past) (moves s (Number x)).0) agrees.0
      k.1 in
      let ih : length ts ≤ turns = course_ends ts (moves s (Number v)).1 turns (found n f v ∷ past)
      (moves s (Number v)).0 next agrees.1 in
      omega arith
  course_ends (Begin ∷ ts) (Read n f) (suc turns) past s k agrees = absurd agrees.0
  course_ends (Version x ∷ ts) (Read n f) (suc turns) past s k agrees = absurd agrees.0

  -- where no answer is wanted none is on the course, and likewise for exchanges
  pub never_answers : ((past : List Event) (a : Ask) → Wanted past a → IsAnswer a → ⊥) → (past : List Event) (a : Ask)
      → IsOnCourse past a → IsAnswer a → ⊥
  never_answers never past (Visit n) h answers = answers
  never_answers never past (Read n f) h answers = answers
  never_answers never past (Change p) h answers = answers
  never_answers never past (Answer r) h answers = never past (Answer r) h.1 answers

  pub never_changes : ((past : List Event) (a : Ask) → Wanted past a → IsChange a → ⊥) → (past : List Event) (a : Ask)
      → IsOnCourse past a → IsChange a → ⊥
  never_changes never past (Visit n) h changes = changes
  never_changes never past (Read n f) h changes = changes
  never_changes never past (Change p) h changes = never past (Change p) h.1 changes
  never_changes never past (Answer r) h changes = changes

-- no ask is both
pub change_or_answer : (a : Ask) → IsChange a → IsAnswer a → ⊥
change_or_answer (Visit n) changes answers = answers
change_or_answer (Read n f) changes answers = answers
change_or_answer (Change p) changes answers = answers
change_or_answer (Answer r) changes answers = changes

-- What a course owes of an exchange at its end: all but that its visits and reads stand.
pub record IsRightEnd (form : Form) (slots : ℕ) (c : Cells) (past : List Event) (next : Pairs) (terms : Terms)
    (p : Planned) (slot : ℕ) : Type 0 where
  pub changes : ChangesStand c (map (change_at slot) p.adds)
  pub taken : FreshStands c (fresh_at slot (c slot VersionField) p.fresh)
  pub leaves : form.sound slots (applied (exchange_of past p slot (c slot VersionField)) c) next
  pub charges : (k : ℕ) → form.in_debt slots (applied (exchange_of past p slot (c slot VersionField)) c) k
      → form.in_debt slots c k ⊎ IsTrue (has k p.charged)
  pub settles : SettlesIn form slots (applied (exchange_of past p slot (c slot VersionField)) c) p.charged terms.lower
      (terms.settles p.reply)

module _ (form : Form) (slots : ℕ) (c : Cells) (ps : Pairs) (terms : Terms) where
  -- the end is right: the reply, and the exchange whatever free slot it takes
  abbrev pub EndsRight : List Event → Ask → Type 0
  EndsRight past (Visit n) = ⊥
  EndsRight past (Read n f) = ⊥
  EndsRight past (Change p) = IsReply (terms.step ps).reply p.reply
      × ((slot : ℕ) → Takes slots c p slot → IsRightEnd form slots c past (terms.step ps).pairs terms p slot)
  EndsRight past (Answer r) = IsReply (terms.step ps).reply r × ((terms.step ps).pairs ≡ ps)
      × SettlesIn form slots c [] terms.lower (terms.settles r)

  right_change : (past : List Event) (p : Planned) (slot : ℕ) → PastHolds c past
      → IsRightEnd form slots c past (terms.step ps).pairs terms p slot
      → IsRightChange form slots c past (terms.step ps).pairs p slot
  right_change past p slot h e = record {
    stands = record {
      visits = visits_stand c past h;
      reads = reads_stand c past h;
      changes = e.changes;
      fresh = e.taken;
    };
    leaves = e.leaves;
    charges = e.charges;
  }

  -- a plan on a course whose end is right asks right
  pub right_on_course : {P : Type 0} (moves : P → Told → P × Ask) (Wanted : List Event → Ask → Type 0)
      → ((past : List Event) (a : Ask) → Wanted past a → EndsRight past a) → (past : List Event) (a : Ask)
      → IsOnCourse slots c moves Wanted past a → IsRightAsk form slots c ps terms past a
  right_on_course moves Wanted right past (Visit n) h = h
  right_on_course moves Wanted right past (Read n f) h = h
  right_on_course moves Wanted right past (Change p) h =
      let e : EndsRight past (Change p) = right past (Change p) h.1 in
      (e.0, λ slot takes. (right_change past p slot h.0 (e.1 slot takes), (e.1 slot takes).settles))
  right_on_course moves Wanted right past (Answer r) h = right past (Answer r) h.1

-- A plan runs right that has a course, short enough and right at its end, on all cells that are ready for it.
module _ {P C : Type 0} (start : C → P) (moves : P → Told → P × Ask) (can_call : C → Type 0) (terms : C
    → Terms) (form : Form)
    (Wanted : (slots : ℕ) (c : Cells) (ps : Pairs) (call : C) → List Event → Ask → Type 0)
    (right : (slots : ℕ) (c : Cells) (ps : Pairs) (call : C) (past : List Event) (a : Ask)
    → Wanted slots c ps call past a → EndsRight form slots c ps (terms call) past a)
    (turns : ℕ → ℕ) (few : (slots : ℕ) → turns slots < 9 * (slots + 2))
    (course : (slots : ℕ) (c : Cells) (ps : Pairs) (call : C) → IsReady form slots c ps → can_call call
    → Course slots c moves (Wanted slots c ps call) (moves (start call) Begin).1 (turns slots) []
    (moves (start call) Begin).0) where
  -- where a trace that agrees with the cells has led to
  pub along_course : (slots : ℕ) (c : Cells) (ps : Pairs) (call : C) (ts : List Told) → IsReady form slots c ps
      → can_call call → AgreesWith start moves c call ts
      → IsOnCourse slots c moves (Wanted slots c ps call) (past_of start moves call ts) (reached start moves call ts).1
  along_course slots c ps call ts ready can agrees =
      course_goes slots c moves (Wanted slots c ps call) ts (moves (start call) Begin).1 (turns slots) []
      (moves (start call) Begin).0 tt (course slots c ps call ready can) agrees

  -- a plan ends in an exchange on whose courses no answer is wanted, and in an answer where no exchange is
  pub changes_by_course : (IsSuch : C → Pairs → Type 0)
      → ((slots : ℕ) (c : Cells) (ps : Pairs) (call : C) (past : List Event) (a : Ask) → IsSuch call ps
      → Wanted slots c ps call past a → IsAnswer a → ⊥)
      → EndsInChange start moves can_call form IsSuch
  changes_by_course IsSuch never slots c ps call ts ready can such agrees =
      never_answers slots c moves (Wanted slots c ps call) (λ past a. never slots c ps call past a such)
      (past_of start moves call ts) (reached start moves call ts).1 (along_course slots c ps call ts ready can agrees)

  pub answers_by_course : (IsSuch : C → Pairs → Type 0)
      → ((slots : ℕ) (c : Cells) (ps : Pairs) (call : C) (past : List Event) (a : Ask) → IsSuch call ps
      → Wanted slots c ps call past a → IsChange a → ⊥)
      → EndsInAnswer start moves can_call form IsSuch
  answers_by_course IsSuch never slots c ps call ts ready can such agrees =
      never_changes slots c moves (Wanted slots c ps call) (λ past a. never slots c ps call past a such)
      (past_of start moves call ts) (reached start moves call ts).1 (along_course slots c ps call ts ready can agrees)

  pub runs_by_course : Runs start moves can_call terms form
  runs_by_course = record {
    goes = λ slots c ps call ts ready can agrees.
        right_on_course form slots c ps (terms call) moves (Wanted slots c ps call) (right slots c ps call)
        (past_of start moves call ts) (reached start moves call ts).1 (along_course slots c ps call ts ready can
        agrees);
    ends = λ slots c ps call ts ready can agrees.
        let le : length ts ≤ turns slots = course_ends slots c moves (Wanted slots c ps call) ts
        (moves (start call) Begin).1 (turns slots) [] (moves (start call) Begin).0 (course slots c ps call ready can)
        agrees in
        let below : turns slots < 9 * (slots + 2) = few slots in
        omega arith;
  }
