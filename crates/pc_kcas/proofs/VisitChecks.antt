-- The check of the nodes that an exchange visits: what a look tells of a visit, and that it is known still.
use Rattle.std.proofs.Common.{◌≡◌, ◌≢◌, ℕ, ◌+◌, ◌*◌, ◌<◌, ◌≤◌, ⊎_elim, inl, inr, List, [], ◌++◌, refl, sym, ap, ◌∙◌, subst, arith}
use Rattle.std.proofs.lemmas.Bool.{cases_eq}
use mathlib.Core.Logic.{dite}
use native.Mathlib.Decide.{ℕ_discrete}
use Rattle.pc_model.specs.declared.cell.Field.TheVariants.{Version}
use Rattle.pc_words.specs.declared.status.Stage.TheVariants.{Undecided}
use Rattle.pc_words.specs.declared.status.Status.{Status}
use Rattle.pc_words.specs.Statuses.{packed, unpacked}
use Rattle.pc_words.specs.declared.word.WordKind.TheVariants.{Plain, Install, Exchange}
use Rattle.pc_words.specs.Words.{kind}
use Rattle.pc_rule_law.specs.Conditions.{IsFree}
use Rattle.pc_rule_law.specs.Past.{Has, visits_begin}
use Rattle.pc_rule_law.specs.Plays.{AddsNotes, IsNotedSince, found}
use Rattle.pc_rule_law.specs.Stages.{IsIdle}
use Rattle.pc_rule_law.specs.Views.{held, placed, removed, decided_below}
use Rattle.pc_rule_law.proofs.Lists.{has_first}
use Rattle.pc_protocol.specs.Notes.{Note as Told, value, by, looked, verdict}
use Rattle.pc_exchange_law.specs.Attempts.{KnowsEntry, KnowsVisit, listed_word}
use Rattle.pc_exchange_law.specs.ExchangeConditions.{KnowsPassed, KnowsChecked, VisitsForDraw, is_changed, was_found, was_settled}
use Rattle.pc_exchange_law.specs.Passes.{PassKnows}
use Rattle.pc_exchange_law.specs.Ties.{code}
use Rattle.pc_exchange_law.specs.WholePlays.{CellSeen, LookedFor, StatusTried, after_decided}
use Rattle.pc_exchange_law.specs.Wholes.{Whole}
use Rattle.pc_rule.specs.declared.refs.Ref.{Ref}
use Rattle.pc_rule.specs.declared.refs.RefKind.{RefKind}
use Rattle.pc_rule.specs.declared.refs.RefKind.TheVariants.{Install as AnInstall, Exchange as AnExchange}
use Rattle.pc_dcss.specs.Installs.{met_note, IsDecided, IsDecidedSince}
use Rattle.pc_dcss.proofs.Staying.{is_noted, noted_after}
use Rattle.pc_kcas.specs.Checking.{KnowsVisitOf, LeavesVersion, HasDrawn, IsChecked, StandsInWay, HasPassedAt, HasFailed, HasSettled}
use Rattle.pc_kcas.specs.Concluding.{TellsCourse}
use Rattle.pc_kcas.specs.Obstacles.{IsStuckAt}
use Rattle.pc_kcas.specs.Readings.{HasRead, HasLoadedStatus, IsOver, HasPassed, AreCleanWhereMet}
use Rattle.pc_kcas.specs.Settling.{HasLearnt, IsSettled, KnowsOf, KnowsNoVisits}
use Rattle.pc_kcas.specs.declared.checking.Failed.{Failed}
use Rattle.pc_kcas.specs.declared.checking.Failed.TheVariants.{Over as IsOverBy, Changed as HasChanged, Locked as IsLocked, Stuck as IsStuckSo}
use Rattle.pc_kcas.specs.declared.collecting.Settled.{Settled}
use Rattle.pc_kcas.specs.declared.collecting.Settled.TheVariants.{By as IsSettledBy, Over as WasOver, Stuck as WasStuck}
use Rattle.pc_kcas.specs.declared.checking.Checked.TheVariants.{Passed, Changed, Locked, Gone}
use Rattle.pc_kcas.proofs.Concluded.{clean_met_before}
use Rattle.pc_kcas.proofs.Courses.{past_over, past_loaded, past_settled, decided_noted, course_seen, course_before}
use Rattle.pc_kcas.proofs.Evidence.{entry_goes, visit_goes, keeps_notes, stuck_since}
use Rattle.pc_kcas.proofs.Going.{goes_learnt}
use Rattle.pc_kcas.proofs.Learning.{same_view, learnt_by, learnt_decision, seat_still, word_still}
use Rattle.pc_kcas.proofs.ReadWords.{over_cleaned}
use Rattle.pc_kcas.proofs.Standing.{stands_seen, not_undecided}

pub cell_learnt : (x y : Whole) (n r : ℕ) → CellSeen x n Version r y → HasLearnt x y
cell_learnt x y n r s = learnt_by x y s.later s.seen.learns

-- a visit of an exchange for which a stamp was drawn
pub draws_visit : (x : Whole) (op : Ref) (s i n v : ℕ) → op.seat < 32 → HasDrawn x op s → KnowsVisitOf x op i n v → VisitsForDraw x n
draws_visit x op s i n v small drawn known = record {
  seat = op.seat;
  number = op.number;
  low = omega arith;
  stamp = s;
  drawn = drawn;
  index = i;
  version = v;
  known = known;
}

-- ---- what was known is known still

module _ (x y : Whole) (l : HasLearnt x y) where
  pub visit_still : (op : Ref) (i n v : ℕ) → KnowsVisitOf x op i n v → KnowsVisitOf y op i n v
  visit_still op i n v = visit_goes x y (goes_learnt x y l) (seat_still x y l op.seat op.number) op.seat op.number i n v

  pub change_still : (p a i n old new : ℕ) → KnowsEntry x.knows.noted x.view.seat x.knows.own p a i n Version old new
      → KnowsEntry y.knows.noted y.view.seat y.knows.own p a i n Version old new
  change_still p a i n old new = entry_goes x y (goes_learnt x y l) (seat_still x y l p a) p a i n Version old new

  pub leaves_still : (op : Ref) (n : ℕ) → LeavesVersion x op n → LeavesVersion y op n
  leaves_still op n leaves = record {
    count = leaves.count;
    counted = word_still x y l op.seat op.number 1 leaves.count leaves.counted;
    each = λ i lt. let e = leaves.each i lt in (e.0, word_still x y l op.seat op.number (3 + 3 * i) e.0 e.1, e.2);
  }

  pub passed_still : (p a s n v : ℕ) → KnowsPassed x.view x.knows p a s n v → KnowsPassed y.view y.knows p a s n v
  unfolding change_still
  passed_still p a s n v (is_changed j new entry) = is_changed j new (change_still p a j n v new entry)
  passed_still p a s n v (was_found u has le) = was_found u (l.told (looked s n (value u)) has) le
  passed_still p a s n v (was_settled q b j old new st small has decided entry le) =
      was_settled q b j old new st small (l.told (looked s n (by (code q b))) has) (l.told (verdict (code q b) st) decided)
      (change_still q b j n old new entry) le

  pub passed_at_still : (op : Ref) (s i : ℕ) → HasPassedAt x op s i → HasPassedAt y op s i
  unfolding visit_still passed_still
  passed_at_still op s i h = (h.0, h.1, visit_still op i h.0 h.1 h.2, passed_still op.seat op.number s h.0 h.1 h.3)

-- ---- a look

module _ (x y : Whole) (op : Ref) (n r s : ℕ) (seen : CellSeen x n Version r y) (look : LookedFor x n r y) (drawn : HasDrawn x op s) where
  pub look_passes : (v u : ℕ) → kind r ≡ Plain u → u ≤ v → IsChecked y op s n v Passed
  look_passes v u is le = was_found u (look.number (code op.seat op.number) s u drawn is) le

  pub look_fails : (i v u : ℕ) → op.seat < 32 → KnowsVisitOf x op i n v → kind r ≡ Plain u → v < u → IsChecked y op s n v Changed
  look_fails i v u small visit is lt = look.greater op.seat op.number s i v u (omega arith) drawn visit is lt

  pub look_differs : (i j v old new : ℕ) → op.seat < 32 → KnowsVisitOf x op i n v
      → KnowsEntry x.knows.noted x.view.seat x.knows.own op.seat op.number j n Version old new → old ≢ v → IsChecked y op s n v Changed
  look_differs i j v old new small visit entry other = look.differs op.seat op.number s i j v old new (omega arith) drawn visit entry other

  pub look_locked : (v q b : ℕ) → kind r ≡ Exchange q b → q < 32 → q ≢ op.seat → IsChecked y op s n v (Locked q)
  look_locked v q b is small other = (small, other, (look.reference (code op.seat op.number) s q b drawn is).1)

  -- a reference that stands there was noted
  pub reference_noted : (q b : ℕ) → kind r ≡ Exchange q b → Has y.view.notes (held q b n Version)
  reference_noted q b is = is_noted x.view y.view (held q b n Version) (seen.notes (held q b n Version)
      (subst (λ k. Has (found n Version k) (held q b n Version)) (sym is) (has_first (held q b n Version) [])))

  -- the exchange changes another word than this version, so a reference of its pass is that of a later one
  pub look_gone : (v q b : ℕ) → op.seat < 32 → LeavesVersion x op n → kind r ≡ Exchange q b → q ≡ op.seat → IsChecked y op s n v Gone
  unfolding reference_noted
  look_gone v q b small leaves is same =
      let here : kind r ≡ Exchange op.seat b = is ∙ ap (λ (i : ℕ). Exchange i b) same in
      let least = look.reached op.seat op.number s b (omega arith) drawn here in (
        b,
        ⊎_elim
            (λ (e : op.number ≡ b). let own : kind r ≡ Exchange op.seat op.number = here ∙ ap (λ (i : ℕ). Exchange op.seat i) (sym e) in
            let l = look.listed op.seat op.number leaves.count (omega arith) own leaves.counted in
            let there = leaves.each l.0 l.1 in absurd (there.2 (l.2 there.0 there.1)))
            (λ ne. omega arith)
            (cases_eq op.number b),
        reference_noted op.seat b here,
      )

  pub look_stands : (q k : ℕ) (f : Ref) → IsFree x.view → kind r ≡ Install q k → f ≡ record { kind = AnInstall; seat = q; number = k } → StandsInWay x y n f
  look_stands q k f free is same = subst (StandsInWay x y n) (sym same) record {
    kind = refl;
    found = seen.notes (placed q k n Version) (subst (λ c. Has (found n Version c) (placed q k n Version)) (sym is) (has_first (placed q k n Version) []));
    other = seen.other free q k is;
    present = seen.present q k is;
  }

-- ---- what keeps an exchange from taking effect

pub over_failed : (x y : Whole) (op : Ref) (s : ℕ) (st : Status) → IsOver op st → IsDecidedSince x.view y.view op.seat op.number → op.number ≤ st.number
    → (op.number < st.number → HasPassed y op st.number) → AreCleanWhereMet x.view y.view op → HasFailed x y op s (IsOverBy st)
over_failed x y op s st over decided ahead passed cleaned =
    (over, past_over y op st over ahead (decided_noted x.view y.view op.seat op.number decided) passed, cleaned)

-- a status that is loaded of a pass of which a later attempt was met
pub later_over : (x y : Whole) (op : Ref) (s n m : ℕ) (st : Status) → HasLoadedStatus x y op.seat st → op.number < m → Has x.view.notes (held op.seat m n Version)
    → HasFailed x y op s (IsOverBy st)
later_over x y op s n m st l lt met =
    let reached : m ≤ st.number = l.told.held_below m n Version met in
    let other : st.number ≡ op.number → IsIdle st.stage = λ e. absurd (omega arith) in (
      other,
      past_loaded x y op st l (omega arith) (λ e _. absurd (omega arith)),
      over_cleaned x y op st l x.view (same_view x.view) (omega arith) other,
    )

pub failed_since : (o x y : Whole) (op : Ref) (s : ℕ) (f : Failed) → AddsNotes o.view x.view → HasFailed x y op s f → HasFailed o y op s f
failed_since o x y op s (IsOverBy st) adds h = (h.0, h.1, clean_met_before o.view x.view y.view op adds h.2)
failed_since o x y op s (HasChanged n) adds h = h
failed_since o x y op s (IsLocked n by') adds h = h
failed_since o x y op s (IsStuckSo how) adds h = λ left. let t = h left in (stuck_since o.view x.view adds y left how t.0, t.1)

-- ---- what came of the decision

pub settled_since : (o x y : Whole) (op : Ref) (s : Settled) → AddsNotes o.view x.view → HasSettled x y op s → HasSettled o y op s
settled_since o x y op (IsSettledBy st) adds h = (h.0, course_before o x y op st (keeps_notes o.view x.view adds) h.1)
settled_since o x y op (WasOver st) adds h = (h.0, h.1, clean_met_before o.view x.view y.view op adds h.2)
settled_since o x y op (WasStuck how) adds h = λ left. let t = h left in (stuck_since o.view x.view adds y left how t.0, t.1)

-- by a status that stands since
pub settled_status : (o x y : Whole) (op : Ref) (st : Status) → AddsNotes o.view x.view → IsSettled y op.seat op.number st → TellsCourse x y op st
    → HasSettled o y op (IsSettledBy st)
settled_status o x y op st adds settled course = (settled, course_before o x y op st (keeps_notes o.view x.view adds) course)

-- each visit has passed its check
pub all_checked : (y : Whole) (op : Ref) (s count : ℕ) → HasRead y op 2 count → ((i : ℕ) → i < count → HasPassedAt y op s i)
    → KnowsChecked y.view y.knows op.seat op.number s
all_checked y op s count counted passed = record { count = count; counted = inl counted.1; each = passed }

pub none_checked : (y : Whole) (p a s : ℕ) → KnowsNoVisits y p a → KnowsChecked y.view y.knows p a s
none_checked y p a s counted = record { count = 0; counted = counted; each = λ i lt. absurd (omega arith) }

-- ---- two installs that stood in the version of a visited node, one after the other

pub two_stood : (x w u y : Whole) (op : Ref) (i n v : ℕ) (first second : Ref) → op.kind ≡ AnExchange → AddsNotes w.view u.view → w.view.seat ≡ x.view.seat
    → u.view.seat ≡ x.view.seat → y.view.seat ≡ x.view.seat
    → StandsInWay x w n first → StandsInWay u y n second → Has u.view.notes (removed first.seat first.number) → KnowsVisitOf y op i n v
    → IsStuckAt x y op n Version first second
two_stood x w u y op i n v first second kind adds seat_w seat_u seat_y one two gone visit = (
  record {
    exchange = op;
    node = n;
    field = Version;
    word = inr (refl, i, v, visit);
    between = w.view;
    first_met = subst (λ (r : RefKind). IsNotedSince x.view w.view (met_note r first.seat first.number n Version)) (sym one.kind) one.found;
    second_met = subst (λ (r : RefKind). IsNotedSince w.view y.view (met_note r second.seat second.number n Version)) (sym two.kind)
        (noted_after w.view u.view y.view (placed second.seat second.number n Version) adds two.found);
    same_kind = two.kind ∙ sym one.kind;
    different = λ same. two.present (subst (λ (r : Ref). Has u.view.notes (removed r.seat r.number)) (sym same) gone);
    not_its_own = (other_kind first one.kind, other_kind second two.kind);
    not_own = (
      (λ _ mine. one.other (mine ∙ seat_y)),
      (λ _ mine. two.other (mine ∙ (seat_y ∙ sym seat_u))),
    );
  },
  refl,
  refl,
  refl,
)
  where
    other_kind : (r : Ref) → r.kind ≡ AnInstall → r ≢ op
    other_kind r is same = absurd (let clash : AnInstall ≡ AnExchange = sym is ∙ (ap (λ (e : Ref). e.kind) same ∙ kind) in cc)

-- ---- a visit that was read

pub visit_read : (y : Whole) (op : Ref) (slots count i place node version : ℕ) → y.view.size.slots ≡ slots → place ≡ visits_begin slots + 2 * i → i < count
    → HasRead y op 2 count → HasRead y op place node → HasRead y op (place + 1) version → KnowsVisitOf y op i node version
visit_read y op slots count i place node version size at lt counted at_node at_version =
    let next : place + 1 ≡ visits_begin slots + (1 + 2 * i) = omega arith in
    subst (λ (k : ℕ). KnowsVisit k y.knows.noted y.view.seat y.knows.own op.seat op.number i node version) (sym size) record {
      count = count;
      counted = inl counted.1;
      below = lt;
      node_word = inl (subst (λ (r : ℕ). Has y.knows.noted (listed_word op.seat op.number r node)) at at_node.1);
      version_word = inl (subst (λ (r : ℕ). Has y.knows.noted (listed_word op.seat op.number r version)) next at_version.1);
    }

-- ---- a decision by a compare_exchange, whatever it found

pub tried_learnt : (x y : Whole) (p a old r : ℕ) (k : PassKnows) (notes : List Told) → StatusTried x p old r (λ u. u ≡ record x { view = after_decided x.view p a; knows = k }) y
    → k.noted ≡ x.knows.noted → k.told ≡ notes ++ x.knows.told → k.own ≡ x.knows.own → HasLearnt x y
tried_learnt x y p a old r k notes tried noted told own = dite (ℕ_discrete r old)
    (λ e. learnt_decision x y p a k notes (tried.hit e) noted told own)
    (λ ne. let m = tried.miss ne in learnt_by x y m.1.later m.2.learns)

tried_decided : (x y : Whole) (op : Ref) (old r : ℕ) (k : PassKnows) → KnowsOf x.view op.seat op.number
    → old ≡ packed (record { number = op.number; stage = Undecided }) → (unpacked old).number ≡ op.number
    → StatusTried x op.seat old r (λ u. u ≡ record x { view = after_decided x.view op.seat (unpacked old).number; knows = k }) y
    → IsDecided y.view op.seat op.number
tried_decided x y op old r k known is number tried = dite (ℕ_discrete r old)
    (λ e. (
      (unpacked old).number + 1,
      subst (λ (u : Whole). Has u.view.notes (decided_below op.seat ((unpacked old).number + 1))) (sym (tried.hit e)) (0, refl),
      omega arith,
    ))
    (λ ne. let m = tried.miss ne in let s = unpacked r in (past_settled x y op s record {
      stands = stands_seen x y op.seat op.number s known m.1 m.2;
      over = not_undecided r op.number m.0 (λ same. ne (same ∙ sym is));
    } (course_seen x y op s m.1 m.2)).decided)

pub tried_decided_at : (x y : Whole) (op : Ref) (p old r : ℕ) (k : PassKnows) → p ≡ op.seat → KnowsOf x.view op.seat op.number
    → old ≡ packed (record { number = op.number; stage = Undecided }) → (unpacked old).number ≡ op.number
    → StatusTried x p old r (λ u. u ≡ record x { view = after_decided x.view p (unpacked old).number; knows = k }) y
    → IsDecided y.view op.seat op.number
unfolding tried_decided
tried_decided_at x y op p old r k at known is number tried = subst (λ (i : ℕ). IsDecided y.view i op.number) at
    (tried_decided x y (record op { seat = p }) old r k (subst (λ (i : ℕ). KnowsOf x.view i op.number) (sym at) known) is number tried)
