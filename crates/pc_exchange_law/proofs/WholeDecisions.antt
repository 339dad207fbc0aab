-- Decisions under the whole rule: an attempt whose status is found undecided takes effect, fails, or is withdrawn by its
-- own pass. Where another status is found, the step is a load of it.
use Rattle.std.proofs.Common.{◌≡◌, ℕ, eqb, ◌+◌, ◌^◌, ◌<◌, ◌≤◌, Bool, true, List, [], ◌∷◌, refl, sym, ap, ◌∙◌, subst, arith}
use mathlib.Core.Option.{some, none}
use lib.ListN.{get_elem?}
use prog.Atomic.{either}
use Rattle.atomic_table.specs.Table.{step, Allows}
use Rattle.pc_model.specs.Forms.{Form}
use Rattle.pc_words.specs.declared.status.Stage.{Stage as StatusStage}
use Rattle.pc_words.specs.declared.status.Stage.TheVariants.{Undecided, Succeeded, Withdrawn}
use Rattle.pc_words.specs.declared.status.Status.{Status}
use Rattle.pc_words.specs.Statuses.{packed, unpacked, StageInRange}
use Rattle.pc_words.proofs.Statuses.{packed_injective, unpacked_packed}
use Rattle.pc_rule_law.specs.Board.{Size, Board, own_status, at_own, address, Inside}
use Rattle.pc_rule_law.specs.Past.{Past}
use Rattle.pc_rule_law.specs.Stages.{IsIdle, IsOpen, DecidedBelow}
use Rattle.pc_rule_law.specs.Views.{View, decided_below, NoteHolds, IsAttempt}
use Rattle.pc_rule_law.specs.Plays.{SameSeat}
use Rattle.pc_rule_law.specs.Rule.{Own}
use Rattle.pc_rule_law.proofs.Frames.{only_status}
use Rattle.pc_rule_law.proofs.Keeping.{LeavesTries, tries_stay}
use Rattle.pc_rule_law.proofs.Lists.{all_one}
use Rattle.pc_rule_law.proofs.Stages.{open_not_idle}
use Rattle.pc_rule_law.proofs.Updates.{put-here, at_put}
use Rattle.pc_protocol.specs.Histories.{Cause, withdrawn, ended, changed, locked, Stage, committed, aborted, History, cells_now}
use Rattle.pc_protocol.specs.Steps.{commit, abort}
use Rattle.pc_exchange_law.specs.Changes.{with_status, with_values, at_stage, stage_by}
use Rattle.pc_exchange_law.specs.ExchangeConditions.{MaySucceed, MayFail}
use Rattle.pc_exchange_law.specs.Knowing.{after_decision, after_withdrawal}
use Rattle.pc_exchange_law.specs.OwnSlots.{OwnsSlots}
use Rattle.pc_exchange_law.specs.Passes.{PassKnows, IsKnown}
use Rattle.pc_exchange_law.specs.Ties.{code}
use Rattle.pc_exchange_law.specs.Wholes.{Whole, WholeKept, WholeHolds}
use Rattle.pc_exchange_law.specs.WholePlays.{WholeMine, StatusTried, after_decided, verdict_by, HasDecided, HasWithdrawn}
use Rattle.pc_exchange_law.specs.WholeSteps.{whole_decides, whole_withdraws}
use Rattle.pc_exchange_law.proofs.ExchangeSteps.{success_step, failure_step, withdraw_step}
use Rattle.pc_exchange_law.proofs.WholeKeeping.{mine, own_here, known_here, owned_here, steps_here, path_kept, whole_goes}
use Rattle.pc_exchange_law.proofs.WholeLooks.{whole_status_looks}
use Rattle.pc_exchange_law.proofs.WholeSteps.{WholeGoes, retold, WholeHits, WholeMisses, whole_swapped}
use Rattle.pc_exchange_law.proofs.WorldStatuses.{is_busy}
use Rattle.pc_exchange_law.proofs.Worlds.{Goes}

-- the status of an attempt that isn't decided
abbrev pub undecided_status : ℕ → Status
undecided_status a = record { number = a; stage = Undecided }

abbrev pub decided_status : ℕ → StatusStage → Status
decided_status a stage = record { number = a; stage = stage }

-- attempt a of pass p is decided so
abbrev DecidedAs : Whole → ℕ → ℕ → Stage → ℕ → ℕ → Whole → Type 0
DecidedAs x p a stage old r y = StatusTried x p old r
    (λ y'. y' ≡ record x { view = after_decided x.view p a; knows = after_decision x.knows (code p a) stage }) y

-- what the operands say of it
by_operands : (x : Whole) (p a old new r : ℕ) (stage : Stage) (y : Whole) → (unpacked old).number ≡ a
    → verdict_by (unpacked new).stage ≡ stage → DecidedAs x p a stage old r y → HasDecided x old new r y (at_own p own_status)
by_operands x p a old new r stage y number is told = subst
    (λ (i : ℕ × Stage). DecidedAs x p i.0 i.1 old r y) (λ j. (sym number j, sym is j)) told

-- an attempt that failed is decided
is_closed : (cause : Cause) → IsOpen (stage_by cause) → ⊥
is_closed withdrawn o = o
is_closed ended o = o
is_closed (changed n) o = o
is_closed (locked n q) o = o

-- a decision changes no number, no descriptor, and which pass is idle
leaves_tries : (b : Board) (p : ℕ) (stage : StatusStage) → IsOpen (b.status p).stage → (IsIdle stage → ⊥) → (j : ℕ)
    → LeavesTries b (with_status b p (at_stage b p stage)) j
leaves_tries b p stage pending busy j = record {
  number = at_put b.status p (at_stage b p stage) (λ r u. u.number ≡ (b.status r).number) j refl (λ _. refl);
  idle = at_put b.status p (at_stage b p stage) (λ r u. IsIdle (b.status r).stage → IsIdle u.stage) j
      (λ i. absurd (open_not_idle (b.status p).stage pending i)) (λ _ i. i);
  busy = at_put b.status p (at_stage b p stage) (λ r u. IsIdle u.stage → IsIdle (b.status r).stage) j
      (λ i. absurd (busy i)) (λ _ i. i);
  words = λ place. refl;
}

module _ (form : Form) (z : Size) where
  -- an attempt that isn't decided, whose status has this number, is decided, and the pass knows this
  decided : (id : ℕ) (x : Whole) → x.view.live ≡ true → (b : Board) (t : Past) (h : History) (late : ℕ → Bool)
      (views : List Whole) (k : WholeKept form z b t h late views) (at : get_elem? views id ≡ some x) (p : ℕ) (stage : StatusStage)
      → p < z.seats → IsOpen (b.status p).stage → (IsIdle stage → ⊥) → (IsOpen stage → ⊥) → (t' : Past) → t'.course ≡ t.course → t'.posted ≡ t.posted
      → (h' : History) (k' : PassKnows) (then : Whole → Type 0)
      → Goes form z id b t t.words h late (with_status b p (at_stage b p stage)) t' t'.words h' late
      × IsKnown (with_status b p (at_stage b p stage)) t' t'.words h' late id k'
      → OwnsSlots z h' id k'.own k'.slots → then (record x { view = after_decided x.view p (b.status p).number; knows = k' })
      → WholeGoes form z b views id (at_own p own_status) (packed (at_stage b p stage)) then
  decided id x live b t h late views k at p stage lt pending busy closed t' course posted h' k' then step owned told =
      let own = own_here form z b t h late views k id x at live in
      let b' : Board = with_status b p (at_stage b p stage) in
      let a : ℕ = (b.status p).number in
      let here : b'.status p ≡ at_stage b p stage = put-here b.status p (at_stage b p stage) in
      let over : DecidedBelow b'.status p (a + 1) = subst
      (λ (u : Status). (a + 1 ≤ u.number + 1) × (a + 1 ≡ u.number + 1 → IsOpen u.stage → ⊥)) (sym here)
      (omega arith, λ _ o. closed o) in
      let small : a < 2 ^ 28 = (k.kept.shared.statuses p).0 in
      let y : Whole = record x { view = after_decided x.view p a; knows = k' } in record {
        view = y;
        board = b';
        past = t';
        history = h';
        late = late;
        only = only_status b p (at_stage b p stage);
        is = ap packed here;
        kept = whole_goes form z b t h late views k id x at live b' t' h' late y (decided_below p (a + 1) ∷ []) step owned
            (refl, refl, refl, refl) refl refl
            (subst (λ (c : ℕ → ℕ → ℕ). Own z b.install c id y.view) (sym course)
            (record { sized = own.sized; seated = own.seated; known = own.known; ahead = own.ahead; unplaced = own.unplaced }))
            (λ no. let was = (mine form z b t h late views k id x at live).tries live no in
            (posted ∙ was.0, tries_stay z.slots b b' id x.view.attempt (leaves_tries b p stage pending busy id) was.1))
            (all_one (NoteHolds z b' t') (decided_below p (a + 1)) (over, (lt, (omega arith)))) (path_kept form z b t h late views k id x at live h' step.0.keeps step.0.unread);
        told = told;
      }

  -- a status that is found undecided with this number
  found_undecided : (b : Board) (t : Past) (h : History) (late : ℕ → Bool) (views : List Whole)
      → WholeKept form z b t h late views → (p a : ℕ) → a < 2 ^ 28 → packed (b.status p) ≡ packed (undecided_status a)
      → b.status p ≡ undecided_status a
  found_undecided b t h late views k p a small hit = packed_injective (b.status p) (undecided_status a)
      (k.kept.shared.statuses p) (small, tt) hit

  -- a step that misses is a load of the status
  decision_misses : (id : ℕ) (x : Whole) (p old : ℕ) (then : Whole → Type 0) → x.view.live ≡ true
      → Inside z (at_own p own_status)
      → WholeMisses form z id x (at_own p own_status) old (λ r y. SameSeat x.view y.view × StatusTried x p old r then y)
  decision_misses id x p old then live in_p b t h late views k at miss =
      let g = whole_status_looks form z id x p live in_p b t h late views k at in
      (g.0, g.1, (g.2.0, record { hit = λ e. absurd (miss e); miss = λ _. g.2.1 }))

  -- a step that hits tells what its operands say
  decided_hits : (id : ℕ) (x : Whole) (p a : ℕ) (stage : StatusStage) (st : Stage) → a < 2 ^ 28 → StageInRange stage
      → verdict_by stage ≡ st
      → WholeHits form z id x (at_own p own_status) (packed (undecided_status a)) (packed (decided_status a stage))
      (λ r y. SameSeat x.view y.view × DecidedAs x p a st (packed (undecided_status a)) r y)
      → WholeHits form z id x (at_own p own_status) (packed (undecided_status a)) (packed (decided_status a stage))
      (λ r y. SameSeat x.view y.view
      × HasDecided x (packed (undecided_status a)) (packed (decided_status a stage)) r y (at_own p own_status))
  decided_hits id x p a stage st small in_range is hits b t h late views k at hit =
      let old : ℕ = packed (undecided_status a) in let new : ℕ = packed (decided_status a stage) in
      let r : ℕ = packed (b.status p) in
      retold form z b views id (at_own p own_status) new (λ y. SameSeat x.view y.view × DecidedAs x p a st old r y)
      (λ y. SameSeat x.view y.view × HasDecided x old new r y (at_own p own_status))
      (λ y told. (
        told.0,
        by_operands x p a old new r st y
            (ap (λ (u : Status). u.number) (unpacked_packed (undecided_status a) (small, tt)))
            (ap (λ (u : Status). verdict_by u.stage) (unpacked_packed (decided_status a stage) (small, in_range)) ∙ is) told.1,
      ))
      (hits b t h late views k at hit)

  -- the new status of a failure that isn't of the pass's own accord says its cause
  fails_so : (v : View) (k : PassKnows) (p a : ℕ) (cause : Cause) → MayFail v k p a cause
      → verdict_by (stage_by cause) ≡ aborted cause
  fails_so v k p a withdrawn may = absurd may
  fails_so v k p a ended may = refl
  fails_so v k p a (changed n) may = refl
  fails_so v k p a (locked n q) may = refl

  success_hits : (id : ℕ) (x : Whole) (p a s : ℕ) → x.view.live ≡ true → IsAttempt z p a → MaySucceed x.view x.knows p a s
      → WholeHits form z id x (at_own p own_status) (packed (undecided_status a)) (packed (decided_status a (Succeeded s)))
      (λ r y. SameSeat x.view y.view × DecidedAs x p a (committed s) (packed (undecided_status a)) r y)
  success_hits id x p a s live inside may b t h late views k at hit =
      let few : z.seats ≤ 32 = k.kept.few in let lt = inside.0 in let small : p < 64 = omega arith in
      let is : b.status p ≡ undecided_status a = found_undecided b t h late views k p a inside.1 hit in
      let pending : IsOpen (b.status p).stage = subst (λ (u : Status). IsOpen u.stage) (sym is) tt in
      let at_number : ℕ → Type 0 = λ i. MaySucceed x.view x.knows p i s
      → packed (b.status p) ≡ packed (undecided_status i)
      → WholeGoes form z b views id (at_own p own_status) (packed (decided_status i (Succeeded s)))
      (λ y. SameSeat x.view y.view
      × DecidedAs x p i (committed s) (packed (undecided_status i)) (packed (b.status p)) y) in
      let here : at_number (b.status p).number = λ able found.
      let step = success_step form z k.kept.few id b t t.words h late k.kept.shared k.world x.view
      (own_here form z b t h late views k id x at live) (mine form z b t h late views k id x at live).noted x.knows
      (known_here form z b t h late views k id x at live) (owned_here form z b t h late views k id x at live) p s small pending able in
      let y : ℕ = code p (b.status p).number in let h' : History = commit h y s in
      decided id x live b t h late views k at p (Succeeded s) lt pending (λ i. i) (λ o. o)
      (with_values t (cells_now h') h'.plain t.attempt t.words) refl refl h' (after_decision x.knows y (committed s))
      (λ u. SameSeat x.view u.view
      × DecidedAs x p (b.status p).number (committed s) (packed (undecided_status (b.status p).number)) (packed (b.status p)) u)
      step ((steps_here form z b t h late views k id x at live).succeeds p s small pending able).owned ((refl, refl, refl, refl, refl), record { hit = λ _. refl; miss = λ ne. absurd (ne found) }) in
      subst at_number (ap (λ (u : Status). u.number) is) here may hit

  -- attempt a of pass p takes effect at the stamp s
  pub whole_succeed : (slots id : ℕ) (me : WholeMine) (p a s : ℕ) → me.0.view.size ≡ z → me.0.view.live ≡ true
      → IsAttempt z p a → MaySucceed me.0.view me.0.knows p a s
      → let old : ℕ = packed (undecided_status a) in let new : ℕ = packed (decided_status a (Succeeded s)) in
      Allows (WholeHolds form z) slots id me (address z (at_own p own_status)) (λ n. either (eqb n old) new n)
      (whole_decides (step slots (address z (at_own p own_status)) old new none) me)
  whole_succeed slots id me p a s sized live inside may = whole_swapped form z slots id me (at_own p own_status)
      (packed (undecided_status a)) (packed (decided_status a (Succeeded s)))
      (HasDecided me.0 (packed (undecided_status a)) (packed (decided_status a (Succeeded s)))) (inside.0, tt) sized
      (decided_hits id me.0 p a (Succeeded s) (committed s) inside.1 may.low refl (success_hits id me.0 p a s live inside may))
      (decision_misses id me.0 p (packed (undecided_status a))
      (λ y. y ≡ record me.0 {
        view = after_decided me.0.view p (unpacked (packed (undecided_status a))).number;
        knows = after_decision me.0.knows (code p (unpacked (packed (undecided_status a))).number)
            (verdict_by (unpacked (packed (decided_status a (Succeeded s)))).stage);
      }) live (inside.0, tt))

  failure_hits : (id : ℕ) (x : Whole) (p a : ℕ) (cause : Cause) → x.view.live ≡ true → IsAttempt z p a
      → StageInRange (stage_by cause) → MayFail x.view x.knows p a cause
      → WholeHits form z id x (at_own p own_status) (packed (undecided_status a)) (packed (decided_status a (stage_by cause)))
      (λ r y. SameSeat x.view y.view × DecidedAs x p a (aborted cause) (packed (undecided_status a)) r y)
  failure_hits id x p a cause live inside in_range may b t h late views k at hit =
      let few : z.seats ≤ 32 = k.kept.few in let lt = inside.0 in let small : p < 64 = omega arith in
      let is : b.status p ≡ undecided_status a = found_undecided b t h late views k p a inside.1 hit in
      let pending : IsOpen (b.status p).stage = subst (λ (u : Status). IsOpen u.stage) (sym is) tt in
      let at_number : ℕ → Type 0 = λ i. MayFail x.view x.knows p i cause
      → packed (b.status p) ≡ packed (undecided_status i)
      → WholeGoes form z b views id (at_own p own_status) (packed (decided_status i (stage_by cause)))
      (λ y. SameSeat x.view y.view
      × DecidedAs x p i (aborted cause) (packed (undecided_status i)) (packed (b.status p)) y) in
      let here : at_number (b.status p).number = λ able found.
      let step = failure_step form z k.kept.few id b t t.words h late k.kept.shared k.world x.view
      (own_here form z b t h late views k id x at live) (mine form z b t h late views k id x at live).noted x.knows
      (known_here form z b t h late views k id x at live) (owned_here form z b t h late views k id x at live) p cause small pending in_range able in
      let y : ℕ = code p (b.status p).number in
      decided id x live b t h late views k at p (stage_by cause) lt pending (is_busy cause) (is_closed cause) t refl refl (abort h y cause)
      (after_decision x.knows y (aborted cause))
      (λ u. SameSeat x.view u.view
      × DecidedAs x p (b.status p).number (aborted cause) (packed (undecided_status (b.status p).number)) (packed (b.status p)) u)
      step ((steps_here form z b t h late views k id x at live).fails p cause small pending in_range able).owned ((refl, refl, refl, refl, refl), record { hit = λ _. refl; miss = λ ne. absurd (ne found) }) in
      subst at_number (ap (λ (u : Status). u.number) is) here may hit

  -- attempt a of pass p fails for a cause
  pub whole_fail : (slots id : ℕ) (me : WholeMine) (p a : ℕ) (cause : Cause) → me.0.view.size ≡ z → me.0.view.live ≡ true
      → IsAttempt z p a → StageInRange (stage_by cause) → MayFail me.0.view me.0.knows p a cause
      → let old : ℕ = packed (undecided_status a) in let new : ℕ = packed (decided_status a (stage_by cause)) in
      Allows (WholeHolds form z) slots id me (address z (at_own p own_status)) (λ n. either (eqb n old) new n)
      (whole_decides (step slots (address z (at_own p own_status)) old new none) me)
  whole_fail slots id me p a cause sized live inside in_range may = whole_swapped form z slots id me (at_own p own_status)
      (packed (undecided_status a)) (packed (decided_status a (stage_by cause)))
      (HasDecided me.0 (packed (undecided_status a)) (packed (decided_status a (stage_by cause)))) (inside.0, tt) sized
      (decided_hits id me.0 p a (stage_by cause) (aborted cause) inside.1 in_range
      (fails_so me.0.view me.0.knows p a cause may) (failure_hits id me.0 p a cause live inside in_range may))
      (decision_misses id me.0 p (packed (undecided_status a))
      (λ y. y ≡ record me.0 {
        view = after_decided me.0.view p (unpacked (packed (undecided_status a))).number;
        knows = after_decision me.0.knows (code p (unpacked (packed (undecided_status a))).number)
            (verdict_by (unpacked (packed (decided_status a (stage_by cause)))).stage);
      }) live (inside.0, tt))

  withdrawal_hits : (id : ℕ) (x : Whole) → x.view.live ≡ true → Inside z (at_own x.view.seat own_status)
      → let a : ℕ = x.knows.own.number in let old : ℕ = packed (undecided_status a) in
      WholeHits form z id x (at_own x.view.seat own_status) old (packed (decided_status a Withdrawn))
      (λ r y. SameSeat x.view y.view × HasWithdrawn x old r y (at_own x.view.seat own_status))
  withdrawal_hits id x live in_p b t h late views k at hit =
      let known = known_here form z b t h late views k id x at live in
      let own = own_here form z b t h late views k id x at live in
      let at_seat : ℕ × ℕ → Type 0 = λ i. packed (b.status i.0) ≡ packed (undecided_status i.1)
      → WholeGoes form z b views id (at_own i.0 own_status) (packed (decided_status i.1 Withdrawn))
      (λ y. SameSeat x.view y.view × StatusTried x i.0 (packed (undecided_status i.1)) (packed (b.status i.0))
      (λ y'. y' ≡ record x { view = after_decided x.view i.0 i.1; knows = after_withdrawal x.knows (code i.0 i.1) (aborted withdrawn) }) y) in
      let here : at_seat (id, (b.status id).number) = λ found.
      let is = found_undecided b t h late views k id (b.status id).number (k.kept.shared.statuses id).0 found in
      let pending : IsOpen (b.status id).stage = subst (λ (u : Status). IsOpen u.stage) (sym is) tt in
      let step = withdraw_step form z k.kept.few id b t t.words h late k.kept.shared k.world x.view own
      (mine form z b t h late views k id x at live).noted x.knows known (owned_here form z b t h late views k id x at live) pending in
      let y : ℕ = code id (b.status id).number in
      decided id x live b t h late views k at id Withdrawn own.seated.1 pending (λ i. i) (λ o. o) t refl refl (abort h y withdrawn)
      (after_withdrawal x.knows y (aborted withdrawn))
      (λ u. SameSeat x.view u.view × StatusTried x id (packed (undecided_status (b.status id).number)) (packed (b.status id))
      (λ y'. y' ≡ record x { view = after_decided x.view id (b.status id).number; knows = after_withdrawal x.knows y (aborted withdrawn) }) u)
      step ((steps_here form z b t h late views k id x at live).withdraws pending).owned ((refl, refl, refl, refl, refl), record { hit = λ _. refl; miss = λ ne. absurd (ne found) }) in
      subst at_seat (λ i. (sym own.seated.0 i, known.own.number i)) here hit

  -- the pass withdraws its own attempt
  pub whole_withdraw : (slots id : ℕ) (me : WholeMine) → me.0.view.size ≡ z → me.0.view.live ≡ true
      → Inside z (at_own me.0.view.seat own_status)
      → let a : ℕ = me.0.knows.own.number in let old : ℕ = packed (undecided_status a) in
      let new : ℕ = packed (decided_status a Withdrawn) in
      Allows (WholeHolds form z) slots id me (address z (at_own me.0.view.seat own_status)) (λ n. either (eqb n old) new n)
      (whole_withdraws (step slots (address z (at_own me.0.view.seat own_status)) old new none) me)
  whole_withdraw slots id me sized live in_p = let a : ℕ = me.0.knows.own.number in
      whole_swapped form z slots id me (at_own me.0.view.seat own_status)
      (packed (undecided_status a)) (packed (decided_status a Withdrawn))
      (HasWithdrawn me.0 (packed (undecided_status a))) in_p sized
      (withdrawal_hits id me.0 live in_p)
      (decision_misses id me.0 me.0.view.seat (packed (undecided_status a))
      (λ y. y ≡ record me.0 { view = after_decided me.0.view me.0.view.seat a; knows = after_withdrawal me.0.knows (code me.0.view.seat a) (aborted withdrawn) }) live in_p)
