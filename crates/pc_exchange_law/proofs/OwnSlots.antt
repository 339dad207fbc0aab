-- What a pass has of slots stays at the steps of others, and goes on at its own.
use Rattle.std.proofs.Common.{◌≡◌, ◌≢◌, ℕ, zero, suc, List, [], ◌∷◌, ◌+◌, ◌-◌, ◌<◌, ◌≤◌, le_refl, ◌==◌, ⊎_elim, Bool, true, false, Option, Some, None, refl, sym, ap, ◌∙◌, subst, arith}
use Rattle.std.proofs.lemmas.Bool.{cases_eq, cases_lt, eq-eqb, ne_eqb, cond-true, cond-false}
use Rattle.std.proofs.lemmas.Bool.Decides.{nat_tests}
use mathlib.Core.Logic.{dite}
use native.Mathlib.Decide.{ℕ_discrete}
use Rattle.pc_model.specs.declared.cell.Field.{Field}
use Rattle.pc_model.specs.declared.cell.Field.TheVariants.{Version}
use Rattle.pc_model.specs.Cells.{Cells, field_number}
use Rattle.pc_model.specs.Exchanges.{FreshNode, Exchange}
use Rattle.pc_model.proofs.Writes.{same_field}
use Rattle.pc_history.specs.WorldRuns.{run_of}
use Rattle.pc_history.proofs.Updates.{updated_here, updated_other, on_updated, from_updated}
use Rattle.pc_rule_law.specs.Board.{Size, slots_below, start_of}
use Rattle.pc_protocol.specs.Histories.{Cause, Stage, absent, undecided, committed, aborted, Slot, spare, used, History, cells_now, IsUndecided, IsDecided, IsFree, IsSpare, IsUsed}
use Rattle.pc_protocol.specs.Notes.{Note, in_use, verdict, IsTrueNote}
use Rattle.pc_protocol.specs.Openings.{opening_slots}
use Rattle.pc_protocol.specs.Owned.{HasSpare, IsFilled, KeepsOwned, StepsKeepOwned, MakesNot}
use Rattle.pc_protocol.specs.Rules.{Rule}
use Rattle.pc_protocol.specs.Steps.{slots_with, publish, fill, take_slot, commit, CanCommit, abort, CanAbort}
use Rattle.pc_protocol.proofs.Drawn.{is_empty}
use Rattle.pc_protocol.proofs.Owned.{steps_keep_owned}
use Rattle.pc_protocol.proofs.Slots.{slots_with-used, slots_with-fresh, slots_with-other}
use Rattle.pc_protocol.proofs.Stages.{none_not_some, some_same, same_option, free_not_spare, free_not_used, decided_not_undecided}
use Rattle.pc_rule_law.specs.Past.{Has}
use Rattle.pc_rule_law.proofs.Lists.{all_none, all_one}
use Rattle.pc_exchange_law.specs.Attempts.{OwnAttempt}
use Rattle.pc_exchange_law.specs.AttemptSteps.{first_attempt}
use Rattle.pc_exchange_law.specs.OwnSlots.{IsOfShare, OwnSlots, first_slots, HoldsSpare, HoldsBy, Makes, OwnsSlots, makes_one, MakesOwn, with_spare, with_filled, filled_in, spare_left, still_spare, slots_cleared, made_by}
use Rattle.pc_exchange_law.specs.SlotCounts.{count_of, node_made, nodes_made}
use Rattle.pc_exchange_law.specs.TieLaws.{opening_history}
use Rattle.pc_exchange_law.specs.Ties.{code, seat_in}
use Rattle.pc_exchange_law.proofs.Codes.{of_code}
use Rattle.pc_exchange_law.proofs.SlotCounts.{counts, counts_none, made_with, made_none}

-- a slot is of one share
pub below_next : (shares : List ℕ) (j : ℕ) → slots_below shares j ≤ slots_below shares (suc j)
below_next [] j = omega arith
below_next (x ∷ shares) zero = omega arith
below_next (x ∷ shares) (suc j) = let l = below_next shares j in omega arith

below_later : (shares : List ℕ) (j d : ℕ) → slots_below shares j ≤ slots_below shares (j + d)
below_later shares j zero = subst (λ (k : ℕ). slots_below shares j ≤ slots_below shares k) (let e : j ≡ j + 0 = omega arith in e)
    (le_refl (slots_below shares j))
below_later shares j (suc d) = let l : slots_below shares j ≤ slots_below shares (j + d) = below_later shares j d in
    let m : slots_below shares (j + d) ≤ slots_below shares (suc (j + d)) = below_next shares (j + d) in
    subst (λ (k : ℕ). slots_below shares j ≤ slots_below shares k) (let e : suc (j + d) ≡ j + suc d = omega arith in e) (omega arith)

not_below : (z : Size) (i j n : ℕ) → i < j → IsOfShare z i n → IsOfShare z j n → ⊥
not_below z i j n lt of_i of_j =
    let there : (i + 1) + (j - (i + 1)) ≡ j = omega arith in
    let far : slots_below z.shares (i + 1) ≤ slots_below z.shares j = subst (λ (k : ℕ). slots_below z.shares (i + 1) ≤ slots_below z.shares k)
    there (below_later z.shares (i + 1) (j - (i + 1))) in
    let low = of_i.1 in let high = of_j.0 in omega arith

pub one_share : (z : Size) (i j n : ℕ) → IsOfShare z i n → IsOfShare z j n → i ≡ j
one_share z i j n of_i of_j = ⊎_elim
    (λ lt. absurd (not_below z i j n lt of_i of_j))
    (λ le. ⊎_elim (λ back. absurd (not_below z j i n back of_j of_i)) (λ other. omega arith) (cases_lt j i))
    (cases_lt i j)

-- what an attempt makes is held as a spare until it takes effect
held_before : (st : Stage) (h : History) (o : OwnSlots) (n : ℕ) → IsUndecided st → HoldsBy st h o n → HoldsSpare h o n
held_before absent h o n u holds = holds
held_before undecided h o n u holds = holds
held_before (committed s) h o n u holds = absurd u
held_before (aborted cause) h o n u holds = holds

module _ (z : Size) (h h' : History) (j : ℕ) (own : OwnAttempt) (o : OwnSlots) (n : ℕ)
    (spares : (v : ℕ) → HasSpare h n v → HasSpare h' n v)
    (filled : (w : ℕ) (f : Field) → IsFilled h n f w → IsFilled h' n f w) where
  pub holds_then : HoldsSpare h o n → HoldsSpare h' o n
  holds_then s = record {
    spare = spares o.version s.spare;
    raised = (s.raised.0, filled s.raised.0 Version s.raised.1, s.raised.2);
    filled = λ f w is. filled w f (s.filled f w is);
  }

  pub held_then : (st : Stage) → (IsUsed (h.slot n) → IsUsed (h'.slot n)) → HoldsBy st h o n → HoldsBy st h' o n
  held_then absent stays holds = holds_then holds
  held_then undecided stays holds = holds_then holds
  held_then (committed s) stays holds = stays holds
  held_then (aborted cause) stays holds = holds_then holds

-- what is left of a spare: none of none; all of one that no attempt makes, or only an undecided one
none_left : (st : Stage) (b : Bool) → spare_left st b None ≡ None
none_left absent b = refl
none_left undecided b = refl
none_left (committed s) true = refl
none_left (committed s) false = refl
none_left (aborted cause) b = refl

pub unnamed_left : (st : Stage) (p : Option ℕ) → spare_left st false p ≡ p
unnamed_left absent p = refl
unnamed_left undecided p = refl
unnamed_left (committed s) p = refl
unnamed_left (aborted cause) p = refl

undecided_left : (st : Stage) (b : Bool) (p : Option ℕ) → IsUndecided st → spare_left st b p ≡ p
undecided_left absent b p u = refl
undecided_left undecided b p u = refl
undecided_left (committed s) b p u = absurd u
undecided_left (aborted cause) b p u = refl

-- a count goes on where each part is the same, and where one part gives what the other one gets
same_count : (n a b c b' c' : ℕ) → n ≡ a + (b + c) → b' ≡ b → c' ≡ c → n ≡ a + (b' + c')
same_count n a b c b' c' before same same' = omega arith

moved_count : (n a b c b' c' m : ℕ) → n ≡ a + (b + c) → b' + m ≡ b → c' ≡ c + m → n ≡ a + (b' + c')
moved_count n a b c b' c' m before given got = omega arith

-- a slot that is free once an exchange took effect was free before
free_before : (f : Option FreshNode) (slot : ℕ → Slot) (n : ℕ) → IsFree (slots_with f slot n) → IsFree (slot n)
free_before None slot n is = is
free_before (Some g) slot n is = ⊎_elim (λ here. absurd here.1) (λ other. other.1) (from_updated slot g.node used IsFree n is)

-- where slots, stages and exchanges stay, and the run makes as many nodes
module _ (z : Size) (h h' : History) (j : ℕ) (own : OwnAttempt) (o : OwnSlots) (was : OwnsSlots z h j own o) where
  pub same_slots : ((n v : ℕ) → HasSpare h n v → HasSpare h' n v)
      → ((n w : ℕ) (f : Field) → IsFilled h n f w → IsFilled h' n f w) → h'.slot ≡ h.slot → h'.stage ≡ h.stage
      → h'.op ≡ h.op → nodes_made z j (run_of h'.item h'.clock) ≡ nodes_made z j (run_of h.item h.clock)
      → OwnsSlots z h' j own o
  same_slots spares filled slots stages ops made = record {
    begins = was.begins;
    within = was.within;
    ends = was.ends;
    free = λ n le lt. subst (λ (s : ℕ → Slot). IsFree (s n)) (sym slots) (was.free n le lt);
    taken = λ n le lt is. was.taken n le lt (subst (λ (s : ℕ → Slot). IsFree (s n)) slots is);
    counted = same_count _ _ _ _ _ _ was.counted
        (ap (λ (u : ℕ → Stage). count_of (spare_left (u (code j own.number)) o.named o.spare)) stages) made;
    of_share = was.of_share;
    unnamed = λ n is no. holds_then z h h' j own o n (spares n) (filled n) (was.unnamed n is no);
    named = λ n is yes. let m = was.named n is yes in record {
      fresh = m.fresh;
      of_exchange = ap (λ (u : ℕ → Exchange). (u (code j own.number)).fresh) ops ∙ m.of_exchange;
      at_node = m.at_node;
      holds = subst (λ (u : ℕ → Stage). HoldsBy (u (code j own.number)) h' o n) (sym stages)
          (held_then z h h' j own o n (spares n) (filled n) (h.stage (code j own.number))
          (λ u. subst (λ (s : ℕ → Slot). IsUsed (s n)) (sym slots) u) m.holds);
    };
    rests = was.rests;
    names = λ x g seat u is. was.names x g seat (subst (λ (v : ℕ → Stage). IsUndecided (v x)) stages u)
        (ap (λ (v : ℕ → Exchange). (v x).fresh) (sym ops) ∙ is);
  }

-- an exchange fails
module _ (z : Size) (h : History) (rule : Rule h) (x : ℕ) (cause : Cause) (can : CanAbort h x cause) (j : ℕ) (own : OwnAttempt)
    (o : OwnSlots) (was : OwnsSlots z h j own o) where
  abbrev failed : History
  failed = abort h x cause

  keeps_all : KeepsOwned h failed
  keeps_all = (steps_keep_owned h rule).aborts x cause

  spare_failed : count_of (still_spare failed j own o) ≡ count_of (still_spare h j own o)
  spare_failed = on_updated h.stage x (aborted cause)
      (λ (st : Stage). count_of (spare_left st o.named o.spare) ≡ count_of (still_spare h j own o)) (code j own.number)
      (λ here. ap count_of (sym (undecided_left (h.stage (code j own.number)) o.named o.spare
      (subst (λ (i : ℕ). IsUndecided (h.stage i)) (sym here) can.undecided))))
      (λ _. refl)

  pub abort_slots : OwnsSlots z failed j own o
  abort_slots = record {
    begins = was.begins;
    within = was.within;
    ends = was.ends;
    free = was.free;
    taken = was.taken;
    counted = same_count _ _ _ _ _ _ was.counted spare_failed refl;
    of_share = was.of_share;
    unnamed = λ n is no. holds_then z h failed j own o n (keeps_all.spares n) (keeps_all.filled n) (was.unnamed n is no);
    named = λ n is yes. let m = was.named n is yes in record {
      fresh = m.fresh;
      of_exchange = m.of_exchange;
      at_node = m.at_node;
      holds = on_updated h.stage x (aborted cause) (λ (st : Stage). HoldsBy st failed o n) (code j own.number)
          (λ here. holds_then z h failed j own o n (keeps_all.spares n) (keeps_all.filled n)
          (held_before (h.stage (code j own.number)) h o n (subst (λ (i : ℕ). IsUndecided (h.stage i)) (sym here) can.undecided)
          m.holds))
          (λ _. held_then z h failed j own o n (keeps_all.spares n) (keeps_all.filled n) (h.stage (code j own.number)) (λ u. u)
          m.holds);
    };
    rests = was.rests;
    names = λ y g seat u is. was.names y g seat (⊎_elim (λ here. absurd here.1) (λ other. other.1)
        (from_updated h.stage x (aborted cause) IsUndecided y u)) is;
  }

-- an exchange takes effect, which makes a node of its own pass's share
module _ (z : Size) (h : History) (rule : Rule h) (x s : ℕ) (can : CanCommit h x s)
    (made : (g : FreshNode) → (h.op x).fresh ≡ Some g → IsOfShare z (seat_in x) g.node) (j : ℕ) (own : OwnAttempt)
    (o : OwnSlots) (was : OwnsSlots z h j own o) where
  abbrev won : History
  won = commit h x s

  -- where it makes the spare's node, it is the own attempt
  made_own : (n : ℕ) (g : FreshNode) → o.spare ≡ Some n → (h.op x).fresh ≡ Some g → n ≡ g.node
      → (o.named ≡ true) × (x ≡ code j own.number)
  made_own n g is fresh same =
      let seat : seat_in x ≡ j = one_share z (seat_in x) j n
      (subst (IsOfShare z (seat_in x)) (sym same) (made g fresh)) (was.of_share n is) in
      let names = was.names x g seat can.undecided fresh in (names.0, names.2)

  holds_won : (n : ℕ) → MakesNot (h.op x) n → HoldsSpare h o n → HoldsSpare won o n
  holds_won n other = holds_then z h won j own o n (λ v. (steps_keep_owned h rule).commits_spares x s n v can other)
      (λ w f. (steps_keep_owned h rule).commits_filled x s n w f can other)

  still_used : (n : ℕ) → IsUsed (h.slot n) → IsUsed (won.slot n)
  still_used n = slots_with-used (h.op x).fresh h.slot n

  named_won : (n : ℕ) → o.spare ≡ Some n → Makes h (code j own.number) o n → HoldsBy (won.stage (code j own.number)) won o n
  named_won n is m = on_updated h.stage x (committed s) (λ (st : Stage). HoldsBy st won o n) (code j own.number)
      (λ here. slots_with-fresh (h.op x).fresh h.slot n m.fresh
      (ap (λ (i : ℕ). (h.op i).fresh) (sym here) ∙ m.of_exchange) (sym m.at_node))
      (λ ne. held_then z h won j own o n
      (λ v. (steps_keep_owned h rule).commits_spares x s n v can
      (λ g fresh same. ne (sym (made_own n g is fresh same).1)))
      (λ w f. (steps_keep_owned h rule).commits_filled x s n w f can
      (λ g fresh same. ne (sym (made_own n g is fresh same).1)))
      (h.stage (code j own.number)) (still_used n) m.holds)

  -- what it makes of the share is the spare, which is none any more
  none_of_share : ((g : FreshNode) → (h.op x).fresh ≡ Some g → seat_in x ≡ j → ⊥) → node_made z j (h.op x).fresh ≡ 0
  none_of_share other = counts_none z j (h.op x).fresh
      (λ g fresh share. other g fresh (one_share z (seat_in x) j g.node (made g fresh) share))

  made_spare : (n : ℕ) → o.spare ≡ Some n → Makes h (code j own.number) o n → code j own.number ≡ x
      → node_made z j (h.op x).fresh ≡ 1
  made_spare n is m here = counts z j (h.op x).fresh m.fresh (ap (λ (i : ℕ). (h.op i).fresh) (sym here) ∙ m.of_exchange)
      (subst (IsOfShare z j) (sym m.at_node) (was.of_share n is))

  spare_won : (b : Bool) → o.named ≡ b → (p : Option ℕ) → o.spare ≡ p
      → count_of (spare_left (won.stage (code j own.number)) b p) + node_made z j (h.op x).fresh
      ≡ count_of (spare_left (h.stage (code j own.number)) b p)
  spare_won b named None is =
      let none = none_of_share (λ g fresh seat. none_not_some g.node (sym is ∙ (was.names x g seat can.undecided fresh).1)) in
      let before = ap count_of (none_left (h.stage (code j own.number)) b) in
      let after = ap count_of (none_left (won.stage (code j own.number)) b) in omega arith
  spare_won false named (Some n) is =
      let none = none_of_share (λ g fresh seat. let clash : true ≡ false = sym (was.names x g seat can.undecided fresh).0 ∙ named in cc) in
      let before = ap count_of (unnamed_left (h.stage (code j own.number)) (Some n)) in
      let after = ap count_of (unnamed_left (won.stage (code j own.number)) (Some n)) in omega arith
  spare_won true named (Some n) is = ⊎_elim
      (λ here. let one = made_spare n is (was.named n is named) here in
      let before = ap count_of (undecided_left (h.stage (code j own.number)) true (Some n)
      (subst (λ (i : ℕ). IsUndecided (h.stage i)) (sym here) can.undecided)) in
      let after = ap (λ (st : Stage). count_of (spare_left st true (Some n))) (updated_here h.stage x (committed s) (code j own.number) here) in
      omega arith)
      (λ other. let none = none_of_share (λ g fresh seat. other (sym (was.names x g seat can.undecided fresh).2)) in
      let after = ap (λ (st : Stage). count_of (spare_left st true (Some n))) (updated_other h.stage x (committed s) (code j own.number) other) in
      omega arith)
      (cases_eq (code j own.number) x)

  pub commit_slots : OwnsSlots z won j own o
  commit_slots = record {
    begins = was.begins;
    within = was.within;
    ends = was.ends;
    taken = λ n le lt is. was.taken n le lt (free_before (h.op x).fresh h.slot n is);
    counted = moved_count _ _ _ _ _ _ _ was.counted (spare_won o.named refl o.spare refl)
        (made_with z j h.item s (h.op x) (is_empty h rule x s can.undecided can.drew) h.clock can.drew.0);
    free = λ n le lt. let is = was.free n le lt in
        subst IsFree (sym (slots_with-other (h.op x).fresh h.slot n (λ g fresh same. free_not_spare (h.slot n) is
        (subst (λ (i : ℕ). IsSpare (h.slot i)) (sym same) (rule.fresh x g can.undecided fresh).is_spare)))) is;
    of_share = was.of_share;
    unnamed = λ n is no. holds_won n (λ g fresh same. let own_one = (made_own n g is fresh same).0 in
        absurd (let clash : true ≡ false = sym own_one ∙ no in cc)) (was.unnamed n is no);
    named = λ n is yes. let m = was.named n is yes in record {
      fresh = m.fresh;
      of_exchange = m.of_exchange;
      at_node = m.at_node;
      holds = named_won n is m;
    };
    rests = was.rests;
    names = λ y g seat u is. was.names y g seat (⊎_elim (λ here. absurd here.1) (λ other. other.1)
        (from_updated h.stage x (committed s) IsUndecided y u)) is;
  }

-- a free slot of the share of the pass at seat id is taken as a spare
module _ (z : Size) (h : History) (rule : Rule h) (id n : ℕ) (is_free : IsFree (h.slot n)) (mine : IsOfShare z id n) where
  abbrev taken : History
  taken = take_slot h n

  keeps_taken : KeepsOwned h taken
  keeps_taken = (steps_keep_owned h rule).takes_slots n is_free

  used_taken : (m : ℕ) → IsUsed (h.slot m) → IsUsed (taken.slot m)
  used_taken m u = subst IsUsed (sym (updated_other h.slot n spare m
      (λ same. free_not_used (h.slot n) is_free (subst (λ (i : ℕ). IsUsed (h.slot i)) same u)))) u

  free_taken : (m : ℕ) → m ≢ n → IsFree (h.slot m) → IsFree (taken.slot m)
  free_taken m ne is = subst IsFree (sym (updated_other h.slot n spare m ne)) is

  still_free : (m : ℕ) → IsFree (taken.slot m) → (m ≢ n) × IsFree (h.slot m)
  still_free m is = ⊎_elim (λ here. absurd here.1) (λ other. other) (from_updated h.slot n spare IsFree m is)

  pub take_others : (j : ℕ) (own : OwnAttempt) (o : OwnSlots) → j ≢ id → OwnsSlots z h j own o → OwnsSlots z taken j own o
  take_others j own o ne was = record {
    begins = was.begins;
    within = was.within;
    ends = was.ends;
    taken = λ m le lt is. was.taken m le lt (still_free m is).1;
    counted = was.counted;
    free = λ m le lt. free_taken m (λ same. let begins = was.begins in let ends = was.ends in
        ne (one_share z j id m (omega arith, omega arith) (subst (IsOfShare z id) (sym same) mine))) (was.free m le lt);
    of_share = was.of_share;
    unnamed = λ m is no. holds_then z h taken j own o m (keeps_taken.spares m) (keeps_taken.filled m) (was.unnamed m is no);
    named = λ m is yes. let made = was.named m is yes in record {
      fresh = made.fresh;
      of_exchange = made.of_exchange;
      at_node = made.at_node;
      holds = held_then z h taken j own o m (keeps_taken.spares m) (keeps_taken.filled m) (h.stage (code j own.number))
          (used_taken m) made.holds;
    };
    rests = was.rests;
    names = was.names;
  }

  -- it is the next one of the share, and its version is this one
  pub take_own : (own : OwnAttempt) (o : OwnSlots) (v : ℕ) → own.busy ≡ false → o.spare ≡ None → n ≡ o.next → h.plain n Version ≡ v
      → cells_now h n Version ≡ v → OwnsSlots z h id own o → OwnsSlots z taken id own (with_spare o v)
  take_own own o v rests none next plain now was =
      let is_spare : IsSpare (taken.slot n) = subst IsSpare (sym (updated_here h.slot n spare n refl)) tt in record {
        begins = let before = was.begins in omega arith;
        within = let ends = was.ends in let inside = mine.1 in omega arith;
        ends = was.ends;
        taken = λ m le lt is. let still = still_free m is in was.taken m le (let other = still.0 in omega arith) still.1;
        counted = let before = was.counted in
            let had = ap count_of (ap (spare_left (h.stage (code id own.number)) o.named) none ∙ none_left (h.stage (code id own.number)) o.named) in
            let has = ap count_of (unnamed_left (h.stage (code id own.number)) (Some o.next)) in omega arith;
        free = λ m le lt. free_taken m (λ same. omega arith) (was.free m (omega arith) lt);
        of_share = λ m is. subst (IsOfShare z id) (next ∙ same_option (Some o.next) o.next m refl is) mine;
        unnamed = λ m is _. subst (HoldsSpare taken (with_spare o v)) (next ∙ same_option (Some o.next) o.next m refl is) record {
          spare = (is_spare, now);
          raised = (v, (is_spare, plain), omega arith);
          filled = λ f w none. absurd (none_not_some w none);
        };
        named = λ m is yes. absurd (let clash : false ≡ true = yes in cc);
        rests = λ _. refl;
        names = λ x g seat u is. let before = was.names x g seat u is in
            absurd (let clash : true ≡ false = sym before.0 ∙ was.rests rests in cc);
      }

-- a number is filled into a word of the spare of the pass at seat id, which rests
module _ (z : Size) (h : History) (rule : Rule h) (id n : ℕ) (f : Field) (v : ℕ) (mine : IsOfShare z id n) where
  abbrev filled_so : History
  filled_so = fill h n f v

  abbrev owned_too : StepsKeepOwned h
  owned_too = steps_keep_owned h rule

  pub fill_others : (j : ℕ) (own : OwnAttempt) (o : OwnSlots) → j ≢ id → OwnsSlots z h j own o → OwnsSlots z filled_so j own o
  fill_others j own o ne was =
      let apart : (m : ℕ) → o.spare ≡ Some m → m ≢ n = λ m is same. ne (one_share z j id m (was.of_share m is)
      (subst (IsOfShare z id) (sym same) mine)) in record {
        begins = was.begins;
        within = was.within;
        ends = was.ends;
        free = was.free;
        taken = was.taken;
        counted = was.counted;
        of_share = was.of_share;
        unnamed = λ m is no. holds_then z h filled_so j own o m (λ w. owned_too.fills_spares n f v m w)
            (λ w g. owned_too.fills_filled n f v m w g (λ same. absurd (apart m is same))) (was.unnamed m is no);
        named = λ m is yes. let made = was.named m is yes in record {
          fresh = made.fresh;
          of_exchange = made.of_exchange;
          at_node = made.at_node;
          holds = held_then z h filled_so j own o m (λ w. owned_too.fills_spares n f v m w)
              (λ w g. owned_too.fills_filled n f v m w g (λ same. absurd (apart m is same))) (h.stage (code j own.number))
              (λ u. u) made.holds;
        };
        rests = was.rests;
        names = was.names;
      }

  module _ (own : OwnAttempt) (o : OwnSlots) (rests : own.busy ≡ false) (is_spare : o.spare ≡ Some n)
      (version : f ≡ Version → v ≡ o.version + 1) (was : OwnsSlots z h id own o) where
    spare_was : HoldsSpare h o n
    spare_was = was.unnamed n is_spare (was.rests rests)

    filled_then : (g : Field) (w : ℕ) → filled_in ((f, v) ∷ o.filled) g ≡ Some w → IsFilled filled_so n g w
    filled_then g w is = dite (ℕ_discrete (field_number g) (field_number f))
        (λ e. let same : g ≡ f = same_field g f e in
        let one : v ≡ w = some_same v w (sym (cond-true (field_number g == field_number f) (Some v) (filled_in o.filled g) (eq-eqb (field_number g) (field_number f) e)) ∙ is) in
        subst (λ (i : Field). IsFilled filled_so n i w) (sym same) (subst (IsFilled filled_so n f) one (owned_too.begins_filled n v f spare_was.spare.0)))
        (λ ne. owned_too.fills_filled n f v n w g (λ _ same. ne (ap field_number same))
        (spare_was.filled g w (sym (cond-false (field_number g == field_number f) (Some v) (filled_in o.filled g) (ne_eqb (field_number g) (field_number f) ne)) ∙ is)))

    raised_then : (w : ℕ) × IsFilled filled_so n Version w × (w ≤ o.version + 1)
    raised_then = dite (ℕ_discrete (field_number Version) (field_number f))
        (λ e. let same : Version ≡ f = same_field Version f e in let at = version (sym same) in
        (v, subst (λ (i : Field). IsFilled filled_so n i v) (sym same) (owned_too.begins_filled n v f spare_was.spare.0), omega arith))
        (λ ne. let r = spare_was.raised in
        (r.0, owned_too.fills_filled n f v n r.0 Version (λ _ same. ne (ap field_number same)) r.1, r.2))

    pub fill_own : OwnsSlots z filled_so id own (with_filled o f v)
    fill_own = record {
      begins = was.begins;
      within = was.within;
      ends = was.ends;
      free = was.free;
      taken = was.taken;
      counted = was.counted;
      of_share = was.of_share;
      unnamed = λ m is _. subst (HoldsSpare filled_so (with_filled o f v)) (same_option o.spare n m is_spare is) record {
        spare = owned_too.fills_spares n f v n o.version spare_was.spare;
        raised = raised_then;
        filled = filled_then;
      };
      named = λ m is yes. absurd (let clash : true ≡ false = sym yes ∙ was.rests rests in cc);
      rests = was.rests;
      names = was.names;
    }

-- a pass publishes an exchange
module _ (z : Size) (h : History) (rule : Rule h) (id a : ℕ) (e : Exchange) (c : ℕ) (small : id < 64) where
  abbrev x : ℕ
  x = code id a

  abbrev out : History
  out = publish h x e c

  keeps_out : KeepsOwned h out
  keeps_out = (steps_keep_owned h rule).publishes x e c

  pub publish_slots : (j : ℕ) (own : OwnAttempt) (o : OwnSlots) → j < 64 → j ≢ id → OwnsSlots z h j own o
      → OwnsSlots z out j own o
  publish_slots j own o low ne was =
      let apart : (i : ℕ) → code j i ≢ x = λ i same. ne (sym (of_code j i low) ∙ (ap seat_in same ∙ of_code id a small)) in record {
        begins = was.begins;
        within = was.within;
        ends = was.ends;
        free = was.free;
        taken = was.taken;
        counted = same_count _ _ _ _ _ _ was.counted
            (ap (λ (st : Stage). count_of (spare_left st o.named o.spare))
            (updated_other h.stage x undecided (code j own.number) (apart own.number))) refl;
        of_share = was.of_share;
        unnamed = λ n is no. holds_then z h out j own o n (keeps_out.spares n) (keeps_out.filled n) (was.unnamed n is no);
        named = λ n is yes. let m = was.named n is yes in record {
          fresh = m.fresh;
          of_exchange = ap (λ (u : Exchange). u.fresh) (updated_other h.op x e (code j own.number) (apart own.number)) ∙ m.of_exchange;
          at_node = m.at_node;
          holds = subst (λ (st : Stage). HoldsBy st out o n)
              (sym (updated_other h.stage x undecided (code j own.number) (apart own.number)))
              (held_then z h out j own o n (keeps_out.spares n) (keeps_out.filled n) (h.stage (code j own.number)) (λ u. u) m.holds);
        };
        rests = was.rests;
        names = λ y g seat u is.
            let other : y ≢ x = λ same. ne (sym seat ∙ (ap seat_in same ∙ of_code id a small)) in
            was.names y g seat (subst IsUndecided (updated_other h.stage x undecided y other) u)
            (ap (λ (v : Exchange). v.fresh) (sym (updated_other h.op x e y other)) ∙ is);
      }

  -- what its own slots are then: it rested before
  module _ (own next : OwnAttempt) (o : OwnSlots) (rests : own.busy ≡ false) (number : next.number ≡ a)
      (busy : next.busy ≡ true) (was : OwnsSlots z h id own o) (makes : MakesOwn o e.fresh) where
    abbrev o' : OwnSlots
    o' = record o { named = makes_one e.fresh }

    spare_before : (n : ℕ) → o.spare ≡ Some n → HoldsSpare h o n
    spare_before n is = was.unnamed n is (was.rests rests)

    spare_after : (n : ℕ) → o.spare ≡ Some n → HoldsSpare out o' n
    spare_after n is = let s = holds_then z h out id own o n (keeps_out.spares n) (keeps_out.filled n) (spare_before n is) in
        record { spare = s.spare; raised = s.raised; filled = s.filled }

    makes_spare : (f : Option FreshNode) → MakesOwn o f → makes_one f ≡ true → (n : ℕ) → o.spare ≡ Some n
        → (g : FreshNode) × (f ≡ Some g) × (g.node ≡ n)
    makes_spare None makes' one n is = absurd (let clash : false ≡ true = one in cc)
    makes_spare (Some g) makes' one n is = (g, refl, same_option o.spare g.node n makes'.0 is)

    makes_it : (f : Option FreshNode) → MakesOwn o f → (g : FreshNode) → f ≡ Some g
        → (makes_one f ≡ true) × (o.spare ≡ Some g.node)
    makes_it None makes' g is = absurd (none_not_some g is)
    makes_it (Some k) makes' g is = (refl, makes'.0 ∙ ap (λ (u : Option FreshNode). node_of u k.node) is)
      where
        node_of : Option FreshNode → ℕ → Option ℕ
        node_of None d = None
        node_of (Some u) d = Some u.node

    at_next : code id next.number ≡ x
    at_next = ap (code id) number

    pub publish_own : OwnsSlots z out id next o'
    publish_own = record {
      begins = was.begins;
      within = was.within;
      ends = was.ends;
      free = was.free;
      taken = was.taken;
      counted = same_count _ _ _ _ _ _ was.counted
          (ap (λ (st : Stage). count_of (spare_left st o'.named o.spare)) (updated_here h.stage x undecided (code id next.number) at_next)
          ∙ ap count_of (sym (ap (λ (b : Bool). spare_left (h.stage (code id own.number)) b o.spare) (was.rests rests)
          ∙ unnamed_left (h.stage (code id own.number)) o.spare))) refl;
      of_share = was.of_share;
      unnamed = λ n is _. spare_after n is;
      named = λ n is yes. let m = makes_spare e.fresh makes yes n is in record {
        fresh = m.0;
        of_exchange = ap (λ (u : Exchange). u.fresh) (updated_here h.op x e (code id next.number) at_next) ∙ m.1;
        at_node = m.2;
        holds = subst (λ (st : Stage). HoldsBy st out o' n)
            (sym (updated_here h.stage x undecided (code id next.number) at_next)) (spare_after n is);
      };
      rests = λ no. absurd (let clash : true ≡ false = sym busy ∙ no in cc);
      names = λ y g seat u is. ⊎_elim
          (λ here. let f : e.fresh ≡ Some g = ap (λ (v : Exchange). v.fresh) (sym (updated_here h.op x e y here)) ∙ is in
          let m = makes_it e.fresh makes g f in (m.0, m.1, here ∙ sym at_next))
          (λ other. let before = was.names y g seat (subst IsUndecided (updated_other h.stage x undecided y other) u)
          (ap (λ (v : Exchange). v.fresh) (sym (updated_other h.op x e y other)) ∙ is) in
          absurd (let clash : true ≡ false = sym before.0 ∙ was.rests rests in cc))
          (cases_eq y x);
    }

-- where the own attempt changes otherwise, but for its number
pub rewritten : (z : Size) (h : History) (j : ℕ) (own : OwnAttempt) (o : OwnSlots) → OwnsSlots z h j own o → (next : OwnAttempt)
    → next.number ≡ own.number → (next.busy ≡ false → own.busy ≡ false) → OwnsSlots z h j next o
rewritten z h j own o was next number rests = record {
  begins = was.begins;
  within = was.within;
  ends = was.ends;
  free = was.free;
  taken = was.taken;
  counted = same_count _ _ _ _ _ _ was.counted
      (ap (λ (i : ℕ). count_of (spare_left (h.stage (code j i)) o.named o.spare)) number) refl;
  of_share = was.of_share;
  unnamed = was.unnamed;
  named = λ n is named. subst (λ (i : ℕ). Makes h (code j i) o n) (sym number) (was.named n is named);
  rests = λ r. was.rests (rests r);
  names = λ x g seat u is. let before = was.names x g seat u is in (before.0, before.1, before.2 ∙ ap (code j) (sym number));
}

-- a pass clears its own attempt, which is decided
module _ (z : Size) (h : History) (id : ℕ) (own : OwnAttempt) (o : OwnSlots) (was : OwnsSlots z h id own o) (st : Stage)
    (told : IsTrueNote h (verdict (code id own.number) st)) where
  held_after : (u : Stage) → IsDecided u → (n : ℕ) → HoldsBy u h o n → spare_left u true (Some n) ≡ Some n → HoldsSpare h o n
  held_after absent d n holds is = holds
  held_after undecided d n holds is = holds
  held_after (committed s) d n holds is = absurd (none_not_some n is)
  held_after (aborted cause) d n holds is = holds

  left_spare : (u : Stage) (b : Bool) (p : Option ℕ) (n : ℕ) → spare_left u b p ≡ Some n → p ≡ Some n
  left_spare absent b p n is = is
  left_spare undecided b p n is = is
  left_spare (committed s) true p n is = absurd (none_not_some n is)
  left_spare (committed s) false p n is = is
  left_spare (aborted cause) b p n is = is

  spare_then : (b : Bool) → o.named ≡ b → (n : ℕ) → spare_left st b o.spare ≡ Some n → HoldsSpare h o n
  spare_then true named n is =
      let before : o.spare ≡ Some n = left_spare st true o.spare n is in
      held_after st told.1 n (subst (λ (u : Stage). HoldsBy u h o n) told.0 (was.named n before named).holds)
      (ap (spare_left st true) (sym before) ∙ is)
  spare_then false named n is = was.unnamed n (left_spare st false o.spare n is) named

  pub clear_own : OwnsSlots z h id (record own { busy = false }) (slots_cleared o st)
  clear_own = record {
    begins = was.begins;
    within = was.within;
    ends = was.ends;
    free = was.free;
    taken = was.taken;
    counted = same_count _ _ _ _ _ _ was.counted
        (ap count_of (unnamed_left (h.stage (code id own.number)) (spare_left st o.named o.spare)
        ∙ ap (λ (u : Stage). spare_left u o.named o.spare) (sym told.0))) refl;
    of_share = λ n is. was.of_share n (left_spare st o.named o.spare n is);
    unnamed = λ n is _. let s = spare_then o.named refl n is in record { spare = s.spare; raised = s.raised; filled = s.filled };
    named = λ n is no. absurd (let clash : false ≡ true = no in cc);
    rests = λ _. refl;
    names = λ y g seat u is. let before = was.names y g seat u is in absurd (decided_not_undecided st told.1
        (subst IsUndecided told.0 (subst (λ (i : ℕ). IsUndecided (h.stage i)) before.2 u)));
  }

  -- the node that it made is in use
  in_use_then : (u : Stage) → h.stage (code id own.number) ≡ u → (b : Bool) → o.named ≡ b → (p : Option ℕ) → o.spare ≡ p
      → (m : Note) → Has (made_by u b p) m → IsTrueNote h m
  in_use_then absent at b named p is = all_none (IsTrueNote h)
  in_use_then undecided at b named p is = all_none (IsTrueNote h)
  in_use_then (committed s) at true named None is = all_none (IsTrueNote h)
  in_use_then (committed s) at true named (Some n) is = all_one (IsTrueNote h) (in_use n)
      (subst (λ (u : Stage). HoldsBy u h o n) at (was.named n is named).holds)
  in_use_then (committed s) at false named p is = all_none (IsTrueNote h)
  in_use_then (aborted cause) at b named p is = all_none (IsTrueNote h)

  pub made_in_use : (m : Note) → Has (made_by st o.named o.spare) m → IsTrueNote h m
  made_in_use = in_use_then st told.0 o.named refl o.spare refl

-- at the opening each pass has all slots of its share
free_above : (n : ℕ) → 2 ≤ n → IsFree (opening_slots n)
free_above n le = grind (arith, nat_tests)

pub slots_open : (z : Size) (cells : Cells) (start j : ℕ) → OwnsSlots z (opening_history cells start) j (first_attempt z.starts.attempt) (first_slots z j)
slots_open z cells start j = record {
  begins = omega arith;
  within = let le = below_next z.shares j in subst (λ (i : ℕ). start_of z j ≤ start_of z i) (let e : suc j ≡ j + 1 = omega arith in e) (omega arith);
  ends = refl;
  free = λ n le lt. free_above n (omega arith);
  taken = λ n le lt. absurd (omega arith);
  counted = let none = made_none z j start in omega arith;
  of_share = λ n is. absurd (none_not_some n is);
  unnamed = λ n is. absurd (none_not_some n is);
  named = λ n is. absurd (none_not_some n is);
  rests = λ _. refl;
  names = λ x g seat u. absurd u;
}
