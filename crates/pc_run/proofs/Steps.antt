-- Running the calls of one client one by one: one call more, and what the run is in the end.
use Rattle.std.proofs.Common.{◌≡◌, ℕ, ◌+◌, ◌<◌, ◌≤◌, List, [], ◌∷◌, ◌++◌, length, take, get_or, sym, ap, ◌∙◌, subst}
use Rattle.std.proofs.Common.{refl, arith, length-append}
use Rattle.std.proofs.lemmas.List.{take_all, take_more}
use Rattle.std.specs.Prelude.{All}
use Rattle.pc_model.specs.declared.call.Call.{Call}
use Rattle.pc_model.specs.declared.call.Entry.{Entry}
use Rattle.pc_model.specs.Counts.{one_if}
use Rattle.pc_model.specs.Calls.{is_put, puts_in}
use Rattle.pc_model.specs.Map.{reply_of, pairs_after}
use Rattle.pc_model.specs.History.{AllOfPass, IsHistoryOf, IsNumberedFrom, calls_of}
use Rattle.pc_model.specs.Replay.{fold_of}
use Rattle.pc_model.proofs.Histories.{AllOfPass_push, calls_of-push, entries_of-own, one_client_history}
use Rattle.pc_model.proofs.Replaying.{fold_from-push}
use Rattle.pc_model.proofs.Sizes.{length-pairs_after, puts_in-push}
use Rattle.pc_locked.specs.States.{MapState, IsRightState, IsSameMap, next_entry}
use Rattle.pc_run.specs.Alone.{HasRunFirst}
use Rattle.pc_text.specs.declared.limits.TheConstants.{MOST_COMMANDS}
use Rattle.pc_text.specs.ScriptFacts.{IsCallInRange}
use Rattle.pc_run.specs.Runs.{IsSettled}
use Rattle.pc_run.specs.Shares.{share_of}

-- the next call of the list is run: its entry is put behind the others, and what it owes is paid
pub one_more : (calls : List Call) (s s' : MapState) (call d : Call) → HasRunFirst calls s
    → length s.entries < length calls → call ≡ get_or calls (length s.entries) d
    → s'.entries ≡ s.entries ++ (next_entry s.entries 1 call (reply_of call (fold_of s.entries)) ∷ [])
    → IsSameMap s s' → IsSettled s' → HasRunFirst calls s'
one_more calls s s' call d h inside is_next entries same settled =
    let e : Entry = next_entry s.entries 1 call (reply_of call (fold_of s.entries)) in
    let fold : fold_of s'.entries ≡ pairs_after call (fold_of s.entries) = ap fold_of entries
    ∙ fold_from-push [] s.entries e in
    let more : length (pairs_after call (fold_of s.entries)) ≤ one_if (is_put call) + length (fold_of s.entries) =
    length-pairs_after call (fold_of s.entries) in
    let few : length (fold_of s.entries) ≤ puts_in (calls_of s.entries) = h.few in
    let pushed : calls_of s'.entries ≡ calls_of s.entries ++ (call ∷ []) = ap calls_of entries
    ∙ calls_of-push s.entries e in
    let puts : puts_in (calls_of s'.entries) ≡ puts_in (calls_of s.entries) + one_if (is_put call) =
    ap puts_in pushed ∙ puts_in-push (calls_of s.entries) call in
    let long : length (fold_of s'.entries) ≡ length (pairs_after call (fold_of s.entries)) = ap length fold in
    let longer : length s'.entries ≡ length s.entries + 1 = ap length entries ∙ length-append s.entries (e ∷ []) in
    record {
      own = subst (λ (es : List Entry). AllOfPass 1 es) (sym entries) (AllOfPass_push 1 s.entries e h.own refl);
      in_order = pushed ∙ ap (λ (x : List Call). x ++ (call ∷ [])) h.in_order
          ∙ ap (λ (c : Call). take (length s.entries) calls ++ (c ∷ [])) is_next
          ∙ sym (take_more calls (length s.entries) d inside)
          ∙ ap (λ (n : ℕ). take n calls) (sym longer);
      few = omega arith;
      settled = settled;
      slots = same.slots ∙ h.slots;
      room = same.calls ∙ h.room;
      small = h.small;
      in_range = h.in_range;
    }

-- on a map that was opened just now nothing was run yet
pub nothing_yet : (calls : List Call) (s : MapState) → s.entries ≡ [] → s.cells.slots ≡ share_of calls
    → s.calls ≡ length calls → length calls ≤ MOST_COMMANDS → All IsCallInRange calls → IsSettled s
    → HasRunFirst calls s
nothing_yet calls s none slots room small in_range settled = record {
  own = subst (λ (es : List Entry). AllOfPass 1 es) (sym none) tt;
  in_order = ap calls_of none ∙ ap (λ (n : ℕ). take n calls) (sym (ap length none));
  few = subst (λ (es : List Entry). length (fold_of es) ≤ puts_in (calls_of es)) (sym none) (omega arith);
  settled = settled;
  slots = slots;
  room = room;
  small = small;
  in_range = in_range;
}

-- where there is an entry for each call, the history is that of all the calls
pub whole_run : (calls : List Call) (s : MapState) → HasRunFirst calls s → IsRightState s
    → length s.entries ≡ length calls → IsHistoryOf (calls ∷ []) s.entries
whole_run calls s h right all =
    let numbered : IsNumberedFrom 1 s.entries = subst (IsNumberedFrom 1) (entries_of-own 1 s.entries h.own)
    (right.numbered 1) in
    let in_order : calls_of s.entries ≡ calls = h.in_order ∙ ap (λ (n : ℕ). take n calls) all
    ∙ take_all (length calls) calls (omega arith) in
    one_client_history calls s.entries h.own numbered in_order
