-- The lists of a script's clients: what is true of each, and what they want together.
use Rattle.std.proofs.Common.{◌≡◌, ℕ, ◌+◌, ◌<◌, ◌≤◌, List, [], ◌∷◌, length, take, sym, ap, ◌∙◌, subst, arith, rules, Vec}
use Rattle.std.specs.Prelude.{All, slice_index_or}
use Rattle.std.proofs.lemmas.List.{get_or-map, length-map, length-take-le}
use Rattle.std.proofs.lemmas.List.Sums.{sum_by-cons, sum_by_more, sum_by-take-le, get_or-le-sum_by}
use Rattle.pc_model.specs.declared.call.Call.{Call}
use Rattle.pc_model.specs.Calls.{is_put, puts_in}
use Rattle.pc_model.proofs.Sizes.{one_if-le-one}
use Rattle.pc_text.specs.declared.limits.TheConstants.{MOST_CLIENTS, MOST_COMMANDS}
use Rattle.pc_text.specs.ScriptFacts.{IsCallInRange, AreFew, AreInRange}
use Rattle.pc_run.specs.Shares.{calls_in, lists_of, share_of, shares_of}
use Rattle.pc_run.specs.Together.{IsDoable}

module _ {Z : Type 0} (vectors : List (Vec Call Z)) where
  -- the list that the vector at a place holds
  pub list_at : (i : ℕ) (v : Vec Call Z) → i < length vectors → v ≡ slice_index_or vectors i v
      → v.items ≡ slice_index_or (lists_of vectors) i []
  list_at i v inside is = ap (λ (x : Vec Call Z). x.items) is
      ∙ sym (get_or-map (λ (x : Vec Call Z). x.items) vectors i v [] inside)

  pub as_many_lists : length (lists_of vectors) ≡ length vectors
  as_many_lists = length-map vectors (λ (x : Vec Call Z). x.items)

-- a list of a script in range is what a client can do
pub doable_at : (lists : List (List Call)) (i : ℕ) (calls : List Call) → calls ≡ slice_index_or lists i []
    → i < length lists → length lists ≤ MOST_CLIENTS → AreFew lists → AreInRange lists → IsDoable (i + 1) calls
doable_at lists i calls is inside clients few in_range =
    let one : length (slice_index_or lists i []) ≤ calls_in lists =
    get_or-le-sum_by (λ (cs : List Call). length cs) lists i [] inside in
    let long : length calls ≡ length (slice_index_or lists i []) = ap length is in
    record {
      one_of_32 = search rules;
      few = omega arith;
      in_range = subst (All IsCallInRange) (sym is) (in_range i [] inside);
    }

-- there are no more puts than calls
puts_in-le-length : (calls : List Call) → puts_in calls ≤ length calls
puts_in-le-length [] = omega arith
puts_in-le-length (c ∷ calls) = let rest = puts_in-le-length calls in let one = one_if-le-one (is_put c) in omega arith

-- the shares are no more than the calls and the clients together
pub shares-le : (lists : List (List Call)) → shares_of lists ≤ calls_in lists + length lists
shares-le [] = omega arith
shares-le (cs ∷ lists) =
    let rest = shares-le lists in
    let puts = puts_in-le-length cs in
    omega (arith, sum_by-cons share_of cs lists, sum_by-cons (λ (c : List Call). length c) cs lists)

-- one list more: its calls are few, and the room that the lists up to it want is within the limits
pub record IsOneMore (lists : List (List Call)) (i : ℕ) (calls : List Call) : Type 0 where
  pub few : length calls ≤ MOST_COMMANDS
  pub shares : shares_of (take (i + 1) lists) ≡ shares_of (take i lists) + share_of calls
  pub calls_more : calls_in (take (i + 1) lists) ≡ calls_in (take i lists) + length calls
  pub few_shares : shares_of (take (i + 1) lists) ≤ 61000
  pub few_calls : calls_in (take (i + 1) lists) ≤ MOST_COMMANDS

-- the first lists want room within the limits
pub shares_within : (lists : List (List Call)) (i : ℕ) → i ≤ length lists → length lists ≤ MOST_CLIENTS → AreFew lists
    → shares_of (take i lists) ≤ 61000
shares_within lists i inside clients few =
    let long = length-take-le i lists inside in
    let front = sum_by-take-le (λ (cs : List Call). length cs) lists i in
    omega (arith, shares-le (take i lists))

pub one_list_more : (lists : List (List Call)) (i : ℕ) (calls : List Call) → i < length lists
    → length lists ≤ MOST_CLIENTS → AreFew lists → calls ≡ slice_index_or lists i [] → IsOneMore lists i calls
one_list_more lists i calls inside clients few is =
    let one : length (slice_index_or lists i []) ≤ calls_in lists =
    get_or-le-sum_by (λ (cs : List Call). length cs) lists i [] inside in
    let long : length calls ≡ length (slice_index_or lists i []) = ap length is in
    let front : calls_in (take (i + 1) lists) ≤ calls_in lists =
    sum_by-take-le (λ (cs : List Call). length cs) lists (i + 1) in
    record {
      few = omega arith;
      shares = sum_by_more share_of lists i [] inside
          ∙ ap (λ (cs : List Call). shares_of (take i lists) + share_of cs) (sym is);
      calls_more = sum_by_more (λ (cs : List Call). length cs) lists i [] inside
          ∙ ap (λ (cs : List Call). calls_in (take i lists) + length cs) (sym is);
      few_shares = shares_within lists (i + 1) (omega arith) clients few;
      few_calls = omega arith;
    }
