-- What a caller has again after calls of its passes, for the next call and for the closing.
use Rattle.std.proofs.Common.{◌≡◌, ℕ, zero, suc, ◌<◌, ◌≤◌, ◌+◌, true, List, [], ◌∷◌, length, get_or, set, vec_capacity, sym, ap, ◌∙◌, subst, length-set, arith}
use mathlib.Core.Option.{some, some-injective, some-ne-none}
use lib.ListN.{get_elem?}
use Rattle.atomic_table.proofs.Lists.{at_index}
use Rattle.pc_model.specs.declared.shape.Shape.{Ghosts}
use Rattle.pc_rule_law.specs.Conditions.{IsFree}
use Rattle.pc_rule_law.specs.Past.{Has}
use Rattle.pc_rule_law.specs.Plays.{IsWell}
use Rattle.pc_rule_law.specs.Views.{Note, View}
use Rattle.pc_rule_law.proofs.Lists.{below_length, element_at, each_moved}
use Rattle.pc_rule.specs.declared.board.Board.{Board}
use Rattle.pc_rule.specs.declared.board.Pass.{Pass}
use Rattle.pc_rule.specs.Calls.{AreSame, AreFree, AllHave}
use Rattle.pc_rule.specs.Passes.{view, board_size, share_of, recorded, IsPassOf, IsSeatedAs, IsSamePass, OnlyListed}
use Rattle.pc_rule.specs.Recorded.{calls_of, HasRoomFor}
use Rattle.pc_rule.specs.Shares.{AreAll, AllNoted}

-- what stands at an index is what is read there
pub read_at : {V : Type 0} (l : List V) (i : ℕ) (v d : V) → get_elem? l i ≡ some v → get_or l i d ≡ v
read_at [] i v d at = absurd (some-ne-none v (sym at))
read_at (x ∷ xs) zero v d at = some-injective x v at
read_at (x ∷ xs) (suc i) v d at = read_at xs i v d at

module _ {H : Type 0} {S : Ghosts H} where
  -- a pass whose list alone changed is where it was
  pub only_listed : (b : Board H) (p q : Pass H S) → IsPassOf b p → OnlyListed p q → IsSeatedAs p q
  only_listed b p q of only = let e : view q ≡ view p = ap (λ s. s.me.0.view) only.0 in (
    ap (λ s. s.table_id) only.0,
    ap (λ (v : View). v.size) e,
    ap (λ (v : View). v.seat) e,
    ap (λ (v : View). v.last) e,
    ap (λ (v : View). v.rest) e,
    subst IsWell (sym e) of.3,
    only.1,
    only.2,
  )

  -- a pass of the board is one after a call
  pub pass_stays : (b : Board H) (p q : Pass H S) → IsPassOf b p → IsSeatedAs p q → IsPassOf b q
  pass_stays b p q of same = (
    same.0 ∙ of.0,
    same.1 ∙ of.1,
    subst (λ s. s < (board_size b).seats) (sym same.2) of.2,
    same.5,
    subst (λ n. get_elem? b.shares.items n ≡ some (share_of q)) (sym same.2) (subst (λ s. get_elem? b.shares.items (view p).seat ≡ some s) (sym same.6) of.4),
    subst (λ s. length (recorded q) ≤ s.calls) (sym same.6) (subst (λ n. n ≤ (share_of p).calls) (ap (λ r. length r.entries.items) (sym same.7)) of.5),
  )

  -- and where it can take in the others, it still can
  abbrev AtEnd : Board H → ℕ → Pass H S → Type 0
  AtEnd b i p = i + 1 ≡ (board_size b).seats → ((view p).last ≡ true) × ((view p).rest ≡ i) × HasRoomFor b.shares.items p

  end_stays : (b : Board H) (i : ℕ) (p q : Pass H S) → AtEnd b i p → IsSeatedAs p q → AtEnd b i q
  end_stays b i p q at same e = let l = at e in (same.3 ∙ l.0, same.4 ∙ l.1, subst (λ r. calls_of b.shares.items ≤ vec_capacity r.entries) (sym same.7) l.2)

  -- the same passes are all those of the board again, once no install stands
  pub all_again : (b : Board H) (old new : List (Pass H S)) → AreAll b old → AreSame old new → AreFree new → AreAll b new
  all_again b old new all same free = let n : length new ≡ length old = same.count in record {
    some = all.some;
    count = n ∙ all.count;
    shared = all.shared;
    order = λ i q at. let lt = below_length new i q at in let p = element_at old i (omega arith) in
        let before = all.order i p.0 p.1 in let s = (same.each i p.0 q p.1 at).0 in
        (pass_stays b p.0 q before.0 s, s.2 ∙ before.1, free i q at);
    last = λ i q at e. let lt = below_length new i q at in let p = element_at old i (omega arith) in
        end_stays b i p.0 q (all.last i p.0 p.1) (same.each i p.0 q p.1 at).0 e;
  }

  -- the pass that an index gives
  pub pass_at : (passes : List (Pass H S)) (i : ℕ) (p : Pass H S) → i < length passes → p ≡ get_or passes i p → get_elem? passes i ≡ some p
  pass_at passes i p lt is = at_index passes i p lt is

  -- each pass has made calls
  pub same_by_index : (old new : List (Pass H S)) → length new ≡ length old
      → ((i : ℕ) (d : Pass H S) → i < length old → IsSamePass (get_or old i d) (get_or new i d)) → AreSame old new
  same_by_index old new count each = record {
    count = count;
    each = λ i p q at_p at_q. subst (λ (r : Pass H S). IsSamePass r q) (read_at old i p p at_p)
        (subst (λ (r : Pass H S). IsSamePass (get_or old i p) r) (read_at new i q p at_q) (each i p (below_length old i p at_p)));
  }

  pub free_by_index : (passes : List (Pass H S)) → ((i : ℕ) (d : Pass H S) → i < length passes → IsFree (view (get_or passes i d))) → AreFree passes
  free_by_index passes each i p at = subst (λ (r : Pass H S). IsFree (view r)) (read_at passes i p p at) (each i p (below_length passes i p at))

  -- one pass has made calls, and the others none
  module _ (passes : List (Pass H S)) (i : ℕ) (p q : Pass H S) (at : get_elem? passes i ≡ some p) where
    pub all_but_one : (b : Board H) → AreAll b passes → IsSeatedAs p q → IsFree (view q) → AreAll b (set passes i q)
    all_but_one b all same free = let before = all.order i p at in let InOrder : ℕ → Pass H S → Type 0 = λ j r. IsPassOf b r × ((view r).seat ≡ j) × IsFree (view r) in record {
      some = all.some;
      count = length-set passes i q ∙ all.count;
      shared = all.shared;
      order = each_moved passes i q InOrder InOrder all.order (pass_stays b p q before.0 same, same.2 ∙ before.1, free) (λ j r ne there is. is);
      last = each_moved passes i q (AtEnd b) (AtEnd b) all.last (end_stays b i p q (all.last i p at) same) (λ j r ne there is. is);
    }

    -- what all had all have still
    pub have_still : (x : Note) → (Has (view p).notes x → Has (view q).notes x) → AllHave passes x → AllHave (set passes i q) x
    have_still x keeps have = each_moved passes i q (λ j r. Has (view r).notes x) (λ j r. Has (view r).notes x) have (keeps (have i p at)) (λ j r ne there is. is)

  -- what was noted for all at the opening
  pub have_noted : (passes : List (Pass H S)) (notes : List Note) (x : Note) → AllNoted passes notes → Has notes x → AllHave passes x
  have_noted passes notes x noted has i p at = subst (λ l. Has l x) (sym (noted i p at)) has
