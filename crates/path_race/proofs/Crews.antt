-- The passes of workers, before a race and after it.
use Rattle.std.proofs.Common.{◌≡◌, ℕ, zero, suc, ◌<◌, ◌≤◌, List, [], ◌∷◌, ◌++◌, length, map, get_or, vec_capacity, sym, ap, ◌∙◌, subst, arith}
use Rattle.std.proofs.lemmas.List.{length-map}
use mathlib.Core.Option.{some, some-ne-none, some-injective}
use lib.ListN.{get_elem?}
use Rattle.pc_model.specs.declared.shape.Shape.{Ghosts}
use Rattle.pc_rule_law.specs.Conditions.{IsFree}
use Rattle.pc_rule_law.specs.Views.{OwnAttempt}
use Rattle.pc_rule_law.proofs.Lists.{below_length, element_at}
use Rattle.pc_exchange_law.specs.Paths.{Path}
use Rattle.pc_rule.specs.declared.board.Board.{Board}
use Rattle.pc_rule.specs.declared.board.Pass.{Pass}
use Rattle.pc_rule.specs.Passes.{view, IsPassOf, SitsAs}
use Rattle.pc_rule.specs.Recorded.{calls_of}
use Rattle.pc_rule_law.specs.declared.share.Share.{Share}
use Rattle.pc_rule.specs.Shares.{AreAll, NoneTried, NoneVisited, slots_of}
use Rattle.pc_rule.proofs.Calls.{read_at}
use Rattle.pc_rule.proofs.Sharing.{from_map}
use Rattle.path_race.specs.Racing.{IsReady}

-- what stands in a list stands in the mapped list
mapped : {X Y : Type 0} (f : X → Y) (l : List X) (i : ℕ) (x : X) → get_elem? l i ≡ some x → get_elem? (map f l) i ≡ some (f x)
mapped f [] i x at = absurd (some-ne-none x (sym at))
mapped f (y ∷ ys) zero x at = ap (λ v. some (f v)) (some-injective y x at)
mapped f (y ∷ ys) (suc i) x at = mapped f ys i x at

-- what is read at an index stands there
found_at : {X : Type 0} (l : List X) (i : ℕ) (x : X) → i < length l → x ≡ get_or l i x → get_elem? l i ≡ some x
found_at [] i x lt is = absurd (omega arith)
found_at (y ∷ ys) zero x lt is = ap some (sym is)
found_at (y ∷ ys) (suc i) x lt is = found_at ys i x (omega arith) is

module _ {H : Type 0} {S : Ghosts H} {W : Type 0} (f : W → Pass H S) (b : Board H) where
  -- each pass of a board that opened is at rest
  pub ready_at : (workers : List W) → AreAll b (map f workers) → NoneTried (map f workers) → NoneVisited (map f workers) → (i : ℕ) (w : W) → i < length workers
      → w ≡ get_or workers i w → IsReady b (f w)
  unfolding mapped found_at
  ready_at workers all tried visited i w lt is = let at = mapped f workers i w (found_at workers i w lt is) in let o = all.order i (f w) at in let t = tried i (f w) at in record {
    of = o.0;
    may = ((t.0, ap (λ (a : OwnAttempt). a.published) t.1), o.2);
    rests = ap (λ (p : Path). p.begun) (visited i (f w) at).0;
  }

  module _ (old new : List W) (all : AreAll b (map f old)) (count : length new ≡ length old)
      (each : (i : ℕ) (d : W) → i < length old → SitsAs (f (get_or old i d)) (f (get_or new i d)) × IsPassOf b (f (get_or new i d)) × IsFree (view (f (get_or new i d)))) where
    -- the worker whose pass this is, and what it was before
    was_before : (i : ℕ) (q : Pass H S) → get_elem? (map f new) i ≡ some q
        → (p : Pass H S) × (get_elem? (map f old) i ≡ some p) × SitsAs p q × IsPassOf b q × IsFree (view q)
    unfolding mapped
    was_before i q at = let w = from_map f new i q at in let lt = below_length new i w.0 w.1 in let v = element_at old i (omega arith) in
        let lt_old : i < length old = omega arith in
        let e = each i v.0 lt_old in let now : f (get_or new i v.0) ≡ q = ap f (read_at new i w.0 v.0 w.1) ∙ w.2 in (
          f v.0,
          mapped f old i v.0 v.1,
          subst (λ (p : Pass H S). SitsAs p q) (ap f (read_at old i v.0 v.0 v.1)) (subst (λ (r : Pass H S). SitsAs (f (get_or old i v.0)) r) now e.0),
          subst (IsPassOf b) now e.1,
          subst (λ (r : Pass H S). IsFree (view r)) now e.2,
        )

    -- the passes are all those of the board again
    pub all_raced : AreAll b (map f new)
    unfolding was_before
    all_raced = record {
      some = all.some;
      count = length-map new f ∙ (count ∙ (sym (length-map old f) ∙ all.count));
      shared = all.shared;
      order = λ i q at. let w = was_before i q at in let before = all.order i w.0 w.1 in let s = w.2 in
          (w.3, s.2 ∙ before.1, w.4);
      last = λ i q at e. let w = was_before i q at in let l = all.last i w.0 w.1 e in let s = w.2 in
          (s.3 ∙ l.0, s.4 ∙ l.1, subst (λ n. calls_of b.shares.items ≤ n) (sym s.7) l.2);
    }

-- shares without slots, and one more
pub no_slots : (shares now : List Share) (s : Share) → now ≡ shares ++ s ∷ [] → s.slots ≡ 0 → slots_of shares ≡ 0 → slots_of now ≡ 0
no_slots shares now s is none before = ap slots_of is ∙ added shares before
  where
    added : (l : List Share) → slots_of l ≡ 0 → slots_of (l ++ s ∷ []) ≡ 0
    added [] e = omega arith
    added (x ∷ xs) e = let rest = added xs (omega arith) in omega arith
