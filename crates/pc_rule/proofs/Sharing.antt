-- The slots of shares add up, and the numbers of an opening fit their words.
use Rattle.std.proofs.Common.{◌≡◌, ℕ, zero, suc, ◌+◌, ◌≤◌, ◌<◌, ◌^◌, ◌==◌, Bool, true, false, if◌then◌else◌, List, [], ◌∷◌, map, drop, refl, sym, ap, arith}
use mathlib.Core.Option.{some, some-injective, some-ne-none}
use lib.ListN.{get_elem?}
use Rattle.atomic_table.proofs.Lists.{drop_at}
use Rattle.pc_model.specs.declared.cell.Field.{Field}
use Rattle.pc_model.specs.declared.cell.Field.TheVariants.{Version, Key, Value, Left, Right, Parent, Height, Spare}
use Rattle.pc_model.specs.Linked.{opening_cells}
use Rattle.pc_words.specs.declared.word.WordKind.TheVariants.{Plain}
use Rattle.pc_words.specs.Words.{InRange}
use Rattle.pc_rule_law.specs.Past.{IsFormed}
use Rattle.pc_rule_law.specs.Openings.{attempt_of}
use Rattle.pc_rule_law.specs.declared.share.Share.{Share}
use Rattle.pc_rule.specs.Shares.{slots_of}

-- what stands in a mapped list comes from the list
pub from_map : {X Y : Type 0} (f : X → Y) (l : List X) (i : ℕ) (y : Y) → get_elem? (map f l) i ≡ some y → (x : X) × (get_elem? l i ≡ some x) × (f x ≡ y)
from_map f [] i y at = absurd (some-ne-none y (sym at))
from_map f (x ∷ xs) zero y at = (x, refl, some-injective (f x) y at)
from_map f (x ∷ xs) (suc i) y at = from_map f xs i y at

-- an attempt with no changes is lawful
pub none_formed : (slots : ℕ) → IsFormed slots (attempt_of [])
none_formed slots = record {
  few = omega arith;
  few_visits = omega arith;
  inside = λ x h. absurd (some-ne-none x (sym h.1));
  visited = λ x h. absurd (some-ne-none x (sym h.1));
  apart = λ i j x y at_x at_y node field. absurd (some-ne-none x (sym at_x));
}

-- the slots of one more share
pub one_more_share : (shares : List Share) (i : ℕ) (x : Share) → get_elem? shares i ≡ some x → slots_of (drop i shares) ≡ x.slots + slots_of (drop (suc i) shares)
one_more_share shares i x at = ap slots_of (drop_at shares i x at)

pub at_most_all : (shares : List Share) (i : ℕ) → slots_of (drop i shares) ≤ slots_of shares
at_most_all shares zero = omega arith
at_most_all [] (suc i) = omega arith
at_most_all (x ∷ xs) (suc i) = let r = at_most_all xs i in omega arith

small_if : (b : Bool) (x y : ℕ) → x < 2 ^ 62 → y < 2 ^ 62 → (if b then x else y) < 2 ^ 62
small_if true x y one other = one
small_if false x y one other = other

-- the numbers that the nodes open with fit a word
pub small_cells : (version : ℕ) → version < 2 ^ 60 → (n : ℕ) (f : Field) → InRange (Plain (opening_cells version n f))
small_cells version lt n Version = small_if (n == 1) version (version + 1) (omega arith) (omega arith)
small_cells version lt n Key = small_if (n == 1) 4611686018427387903 0 (omega arith) (omega arith)
small_cells version lt n Value = omega arith
small_cells version lt n Left = omega arith
small_cells version lt n Right = omega arith
small_cells version lt n Parent = omega arith
small_cells version lt n Height = omega arith
small_cells version lt n Spare = omega arith
