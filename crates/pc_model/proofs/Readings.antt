-- What is read from cells by turns: a spelled tree in as many turns as it is high, and only such a tree.
use Rattle.std.proofs.Common.{◌≡◌, ℕ, zero, suc, ◌+◌, ◌%◌, ◌≤◌, ◌⊎◌, inl, inr, ⊎_elim, Option, Some, None}
use Rattle.std.proofs.Common.{refl, sym, ap, ◌∙◌, subst, arith}
use Rattle.std.proofs.lemmas.Bool.{cases_eq, cases_lt}
use Rattle.pc_model.specs.declared.cell.Field.TheVariants.{Version, Left, Right}
use Rattle.pc_model.specs.Map.{Pairs, IsRising}
use Rattle.pc_model.specs.Cells.{Cells, IsSlot}
use Rattle.pc_model.specs.Counts.{count}
use Rattle.pc_model.specs.Trees.{Tree, Empty, Fork, Kind, IsTreeNode, Spells, IsIn, size_of, nodes_of, pairs_of}
use Rattle.pc_model.specs.Trees.{IsSearchTree}
use Rattle.pc_model.specs.Heights.{height_of}
use Rattle.pc_model.specs.Readings.{forked, read_tree, IsInUse, AreOfKind, IsReadSearchTree}
use Rattle.pc_model.specs.ReadingLaws.{IsReadByTurns}
use Rattle.pc_model.proofs.Framing.{slot_in, unmarked_in}
use Rattle.pc_model.proofs.Counting.{count_none, count_some, count_once, in_counted}
use Rattle.pc_model.proofs.Soundness.{search_tree_size}
use Rattle.pc_model.proofs.Heights.{height-le-size}

-- Forks

forked-is : (n : ℕ) (a b : Option Tree) (l r : Tree) → a ≡ Some l → b ≡ Some r → forked n a b ≡ Some (Fork n l r)
forked-is n a b l r left right = rw (left, right) refl

-- two trees were read, and this is their fork
record IsForkOf (n : ℕ) (a b : Option Tree) (t : Tree) : Type 0 where
  left : Tree
  right : Tree
  read_left : a ≡ Some left
  read_right : b ≡ Some right
  fork : t ≡ Fork n left right

fork_of : (n : ℕ) (a b : Option Tree) (t : Tree) → forked n a b ≡ Some t → IsForkOf n a b t
fork_of n None b t read = absurd cc
fork_of n (Some l) None t read = absurd cc
fork_of n (Some l) (Some r) t read = record { left = l; right = r; read_left = refl; read_right = refl; fork = cc }

-- Turns

pub more_turns : (turns more : ℕ) (c : Cells) (link : ℕ) (t : Tree)
    → turns ≤ more → read_tree turns c link ≡ Some t → read_tree more c link ≡ Some t
more_turns turns more c zero t le read = read
more_turns zero more c (suc n) t le read = absurd cc
more_turns (suc turns) zero c (suc n) t le read = absurd (omega arith)
more_turns (suc turns) (suc more) c (suc n) t le read =
    let fork = fork_of (suc n) (read_tree turns c (c (suc n) Left)) (read_tree turns c (c (suc n) Right)) t read in
    let left : read_tree more c (c (suc n) Left) ≡ Some fork.left =
    more_turns turns more c (c (suc n) Left) fork.left (omega arith) fork.read_left in
    let right : read_tree more c (c (suc n) Right) ≡ Some fork.right =
    more_turns turns more c (c (suc n) Right) fork.right (omega arith) fork.read_right in
    forked-is (suc n) _ _ fork.left fork.right left right ∙ ap Some (sym fork.fork)

-- what is read is no higher than there are turns
height-le-turns : (turns : ℕ) (c : Cells) (link : ℕ) (t : Tree) → read_tree turns c link ≡ Some t → height_of t ≤ turns
height-le-turns turns c zero Empty read = omega arith
height-le-turns turns c zero (Fork n l r) read = absurd cc
height-le-turns zero c (suc n) t read = absurd cc
height-le-turns (suc turns) c (suc n) t read =
    let fork = fork_of (suc n) (read_tree turns c (c (suc n) Left)) (read_tree turns c (c (suc n) Right)) t read in
    let left : height_of fork.left ≤ turns =
    height-le-turns turns c (c (suc n) Left) fork.left fork.read_left in
    let right : height_of fork.right ≤ turns =
    height-le-turns turns c (c (suc n) Right) fork.right fork.read_right in
    rw fork.fork (omega arith)

-- Spelled trees, and what is read

read_node : (turns : ℕ) (c : Cells) (n : ℕ) (l r : Tree) → 1 ≤ n → read_tree turns c (c n Left) ≡ Some l
    → read_tree turns c (c n Right) ≡ Some r → read_tree (suc turns) c n ≡ Some (Fork n l r)
read_node turns c zero l r some left right = absurd (omega arith)
read_node turns c (suc n) l r some left right = forked-is (suc n) _ _ l r left right

-- a link spells one tree
pub one_tree : (kind kind' : Kind) (slots slots' : ℕ) (c : Cells) (t t' : Tree) (above above' link : ℕ)
    → Spells kind slots c t above link → Spells kind' slots' c t' above' link → t ≡ t'
one_tree kind kind' slots slots' c Empty Empty above above' link s s' = refl
one_tree kind kind' slots slots' c Empty (Fork n l r) above above' link s s' =
    let slot : IsSlot slots' n = s'.1.slot in let e : link ≡ n = s'.0 in let z : link ≡ 0 = s in absurd (omega arith)
one_tree kind kind' slots slots' c (Fork n l r) Empty above above' link s s' =
    let slot : IsSlot slots n = s.1.slot in let e : link ≡ n = s.0 in let z : link ≡ 0 = s' in absurd (omega arith)
one_tree kind kind' slots slots' c (Fork n l r) (Fork m l' r') above above' link s s' =
    let same : m ≡ n = sym s'.0 ∙ s.0 in
    let left : l ≡ l' = one_tree kind kind' slots slots' c l l' n n (c n Left) s.2 (rw same at s'.2) in
    let right : r ≡ r' = one_tree kind kind' slots slots' c r r' n n (c n Right) s.3 (rw same at s'.3) in
    cc

one_list : (kind kind' : Kind) (slots slots' : ℕ) (c : Cells) (ps ps' : Pairs)
    → IsSearchTree kind slots c ps → IsSearchTree kind' slots' c ps' → ps ≡ ps'
one_list kind kind' slots slots' c ps ps' s s' =
    let same : s.tree ≡ s'.tree =
    one_tree kind kind' slots slots' c s.tree s'.tree 1 1 (c 1 Left) s.spelled s'.spelled in
    sym s.pairs ∙ ap (pairs_of c) same ∙ s'.pairs

in_use_or_not : (slots : ℕ) (c : Cells) (n : ℕ) → IsInUse slots c n ⊎ (IsInUse slots c n → ⊥)
in_use_or_not slots c n = ⊎_elim
    (λ low. inr (λ u. absurd (omega arith)))
    (λ from. ⊎_elim
    (λ above. inr (λ u. absurd (omega arith)))
    (λ to. ⊎_elim (λ even. inl ((from, to), even)) (λ odd. inr (λ u. odd u.1)) (cases_eq (c n Version % 2) 0))
    (cases_lt (slots + 1) n))
    (cases_lt n 2)

module _ (kind : Kind) (slots : ℕ) (c : Cells) where
  -- a spelled tree is read in as many turns as it is high
  pub read_spelled : (t : Tree) (above link turns : ℕ)
      → Spells kind slots c t above link → height_of t ≤ turns → read_tree turns c link ≡ Some t
  read_spelled Empty above link turns s le = rw s refl
  read_spelled (Fork n l r) above link zero s le = absurd (omega arith)
  read_spelled (Fork n l r) above link (suc turns) s le =
      let slot : IsSlot slots n = s.1.slot in
      let left : read_tree turns c (c n Left) ≡ Some l = read_spelled l n (c n Left) turns s.2 (omega arith) in
      let right : read_tree turns c (c n Right) ≡ Some r = read_spelled r n (c n Right) turns s.3 (omega arith) in
      rw s.0 (read_node turns c n l r (omega arith) left right)

  of_kind_spelled : (t : Tree) (above link : ℕ) → Spells kind slots c t above link → AreOfKind kind c t above
  of_kind_spelled Empty above link s = tt
  of_kind_spelled (Fork n l r) above link s =
      (s.1.of_kind, of_kind_spelled l n (c n Left) s.2, of_kind_spelled r n (c n Right) s.3)

  -- where the nodes of what is read are slots in use, of the kind, the link spells it
  pub spells_read : (turns link : ℕ) (t : Tree) (above : ℕ)
      → read_tree turns c link ≡ Some t → ((n : ℕ) → IsIn n t → IsInUse slots c n) → AreOfKind kind c t above
      → Spells kind slots c t above link
  spells_read turns zero Empty above read in_use of_kind = refl
  spells_read turns zero (Fork n l r) above read in_use of_kind = absurd cc
  spells_read zero (suc n) t above read in_use of_kind = absurd cc
  spells_read (suc turns) (suc n) t above read in_use of_kind =
      let fork = fork_of (suc n) (read_tree turns c (c (suc n) Left)) (read_tree turns c (c (suc n) Right)) t read in
      let whole : Tree = Fork (suc n) fork.left fork.right in
      let in_use' : (m : ℕ) → IsIn m whole → IsInUse slots c m = rw fork.fork at in_use in
      let of_kind' : AreOfKind kind c whole above = rw fork.fork at of_kind in
      let here : IsInUse slots c (suc n) = in_use' (suc n) (inl refl) in
      let node : IsTreeNode kind slots c above (suc n) =
      record { slot = here.0; unmarked = here.1; of_kind = of_kind'.0 } in
      let left : Spells kind slots c fork.left (suc n) (c (suc n) Left) =
      spells_read turns (c (suc n) Left) fork.left (suc n) fork.read_left
      (λ m i. in_use' m (inr (inl i))) of_kind'.1 in
      let right : Spells kind slots c fork.right (suc n) (c (suc n) Right) =
      spells_read turns (c (suc n) Right) fork.right (suc n) fork.read_right
      (λ m i. in_use' m (inr (inr i))) of_kind'.2 in
      rw fork.fork (refl, node, left, right)

  read_of_search : (ps : Pairs) → IsSearchTree kind slots c ps → IsReadSearchTree kind slots c ps
  read_of_search ps s =
      let rising : IsRising (pairs_of c s.tree) = subst IsRising (sym s.pairs) s.rising in
      let few : size_of s.tree ≤ slots = search_tree_size kind slots c ps s in
      let low : height_of s.tree ≤ size_of s.tree = height-le-size s.tree in
      let in_use : (n : ℕ) → IsIn n s.tree → IsInUse slots c n = λ n i. (
        slot_in kind slots c s.tree 1 (c 1 Left) n s.spelled i,
        unmarked_in kind slots c s.tree 1 (c 1 Left) n s.spelled i,
      ) in
      record {
        tree = s.tree;
        read = read_spelled s.tree 1 (c 1 Left) slots s.spelled (omega arith);
        once = λ n u. let most : count n (nodes_of s.tree) ≤ 1 = count_once c n s.tree rising in
            let least : 1 ≤ count n (nodes_of s.tree) = count_some n s.tree (s.covered n u.0 u.1) in omega arith;
        no_other = λ n out. count_none n s.tree (λ i. out (in_use n i));
        of_kind = of_kind_spelled s.tree 1 (c 1 Left) s.spelled;
        pairs = s.pairs;
        rising = s.rising;
        small = s.small;
        unmarked = s.unmarked;
        no_right = s.no_right;
        no_parent = s.no_parent;
      }

  search_of_read : (ps : Pairs) → IsReadSearchTree kind slots c ps → IsSearchTree kind slots c ps
  search_of_read ps r =
      let not_out : (n : ℕ) → IsIn n r.tree → (IsInUse slots c n → ⊥) → ⊥ = λ n i out.
      let some : 1 ≤ count n (nodes_of r.tree) = count_some n r.tree i in
      let none : count n (nodes_of r.tree) ≡ 0 = r.no_other n out in
      absurd (omega arith) in
      let in_use : (n : ℕ) → IsIn n r.tree → IsInUse slots c n = λ n i.
      ⊎_elim (λ u. u) (λ out. absurd (not_out n i out)) (in_use_or_not slots c n) in
      record {
        tree = r.tree;
        spelled = spells_read slots (c 1 Left) r.tree 1 r.read in_use r.of_kind;
        pairs = r.pairs;
        rising = r.rising;
        small = r.small;
        covered = λ n slot even. let one : count n (nodes_of r.tree) ≡ 1 = r.once n (slot, even) in
            in_counted n r.tree (omega arith);
        unmarked = r.unmarked;
        no_right = r.no_right;
        no_parent = r.no_parent;
      }

pub is_read_by_turns : IsReadByTurns
is_read_by_turns = record {
  exactly = λ kind slots c ps. (read_of_search kind slots c ps, search_of_read kind slots c ps);
  one_tree = one_tree;
  one_list = one_list;
  more_turns = more_turns;
  as_high_as_turns = λ kind slots c t above link turns s.
      (height-le-turns turns c link t, read_spelled kind slots c t above link turns s);
}
