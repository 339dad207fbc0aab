-- How the pairs of a tree are listed with a stack: what is listed, then the tree that the walk is at,
-- then each waiting node with its right tree.
use Rattle.std.proofs.Common.{◌≡◌, ◌≢◌, ℕ, suc, ◌+◌, ◌≤◌, List, [], ◌∷◌, ◌++◌, length, refl, sym, ap, ◌∙◌, subst}
use Rattle.std.proofs.Common.{arith, length-append, append_assoc}
use Rattle.std.proofs.lemmas.List.{append-nil}
use Rattle.pc_model.specs.declared.cell.Field.TheVariants.{Left, Right}
use Rattle.pc_model.specs.Map.{Pairs, IsRising}
use Rattle.pc_model.specs.Cells.{Cells, IsSlot}
use Rattle.pc_model.specs.Trees.{Tree, Empty, Fork, Kind, Spells, size_of, pair_of, pairs_of, IsSearchTree}
use Rattle.pc_model.proofs.Counting.{length-pairs_of, size-le-slots}

-- the nodes of a stack wait, each with its right tree, the last of them first; these are their pairs
abbrev pub Waits : Kind → ℕ → Cells → List ℕ → Pairs → Type 0
Waits kind slots c [] rest = rest ≡ []
Waits kind slots c (n ∷ stack) rest = (right : Tree) × (front : Pairs) × IsSlot slots n
    × Spells kind slots c right n (c n Right) × Waits kind slots c stack front
    × (rest ≡ front ++ (pair_of c n ∷ pairs_of c right))

waits_more : (kind : Kind) (slots : ℕ) (c : Cells) (stack : List ℕ) (rest : Pairs) (m : ℕ) (right : Tree)
    → Waits kind slots c stack rest → IsSlot slots m → Spells kind slots c right m (c m Right)
    → Waits kind slots c (stack ++ m ∷ []) (pair_of c m ∷ (pairs_of c right ++ rest))
waits_more kind slots c [] rest m right waits slot spelled = (
  right,
  [],
  slot,
  spelled,
  refl,
  ap (λ (x : Pairs). pair_of c m ∷ (pairs_of c right ++ x)) waits
      ∙ ap (λ (x : Pairs). pair_of c m ∷ x) (append-nil (pairs_of c right)),
)
waits_more kind slots c (n ∷ stack) rest m right waits slot spelled = (
  waits.0,
  pair_of c m ∷ (pairs_of c right ++ waits.1),
  waits.2,
  waits.3,
  waits_more kind slots c stack waits.1 m right waits.4 slot spelled,
  ap (λ (x : Pairs). pair_of c m ∷ x)
      (ap (λ (x : Pairs). pairs_of c right ++ x) waits.5
      ∙ sym (append_assoc (pairs_of c right) waits.1 (pair_of c n ∷ pairs_of c waits.0))),
)

-- the last of the stack, with its right tree and the pairs after those
pub record LastWaits (kind : Kind) (slots : ℕ) (c : Cells) (stack : List ℕ) (rest : Pairs) (m : ℕ) : Type 0 where
  pub right : Tree
  pub front : Pairs
  pub slot : IsSlot slots m
  pub spelled : Spells kind slots c right m (c m Right)
  pub waits : Waits kind slots c stack front
  pub whole : rest ≡ pair_of c m ∷ (pairs_of c right ++ front)

waits_less : (kind : Kind) (slots : ℕ) (c : Cells) (stack : List ℕ) (rest : Pairs) (m : ℕ)
    → Waits kind slots c (stack ++ m ∷ []) rest → LastWaits kind slots c stack rest m
waits_less kind slots c [] rest m waits = record {
  right = waits.0;
  front = [];
  slot = waits.2;
  spelled = waits.3;
  waits = refl;
  whole = waits.5 ∙ ap (λ (x : Pairs). x ++ (pair_of c m ∷ pairs_of c waits.0)) waits.4
      ∙ ap (λ (x : Pairs). pair_of c m ∷ x) (sym (append-nil (pairs_of c waits.0)));
}
waits_less kind slots c (n ∷ stack) rest m waits =
    let last : LastWaits kind slots c stack waits.1 m = waits_less kind slots c stack waits.1 m waits.4 in
    let here : Pairs = pair_of c n ∷ pairs_of c waits.0 in
    record {
      right = last.right;
      front = last.front ++ here;
      slot = last.slot;
      spelled = last.spelled;
      waits = (waits.0, last.front, waits.2, waits.3, last.waits, refl);
      whole = waits.5 ∙ ap (λ (x : Pairs). x ++ here) last.whole
          ∙ ap (λ (x : Pairs). pair_of c m ∷ x) (append_assoc (pairs_of c last.right) last.front here);
    }

waits_few : (kind : Kind) (slots : ℕ) (c : Cells) (stack : List ℕ) (rest : Pairs) → Waits kind slots c stack rest
    → length stack ≤ length rest
waits_few kind slots c [] rest waits = omega arith
waits_few kind slots c (n ∷ stack) rest waits =
    let few : length stack ≤ length waits.1 = waits_few kind slots c stack waits.1 waits.4 in
    let e : length rest ≡ length waits.1 + suc (length (pairs_of c waits.0)) = ap (λ (x : Pairs). length x) waits.5
    ∙ length-append waits.1 (pair_of c n ∷ pairs_of c waits.0) in
    omega arith

-- a link that isn't 0 spells a fork at its node
pub record ForkAt (kind : Kind) (slots : ℕ) (c : Cells) (t : Tree) (n : ℕ) : Type 0 where
  pub left : Tree
  pub right : Tree
  pub slot : IsSlot slots n
  pub spelled_left : Spells kind slots c left n (c n Left)
  pub spelled_right : Spells kind slots c right n (c n Right)
  pub pairs : pairs_of c t ≡ pairs_of c left ++ (pair_of c n ∷ pairs_of c right)

fork_at : (kind : Kind) (slots : ℕ) (c : Cells) (t : Tree) (above link : ℕ) → Spells kind slots c t above link
    → link ≢ 0 → ForkAt kind slots c t link
fork_at kind slots c Empty above link s ne = absurd (ne s)
fork_at kind slots c (Fork n l r) above link s ne =
    subst (λ (m : ℕ). ForkAt kind slots c (Fork n l r) m) (sym s.0)
    (record { left = l; right = r; slot = s.1.slot; spelled_left = s.2; spelled_right = s.3; pairs = refl })

none_at : (kind : Kind) (slots : ℕ) (c : Cells) (t : Tree) (above : ℕ) → Spells kind slots c t above 0
    → pairs_of c t ≡ []
none_at kind slots c Empty above s = refl
none_at kind slots c (Fork n l r) above s = let e : 0 ≡ n = s.0 in let low : 2 ≤ n = s.1.slot.0 in absurd (omega arith)

-- a link spells one tree alone, of whichever kind
pub spells_once : (kind kind' : Kind) (slots : ℕ) (c : Cells) (t t' : Tree) (above link : ℕ)
    → Spells kind slots c t above link → Spells kind' slots c t' above link → t ≡ t'
spells_once kind kind' slots c Empty Empty above link s s' = refl
spells_once kind kind' slots c Empty (Fork n l r) above link s s' = let z : link ≡ 0 = s in let e : link ≡ n = s'.0 in
    let low : 2 ≤ n = s'.1.slot.0 in absurd (omega arith)
spells_once kind kind' slots c (Fork n l r) Empty above link s s' = let z : link ≡ 0 = s' in let e : link ≡ n = s.0 in
    let low : 2 ≤ n = s.1.slot.0 in absurd (omega arith)
spells_once kind kind' slots c (Fork n l r) (Fork m l' r') above link s s' =
    let e : m ≡ n = sym s'.0 ∙ s.0 in
    let left : Spells kind' slots c l' n (c n Left) = subst (λ (x : ℕ). Spells kind' slots c l' x (c x Left)) e s'.2 in
    let right : Spells kind' slots c r' n (c n Right)
    = subst (λ (x : ℕ). Spells kind' slots c r' x (c x Right)) e s'.3 in
    let same_left : l ≡ l' = spells_once kind kind' slots c l l' n (c n Left) s.2 left in
    let same_right : r ≡ r' = spells_once kind kind' slots c r r' n (c n Right) s.3 right in
    λ i. Fork (sym e i) (same_left i) (same_right i)

-- what is listed, the tree at the link, and what waits in the stack are the pairs of the search tree
pub record IsListing (slots : ℕ) (c : Cells) (listed : Pairs) (link : ℕ) (stack : List ℕ) : Type 0 where
  pub kind : Kind
  pub all : Pairs
  pub search : IsSearchTree kind slots c all
  pub above : ℕ
  pub tree : Tree
  pub rest : Pairs
  pub spelled : Spells kind slots c tree above link
  pub waits : Waits kind slots c stack rest
  pub whole : listed ++ (pairs_of c tree ++ rest) ≡ all

pub listing_first : (kind : Kind) (slots : ℕ) (c : Cells) (all : Pairs) → IsSearchTree kind slots c all
    → IsListing slots c [] (c 1 Left) []
listing_first kind slots c all search = record {
  kind = kind;
  all = all;
  search = search;
  above = 1;
  tree = search.tree;
  rest = [];
  spelled = search.spelled;
  waits = refl;
  whole = append-nil (pairs_of c search.tree) ∙ search.pairs;
}

module _ (slots : ℕ) (c : Cells) (listed : Pairs) where
  pub listing_slot : (link : ℕ) (stack : List ℕ) → IsListing slots c listed link stack → link ≢ 0 → IsSlot slots link
  listing_slot link stack at ne = (fork_at at.kind slots c at.tree at.above link at.spelled ne).slot

  -- a node is put onto the stack, and the walk goes to its left
  pub listing_left : (link : ℕ) (stack : List ℕ) → IsListing slots c listed link stack → link ≢ 0
      → IsListing slots c listed (c link Left) (stack ++ link ∷ [])
  listing_left link stack at ne =
      let fork : ForkAt at.kind slots c at.tree link = fork_at at.kind slots c at.tree at.above link at.spelled ne in
      let here : Pairs = pair_of c link ∷ pairs_of c fork.right in
      record {
        kind = at.kind;
        all = at.all;
        search = at.search;
        above = link;
        tree = fork.left;
        rest = pair_of c link ∷ (pairs_of c fork.right ++ at.rest);
        spelled = fork.spelled_left;
        waits = waits_more at.kind slots c stack at.rest link fork.right at.waits fork.slot fork.spelled_right;
        whole = ap (λ (x : Pairs). listed ++ x)
            (sym (ap (λ (x : Pairs). x ++ at.rest) fork.pairs ∙ append_assoc (pairs_of c fork.left) here at.rest))
            ∙ at.whole;
      }

  pub listing_last : (stack : List ℕ) (node : ℕ) (at : IsListing slots c listed 0 (stack ++ node ∷ []))
      → LastWaits at.kind slots c stack at.rest node
  listing_last stack node at = waits_less at.kind slots c stack at.rest node at.waits

  -- the last node of the stack is listed, and the walk goes to its right
  pub listing_right : (stack : List ℕ) (node : ℕ) → IsListing slots c listed 0 (stack ++ node ∷ [])
      → IsListing slots c (listed ++ pair_of c node ∷ []) (c node Right) stack
  listing_right stack node at =
      let last : LastWaits at.kind slots c stack at.rest node = listing_last stack node at in
      record {
        kind = at.kind;
        all = at.all;
        search = at.search;
        above = node;
        tree = last.right;
        rest = last.front;
        spelled = last.spelled;
        waits = last.waits;
        whole = append_assoc listed (pair_of c node ∷ []) (pairs_of c last.right ++ last.front)
            ∙ ap (λ (x : Pairs). listed ++ x)
            (sym (ap (λ (x : Pairs). x ++ at.rest) (none_at at.kind slots c at.tree at.above at.spelled)
            ∙ last.whole)) ∙ at.whole;
      }

  -- no more nodes are listed and wait than there are slots
  pub listing_few : (link : ℕ) (stack : List ℕ) → IsListing slots c listed link stack
      → length listed + length stack ≤ slots
  listing_few link stack at =
      let rising : IsRising (pairs_of c at.search.tree) = subst IsRising (sym at.search.pairs) at.search.rising in
      let size : size_of at.search.tree ≤ slots
      = size-le-slots at.kind slots c at.search.tree 1 (c 1 Left) at.search.spelled rising in
      let long : length at.all ≡ size_of at.search.tree = ap (λ (x : Pairs). length x) (sym at.search.pairs)
      ∙ length-pairs_of c at.search.tree in
      let parts : length at.all ≡ length listed + (length (pairs_of c at.tree) + length at.rest)
      = ap (λ (x : Pairs). length x) (sym at.whole) ∙ length-append listed (pairs_of c at.tree ++ at.rest)
      ∙ ap (λ (x : ℕ). length listed + x) (length-append (pairs_of c at.tree) at.rest) in
      let few : length stack ≤ length at.rest = waits_few at.kind slots c stack at.rest at.waits in
      omega arith

  -- at the end all pairs are listed
  pub listing_done : IsListing slots c listed 0 [] → (kind : Kind) (ps : Pairs) → IsSearchTree kind slots c ps
      → listed ≡ ps
  listing_done at kind ps search =
      let none : pairs_of c at.tree ≡ [] = none_at at.kind slots c at.tree at.above at.spelled in
      let end : pairs_of c at.tree ++ at.rest ≡ [] = ap (λ (x : Pairs). x ++ at.rest) none ∙ at.waits in
      let listed_all : listed ≡ at.all = sym (ap (λ (x : Pairs). listed ++ x) end ∙ append-nil listed) ∙ at.whole in
      let one : at.search.tree ≡ search.tree
      = spells_once at.kind kind slots c at.search.tree search.tree 1
      (c 1 Left) at.search.spelled search.spelled in
      listed_all ∙ sym at.search.pairs ∙ ap (λ (t : Tree). pairs_of c t) one ∙ search.pairs
