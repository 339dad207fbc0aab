-- A node leaves a search tree: one with at most one child is unlinked, and one with two takes its
-- successor's key and value while the successor is unlinked in its stead.
use Rattle.std.proofs.Common.{◌≡◌, ◌≢◌, ℕ, ◌%◌, ◌⊎◌, inl, inr, ⊎_elim, ◌∷◌, ◌++◌, refl, sym, ap, ◌∙◌, subst, arith}
use Rattle.std.proofs.lemmas.List.{append-nil}
use Rattle.pc_model.specs.declared.cell.Field.{Field}
use Rattle.pc_model.specs.declared.cell.Field.TheVariants.{Version, Key, Value, Left, Right, Parent, Height}
use Rattle.pc_model.specs.Map.{Pairs, IsRising, without}
use Rattle.pc_model.specs.Cells.{Cells, IsEven, IsOdd, IsNode}
use Rattle.pc_model.specs.Trees.{Tree, Empty, Fork, Kind, parent_for, IsTreeNode, Spells, IsIn}
use Rattle.pc_model.specs.Trees.{pair_of, pairs_of, IsSearchTree}
use Rattle.pc_model.specs.declared.cell.Side.{Side}
use Rattle.pc_model.specs.declared.cell.Side.TheVariants.{Left as left, Right as right}
use Rattle.pc_model.specs.Sides.{link_of, fork_on}
use Rattle.pc_model.proofs.SortedLists.{without_rises, without_small}
use Rattle.pc_model.proofs.Framing.{tree_node_same, IsKept, spells_kept, pairs_kept, unmarked_in}
use Rattle.pc_model.proofs.Framing.{Apart, apart_from_rising, IsRehung, spells_rehung, pairs_rehung}
use Rattle.pc_model.proofs.TreeNodes.{root_is_in, zero_outside}
use Rattle.pc_model.proofs.Holes.{IsOutside, Framed, Hole, hole_apart, hole_outside, refilled}
use Rattle.pc_model.proofs.HolePairs.{without-hole}
use Rattle.pc_model.proofs.Links.{IsLinkAlone, link_alone}

-- The node n was unlinked: the link to it goes to its only child, which hangs below the node above now, or
-- to none, and n is marked.
pub record IsUnlinked (kind : Kind) (c c' : Cells) (above : ℕ) (side : Field) (n child : ℕ) : Type 0 where
  pub linked : c' above side ≡ child
  pub parent : child ≢ 0 → c' child Parent ≡ parent_for kind above (c child Parent)
  pub marked : IsOdd (c' n Version)
  -- other words stay, and versions keep their parity
  pub words : (m : ℕ) (f : Field) → m ≢ n → f ≢ Version → (m ≡ above → f ≢ side) → (m ≡ child → f ≢ Parent)
      → c' m f ≡ c m f
  pub parity : (m : ℕ) → m ≢ n → c' m Version % 2 ≡ c m Version % 2

-- the first node in order of a tree at a link below a node: what it hangs below, by which link, and its right tree
abbrev pub IsFirst : ℕ → Field → Tree → ℕ → Field → ℕ → Tree → Type 0
IsFirst above side Empty q link s rs = ⊥
IsFirst above side (Fork m Empty r) q link s rs = (q ≡ above) × (link ≡ side) × (s ≡ m) × (rs ≡ r)
IsFirst above side (Fork m (Fork a b d) r) q link s rs = IsFirst m Left (Fork a b d) q link s rs

-- The successor's key and value came up to n; the successor's right child, or none, hangs in its place
-- below q; and the successor is marked.
pub record IsLifted (kind : Kind) (c c' : Cells) (n q : ℕ) (link : Field) (s : ℕ) : Type 0 where
  pub key : c' n Key ≡ c s Key
  pub value : c' n Value ≡ c s Value
  pub linked : c' q link ≡ c s Right
  pub parent : c s Right ≢ 0 → c' (c s Right) Parent ≡ parent_for kind q (c (c s Right) Parent)
  pub marked : IsOdd (c' s Version)
  -- other words stay, and versions keep their parity
  pub words : (m : ℕ) (f : Field) → m ≢ s → f ≢ Version → (m ≡ n → f ≢ Key) → (m ≡ n → f ≢ Value) → (m ≡ q → f ≢ link)
      → (m ≡ c s Right → f ≢ Parent) → c' m f ≡ c m f
  pub parity : (m : ℕ) → m ≢ s → c' m Version % 2 ≡ c m Version % 2

-- Small facts

not_both_parities : (v : ℕ) → IsEven v → IsOdd v → ⊥
not_both_parities v even odd = absurd (omega (arith, even, odd))

-- a node of a tree is none outside of it
differs : (t : Tree) (m x : ℕ) → IsIn m t → (IsIn x t → ⊥) → m ≢ x
differs t m x i out = λ e. out (subst (λ (y : ℕ). IsIn y t) e i)

-- The first node of a tree

-- a tree without its first node
abbrev without_first : Tree → Tree
without_first Empty = Empty
without_first (Fork m Empty r) = r
without_first (Fork m (Fork a b d) r) = Fork m (without_first (Fork a b d)) r

module _ (q : ℕ) (link : Field) (s : ℕ) (rs : Tree) where
  first_is_in : (above : ℕ) (side : Field) (t : Tree) → IsFirst above side t q link s rs → IsIn s t
  first_is_in above side Empty first = absurd first
  first_is_in above side (Fork m Empty r) first = inl first.2
  first_is_in above side (Fork m (Fork a b d) r) first = inr (inl (first_is_in m Left (Fork a b d) first))

  -- the first node hangs at the tree's own link, or at the left link of a node of the tree
  first_hangs : (above : ℕ) (side : Field) (t : Tree) → IsFirst above side t q link s rs
      → ((q ≡ above) × (link ≡ side)) ⊎ (IsIn q t × (link ≡ Left))
  first_hangs above side Empty first = absurd first
  first_hangs above side (Fork m Empty r) first = inl (first.0, first.1)
  first_hangs above side (Fork m (Fork a b d) r) first =
      inr (⊎_elim (λ here. (inl here.0, here.1)) (λ deeper. (inr (inl deeper.0), deeper.1))
      (first_hangs m Left (Fork a b d) first))

  -- a node of the tree is the first, or one of the others
  first_or_later : (above : ℕ) (side : Field) (t : Tree) (m : ℕ) → IsFirst above side t q link s rs → IsIn m t
      → (m ≡ s) ⊎ IsIn m (without_first t)
  first_or_later above side Empty m first i = absurd i
  first_or_later above side (Fork x Empty r) m first i =
      ⊎_elim (λ e. inl (e ∙ sym first.2)) (λ j. ⊎_elim (λ no. absurd no) (λ later. inr later) j) i
  first_or_later above side (Fork x (Fork a b d) r) m first i =
      ⊎_elim (λ e. inr (inl e)) (λ j. ⊎_elim (λ k. ⊎_elim (λ e. inl e) (λ later. inr (inr (inl later)))
      (first_or_later x Left (Fork a b d) m first k)) (λ k. inr (inr (inr k))) j) i

-- the right child of the first node, where it has one, is in the tree
first_child : (kind : Kind) (slots : ℕ) (c : Cells) (q : ℕ) (link : Field) (s : ℕ) (rs : Tree) (above : ℕ)
    (side : Field) (t : Tree) (start : ℕ)
    → IsFirst above side t q link s rs → Spells kind slots c t above start → (c s Right ≡ 0) ⊎ IsIn (c s Right) t
first_child kind slots c q link s rs above side Empty start first spelled = absurd first
first_child kind slots c q link s rs above side (Fork m Empty r) start first spelled =
    subst (λ (x : ℕ). (c x Right ≡ 0) ⊎ IsIn (c x Right) (Fork m Empty r)) (sym first.2)
    (⊎_elim (λ zero. inl zero) (λ i. inr (inr (inr i))) (root_is_in kind slots c r m (c m Right) spelled.3))
first_child kind slots c q link s rs above side (Fork m (Fork a b d) r) start first spelled =
    ⊎_elim (λ zero. inl zero) (λ i. inr (inr (inl i)))
    (first_child kind slots c q link s rs m Left (Fork a b d) (c m Left) first spelled.2)

-- the tree without its first node hangs at the same link of the changed cells, and has the other pairs
record IsWithoutFirst (kind : Kind) (slots : ℕ) (c c' : Cells) (above : ℕ) (side : Field) (t : Tree)
    (s : ℕ) : Type 0 where
  spelled : Spells kind slots c' (without_first t) above (c' above side)
  pairs : pairs_of c t ≡ pair_of c s ∷ pairs_of c' (without_first t)

-- The successor s comes up to n

module _ (kind : Kind) (slots : ℕ) (c c' : Cells) (n q : ℕ) (link : Field) (s : ℕ)
    (up : IsLifted kind c c' n q link s) where
  -- a tree that lies apart from all that changes is kept
  untouched : (t : Tree) (above start : ℕ) → Spells kind slots c t above start → (IsIn n t → ⊥) → (IsIn q t → ⊥)
      → (IsIn s t → ⊥)
      → (IsIn (c s Right) t → ⊥) → IsKept c c' t
  untouched t above start spelled no_n no_q no_s no_child = record {
    words = λ m f i not_version. up.words m f (differs t m s i no_s) not_version (λ e. absurd (differs t m n i no_n e))
        (λ e. absurd (differs t m n i no_n e)) (λ e. absurd (differs t m q i no_q e))
        (λ e. absurd (differs t m (c s Right) i no_child e));
    unmarked = λ m i. up.parity m (differs t m s i no_s) ∙ unmarked_in kind slots c t above start m spelled i;
  }

  -- the successor's right tree comes to hang below q
  child_rehung : (t : Tree) → Spells kind slots c t s (c s Right) → (IsIn n t → ⊥) → (IsIn q t → ⊥) → (IsIn s t → ⊥)
      → IsRehung kind c c' t q (c s Right)
  child_rehung t spelled no_n no_q no_s = record {
    parent = up.parent;
    words = λ m f i not_version. up.words m f (differs t m s i no_s) not_version (λ e. absurd (differs t m n i no_n e))
        (λ e. absurd (differs t m n i no_n e)) (λ e. absurd (differs t m q i no_q e));
    unmarked = λ m i. up.parity m (differs t m s i no_s) ∙ unmarked_in kind slots c t s (c s Right) m spelled i;
  }

  -- the first node goes from a tree that n and the node above it are no part of
  first_goes : (rs : Tree) (above : ℕ) (side : Field) (t : Tree) → (side ≡ Left) ⊎ (side ≡ Right)
      → Spells kind slots c t above (c above side)
      → IsRising (pairs_of c t) → (IsIn n t → ⊥) → (IsIn above t → ⊥) → IsFirst above side t q link s rs
      → IsWithoutFirst kind slots c c' above side t s
  first_goes rs above side Empty is_link spelled rising no_n no_above first = absurd first
  first_goes rs above side (Fork m Empty r) is_link spelled rising no_n no_above first =
      let apart : Apart c m Empty r = apart_from_rising c m Empty r rising in
      let below_s : Spells kind slots c r s (c s Right) =
      subst (λ (x : ℕ). Spells kind slots c r x (c x Right)) (sym first.2) spelled.3 in
      let rehung : IsRehung kind c c' r q (c s Right) = child_rehung r below_s (λ i. no_n (inr (inr i)))
      (λ i. no_above (inr (inr (subst (λ (x : ℕ). IsIn x r) first.0 i))))
      (λ i. apart.not_right (subst (λ (x : ℕ). IsIn x r) first.2 i)) in
      let linked : c' above side ≡ c s Right = (λ i. c' (sym first.0 i) (sym first.1 i)) ∙ up.linked in
      let below_q : Spells kind slots c' r q (c s Right) =
      spells_rehung kind slots c c' r s q (c s Right) rehung apart.right below_s in
      let here : pair_of c m ≡ pair_of c s = ap (pair_of c) (sym first.2) in
      let others : pairs_of c r ≡ pairs_of c' r = sym (pairs_rehung kind c c' r q (c s Right) rehung) in
      record {
        spelled = rw linked (subst (λ (x : ℕ). Spells kind slots c' r x (c s Right)) first.0 below_q);
        pairs = λ i. here i ∷ others i;
      }
  first_goes rs above side (Fork m (Fork a b d) r) is_link spelled rising no_n no_above first =
      let l : Tree = Fork a b d in
      let apart : Apart c m l r = apart_from_rising c m l r rising in
      let alone : IsLinkAlone side = link_alone side is_link in
      let hangs : ((q ≡ m) × (link ≡ Left)) ⊎ (IsIn q l × (link ≡ Left)) = first_hangs q link s rs m Left l first in
      let is_left : link ≡ Left = ⊎_elim (λ here. here.1) (λ deeper. deeper.1) hangs in
      let in_s : IsIn s l = first_is_in q link s rs m Left l first in
      let in_q : IsIn q (Fork m l r) = ⊎_elim (λ here. inl here.0) (λ deeper. inr (inl deeper.0)) hangs in
      let in_child : (c s Right ≡ 0) ⊎ IsIn (c s Right) l =
      first_child kind slots c q link s rs m Left l (c m Left) first spelled.2 in
      let no_q : IsIn q r → ⊥ = λ i. ⊎_elim (λ here. apart.not_right (subst (λ (x : ℕ). IsIn x r) here.0 i))
      (λ deeper. apart.not_both q deeper.0 i) hangs in
      let no_child : IsIn (c s Right) r → ⊥ = λ i. ⊎_elim
      (λ zero. zero_outside kind slots c r m (c m Right) (c s Right) spelled.3 zero i)
      (λ j. apart.not_both (c s Right) j i) in_child in
      let not_child : m ≢ c s Right = λ e. ⊎_elim
      (λ zero. zero_outside kind slots c (Fork m l r) above (c above side) m spelled (e ∙ zero) (inl refl))
      (λ j. apart.not_left (subst (λ (x : ℕ). IsIn x l) (sym e) j)) in_child in
      let taken : IsWithoutFirst kind slots c c' m Left l s =
      first_goes rs m Left (Fork a b d) (inl refl) spelled.2 apart.left
      (λ i. no_n (inr (inl i))) apart.not_left first in
      let upper : c' above side ≡ c above side = up.words above side
      (λ e. differs l s above in_s (λ i. no_above (inr (inl i))) (sym e))
      (λ e. alone.version (sym e)) (λ _ e. alone.key (sym e)) (λ _ e. alone.value (sym e))
      (λ e. absurd (differs (Fork m l r) q above in_q no_above (sym e))) (λ _ e. alone.parent (sym e)) in
      let own : (f : Field) → f ≢ Version → f ≢ Left → c' m f ≡ c m f = λ f not_version not_left. up.words m f
      (λ e. differs l s m in_s apart.not_left (sym e)) not_version
      (λ e. absurd (no_n (inl (sym e)))) (λ e. absurd (no_n (inl (sym e)))) (λ _ e. not_left (e ∙ is_left))
      (λ e. absurd (not_child e)) in
      let kept : IsKept c c' r = untouched r m (c m Right) spelled.3 (λ i. no_n (inr (inr i))) no_q
      (apart.not_both s in_s) no_child in
      let even : IsEven (c' m Version) = up.parity m (λ e. differs l s m in_s apart.not_left (sym e))
      ∙ spelled.1.unmarked in
      let node : IsTreeNode kind slots c' above m = tree_node_same kind slots c c' above m even
      (own Parent (λ e. cc) (λ e. cc)) (own Height (λ e. cc) (λ e. cc)) spelled.1 in
      let right : Spells kind slots c' r m (c' m Right) =
      rw (own Right (λ e. cc) (λ e. cc)) (spells_kept kind slots c c' r m (c m Right) kept spelled.3) in
      let key : c m Key ≡ c' m Key = sym (own Key (λ e. cc) (λ e. cc)) in
      let value : c m Value ≡ c' m Value = sym (own Value (λ e. cc) (λ e. cc)) in
      let others : pairs_of c r ≡ pairs_of c' r = sym (pairs_kept c c' r kept) in
      record {
        spelled = (upper ∙ spelled.0, node, taken.spelled, right);
        pairs = λ i. taken.pairs i ++ ((key i, value i) ∷ others i);
      }

-- The whole tree

module _ (kind : Kind) (slots : ℕ) (c : Cells) (ps : Pairs) (s : IsSearchTree kind slots c ps) (k above : ℕ)
    (side : Field) (n : ℕ) where
  -- One tree takes the node's place: in order its nodes are those of the node's two sides.
  module _ (l r t : Tree) (child : ℕ) (c' : Cells) (h : Hole kind slots c ps s.tree k above side (Fork n l r))
      (un : IsUnlinked kind c c' above side n child) (spelled : Spells kind slots c t n child)
      (rising : IsRising (pairs_of c t)) (pairs : pairs_of c t ≡ pairs_of c l ++ pairs_of c r)
      (from : (m : ℕ) → IsIn m t → IsIn m l ⊎ IsIn m r) where
    not_unlinked : (m : ℕ) → (IsIn m (Fork n l r) → ⊥) → m ≢ n
    not_unlinked m out e = out (inl e)

    unlinked_rehung : IsRehung kind c c' t above child
    unlinked_rehung =
        let apart : Apart c n l r = hole_apart kind slots c ps s.tree k above side n l r s.rising h in
        let no_n : IsIn n t → ⊥ = λ i. ⊎_elim apart.not_left apart.not_right (from n i) in
        record {
          parent = un.parent;
          words = λ m f i not_version. un.words m f (differs t m n i no_n) not_version
              (λ e. absurd (differs t m above i (λ j. h.apart (inr (from above j))) e));
          unmarked = λ m i. un.parity m (differs t m n i no_n) ∙ unmarked_in kind slots c t n child m spelled i;
        }

    unlinked_framed : Framed slots c c' above side (Fork n l r)
    unlinked_framed = record {
      words = λ m f outside not_version not_link. un.words m f (not_unlinked m outside.out) not_version not_link
          (λ e. absurd (⊎_elim
          (λ zero. let is_node : IsNode slots m = outside.node in let none : m ≡ 0 = e ∙ zero in absurd (omega arith))
          (λ i. outside.out (inr (from m (subst (λ (x : ℕ). IsIn x t) (sym e) i))))
          (root_is_in kind slots c t n child spelled)));
      unmarked = λ m outside. un.parity m (not_unlinked m outside.out) ∙ outside.unmarked;
    }

    unlinked : c n Key ≡ k → ((m : ℕ) → IsIn m l ⊎ IsIn m r → IsIn m t) → IsSearchTree kind slots c' (without k ps)
    unlinked key into =
        let there : Spells kind slots c' t above (c' above side) =
        rw un.linked (spells_rehung kind slots c c' t n above child unlinked_rehung rising spelled) in
        let sub : pairs_of c' t ≡ pairs_of c l ++ pairs_of c r = pairs_rehung kind c c' t above child unlinked_rehung
        ∙ pairs in
        let not_n : (m : ℕ) → IsEven (c' m Version) → m ≢ n = λ m even e.
        not_both_parities (c' n Version) (subst (λ (x : ℕ). IsEven (c' x Version)) e even) un.marked in
        refilled kind slots c ps s k above side (Fork n l r) t h c' (without k ps) unlinked_framed there
        (ap (λ (x : Pairs). h.before ++ (x ++ h.after)) sub
        ∙ sym (without-hole kind slots c ps s.tree k above side n l r s.rising h key))
        (without_rises k ps s.rising) (without_small k ps s.small)
        (λ m is even old. ⊎_elim
        (λ i. ⊎_elim (λ e. absurd (not_n m even e)) (into m) i)
        (λ odd. absurd (not_both_parities (c m Version) (sym (un.parity m (not_n m even)) ∙ even) odd)) old)

  pub unlinked_left : (l : Tree) (c' : Cells) → Hole kind slots c ps s.tree k above side (Fork n l Empty) → c n Key ≡ k
      → IsUnlinked kind c c' above side n (c n Left) → IsSearchTree kind slots c' (without k ps)
  unlinked_left l c' h key un =
      let apart : Apart c n l Empty = hole_apart kind slots c ps s.tree k above side n l Empty s.rising h in
      unlinked l Empty l (c n Left) c' h un h.spelled.2 apart.left (sym (append-nil (pairs_of c l))) (λ m i. inl i)
      key (λ m i. ⊎_elim (λ j. j) (λ j. absurd j) i)

  pub unlinked_right : (r : Tree) (c' : Cells) → Hole kind slots c ps s.tree k above side (Fork n Empty r)
      → c n Key ≡ k
      → IsUnlinked kind c c' above side n (c n Right) → IsSearchTree kind slots c' (without k ps)
  unlinked_right r c' h key un =
      let apart : Apart c n Empty r = hole_apart kind slots c ps s.tree k above side n Empty r s.rising h in
      unlinked Empty r r (c n Right) c' h un h.spelled.3 apart.right refl (λ m i. inr i)
      key (λ m i. ⊎_elim (λ j. absurd j) (λ j. j) i)

  -- the node's only child, or none, is on this side
  pub unlinked_on : (child_side : Side) (t : Tree) (c' : Cells)
      → Hole kind slots c ps s.tree k above side (fork_on child_side n t Empty)
      → c n Key ≡ k → IsUnlinked kind c c' above side n (c n (link_of child_side))
      → IsSearchTree kind slots c' (without k ps)
  unlinked_on left t c' h key un = unlinked_left t c' h key un
  unlinked_on right t c' h key un = unlinked_right t c' h key un

  -- The node's successor comes up.
  module _ (l r : Tree) (q : ℕ) (link : Field) (next : ℕ) (rs : Tree) (c' : Cells)
      (h : Hole kind slots c ps s.tree k above side (Fork n l r))
      (first : IsFirst n Right r q link next rs) (up : IsLifted kind c c' n q link next) where
    lifted_apart : Apart c n l r
    lifted_apart = hole_apart kind slots c ps s.tree k above side n l r s.rising h

    -- where the successor hangs, and its right child
    hangs : ((q ≡ n) × (link ≡ Right)) ⊎ (IsIn q r × (link ≡ Left))
    hangs = first_hangs q link next rs n Right r first

    in_next : IsIn next r
    in_next = first_is_in q link next rs n Right r first

    in_child : (c next Right ≡ 0) ⊎ IsIn (c next Right) r
    in_child = first_child kind slots c q link next rs n Right r (c n Right) first h.spelled.3

    not_next : n ≢ next
    not_next e = differs r next n in_next lifted_apart.not_right (sym e)

    not_child : n ≢ c next Right
    not_child e = ⊎_elim
        (λ zero. zero_outside kind slots c (Fork n l r) above (c above side) n h.spelled (e ∙ zero) (inl refl))
        (λ i. lifted_apart.not_right (subst (λ (x : ℕ). IsIn x r) (sym e) i)) in_child

    not_next_outside : (m : ℕ) → (IsIn m (Fork n l r) → ⊥) → m ≢ next
    not_next_outside m out e = out (inr (inr (subst (λ (x : ℕ). IsIn x r) (sym e) in_next)))

    lifted_outside : (m : ℕ) (f : Field) → IsOutside slots c (Fork n l r) m → f ≢ Version → c' m f ≡ c m f
    lifted_outside m f outside not_version = up.words m f (not_next_outside m outside.out) not_version
        (λ e. absurd (outside.out (inl e))) (λ e. absurd (outside.out (inl e)))
        (λ e. absurd (⊎_elim (λ here. outside.out (inl (e ∙ here.0)))
        (λ deeper. outside.out (inr (inr (subst (λ (x : ℕ). IsIn x r) (sym e) deeper.0)))) hangs))
        (λ e. absurd (⊎_elim
        (λ zero. let is_node : IsNode slots m = outside.node in let none : m ≡ 0 = e ∙ zero in absurd (omega arith))
        (λ i. outside.out (inr (inr (subst (λ (x : ℕ). IsIn x r) (sym e) i)))) in_child))

    lifted_framed : Framed slots c c' above side (Fork n l r)
    lifted_framed = record {
      words = λ m f outside not_version _. lifted_outside m f outside not_version;
      unmarked = λ m outside. up.parity m (not_next_outside m outside.out) ∙ outside.unmarked;
    }

    left_kept : IsKept c c' l
    left_kept = untouched kind slots c c' n q link next up l n (c n Left) h.spelled.2 lifted_apart.not_left
        (λ i. ⊎_elim (λ here. lifted_apart.not_left (subst (λ (x : ℕ). IsIn x l) here.0 i))
        (λ deeper. lifted_apart.not_both q i deeper.0) hangs)
        (λ i. lifted_apart.not_both next i in_next)
        (λ i. ⊎_elim (λ zero. zero_outside kind slots c l n (c n Left) (c next Right) h.spelled.2 zero i)
        (λ j. lifted_apart.not_both (c next Right) i j) in_child)

    taken : IsWithoutFirst kind slots c c' n Right r next
    taken = first_goes kind slots c c' n q link next up rs n Right r (inr refl) h.spelled.3 lifted_apart.right
        lifted_apart.not_right lifted_apart.not_right first

    own_same : (f : Field) → f ≢ Version → f ≢ Key → f ≢ Value → f ≢ Right → c' n f ≡ c n f
    own_same f not_version not_key not_value not_right =
        up.words n f not_next not_version (λ _. not_key) (λ _. not_value)
        (λ e g. ⊎_elim (λ here. not_right (g ∙ here.1))
        (λ deeper. differs r q n deeper.0 lifted_apart.not_right (sym e)) hangs)
        (λ e. absurd (not_child e))

    lifted_spelled : Spells kind slots c' (Fork n l (without_first r)) above (c' above side)
    lifted_spelled =
        let alone : IsLinkAlone side = link_alone side h.link in
        let upper : c' above side ≡ c above side = lifted_outside above side
        (hole_outside kind slots c ps s.tree k above side (Fork n l r) h) (λ e. alone.version (sym e)) in
        let node : IsTreeNode kind slots c' above n = tree_node_same kind slots c c' above n
        (up.parity n not_next ∙ h.spelled.1.unmarked)
        (own_same Parent (λ e. cc) (λ e. cc) (λ e. cc) (λ e. cc))
        (own_same Height (λ e. cc) (λ e. cc) (λ e. cc) (λ e. cc)) h.spelled.1 in
        let left_tree : Spells kind slots c' l n (c' n Left) =
        rw (own_same Left (λ e. cc) (λ e. cc) (λ e. cc) (λ e. cc))
        (spells_kept kind slots c c' l n (c n Left) left_kept h.spelled.2) in
        (upper ∙ h.spelled.0, node, left_tree, taken.spelled)

    lifted_pairs : pairs_of c' (Fork n l (without_first r)) ≡ pairs_of c l ++ pairs_of c r
    lifted_pairs =
        let same_left : pairs_of c' l ≡ pairs_of c l = pairs_kept c c' l left_kept in
        let up_key : c' n Key ≡ c next Key = up.key in
        let up_value : c' n Value ≡ c next Value = up.value in
        (λ i. same_left i ++ ((up_key i, up_value i) ∷ pairs_of c' (without_first r)))
        ∙ ap (λ (x : Pairs). pairs_of c l ++ x) (sym taken.pairs)

    pub lifted : c n Key ≡ k → IsSearchTree kind slots c' (without k ps)
    lifted key =
        let not_marked : (m : ℕ) → IsEven (c' m Version) → m ≢ next = λ m even e.
        not_both_parities (c' next Version) (subst (λ (x : ℕ). IsEven (c' x Version)) e even) up.marked in
        let stays : (m : ℕ) → IsEven (c' m Version) → IsIn m r → IsIn m (without_first r) = λ m even i. ⊎_elim
        (λ e. absurd (not_marked m even e)) (λ later. later) (first_or_later q link next rs n Right r m first i) in
        refilled kind slots c ps s k above side (Fork n l r) (Fork n l (without_first r)) h c'
        (without k ps) lifted_framed lifted_spelled
        (ap (λ (x : Pairs). h.before ++ (x ++ h.after)) lifted_pairs
        ∙ sym (without-hole kind slots c ps s.tree k above side n l r s.rising h key))
        (without_rises k ps s.rising) (without_small k ps s.small)
        (λ m is even was. ⊎_elim
        (λ i. ⊎_elim (λ e. inl e) (λ j. ⊎_elim (λ i_l. inr (inl i_l)) (λ i_r. inr (inr (stays m even i_r))) j) i)
        (λ odd. absurd (not_both_parities (c m Version) (sym (up.parity m (not_marked m even)) ∙ even) odd)) was)
