-- A search tree is linked: what its links name is in it, and each of its nodes is the child of one node alone.
use Rattle.std.proofs.Common.{◌≡◌, ◌≢◌, ℕ, ◌⊎◌, inl, inr, ⊎_elim, refl, sym, ◌∙◌, subst, arith}
use Rattle.std.proofs.lemmas.Bool.{cases_eq}
use Rattle.pc_model.specs.declared.cell.Field.{Field}
use Rattle.pc_model.specs.declared.cell.Field.TheVariants.{Version, Key, Value, Left, Right, Parent, Height, Spare}
use Rattle.pc_model.specs.Map.{Pairs, IsRising}
use Rattle.pc_model.specs.Cells.{Cells, IsEven, IsSlot}
use Rattle.pc_model.specs.Trees.{Tree, Empty, Fork, Kind, plain, balanced, IsOfKind, Spells, IsIn, pairs_of, IsSearchTree}
use Rattle.pc_model.specs.TreeForms.{tree_form}
use Rattle.pc_model.specs.Linked.{IsLinkField, IsUnmarked, IsChildOf, HangsOnce, IsLinked}
use Rattle.pc_model.specs.Shapes.{ShapeLaws, laws_from_linked}
use Rattle.pc_model.proofs.Framing.{slot_in, unmarked_in, Apart, apart_from_rising}
use Rattle.pc_model.proofs.TreeNodes.{root_is_in}

-- the parent field of a node by its kind: 0, or the node above
kind_parent : (kind : Kind) (c : Cells) (above n : ℕ) → IsOfKind kind c above n
    → (c n Parent ≡ 0) ⊎ (c n Parent ≡ above)
kind_parent plain c above n of_kind = inl of_kind.0
kind_parent balanced c above n of_kind = inr of_kind.0

-- the tree's node at a link of one of its nodes, if the link isn't 0
child_in : (kind : Kind) (slots : ℕ) (c : Cells) (t : Tree) (above link q n : ℕ) → Spells kind slots c t above link
    → IsIn q t → IsChildOf c n q → (n ≡ 0) ⊎ IsIn n t
child_in kind slots c Empty above link q n s i child = absurd i
child_in kind slots c (Fork m l r) above link q n s i child = ⊎_elim
    (λ is. of_root (subst (IsChildOf c n) is child))
    (λ below. ⊎_elim
    (λ in_l. ⊎_elim (λ none'. inl none') (λ found. inr (inr (inl found)))
    (child_in kind slots c l m (c m Left) q n s.2 in_l child))
    (λ in_r. ⊎_elim (λ none'. inl none') (λ found. inr (inr (inr found)))
    (child_in kind slots c r m (c m Right) q n s.3 in_r child))
    below)
    i
  where
    of_root : IsChildOf c n m → (n ≡ 0) ⊎ IsIn n (Fork m l r)
    of_root named = ⊎_elim
        (λ left. ⊎_elim
        (λ none'. inl (sym left ∙ none'))
        (λ found. inr (inr (inl (subst (λ (x : ℕ). IsIn x l) left found))))
        (root_is_in kind slots c l m (c m Left) s.2))
        (λ right. ⊎_elim
        (λ none'. inl (sym right ∙ none'))
        (λ found. inr (inr (inr (subst (λ (x : ℕ). IsIn x r) right found))))
        (root_is_in kind slots c r m (c m Right) s.3))
        named

-- the parent field of a tree's node: 0, the node above the tree, or a node of the tree
parent_in : (kind : Kind) (slots : ℕ) (c : Cells) (t : Tree) (above link n : ℕ) → Spells kind slots c t above link
    → IsIn n t → (c n Parent ≡ 0) ⊎ ((c n Parent ≡ above) ⊎ IsIn (c n Parent) t)
parent_in kind slots c Empty above link n s i = absurd i
parent_in kind slots c (Fork m l r) above link n s i = ⊎_elim
    (λ is. subst (λ (x : ℕ). (c x Parent ≡ 0) ⊎ ((c x Parent ≡ above) ⊎ IsIn (c x Parent) (Fork m l r))) (sym is)
    (⊎_elim (λ none'. inl none') (λ up. inr (inl up)) (kind_parent kind c above m s.1.of_kind)))
    (λ below. ⊎_elim
    (λ in_l. ⊎_elim
    (λ none'. inl none')
    (λ up. inr (inr (⊎_elim (λ is. inl is) (λ found. inr (inl found)) up)))
    (parent_in kind slots c l m (c m Left) n s.2 in_l))
    (λ in_r. ⊎_elim
    (λ none'. inl none')
    (λ up. inr (inr (⊎_elim (λ is. inl is) (λ found. inr (inr found)) up)))
    (parent_in kind slots c r m (c m Right) n s.3 in_r))
    below)
    i

-- the node is named by the link to the tree, or by a link of a node of it
abbrev IsNamedBy : Cells → Tree → ℕ → ℕ → ℕ → ℕ → Type 0
IsNamedBy c t above link n p = ((p ≡ above) × (link ≡ n)) ⊎ (IsIn p t × IsChildOf c n p)

-- one node names it, and no other
abbrev IsNamedOnce : Cells → Tree → ℕ → ℕ → ℕ → Type 0
IsNamedOnce c t above link n = (p : ℕ) × IsNamedBy c t above link n p
    × ((q : ℕ) → IsNamedBy c t above link n q → q ≡ p)

module _ (kind : Kind) (slots : ℕ) (c : Cells) (m : ℕ) (l r : Tree) (above link : ℕ)
    (s : Spells kind slots c (Fork m l r) above link) (apart : Apart c m l r) where
  not_zero : (n : ℕ) → IsIn n (Fork m l r) → n ≢ 0
  not_zero n i none' =
      let slot : IsSlot slots n = slot_in kind slots c (Fork m l r) above link n s i in absurd (omega (arith, slot, none'))

  -- a node on the left isn't named by one on the right, and so on
  left_alone : (n q : ℕ) → IsIn n l → IsIn q r → IsChildOf c n q → ⊥
  left_alone n q in_l in_r child = ⊎_elim
      (λ none'. not_zero n (inr (inl in_l)) none')
      (λ found. apart.not_both n in_l found)
      (child_in kind slots c r m (c m Right) q n s.3 in_r child)

  right_alone : (n q : ℕ) → IsIn n r → IsIn q l → IsChildOf c n q → ⊥
  right_alone n q in_r in_l child = ⊎_elim
      (λ none'. not_zero n (inr (inr in_r)) none')
      (λ found. apart.not_both n found in_r)
      (child_in kind slots c l m (c m Left) q n s.2 in_l child)

  -- the root is named by no node of its own tree
  root_alone : (q : ℕ) → IsIn q (Fork m l r) → IsChildOf c m q → ⊥
  root_alone q i child = ⊎_elim
      (λ is. ⊎_elim
      (λ left. ⊎_elim
      (λ none'. not_zero m (inl refl) (sym left ∙ none'))
      (λ found. apart.not_left (subst (λ (x : ℕ). IsIn x l) left found))
      (root_is_in kind slots c l m (c m Left) s.2))
      (λ right. ⊎_elim
      (λ none'. not_zero m (inl refl) (sym right ∙ none'))
      (λ found. apart.not_right (subst (λ (x : ℕ). IsIn x r) right found))
      (root_is_in kind slots c r m (c m Right) s.3))
      (subst (IsChildOf c m) is child))
      (λ below. ⊎_elim
      (λ in_l. ⊎_elim (λ none'. not_zero m (inl refl) none') apart.not_left
      (child_in kind slots c l m (c m Left) q m s.2 in_l child))
      (λ in_r. ⊎_elim (λ none'. not_zero m (inl refl) none') apart.not_right
      (child_in kind slots c r m (c m Right) q m s.3 in_r child))
      below)
      i

  named_root : IsNamedOnce c (Fork m l r) above link m
  named_root = (
    above,
    inl (refl, s.0),
    (λ q named. ⊎_elim
        (λ up. up.0)
        (λ inside. absurd (root_alone q inside.0 inside.1)) named),
  )

  left_of_root : (n : ℕ) → IsIn n l → IsChildOf c n m → c m Left ≡ n
  left_of_root n in_l child = ⊎_elim
      (λ left. left)
      (λ right. absurd (⊎_elim
      (λ none'. not_zero n (inr (inl in_l)) (sym right ∙ none'))
      (λ found. apart.not_both n in_l (subst (λ (x : ℕ). IsIn x r) right found))
      (root_is_in kind slots c r m (c m Right) s.3)))
      child

  right_of_root : (n : ℕ) → IsIn n r → IsChildOf c n m → c m Right ≡ n
  right_of_root n in_r child = ⊎_elim
      (λ left. absurd (⊎_elim
      (λ none'. not_zero n (inr (inr in_r)) (sym left ∙ none'))
      (λ found. apart.not_both n (subst (λ (x : ℕ). IsIn x l) left found) in_r)
      (root_is_in kind slots c l m (c m Left) s.2)))
      (λ right. right)
      child

  named_left : (n : ℕ) → IsIn n l → IsNamedOnce c l m (c m Left) n → IsNamedOnce c (Fork m l r) above link n
  named_left n in_l named = (
    named.0,
    ⊎_elim (λ up. inr (inl up.0, inl (subst (λ (x : ℕ). c x Left ≡ n) (sym up.0) up.1)))
        (λ inside. inr (inr (inl inside.0), inside.1)) named.1,
    (λ q by. ⊎_elim
        (λ up. absurd (apart.not_left (subst (λ (x : ℕ). IsIn x l) (sym up.1 ∙ s.0) in_l)))
        (λ inside. ⊎_elim
        (λ is. named.2 q (inl (is, left_of_root n in_l (subst (IsChildOf c n) is inside.1))))
        (λ below. ⊎_elim
        (λ q_left. named.2 q (inr (q_left, inside.1)))
        (λ q_right. absurd (left_alone n q in_l q_right inside.1))
        below)
        inside.0)
        by),
  )

  named_right : (n : ℕ) → IsIn n r → IsNamedOnce c r m (c m Right) n → IsNamedOnce c (Fork m l r) above link n
  named_right n in_r named = (
    named.0,
    ⊎_elim (λ up. inr (inl up.0, inr (subst (λ (x : ℕ). c x Right ≡ n) (sym up.0) up.1)))
        (λ inside. inr (inr (inr inside.0), inside.1)) named.1,
    (λ q by. ⊎_elim
        (λ up. absurd (apart.not_right (subst (λ (x : ℕ). IsIn x r) (sym up.1 ∙ s.0) in_r)))
        (λ inside. ⊎_elim
        (λ is. named.2 q (inl (is, right_of_root n in_r (subst (IsChildOf c n) is inside.1))))
        (λ below. ⊎_elim
        (λ q_left. absurd (right_alone n q in_r q_left inside.1))
        (λ q_right. named.2 q (inr (q_right, inside.1)))
        below)
        inside.0)
        by),
  )

named_once : (kind : Kind) (slots : ℕ) (c : Cells) (t : Tree) (above link n : ℕ) → Spells kind slots c t above link
    → IsRising (pairs_of c t) → IsIn n t → IsNamedOnce c t above link n
named_once kind slots c Empty above link n s rising i = absurd i
named_once kind slots c (Fork m l r) above link n s rising i =
    let apart : Apart c m l r = apart_from_rising c m l r rising in
    ⊎_elim
    (λ is. subst (IsNamedOnce c (Fork m l r) above link) (sym is) (named_root kind slots c m l r above link s apart))
    (λ below. ⊎_elim
    (λ in_l. named_left kind slots c m l r above link s apart n in_l
    (named_once kind slots c l m (c m Left) n s.2 apart.left in_l))
    (λ in_r. named_right kind slots c m l r above link s apart n in_r
    (named_once kind slots c r m (c m Right) n s.3 apart.right in_r))
    below)
    i

module _ (kind : Kind) (slots : ℕ) (c : Cells) (ps : Pairs) (sound : IsSearchTree kind slots c ps) where
  in_use : (n : ℕ) → IsIn n sound.tree → IsUnmarked slots c n
  in_use n i =
      let slot : IsSlot slots n = slot_in kind slots c sound.tree 1 (c 1 Left) n sound.spelled i in (
        (omega (arith, slot.0), slot.1),
        unmarked_in kind slots c sound.tree 1 (c 1 Left) n sound.spelled i,
      )

  root : IsUnmarked slots c 1
  root = ((omega arith, omega arith), sound.unmarked)

  in_tree : (n : ℕ) → IsUnmarked slots c n → (n ≡ 1) ⊎ IsIn n sound.tree
  in_tree n unmarked = ⊎_elim
      (λ one. inl one)
      (λ other. inr (sound.covered n (omega (arith, unmarked.0.0, other), unmarked.0.1) unmarked.1))
      (cases_eq n 1)

  child_link : (n f : ℕ) → (f ≡ 0) ⊎ IsIn f sound.tree → f ≢ 0 → IsUnmarked slots c f
  child_link n f named ne = ⊎_elim (λ none'. absurd (ne none')) (in_use f) named

  root_links : (f : Field) → IsLinkField f → c 1 f ≢ 0 → IsUnmarked slots c (c 1 f)
  root_links Version link ne = absurd link
  root_links Key link ne = absurd link
  root_links Value link ne = absurd link
  root_links Left link ne = child_link 1 (c 1 Left) (root_is_in kind slots c sound.tree 1 (c 1 Left) sound.spelled) ne
  root_links Right link ne = absurd (ne sound.no_right)
  root_links Parent link ne = absurd (ne sound.no_parent)
  root_links Height link ne = absurd link
  root_links Spare link ne = absurd link

  node_links : (n : ℕ) → IsIn n sound.tree → (f : Field) → IsLinkField f → c n f ≢ 0 → IsUnmarked slots c (c n f)
  node_links n i Version link ne = absurd link
  node_links n i Key link ne = absurd link
  node_links n i Value link ne = absurd link
  node_links n i Left link ne = child_link n (c n Left)
      (child_in kind slots c sound.tree 1 (c 1 Left) n (c n Left) sound.spelled i (inl refl)) ne
  node_links n i Right link ne = child_link n (c n Right)
      (child_in kind slots c sound.tree 1 (c 1 Left) n (c n Right) sound.spelled i (inr refl)) ne
  node_links n i Parent link ne = ⊎_elim
      (λ none'. absurd (ne none'))
      (λ up. ⊎_elim
      (λ one. subst (IsUnmarked slots c) (sym one) root)
      (λ found. in_use (c n Parent) found)
      up)
      (parent_in kind slots c sound.tree 1 (c 1 Left) n sound.spelled i)
  node_links n i Height link ne = absurd link
  node_links n i Spare link ne = absurd link

  hangs : (n : ℕ) → IsSlot slots n → IsEven (c n Version) → HangsOnce slots c n
  hangs n slot even =
      let named : IsNamedOnce c sound.tree 1 (c 1 Left) n = named_once kind slots c sound.tree 1 (c 1 Left) n sound.spelled
      (subst IsRising (sym sound.pairs) sound.rising) (sound.covered n slot even) in record {
        above = named.0;
        unmarked = ⊎_elim (λ up. subst (IsUnmarked slots c) (sym up.0) root) (λ inside. in_use named.0 inside.0) named.1;
        child = ⊎_elim (λ up. inl (subst (λ (x : ℕ). c x Left ≡ n) (sym up.0) up.1)) (λ inside. inside.1) named.1;
        no_other = λ m unmarked child. ⊎_elim
            (λ one. named.2 m (inl (one, left_child (subst (IsChildOf c n) one child))))
            (λ i. named.2 m (inr (i, child)))
            (in_tree m unmarked);
      }
    where
      left_child : IsChildOf c n 1 → c 1 Left ≡ n
      left_child child = ⊎_elim
          (λ left. left)
          (λ right. let none' : n ≡ 0 = sym right ∙ sound.no_right in absurd (omega (arith, slot.0, none')))
          child

  pub search_tree_linked : IsLinked slots c
  search_tree_linked = record {
    sentinel = sound.unmarked;
    links = λ n f unmarked link ne. ⊎_elim
        (λ one. subst (λ (x : ℕ). IsUnmarked slots c (c x f)) (sym one)
        (root_links f link (λ none'. ne (subst (λ (x : ℕ). c x f ≡ 0) (sym one) none'))))
        (λ i. node_links n i f link ne)
        (in_tree n unmarked);
    hang = hangs;
  }

-- so a search tree of either kind has the laws of a shape
pub trees_are_shapes : (kind : Kind) → ShapeLaws (tree_form kind)
trees_are_shapes kind = laws_from_linked (tree_form kind)
    (λ slots c sound. search_tree_linked kind slots c sound.0 sound.1)
