-- The nodes of a tree that a link spells: what the links name, where a node hangs, and that its key is
-- one of the tree's.
use Rattle.std.proofs.Common.{◌≡◌, ℕ, ◌⊎◌, inl, inr, ⊎_elim, ◌∷◌, sym, subst, arith}
use Rattle.pc_model.specs.declared.cell.Field.TheVariants.{Key, Left, Right}
use Rattle.pc_model.specs.Map.{HasKey}
use Rattle.pc_model.specs.Cells.{Cells, IsSlot}
use Rattle.pc_model.specs.Trees.{Tree, Empty, Fork, Kind, IsTreeNode, Spells, IsIn, pair_of, pairs_of}
use Rattle.pc_model.proofs.SortedLists.{HasKey-left, HasKey-right}
use Rattle.pc_model.proofs.Framing.{slot_in}

-- a link that spells a tree names its root, or is 0
pub root_is_in : (kind : Kind) (slots : ℕ) (c : Cells) (t : Tree) (above link : ℕ) → Spells kind slots c t above link
    → (link ≡ 0) ⊎ IsIn link t
root_is_in kind slots c Empty above link spelled = inl spelled
root_is_in kind slots c (Fork n l r) above link spelled = inr (inl spelled.0)

-- 0 is no node of a tree
pub zero_outside : (kind : Kind) (slots : ℕ) (c : Cells) (t : Tree) (above link n : ℕ)
    → Spells kind slots c t above link → n ≡ 0 → IsIn n t → ⊥
zero_outside kind slots c t above link n spelled zero i =
    let slot : IsSlot slots n = slot_in kind slots c t above link n spelled i in absurd (omega arith)

-- a link that spells a tree is 0 or names a slot
pub link_in_range : (kind : Kind) (slots : ℕ) (c : Cells) (t : Tree) (above link : ℕ)
    → Spells kind slots c t above link
    → (link ≡ 0) ⊎ IsSlot slots link
link_in_range kind slots c Empty above link s = inl s
link_in_range kind slots c (Fork n l r) above link s = inr (subst (IsSlot slots) (sym s.0) s.1.slot)

-- a node of a tree: what it hangs below, and the trees at its links
pub record NodeOfTree (kind : Kind) (slots : ℕ) (c : Cells) (n : ℕ) : Type 0 where
  pub above : ℕ
  pub left_tree : Tree
  pub right_tree : Tree
  pub node : IsTreeNode kind slots c above n
  pub left : Spells kind slots c left_tree n (c n Left)
  pub right : Spells kind slots c right_tree n (c n Right)

pub node_of_tree : (kind : Kind) (slots : ℕ) (c : Cells) (t : Tree) (above link n : ℕ)
    → Spells kind slots c t above link → IsIn n t
    → NodeOfTree kind slots c n
node_of_tree kind slots c Empty above link n s h = absurd h
node_of_tree kind slots c (Fork m l r) above link n s h = ⊎_elim
    (λ e. subst (NodeOfTree kind slots c) (sym e)
    (record { above = above; left_tree = l; right_tree = r; node = s.1; left = s.2; right = s.3 }))
    (λ k. ⊎_elim (node_of_tree kind slots c l m (c m Left) n s.2)
    (node_of_tree kind slots c r m (c m Right) n s.3) k) h

pub key_of_node : (c : Cells) (t : Tree) (n : ℕ) → IsIn n t → HasKey (c n Key) (pairs_of c t)
key_of_node c Empty n h = absurd h
key_of_node c (Fork m l r) n h = ⊎_elim
    (λ e. HasKey-right (c n Key) (pairs_of c l) (pair_of c m ∷ pairs_of c r) (inl (λ i. c (e i) Key)))
    (λ k. ⊎_elim
    (λ i. HasKey-left (c n Key) (pairs_of c l) (pair_of c m ∷ pairs_of c r) (key_of_node c l n i))
    (λ i. HasKey-right (c n Key) (pairs_of c l) (pair_of c m ∷ pairs_of c r) (inr (key_of_node c r n i))) k) h
