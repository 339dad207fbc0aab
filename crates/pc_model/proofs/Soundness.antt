-- What holds of every search tree of cells: of versions only parity matters, and a tree without a free
-- slot has a pair for each slot.
use Rattle.std.proofs.Common.{◌≡◌, ℕ, ◌+◌, ◌≤◌, length, sym, ap, ◌∙◌, subst, arith}
use Rattle.pc_model.specs.declared.cell.Field.TheVariants.{Version, Left, Right, Parent}
use Rattle.pc_model.specs.Map.{Pairs, IsRising}
use Rattle.pc_model.specs.Cells.{Cells, IsEven, IsSlot, SameButVersions}
use Rattle.pc_model.specs.Trees.{Tree, Kind, Spells, size_of, pairs_of, IsSearchTree}
use Rattle.pc_model.proofs.Framing.{IsKept, spells_kept, pairs_kept, slot_in, unmarked_in}
use Rattle.pc_model.proofs.Counting.{length-pairs_of, size-le-slots, slots-le-size}

module _ (kind : Kind) (slots : ℕ) (c c' : Cells) (same : SameButVersions slots c c') where
  pub even_still : (n : ℕ) → n ≤ slots + 1 → IsEven (c n Version) → IsEven (c' n Version)
  even_still n le even = same.parity n le ∙ even

  kept_still : (t : Tree) (above link : ℕ) → Spells kind slots c t above link → IsKept c c' t
  kept_still t above link s = record {
    words = λ n f i not_version. let slot : IsSlot slots n = slot_in kind slots c t above link n s i in
        same.fields n f slot.1 not_version;
    unmarked = λ n i. let slot : IsSlot slots n = slot_in kind slots c t above link n s i in
        even_still n slot.1 (unmarked_in kind slots c t above link n s i);
  }

  parity_even : (n : ℕ) → n ≤ slots + 1 → IsEven (c' n Version) → IsEven (c n Version)
  parity_even n le even = sym (same.parity n le) ∙ even

  -- the same cells but for versions of the same parity are as good
  pub search_tree_parity : (ps : Pairs) → IsSearchTree kind slots c ps → IsSearchTree kind slots c' ps
  search_tree_parity ps s =
      let root : c' 1 Left ≡ c 1 Left = same.fields 1 Left (omega arith) (λ e. cc) in
      let kept : IsKept c c' s.tree = kept_still s.tree 1 (c 1 Left) s.spelled in
      let spelled : Spells kind slots c' s.tree 1 (c 1 Left) =
      spells_kept kind slots c c' s.tree 1 (c 1 Left) kept s.spelled in
      record {
        tree = s.tree;
        spelled = rw root spelled;
        pairs = pairs_kept c c' s.tree kept ∙ s.pairs;
        rising = s.rising;
        small = s.small;
        covered = λ n slot even. s.covered n slot (parity_even n slot.1 even);
        unmarked = even_still 1 (omega arith) s.unmarked;
        no_right = same.fields 1 Right (omega arith) (λ e. cc) ∙ s.no_right;
        no_parent = same.fields 1 Parent (omega arith) (λ e. cc) ∙ s.no_parent;
      }

-- where every slot is in use, there is a pair for each
pub search_tree_full : (kind : Kind) (slots : ℕ) (c : Cells) (ps : Pairs) → IsSearchTree kind slots c ps
    → ((n : ℕ) → IsSlot slots n → IsEven (c n Version)) → length ps ≡ slots
search_tree_full kind slots c ps s all =
    let pairs : length (pairs_of c s.tree) ≡ length ps = ap length s.pairs in
    let size : length (pairs_of c s.tree) ≡ size_of s.tree = length-pairs_of c s.tree in
    let few : size_of s.tree ≤ slots = size-le-slots kind slots c s.tree 1 (c 1 Left) s.spelled
    (subst IsRising (sym s.pairs) s.rising) in
    let many : slots ≤ size_of s.tree = slots-le-size slots s.tree (λ n slot. s.covered n slot (all n slot)) in
    omega arith

-- a search tree has no more nodes than slots
pub search_tree_size : (kind : Kind) (slots : ℕ) (c : Cells) (ps : Pairs) → (s : IsSearchTree kind slots c ps)
    → size_of s.tree ≤ slots
search_tree_size kind slots c ps s = size-le-slots kind slots c s.tree 1 (c 1 Left) s.spelled
    (subst IsRising (sym s.pairs) s.rising)
