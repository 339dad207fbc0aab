-- A search tree of cells is what is read from them by turns, there is no other, and it is as high as the
-- turns that reading it takes.
use Rattle.std.specs.Prelude.{◌≡◌, ℕ, ◌≤◌, ◌↔◌, Some}
use Rattle.pc_model.specs.Map.{Pairs}
use Rattle.pc_model.specs.Cells.{Cells}
use Rattle.pc_model.specs.Trees.{Tree, Kind, Spells, IsSearchTree}
use Rattle.pc_model.specs.Heights.{height_of}
use Rattle.pc_model.specs.Readings.{read_tree, IsReadSearchTree}

pub record IsReadByTurns : Type 0 where
  pub exactly : (kind : Kind) (slots : ℕ) (c : Cells) (ps : Pairs)
      → IsSearchTree kind slots c ps ↔ IsReadSearchTree kind slots c ps
  pub one_tree : (kind kind' : Kind) (slots slots' : ℕ) (c : Cells) (t t' : Tree) (above above' link : ℕ)
      → Spells kind slots c t above link → Spells kind' slots' c t' above' link → t ≡ t'
  pub one_list : (kind kind' : Kind) (slots slots' : ℕ) (c : Cells) (ps ps' : Pairs)
      → IsSearchTree kind slots c ps → IsSearchTree kind' slots' c ps' → ps ≡ ps'
  pub more_turns : (turns more : ℕ) (c : Cells) (link : ℕ) (t : Tree)
      → turns ≤ more → read_tree turns c link ≡ Some t → read_tree more c link ≡ Some t
  pub as_high_as_turns : (kind : Kind) (slots : ℕ) (c : Cells) (t : Tree) (above link turns : ℕ)
      → Spells kind slots c t above link → (read_tree turns c link ≡ Some t) ↔ (height_of t ≤ turns)
