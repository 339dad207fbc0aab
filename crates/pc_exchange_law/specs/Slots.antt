-- What holds of the slots of nodes on a board: links name nodes in use, exchanges touch nodes in use alone, and the words of
-- others are plain.
use Rattle.std.specs.Prelude.{◌≡◌, ◌⊎◌, ℕ, List, Some}
use Rattle.pc_model.specs.declared.cell.Field.{Field}
use Rattle.pc_model.specs.Cells.{Cells}
use Rattle.pc_model.specs.Exchanges.{Visited, Changed, FreshNode}
use Rattle.pc_model.specs.Forms.{Form, IsSound}
use Rattle.pc_model.specs.Linked.{IsLinked}
use Rattle.pc_words.specs.declared.word.WordKind.{WordKind}
use Rattle.pc_words.specs.declared.word.WordKind.TheVariants.{Plain, Install, Exchange}
use Rattle.pc_history.specs.Footprints.{IsAmong}
use Rattle.pc_rule_law.specs.Board.{Size, Board}
use Rattle.pc_rule_law.specs.Past.{Has}
use Rattle.pc_protocol.specs.Histories.{History, IsPublished, IsUndecided, IsUsed}
use Rattle.pc_protocol.specs.Links.{LinksRule}
use Rattle.pc_protocol.specs.Notes.{in_use}
use Rattle.pc_exchange_law.specs.OwnSlots.{IsOfShare}
use Rattle.pc_exchange_law.specs.Passes.{PassKnows}
use Rattle.pc_exchange_law.specs.Ties.{seat_in}

-- what a shape says of its cells
abbrev pub SoundIsLinked : Form → Type 0
SoundIsLinked form = (slots : ℕ) (c : Cells) → IsSound form slots c → IsLinked slots c

abbrev pub IsPlainWord : WordKind → Type 0
IsPlainWord (Plain x) = Unit {0}
IsPlainWord (Install q k) = ⊥
IsPlainWord (Exchange p a) = ⊥

-- each word that a published exchange changes is of a node in use
abbrev pub ChangesUsed : History → Type 0
ChangesUsed h = (x : ℕ) (a : Changed) → IsPublished (h.stage x) → IsAmong a (h.op x).changes → IsUsed (h.slot a.node)

pub record SlotsKept (z : Size) (b : Board) (h : History) : Type 0 where
  pub links : LinksRule z.slots h
  pub sentinel : IsUsed (h.slot 1)
  pub changed : ChangesUsed h
  pub visited : (x : ℕ) (v : Visited) → IsPublished (h.stage x) → IsAmong v (h.op x).visits → IsUsed (h.slot v.node)
  pub plain : (n : ℕ) (f : Field) → (IsUsed (h.slot n) → ⊥) → IsPlainWord (b.cell n f)
  -- an undecided exchange makes a node of its own pass's share
  pub made : (x : ℕ) (g : FreshNode) → IsUndecided (h.stage x) → (h.op x).fresh ≡ Some g → IsOfShare z (seat_in x) g.node

-- a pass knows that a node is in use: the sentinel is, and each node of which that is noted
abbrev pub IsHeld : PassKnows → ℕ → Type 0
IsHeld k n = (n ≡ 1) ⊎ Has k.told (in_use n)

-- and so is each node that it visited
abbrev pub IsHeldOrVisited : PassKnows → List Visited → ℕ → Type 0
IsHeldOrVisited k visits n = IsHeld k n ⊎ ((v : Visited) × IsAmong v visits × (v.node ≡ n))
