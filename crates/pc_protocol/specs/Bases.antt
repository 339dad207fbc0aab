-- What an exchange rests on: the old numbers of the words that it changes. So whoever finds another number in such a word
-- knows that the version of its node is past.
use Rattle.std.specs.Prelude.{◌≢◌, ℕ}
use Rattle.pc_model.specs.Exchanges.{Changed, Exchange}
use Rattle.pc_history.specs.Footprints.{IsAmong}
use Rattle.pc_protocol.specs.Histories.{History, IsPublished, IsSpare}
use Rattle.pc_protocol.specs.Seeing.{ChangesVersion}
use Rattle.pc_protocol.specs.Notes.{read_word, outdated, IsTrueNote}
use Rattle.pc_protocol.specs.Steps.{Keeps, publish}

-- each word that the exchange changes had its old number at the version of its node that the exchange changes: at a
-- moment, and ever since while the node has that version
abbrev pub HasBasis : History → Exchange → Type 0
HasBasis h e = (a : Changed) → IsAmong a e.changes
    → (v : ℕ) × ChangesVersion e a.node v × (c : ℕ) × IsTrueNote h (read_word a.node v a.field a.old c)

abbrev pub IsBased : History → ℕ → Type 0
IsBased h x = HasBasis h (h.op x)

pub record BasesTell (h : History) : Type 0 where
  -- an exchange that is published with a basis is based, and stays so at every step that keeps the notes
  pub begins : (x : ℕ) (e : Exchange) (b : ℕ) → Keeps h (publish h x e b) → HasBasis h e → IsBased (publish h x e b) x
  pub stays : (h' : History) (x : ℕ) → Keeps h h' → IsPublished (h.stage x) → IsBased h x → IsBased h' x
  -- a word that it changes, in which another number than the old one is found: it is outdated at that node
  pub other_number : (x : ℕ) (a : Changed) → IsPublished (h.stage x) → IsBased h x → IsAmong a (h.op x).changes
      → (IsSpare (h.slot a.node) → ⊥) → h.plain a.node a.field ≢ a.old
      → IsTrueNote h (outdated x a.node)
