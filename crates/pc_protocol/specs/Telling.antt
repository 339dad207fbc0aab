-- What loads tell: the notes that a pass may make of what it finds, each true at once.
use Rattle.std.specs.Prelude.{◌≡◌, ℕ, suc, ◌<◌, ◌≤◌, Option, Some, None}
use Rattle.pc_model.specs.declared.cell.Field.{Field}
use Rattle.pc_model.specs.declared.cell.Field.TheVariants.{Version}
use Rattle.pc_model.specs.Cells.{IsEven}
use Rattle.pc_model.specs.Exchanges.{Visited, Seen, Changed, FreshNode, Exchange}
use Rattle.pc_history.specs.Footprints.{IsAmong, IsOfWord}
use Rattle.pc_protocol.specs.Histories.{for_exchange, committed, aborted, ended, changed, locked, History, IsUndecided}
use Rattle.pc_protocol.specs.Histories.{IsDecided, IsSpare}
use Rattle.pc_protocol.specs.Seeing.{ChangesVersion, Covers}
use Rattle.pc_protocol.specs.Notes.{Found, value, by, clock_was, visited, read_word, saw, looked, published, held, drew, verdict, rival, outdated, IsTrueNote}
use Rattle.pc_protocol.specs.Steps.{draw, publish}

-- what stands in a word: a number, where there is no reference, or a reference
abbrev pub found_in : Option ℕ → ℕ → Found
found_in None w = value w
found_in (Some x) w = by x

-- every visit and every read of the exchange is noted, and of each word that was read the node's version is covered
pub record IsNoted (h : History) (e : Exchange) : Type 0 where
  pub visits : (v : Visited) → IsAmong v e.visits
      → IsEven v.version × ((b : ℕ) × IsTrueNote h (visited v.node v.version b))
  pub reads : (r : Seen) → IsAmong r e.reads
      → (v : ℕ) × Covers e r.node v × ((b : ℕ) × IsTrueNote h (read_word r.node v r.field r.number b))

pub record LoadsTell (h : History) : Type 0 where
  -- a version, of a node that is no spare
  pub version : (n : ℕ) → (IsSpare (h.slot n) → ⊥) → IsTrueNote h (visited n (h.plain n Version) h.clock)
  -- another word, after a visit of its node
  pub word : (n v b : ℕ) (f : Field) → (IsSpare (h.slot n) → ⊥) → IsTrueNote h (visited n v b)
      → IsTrueNote h (read_word n v f (h.plain n f) h.clock)
  -- the words of the opening, and those that an exchange wrote which took effect: each word that it changed together
  -- with the version of its node, and each word of the node that it made
  pub opening_word : (n : ℕ) (f : Field)
      → IsTrueNote h (read_word n (h.opening n Version) f (h.opening n f) 0)
  pub won_version : (x s n : ℕ) (a : Changed) → h.stage x ≡ committed s → IsAmong a (h.op x).changes
      → IsOfWord n Version a
      → IsTrueNote h (visited n a.new (suc s))
  pub won_word : (x s n : ℕ) (f : Field) (a b : Changed) → h.stage x ≡ committed s → IsAmong a (h.op x).changes
      → IsOfWord n Version a → IsAmong b (h.op x).changes → IsOfWord n f b
      → IsTrueNote h (read_word n a.new f b.new (suc s))
  pub won_node : (x s : ℕ) (g : FreshNode) (f : Field) → h.stage x ≡ committed s → (h.op x).fresh ≡ Some g
      → IsTrueNote h (read_word g.node (g.fields Version) f (g.fields f) (suc s))
  -- a reference: it is held; and where the word is a version, the node has at least the old number of its change
  pub reference : (n : ℕ) (f : Field) (x : ℕ) → h.reference n f ≡ Some x → IsTrueNote h (held x n f)
  pub reference_version : (n x : ℕ) (a : Changed) → h.reference n Version ≡ Some x → IsAmong a (h.op x).changes
      → IsOfWord n Version a → IsTrueNote h (visited n a.old h.clock)
  -- a look at a version word, for a stamp
  pub look : (s n : ℕ) → s < h.clock → (IsSpare (h.slot n) → ⊥)
      → IsTrueNote h (looked s n (found_in (h.reference n Version) (h.plain n Version)))
  -- the clock; and where every visit and every read is noted
  pub time : IsTrueNote h (clock_was h.clock)
  pub clock : (e : Exchange) → IsNoted h e → IsTrueNote h (saw h.clock e)
  -- a draw
  pub stamp : (x : ℕ) → IsTrueNote (draw h (for_exchange x)) (drew x h.clock)
  -- a publication
  pub publication : (x : ℕ) (e : Exchange) (b : ℕ) → IsTrueNote (publish h x e b) (published x e b)
  -- a status
  pub status : (x : ℕ) → IsDecided (h.stage x) → IsTrueNote h (verdict x (h.stage x))
  -- the own status that says changed, where this version is at most each one of the node that the exchange covers: that
  -- version is past
  pub changed_told : (n x v : ℕ) → h.stage x ≡ aborted (changed n) → ((w : ℕ) → Covers (h.op x) n w → v ≤ w)
      → IsTrueNote h (visited n (suc v) h.clock)
  -- a status that says changed: the exchange is outdated at this node
  pub outdated_told : (n x : ℕ) → h.stage x ≡ aborted (changed n) → IsTrueNote h (outdated x n)
  -- a status that another withdrew
  pub ended_told : (x : ℕ) → h.stage x ≡ aborted ended → IsTrueNote h (clock_was h.last)
  -- a rival: its reference in a version word, or the exchange itself, not decided, or the status of the own one
  pub rival_reference : (n x c : ℕ) → c ≤ h.clock → h.reference n Version ≡ Some x
      → IsTrueNote h (rival (h.owner x) n c)
  pub rival_undecided : (n x c : ℕ) (a : Changed) → c ≤ h.clock → IsUndecided (h.stage x)
      → IsAmong a (h.op x).changes → IsOfWord n Version a → IsTrueNote h (rival (h.owner x) n c)
  pub rival_told : (n x pass : ℕ) → h.stage x ≡ aborted (locked n pass)
      → IsTrueNote h (rival pass n (h.published_at x))
  pub rival_before : (n pass b c : ℕ) → b ≤ c → IsTrueNote h (rival pass n c) → IsTrueNote h (rival pass n b)
  -- while an exchange holds a node's version, the words that were read at that version are as they were
  pub held_version : (n v b x : ℕ) (f : Field) (w : ℕ) → IsUndecided (h.stage x) → h.reference n Version ≡ Some x
      → ChangesVersion (h.op x) n v → IsTrueNote h (read_word n v f w b) → h.plain n f ≡ w
