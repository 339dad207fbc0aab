-- What notes serve for: with them a pass may make each step that has a condition, and needs no look at the state.
use Rattle.std.specs.Prelude.{◌≡◌, ◌≢◌, ℕ, ◌<◌, ◌≤◌, ◌⊎◌, [], Some, None}
use Rattle.pc_model.specs.declared.cell.Field.TheVariants.{Version}
use Rattle.pc_model.specs.Exchanges.{Visited, Changed, FreshNode, Exchange}
use Rattle.pc_history.specs.Footprints.{IsAmong, IsOfWord, IsWellFormed}
use Rattle.pc_protocol.specs.Histories.{Stage, absent, ended, changed, locked, History, cells_now, IsPublished, IsUndecided, value_by}
use Rattle.pc_protocol.specs.Seeing.{Visits, ChangesVersion, Covers}
use Rattle.pc_protocol.specs.Rules.{IsReady}
use Rattle.pc_protocol.specs.Notes.{Found, value, by, clock_was, visited, saw, looked, held, drew, verdict, rival, outdated, IsTrueNote}
use Rattle.pc_protocol.specs.Steps.{CanDraw, CanPublish, CanCommit, CanAbort, CanRead}
use Rattle.pc_protocol.specs.Owned.{IsUnread}

-- what was found is no greater than the visited version, by notes alone: a reference is of an exchange whose verdict is
-- noted, by which its change of the version is worth no more
abbrev pub IsSettledByNotes : History → ℕ → ℕ → Found → Type 0
IsSettledByNotes h n v (value w) = w ≤ v
IsSettledByNotes h n v (by x) = (st : Stage) × IsTrueNote h (verdict x st) × ((a : Changed) → IsAmong a (h.op x).changes
    → IsOfWord n Version a → value_by st a.old a.new ≤ v)

-- the visit's version was looked at for the stamp, and what was found is settled
abbrev pub HasPassedByNotes : History → ℕ → Visited → Type 0
HasPassedByNotes h s v = (f : Found) × IsTrueNote h (looked s v.node f) × IsSettledByNotes h v.node v.version f

pub record NotesServe (h : History) : Type 0 where
  pub draw : (x : ℕ) → IsPublished (h.stage x)
      → ((a : Changed) → IsAmong a (h.op x).changes → IsTrueNote h (held x a.node a.field))
      → CanDraw h x
  pub publish : (x : ℕ) (e : Exchange) (b : ℕ) → h.stage x ≡ absent → IsWellFormed e → IsTrueNote h (saw b e)
      → ((g : FreshNode) → e.fresh ≡ Some g → IsReady (cells_now h) h.plain h.slot g)
      → ((y : ℕ) (g k : FreshNode) → IsUndecided (h.stage y) → e.fresh ≡ Some g → (h.op y).fresh ≡ Some k
      → g.node ≢ k.node) → CanPublish h x e b
  pub commit : (x s : ℕ) → IsUndecided (h.stage x) → IsTrueNote h (drew x s)
      → ((v : Visited) → IsAmong v (h.op x).visits → ChangesVersion (h.op x) v.node v.version ⊎ HasPassedByNotes h s v)
      → CanCommit h x s
  pub read : (p s b : ℕ) (e : Exchange) → IsUnread h p s → e.changes ≡ [] → e.fresh ≡ None → b ≤ s
      → IsTrueNote h (saw b e)
      → ((v : Visited) → IsAmong v e.visits → HasPassedByNotes h s v)
      → CanRead h p s e
  -- a greater version of a node that the exchange covers was seen
  pub changed_node : (x n v w b : ℕ) → IsUndecided (h.stage x) → Covers (h.op x) n v → IsTrueNote h (visited n w b)
      → v < w
      → CanAbort h x (changed n)
  -- it is known to be outdated at a node
  pub outdated_node : (x n : ℕ) → IsUndecided (h.stage x) → IsTrueNote h (outdated x n) → CanAbort h x (changed n)
  -- the clock has come to its last stamp
  pub out_of_stamps : (x : ℕ) → IsUndecided (h.stage x) → IsTrueNote h (clock_was h.last) → CanAbort h x ended
  -- another pass was a rival at one of its stamps
  pub locked_node : (x n v pass s : ℕ) → IsUndecided (h.stage x) → Visits (h.op x) n v → pass ≢ h.owner x
      → IsTrueNote h (drew x s)
      → IsTrueNote h (rival pass n s)
      → CanAbort h x (locked n pass)
