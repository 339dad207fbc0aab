-- What a pass visited and read in the operation that it has begun. A validated read is made of it: a stamp is drawn, the
-- version of each visited node is loaded again, and where each is as it was visited, the visits and reads take effect as
-- one read, which stands in the run at the stamp.
use Rattle.std.specs.Prelude.{◌≡◌, ℕ, ◌%◌, ◌==◌, ◌||◌, ◌⊎◌, nat_lt, if◌then◌else◌, Bool, true, false, List, [], ◌∷◌, ◌++◌, Option, Some, None}
use Rattle.pc_model.specs.declared.cell.Field.{Field}
use Rattle.pc_model.specs.Cells.{field_number}
use Rattle.pc_model.specs.Exchanges.{Visited, Seen, Exchange}
use Rattle.pc_words.specs.declared.word.WordKind.{WordKind}
use Rattle.pc_words.specs.declared.word.WordKind.TheVariants.{Plain, Install, Exchange as Refers}
use Rattle.pc_history.specs.Footprints.{IsAmong}
use Rattle.pc_protocol.specs.Histories.{History, IsUsed}
use Rattle.pc_protocol.specs.Notes.{value, saw, looked, IsTrueNote}
use Rattle.pc_protocol.specs.Owned.{IsUnread}
use Rattle.pc_protocol.specs.Telling.{IsNoted}

pub record Path : Type 0 where
  -- the pass has begun an operation and not ended it
  pub begun : Bool
  -- the nodes that it visited, each with its version, in order
  pub visits : List Visited
  -- the words that it read after a visit of their node, each with its number, in order
  pub reads : List Seen
  -- the stamp that it drew for the read of all these, until that takes effect or something is added
  pub stamp : Option ℕ
  -- the visits that are still to be checked for that stamp
  pub left : List Visited

-- the read that it is: all that was visited and read, with no changes
abbrev pub read_of : Path → Exchange
read_of p = record { visits = p.visits; reads = p.reads; changes = []; fresh = None }

-- What the rule says of the path of the pass at seat j: every visit and read is noted. Where a stamp was drawn, it is the
-- pass's own, all that was visited and read was so by then, and each visited version was found again since, but for those
-- that are still to be checked.
pub record IsPathOf (h : History) (j : ℕ) (p : Path) : Type 0 where
  pub noted : IsNoted h (read_of p)
  pub unread : (s : ℕ) → p.stamp ≡ Some s → IsUnread h j s
  pub seen : (s : ℕ) → p.stamp ≡ Some s → IsTrueNote h (saw s (read_of p))
  pub checked : (s : ℕ) (v : Visited) → p.stamp ≡ Some s → IsAmong v p.visits
      → IsAmong v p.left ⊎ IsTrueNote h (looked s v.node (value v.version))
  -- each node that was visited, or is to be checked, is in use
  pub used : (v : Visited) → IsAmong v p.visits ⊎ IsAmong v p.left → IsUsed (h.slot v.node)

-- a stamp was drawn for the read of the path, and this is the node of the next visit that is to be checked for it
pub record MayCheck (p : Path) (n : ℕ) : Type 0 where
  pub stamp : ℕ
  pub drawn : p.stamp ≡ Some stamp
  pub visit : Visited
  pub others : List Visited
  pub next : p.left ≡ visit ∷ others
  pub at_node : visit.node ≡ n

-- ---- how a path goes on

-- nothing is visited and read, and no stamp drawn
abbrev pub dropped : Path → Path
dropped p = record { begun = p.begun; visits = []; reads = []; stamp = None; left = [] }

-- an operation begins, and ends
abbrev pub begun_path : Path
begun_path = record { begun = true; visits = []; reads = []; stamp = None; left = [] }

abbrev pub ended_path : Path
ended_path = record { begun = false; visits = []; reads = []; stamp = None; left = [] }

-- a pass that is made is at rest
abbrev pub new_path : Path
new_path = ended_path

-- one visit more; and one read more
abbrev pub more_visits : Path → ℕ → ℕ → Path
more_visits p n x = record { begun = p.begun; visits = p.visits ++ record { node = n; version = x } ∷ []; reads = p.reads; stamp = None; left = [] }

abbrev pub more_reads : Path → ℕ → Field → ℕ → Path
more_reads p n f x = record { begun = p.begun; visits = p.visits; reads = p.reads ++ record { node = n; field = f; number = x } ∷ []; stamp = None; left = [] }

-- the last version of a node, at which it isn't visited any more; it is visited at an even version below
abbrev pub last_version : ℕ
last_version = 1152921504606846970

abbrev pub is_visitable : ℕ → Bool
is_visitable x = if x % 2 == 0 then nat_lt x 1152921504606846970 else false

-- a version word in which this was found: it counts as a visit where it is plain, even, and below the last version
abbrev pub with_visit : Path → ℕ → WordKind → Path
with_visit p n (Plain x) = if is_visitable x then more_visits p n x else p
with_visit p n (Install q k) = p
with_visit p n (Refers q a) = p

-- whether a node was visited
abbrev pub has_visited : ℕ → List Visited → Bool
has_visited n [] = false
has_visited n (v ∷ visits) = (v.node == n) || has_visited n visits

-- any word in which this was found: it counts as a read where it is plain, no version, and its node was visited
abbrev pub counts_as_read : Path → ℕ → Field → Bool
counts_as_read p n f = if field_number f == 0 then false else has_visited n p.visits

abbrev pub with_read : Path → ℕ → Field → WordKind → Path
with_read p n f (Plain x) = if counts_as_read p n f then more_reads p n f x else p
with_read p n f (Install q k) = p
with_read p n f (Refers q a) = p

-- a stamp is drawn for the read, and every visit is to be checked for it
abbrev pub with_stamp : Path → ℕ → Path
with_stamp p s = record { begun = p.begun; visits = p.visits; reads = p.reads; stamp = Some s; left = p.visits }

-- a visit passed its check, and these are still to be checked; and the last one passed, so that the read took effect
abbrev pub with_left : Path → List Visited → Path
with_left p left = record { begun = p.begun; visits = p.visits; reads = p.reads; stamp = p.stamp; left = left }

abbrev pub without_stamp : Path → Path
without_stamp p = record { begun = p.begun; visits = p.visits; reads = p.reads; stamp = None; left = [] }
