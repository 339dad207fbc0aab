-- What a pass has to know before it makes each kind of step of an exchange: facts on its own view and on what it knows
-- beside it.
use Rattle.std.specs.Prelude.{◌≡◌, ◌≢◌, ℕ, ◌+◌, ◌^◌, ◌<◌, ◌≤◌, ◌⊎◌, true, false, List, [], None, Some}
use Rattle.pc_model.specs.declared.cell.Field.{Field}
use Rattle.pc_model.specs.declared.cell.Field.TheVariants.{Version}
use Rattle.pc_model.specs.Exchanges.{Visited, Changed, Exchange}
use Rattle.pc_model.specs.Forms.{Form, Fits}
use Rattle.pc_model.specs.Linked.{opening_cells}
use Rattle.pc_history.specs.Footprints.{IsAmong}
use Rattle.pc_rule_law.specs.Board.{Size}
use Rattle.pc_rule_law.specs.Past.{Has, Attempt, change, Describes, IsFormed}
use Rattle.pc_rule_law.specs.Views.{held, clean, View}
use Rattle.pc_protocol.specs.Histories.{Cause, withdrawn, ended, changed, locked, Stage, committed, value_by}
use Rattle.pc_protocol.specs.Links.{MarksAlone}
use Rattle.pc_protocol.specs.Notes.{value, by, clock_was, visited, read_word, saw, looked, published, drew, verdict, rival, outdated}
use Rattle.pc_protocol.specs.Seeing.{ChangesVersion, Covers}
use Rattle.pc_exchange_law.specs.Ties.{code, last_stamp, exchange_of}
use Rattle.pc_exchange_law.specs.Changes.{RaisesNodes}
use Rattle.pc_exchange_law.specs.Attempts.{word_in, KnowsWord, KnowsEntry, KnowsVisit, KnowsPlaces}
use Rattle.pc_exchange_law.specs.Knowing.{IsAboveSeen}
use Rattle.pc_exchange_law.specs.OwnSlots.{MakesOwn}
use Rattle.pc_exchange_law.specs.Passes.{PassKnows}
use Rattle.pc_exchange_law.specs.Paths.{Path, read_of}
use Rattle.pc_exchange_law.specs.Slots.{IsHeldOrVisited}
use Rattle.pc_exchange_law.specs.Wholes.{Whole}

-- the own descriptor is written while no attempt is published
abbrev pub MayStoreOwn : PassKnows → Type 0
MayStoreOwn k = k.own.busy ≡ false

-- how a pass knows that a word of a node has had the number x since some moment, while the node has version v
pub data KnowsOld (z : Size) (k : PassKnows) (n v : ℕ) (f : Field) (x : ℕ) : Type 0 where
  -- it was read so at this version
  was_read : (c : ℕ) → Has k.told (read_word n v f x c) → KnowsOld z k n v f x
  -- the word is the version itself, which was seen
  is_version : (c : ℕ) → f ≡ Version → x ≡ v → Has k.told (visited n v c) → KnowsOld z k n v f x
  -- the same, and the version was seen along a path
  was_visited : (c : ℕ) (e : Exchange) (u : Visited) → f ≡ Version → x ≡ v → u.node ≡ n → u.version ≡ v → IsAmong u e.visits
      → Has k.told (saw c e) → KnowsOld z k n v f x
  -- the board opened so
  was_opened : v ≡ opening_cells z.starts.version n Version → x ≡ opening_cells z.starts.version n f
      → KnowsOld z k n v f x
  -- an exchange that took effect wrote both this version and this number
  was_written : (y s c before old : ℕ) (e : Exchange) → Has k.told (verdict y (committed s)) → Has k.told (published y e c)
      → IsAmong (change n Version before v) e.changes → IsAmong (change n f old x) e.changes
      → KnowsOld z k n v f x

-- each word that the attempt changes is known to have had its old number at the version of its node that it changes
abbrev pub KnowsBasis : Size → PassKnows → Attempt → Type 0
KnowsBasis z k x = (a : Changed) → IsAmong a x.changes
    → (v : ℕ) × ChangesVersion (exchange_of x) a.node v × KnowsOld z k a.node v a.field a.old

-- the attempt visits and reads nothing
abbrev pub VisitsNothing : Attempt → Type 0
VisitsNothing x = (x.visits ≡ []) × (x.reads ≡ [])

-- it visits what the pass visited, or changes the versions that were visited, and it reads what the pass read; all of which was
-- seen to be so by this clock
pub record VisitsPath (k : PassKnows) (path : Path) (c : ℕ) (x : Attempt) : Type 0 where
  pub seen : Has k.told (saw c (read_of path))
  pub visits : (v : Visited) → IsAmong v x.visits → IsAmong v path.visits
  pub covered : (v : Visited) → IsAmong v path.visits → Covers (exchange_of x) v.node v.version
  pub reads : x.reads ≡ path.reads

-- by its mode an attempt is one of words alone, or one of the pass's path
abbrev pub GoesByPath : PassKnows → Path → ℕ → Attempt → Type 0
GoesByPath k path c x = ((x.mode ≡ 0) × VisitsNothing x) ⊎ ((x.mode ≢ 0) × VisitsPath k path c x)

-- a publication of the next attempt: the stored words describe it, it raises its nodes or marks them, it keeps cells sound, its
-- nodes are held or visited, the old numbers of its words are known, the clock was read, and it visits and reads nothing, or goes by the pass's path
pub record MayPublish (form : Form) (z : Size) (k : PassKnows) (path : Path) (x : Attempt) (c : ℕ) (keys : List ℕ)
    : Type 0 where
  pub rests : k.own.busy ≡ false
  pub room : k.own.number + 1 < 2 ^ 28
  pub clock : Has k.told (clock_was c)
  -- it was read last: it is above each stamp that was seen
  pub above : IsAboveSeen k.told c
  pub formed : IsFormed z.slots x
  pub raises : RaisesNodes x
  -- one that marks a node changes no other word of it
  pub marks : MarksAlone (exchange_of x)
  -- the nodes of its words are known to be in use, or were visited, and the node that it makes is that of the own spare
  pub touches : (a : Changed) → IsAmong a x.changes → IsHeldOrVisited k path.visits a.node
  pub makes : MakesOwn k.slots x.fresh
  pub seen : GoesByPath k path c x
  pub described : Describes z.slots x (word_in k.own.words)
  pub fits : Fits form z.slots (exchange_of x) keys
  pub based : KnowsBasis z k x

-- a draw for an attempt: the clock was below the last stamp, the attempt was met, the word of each entry is known, and each
-- was seen to hold the reference
pub record MayDrawFor (v : View) (k : PassKnows) (p a : ℕ) : Type 0 where
  pub ready : k.ready ≡ true
  pub met : (n : ℕ) × (f : Field) × Has v.notes (held p a n f)
  pub places : KnowsPlaces k.noted v.seat k.own p a
  pub each : (i : ℕ) (below : i < places.count) → Has v.notes (held p a (places.each i below).0 (places.each i below).1)

-- how a pass knows that a visit of node n at version x, by attempt a of pass p, passed the check for a stamp
pub data KnowsPassed (v : View) (k : PassKnows) (p a s n x : ℕ) : Type 0 where
  -- the attempt changes the version from this one
  is_changed : (j new : ℕ) → KnowsEntry k.noted v.seat k.own p a j n Version x new → KnowsPassed v k p a s n x
  -- a look for the stamp found a number that isn't greater
  was_found : (w : ℕ) → Has k.told (looked s n (value w)) → w ≤ x → KnowsPassed v k p a s n x
  -- or the reference to an attempt that is decided, by which the version isn't greater
  was_settled : (q b j old new : ℕ) (st : Stage) → q < 64 → Has k.told (looked s n (by (code q b)))
      → Has k.told (verdict (code q b) st) → KnowsEntry k.noted v.seat k.own q b j n Version old new
      → value_by st old new ≤ x → KnowsPassed v k p a s n x

-- every visit of the attempt is known, and passed the check for a stamp
pub record KnowsChecked (v : View) (k : PassKnows) (p a s : ℕ) : Type 0 where
  pub count : ℕ
  pub counted : KnowsWord k.noted v.seat k.own p a 2 count
  pub each : (i : ℕ) → i < count
      → (n : ℕ) × (x : ℕ) × KnowsVisit v.size.slots k.noted v.seat k.own p a i n x × KnowsPassed v k p a s n x

-- that an attempt takes effect at a stamp: it was drawn for it, and each visit of the attempt passed the check for it
pub record MaySucceed (v : View) (k : PassKnows) (p a s : ℕ) : Type 0 where
  pub drawn : Has k.told (drew (code p a) s)
  pub low : s < 2 ^ 34
  pub checked : KnowsChecked v k p a s

-- the attempt is known to visit a node
abbrev pub KnowsVisited : View → PassKnows → ℕ → ℕ → ℕ → Type 0
KnowsVisited v k p a n = (i : ℕ) × (x : ℕ) × KnowsVisit v.size.slots k.noted v.seat k.own p a i n x

-- How a pass knows that an attempt is outdated at a node: it was told so; or the reference to another attempt was seen in the
-- node's version, which is decided, and by which the version is above one that the attempt visits.
pub data KnowsOutdated (v : View) (k : PassKnows) (p a n : ℕ) : Type 0 where
  was_told : Has k.told (outdated (code p a) n) → KnowsOutdated v k p a n
  is_passed : (q b j i x old new : ℕ) (st : Stage) → q < 64 → Has v.notes (held q b n Version) → Has k.told (verdict (code q b) st)
      → KnowsEntry k.noted v.seat k.own q b j n Version old new → KnowsVisit v.size.slots k.noted v.seat k.own p a i n x
      → x < value_by st old new → KnowsOutdated v k p a n

-- that it fails: the clock has come to its last stamp, the attempt is known to be outdated at a node, or another pass was a
-- rival for a node that it visits, at one of its stamps. That a pass withdraws its own attempt is a step apart, which asks for nothing
abbrev pub MayFail : View → PassKnows → ℕ → ℕ → Cause → Type 0
MayFail v k p a withdrawn = ⊥
MayFail v k p a ended = (c : ℕ) × Has k.told (clock_was c) × (last_stamp ≤ c)
MayFail v k p a (changed n) = KnowsOutdated v k p a n
MayFail v k p a (locked n q) = (s : ℕ) × Has k.told (drew (code p a) s) × Has k.told (rival q n s) × (q ≢ p) × KnowsVisited v k p a n

-- a number in place of a reference: by an entry of this word, and how the attempt was decided
pub record MayTakeReference (v : View) (k : PassKnows) (p a n : ℕ) (f : Field) (x : ℕ) : Type 0 where
  pub entry : ℕ
  pub old : ℕ
  pub new : ℕ
  pub stage : Stage
  pub known : KnowsEntry k.noted v.seat k.own p a entry n f old new
  pub decided : Has k.told (verdict (code p a) stage)
  pub worth : x ≡ value_by stage old new

-- the own attempt is cleared: it is decided, and the word of each entry is known to be clean of it
pub record MayClear (v : View) (k : PassKnows) : Type 0 where
  pub stage : Stage
  pub decided : Has k.told (verdict (code v.seat k.own.number) stage)
  pub places : KnowsPlaces k.noted v.seat k.own v.seat k.own.number
  pub each : (i : ℕ) (below : i < places.count)
      → Has v.notes (clean v.seat k.own.number (places.each i below).0 (places.each i below).1)

-- a pass that rests and has no spare may take the next slot of its share
pub record MayTakeSlot (k : PassKnows) (n : ℕ) : Type 0 where
  pub rests : k.own.busy ≡ false
  pub next : n ≡ k.slots.next
  pub within : n < k.slots.until
  pub no_spare : k.slots.spare ≡ None

-- a pass that rests may fill a number into a word of its spare; the version is filled with the one above that which was found
pub record MayFill (k : PassKnows) (n : ℕ) (f : Field) (v : ℕ) : Type 0 where
  pub rests : k.own.busy ≡ false
  pub is_spare : k.slots.spare ≡ Some n
  pub version : f ≡ Version → v ≡ k.slots.version + 1
  pub small : v < 2 ^ 62

-- a node is known to be visited by an attempt for which a stamp was drawn
pub record VisitsForDraw (x : Whole) (n : ℕ) : Type 0 where
  pub seat : ℕ
  pub number : ℕ
  pub low : seat < 64
  pub stamp : ℕ
  pub drawn : Has x.knows.told (drew (code seat number) stamp)
  pub index : ℕ
  pub version : ℕ
  pub known : KnowsVisit x.view.size.slots x.knows.noted x.view.seat x.knows.own seat number index n version

-- an attempt is known to be gone from all words: the word of each entry is known, and is known to be clean of it
pub record KnowsCleared (x : Whole) (p a : ℕ) : Type 0 where
  pub places : KnowsPlaces x.knows.noted x.view.seat x.knows.own p a
  pub each : (i : ℕ) (below : i < places.count)
      → Has x.view.notes (clean p a (places.each i below).0 (places.each i below).1)
