-- What each kind of step tells a pass whose view is whole: what the rule of installs says of its first part, and what it
-- learns beside.
use Rattle.std.specs.Prelude.{◌≡◌, ◌≢◌, ℕ, ◌+◌, ◌*◌, ◌<◌, ◌≤◌, ◌⊎◌, Bool, true, false, List, [], ◌∷◌, Some}
use Rattle.atomic_table.specs.Table.{Me}
use Rattle.pc_model.specs.declared.cell.Field.{Field}
use Rattle.pc_model.specs.declared.cell.Field.TheVariants.{Version}
use Rattle.pc_model.specs.Cells.{IsEven, IsOdd}
use Rattle.pc_model.specs.Exchanges.{Visited, Exchange as PathExchange}
use Rattle.pc_model.specs.Linked.{IsLinkField}
use Rattle.pc_words.specs.declared.word.WordKind.{WordKind}
use Rattle.pc_words.specs.declared.word.WordKind.TheVariants.{Plain, Install, Exchange}
use Rattle.pc_words.specs.declared.status.Stage.{Stage as StatusStage}
use Rattle.pc_words.specs.declared.status.Stage.TheVariants.{Idle, Undecided, Succeeded, Withdrawn, Changed as ChangedNode, Locked}
use Rattle.pc_words.specs.declared.status.Status.{Status}
use Rattle.pc_words.specs.Words.{raw, kind, IsWord}
use Rattle.pc_words.specs.Statuses.{unpacked, IsStatus}
use Rattle.pc_rule_law.specs.Board.{own_status, own_install, own_word, Place, at_clock, at_epoch, at_own, at_cell, place_number}
use Rattle.pc_history.specs.Footprints.{IsAmong}
use Rattle.pc_rule_law.specs.Conditions.{IsFree}
use Rattle.pc_rule_law.specs.Past.{Has, Attempt, Describes}
use Rattle.pc_rule_law.specs.Views.{Note, decided_below, clean, removed, View, with_notes}
use Rattle.pc_rule_law.specs.Plays.{IsNotedSince, IsLater, IsWell, Told, SameSeat, found, after_store, InstallLoaded, ClockLoaded}
use Rattle.pc_rule_law.specs.Plays.{DescriptorLoaded as ViewLoaded, StatusLoaded, InstallTried, InstallTaken, after_write, after_publish}
use Rattle.pc_protocol.specs.Histories.{withdrawn, ended, changed, locked, Stage, absent, undecided, committed, aborted}
use Rattle.pc_protocol.specs.Notes.{value, by, clock_was, visited, looked, drew, verdict, in_use, rival, in_run, outdated, published}
use Rattle.pc_protocol.specs.Seeing.{Covers}
use Rattle.pc_exchange_law.specs.Attempts.{word_in, calm, calm_but, KnowsWord, KnowsEntry, KnowsVisit}
use Rattle.pc_exchange_law.specs.Ties.{code, last_stamp, exchange_of}
use Rattle.pc_exchange_law.specs.ExchangeConditions.{KnowsCleared}
use Rattle.pc_exchange_law.specs.OwnSlots.{MakesOwn, makes_one, with_spare, with_filled}
use Rattle.pc_exchange_law.specs.Passes.{PassKnows}
use Rattle.pc_exchange_law.specs.Paths.{Path, read_of, begun_path, ended_path, with_visit, with_read, with_stamp, with_left, without_stamp}
use Rattle.pc_exchange_law.specs.Knowing.{IsAboveSeen, DescriptorLoaded, StatusSeen, WordSeen, after_clock, after_own_store}
use Rattle.pc_exchange_law.specs.Knowing.{after_publication, after_draw, after_read_draw, after_refusal, after_decision, after_withdrawal, after_clearing}
use Rattle.pc_exchange_law.specs.Wholes.{Whole}

abbrev pub WholeMine : Type 0
WholeMine = Me Bool Whole

-- the pass is where it was and is well, and T is told
abbrev pub WholeTells : WholeMine → ℕ → (Whole → Place → Type 0) → WholeMine → Type 0
WholeTells m word T m' = (m'.1 ≡ m.1) × SameSeat m.0.view m'.0.view × Told m.0.view word (T m'.0) × IsWell m'.0.view

-- ---- loads

-- the clock: the pass may draw where it is below the last stamp, and all that it visited and read was so by then; and where
-- an attempt is known to have failed at the clock's end, it isn't below
pub record ClockSeen (path : Path) (k : PassKnows) (r : ℕ) (k' : PassKnows) : Type 0 where
  pub noted : k' ≡ after_clock k r (read_of path) k'.ready
  pub early : r < last_stamp → k'.ready ≡ true
  pub late : last_stamp ≤ r → k'.ready ≡ false
  pub ended : (x : ℕ) → Has k.told (verdict x (aborted ended)) → last_stamp ≤ r
  -- it is above each stamp that was seen
  pub above : IsAboveSeen k.told r
  -- an attempt that is outdated at a node covers a version of it
  pub covers : (x n c : ℕ) (e : PathExchange) → Has k.told (outdated x n) → Has k.told (published x e c) → (v : ℕ) × Covers e n v

abbrev pub SeesClock : Whole → ℕ → Whole → Place → Type 0
SeesClock x r y at_clock = ClockLoaded x.view r y.view × ClockSeen x.path x.knows r y.knows × (y.aim ≡ x.aim) × (y.path ≡ x.path)
SeesClock x r y _ = Unit {0}

-- a word of a descriptor
abbrev pub SeesWord : Whole → ℕ → Whole → Place → Type 0
SeesWord x r y (at_own p (own_word place)) = ViewLoaded x.view p place r y.view × DescriptorLoaded x.knows p place r y.knows
    × (y.aim ≡ x.aim) × (y.path ≡ x.path)
SeesWord x r y _ = Unit {0}

-- nobody but the pass itself withdraws its own attempt of its own accord
abbrev pub OwnVerdict : Whole → ℕ → Status → Whole → Type 0
OwnVerdict x p s y = p ≡ x.view.seat → x.knows.own.withdrew ≡ false → s.number ≡ x.knows.own.number → (st : Stage)
    → Has y.knows.told (verdict (code p s.number) st) → st ≢ aborted withdrawn

-- a status, at which the pass then aims
abbrev pub SeesStatus : Whole → ℕ → Whole → Place → Type 0
SeesStatus x r y (at_own p own_status) = IsStatus r × StatusLoaded x.view p (unpacked r) y.view
    × StatusSeen x.knows p (unpacked r) y.knows × (y.aim ≡ (p, (unpacked r).number)) × OwnVerdict x p (unpacked r) y
    × (y.path ≡ x.path)
SeesStatus x r y _ = Unit {0}

-- a word of an install's descriptor, which tells nothing beside
abbrev pub SeesInstall : Whole → ℕ → Whole → Place → Type 0
SeesInstall x r y (at_own q (own_install place)) = InstallLoaded x.view q place r y.view × (y.knows ≡ x.knows) × (y.aim ≡ x.aim)
    × (y.path ≡ x.path)
SeesInstall x r y _ = Unit {0}

-- no early install of attempt a of pass p, which is decided, stands in a word in which c is found: by what was noted
-- before, or since the verdict is known and c is no install
abbrev pub IsFoundCalm : PassKnows → ℕ → ℕ → ℕ → Field → WordKind → Type 0
IsFoundCalm k p a n f c = Has k.noted (calm p a n f)
    ⊎ (((q : ℕ) × (i : ℕ) × Has k.noted (calm_but p a n f q i) × (c ≢ Install q i))
    ⊎ ((st : Stage) × Has k.told (verdict (code p a) st) × ((q i : ℕ) → c ≢ Install q i)))

-- a reference that is found isn't that of an attempt which is known to be gone from all words
abbrev pub IsNotCleared : Whole → ℕ → Type 0
IsNotCleared x r = (p a : ℕ) → kind r ≡ Exchange p a → KnowsCleared x p a → ⊥

-- a word of a node
pub record CellSeen (x : Whole) (n : ℕ) (f : Field) (r : ℕ) (y : Whole) : Type 0 where
  pub word : IsWord r
  pub later : IsLater x.view y.view
  pub notes : (m : Note) → Has (found n f (kind r)) m → IsNotedSince x.view y.view m
  pub seen : WordSeen x.knows n f (kind r) y.knows
  pub aim : y.aim ≡ x.aim
  -- it is clean of the own attempt, where it is calm and doesn't hold its reference
  pub cleans : kind r ≢ Exchange x.view.seat x.knows.own.number
      → IsFoundCalm x.knows x.view.seat x.knows.own.number n f (kind r)
      → Has y.view.notes (clean x.view.seat x.knows.own.number n f)
  -- an install that stands there isn't one that is known to be gone
  pub present : (q k : ℕ) → kind r ≡ Install q k → Has x.view.notes (removed q k) → ⊥
  -- nor one of the pass, where none of its own stands anywhere
  pub other : IsFree x.view → (q k : ℕ) → kind r ≡ Install q k → q ≢ x.view.seat
  -- nor is a reference that of an attempt of which the word is known to be clean, or which is known to be gone from all words
  pub unclean : (p a : ℕ) → kind r ≡ Exchange p a → Has x.view.notes (clean p a n f) → ⊥
  pub uncleared : IsNotCleared x r
  -- a plain version is at least each one that the node is known to have had, or was visited at; and that of the sentinel is even
  pub rises : (v at w : ℕ) → f ≡ Version → kind r ≡ Plain w → Has x.knows.told (visited n v at) → v ≤ w
  pub after_visits : (v : Visited) (w : ℕ) → f ≡ Version → kind r ≡ Plain w → IsAmong v x.path.visits → v.node ≡ n → v.version ≤ w
  pub sentinel : (w : ℕ) → n ≡ 1 → f ≡ Version → kind r ≡ Plain w → IsEven w
  -- the node that a link names is in use
  pub leads : (m : ℕ) → IsLinkField f → kind r ≡ Plain m → m ≢ 0 → Has y.knows.told (in_use m)

abbrev pub SeesCell : Whole → ℕ → Whole → Place → Type 0
SeesCell x r y (at_cell n f) = CellSeen x n f r y × (y.path ≡ x.path)
SeesCell x r y _ = Unit {0}

-- ---- stores to the own words

-- a word of the own install's descriptor
abbrev pub StoredInstall : Whole → ℕ → Whole → Place → Type 0
StoredInstall x r y (at_own i (own_install place)) = i ≡ x.view.seat → y ≡ record x { view = after_store x.view place r }
StoredInstall x r y _ = Unit {0}

-- a word of the own descriptor
abbrev pub StoredWord : Whole → ℕ → Whole → Place → Type 0
StoredWord x r y (at_own i (own_word place)) = i ≡ x.view.seat
    → y ≡ record x { view = after_write x.view place r; knows = after_own_store x.knows place r }
StoredWord x r y _ = Unit {0}

-- by its mode the exchange of a pass with this path has no visits and reads, or the reads of the path
pub record CountsReads (path : Path) (e : Attempt) : Type 0 where
  pub none : e.mode ≡ 0 → (e.visits ≡ []) × (e.reads ≡ [])
  pub all : e.mode ≢ 0 → e.reads ≡ path.reads

-- the own next attempt is published: it is one that the stored words describe, and it makes the spare's node where that is
-- named
abbrev pub HasPublished : Bool → Whole → Whole → Place → Type 0
HasPublished named x y (at_own i own_status) = i ≡ x.view.seat
    → (e : Attempt) × (c : ℕ) × Describes x.view.size.slots e (word_in x.knows.own.words) × Has x.knows.told (clock_was c)
    × (y ≡ record x { view = after_publish x.view; knows = after_publication x.knows (code x.view.seat (x.knows.own.number + 1)) (exchange_of e) c })
    × CountsReads x.path e × IsAboveSeen x.knows.told c × MakesOwn x.knows.slots e.fresh × (makes_one e.fresh ≡ named)
HasPublished named x y _ = Unit {0}

-- the own attempt is cleared, which is known to be decided so
abbrev pub after_clear : View → View
after_clear v = record v { attempt = record v.attempt { published = false } }

abbrev pub HasCleared : Whole → Whole → Place → Type 0
HasCleared x y (at_own i own_status) = i ≡ x.view.seat → (st : Stage)
    → Has x.knows.told (verdict (code x.view.seat x.knows.own.number) st)
    → y ≡ record x { view = after_clear x.view; knows = after_clearing x.knows st }
HasCleared x y _ = Unit {0}

-- ---- a draw, which gives the stamp that is found, for the attempt at which the pass aims; from the last stamp on it is
-- refused

pub record HasDrawn (x : Whole) (r : ℕ) (y : Whole) : Type 0 where
  pub drawn : r < last_stamp → y ≡ record x { knows = after_draw x.knows (code x.aim.0 x.aim.1) r }
  pub refused : last_stamp ≤ r → y ≡ record x { knows = after_refusal x.knows r }

abbrev pub Draws : Whole → ℕ → Whole → Place → Type 0
Draws x r y at_clock = HasDrawn x r y
Draws x r y _ = Unit {0}

-- ---- decisions, by a compare_exchange of a status: where it hits, the pass knows the verdict; where it misses, it is a
-- load of the status

pub record StatusTried (x : Whole) (p old r : ℕ) (then : Whole → Type 0) (y : Whole) : Type 0 where
  pub hit : r ≡ old → then y
  pub miss : r ≢ old → SeesStatus x r y (at_own p own_status)

-- what a decision makes of the attempt, by its new status; one that isn't the pass's own to withdraw fails at the
-- clock's end alone
abbrev pub verdict_by : StatusStage → Stage
verdict_by Idle = absent
verdict_by Undecided = undecided
verdict_by (Succeeded s) = committed s
verdict_by Withdrawn = aborted ended
verdict_by (ChangedNode n) = aborted (changed n)
verdict_by (Locked n q) = aborted (locked n q)

-- attempt a of pass p is decided
abbrev pub after_decided : View → ℕ → ℕ → View
after_decided v p a = with_notes v (decided_below p (a + 1) ∷ [])

-- the attempt of this status took effect, or failed
abbrev pub HasDecided : Whole → ℕ → ℕ → ℕ → Whole → Place → Type 0
HasDecided x old new r y (at_own p own_status) = StatusTried x p old r
    (λ y'. y' ≡ record x { view = after_decided x.view p (unpacked old).number; knows = after_decision x.knows (code p (unpacked old).number) (verdict_by (unpacked new).stage) }) y
HasDecided x old new r y _ = Unit {0}

-- the pass withdrew its own
abbrev pub HasWithdrawn : Whole → ℕ → ℕ → Whole → Place → Type 0
HasWithdrawn x old r y (at_own p own_status) = StatusTried x p old r
    (λ y'. y' ≡ record x { view = after_decided x.view p x.knows.own.number; knows = after_withdrawal x.knows (code p x.knows.own.number) (aborted withdrawn) }) y
HasWithdrawn x old r y _ = Unit {0}

-- ---- a compare_exchange on a word of a node

-- what it tells beside: what it found; and where it hits, what stands there then
pub record WordSwapped (x : Whole) (n : ℕ) (f : Field) (old new r : ℕ) (y : Whole) : Type 0 where
  pub hit : r ≡ old → (between : PassKnows) × WordSeen x.knows n f (kind r) between × WordSeen between n f (kind new) y.knows
  pub miss : r ≢ old → WordSeen x.knows n f (kind r) y.knows
  pub aim : y.aim ≡ x.aim
  pub path : y.path ≡ x.path

-- where a plain number is found that isn't the old one, the attempt that the own install is for is outdated at this node
abbrev pub OldDiffers : Whole → ℕ → ℕ → ℕ → Whole → Type 0
OldDiffers x n r old y = r ≢ old → (p a v : ℕ) → x.view.install.op ≡ raw (Exchange p a) → p < 64 → kind r ≡ Plain v
    → Has y.knows.told (outdated (code p a) n)

-- the own install is placed
abbrev pub WholePlaced : Whole → ℕ → ℕ → ℕ → Whole → Place → Type 0
WholePlaced x old new r y (at_cell n f) = InstallTried x.view n f old r y.view × WordSwapped x n f old new r y
    × OldDiffers x n r old y × IsNotCleared x r
WholePlaced x old new r y _ = Unit {0}

-- an install is taken away
abbrev pub WholeTaken : Whole → ℕ → ℕ → ℕ → Whole → Place → Type 0
WholeTaken x old new r y (at_cell n f) = InstallTaken x.view n f old new r y.view × WordSwapped x n f old new r y
WholeTaken x old new r y _ = Unit {0}

-- a reference is taken away: then the word is clean of its attempt. So it is where the reference isn't there any more, and the
-- word is calm
pub record ReferenceTaken (x : Whole) (n : ℕ) (f : Field) (old new r : ℕ) (y : Whole) : Type 0 where
  pub word : IsWord r
  pub later : IsLater x.view y.view
  pub aim : y.aim ≡ x.aim
  pub path : y.path ≡ x.path
  pub cleaned : r ≡ old → (p a : ℕ) → kind old ≡ Exchange p a → Has y.view.notes (clean p a n f)
  pub becomes : r ≡ old → (m : Note) → Has (found n f (kind new)) m → IsNotedSince x.view y.view m
  pub learnt : r ≡ old → WordSeen x.knows n f (kind new) y.knows
  pub miss : r ≢ old → CellSeen x n f r y
  pub missed_clean : r ≢ old → (p a : ℕ) → kind old ≡ Exchange p a → IsFoundCalm x.knows p a n f (kind r)
      → Has y.view.notes (clean p a n f)

abbrev pub TookReference : Whole → ℕ → ℕ → ℕ → Whole → Place → Type 0
TookReference x old new r y (at_cell n f) = ReferenceTaken x n f old new r y
TookReference x old new r y _ = Unit {0}

-- ---- a look at a version that an exchange visits, for the stamps that were drawn for it

pub record LookedFor (x : Whole) (n r : ℕ) (y : Whole) : Type 0 where
  -- at each stamp the version was no greater than the number that is found, or than it is by the exchange whose reference is
  -- found, whose pass is a rival
  pub number : (e s w : ℕ) → Has x.knows.told (drew e s) → kind r ≡ Plain w → Has y.knows.told (looked s n (value w))
  pub reference : (e s q b : ℕ) → Has x.knows.told (drew e s) → kind r ≡ Exchange q b
      → Has y.knows.told (looked s n (by (code q b))) × Has y.knows.told (rival q n s)
  -- an attempt is outdated where a greater number is found than the version that it visits, or where it changes the version from
  -- another one
  pub greater : (p a s i v w : ℕ) → p < 64 → Has x.knows.told (drew (code p a) s)
      → KnowsVisit x.view.size.slots x.knows.noted x.view.seat x.knows.own p a i n v → kind r ≡ Plain w → v < w
      → Has y.knows.told (outdated (code p a) n)
  pub differs : (p a s i j v old new : ℕ) → p < 64 → Has x.knows.told (drew (code p a) s)
      → KnowsVisit x.view.size.slots x.knows.noted x.view.seat x.knows.own p a i n v
      → KnowsEntry x.knows.noted x.view.seat x.knows.own p a j n Version old new → old ≢ v
      → Has y.knows.told (outdated (code p a) n)
  -- where a reference of its pass is found, that is at this attempt or at a later one; and the version is one of the words of an
  -- attempt whose own reference is found
  pub reached : (p a s b : ℕ) → p < 64 → Has x.knows.told (drew (code p a) s) → kind r ≡ Exchange p b → a ≤ b
  pub listed : (p a count : ℕ) → p < 64 → kind r ≡ Exchange p a → KnowsWord x.knows.noted x.view.seat x.knows.own p a 1 count
      → (i : ℕ) × (i < count)
      × ((place : ℕ) → KnowsWord x.knows.noted x.view.seat x.knows.own p a (3 + 3 * i) place → place ≡ place_number n Version)

abbrev pub LooksFor : Whole → ℕ → Whole → Place → Type 0
LooksFor x r y (at_cell n Version) = CellSeen x n Version r y × LookedFor x n r y × (y.path ≡ x.path)
LooksFor x r y _ = Unit {0}

-- ---- paths: what a pass visits and reads, and the read that it makes of it

-- a load of a word that counts as a read, where that is told of it
abbrev pub SeesRead : Whole → ℕ → Whole → Place → Type 0
SeesRead x r y (at_cell n f) = CellSeen x n f r y × (y.path ≡ with_read x.path n f (kind r))
SeesRead x r y _ = Unit {0}

-- a load of a version that counts as a visit, where that is told of it: one more of this path
abbrev pub SeesVisit : Path → Whole → ℕ → Whole → Place → Type 0
SeesVisit p x r y (at_cell n Version) = CellSeen x n Version r y × (y.path ≡ with_visit p n (kind r))
SeesVisit p x r y _ = Unit {0}

-- a draw of a stamp for the read of the path; from the last stamp on it is refused
pub record ReadDrawn (x : Whole) (r : ℕ) (y : Whole) : Type 0 where
  pub stamped : r < last_stamp → y ≡ record x { knows = after_read_draw x.knows r; path = with_stamp x.path r }
  pub refused : last_stamp ≤ r → y ≡ record x { knows = after_refusal x.knows r }
  pub above : IsAboveSeen x.knows.told r

abbrev pub DrawsRead : Whole → ℕ → Whole → Place → Type 0
DrawsRead x r y at_clock = ReadDrawn x r y
DrawsRead x r y _ = Unit {0}

-- what a check of the next visit of a path makes of it, by the word that it found, and what is told then: where the version is
-- as it was visited, the visit has passed, and with the last of them the read takes effect at its stamp
pub record PathChecked (p : Path) (r : ℕ) (q : Path) (then : PassKnows) : Type 0 where
  pub passes : (v u : Visited) (others : List Visited) → p.left ≡ v ∷ u ∷ others → kind r ≡ Plain v.version
      → q ≡ with_left p (u ∷ others)
  pub takes : (s : ℕ) (v : Visited) → p.stamp ≡ Some s → p.left ≡ v ∷ [] → kind r ≡ Plain v.version
      → (q ≡ without_stamp p) × Has then.told (in_run s (read_of p))
  pub fails : (v : Visited) (others : List Visited) → p.left ≡ v ∷ others → kind r ≢ Plain v.version → q ≡ p

abbrev pub ChecksVisit : Whole → ℕ → Whole → Place → Type 0
ChecksVisit x r y (at_cell n Version) = CellSeen x n Version r y × PathChecked x.path r y.path y.knows
ChecksVisit x r y _ = Unit {0}

-- a load of the version of the next slot of the own share, which is taken as the spare: a plain number, odd, and the one that the slot
-- opened with
abbrev pub TakesSlot : Whole → ℕ → Whole → Place → Type 0
TakesSlot x r y (at_cell n Version) = (v : ℕ) × (kind r ≡ Plain v) × IsOdd v × (v ≡ x.view.size.starts.version + 1)
    × (y ≡ record x { knows = record x.knows { slots = with_spare x.knows.slots v } })
TakesSlot x r y _ = Unit {0}

-- a number is filled into a word of the own spare
abbrev pub FilledSpare : Whole → ℕ → Whole → Place → Type 0
FilledSpare x r y (at_cell n f) = (v : ℕ) → kind r ≡ Plain v
    → y ≡ record x { knows = record x.knows { slots = with_filled x.knows.slots f v } }
FilledSpare x r y _ = Unit {0}

-- a load of the epoch, with which an operation begins, or ends. Nothing is told of the epoch as long as it stays
abbrev pub BeginsPath : Whole → Whole → Place → Type 0
BeginsPath x y at_epoch = y ≡ record x { path = begun_path }
BeginsPath x y _ = Unit {0}

abbrev pub EndsPath : Whole → Whole → Place → Type 0
EndsPath x y at_epoch = y ≡ record x { path = ended_path }
EndsPath x y _ = Unit {0}
