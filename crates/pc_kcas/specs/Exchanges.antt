-- What clauses say of an exchange of several words, from its list to its installs.
use Rattle.std.specs.Prelude.{◌≡◌, ℕ, ◌+◌, ◌*◌, ◌-◌, ◌^◌, ◌<◌, ◌≤◌, ◌==◌, if◌then◌else◌, true, false, None, List, [], ◌∷◌, length, map, ◌⊎◌}
use Rattle.std.specs.List.{All}
use Rattle.std.specs.List.Sorted.{IsPermutation}
use mathlib.Core.Option.{some}
use lib.ListN.{get_elem?}
use Rattle.pc_model.specs.declared.cell.Field.TheVariants.{Version}
use Rattle.pc_model.specs.declared.shape.Shape.{Ghosts}
use Rattle.pc_model.specs.Cells.{IsEven}
use Rattle.pc_model.specs.Exchanges.{Changed, Visited, Seen, Exchange}
use Rattle.pc_model.specs.Forms.{Form, Fits}
use Rattle.pc_exchange_law.specs.ExchangeConditions.{KnowsOld}
use Rattle.pc_exchange_law.specs.Knowing.{IsAboveSeen}
use Rattle.pc_exchange_law.specs.Passes.{PassKnows}
use Rattle.pc_exchange_law.specs.Paths.{Path, read_of}
use Rattle.pc_exchange_law.specs.Slots.{IsHeld}
use Rattle.pc_exchange_law.specs.Ties.{code, exchange_of}
use Rattle.pc_exchange_law.specs.Wholes.{Whole}
use Rattle.pc_protocol.specs.Notes.{Note, clock_was, saw, published}
use Rattle.pc_rule_law.specs.Board.{Size, place_number}
use Rattle.pc_rule_law.specs.Openings.{attempt_of}
use Rattle.pc_rule_law.specs.Past.{Has, Attempt, Describes, visits_begin}
use Rattle.pc_rule_law.specs.Plays.{AddsNotes, IsNotedSince}
use Rattle.pc_rule_law.specs.Views.{View, clock_at, held, word_in, with_notes}
use Rattle.pc_rule.specs.declared.board.Pass.{Pass}
use Rattle.pc_rule.specs.declared.opening.Place.{Place}
use Rattle.pc_rule.specs.declared.refs.Ref.{Ref}
use Rattle.pc_rule.specs.declared.refs.RefKind.TheVariants.{Exchange as AnExchange}
use Rattle.pc_rule.specs.Listed.{word_number}
use Rattle.pc_rule.specs.Passes.{whole, view, listed, path, visits as held_visits}
use Rattle.pc_rule.specs.declared.visit.Visit.{Visit}
use Rattle.pc_rule.specs.Starting.{change_of}
use Rattle.pc_kcas.specs.declared.mode.Mode.{Mode}
use Rattle.pc_kcas.specs.declared.mode.Mode.TheVariants.{Words, Path as OfPath, LockedPath as OfLockedPath}
use Rattle.pc_kcas.specs.Locks.{words_by}
use Rattle.pc_dcss.specs.declared.installed.Installed.{Installed}
use Rattle.pc_dcss.specs.Installs.{KnowsPlace, IsDecidedSince, IsDifferent, IsMet, HasNoNumber, OnHeld, OnDecided, IfDiffers, IfMet, IfNumbers}

-- a version is changed from an even number
abbrev pub IsFromEven : Place → Type 0
IsFromEven p = p.field ≡ Version → IsEven p.old

-- each of these words that is of the node is its version
abbrev pub IsOneWord : List Place → ℕ → Type 0
IsOneWord places n = (q : Place) → Has places q → q.node ≡ n → q.field ≡ Version

-- of each node with a word here the version is among them too, and rises by 2, or by 1; and one that becomes odd, which marks its node, is the
-- node's one word
abbrev pub RaisesVersions : List Place → Type 0
RaisesVersions places = All (λ p. (v : Place) × Has places v × (v.node ≡ p.node) × (v.field ≡ Version) × ((v.new ≡ v.old + 2) ⊎ (v.new ≡ v.old + 1))
    × (p.field ≡ Version → IsEven p.new ⊎ IsOneWord places p.node)) places

-- of each of these words the old number is known to have stood there while its node had the old version, which is among them, and its
-- node is known to be in use
abbrev pub KnowsOldValues : Size → PassKnows → List Place → Type 0
KnowsOldValues z k places = All (λ p. (v : Place) × Has places v × (v.node ≡ p.node) × (v.field ≡ Version) × KnowsOld z k p.node v.old p.field p.old × IsHeld k p.node) places

-- in each order of these words, the exchange that changes them leaves sound cells, and some keys are charged
abbrev pub FitsInEachOrder : Form → ℕ → List Place → Type 0
FitsInEachOrder form slots places = (ordered : List Place) → IsPermutation places ordered
    → (keys : List ℕ) × Fits form slots (exchange_of (attempt_of (map change_of ordered))) keys

-- the attempt that makes these changes and no node, with a mode, and with what it visits and reads
abbrev pub attempt_with : ℕ → List Visited → List Seen → List Changed → Attempt
attempt_with mode visits reads changes = record { mode = mode; changes = changes; visits = visits; reads = reads; fresh = None }

-- the mode word of an attempt of this mode, along a path with these visits: that of one along no visits is that of words alone
abbrev pub mode_word : Mode → List Visited → ℕ
mode_word mode [] = 0
mode_word Words (v ∷ visits) = 0
mode_word OfPath (v ∷ visits) = 1
mode_word OfLockedPath (v ∷ visits) = 2

-- what an exchange of this mode takes of a path: nothing, or all that was visited and read; one whose path is locked has its visits among
-- its words
abbrev pub visits_by : Mode → Path → List Visited
visits_by Words p = []
visits_by OfPath p = p.visits
visits_by OfLockedPath p = []

abbrev pub reads_by : Mode → Path → List Seen
reads_by Words p = []
reads_by OfPath p = p.reads
reads_by OfLockedPath p = p.reads

-- the exchange of these words
abbrev pub exchange_by : Mode → Path → List Place → Exchange
exchange_by mode p places = exchange_of (attempt_with 0 (visits_by mode p) (reads_by mode p) (map change_of places))

-- in each order of its words, for which these are listed, it leaves sound cells, and some keys are charged
abbrev pub FitsByMode : Form → ℕ → Mode → Path → List Place → Type 0
FitsByMode form slots mode p places = (ordered : List Place) → IsPermutation (words_by mode p places) ordered
    → (keys : List ℕ) × Fits form slots (exchange_by mode p ordered) keys

-- the last number of an attempt
abbrev pub last_attempt : ℕ
last_attempt = 2 ^ 28 - 1

-- the mode and the numbers of changes and of visits stand in the descriptor, and the words of the changes below i
pub record ListsTo (m visited : ℕ) (places : List Place) (word : ℕ → ℕ) (i : ℕ) : Type 0 where
  pub mode : word 0 ≡ m
  pub changes : word 1 ≡ length places
  pub visits : word 2 ≡ visited
  pub each : (j : ℕ) (p : Place) → j < i → get_elem? places j ≡ some p
      → (word (3 + 3 * j) ≡ word_number p) × (word (4 + 3 * j) ≡ p.old) × (word (5 + 3 * j) ≡ p.new)

-- the words of the visits below i stand in the descriptor
abbrev pub VisitsTo : ℕ → List Visit → (ℕ → ℕ) → ℕ → Type 0
VisitsTo slots kept word i = (j : ℕ) (v : Visit) → j < i → get_elem? kept j ≡ some v
    → (word (visits_begin slots + 2 * j) ≡ v.node) × (word (visits_begin slots + (1 + 2 * j)) ≡ v.version)

-- the words before those of the visits are the same
abbrev pub SameBelow : ℕ → (ℕ → ℕ) → (ℕ → ℕ) → Type 0
SameBelow slots word word' = (k : ℕ) → k < visits_begin slots → word' k ≡ word k

-- the pass stored words of its descriptor, and is otherwise as it was
abbrev pub OnlyWrote : View → View → Type 0
OnlyWrote v w = w ≡ record v { attempt = record v.attempt { words = w.attempt.words } }

abbrev pub OnlyStored : PassKnows → PassKnows → Type 0
OnlyStored k k' = k' ≡ record k { own = record k.own { words = k'.own.words } }

-- words with another one at this place; with another mode and other counts; and with the three words of one change
abbrev pub with_word : (ℕ → ℕ) → ℕ → ℕ → ℕ → ℕ
with_word words place x k = if k == place then x else words k

abbrev pub with_counts : (ℕ → ℕ) → ℕ → ℕ → ℕ → ℕ → ℕ
with_counts words mode count visited = with_word (with_word (with_word words 0 mode) 1 count) 2 visited

abbrev pub with_change : (ℕ → ℕ) → ℕ → Place → ℕ → ℕ
with_change words i p = with_word (with_word (with_word words (3 + 3 * i) (word_number p)) (4 + 3 * i) p.old) (5 + 3 * i) p.new

-- and with the two words of one visit
abbrev pub with_visit_words : ℕ → (ℕ → ℕ) → ℕ → Visit → ℕ → ℕ
with_visit_words slots words i v = with_word (with_word words (visits_begin slots + 2 * i) v.node) (visits_begin slots + 2 * i + 1) v.version

-- the pass loaded the clock, which is above each stamp that it has seen, and stored words of its descriptor, and is otherwise as it was
pub record OnlyPrepared (x y : Whole) (c : ℕ) : Type 0 where
  pub view : y.view ≡ record (with_notes x.view (clock_at c ∷ [])) { attempt = record x.view.attempt { words = y.view.attempt.words } }
  pub told : y.knows.told ≡ clock_was c ∷ saw c (read_of x.path) ∷ x.knows.told
  pub noted : y.knows.noted ≡ x.knows.noted
  pub above : IsAboveSeen y.knows.told c

-- the pass has one attempt more, which is published, and loaded the clock, and is otherwise as it was
pub record OnlyPublished (v w : View) : Type 0 where
  pub same : w ≡ record v { attempt = w.attempt; notes = w.notes }
  pub clock : (c : ℕ) × (w.notes ≡ clock_at c ∷ v.notes)
  pub number : w.attempt.number ≡ v.attempt.number + 1
  pub published : w.attempt.published ≡ true

-- the last attempt is published, and the words of its descriptor are those of these changes, of which there are some, with a mode and
-- visits
pub record HasPublished (v : View) (places : List Place) : Type 0 where
  pub mode : ℕ
  pub visits : List Visited
  pub reads : List Seen
  pub some_listed : 0 < length places
  pub published : v.attempt.published ≡ true
  pub none_posted : v.posted ≡ false
  pub number : v.attempt.number < 2 ^ 28
  pub describes : Describes v.size.slots (attempt_with mode visits reads (map change_of places)) (word_in v.attempt.words)

-- how many nodes the last attempt visits, by its descriptor
abbrev pub visit_count : View → ℕ
visit_count v = word_in v.attempt.words 2

-- the last attempt changes the version of a node, or visits the node, by its descriptor
abbrev pub CoversNode : View → ℕ → Type 0
CoversNode v n = ((i : ℕ) × (i < word_in v.attempt.words 1) × (word_in v.attempt.words (3 + 3 * i) ≡ place_number n Version))
    ⊎ ((i : ℕ) × (i < visit_count v) × (word_in v.attempt.words (visits_begin v.size.slots + 2 * i) ≡ n))

-- the pass didn't withdraw its last attempt of its own accord, and has noted that it is the exchange of these changes
pub record KnowsOwn (x : Whole) (places : List Place) : Type 0 where
  pub not_withdrawn : x.knows.own.withdrew ≡ false
  pub mode : ℕ
  pub visits : List Visited
  pub reads : List Seen
  pub describes : Describes x.view.size.slots (attempt_with mode visits reads (map change_of places)) (word_in x.view.attempt.words)
  pub noted : (c : ℕ) × Has x.knows.told (published (code x.view.seat x.view.attempt.number) (exchange_of (attempt_with 0 visits reads (map change_of places))) c)

-- the pass has noted that its last attempt is this exchange
abbrev pub KnowsExchange : Whole → Exchange → Type 0
KnowsExchange x e = (c : ℕ) × Has x.knows.told (published (code x.view.seat x.view.attempt.number) e c)

-- and the clock before its publication is above each stamp that these notes tell of
abbrev pub KnowsAbove : List Note → Whole → Exchange → Type 0
KnowsAbove told x e = (c : ℕ) × Has x.knows.told (published (code x.view.seat x.view.attempt.number) e c) × IsAboveSeen told c

-- the visits of the last attempt are the first ones of these
pub record VisitsHeld (v : View) (kept : List Visit) : Type 0 where
  pub within : word_in v.attempt.words 2 ≤ length kept
  pub each : VisitsTo v.size.slots kept (word_in v.attempt.words) (word_in v.attempt.words 2)

module _ {H : Type 0} {S : Ghosts H} where
  -- the words of the descriptor are those of the exchange of what is listed, in this mode
  abbrev pub IsDescribed : Mode → Pass H S → Type 0
  IsDescribed mode p = Describes (view p).size.slots
      (attempt_with (mode_word mode (path p).visits) (visits_by mode (path p)) (reads_by mode (path p)) (map change_of (listed p))) (word_in (view p).attempt.words)

  -- the exchange of the pass's last attempt
  abbrev pub own_exchange : Pass H S → Ref
  own_exchange p = record { kind = AnExchange; seat = (view p).seat; number = (view p).attempt.number }

  -- its last attempt is published and not cleared, with the words that it lists
  abbrev pub IsUncleared : Pass H S → Type 0
  IsUncleared p = HasPublished (view p) (listed p)

  -- and the pass didn't withdraw it of its own accord, and has noted what it is; and it holds the visits
  abbrev pub IsPublished : Pass H S → Type 0
  IsPublished p = IsUncleared p × KnowsOwn (whole p) (listed p) × VisitsHeld (view p) (held_visits p)

  -- each word that it lists is known to be one of its exchange
  abbrev pub KnowsListed : Pass H S → Type 0
  KnowsListed p = All (KnowsPlace (view p) (own_exchange p)) (listed p)

  -- that the word at this index held the reference of the pass's exchange was noted since
  abbrev pub IsHeldAt : Pass H S → Pass H S → ℕ → Type 0
  IsHeldAt old new i = (p : Place) → get_elem? (listed new) i ≡ some p
      → IsNotedSince (view old) (view new) (held (view new).seat (view new).attempt.number p.node p.field)

-- an install in this word gave another answer than held, with what that answer says
pub record IsStopped (v w : View) (op : Ref) (place : Place) : Type 0 where
  pub answer : Installed
  pub not_held : OnHeld answer ⊥
  pub decided : OnDecided answer (IsDecidedSince v w op.seat op.number)
  pub differs : IfDiffers answer (IsDifferent v w place)
  pub met : IfMet answer (IsMet v w op place)
  pub numbers : IfNumbers answer (HasNoNumber v w)

module _ {H : Type 0} {S : Ghosts H} where
  -- the install in the word at this index, which the pass made since, stopped
  abbrev pub IsStoppedAt : Pass H S → Pass H S → ℕ → Type 0
  IsStoppedAt old new i = (p : Place) → get_elem? (listed new) i ≡ some p
      → (v : View) × AddsNotes (view old) v × IsStopped v (view new) (own_exchange new) p
