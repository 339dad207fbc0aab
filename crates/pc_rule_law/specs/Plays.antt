-- What each kind of step tells the pass that makes it.
use Rattle.std.specs.Prelude.{◌≡◌, ◌≢◌, ℕ, zero, suc, ◌+◌, ◌*◌, ◌^◌, ◌<◌, ◌≤◌, Bool, true, false, List, [], ◌∷◌, ◌++◌}
use Rattle.atomic_table.specs.Table.{Me, Step}
use Rattle.pc_model.specs.declared.cell.Field.{Field}
use Rattle.pc_model.specs.declared.cell.Field.TheVariants.{Version, Key, Value, Left, Right, Parent, Height, Spare}
use Rattle.pc_model.specs.Cells.{IsNode}
use Rattle.pc_model.specs.Exchanges.{Changed as Change}
use Rattle.pc_model.specs.Linked.{opening_cells}
use Rattle.pc_words.specs.declared.word.WordKind.{WordKind}
use Rattle.pc_words.specs.declared.word.WordKind.TheVariants.{Plain, Install, Exchange}
use Rattle.pc_words.specs.declared.status.Status.{Status}
use Rattle.pc_words.specs.Words.{raw, kind, IsWord}
use Rattle.pc_words.specs.Statuses.{unpacked, IsStatus}
use Rattle.pc_rule_law.specs.Board.{own_status, own_install, own_word, Place, at_clock, at_own, at_cell, address, Inside, place_number}
use Rattle.pc_rule_law.specs.Past.{Has, visits_begin}
use Rattle.pc_rule_law.specs.Stages.{IsIdle, IsOpen, decided_by, IsCleared}
use Rattle.pc_rule_law.specs.Views.{Note, version, entry, placed, loaded, install_word, early, removed, decided_below, held, clean, clock_at, word_loaded, attempt_word, had, OwnInstall, View, NoteInRange, AllNotes, with_notes}

abbrev pub Mine : Type 0
Mine = Me Bool View

-- what the pass has noted since stands in front of what it had noted before
abbrev pub AddsNotes : View → View → Type 0
AddsNotes v w = (new : List Note) × (w.notes ≡ new ++ v.notes)

-- the note was made since
abbrev pub IsNotedSince : View → View → Note → Type 0
IsNotedSince v w x = (new : List Note) × (w.notes ≡ new ++ v.notes) × Has new x

-- the pass has learnt, and is otherwise as it was
pub record IsLater (v w : View) : Type 0 where
  pub same : w ≡ record v { notes = w.notes }
  pub adds : AddsNotes v w
  pub more : (x : Note) → Has v.notes x → Has w.notes x

-- the numbers in its notes are those of the board
abbrev pub IsWell : View → Type 0
IsWell v = v.live ≡ true → AllNotes (NoteInRange v.size) v.notes

-- T is told of the place whose address the word has
abbrev pub Told : View → ℕ → (Place → Type 0) → Type 0
Told v word T = (p : Place) → Inside v.size p → word ≡ address v.size p → T p

-- the pass is where it was
abbrev pub SameSeat : View → View → Type 0
SameSeat v w = (w.live ≡ v.live) × (w.seat ≡ v.seat) × (w.last ≡ v.last) × (w.rest ≡ v.rest) × (w.size ≡ v.size)

-- the pass is where it was and is well, and T is told
abbrev pub Tells : Mine → ℕ → (View → Place → Type 0) → Mine → Type 0
Tells m word T m' = (m'.1 ≡ m.1) × SameSeat m.0 m'.0 × Told m.0 word (T m'.0) × IsWell m'.0

-- what is noted of a word of a node, by what stands in it
abbrev pub found : ℕ → Field → WordKind → List Note
found n Version (Plain x) = version n x ∷ []
found n Key (Plain x) = had n Key x ∷ []
found n Value (Plain x) = had n Value x ∷ []
found n Left (Plain x) = had n Left x ∷ []
found n Right (Plain x) = had n Right x ∷ []
found n Parent (Plain x) = had n Parent x ∷ []
found n Height (Plain x) = had n Height x ∷ []
found n Spare (Plain x) = had n Spare x ∷ []
found n f (Install q k) = placed q k n f ∷ []
found n f (Exchange p a) = held p a n f ∷ []

-- ---- a store to the own install descriptor

abbrev pub with_install_word : OwnInstall → ℕ → ℕ → OwnInstall
with_install_word d zero x = record d { number = x }
with_install_word d (suc zero) x = record d { op = x }
with_install_word d (suc (suc zero)) x = record d { place = x }
with_install_word d (suc (suc (suc place))) x = record d { old = x }

-- a new number is fresh
abbrev pub fresh_after : ℕ → Bool → Bool
fresh_after zero fresh = true
fresh_after (suc place) fresh = fresh

abbrev pub after_store : View → ℕ → ℕ → View
after_store v place x = record v { install = with_install_word v.install place x; fresh = fresh_after place v.fresh }

abbrev pub Stored : View → ℕ → View → Place → Type 0
Stored v x w (at_own i (own_install place)) = i ≡ v.seat → w ≡ after_store v place x
Stored v x w _ = Unit {0}

abbrev pub stores : Step Bool → Mine → ℕ → Mine → Type 0
stores st m r m' = Tells m st.word (Stored m.0 st.first) m'

-- ---- a load of a word of an install descriptor: of each install of that pass that the pass met, the word while its number
-- is the present one. A load of the number says of each whether it is the present one: then what was loaded stands
-- for good; and else it was taken away

pub record InstallLoaded (v : View) (q place r : ℕ) (w : View) : Type 0 where
  pub later : IsLater v w
  pub loads : (k n : ℕ) (f : Field) → Has v.notes (placed q k n f) → Has w.notes (loaded q k place r)
  pub settles : place ≡ 0 → (j x : ℕ) → Has v.notes (loaded q r j x) → Has w.notes (install_word q r j x)
  pub removes : place ≡ 0 → (k n : ℕ) (f : Field) → Has v.notes (placed q k n f) → k ≢ r → Has w.notes (removed q k)

abbrev pub LoadedInstall : View → ℕ → View → Place → Type 0
LoadedInstall v r w (at_own q (own_install place)) = InstallLoaded v q place r w
LoadedInstall v r w _ = Unit {0}

abbrev pub loads_install : Step Bool → Mine → ℕ → Mine → Type 0
loads_install st m r m' = Tells m st.word (LoadedInstall m.0 r) m'

-- a plain word has the value that the board opened with: so it is as long as no exchange is decided
abbrev pub IsOpeningWord : View → ℕ → Field → ℕ → Type 0
IsOpeningWord v n f r = (x : ℕ) → kind r ≡ Plain x → x ≡ opening_cells v.size.starts.version n f

-- ---- a load of a word of a node

-- what is told whatever cells are sound
abbrev pub CellFound : View → ℕ → Field → ℕ → View → Type 0
CellFound v n f r w = IsWord r × (w ≡ with_notes v (found n f (kind r)))

abbrev pub LoadedCell : View → ℕ → View → Place → Type 0
LoadedCell v r w (at_cell n f) = IsWord r × (w ≡ with_notes v (found n f (kind r))) × IsOpeningWord v n f r
LoadedCell v r w _ = Unit {0}

abbrev pub loads_cell : Step Bool → Mine → ℕ → Mine → Type 0
loads_cell st m r m' = Tells m st.word (LoadedCell m.0 r) m'

-- ---- the own install in place of a plain value

-- of the own install all is known: where it was placed, and its words
abbrev pub own_notes : View → ℕ → Field → List Note
own_notes v n f = placed v.seat v.install.number n f ∷ install_word v.seat v.install.number 1 v.install.op
    ∷ install_word v.seat v.install.number 2 v.install.place ∷ install_word v.seat v.install.number 3 v.install.old
    ∷ []

abbrev pub after_place : View → ℕ → Field → View
after_place v n f = record (with_notes v (own_notes v n f)) { fresh = false }

-- what is told whatever cells are sound
pub record InstallTried (v : View) (n : ℕ) (f : Field) (old r : ℕ) (w : View) : Type 0 where
  pub word : IsWord r
  pub hit : r ≡ old → w ≡ after_place v n f
  pub miss : r ≢ old → w ≡ with_notes v (found n f (kind r))
  -- an install that stands there isn't the pass's own
  pub other : (q k : ℕ) → kind r ≡ Install q k → q ≢ v.seat
  -- nor one that is known to be gone; and the word isn't known to be clean of an attempt whose reference stands there
  pub present : (q k : ℕ) → kind r ≡ Install q k → Has v.notes (removed q k) → ⊥
  pub unclean : (p a : ℕ) → kind r ≡ Exchange p a → Has v.notes (clean p a n f) → ⊥

pub record InstallPlaced (v : View) (n : ℕ) (f : Field) (old r : ℕ) (w : View) : Type 0 where
  pub word : IsWord r
  pub hit : r ≡ old → w ≡ after_place v n f
  pub miss : r ≢ old → w ≡ with_notes v (found n f (kind r))
  -- an install that stands there isn't the pass's own
  pub other : (q k : ℕ) → kind r ≡ Install q k → q ≢ v.seat
  pub plain : IsOpeningWord v n f r

abbrev pub PlacedInstall : View → ℕ → ℕ → View → Place → Type 0
PlacedInstall v old r w (at_cell n f) = InstallPlaced v n f old r w
PlacedInstall v old r w _ = Unit {0}

abbrev pub places_install : Step Bool → Mine → ℕ → Mine → Type 0
places_install st m r m' = Tells m st.word (PlacedInstall m.0 st.first r) m'

-- the number of a word of a board with so many slots
abbrev pub IsPlaceIn : ℕ → ℕ → Type 0
IsPlaceIn slots place = (n : ℕ) × (f : Field) × (place ≡ place_number n f) × IsNode slots n

-- ---- a load of a status: which attempts are decided; and where this one is undecided, the installs that are known to be for
-- it were placed while it was. Where it isn't cleared, what was loaded of its descriptor stands for good. Its number is at
-- least each that the pass knows of, and of the own status it is the own one

pub record StatusLoaded (v : View) (p : ℕ) (s : Status) (w : View) : Type 0 where
  pub later : IsLater v w
  pub decided : IsNotedSince v w (decided_below p (decided_by s))
  -- what is known to be decided is so by this status too
  pub still_decided : (m : ℕ) → Has v.notes (decided_below p m) → m ≤ decided_by s
  pub undecided : IsOpen s.stage → (q k : ℕ) → Has v.notes (install_word q k 1 (raw (Exchange p s.number)))
      → Has w.notes (early q k)
  pub installs_below : (q k a : ℕ) → Has v.notes (install_word q k 1 (raw (Exchange p a))) → a ≤ s.number
  pub entries_below : (a : ℕ) (x : Change) → Has v.notes (entry p a x) → a ≤ s.number
  pub held_below : (a n : ℕ) (f : Field) → Has v.notes (held p a n f) → a ≤ s.number
  pub settles : (IsIdle s.stage → ⊥) → (place x : ℕ) → Has v.notes (word_loaded p s.number place x)
      → Has w.notes (attempt_word p s.number place x)
  pub words_below : (a place x : ℕ) → Has v.notes (attempt_word p a place x) → a ≤ s.number
  pub cleared : (a n : ℕ) (f : Field) → Has v.notes (held p a n f) → IsCleared s a → Has w.notes (clean p a n f)
  -- and it is in range: the number of changes and of visits, and the words of each change and of each visit
  pub counts : (IsIdle s.stage → ⊥) → (count : ℕ) → Has v.notes (word_loaded p s.number 1 count) → count ≤ 25 + v.size.slots
  pub visits : (IsIdle s.stage → ⊥) → (count : ℕ) → Has v.notes (word_loaded p s.number 2 count) → count ≤ v.size.slots + 1
  pub changes : (IsIdle s.stage → ⊥) → (count i place old new : ℕ) → Has v.notes (word_loaded p s.number 1 count) → i < count
      → Has v.notes (word_loaded p s.number (3 + 3 * i) place) → Has v.notes (word_loaded p s.number (4 + 3 * i) old)
      → Has v.notes (word_loaded p s.number (5 + 3 * i) new) → IsPlaceIn v.size.slots place × (old < 2 ^ 62) × (new < 2 ^ 62)
  pub visited : (IsIdle s.stage → ⊥) → (count i node found : ℕ) → Has v.notes (word_loaded p s.number 2 count) → i < count
      → Has v.notes (word_loaded p s.number (visits_begin v.size.slots + 2 * i) node)
      → Has v.notes (word_loaded p s.number (visits_begin v.size.slots + (1 + 2 * i)) found)
      → IsNode v.size.slots node × (found < 2 ^ 62)
  pub own : p ≡ v.seat → v.posted ≡ false → (s.number ≡ v.attempt.number)
      × (v.attempt.published ≡ false → IsIdle s.stage) × (v.attempt.published ≡ true → IsIdle s.stage → ⊥)

abbrev pub LoadedStatus : View → ℕ → View → Place → Type 0
LoadedStatus v r w (at_own p own_status) = IsStatus r × StatusLoaded v p (unpacked r) w
LoadedStatus v r w _ = Unit {0}

abbrev pub loads_status : Step Bool → Mine → ℕ → Mine → Type 0
loads_status st m r m' = Tells m st.word (LoadedStatus m.0 r) m'

-- ---- the exchange's reference, or the old value, in place of an install. Hit or missed, the install is gone. A word that holds
-- neither the install nor the reference shows that the exchange is decided

pub record InstallTaken (v : View) (n : ℕ) (f : Field) (old new r : ℕ) (w : View) : Type 0 where
  pub word : IsWord r
  pub later : IsLater v w
  pub gone : (q k : ℕ) → old ≡ raw (Install q k) → q < 256 → Has w.notes (removed q k)
  pub hit : r ≡ old → (x : Note) → Has (found n f (kind new)) x → IsNotedSince v w x
  pub miss : r ≢ old → (x : Note) → Has (found n f (kind r)) x → IsNotedSince v w x
  pub decided : r ≢ old → (q k p a : ℕ) → old ≡ raw (Install q k) → q < 256 → p < 256
      → Has v.notes (install_word q k 1 (raw (Exchange p a))) → r ≢ raw (Exchange p a)
      → IsNotedSince v w (decided_below p (a + 1))

abbrev pub TookInstall : View → ℕ → ℕ → ℕ → View → Place → Type 0
TookInstall v old new r w (at_cell n f) = InstallTaken v n f old new r w
TookInstall v old new r w _ = Unit {0}

abbrev pub takes_install : Step Bool → Mine → ℕ → Mine → Type 0
takes_install st m r m' = Tells m st.word (TookInstall m.0 st.first st.second r) m'

-- ---- a load of the clock, which never falls

abbrev pub ClockLoaded : View → ℕ → View → Type 0
ClockLoaded v r w = (w ≡ with_notes v (clock_at r ∷ [])) × ((c : ℕ) → Has v.notes (clock_at c) → c ≤ r)

abbrev pub LoadedClock : View → ℕ → View → Place → Type 0
LoadedClock v r w at_clock = ClockLoaded v r w
LoadedClock v r w _ = Unit {0}

abbrev pub loads_clock : Step Bool → Mine → ℕ → Mine → Type 0
loads_clock st m r m' = Tells m st.word (LoadedClock m.0 r) m'

-- ---- a store to a word of the own descriptor

abbrev pub after_write : View → ℕ → ℕ → View
after_write v place x = record v { attempt = record v.attempt { words = (place, x) ∷ v.attempt.words } }

abbrev pub Wrote : View → ℕ → View → Place → Type 0
Wrote v x w (at_own i (own_word place)) = i ≡ v.seat → w ≡ after_write v place x
Wrote v x w _ = Unit {0}

abbrev pub writes : Step Bool → Mine → ℕ → Mine → Type 0
writes st m r m' = Tells m st.word (Wrote m.0 st.first) m'

-- ---- the own next attempt is published

abbrev pub after_publish : View → View
after_publish v = record v { attempt = record v.attempt { number = v.attempt.number + 1; published = true } }

abbrev pub Published : View → View → Place → Type 0
Published v w (at_own i own_status) = i ≡ v.seat → w ≡ after_publish v
Published v w _ = Unit {0}

abbrev pub publishes : Step Bool → Mine → ℕ → Mine → Type 0
publishes st m r m' = Tells m st.word (Published m.0) m'

-- ---- a load of a word of a descriptor: of each attempt of that pass that the pass met, the word while that is the present one
-- and isn't cleared

pub record DescriptorLoaded (v : View) (p place r : ℕ) (w : View) : Type 0 where
  pub later : IsLater v w
  pub loads : (a n : ℕ) (f : Field) → Has v.notes (held p a n f) → Has w.notes (word_loaded p a place r)

abbrev pub LoadedWord : View → ℕ → View → Place → Type 0
LoadedWord v r w (at_own p (own_word place)) = DescriptorLoaded v p place r w
LoadedWord v r w _ = Unit {0}

abbrev pub loads_word : Step Bool → Mine → ℕ → Mine → Type 0
loads_word st m r m' = Tells m st.word (LoadedWord m.0 r) m'
