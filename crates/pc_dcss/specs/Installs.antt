-- What clauses say of installs, by what a pass has noted.
use Rattle.std.specs.Prelude.{◌≡◌, ◌≢◌, ◌⊎◌, ℕ, ◌-◌, ◌^◌, ◌<◌, ◌≤◌, true, ◌∷◌, ◌++◌}
use Rattle.pc_model.specs.declared.cell.Field.{Field}
use Rattle.pc_model.specs.declared.numbers.Numbers.{Numbers}
use Rattle.pc_model.specs.Cells.{IsNode}
use Rattle.pc_words.specs.declared.word.WordKind.{WordKind}
use Rattle.pc_words.specs.declared.word.WordKind.TheVariants.{Plain, Install, Exchange}
use Rattle.pc_words.specs.Words.{raw}
use Rattle.pc_rule_law.specs.Board.{Size, place_number}
use Rattle.pc_rule_law.specs.Past.{Has, change}
use Rattle.pc_rule_law.specs.Plays.{found, IsNotedSince}
use Rattle.pc_rule_law.specs.Views.{Note, View, entry, placed, install_word, decided_below, held, removed, clean, IsInstall, IsAttempt, NoteInRange}
use Rattle.pc_rule_law.specs.Conditions.{KnowsChange}
use Rattle.pc_protocol.specs.Notes.{outdated}
use Rattle.pc_exchange_law.specs.Attempts.{came_to}
use Rattle.pc_exchange_law.specs.ExchangeConditions.{KnowsCleared}
use Rattle.pc_exchange_law.specs.Passes.{PassKnows}
use Rattle.pc_exchange_law.specs.Ties.{code}
use Rattle.pc_exchange_law.specs.Wholes.{Whole}
use Rattle.pc_model.specs.declared.cell.Counter.TheVariants.{Install as Installs}
use Rattle.pc_rule.specs.declared.opening.Place.{Place}
use Rattle.pc_rule.specs.declared.refs.RefKind.{RefKind}
use Rattle.pc_rule.specs.declared.refs.RefKind.TheVariants.{Install as AnInstall, Exchange as AnExchange}
use Rattle.pc_rule.specs.declared.refs.Ref.{Ref}
use Rattle.pc_dcss.specs.declared.installed.Installed.{Installed}
use Rattle.pc_dcss.specs.declared.installed.Installed.TheVariants.{Held, Decided, Differs, Met, Numbers as OutOfNumbers}

-- the pass met install k of pass q in a word
abbrev pub HasMet : View → ℕ → ℕ → Type 0
HasMet v q k = (n : ℕ) × (f : Field) × Has v.notes (placed q k n f)

-- attempt a of pass p is known to be decided
abbrev pub IsDecided : View → ℕ → ℕ → Type 0
IsDecided v p a = (m : ℕ) × Has v.notes (decided_below p m) × (a < m)

-- and by a note that was made since
abbrev pub IsDecidedSince : View → View → ℕ → ℕ → Type 0
IsDecidedSince v w p a = (m : ℕ) × IsNotedSince v w (decided_below p m) × (a < m)

-- install k of pass q is known to be for attempt a of pass p, in this word, in place of the value x
pub record KnowsWords (z : Size) (v : View) (q k p a n : ℕ) (f : Field) (x : ℕ) : Type 0 where
  pub install : IsInstall z q k
  pub attempt : IsAttempt z p a
  pub node : IsNode z.slots n
  pub small : x < 2 ^ 62
  pub op : Has v.notes (install_word q k 1 (raw (Exchange p a)))
  pub place : Has v.notes (install_word q k 2 (place_number n f))
  pub old : Has v.notes (install_word q k 3 x)

-- the words of the descriptor of install k of pass q, as numbers
abbrev pub KnowsNumbers : View → ℕ → ℕ → ℕ → ℕ → ℕ → Type 0
KnowsNumbers v q k op place old = Has v.notes (install_word q k 1 op) × Has v.notes (install_word q k 2 place)
    × Has v.notes (install_word q k 3 old)

-- the last number of an install
abbrev pub last_install : ℕ
last_install = 2 ^ 54 - 1

-- the exchange is known to change this word from the old value: it is noted so, or its numbers are in range and the words of
-- its descriptor that say so are known
abbrev pub entry_of : Ref → Place → Note
entry_of op place = entry op.seat op.number (change place.node place.field place.old place.new)

abbrev pub KnowsPlace : View → Ref → Place → Type 0
KnowsPlace v op place = Has v.notes (entry_of op place)
    ⊎ (NoteInRange v.size (entry_of op place) × (i : ℕ) × KnowsChange v op.seat op.number i place.node place.field place.old place.new)

-- the word of a reference, and what is noted of a word that holds it
abbrev pub word_of : RefKind → ℕ → ℕ → WordKind
word_of AnInstall seat number = Install seat number
word_of AnExchange seat number = Exchange seat number

abbrev pub met_note : RefKind → ℕ → ℕ → ℕ → Field → Note
met_note AnInstall seat number n f = placed seat number n f
met_note AnExchange seat number n f = held seat number n f

-- neither the reference of op nor that of an install of the pass at this seat
abbrev pub IsOther : RefKind → ℕ → ℕ → ℕ → Ref → Type 0
IsOther AnInstall seat number own op = seat ≢ own
IsOther AnExchange seat number own op = seat ≡ op.seat → number ≢ op.number

-- the pass has met this reference in the word since it knew what it knew first, and it is another's
abbrev pub IsMet : View → View → Ref → Place → Ref → Type 0
IsMet v w op place r = (w.notes ≡ met_note r.kind r.seat r.number place.node place.field ∷ v.notes)
    × IsOther r.kind r.seat r.number w.seat op

-- it isn't one that the pass knew to be gone: an install that was taken away; or an exchange's of which the word is clean, or
-- which is gone from all words
abbrev pub IsGone : RefKind → Whole → ℕ → ℕ → ℕ → Field → Type 0
IsGone AnInstall x seat number n f = Has x.view.notes (removed seat number)
IsGone AnExchange x seat number n f = Has x.view.notes (clean seat number n f) ⊎ KnowsCleared x seat number

abbrev pub IsNews : Whole → Place → Ref → Type 0
IsNews x place r = IsGone r.kind x r.seat r.number place.node place.field → ⊥

-- the pass of an exchange that was met is known to have come to it
abbrev pub HasCome : PassKnows → Ref → Type 0
HasCome k r = r.kind ≡ AnExchange → Has k.noted (came_to r.seat r.number)

-- the word had this plain value, which isn't the old one: what is noted of a plain value was noted
abbrev pub IsDifferent : View → View → Place → ℕ → Type 0
IsDifferent v w place x = (x ≢ place.old) × (w.notes ≡ found place.node place.field (Plain x) ++ v.notes)

-- and the exchange is outdated at the word's node
abbrev pub KnowsOutdated : PassKnows → Ref → Place → Type 0
KnowsOutdated k op place = Has k.told (outdated (code op.seat op.number) place.node)

-- the answer is that there is no number
abbrev pub IsOutOfNumbers : Installed → Type 0
IsOutOfNumbers Held = ⊥
IsOutOfNumbers Decided = ⊥
IsOutOfNumbers (Differs x) = ⊥
IsOutOfNumbers (Met r) = ⊥
IsOutOfNumbers (OutOfNumbers n) = Unit {0}

-- the install number stands at its last value, and the pass knows what it knew
abbrev pub HasNoNumber : View → View → Numbers → Type 0
HasNoNumber v w n = (n.counter ≡ Installs) × (n.at ≡ v.install.number) × (last_install ≤ n.at) × (w ≡ v)

-- the pass knows what it knew, and maybe more
abbrev pub KeepsNotes : View → View → Type 0
KeepsNotes v w = (x : Note) → Has v.notes x → Has w.notes x

-- its attempt is as it was
abbrev pub KeepsAttempt : View → View → Type 0
KeepsAttempt v w = (w.attempt ≡ v.attempt) × (w.posted ≡ v.posted)

-- the view with these words in the own install descriptor, and a fresh number
abbrev pub described : View → ℕ → ℕ → ℕ → ℕ → View
described v number op place old = record v { install = record { number = number; op = op; place = place; old = old }; fresh = true }

-- the own install descriptor is ready: its number is fresh, and it is for op and this place
pub record IsReady (v : View) (own op : Ref) (place : Place) : Type 0 where
  pub kind : own.kind ≡ AnInstall
  pub seat : own.seat ≡ v.seat
  pub number : own.number ≡ v.install.number
  pub small : own.number < 2 ^ 54
  pub fresh : v.fresh ≡ true
  pub op_word : v.install.op ≡ raw (Exchange op.seat op.number)
  pub place_word : v.install.place ≡ place_number place.node place.field
  pub old_word : v.install.old ≡ place.old
  pub listed : KnowsPlace v op place

-- own is the reference of the pass's last install. It stood in this word, for op
pub record IsPlaced (z : Size) (w : View) (own op : Ref) (place : Place) : Type 0 where
  pub kind : own.kind ≡ AnInstall
  pub seat : own.seat ≡ w.seat
  pub number : own.number ≡ w.install.number
  pub met : Has w.notes (placed own.seat own.number place.node place.field)
  pub words : KnowsWords z w own.seat own.number op.seat op.number place.node place.field place.old

-- X holds where this is the answer
abbrev pub OnHeld : Installed → Type 0 → Type 0
OnHeld Held X = X
OnHeld Decided X = Unit {0}
OnHeld (Differs x) X = Unit {0}
OnHeld (Met r) X = Unit {0}
OnHeld (OutOfNumbers n) X = Unit {0}

abbrev pub OnDecided : Installed → Type 0 → Type 0
OnDecided Held X = Unit {0}
OnDecided Decided X = X
OnDecided (Differs x) X = Unit {0}
OnDecided (Met r) X = Unit {0}
OnDecided (OutOfNumbers n) X = Unit {0}

abbrev pub IfDiffers : Installed → (ℕ → Type 0) → Type 0
IfDiffers Held X = Unit {0}
IfDiffers Decided X = Unit {0}
IfDiffers (Differs x) X = X x
IfDiffers (Met r) X = Unit {0}
IfDiffers (OutOfNumbers n) X = Unit {0}

abbrev pub IfMet : Installed → (Ref → Type 0) → Type 0
IfMet Held X = Unit {0}
IfMet Decided X = Unit {0}
IfMet (Differs x) X = Unit {0}
IfMet (Met r) X = X r
IfMet (OutOfNumbers n) X = Unit {0}

abbrev pub IfNumbers : Installed → (Numbers → Type 0) → Type 0
IfNumbers Held X = Unit {0}
IfNumbers Decided X = Unit {0}
IfNumbers (Differs x) X = Unit {0}
IfNumbers (Met r) X = Unit {0}
IfNumbers (OutOfNumbers n) X = X n

-- an install that was placed has come to its end: one of these two answers
abbrev pub IsEnd : Installed → Type 0
IsEnd Held = Unit {0}
IsEnd Decided = Unit {0}
IsEnd (Differs x) = ⊥
IsEnd (Met r) = ⊥
IsEnd (OutOfNumbers n) = ⊥
