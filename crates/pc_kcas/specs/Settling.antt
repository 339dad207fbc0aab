-- What clauses say of the decision of an exchange, by its own pass or by another.
use Rattle.std.specs.Prelude.{◌≡◌, ◌⊎◌, ℕ, ◌<◌, ◌≤◌, ◌^◌, true, false}
use Rattle.pc_model.specs.declared.cell.Field.{Field}
use Rattle.pc_model.specs.Exchanges.{Exchange}
use Rattle.pc_words.specs.declared.status.Stage.{Stage as StatusStage}
use Rattle.pc_words.specs.declared.status.Stage.TheVariants.{Idle, Undecided, Succeeded, Withdrawn, Changed as ChangedNode, Locked}
use Rattle.pc_words.specs.declared.status.Status.{Status}
use Rattle.pc_rule_law.specs.Past.{Has}
use Rattle.pc_rule_law.specs.Stages.{IsIdle, IsOpen}
use Rattle.pc_rule_law.specs.Views.{View, held}
use Rattle.pc_rule_law.specs.Plays.{IsLater}
use Rattle.pc_protocol.specs.Histories.{Stage, aborted, ended}
use Rattle.pc_protocol.specs.Notes.{Note, clock_was, published, verdict, rival, outdated}
use Rattle.pc_exchange_law.specs.Ties.{code, last_stamp, IsStageOf}
use Rattle.pc_exchange_law.specs.Attempts.{AttemptNote, KnowsWord, KnowsPlaces}
use Rattle.pc_exchange_law.specs.ExchangeConditions.{MaySucceed}
use Rattle.pc_exchange_law.specs.Knowing.{LockSeen}
use Rattle.pc_exchange_law.specs.Passes.{PassKnows}
use Rattle.pc_exchange_law.specs.Wholes.{Whole}
use Rattle.pc_kcas.specs.declared.drawn.Drawn.{Drawn}
use Rattle.pc_kcas.specs.declared.drawn.Drawn.TheVariants.{Stamp, Refused, Past}

-- the pass has learnt: it has all its notes still, and its attempt is as it was
pub record HasLearnt (x y : Whole) : Type 0 where
  pub view : IsLater x.view y.view
  pub noted : (n : AttemptNote) → Has x.knows.noted n → Has y.knows.noted n
  pub told : (n : Note) → Has x.knows.told n → Has y.knows.told n
  pub own : y.knows.own ≡ x.knows.own

-- the same, but for that it may have withdrawn its attempt
pub record HasLearntOrWithdrawn (x y : Whole) : Type 0 where
  pub view : IsLater x.view y.view
  pub noted : (n : AttemptNote) → Has x.knows.noted n → Has y.knows.noted n
  pub told : (n : Note) → Has x.knows.told n → Has y.knows.told n
  pub own : y.knows.own ≡ record x.knows.own { withdrew = y.knows.own.withdrew }

-- the pass has met the reference to attempt a of pass p in a word, or the attempt is its own last one
abbrev pub KnowsOf : View → ℕ → ℕ → Type 0
KnowsOf v p a = ((n : ℕ) × (f : Field) × Has v.notes (held p a n f)) ⊎ ((p ≡ v.seat) × (v.posted ≡ false) × (a ≡ v.attempt.number))

-- the own last attempt is published
abbrev pub OwnsPublished : View → Type 0
OwnsPublished v = (v.attempt.published ≡ true) × (v.posted ≡ false) × (v.attempt.number < 2 ^ 28)

-- how the attempt of this status was decided is known
abbrev pub KnowsVerdict : PassKnows → ℕ → Status → Type 0
KnowsVerdict k p s = (st : Stage) × IsStageOf s.stage st × Has k.told (verdict (code p s.number) st)

-- The pass has found this status of pass p, whose attempt a it knows of: the status has come to that attempt; where it says that
-- one is decided, it is known how; and if a is the pass's own published attempt, the status is of it, and isn't idle.
pub record StandsAt (y : Whole) (p a : ℕ) (s : Status) : Type 0 where
  pub reached : a ≤ s.number
  pub decided : (IsIdle s.stage → ⊥) → (IsOpen s.stage → ⊥) → KnowsVerdict y.knows p s
  pub own : p ≡ y.view.seat → a ≡ y.view.attempt.number → OwnsPublished y.view → (s.number ≡ a) × (IsIdle s.stage → ⊥)

-- and it doesn't say that a is undecided
pub record IsSettled (y : Whole) (p a : ℕ) (s : Status) : Type 0 where
  pub stands : StandsAt y p a s
  pub over : s.number ≡ a → IsOpen s.stage → ⊥

-- What a status tells of the failure of the attempt of pass p: that it is outdated at the node that changed; of the rival for a node that
-- the attempt visits, by the clock before the attempt's publication, where that was noted; and of the own attempt, where the pass didn't withdraw it of its
-- own accord, that the clock has come to its end.
pub record TellsFailure (x y : Whole) (p : ℕ) (s : Status) : Type 0 where
  pub changed : (n : ℕ) → s.stage ≡ ChangedNode n → Has y.knows.told (outdated (code p s.number) n)
  pub locked : (n q : ℕ) → s.stage ≡ Locked n q → LockSeen x.knows p s.number n q y.knows
  pub ended : s.stage ≡ Withdrawn → p ≡ x.view.seat → s.number ≡ x.knows.own.number → x.knows.own.withdrew ≡ false
      → Has y.knows.told (verdict (code p s.number) (aborted ended))

-- the attempt was met, and the word of each of its entries is known and was seen to hold the reference
pub record HoldsEach (x : Whole) (p a : ℕ) : Type 0 where
  pub met : (n : ℕ) × (f : Field) × Has x.view.notes (held p a n f)
  pub places : KnowsPlaces x.knows.noted x.view.seat x.knows.own p a
  pub each : (i : ℕ) (below : i < places.count) → Has x.view.notes (held p a (places.each i below).0 (places.each i below).1)

-- the attempt is known to visit nothing
abbrev pub KnowsNoVisits : Whole → ℕ → ℕ → Type 0
KnowsNoVisits x p a = KnowsWord x.knows.noted x.view.seat x.knows.own p a 2 0

-- an attempt may be decided so: at a stamp that was drawn for it; since it is outdated at a node; or
-- as withdrawn, since the clock has come to its last stamp
abbrev pub MaySettle : Whole → ℕ → ℕ → StatusStage → Type 0
MaySettle x p a Idle = ⊥
MaySettle x p a Undecided = ⊥
MaySettle x p a (Succeeded s) = MaySucceed x.view x.knows p a s
MaySettle x p a Withdrawn = (c : ℕ) × Has x.knows.told (clock_was c) × (last_stamp ≤ c)
MaySettle x p a (ChangedNode n) = Has x.knows.told (outdated (code p a) n)
MaySettle x p a (Locked n q) = ⊥

-- X holds of the stamp, the clock or the status, where this is what came of a draw
abbrev pub IfStamp : Drawn → (ℕ → Type 0) → Type 0
IfStamp (Stamp s) X = X s
IfStamp (Refused c) X = Unit {0}
IfStamp (Past s) X = Unit {0}

abbrev pub IfRefused : Drawn → (ℕ → Type 0) → Type 0
IfRefused (Stamp s) X = Unit {0}
IfRefused (Refused c) X = X c
IfRefused (Past s) X = Unit {0}

abbrev pub IfPast : Drawn → (Status → Type 0) → Type 0
IfPast (Stamp s) X = Unit {0}
IfPast (Refused c) X = Unit {0}
IfPast (Past s) X = X s
