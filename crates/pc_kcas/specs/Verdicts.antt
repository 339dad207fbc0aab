-- What clauses say of the end of an exchange.
use Rattle.std.specs.Prelude.{◌≡◌, ◌≢◌, ◌⊎◌, ℕ, ◌+◌, ◌-◌, ◌<◌, ◌≤◌, Option, Some, None}
use Rattle.pc_model.specs.declared.cell.Counter.TheVariants.{Stamp}
use Rattle.pc_model.specs.declared.cell.Field.{Field}
use Rattle.pc_model.specs.declared.cell.Field.TheVariants.{Version}
use Rattle.pc_model.specs.declared.numbers.Numbers.{Numbers}
use Rattle.pc_model.specs.declared.shape.Shape.{Ghosts}
use Rattle.pc_model.specs.Exchanges.{Exchange}
use Rattle.pc_words.specs.declared.status.Stage.{Stage}
use Rattle.pc_words.specs.declared.status.Stage.TheVariants.{Idle, Undecided, Succeeded, Withdrawn, Changed as ChangedNode, Locked as LockedNode}
use Rattle.pc_words.specs.declared.status.Status.{Status}
use Rattle.pc_rule_law.specs.Past.{Has}
use Rattle.pc_rule_law.specs.Plays.{AddsNotes, IsNotedSince}
use Rattle.pc_rule_law.specs.Views.{View}
use Rattle.pc_protocol.specs.Histories.{Cause, withdrawn, ended, changed, locked, committed, aborted}
use Rattle.pc_protocol.specs.Notes.{Note, clock_was, outdated, published, rival, verdict}
use Rattle.pc_protocol.specs.Seeing.{Visits, Covers}
use Rattle.pc_exchange_law.specs.Attempts.{AttemptNote, KnowsWord, KnowsEntry, KnowsVisit}
use Rattle.pc_exchange_law.specs.Ties.{code, last_stamp}
use Rattle.pc_exchange_law.specs.WholePlays.{after_clear}
use Rattle.pc_exchange_law.specs.Wholes.{Whole}
use Rattle.pc_rule.specs.declared.board.Pass.{Pass}
use Rattle.pc_rule.specs.declared.refs.Ref.{Ref}
use Rattle.pc_rule.specs.Passes.{whole, view}
use Rattle.pc_dcss.specs.Installs.{met_note}
use Rattle.pc_kcas.specs.Exchanges.{own_exchange, visit_count, CoversNode}
use Rattle.pc_kcas.specs.Helping.{IsStoppedBy}
use Rattle.pc_kcas.specs.Obstacles.{GoesOn, IsNotOwn, IsStuckAt}
use Rattle.pc_kcas.specs.Stops.{AreInTheWay}
use Rattle.pc_kcas.specs.declared.answering.Stop.{Stop}
use Rattle.pc_kcas.specs.Settling.{IsSettled}
use Rattle.pc_kcas.specs.Takings.{IsAtLastInstall, HoldsBelow}
use Rattle.pc_kcas.specs.declared.verdict.Verdict.{Verdict}
use Rattle.pc_kcas.specs.declared.verdict.Verdict.TheVariants.{Won, Changed, Locked, Blocked, Numbers as OutOfNumbers}

-- the pass knows that its exchange with this number took effect at this stamp
abbrev pub KnowsWon : Whole → ℕ → ℕ → Type 0
KnowsWon y a s = Has y.knows.told (verdict (code y.view.seat a) (committed s))

-- that its exchange with this number was decided as failed, for this cause
abbrev pub KnowsFailed : Whole → ℕ → Cause → Type 0
KnowsFailed y a cause = Has y.knows.told (verdict (code y.view.seat a) (aborted cause))

-- that the version of this node is above the one that its exchange covers
abbrev pub KnowsChanged : Whole → ℕ → ℕ → Type 0
KnowsChanged y a n = Has y.knows.told (outdated (code y.view.seat a) n)

-- that another pass has an exchange with the version of this node, which its own visits, and that wasn't cleared before the clock that
-- was read before the own publication
pub record KnowsRival (y : Whole) (a n by : ℕ) : Type 0 where
  pub exchange : Exchange
  pub clock : ℕ
  pub noted : Has y.knows.told (published (code y.view.seat a) exchange clock)
  pub visit : (v : ℕ) × Visits exchange n v
  pub other : by ≢ y.view.seat
  pub rival : Has y.knows.told (rival by n clock)

-- the pass knows what its last attempt covers, and why it was decided as this status says
pub record KnowsWhy (y : Whole) (s : Status) : Type 0 where
  pub settled : IsSettled y y.view.seat y.view.attempt.number s
  pub own : (e : Exchange) × (c : ℕ) × Has y.knows.told (published (code y.view.seat y.view.attempt.number) e c) × ((n v : ℕ) → Covers e n v → CoversNode y.view n)
  pub changed : (n : ℕ) → s.stage ≡ ChangedNode n → KnowsChanged y y.view.attempt.number n
  pub locked : (n q : ℕ) → s.stage ≡ LockedNode n q → KnowsRival y y.view.attempt.number n q × (0 < visit_count y.view)
  pub ended : s.stage ≡ Withdrawn → Has y.knows.told (verdict (code y.view.seat y.view.attempt.number) (aborted ended))

-- the pass's exchange has ended: it isn't published any more, and the pass knows what it knew
pub record HasEnded (x y : Whole) : Type 0 where
  pub view : y.view ≡ record (after_clear x.view) { notes = y.view.notes }
  pub adds : AddsNotes x.view y.view
  pub noted : (n : AttemptNote) → Has x.knows.noted n → Has y.knows.noted n
  pub told : (n : Note) → Has x.knows.told n → Has y.knows.told n

-- the pass knows all that it knew
pub record KeepsAll (x y : Whole) : Type 0 where
  pub notes : AddsNotes x.view y.view
  pub noted : (n : AttemptNote) → Has x.knows.noted n → Has y.knows.noted n
  pub told : (n : Note) → Has x.knows.told n → Has y.knows.told n

-- the pass knew so in between: it went on until then, and its exchange has ended since
abbrev pub KnewBetween : Whole → Whole → (Whole → Type 0) → Type 0
KnewBetween x y X = (u : Whole) × GoesOn x u × HasEnded u y × X u

-- how the exchange has come to this word: it changes the word, and each of its words before that one was seen to hold its reference; or
-- it visits the node whose version the word is, and each of its words was
pub data HasReached (y : Whole) (op : Ref) (n : ℕ) (f : Field) : Type 0 where
  changes : (i old new : ℕ) → KnowsEntry y.knows.noted y.view.seat y.knows.own op.seat op.number i n f old new → HoldsBelow y op i → HasReached y op n f
  visits : (i v count : ℕ) → f ≡ Version → KnowsVisit y.view.size.slots y.knows.noted y.view.seat y.knows.own op.seat op.number i n v
      → KnowsWord y.knows.noted y.view.seat y.knows.own op.seat op.number 1 count → HoldsBelow y op count → HasReached y op n f

-- This reference stood since in a word of the own exchange, whose words before that one were each seen to hold its own reference. Then
-- there stood another one of the first one's kind; or the help of the first one's exchange was stopped by it. Neither is that of an
-- install of the pass, nor, in that word, of the own exchange.
pub record IsBlocked (links : ℕ) (v : View) (y : Whole) (own first second : Ref) : Type 0 where
  pub node : ℕ
  pub field : Field
  pub reached : HasReached y own node field
  pub stood : IsNotedSince v y.view (met_note first.kind first.seat first.number node field)
  pub not_its_own : first ≢ own
  pub not_own : IsNotOwn y.view first × IsNotOwn y.view second
  pub different : second ≢ first
  pub then : ((second.kind ≡ first.kind) × IsNotedSince v y.view (met_note second.kind second.seat second.number node field) × (second ≢ own))
      ⊎ IsStoppedBy links v y first second

-- two references stood in the version of a node that the exchange visits, each of whose words held its reference; as the pass knew before
-- that ended
abbrev pub HasMetVisited : Whole → Whole → Ref → Ref → Ref → Type 0
HasMetVisited x y op first second = KnewBetween x y (λ u. (n : ℕ) × IsStuckAt x u op n Version first second × HasReached u op n Version)

-- these references stopped the words of the exchange, or stood in the version of a node that it visits
abbrev pub WereBlockedBy : Option Stop → Whole → Whole → Ref → Ref → Ref → Type 0
WereBlockedBy None x y op first second = HasMetVisited x y op first second
WereBlockedBy (Some stop) x y op first second = AreInTheWay stop.obstacle first second

module _ {H : Type 0} {S : Ghosts H} where
  -- two references stood in the way of the pass's exchange, as it knew before that ended
  abbrev pub WasBlocked : ℕ → Pass H S → Pass H S → Ref → Ref → Type 0
  WasBlocked links old new first second = KnewBetween (whole old) (whole new) (λ u. IsBlocked links (view old) u (own_exchange old) first second)

-- a counter stands at its last value: that of the own installs, or the clock, which was read or drawn
abbrev pub IsAtLast : Whole → Numbers → Type 0
IsAtLast y n = IsAtLastInstall y.view n ⊎ ((n.counter ≡ Stamp) × Has y.knows.told (clock_was n.at) × (last_stamp ≤ n.at))

-- how an exchange ended that was decided so, where the clock is this by then; no attempt that is decided is idle or undecided
abbrev pub answer_by : Stage → ℕ → Verdict
answer_by Idle c = OutOfNumbers (record { counter = Stamp; at = c })
answer_by Undecided c = OutOfNumbers (record { counter = Stamp; at = c })
answer_by (Succeeded s) c = Won s
answer_by Withdrawn c = OutOfNumbers (record { counter = Stamp; at = c })
answer_by (ChangedNode n) c = Changed n
answer_by (LockedNode n q) c = Locked n (q + 1)

-- the pass knows that its exchange with this number failed as the answer says, where that isn't that it took effect: where the answer
-- is that references stood in the way the pass withdrew it, and where it is that a counter stands at its last value the pass did, or
-- another since the clock has come to its end
abbrev pub KnowsLost : Whole → ℕ → Verdict → Type 0
KnowsLost y a (Won s) = Unit {0}
KnowsLost y a (Changed n) = KnowsFailed y a (changed n)
KnowsLost y a (Locked n by) = KnowsFailed y a (locked n (by - 1))
KnowsLost y a (Blocked first second) = KnowsFailed y a withdrawn
KnowsLost y a (OutOfNumbers n) = KnowsFailed y a withdrawn ⊎ KnowsFailed y a ended

-- the pass knows that its exchange with this number ended so; where two references stood in the way, X holds of them
abbrev pub EndedSo : Whole → ℕ → Verdict → (Ref → Ref → Type 0) → Type 0
EndedSo y a (Won s) X = KnowsWon y a s
EndedSo y a (Changed n) X = KnowsLost y a (Changed n) × KnowsChanged y a n × CoversNode y.view n
EndedSo y a (Locked n by) X = KnowsLost y a (Locked n by) × (1 ≤ by) × KnowsRival y a n (by - 1) × (0 < visit_count y.view)
EndedSo y a (Blocked first second) X = KnowsLost y a (Blocked first second) × X first second
EndedSo y a (OutOfNumbers n) X = KnowsLost y a (OutOfNumbers n) × IsAtLast y n

-- it may answer so where it withdraws its exchange: two references stood in the way, or the install number stands at its last value
abbrev pub IsReason : Whole → Verdict → Type 0
IsReason y (Won s) = ⊥
IsReason y (Changed n) = ⊥
IsReason y (Locked n by) = ⊥
IsReason y (Blocked first second) = Unit {0}
IsReason y (OutOfNumbers n) = IsAtLastInstall y.view n

-- the answer is that two references stood in the way, of which X holds
abbrev pub IsBlockedSo : Verdict → (Ref → Ref → Type 0) → Type 0
IsBlockedSo (Won s) X = ⊥
IsBlockedSo (Changed n) X = ⊥
IsBlockedSo (Locked n by) X = ⊥
IsBlockedSo (Blocked first second) X = X first second
IsBlockedSo (OutOfNumbers n) X = ⊥

-- X holds where this is the answer
abbrev pub IfWon : Verdict → (ℕ → Type 0) → Type 0
IfWon (Won s) X = X s
IfWon (Changed n) X = Unit {0}
IfWon (Locked n by) X = Unit {0}
IfWon (Blocked first second) X = Unit {0}
IfWon (OutOfNumbers n) X = Unit {0}

abbrev pub IfChanged : Verdict → (ℕ → Type 0) → Type 0
IfChanged (Won s) X = Unit {0}
IfChanged (Changed n) X = X n
IfChanged (Locked n by) X = Unit {0}
IfChanged (Blocked first second) X = Unit {0}
IfChanged (OutOfNumbers n) X = Unit {0}

abbrev pub IfLocked : Verdict → (ℕ → ℕ → Type 0) → Type 0
IfLocked (Won s) X = Unit {0}
IfLocked (Changed n) X = Unit {0}
IfLocked (Locked n by) X = X n by
IfLocked (Blocked first second) X = Unit {0}
IfLocked (OutOfNumbers n) X = Unit {0}

abbrev pub IfBlocked : Verdict → (Ref → Ref → Type 0) → Type 0
IfBlocked (Won s) X = Unit {0}
IfBlocked (Changed n) X = Unit {0}
IfBlocked (Locked n by) X = Unit {0}
IfBlocked (Blocked first second) X = X first second
IfBlocked (OutOfNumbers n) X = Unit {0}

abbrev pub IfNumbers : Verdict → (Numbers → Type 0) → Type 0
IfNumbers (Won s) X = Unit {0}
IfNumbers (Changed n) X = Unit {0}
IfNumbers (Locked n by) X = Unit {0}
IfNumbers (Blocked first second) X = Unit {0}
IfNumbers (OutOfNumbers n) X = X n
