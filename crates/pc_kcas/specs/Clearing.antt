-- What clauses say of the clearing of an exchange by its own pass.
use Rattle.std.specs.Prelude.{◌≡◌, ℕ, Bool, true, false}
use mathlib.Core.Option.{some}
use lib.ListN.{get_elem?}
use Rattle.pc_model.specs.declared.shape.Shape.{Ghosts}
use Rattle.pc_words.specs.declared.status.Stage.{Stage as StatusStage}
use Rattle.pc_words.specs.declared.status.Stage.TheVariants.{Idle, Undecided, Succeeded, Withdrawn, Changed, Locked}
use Rattle.pc_rule_law.specs.Past.{Has}
use Rattle.pc_rule_law.specs.Views.{clean, held}
use Rattle.pc_protocol.specs.Histories.{Stage}
use Rattle.pc_protocol.specs.Notes.{verdict}
use Rattle.pc_exchange_law.specs.Attempts.{KnowsEntry}
use Rattle.pc_exchange_law.specs.Knowing.{after_clearing}
use Rattle.pc_exchange_law.specs.Ties.{code}
use Rattle.pc_exchange_law.specs.WholePlays.{after_clear}
use Rattle.pc_exchange_law.specs.Wholes.{Whole}
use Rattle.pc_rule.specs.Deciding.{took_effect}
use Rattle.pc_rule.specs.declared.board.Pass.{Pass}
use Rattle.pc_rule.specs.declared.opening.Place.{Place}
use Rattle.pc_rule.specs.declared.refs.Ref.{Ref}
use Rattle.pc_rule.specs.Passes.{view, listed}
use Rattle.pc_kcas.specs.Settling.{HasLearntOrWithdrawn}

-- whether the attempt of a status with this stage took effect
abbrev pub says_success : StatusStage → Bool
says_success Idle = false
says_success Undecided = false
says_success (Succeeded s) = true
says_success Withdrawn = false
says_success (Changed n) = false
says_success (Locked n q) = false

-- the pass knows how attempt a of pass p was decided, and whether it took effect
abbrev pub KnowsOutcomeOf : Whole → ℕ → ℕ → Bool → Type 0
KnowsOutcomeOf x p a won = (st : Stage) × Has x.knows.told (verdict (code p a) st) × (won ≡ took_effect st)

-- the same of its own last attempt
abbrev pub KnowsOutcome : Whole → Bool → Type 0
KnowsOutcome x won = KnowsOutcomeOf x x.view.seat x.view.attempt.number won

-- the change of this word is known to be one of the exchange
abbrev pub KnowsEntryOf : Whole → Ref → Place → Type 0
KnowsEntryOf x op place = (i : ℕ) × KnowsEntry x.knows.noted x.view.seat x.knows.own op.seat op.number i place.node place.field place.old place.new

-- the pass has learnt, or withdrew its attempt too, and that is cleared
abbrev pub HasCleared : Whole → Whole → Type 0
HasCleared x y = (between : Whole) × HasLearntOrWithdrawn x between × (st : Stage)
    × Has between.knows.told (verdict (code between.view.seat between.knows.own.number) st)
    × (y ≡ record between { view = after_clear between.view; knows = after_clearing between.knows st })

module _ {H : Type 0} {S : Ghosts H} where
  -- each word that the pass lists was seen to hold the reference of its last attempt
  abbrev pub HoldsListed : Pass H S → Type 0
  HoldsListed p = (i : ℕ) (x : Place) → get_elem? (listed p) i ≡ some x → Has (view p).notes (held (view p).seat (view p).attempt.number x.node x.field)

  -- the word at this index of the list is clean of the pass's last attempt
  abbrev pub IsCleanAt : Pass H S → ℕ → Type 0
  IsCleanAt p i = (x : Place) → get_elem? (listed p) i ≡ some x → Has (view p).notes (clean (view p).seat (view p).attempt.number x.node x.field)

  -- each word that the pass had listed is noted clean of the attempt that it had published
  abbrev pub LeavesClean : Pass H S → Pass H S → Type 0
  LeavesClean old new = (i : ℕ) (x : Place) → get_elem? (listed old) i ≡ some x → Has (view new).notes (clean (view old).seat (view old).attempt.number x.node x.field)
