-- What a pass knows of another's attempt as it reads that one's descriptor.
use Rattle.std.specs.Prelude.{◌≡◌, ℕ, ◌<◌}
use Rattle.pc_model.specs.declared.cell.Field.{Field}
use Rattle.pc_words.specs.declared.status.Status.{Status}
use Rattle.pc_rule_law.specs.Past.{Has}
use Rattle.pc_rule_law.specs.Plays.{StatusLoaded}
use Rattle.pc_rule_law.specs.Stages.{IsIdle}
use Rattle.pc_rule_law.specs.Views.{View, held, clean, word_loaded, attempt_word}
use Rattle.pc_exchange_law.specs.Attempts.{came_to, loaded_word, listed_word}
use Rattle.pc_exchange_law.specs.Knowing.{StatusSeen}
use Rattle.pc_exchange_law.specs.Wholes.{Whole}
use Rattle.pc_rule.specs.declared.refs.Ref.{Ref}

-- the pass met the reference of this exchange in a word of a node
abbrev pub HasMetExchange : View → Ref → Type 0
HasMetExchange v op = (n : ℕ) × (f : Field) × Has v.notes (held op.seat op.number n f)

-- and it saw that the exchange's pass has come to that attempt
abbrev pub HasComeTo : Whole → Ref → Type 0
HasComeTo x op = HasMetExchange x.view op × Has x.knows.noted (came_to op.seat op.number)

-- this word of the exchange's descriptor was loaded then
abbrev pub HasLoaded : Whole → Ref → ℕ → ℕ → Type 0
HasLoaded x op place r = Has x.view.notes (word_loaded op.seat op.number place r)
    × Has x.knows.noted (loaded_word op.seat op.number place r)

-- and it is the exchange's, for good
abbrev pub HasRead : Whole → Ref → ℕ → ℕ → Type 0
HasRead x op place r = Has x.view.notes (attempt_word op.seat op.number place r)
    × Has x.knows.noted (listed_word op.seat op.number place r)

-- this status of the pass at seat p was loaded, at which the pass then aims
pub record HasLoadedStatus (x y : Whole) (p : ℕ) (s : Status) : Type 0 where
  pub told : StatusLoaded x.view p s y.view
  pub learnt : StatusSeen x.knows p s y.knows
  pub aim : y.aim ≡ (p, s.number)

-- the status isn't that of the exchange, or the exchange is cleared
abbrev pub IsOver : Ref → Status → Type 0
IsOver op s = s.number ≡ op.number → IsIdle s.stage

-- since then each word in which its reference had been met is noted clean of it
abbrev pub AreCleanWhereMet : View → View → Ref → Type 0
AreCleanWhereMet v w op = (n : ℕ) (f : Field) → Has v.notes (held op.seat op.number n f) → Has w.notes (clean op.seat op.number n f)

-- the exchange's pass was seen with a number above the exchange's
abbrev pub HasPassed : Whole → Ref → ℕ → Type 0
HasPassed x op number = (op.number < number) × Has x.knows.noted (came_to op.seat number)
