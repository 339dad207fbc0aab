-- What a call tried, and how often.
use Rattle.std.specs.Prelude.{◌≡◌, ℕ, ◌+◌, List}
use Rattle.std.specs.List.Sorted.{IsPermutation}
use Rattle.pc_rule_law.specs.Views.{View}
use Rattle.pc_exchange_law.specs.Paths.{Path}
use Rattle.pc_exchange_law.specs.Wholes.{Whole}
use Rattle.pc_rule.specs.declared.opening.Place.{Place}
use Rattle.pc_kcas.specs.declared.mode.Mode.{Mode}
use Rattle.pc_kcas.specs.Exchanges.{KnowsExchange, exchange_by}
use Rattle.pc_kcas.specs.Locks.{words_by}
use Rattle.pc_path.specs.declared.lost.Lost.{Lost}
use Rattle.pc_path.specs.declared.lost.Lost.TheVariants.{Changed, Locked, Blocked, Numbers as OutOfNumbers}

-- The pass has published one exchange since, and has noted that it changes these words, in some order, with the locks of the path where
-- its mode asks for them, and takes by its mode what was visited and read.
pub record HasTried (mode : Mode) (p : Path) (places : List Place) (v : View) (y : Whole) : Type 0 where
  pub one : y.view.attempt.number ≡ v.attempt.number + 1
  pub ordered : List Place
  pub each : IsPermutation (words_by mode p places) ordered
  pub noted : KnowsExchange y (exchange_by mode p ordered)

-- X holds where the operation was lost for another reason than that a counter stands at its last value
abbrev pub IfTried : Lost → Type 0 → Type 0
IfTried (Changed n seen) X = X
IfTried (Locked n by) X = X
IfTried (Blocked first second) X = X
IfTried (OutOfNumbers k) X = Unit {0}
