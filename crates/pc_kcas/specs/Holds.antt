-- What is answered of one word of an exchange, by what came of its installs and of the help of the exchange that was met.
use Rattle.std.specs.Prelude.{ℕ, Option, Some, None}
use Rattle.pc_rule.specs.declared.refs.Ref.{Ref}
use Rattle.pc_dcss.specs.declared.installed.Installed.{Installed}
use Rattle.pc_dcss.specs.declared.installed.Installed.TheVariants.{Held, Decided as IsOver, Differs, Met, Numbers as NoNumbers}
use Rattle.pc_kcas.specs.declared.helped.Progress.{Progress}
use Rattle.pc_kcas.specs.declared.helped.Progress.TheVariants.{Decided as IsDone, Gone as IsPast, Stuck as IsStuckSo, Numbers as HasNoNumbers}
use Rattle.pc_kcas.specs.declared.collecting.Halt.{Halt}
use Rattle.pc_kcas.specs.declared.collecting.Halt.TheVariants.{At}
use Rattle.pc_kcas.specs.declared.obstacle.Stuck.TheVariants.{Two}
use Rattle.pc_kcas.specs.declared.obstacle.Obstacle.{Obstacle}
use Rattle.pc_kcas.specs.declared.obstacle.Obstacle.TheVariants.{Decided, Changed, Stuck as IsStuckThere, Beyond, Numbers as OutOfNumbers}

-- why the word doesn't hold the reference after this answer; first stood there before, where another reference is met
abbrev pub obstacle_by : Installed → Ref → Option Obstacle
obstacle_by Held first = None
obstacle_by IsOver first = Some Decided
obstacle_by (Differs x) first = Some Changed
obstacle_by (Met r) first = Some (IsStuckThere (Two first r))
obstacle_by (NoNumbers n) first = Some (OutOfNumbers n)

-- and why the word can't be tried again when the exchange that was met there was helped so far
abbrev pub hindrance_of : Ref → Progress → Option Obstacle
hindrance_of met IsDone = None
hindrance_of met IsPast = None
hindrance_of met (IsStuckSo how) = Some (Beyond met how)
hindrance_of met (HasNoNumbers n) = Some (OutOfNumbers n)

-- what stops the words of an exchange at a word of this node
abbrev pub halt_at : ℕ → Option Obstacle → Option Halt
halt_at n (Some obstacle) = Some (At n obstacle)
halt_at n None = None
