-- What stops the words of a pass's own exchange, and which two references it answers then.
use Rattle.std.specs.Prelude.{◌≡◌, ◌≢◌, ◌⊎◌, ℕ, ◌+◌, ◌-◌}
use mathlib.Core.Option.{some}
use lib.ListN.{get_elem?}
use Rattle.pc_model.specs.declared.cell.Field.{Field}
use Rattle.pc_model.specs.declared.shape.Shape.{Ghosts}
use Rattle.pc_exchange_law.specs.Ties.{code}
use Rattle.pc_exchange_law.specs.Wholes.{Whole}
use Rattle.pc_protocol.specs.Notes.{outdated}
use Rattle.pc_rule_law.specs.Past.{Has}
use Rattle.pc_rule_law.specs.Plays.{AddsNotes}
use Rattle.pc_rule_law.specs.Views.{View}
use Rattle.pc_rule.specs.declared.board.Pass.{Pass}
use Rattle.pc_rule.specs.declared.opening.Place.{Place}
use Rattle.pc_rule.specs.declared.refs.Ref.{Ref}
use Rattle.pc_rule.specs.Passes.{whole, view, listed}
use Rattle.pc_dcss.specs.Installs.{IsDecided}
use Rattle.pc_kcas.specs.declared.answering.Stop.{Stop}
use Rattle.pc_kcas.specs.declared.obstacle.Obstacle.{Obstacle}
use Rattle.pc_kcas.specs.declared.obstacle.Obstacle.TheVariants.{Decided, Changed, Stuck as IsStuckThere, Beyond, Numbers as OutOfNumbers}
use Rattle.pc_kcas.specs.declared.obstacle.Stuck.{Stuck}
use Rattle.pc_kcas.specs.declared.obstacle.Stuck.TheVariants.{Two, NoLink}
use Rattle.pc_kcas.specs.Exchanges.{own_exchange}
use Rattle.pc_kcas.specs.Obstacles.{HasFollowed, IsObstacle}
use Rattle.pc_kcas.specs.Takings.{IsAtLastInstall}

-- the exchange met two different references
abbrev pub IsTwo : Stuck → Type 0
IsTwo (Two first second) = Unit {0}
IsTwo (NoLink met) = ⊥

-- what the pass knows of its exchange where this obstacle stopped one of its words, which is of this node
abbrev pub KnowsStop : Whole → ℕ → Obstacle → Type 0
KnowsStop y n Decided = IsDecided y.view y.view.seat y.view.attempt.number
KnowsStop y n Changed = Has y.knows.told (outdated (code y.view.seat y.view.attempt.number) n)
KnowsStop y n (IsStuckThere stuck) = IsTwo stuck
KnowsStop y n (Beyond met stuck) = Unit {0}
KnowsStop y n (OutOfNumbers k) = IsAtLastInstall y.view k

-- The pass has met this obstacle since in a word of an exchange, as it took that word, with one link more to follow than there are
-- passes.
pub record HasMetObstacle (seats : ℕ) (v : View) (y : Whole) (op : Ref) (n : ℕ) (f : Field) (o : Obstacle) : Type 0 where
  pub start : Whole
  pub adds : AddsNotes v start.view
  pub left : ℕ
  pub followed : HasFollowed ((seats + 1) - left) start.view y
  pub obstacle : IsObstacle start y op n f (seats + 1) left o

-- the help of this exchange, which is stuck so, was stopped by this reference: of two by the one that isn't the exchange's own
abbrev pub IsStopOf : Ref → Stuck → Ref → Type 0
IsStopOf op (Two first second) by = ((by ≡ first) × (first ≢ op)) ⊎ ((by ≡ second) × (first ≡ op))
IsStopOf op (NoLink met) by = by ≡ met

-- these two references are the obstacle
abbrev pub AreInTheWay : Obstacle → Ref → Ref → Type 0
AreInTheWay Decided first second = ⊥
AreInTheWay Changed first second = ⊥
AreInTheWay (IsStuckThere (Two one two)) first second = (first ≡ one) × (second ≡ two)
AreInTheWay (IsStuckThere (NoLink met)) first second = ⊥
AreInTheWay (Beyond met stuck) first second = (first ≡ met) × IsStopOf met stuck second
AreInTheWay (OutOfNumbers n) first second = ⊥

module _ {H : Type 0} {S : Ghosts H} where
  -- the pass has met this obstacle since in the word at this index of its list
  abbrev pub HasMetAt : ℕ → Pass H S → Pass H S → ℕ → Obstacle → Type 0
  HasMetAt seats old new i o = (x : Place) → get_elem? (listed new) i ≡ some x
      → HasMetObstacle seats (view old) (whole new) (own_exchange new) x.node x.field o

  -- what the pass knows of the word that was stopped
  abbrev pub KnowsStopAt : Pass H S → Stop → Type 0
  KnowsStopAt p stop = (x : Place) → get_elem? (listed p) stop.at ≡ some x → KnowsStop (whole p) x.node stop.obstacle
