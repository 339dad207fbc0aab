-- What clauses say of what stops the words of an exchange, and of the help that ends so.
use Rattle.std.specs.Prelude.{◌≡◌, ◌≢◌, ◌⊎◌, ℕ}
use Rattle.pc_model.specs.declared.cell.Field.{Field}
use Rattle.pc_model.specs.Cells.{IsNode}
use Rattle.pc_rule_law.specs.Plays.{AddsNotes}
use Rattle.pc_exchange_law.specs.Wholes.{Whole}
use Rattle.pc_rule.specs.declared.refs.Ref.{Ref}
use Rattle.pc_kcas.specs.Concluding.{IsPastDecision}
use Rattle.pc_kcas.specs.Helping.{HasCome}
use Rattle.pc_kcas.specs.Obstacles.{IsWordOf, IsObstacle}
use Rattle.pc_kcas.specs.Readings.{AreCleanWhereMet, IsOver}
use Rattle.pc_kcas.specs.declared.collecting.Halt.{Halt}
use Rattle.pc_kcas.specs.declared.collecting.Halt.TheVariants.{Over, At}
use Rattle.pc_kcas.specs.declared.helped.Progress.{Progress}
use Rattle.pc_kcas.specs.declared.obstacle.Obstacle.{Obstacle}
use Rattle.pc_kcas.specs.declared.obstacle.Stuck.{Stuck}
use Rattle.pc_kcas.specs.declared.obstacle.Stuck.TheVariants.{NoLink}

-- why a word of this node doesn't hold the reference; left is the number of links that are left
abbrev pub IsHaltedAt : Whole → Whole → Ref → ℕ → ℕ → Obstacle → Type 0
IsHaltedAt x y op n left obstacle = (f : Field) × (links : ℕ) × IsNode y.view.size.slots n × IsWordOf y op n f × IsObstacle x y op n f links left obstacle

-- what stopped the words of the exchange since: a status that isn't its own any more, or one of its words
abbrev pub IsHaltedBy : Whole → Whole → Ref → ℕ → Halt → Type 0
IsHaltedBy x y op left (Over s) = IsOver op s × IsPastDecision y op s × AreCleanWhereMet x.view y.view op
IsHaltedBy x y op left (At n obstacle) = IsHaltedAt x y op n left obstacle

-- the help of the exchange has come so far since each earlier moment since which X holds, with so many links left
abbrev pub HasComeBy : Whole → Whole → Ref → (Whole → ℕ → Type 0) → Progress → Type 0
HasComeBy y z op X p = (x : Whole) (left : ℕ) → AddsNotes x.view y.view → X x left → HasCome x z op left p

-- The help of an exchange is stuck so where it met another one, whose help is stuck: where that one met the exchange itself with no link
-- left, it is the other one that was met so.
abbrev pub IsStuckWith : Ref → Ref → Stuck → Stuck → Type 0
IsStuckWith op met how nearer = ((how ≡ NoLink op) × (nearer ≡ NoLink met)) ⊎ ((how ≢ NoLink op) × (nearer ≡ how))
