-- The turns of a plan on cells that stand still: what can be answered, and where some turns lead.
use Rattle.std.specs.Prelude.{◌≡◌, ℕ, ◌≤◌, List, length}
use Rattle.pc_model.specs.declared.cell.Field.TheVariants.{Version as VersionField}
use Rattle.pc_model.specs.Cells.{Cells, IsEven, IsNode}
use Rattle.pc_plan.specs.declared.plan.Ask.{Ask}
use Rattle.pc_plan.specs.declared.plan.Ask.TheVariants.{Visit, Read, Change, Answer}
use Rattle.pc_plan.specs.declared.plan.End.{End}
use Rattle.pc_plan.specs.declared.plan.End.TheVariants.{Exchange, Answer as Answered}
use Rattle.pc_plan.specs.declared.plan.Told.{Told}
use Rattle.pc_plan.specs.Planned.{Planned}
use Rattle.pc_plan.specs.Traces.{after, Agrees}

-- what a plan asks at its end, where this exchange stands in the change that was lent to it
abbrev pub last_ask : End → Planned → Ask
last_ask Exchange p = Change p
last_ask (Answered r) p = Answer r

-- a visit is of an unmarked node, and a read of a node
abbrev pub CanBeTold : ℕ → Cells → Ask → Type 0
CanBeTold slots c (Visit n) = IsNode slots n × IsEven (c n VersionField)
CanBeTold slots c (Read n f) = IsNode slots n
CanBeTold slots c (Change p) = Unit {0}
CanBeTold slots c (Answer r) = Unit {0}

module _ {P : Type 0} (moves : P → Told → P × Ask) where
  -- wherever a trace leads that agrees with the cells, the plan can be told what it asks for
  abbrev pub CanGoOn : ℕ → Cells → P × Ask → Type 0
  CanGoOn slots c s = (ts : List Told) → Agrees moves c s ts → CanBeTold slots c (after moves s ts).1

  -- after so many turns or more that agree with the cells the plan is about to be told this
  pub record GoesOn (c : Cells) (s : P × Ask) (turns : ℕ) (plan : P) (told : Told) : Type 0 where
    pub trace : List Told
    pub agrees : Agrees moves c s trace
    pub leads : moves plan told ≡ after moves s trace
    pub long : turns ≤ length trace

  -- after some turns that agree with the cells the plan asks this
  abbrev pub ComesFrom : Cells → P × Ask → Ask → Type 0
  ComesFrom c s ask = (ts : List Told) × Agrees moves c s ts × ((after moves s ts).1 ≡ ask)
