use Rattle.std.proofs.Common.{◌≡◌, [], ◌∙◌, sym, ap}
use Rattle.pc_model.specs.declared.cell.Field.{Field}
use Rattle.pc_model.specs.declared.cell.Field.TheVariants.{Left, Right}
use Rattle.pc_plan.specs.Asking.{asked}
use Rattle.pc_plan.specs.declared.plan.Ask.{Ask}
use Rattle.pc_plan.specs.declared.plan.Told.{Told}
use Rattle.pc_plan.specs.declared.plan.Told.TheVariants.{Version, Number}
use Rattle.pc_plan.specs.declared.plan.Turn.{Turn}
use Rattle.pc_plan.specs.declared.plan.Turn.TheVariants.{Visit, Read}
use Rattle.pc_plan.specs.Traces.{Tells}
use Rattle.pc_plan.specs.Turns.{CanBeTold, GoesOn}
use Rattle.pc_plan.proofs.TurnSteps.{can_be_told, goes_by}
use Rattle.pc_plan.proofs.plan.Plan.stride.Given.{Over}
use Rattle.pc_plan.proofs.plan.Plan.stride.Goals as goal
use Rattle.pc_plan.proofs.plan.Plan.stride.Goals.{After-step}

-- the state of the plan and what it asks by a turn
abbrev state_by : (g : Over) → After-step g → Turn → g.row.Self.Denot × Ask
state_by g c turn = (c.step.new.self, asked turn c.step.new.change)

is_by : (g : Over) (c : After-step g) (turn : Turn) → c.step.result ≡ turn
    → state_by g c turn ≡ g.Self.Plan.moves c.args.self.now c.args.told
is_by g c turn is = ap (state_by g c) (sym is) ∙ c.step.ensures

can : (g : Over) (c : After-step g) (turn : Turn) → c.step.result ≡ turn
    → CanBeTold (g.C.StillCells.slots c.args.cells.now) (g.C.StillCells.cells c.args.cells.now) (state_by g c turn).1
can g c turn is =
    can_be_told g.Self.Plan.moves (g.C.StillCells.cells c.args.cells.now) (g.Self.Plan.moves c.args.self.now c.args.told) [] tt c.step.new.self (state_by g c turn).1 (is_by g c turn is)
    (g.C.StillCells.slots c.args.cells.now) c.requires

goes : (g : Over) (c : After-step g) (turn : Turn) (t : Told) → c.step.result ≡ turn
    → Tells (g.C.StillCells.cells c.args.cells.now) (state_by g c turn).1 t
    → GoesOn g.Self.Plan.moves (g.C.StillCells.cells c.args.cells.now) (g.Self.Plan.moves c.args.self.now c.args.told) 1 c.step.new.self t
goes g c turn t is tells =
    goes_by g.Self.Plan.moves (g.C.StillCells.cells c.args.cells.now) (g.Self.Plan.moves c.args.self.now c.args.told) [] tt c.step.new.self (state_by g c turn).1 (is_by g c turn is) t tells

pub word-requires : goal.word-requires
word-requires g c = (can g (goal.at.word-requires g c).After-step (Visit c.in-Visit.node) c.in-Visit.is).0

pub returns-in-Visit-clause-goes_on : goal.returns-in-Visit-clause-goes_on
returns-in-Visit-clause-goes_on g c =
    let b : After-step g = (goal.at.returns-in-Visit-clause-goes_on g c).After-step in
    let even = (can g b (Visit c.in-Visit.node) c.in-Visit.is).1 in
    goes g b (Visit c.in-Visit.node) (Version c.word.result) c.in-Visit.is
    (sym c.word.ensures, rw c.word.ensures even)

pub word-requires-in-Read-default-Left : goal.word-requires-in-Read-default-Left
word-requires-in-Read-default-Left g c =
    let is : c.step.result ≡ Read c.in-Read-default-Left.node Left
    = c.in-Read-default-Left.is ∙ ap (λ (f : Field). Read c.in-Read-default-Left.node f) c.in-Read-default-Left.field-1-is in
    can g (goal.at.word-requires-in-Read-default-Left g c).After-step (Read c.in-Read-default-Left.node Left) is

pub returns-in-Read-default-Left-clause-goes_on : goal.returns-in-Read-default-Left-clause-goes_on
returns-in-Read-default-Left-clause-goes_on g c =
    let is : c.step.result ≡ Read c.in-Read-default-Left.node Left
    = c.in-Read-default-Left.is ∙ ap (λ (f : Field). Read c.in-Read-default-Left.node f) c.in-Read-default-Left.field-1-is in
    goes g (goal.at.returns-in-Read-default-Left-clause-goes_on g c).After-step
    (Read c.in-Read-default-Left.node Left) (Number c.word-in-Read-default-Left.result) is (sym c.word-in-Read-default-Left.ensures)

pub word-requires-in-Read-default-Right : goal.word-requires-in-Read-default-Right
word-requires-in-Read-default-Right g c =
    let is : c.step.result ≡ Read c.in-Read-default-Right.node Right
    = c.in-Read-default-Right.is ∙ ap (λ (f : Field). Read c.in-Read-default-Right.node f) c.in-Read-default-Right.field-1-is in
    can g (goal.at.word-requires-in-Read-default-Right g c).After-step (Read c.in-Read-default-Right.node Right) is

pub returns-in-Read-default-Right-clause-goes_on : goal.returns-in-Read-default-Right-clause-goes_on
returns-in-Read-default-Right-clause-goes_on g c =
    let is : c.step.result ≡ Read c.in-Read-default-Right.node Right
    = c.in-Read-default-Right.is ∙ ap (λ (f : Field). Read c.in-Read-default-Right.node f) c.in-Read-default-Right.field-1-is in
    goes g (goal.at.returns-in-Read-default-Right-clause-goes_on g c).After-step
    (Read c.in-Read-default-Right.node Right) (Number c.word-in-Read-default-Right.result) is (sym c.word-in-Read-default-Right.ensures)

pub word-requires-in-Read : goal.word-requires-in-Read
word-requires-in-Read g c =
    can g (goal.at.word-requires-in-Read g c).After-step (Read c.in-Read.node c.in-Read.field) c.in-Read.is

pub returns-in-Read-clause-goes_on : goal.returns-in-Read-clause-goes_on
returns-in-Read-clause-goes_on g c =
    goes g (goal.at.returns-in-Read-clause-goes_on g c).After-step (Read c.in-Read.node c.in-Read.field)
    (Number c.word-in-Read.result) c.in-Read.is (sym c.word-in-Read.ensures)
