use Rattle.std.proofs.Common.{IfOk, sym, subst}
use Rattle.pc_model.specs.declared.call.Reply.{Reply}
use Rattle.pc_plain.specs.PlainCells.{PlainWords}
use Rattle.pc_plain.specs.PlainRuns.{HoldsPairs, IsRunOf, RunsRight}
use Rattle.pc_plain.specs.PlainWriting.{IsWritten}
use Rattle.pc_plain.proofs.RunRight.{from_reply, comes_to_make, change_run, change_right, from_ok, holds_after}
use Rattle.pc_plain.proofs.run.run_plan.Given.{Over}
use Rattle.pc_plain.proofs.run.run_plan.Goals as goal
use Rattle.pc_plain.proofs.run.run_plan.Goals.{In-Exchange, After-make}

holds : (g : Over) (c : In-Exchange g) → HoldsPairs g.P.Plan.form c.cells.inside.nodes
holds g c = subst (HoldsPairs g.P.Plan.form) (sym c.cells.view_is) c.requires.sound

-- the exchange was written in the nodes
abbrev Writes : (g : Over) → After-make g → Type 0
Writes g c = IsWritten c.cells.inside.nodes c.make.new.self c.end_of.new.change

-- what is said of a reply where the exchange was written, at the old cells
by_writing : (g : Over) (c : After-make g) (Q : PlainWords → Reply → Type 0)
    → (Writes g c → Q c.cells.inside.nodes c.end_of.new.change.reply) → IfOk c.make.result (Q c.args.cells.now)
by_writing g c Q q =
    subst (λ (w : PlainWords). IfOk c.make.result (Q w)) c.cells.view_is
    (from_reply c.make.result c.end_of.new.change.reply (Writes g c)
    (Q c.cells.inside.nodes) c.make.ensures.reply c.make.ensures.made q)

pub make-requires : goal.make-requires
make-requires g c =
    comes_to_make g.P.Plan.start g.P.Plan.moves g.P.Plan.can_call g.P.Plan.terms g.P.Plan.form g.met.P.Plan.laws
    c.cells.inside.nodes c.end_of.ensures.few c.end_of.ensures.fit c.args.call c.requires.call
    c.end_of.new.change c.in-Exchange.ensures.comes (holds g (goal.at.make-requires g c).In-Exchange)

pub returns-in-Exchange-clause-run : goal.returns-in-Exchange-clause-run
returns-in-Exchange-clause-run g c =
    let at : After-make g = (goal.at.returns-in-Exchange-clause-run g c).After-make in
    by_writing g at (λ w. IsRunOf g.P.Plan.start g.P.Plan.moves g.P.Plan.form c.args.call w c.make.new.self)
    (λ written. change_run g.P.Plan.start g.P.Plan.moves g.P.Plan.can_call g.P.Plan.terms g.P.Plan.form
    g.met.P.Plan.laws
    c.cells.inside.nodes c.end_of.ensures.few c.end_of.ensures.fit c.args.call c.requires.call
    c.end_of.new.change c.in-Exchange.ensures.comes c.make.new.self c.make.ensures.size written
    (holds g (goal.at.returns-in-Exchange-clause-run g c).In-Exchange))

right : (g : Over) (c : After-make g)
    → IfOk c.make.result (RunsRight g.P.Plan.form (g.P.Plan.terms c.args.call) c.args.cells.now c.make.new.self)
right g c =
    by_writing g c (λ w. RunsRight g.P.Plan.form (g.P.Plan.terms c.args.call) w c.make.new.self)
    (λ written. change_right g.P.Plan.start g.P.Plan.moves g.P.Plan.can_call g.P.Plan.terms g.P.Plan.form
    g.met.P.Plan.laws
    c.cells.inside.nodes c.end_of.ensures.few c.end_of.ensures.fit c.args.call c.requires.call
    c.end_of.new.change c.in-Exchange.ensures.comes c.make.new.self c.make.ensures.size written)

pub returns-in-Exchange-clause-right : goal.returns-in-Exchange-clause-right
returns-in-Exchange-clause-right g c = right g (goal.at.returns-in-Exchange-clause-right g c).After-make

pub returns-in-Exchange-clause-sound : goal.returns-in-Exchange-clause-sound
returns-in-Exchange-clause-sound g c =
    let at : After-make g = (goal.at.returns-in-Exchange-clause-sound g c).After-make in
    from_ok c.make.result (RunsRight g.P.Plan.form (g.P.Plan.terms c.args.call) c.args.cells.now c.make.new.self)
    (HoldsPairs g.P.Plan.form c.make.new.self) (right g at)
    (λ reply is. holds_after g.P.Plan.form
    (g.P.Plan.terms c.args.call) c.args.cells.now c.make.new.self reply is c.requires.sound)
