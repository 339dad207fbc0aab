-- What the placing noted and then the taking.
use Rattle.pc_rule_law.specs.Views.{held}
use Rattle.pc_rule.specs.Passes.{view}
use Rattle.pc_dcss.proofs.Staying.{adds_then, noted_after, decided_after, on_held, on_decided}
use Rattle.pc_dcss.proofs.installing.install.Goals as goal
use Rattle.pc_rule.specs.Passes.{knows}
use Rattle.pc_dcss.proofs.Learnt.{learns_then}

pub returns-in-Ok-clause-adds : goal.returns-in-Ok-clause-adds
returns-in-Ok-clause-adds g c = adds_then (view c.args.pass.now) (view c.place_install.new.pass) (view c.take.new.pass) c.in-Ok.ensures.adds c.take.ensures.later.adds

pub returns-in-Ok-clause-held : goal.returns-in-Ok-clause-held
returns-in-Ok-clause-held g c = let op = c.args.op in let place = c.args.place in
    on_held _ _ c.take.result
    (noted_after (view c.args.pass.now) (view c.place_install.new.pass) (view c.take.new.pass) (held op.seat op.number place.node place.field) c.in-Ok.ensures.adds)
    c.take.ensures.held

pub returns-in-Ok-clause-decided : goal.returns-in-Ok-clause-decided
returns-in-Ok-clause-decided g c = on_decided _ _ c.take.result
    (decided_after (view c.args.pass.now) (view c.place_install.new.pass) (view c.take.new.pass) c.args.op.seat c.args.op.number c.in-Ok.ensures.adds)
    c.take.ensures.decided

pub returns-in-Ok-clause-learns : goal.returns-in-Ok-clause-learns
returns-in-Ok-clause-learns g c = learns_then (knows c.args.pass.now) (knows c.place_install.new.pass) (knows c.take.new.pass) c.place_install.ensures.learns c.take.ensures.learns
