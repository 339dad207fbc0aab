-- By how the check ended.
use Rattle.std.proofs.Common.{subst}
use Rattle.pc_rule.specs.Passes.{whole}
use Rattle.pc_kcas.specs.Checking.{IsChecked}
use Rattle.pc_kcas.proofs.VisitChecks.{later_over}
use Rattle.pc_kcas.proofs.checking.end_check.Goals as goal

pub returns-in-Passed-clause-passed : goal.returns-in-Passed-clause-passed
returns-in-Passed-clause-passed g c = subst (IsChecked (whole c.args.pass.now) c.args.op c.args.stamp c.args.visit.node c.args.visit.version) c.in-Passed.is c.requires.checked

pub returns-in-Gone-clause-failed : goal.returns-in-Gone-clause-failed
returns-in-Gone-clause-failed g c = let x = whole c.args.pass.now in let k = c.load_status-status in
    let gone = subst (IsChecked x c.args.op c.args.stamp c.args.visit.node c.args.visit.version) c.in-Gone.is c.requires.checked in
    later_over x (whole k.new.pass) c.args.op c.args.stamp c.args.visit.node gone.0 k.result k.ensures.loaded gone.1 gone.2
