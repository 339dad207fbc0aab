-- By how the check ended.
use Rattle.std.proofs.Common.{◌≡◌, ◌+◌, ◌-◌, subst, sym, arith}
use Rattle.pc_words.specs.Statuses.{unpacked}
use Rattle.pc_rule_law.specs.Plays.{StatusLoaded}
use Rattle.pc_rule.specs.Passes.{whole, view}
use Rattle.pc_kcas.specs.Checking.{IsChecked}
use Rattle.pc_kcas.proofs.OwnVisits.{none_later}
use Rattle.pc_kcas.proofs.own_checks.barred_by.Goals as goal

pub returns-in-Passed-clause-passed : goal.returns-in-Passed-clause-passed
returns-in-Passed-clause-passed g c = subst (IsChecked (whole c.args.pass.now) c.args.op c.args.stamp c.args.visit.node c.args.visit.version) c.in-Passed.is c.requires.checked

pub unreachable-requires : goal.unreachable-requires
unreachable-requires g c = let p = c.args.pass.now in let q = c.step_7.new.pass in let o = c.args.op in let at : (o.seat + 1) - 1 ≡ o.seat = omega arith in
    let gone = subst (IsChecked (whole p) o c.args.stamp c.args.visit.node c.args.visit.version) c.in-Gone.is c.requires.checked in
    none_later p q o (unpacked c.step_7.result) gone.0 c.args.visit.node c.requires.published c.requires.own
    (subst (λ i. StatusLoaded (view p) i (unpacked c.step_7.result) (view q)) at c.step_7.ensures.told) gone.1 gone.2
