-- The attempt was cleared, and it is known how it was decided.
use Rattle.std.proofs.Common.{sym, subst}
use Rattle.pc_rule.specs.Passes.{whole, listed}
use Rattle.pc_kcas.specs.Clearing.{KnowsOutcome}
use Rattle.pc_kcas.proofs.Ended.{outcome_known, cleared_ended, ended_so}
use Rattle.pc_kcas.proofs.ending.conclude.Goals as goal

pub clear-clock-requires-clause-decided : goal.clear-clock-requires-clause-decided
clear-clock-requires-clause-decided g c = λ _ _. let p = c.args.pass.now in
    subst (KnowsOutcome (whole p)) (sym c.is_success.ensures) (outcome_known (whole p) (listed p) c.args.status c.requires.published c.requires.why.settled)

pub returns-clause-ended : goal.returns-clause-ended
returns-clause-ended g c = cleared_ended (whole c.args.pass.now) (whole c.clear-clock.new.pass) c.clear-clock.ensures.cleared

pub returns-clause-so : goal.returns-clause-so
returns-clause-so g c = let p = c.args.pass.now in let q = c.clear-clock.new.pass in let e = c.clear-clock.ensures in
    rw c.answer.ensures (ended_so (whole p) (whole q) (listed p) c.args.status c.clear-clock.result c.requires.published c.requires.why
    (cleared_ended (whole p) (whole q) e.cleared) e.clock e.last e.covers (λ _ _. ⊥))
