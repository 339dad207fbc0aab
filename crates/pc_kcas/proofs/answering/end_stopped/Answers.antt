-- What each end asks for, by what stopped the word.
use Rattle.std.proofs.Common.{refl}
use Rattle.pc_model.specs.declared.cell.Field.TheVariants.{Version}
use Rattle.pc_rule.specs.Passes.{listed}
use Rattle.pc_kcas.specs.declared.obstacle.Obstacle.TheVariants.{Decided, Changed, Stuck, Numbers}
use Rattle.pc_kcas.proofs.Stopped.{knows_stop}
use Rattle.pc_kcas.proofs.answering.end_stopped.Goals as goal

pub end_decided-requires-clause-decided : goal.end_decided-requires-clause-decided
end_decided-requires-clause-decided g c = λ _ _. let p = c.args.pass.now in
    knows_stop p c.args.stop Decided (listed p) (record { node = 0; field = Version; old = 0; new = 0 }) c.requires.why c.requires.index c.in-Decided.is refl

pub end_changed-requires-clause-outdated : goal.end_changed-requires-clause-outdated
end_changed-requires-clause-outdated g c = λ _ _. knows_stop c.args.pass.now c.args.stop Changed c.listed.result.now _ c.requires.why c.requires.index c.in-Changed.is c.listed.ensures

pub blocked_at-requires : goal.blocked_at-requires
blocked_at-requires g c = let p = c.args.pass.now in
    knows_stop p c.args.stop (Stuck c.in-Stuck.stuck) (listed p) (record { node = 0; field = Version; old = 0; new = 0 }) c.requires.why c.requires.index c.in-Stuck.is refl

pub end_withdrawn-requires-in-Numbers-clause-reason : goal.end_withdrawn-requires-in-Numbers-clause-reason
end_withdrawn-requires-in-Numbers-clause-reason g c = λ _ _. let p = c.args.pass.now in
    knows_stop p c.args.stop (Numbers c.in-Numbers.numbers) (listed p) (record { node = 0; field = Version; old = 0; new = 0 }) c.requires.why c.requires.index c.in-Numbers.is refl
