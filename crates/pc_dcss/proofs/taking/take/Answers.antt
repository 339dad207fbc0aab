-- The status says that the exchange is decided.
use Rattle.std.proofs.Common.{subst}
use Rattle.pc_words.specs.Statuses.{unpacked}
use Rattle.pc_rule_law.specs.Views.{decided_below, held}
use Rattle.pc_rule_law.specs.Plays.{StatusLoaded}
use Rattle.pc_rule.specs.Passes.{view}
use Rattle.pc_dcss.specs.Installs.{IsDecidedSince}
use Rattle.pc_dcss.proofs.Loads.{of_seat}
use Rattle.pc_dcss.proofs.Staying.{is_noted, noted_before, noted_after, decided_after, later_then, on_held, on_decided}
use Rattle.pc_dcss.proofs.Takes.{decided_by_status}
use Rattle.pc_dcss.proofs.taking.take.Goals as goal
use Rattle.pc_rule.specs.Passes.{knows}
use Rattle.pc_dcss.proofs.Learnt.{learns_then}

pub put_value-requires-clause-decided : goal.put_value-requires-clause-decided
put_value-requires-clause-decided g c κs within = let w = c.args.words in
    let one = subst (λ x. StatusLoaded (view c.args.pass.now) x (unpacked c.step_7.result) (view c.step_7.new.pass)) (of_seat w.op.seat) c.step_7.ensures.told in
    let told : StatusLoaded (view c.args.pass.now) w.op.seat c.unpack-status.result (view c.step_7.new.pass) = rw c.unpack-status.ensures.status one in
    let d = decided_by_status (view c.args.pass.now) (view c.step_7.new.pass) c.args.install.seat c.args.install.number w.op.seat w.op.number c.unpack-status.result told c.requires.known.op (c.is_undecided.ensures.decided c.if-is_undecided.false) in
    (d.0, is_noted (view c.args.pass.now) (view c.step_7.new.pass) (decided_below w.op.seat d.0) d.1, d.2)

pub returns-clause-decided : goal.returns-clause-decided
returns-clause-decided g c = let w = c.args.words in
    let one = subst (λ x. StatusLoaded (view c.args.pass.now) x (unpacked c.step_7.result) (view c.step_7.new.pass)) (of_seat w.op.seat) c.step_7.ensures.told in
    let told : StatusLoaded (view c.args.pass.now) w.op.seat c.unpack-status.result (view c.step_7.new.pass) = rw c.unpack-status.ensures.status one in
    let d : IsDecidedSince (view c.args.pass.now) (view c.step_7.new.pass) w.op.seat w.op.number = decided_by_status (view c.args.pass.now) (view c.step_7.new.pass) c.args.install.seat c.args.install.number w.op.seat w.op.number c.unpack-status.result told c.requires.known.op (c.is_undecided.ensures.decided c.if-is_undecided.false) in
    (d.0, noted_before (view c.args.pass.now) (view c.step_7.new.pass) (view c.put_value.new.pass) (decided_below w.op.seat d.0) d.1 c.put_value.ensures.later.adds, d.2)

pub returns-then-is_undecided-clause-later : goal.returns-then-is_undecided-clause-later
returns-then-is_undecided-clause-later g c = later_then (view c.args.pass.now) (view c.step_7.new.pass) (view c.put_reference.new.pass) c.step_7.ensures.told.later c.put_reference.ensures.later

pub returns-then-is_undecided-clause-held : goal.returns-then-is_undecided-clause-held
returns-then-is_undecided-clause-held g c = let w = c.args.words in
    on_held _ _ c.put_reference.result
    (noted_after (view c.args.pass.now) (view c.step_7.new.pass) (view c.put_reference.new.pass) (held w.op.seat w.op.number w.node w.field) c.step_7.ensures.told.later.adds)
    c.put_reference.ensures.held

pub returns-then-is_undecided-clause-decided : goal.returns-then-is_undecided-clause-decided
returns-then-is_undecided-clause-decided g c = let w = c.args.words in
    on_decided _ _ c.put_reference.result
    (decided_after (view c.args.pass.now) (view c.step_7.new.pass) (view c.put_reference.new.pass) w.op.seat w.op.number c.step_7.ensures.told.later.adds)
    c.put_reference.ensures.decided

pub returns-clause-later : goal.returns-clause-later
returns-clause-later g c = later_then (view c.args.pass.now) (view c.step_7.new.pass) (view c.put_value.new.pass) c.step_7.ensures.told.later c.put_value.ensures.later

pub returns-then-is_undecided-clause-learns : goal.returns-then-is_undecided-clause-learns
returns-then-is_undecided-clause-learns g c = learns_then (knows c.args.pass.now) (knows c.step_7.new.pass) (knows c.put_reference.new.pass) c.step_7.ensures.learnt.learns c.put_reference.ensures.learns

pub returns-clause-learns : goal.returns-clause-learns
returns-clause-learns g c = learns_then (knows c.args.pass.now) (knows c.step_7.new.pass) (knows c.put_value.new.pass) c.step_7.ensures.learnt.learns c.put_value.ensures.learns
