-- What the taking tells, by what stood in the word.
use Rattle.std.proofs.Common.{sym, ◌∙◌, subst, arith}
use Rattle.pc_rule_law.specs.Plays.{InstallTaken}
use Rattle.pc_rule.specs.Passes.{view}
use Rattle.pc_rule.proofs.BoardSizes.{few_seats}
use Rattle.pc_dcss.proofs.Takes.{held_by_hit, held_by_miss, decided_by_miss}
use Rattle.pc_dcss.proofs.taking.put_reference.Goals as goal
use Rattle.pc_rule.specs.Passes.{whole}
use Rattle.pc_dcss.proofs.Learnt.{learns_swapped}

pub returns-then-found-own-clause-held : goal.returns-then-found-own-clause-held
returns-then-found-own-clause-held g c = let w = c.args.words in let few = few_seats c.args.board.now in let s = c.requires.known.attempt.0 in
    held_by_hit (view c.args.pass.now) (view c.step_8-found.new.pass) w.node w.field w.op.seat w.op.number (omega arith, c.requires.known.attempt.1) c.install_ref-own.result c.step_8-found.result
    (subst (λ x. InstallTaken (view c.args.pass.now) w.node w.field c.install_ref-own.result x c.step_8-found.result (view c.step_8-found.new.pass)) c.exchange_ref-op.ensures.raw c.step_8-found.ensures.told)
    c.if-found-own.true

pub returns-then-found-op-clause-held : goal.returns-then-found-op-clause-held
returns-then-found-op-clause-held g c = let w = c.args.words in let few = few_seats c.args.board.now in let s = c.requires.known.attempt.0 in
    held_by_miss (view c.args.pass.now) (view c.step_8-found.new.pass) w.node w.field w.op.seat w.op.number (omega arith, c.requires.known.attempt.1) c.install_ref-own.result c.exchange_ref-op.result c.step_8-found.result
    c.step_8-found.ensures.told c.if-found-own.false (c.if-found-op.true ∙ c.exchange_ref-op.ensures.raw)

pub returns-clause-decided : goal.returns-clause-decided
returns-clause-decided g c = let w = c.args.words in let few = few_seats c.args.board.now in let s = c.requires.known.attempt.0 in let t = c.requires.known.install.0 in
    decided_by_miss (view c.args.pass.now) (view c.step_8-found.new.pass) w.node w.field c.args.install.seat c.args.install.number w.op.seat w.op.number c.install_ref-own.result c.exchange_ref-op.result c.step_8-found.result
    c.step_8-found.ensures.told c.install_ref-own.ensures.raw (omega arith) (omega arith) c.requires.known.op c.if-found-own.false (λ e. c.if-found-op.false (e ∙ sym c.exchange_ref-op.ensures.raw))

pub returns-then-found-own-clause-learns : goal.returns-then-found-own-clause-learns
returns-then-found-own-clause-learns g c = let w = c.args.words in learns_swapped (whole c.args.pass.now) w.node w.field c.install_ref-own.result c.exchange_ref-op.result c.step_8-found.result (whole c.step_8-found.new.pass) c.step_8-found.ensures.learnt

pub returns-then-found-op-clause-learns : goal.returns-then-found-op-clause-learns
returns-then-found-op-clause-learns g c = let w = c.args.words in learns_swapped (whole c.args.pass.now) w.node w.field c.install_ref-own.result c.exchange_ref-op.result c.step_8-found.result (whole c.step_8-found.new.pass) c.step_8-found.ensures.learnt

pub returns-clause-learns : goal.returns-clause-learns
returns-clause-learns g c = let w = c.args.words in learns_swapped (whole c.args.pass.now) w.node w.field c.install_ref-own.result c.exchange_ref-op.result c.step_8-found.result (whole c.step_8-found.new.pass) c.step_8-found.ensures.learnt
