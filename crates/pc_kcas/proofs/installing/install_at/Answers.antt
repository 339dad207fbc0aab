-- The word is known to be one of the exchange, and what the install says of it is said of the pass's word.
use Rattle.std.proofs.Common.{◌<◌, sym, subst}
use Rattle.pc_rule.specs.declared.refs.RefKind.TheVariants.{Exchange}
use Rattle.pc_rule.specs.Passes.{view, listed}
use Rattle.pc_rule.proofs.Starting.{element}
use Rattle.pc_kcas.proofs.Attempts.{knows_place}
use Rattle.pc_kcas.proofs.Holding.{held_at, stopped_at, at_most_one}
use Rattle.pc_kcas.proofs.Owning.{published_known}
use Rattle.pc_kcas.proofs.installing.install_at.Goals as goal

pub install-answer-requires-clause-place : goal.install-answer-requires-clause-place
install-answer-requires-clause-place g c = λ _ _. let p = c.args.pass.now in let of = c.requires.pass in
    knows_place (view p) (listed p) c.requires.published.0 p.listing (subst (λ z. (view p).seat < z.seats) (sym of.1) of.2) (record { kind = Exchange; seat = c.seat_of.result; number = c.attempts.result }) c.args.i _
    c.seat_of.ensures.seat c.attempts.ensures (rw c.listed.ensures (element (listed p) c.args.i _ c.requires.index))

pub returns-clause-published : goal.returns-clause-published
returns-clause-published g c = let e = c.install-answer.ensures in published_known c.args.pass.now c.install-answer.new.pass e.pass e.attempt e.learns c.requires.published

pub returns-clause-held : goal.returns-clause-held
returns-clause-held g c = λ yes. held_at c.args.pass.now c.install-answer.new.pass c.args.i c.seat_of.result c.attempts.result c.listed.result.now _ c.install-answer.result
    c.listed.ensures c.seat_of.ensures.seat c.attempts.ensures c.install-answer.ensures.pass c.install-answer.ensures.attempt (c.is_held.ensures.held yes) c.install-answer.ensures.held

pub returns-clause-stopped : goal.returns-clause-stopped
returns-clause-stopped g c = λ fails. let e = c.install-answer.ensures in stopped_at c.args.pass.now c.install-answer.new.pass c.args.i c.seat_of.result c.attempts.result c.listed.result.now _
    c.listed.ensures c.seat_of.ensures.seat c.attempts.ensures e.pass e.attempt record {
      answer = c.install-answer.result;
      not_held = c.is_held.ensures.other fails;
      decided = e.decided;
      differs = e.differs;
      met = e.met;
      numbers = e.numbers;
    }

pub returns-clause-most : goal.returns-clause-most
returns-clause-most g c = let e = c.install-answer.ensures in at_most_one (view c.args.pass.now) (view c.install-answer.new.pass) c.install-answer.result e.number e.last e.numbers
