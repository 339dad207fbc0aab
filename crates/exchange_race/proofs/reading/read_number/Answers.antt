-- What a load tells goes on: what is met may be passed, and a number that is read at a version that was seen is told of.
use Rattle.std.proofs.Common.{sym, ◌∙◌}
use Rattle.pc_protocol.specs.Notes.{visited}
use Rattle.pc_rule.specs.Passes.{whole, view}
use Rattle.pc_rule.proofs.Calls.{pass_stays}
use Rattle.exchange_race.proofs.RaceWords.{may_later, met_found, come_found}
use Rattle.exchange_race.proofs.reading.read_number.Goals as goal

pub make_way-requires : goal.make_way-requires
make_way-requires c = let p = c.loop-number.pass in let q = c.step_5.new.pass in let told = c.step_5.ensures.told in let before = c.loop-number.invariant in record {
  pass = pass_stays c.args.board.now p q before.pass c.step_5.ensures.pass.0;
  may = may_later (view p) (view q) told.later before.may;
  install = λ s k is. met_found (whole p) (whole q) 1 c.args.field c.step_5.result told s k (sym c.kind_of-found.ensures.kind ∙ is);
  exchange = λ s k is. come_found (whole p) (whole q) 1 c.args.field c.step_5.result told s k (sym c.kind_of-found.ensures.kind ∙ is);
}

pub returns-in-Plain-clause-may : goal.returns-in-Plain-clause-may
returns-in-Plain-clause-may c = may_later (view c.loop-number.pass) (view c.step_5.new.pass) c.step_5.ensures.told.later c.loop-number.invariant.may

pub returns-in-Plain-clause-told : goal.returns-in-Plain-clause-told
returns-in-Plain-clause-told c = λ n has. c.step_5.ensures.told.seen.learns.told n (c.loop-number.invariant.told n has)

pub returns-in-Plain-clause-number : goal.returns-in-Plain-clause-number
returns-in-Plain-clause-number c = λ v was seen. c.step_5.ensures.told.seen.number c.in-Plain.number v was (sym c.kind_of-found.ensures.kind ∙ c.in-Plain.is)
    (c.loop-number.invariant.told (visited 1 v was) seen)
