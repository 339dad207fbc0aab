-- The place goes up to the first visit of the node, or past all of them.
use Rattle.std.proofs.Common.{rules}
use Rattle.pc_rule.specs.declared.visit.Visit.{Visit}
use Rattle.pc_path.proofs.Places.{more_others, first_of, none_of}
use Rattle.pc_path.proofs.finishing.first_visit.Goals as goal

pub loop-place-preserved : goal.loop-place-preserved
loop-place-preserved c = let d : Visit = record { node = 0; version = 0 } in let inv = c.loop-place.invariant in record {
  few = search rules;
  none = more_others c.args.visits.now c.loop-place.place _ d c.if-visits-place.false inv.none;
}

pub returns-then-visits-place-clause-found : goal.returns-then-visits-place-clause-found
returns-then-visits-place-clause-found c = let d : Visit = record { node = 0; version = 0 } in
    first_of c.args.visits.now c.loop-place.place c.args.node d c.loop-place-test.true c.if-visits-place.true c.loop-place.invariant.none

pub returns-clause-none : goal.returns-clause-none
returns-clause-none c = none_of c.args.visits.now c.loop-place.place c.args.node c.loop-place-test.false c.loop-place.invariant.none
