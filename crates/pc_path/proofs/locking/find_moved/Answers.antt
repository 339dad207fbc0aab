-- One visit more gave what the first one of its node gave, or a greater version.
use Rattle.std.proofs.Common.{rules, get_or, subst, sym}
use Rattle.pc_rule.specs.declared.visit.Visit.{Visit}
use Rattle.pc_rule.proofs.Starting.{element}
use Rattle.pc_path.specs.Losses.{IsFirstVisit}
use Rattle.pc_path.proofs.Moving.{first_more, seen_to_move, at_one_version}
use Rattle.pc_path.proofs.locking.find_moved.Goals as goal

pub loop-at-preserved : goal.loop-at-preserved
loop-at-preserved c = let d : Visit = record { node = 0; version = 0 } in let inv = c.loop-at.invariant in let l = c.args.visits.now in let at = c.loop-at.at in record {
  below = search rules;
  same = first_more l at d c.loop-at-test.true
      (subst (IsFirstVisit l (get_or l at d).node) (sym c.if-visits-at.false) (c.first_seen-version.ensures (get_or l at d) (element l at d c.loop-at-test.true))) inv.same;
}

pub returns-then-visits-at-clause-moved : goal.returns-then-visits-at-clause-moved
returns-then-visits-at-clause-moved c = let d : Visit = record { node = 0; version = 0 } in let l = c.args.visits.now in let at = c.loop-at.at in
    let here = element l at d c.loop-at-test.true in
    seen_to_move l at c.first_seen-version.result (get_or l at d) c.requires.rising here c.if-visits-at.true (c.first_seen-version.ensures (get_or l at d) here)

pub returns-clause-none : goal.returns-clause-none
returns-clause-none c = at_one_version c.args.visits.now c.loop-at.at (search rules) c.loop-at.invariant.same
