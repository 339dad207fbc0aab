-- The pass is at rest after each guest.
use Rattle.pc_rule.specs.Passes.{SitsAs}
use Rattle.examples.specs.Ferry.{IsReady}
use Rattle.examples.proofs.boarding.embarked.Given as goal

abbrev pub invariant-loop-guest : goal.invariant-loop-guest
invariant-loop-guest l = record {
  ready : IsReady l.board l.pass;
  sits : SitsAs l.fn.pass l.pass;
}
