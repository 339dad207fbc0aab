-- The pass is where it was, no install of it stands, its exchange is published, and it knows both words.
use Rattle.pc_rule_law.specs.Conditions.{IsFree}
use Rattle.pc_rule.specs.Passes.{view, IsSamePass}
use Rattle.pc_dcss.specs.Installs.{KnowsPlace}
use Rattle.pc_kcas.specs.Exchanges.{IsUncleared, own_exchange}
use Rattle.board_trials.proofs.meetings.install_often.Given as goal

abbrev pub invariant-loop : goal.invariant-loop
invariant-loop l = record {
  same : IsSamePass l.initial.pass l.pass;
  free : IsFree (view l.pass);
  published : IsUncleared l.pass;
  one : KnowsPlace (view l.pass) (own_exchange l.pass) l.one;
  two : KnowsPlace (view l.pass) (own_exchange l.pass) l.two;
}
