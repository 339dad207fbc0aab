-- The visits below `i` have passed.
use Rattle.std.proofs.Common.{◌≡◌, ℕ, ◌<◌, ◌≤◌, ◌-◌}
use Rattle.pc_rule_law.specs.Conditions.{IsFree}
use Rattle.pc_rule_law.specs.Views.{word_in}
use Rattle.pc_rule.specs.Passes.{whole, view, IsSamePass}
use Rattle.pc_kcas.specs.Checking.{HasDrawn, HasPassedAt}
use Rattle.pc_kcas.specs.Exchanges.{IsPublished, own_exchange}
use Rattle.pc_kcas.specs.Settling.{HasLearnt}
use Rattle.pc_kcas.proofs.own_checks.check_own_visits.Given as goal

abbrev pub invariant-loop-i : goal.invariant-loop-i
invariant-loop-i g l = record {
  below : l.i ≤ l.count;
  counted : l.count ≡ word_in (view l.pass).attempt.words 2;
  same : IsSamePass l.initial.pass l.pass;
  learnt : HasLearnt (whole l.initial.pass) (whole l.pass);
  free : IsFree (view l.pass);
  published : IsPublished l.pass;
  own : l.op ≡ own_exchange l.pass;
  drawn : HasDrawn (whole l.pass) l.op l.stamp;
  passed : (k : ℕ) → k < l.i → HasPassedAt (whole l.pass) l.op l.stamp k;
}

abbrev pub decreases-loop-i : goal.decreases-loop-i
decreases-loop-i g l = l.count - l.i
