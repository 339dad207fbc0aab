-- The counts are stored, and then one change more.
use Rattle.std.proofs.Common.{rules, length, refl, sym, ap, ◌∙◌}
use Rattle.pc_rule_law.specs.Views.{word_in}
use Rattle.pc_rule.specs.Passes.{view, knows, listed}
use Rattle.pc_kcas.proofs.Words.{lists_none, lists_written, only_then, stored_then}
use Rattle.pc_kcas.proofs.writing.write_listed.Goals as goal

pub loop-i-preserved : goal.loop-i-preserved
loop-i-preserved g c = let inv = c.loop-i.invariant in let one = c.write_change.ensures in let lt = c.loop-i-test.true in let n = inv.count in record {
  below = search rules;
  count = search rules;
  same = search rules;
  only = only_then (view c.write_counts.new.pass) (view c.loop-i.pass) (view c.write_change.new.pass) inv.only one.only;
  beside = stored_then (knows c.write_counts.new.pass) (knows c.loop-i.pass) (knows c.write_change.new.pass) inv.beside one.beside;
  lists = lists_written c.args.mode c.args.visits (listed c.loop-i.pass) c.listed.result.now (listed c.write_change.new.pass) (word_in (view c.loop-i.pass).attempt.words)
      (word_in (view c.write_change.new.pass).attempt.words) c.loop-i.i _ c.listed.ensures (ap (λ v. v.items) one.pass.1) (search rules) inv.lists one.words;
}

pub loop-i-init : goal.loop-i-init
loop-i-init g c = let one = c.write_counts.ensures in record {
  below = search rules;
  count = search rules;
  same = search rules;
  only = refl;
  beside = refl;
  lists = lists_none c.args.mode c.args.visits (listed c.write_counts.new.pass) (word_in (view c.args.pass.now).attempt.words) (word_in (view c.write_counts.new.pass).attempt.words) _
      (c.count_listed-count.ensures.count ∙ sym (ap (λ v. length v.items) one.pass.1)) one.words;
}
