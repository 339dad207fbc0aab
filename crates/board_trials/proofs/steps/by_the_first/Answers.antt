-- One pass of all makes the steps, and the others none.
use Rattle.std.proofs.Common.{ap, arith}
use Rattle.pc_rule_law.specs.Views.{OwnAttempt}
use Rattle.pc_rule.proofs.Calls.{pass_at, all_but_one}
use Rattle.board_trials.proofs.steps.by_the_first.Goals as goal

pub stored_and_loaded-requires-clause-pass : goal.stored_and_loaded-requires-clause-pass
stored_and_loaded-requires-clause-pass c = let p = c.index_mut.result.now in let ok = c.args.passes.now.ok.0 in let lt = c.requires.some in
    (c.requires.all.order 0 p (pass_at c.args.passes.now.items 0 p (omega arith) c.index_mut.ensures.value)).0

pub stored_and_loaded-requires-clause-may : goal.stored_and_loaded-requires-clause-may
stored_and_loaded-requires-clause-may c = let p = c.index_mut.result.now in let ok = c.args.passes.now.ok.0 in let lt = c.requires.some in
    let tried = c.requires.tried 0 p (pass_at c.args.passes.now.items 0 p (omega arith) c.index_mut.ensures.value) in
    (tried.0, ap (λ (o : OwnAttempt). o.published) tried.1)

pub stored_and_loaded-requires-clause-free : goal.stored_and_loaded-requires-clause-free
stored_and_loaded-requires-clause-free c = let p = c.index_mut.result.now in let ok = c.args.passes.now.ok.0 in let lt = c.requires.some in
    (c.requires.all.order 0 p (pass_at c.args.passes.now.items 0 p (omega arith) c.index_mut.ensures.value)).2

pub returns : goal.returns
returns c = let p = c.index_mut.result.now in let ok = c.args.passes.now.ok.0 in let lt = c.requires.some in record {
  all = all_but_one c.args.passes.now.items 0 p c.stored_and_loaded.new.pass (pass_at c.args.passes.now.items 0 p (omega arith) c.index_mut.ensures.value)
      c.args.board.now c.requires.all c.stored_and_loaded.ensures.same.0 c.stored_and_loaded.ensures.free;
}
