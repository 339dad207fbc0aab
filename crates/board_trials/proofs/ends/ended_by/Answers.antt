-- The first pass of all makes the call, and the others none.
use Rattle.std.proofs.Common.{arith}
use Rattle.pc_rule.proofs.Calls.{pass_at, all_but_one}
use Rattle.board_trials.proofs.Published.{may_list}
use Rattle.board_trials.proofs.ends.ended_by.Goals as goal

pub ended-requires-clause-pass : goal.ended-requires-clause-pass
ended-requires-clause-pass c = let p = c.index_mut.result.now in let ok = c.args.passes.now.ok.0 in let lt = c.requires.some in
    (c.requires.all.order 0 p (pass_at c.args.passes.now.items 0 p (omega arith) c.index_mut.ensures.value)).0

pub ended-requires-clause-free : goal.ended-requires-clause-free
ended-requires-clause-free c = let p = c.index_mut.result.now in let ok = c.args.passes.now.ok.0 in let lt = c.requires.some in
    (c.requires.all.order 0 p (pass_at c.args.passes.now.items 0 p (omega arith) c.index_mut.ensures.value)).2

pub ended-requires-clause-open : goal.ended-requires-clause-open
ended-requires-clause-open c = let p = c.index_mut.result.now in let ok = c.args.passes.now.ok.0 in let lt = c.requires.some in
    may_list c.args.passes.now.items c.requires.open 0 p (pass_at c.args.passes.now.items 0 p (omega arith) c.index_mut.ensures.value)

pub returns : goal.returns
returns c = let p = c.index_mut.result.now in let ok = c.args.passes.now.ok.0 in let lt = c.requires.some in
    all_but_one c.args.passes.now.items 0 p c.ended.new.pass (pass_at c.args.passes.now.items 0 p (omega arith) c.index_mut.ensures.value)
    c.args.board.now c.requires.all c.ended.ensures.seated c.ended.ensures.free
