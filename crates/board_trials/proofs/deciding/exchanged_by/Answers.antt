-- The first pass of all makes the call, and the others none.
use Rattle.std.proofs.Common.{arith}
use Rattle.pc_rule.proofs.Calls.{pass_at, all_but_one}
use Rattle.board_trials.proofs.Published.{may_list}
use Rattle.board_trials.proofs.deciding.exchanged_by.Goals as goal

pub exchanged-requires-clause-pass : goal.exchanged-requires-clause-pass
exchanged-requires-clause-pass c = let p = c.index_mut.result.now in let ok = c.args.passes.now.ok.0 in let lt = c.requires.some in
    (c.requires.all.order 0 p (pass_at c.args.passes.now.items 0 p (omega arith) c.index_mut.ensures.value)).0

pub exchanged-requires-clause-free : goal.exchanged-requires-clause-free
exchanged-requires-clause-free c = let p = c.index_mut.result.now in let ok = c.args.passes.now.ok.0 in let lt = c.requires.some in
    (c.requires.all.order 0 p (pass_at c.args.passes.now.items 0 p (omega arith) c.index_mut.ensures.value)).2

pub exchanged-requires-clause-open : goal.exchanged-requires-clause-open
exchanged-requires-clause-open c = let p = c.index_mut.result.now in let ok = c.args.passes.now.ok.0 in let lt = c.requires.some in
    may_list c.args.passes.now.items c.requires.open 0 p (pass_at c.args.passes.now.items 0 p (omega arith) c.index_mut.ensures.value)

pub returns : goal.returns
returns c = let p = c.index_mut.result.now in let ok = c.args.passes.now.ok.0 in let lt = c.requires.some in
    all_but_one c.args.passes.now.items 0 p c.exchanged.new.pass (pass_at c.args.passes.now.items 0 p (omega arith) c.index_mut.ensures.value)
    c.args.board.now c.requires.all c.exchanged.ensures.seated c.exchanged.ensures.free
