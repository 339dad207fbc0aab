-- The first pass of all makes the call, and the others none.
use Rattle.std.proofs.Common.{arith}
use Rattle.pc_rule.proofs.Calls.{pass_at, all_but_one}
use Rattle.board_trials.proofs.Published.{may_list}
use Rattle.board_trials.proofs.rows.withdrawn_and_installed_by.Goals as goal

pub withdrawn_and_installed-requires-clause-pass : goal.withdrawn_and_installed-requires-clause-pass
withdrawn_and_installed-requires-clause-pass c = let p = c.index_mut.result.now in let ok = c.args.passes.now.ok.0 in let lt = c.requires.some in
    (c.requires.all.order 0 p (pass_at c.args.passes.now.items 0 p (omega arith) c.index_mut.ensures.value)).0

pub withdrawn_and_installed-requires-clause-free : goal.withdrawn_and_installed-requires-clause-free
withdrawn_and_installed-requires-clause-free c = let p = c.index_mut.result.now in let ok = c.args.passes.now.ok.0 in let lt = c.requires.some in
    (c.requires.all.order 0 p (pass_at c.args.passes.now.items 0 p (omega arith) c.index_mut.ensures.value)).2

pub withdrawn_and_installed-requires-clause-open : goal.withdrawn_and_installed-requires-clause-open
withdrawn_and_installed-requires-clause-open c = let p = c.index_mut.result.now in let ok = c.args.passes.now.ok.0 in let lt = c.requires.some in
    may_list c.args.passes.now.items c.requires.open 0 p (pass_at c.args.passes.now.items 0 p (omega arith) c.index_mut.ensures.value)

pub returns : goal.returns
returns c = let p = c.index_mut.result.now in let ok = c.args.passes.now.ok.0 in let lt = c.requires.some in
    all_but_one c.args.passes.now.items 0 p c.withdrawn_and_installed.new.pass (pass_at c.args.passes.now.items 0 p (omega arith) c.index_mut.ensures.value)
    c.args.board.now c.requires.all c.withdrawn_and_installed.ensures.seated c.withdrawn_and_installed.ensures.free
