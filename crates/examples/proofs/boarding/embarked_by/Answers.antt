-- The first pass of all makes the calls, and the others none.
use Rattle.std.proofs.Common.{arith, ap}
use Rattle.pc_rule.proofs.Calls.{pass_at}
use Rattle.pc_path.proofs.Sitting.{all_sit}
use Rattle.examples.proofs.boarding.embarked_by.Goals as goal

pub embarked-requires : goal.embarked-requires
embarked-requires c = let p = c.index_mut.result.now in let l = c.args.passes.now in let ok = l.ok.0 in let lt = c.requires.some in
    let at = pass_at l.items 0 p (omega arith) c.index_mut.ensures.value in let o = c.requires.all.order 0 p at in let t = c.requires.open.0 0 p at in record {
      ready = ((o.0, (t.0, ap (λ a. a.published) t.1), o.2), ap (λ q. q.begun) (c.requires.open.1 0 p at).0);
    }

pub returns : goal.returns
returns c = let p = c.index_mut.result.now in let l = c.args.passes.now in let ok = l.ok.0 in let lt = c.requires.some in
    let e = c.embarked.ensures.seated in
    all_sit l.items 0 p c.embarked.new.pass (pass_at l.items 0 p (omega arith) c.index_mut.ensures.value)
    c.args.board.now c.requires.all e.1 e.0.0.0 e.0.0.2
