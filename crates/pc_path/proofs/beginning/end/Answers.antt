-- The epoch is loaded, and what the pass lists and takes along is dropped.
use Rattle.pc_rule.proofs.Calls.{only_listed, pass_stays}
use Rattle.pc_kcas.proofs.Finished.{seated_then}
use Rattle.pc_path.proofs.Endings.{concluded_sits, concluded_of, seated_sits, only_dropped, few_dropped}
use Rattle.pc_path.proofs.beginning.end.Goals as goal

pub returns-clause-seated : goal.returns-clause-seated
returns-clause-seated g c = let b = c.args.board.now in let p = c.args.pass.now in let q = c.step_24.new.pass in let r = c.drop_listed.new.self in let t = c.drop_carried.new.self in
    let of = pass_stays b p q c.requires.pass c.step_24.ensures.pass.0 in let listed = only_listed b q r of c.drop_listed.ensures.only in
    let only = c.drop_carried.ensures.only in (
      concluded_sits p r t (seated_sits p r (seated_then p q r c.step_24.ensures.pass.0 listed)) (only_dropped r t only),
      concluded_of b r t (pass_stays b q r of listed) (only_dropped r t only) (few_dropped r t only),
    )
