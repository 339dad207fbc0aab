-- The exchange stays published over the help.
use Rattle.pc_kcas.proofs.Owning.{published_goes}
use Rattle.board_trials.proofs.helps.second_helps.Goals as goal

pub finish-then-requires-clause-published : goal.finish-then-requires-clause-published
finish-then-requires-clause-published c κs = let m = c.met_exchange.new.pass in let h = c.help-helped in
    published_goes m h.new.pass h.ensures.pass h.ensures.goes_on c.met_exchange.ensures.published
