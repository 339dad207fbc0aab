use Rattle.pc_rule_law.specs.Tables.{size_of}
use Rattle.pc_exchange_law.proofs.WholeClosings.{whole_closes}
use Rattle.pc_rule.proofs.board.Board.end.Goals as goal

pub returns-clause-closed : goal.returns-clause-closed
returns-clause-closed g c = let key = c.args.self.table.shared.key in let x = c.args.last.seat.me.0 in
    whole_closes g.H.Shape.form (size_of key) _ x _ _ c.close_with.ensures.values.2 c.args.last.live c.requires.pass.1 c.requires.pass.2 c.requires.free
