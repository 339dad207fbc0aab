-- The reference by which the help was stopped, with as many links as there are passes.
use Rattle.std.proofs.Common.{subst}
use Rattle.pc_rule.specs.Passes.{whole, view, board_size}
use Rattle.pc_kcas.specs.Helping.{HasCome}
use Rattle.pc_kcas.proofs.Counted.{help_bounded}
use Rattle.pc_kcas.proofs.HelpEnds.{stopped_since}
use Rattle.pc_kcas.proofs.helping.help.Goals as goal

pub returns-in-Stuck-clause-stopped : goal.returns-in-Stuck-clause-stopped
returns-in-Stuck-clause-stopped g c = let h = c.help_linked-help in let x = whole c.args.pass.now in let y = whole h.new.pass in
    stopped_since (board_size c.args.board.now).seats c.passes.result x y h.result.links c.args.op c.stop_of.result c.in-Stuck.stuck c.passes.ensures.number h.ensures.followed
    (subst (HasCome x y c.args.op h.result.links) c.in-Stuck.is h.ensures.come) c.stop_of.ensures

pub returns-in-Decided-clause-bounded : goal.returns-in-Decided-clause-bounded
returns-in-Decided-clause-bounded g c = let h = c.help_linked-help in
    help_bounded (board_size c.args.board.now) c.passes.result h.result.links (view c.args.pass.now) (view h.new.pass) c.passes.ensures.number h.ensures.bounded

pub returns-in-Gone-clause-bounded : goal.returns-in-Gone-clause-bounded
returns-in-Gone-clause-bounded g c = let h = c.help_linked-help in
    help_bounded (board_size c.args.board.now) c.passes.result h.result.links (view c.args.pass.now) (view h.new.pass) c.passes.ensures.number h.ensures.bounded

pub returns-in-Stuck-clause-bounded : goal.returns-in-Stuck-clause-bounded
returns-in-Stuck-clause-bounded g c = let h = c.help_linked-help in
    help_bounded (board_size c.args.board.now) c.passes.result h.result.links (view c.args.pass.now) (view h.new.pass) c.passes.ensures.number h.ensures.bounded

pub returns-in-Numbers-clause-bounded : goal.returns-in-Numbers-clause-bounded
returns-in-Numbers-clause-bounded g c = let h = c.help_linked-help in
    help_bounded (board_size c.args.board.now) c.passes.result h.result.links (view c.args.pass.now) (view h.new.pass) c.passes.ensures.number h.ensures.bounded
