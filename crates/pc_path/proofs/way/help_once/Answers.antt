-- The exchange is helped: its reference won't stand in the word again, or it was stopped by another.
use Rattle.pc_rule.specs.Passes.{whole, board_size}
use Rattle.pc_path.proofs.Leaving.{met_exchange, helped_way, busy_beyond}
use Rattle.pc_path.proofs.way.help_once.Goals as goal

pub help-requires-clause-come : goal.help-requires-clause-come
help-requires-clause-come g c = λ _ _. let m = c.requires.met in met_exchange m.0 (whole c.args.pass.now) m.1 m.2 c.args.met c.args.found m.3 c.requires.kind

pub returns-in-Decided-clause-made : goal.returns-in-Decided-clause-made
returns-in-Decided-clause-made g c = λ v n f way. let x = whole c.args.pass.now in let y = whole c.help.new.pass in let e = c.help.ensures in
    helped_way v x y e.goes_on e.pass.0.2 n f c.args.met c.args.found way c.requires.kind c.in-Decided.ensures.decided.1

pub returns-in-Gone-clause-made : goal.returns-in-Gone-clause-made
returns-in-Gone-clause-made g c = λ v n f way. let x = whole c.args.pass.now in let y = whole c.help.new.pass in let e = c.help.ensures in
    helped_way v x y e.goes_on e.pass.0.2 n f c.args.met c.args.found way c.requires.kind c.in-Gone.ensures.gone.2

pub returns-in-Stopped-clause-busy : goal.returns-in-Stopped-clause-busy
returns-in-Stopped-clause-busy g c = λ v n f way. let x = whole c.args.pass.now in let y = whole c.help.new.pass in let e = c.help.ensures in
    busy_beyond (board_size c.args.board.now).seats v x y n f c.args.met c.args.found c.in-Stopped.by e.goes_on e.pass.0.2 way c.in-Stopped.ensures.stopped
