-- The install is completed: it won't stand in the word again.
use Rattle.pc_rule.specs.Passes.{whole, view, board_size}
use Rattle.pc_kcas.proofs.Going.{goes_later}
use Rattle.pc_path.specs.Bounds.{most_helped}
use Rattle.pc_path.proofs.Counted.{met_few, met_same}
use Rattle.pc_path.proofs.Leaving.{met_install, completed_way}
use Rattle.pc_path.proofs.way.complete_once.Goals as goal

pub complete-requires-clause-met : goal.complete-requires-clause-met
complete-requires-clause-met g c = λ _ _. let m = c.requires.met in met_install m.0 (whole c.args.pass.now) m.1 m.2 c.args.met c.args.found m.3 c.requires.kind

pub returns-in-None-clause-made : goal.returns-in-None-clause-made
returns-in-None-clause-made g c = λ v n f way. let x = whole c.args.pass.now in let y = whole c.complete.new.pass in let e = c.complete.ensures in
    completed_way v x y (goes_later x y e.later e.learns) e.pass.0.2 n f c.args.met c.args.found way c.requires.kind e.removed

pub returns-in-Some-clause-bounded : goal.returns-in-Some-clause-bounded
returns-in-Some-clause-bounded g c = met_few (board_size c.args.board.now) (view c.args.pass.now) c.args.met.helped

pub returns-in-None-clause-most : goal.returns-in-None-clause-most
returns-in-None-clause-most g c = met_same (view c.args.pass.now) (view c.complete.new.pass) (most_helped (board_size c.args.board.now) c.args.met.helped) c.complete.ensures.later
