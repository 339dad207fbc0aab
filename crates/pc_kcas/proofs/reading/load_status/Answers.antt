-- The pass of an exchange that was met is one of the board's, and the load is that step's.
use Rattle.std.proofs.Common.{arith}
use Rattle.pc_rule.specs.Passes.{whole, view, board_size}
use Rattle.pc_rule.proofs.BoardSizes.{few_seats}
use Rattle.pc_dcss.proofs.Staying.{notes_ranged}
use Rattle.pc_kcas.proofs.ReadWords.{met_attempt, status_loaded_of, met_below}
use Rattle.pc_kcas.proofs.reading.load_status.Goals as goal

pub overflow_add-op : goal.overflow_add-op
overflow_add-op g c = let b = c.args.board.now in let p = c.args.pass.now in let few = few_seats b in
    let s = (met_attempt (board_size b) (view p) c.args.op (notes_ranged b p c.requires.pass) c.requires.met).0 in omega arith

pub step_7-requires-clause-of : goal.step_7-requires-clause-of
step_7-requires-clause-of g c κs within = let b = c.args.board.now in let p = c.args.pass.now in
    let s = (met_attempt (board_size b) (view p) c.args.op (notes_ranged b p c.requires.pass) c.requires.met).0 in (omega arith, omega (arith, s))

pub returns-clause-loaded : goal.returns-clause-loaded
returns-clause-loaded g c = let e = c.step_7.ensures in
    status_loaded_of (whole c.args.pass.now) (whole c.step_7.new.pass) c.args.op.seat c.step_7.result c.unpack.result c.unpack.ensures.status e.told e.learnt e.aim

pub returns-clause-ahead : goal.returns-clause-ahead
returns-clause-ahead g c = let e = c.step_7.ensures in
    met_below (whole c.args.pass.now) (whole c.step_7.new.pass) c.args.op c.unpack.result
    (status_loaded_of (whole c.args.pass.now) (whole c.step_7.new.pass) c.args.op.seat c.step_7.result c.unpack.result c.unpack.ensures.status e.told e.learnt e.aim) c.requires.met
