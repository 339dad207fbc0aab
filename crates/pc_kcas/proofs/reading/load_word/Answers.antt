-- The pass of an exchange that was met is one of the board's, and the load is that step's.
use Rattle.std.proofs.Common.{subst, arith}
use Rattle.pc_rule_law.specs.Plays.{DescriptorLoaded}
use Rattle.pc_exchange_law.specs.Knowing.{DescriptorLoaded as WordLoaded}
use Rattle.pc_rule.specs.Passes.{whole, view, knows, board_size}
use Rattle.pc_rule.proofs.BoardSizes.{few_seats}
use Rattle.pc_dcss.proofs.Loads.{of_seat}
use Rattle.pc_dcss.proofs.Staying.{notes_ranged}
use Rattle.pc_kcas.proofs.ReadWords.{met_attempt, word_loaded_of}
use Rattle.pc_kcas.proofs.reading.load_word.Goals as goal

pub overflow_add-op : goal.overflow_add-op
overflow_add-op g c = let b = c.args.board.now in let p = c.args.pass.now in let few = few_seats b in
    let s = (met_attempt (board_size b) (view p) c.args.op (notes_ranged b p c.requires.pass) c.requires.come.0).0 in omega arith

pub step_12-requires-clause-of : goal.step_12-requires-clause-of
step_12-requires-clause-of g c κs within = let b = c.args.board.now in let p = c.args.pass.now in
    let s = (met_attempt (board_size b) (view p) c.args.op (notes_ranged b p c.requires.pass) c.requires.come.0).0 in (omega arith, omega (arith, s))

pub returns-clause-loaded : goal.returns-clause-loaded
returns-clause-loaded g c = let p = c.args.pass.now in let q = c.step_12.new.pass in let s = c.args.op.seat in
    word_loaded_of (whole p) (whole q) c.args.op c.args.place c.step_12.result c.requires.come
    (subst (λ x. DescriptorLoaded (view p) x c.args.place c.step_12.result (view q)) (of_seat s) c.step_12.ensures.told)
    (subst (λ x. WordLoaded (knows p) x c.args.place c.step_12.result (knows q)) (of_seat s) c.step_12.ensures.learnt)
