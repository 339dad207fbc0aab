-- The board opened with the old values.
use Rattle.std.proofs.Common.{◌≡◌, ◌+◌, refl, sym, subst, arith}
use Rattle.pc_model.specs.Cells.{IsEven}
use Rattle.pc_rule.specs.Passes.{knows, board_size}
use Rattle.board_trials.proofs.Opened.{two_opened}
use Rattle.board_trials.proofs.exchanges.published.Goals as goal

pub published_from-requires-clause-old : goal.published_from-requires-clause-old
published_from-requires-clause-old c = two_opened (board_size c.args.board.now) (knows c.args.pass.now) c.args.one c.args.two c.requires.start
    (c.requires.one.0, c.requires.one.1, c.requires.one.2) (c.requires.two.0, c.requires.two.1, c.requires.two.2)

pub published_from-requires-clause-one : goal.published_from-requires-clause-one
published_from-requires-clause-one c = let old = c.requires.one.2 in let new = c.requires.one.3 in
    let raised : c.args.one.new ≡ c.args.one.old + 2 = omega arith in
    (c.requires.one.0, c.requires.one.1, subst IsEven (sym old) refl, raised)
