-- The listed words may be published.
use Rattle.std.proofs.Common.{ap, ◌∙◌}
use Rattle.pc_rule_law.specs.Board.{Size}
use Rattle.pc_rule.specs.Passes.{view, knows, listed, board_size}
use Rattle.pc_kcas.proofs.Attempts.{free_published}
use Rattle.exchange_race.proofs.Flat.{flat_fits}
use Rattle.exchange_race.proofs.RaceWords.{race_known, race_keeps}
use Rattle.exchange_race.proofs.making.make.Goals as goal

pub publish-requires-clause-fits : goal.publish-requires-clause-fits
publish-requires-clause-fits c κs = let p = c.args.pass.now in let l = c.requires.listed in
    flat_fits (view p).size.slots (listed p) (ap (λ (z : Size). z.slots) c.requires.pass.1 ∙ c.requires.slots)
    (race_keeps (board_size c.args.board.now) (knows p) (listed p) l.0 l.1)

pub publish-requires-clause-old : goal.publish-requires-clause-old
publish-requires-clause-old c κs = let p = c.args.pass.now in let l = c.requires.listed in
    race_known (board_size c.args.board.now) (knows p) (listed p) l.0 l.1

pub finish-requires-clause-free : goal.finish-requires-clause-free
finish-requires-clause-free c κs = free_published (view c.args.pass.now) (view c.publish.new.pass) c.in-Ok.ensures.only c.requires.may.1
