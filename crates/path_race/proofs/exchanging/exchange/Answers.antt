-- The words that were added may be exchanged.
use Rattle.std.proofs.Common.{refl, ap, ◌∙◌}
use Rattle.pc_rule_law.specs.Board.{Size}
use Rattle.pc_rule.specs.Passes.{view, knows, path, listed, board_size}
use Rattle.pc_kcas.specs.declared.mode.Mode.TheVariants.{Words, Path as OfPath}
use Rattle.path_race.proofs.Flat.{flat_fits}
use Rattle.path_race.proofs.RaceWords.{race_known, race_keeps}
use Rattle.path_race.proofs.exchanging.exchange.Goals as goal

pub exec-requires-clause-fits : goal.exec-requires-clause-fits
exec-requires-clause-fits c κs = let p = c.args.pass.now in let a = c.requires.added in
    flat_fits (view p).size.slots Words (path p) (listed p) refl (ap (λ (z : Size). z.slots) a.2.begun.of.1 ∙ c.requires.slots)
    (race_keeps (board_size c.args.board.now) (knows p) (listed p) a.0 a.2.words)

pub exec-requires-clause-old : goal.exec-requires-clause-old
exec-requires-clause-old c κs = let p = c.args.pass.now in let a = c.requires.added in
    race_known (board_size c.args.board.now) (knows p) (listed p) a.0 a.2.words

pub vexec-requires-clause-fits : goal.vexec-requires-clause-fits
vexec-requires-clause-fits c κs = let p = c.args.pass.now in let a = c.requires.added in
    flat_fits (view p).size.slots OfPath (path p) (listed p) refl (ap (λ (z : Size). z.slots) a.2.begun.of.1 ∙ c.requires.slots)
    (race_keeps (board_size c.args.board.now) (knows p) (listed p) a.0 a.2.words)

pub vexec-requires-clause-old : goal.vexec-requires-clause-old
vexec-requires-clause-old c κs = let p = c.args.pass.now in let a = c.requires.added in
    race_known (board_size c.args.board.now) (knows p) (listed p) a.0 a.2.words
