-- The words that were added may be exchanged.
use Rattle.std.proofs.Common.{refl, ap, ◌∙◌}
use Rattle.pc_rule_law.specs.Board.{Size}
use Rattle.pc_rule.specs.Passes.{view, knows, path, listed, board_size}
use Rattle.pc_kcas.specs.declared.mode.Mode.TheVariants.{Path as OfPath}
use Rattle.path_race.proofs.Flat.{flat_fits}
use Rattle.path_race.proofs.RaceWords.{race_known, race_keeps}
use Rattle.path_race.proofs.exchanging.stop_half_way.Goals as goal

pub begin_vexec-requires-clause-fits : goal.begin_vexec-requires-clause-fits
begin_vexec-requires-clause-fits c κs = let p = c.args.pass.now in let a = c.requires.added in
    flat_fits (view p).size.slots OfPath (path p) (listed p) refl (ap (λ (z : Size). z.slots) a.2.begun.of.1 ∙ c.requires.slots)
    (race_keeps (board_size c.args.board.now) (knows p) (listed p) a.0 a.2.words)

pub begin_vexec-requires-clause-old : goal.begin_vexec-requires-clause-old
begin_vexec-requires-clause-old c κs = let p = c.args.pass.now in let a = c.requires.added in
    race_known (board_size c.args.board.now) (knows p) (listed p) a.0 a.2.words
