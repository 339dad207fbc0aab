-- Proved in Closings.
use Rattle.pc_path.proofs.Closings.{read_counts}
use Rattle.pc_path.proofs.laws.reads_count.Goals as goal

pub returns : goal.returns
returns g c opening passes left i p at small seen still e s taken n v k b f has changes =
    read_counts c.args.closed.now opening passes left i p at small seen still e s taken n v k b f has changes
