-- Proved in WorldRuns.
use Rattle.pc_history.proofs.WorldRuns.{runs_are_world_runs}
use Rattle.pc_history.proofs.laws.runs_are_world_runs.Goals as goal

pub returns : goal.returns
returns c = runs_are_world_runs
