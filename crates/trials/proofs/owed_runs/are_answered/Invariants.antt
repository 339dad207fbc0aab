use Rattle.pc_model.specs.Trees.{balanced}
use Rattle.pc_model.specs.TreeForms.{tree_form}
use Rattle.pc_plain.specs.PlainRuns.{HoldsPairs}
use Rattle.trials.proofs.owed_runs.are_answered.Given as goal

abbrev pub invariant-loop-called : goal.invariant-loop-called
invariant-loop-called l = HoldsPairs (tree_form balanced) l.cells
