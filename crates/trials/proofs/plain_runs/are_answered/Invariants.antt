use Rattle.pc_model.specs.Trees.{plain}
use Rattle.pc_model.specs.TreeForms.{tree_form}
use Rattle.pc_plain.specs.PlainRuns.{HoldsPairs}
use Rattle.trials.proofs.plain_runs.are_answered.Given as goal

abbrev pub invariant-loop-called : goal.invariant-loop-called
invariant-loop-called l = HoldsPairs (tree_form plain) l.cells
