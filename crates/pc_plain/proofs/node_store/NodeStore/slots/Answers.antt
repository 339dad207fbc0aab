use Rattle.std.proofs.Common.{subst}
use Rattle.pc_plain.specs.PlainCells.{PlainWords, cells_of, AreBelowLimits}
use Rattle.pc_plain.proofs.node_store.NodeStore.slots.Goals as goal

pub returns-clause-fit : goal.returns-clause-fit
returns-clause-fit c = subst (λ (w : PlainWords). AreBelowLimits (cells_of w)) c.self.view_is c.self.invariant.fit
