-- The version isn't listed, or it is.
use Rattle.std.proofs.Common.{rules}
use Rattle.pc_rule.specs.Passes.{listed}
use Rattle.pc_rule.specs.Walking.{visited_of}
use Rattle.pc_kcas.proofs.Locks.{is_unlisted}
use Rattle.pc_kcas.proofs.locking.list_lock.Goals as goal

pub list-requires-clause-apart : goal.list-requires-clause-apart
list-requires-clause-apart g c κs within = is_unlisted (visited_of c.args.visit) (listed c.args.pass.now) (search rules)
