use Rattle.std.proofs.Common.{ℕ, ◌<◌, sym, subst, arith}
use Rattle.pc_rule.proofs.closed.Closed.entry_of.Goals as goal

pub unreachable-requires : goal.unreachable-requires
unreachable-requires g c = c.requires.listed (λ i lt. let below : i < c.described-count.result = subst (λ (m : ℕ). i < m) (sym c.described-count.ensures) lt in c.loop-i.invariant i (omega arith))
