-- The low bits of the three kinds are 0, 1 and 2.
use Rattle.std.proofs.Common.{arith}
use Rattle.pc_words.proofs.Words.{raw_injective}
use Rattle.pc_words.proofs.laws.kinds_are_disjoint.Goals as goal

pub returns : goal.returns
returns c = (λ x s k e. omega arith, λ x s k e. omega arith, λ s k t l e. omega arith, raw_injective)
