use Rattle.pc_words.proofs.Statuses.{unpacked_packed, packed_fits, packed_unpacked, unpacked_in_range}
use Rattle.pc_words.proofs.laws.statuses_are_inverse.Goals as goal

pub returns : goal.returns
returns c = (λ s ok. (packed_fits s ok, unpacked_packed s ok), λ r is. (unpacked_in_range r is, packed_unpacked r is))
