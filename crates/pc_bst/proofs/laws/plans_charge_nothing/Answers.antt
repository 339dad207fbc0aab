-- Proved in Ends.
use Rattle.pc_bst.proofs.Ends.{put_charges_nothing, remove_charges_nothing}
use Rattle.pc_bst.proofs.laws.plans_charge_nothing.Goals as goal

pub returns : goal.returns
returns c = record { put = put_charges_nothing; remove = remove_charges_nothing }
