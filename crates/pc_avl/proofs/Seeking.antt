-- A repair whose node for a place is known goes on.
use Rattle.std.proofs.Common.{◌≡◌, ℕ, sym, ap, ◌∙◌}
use Rattle.pc_plan.specs.declared.plan.Ask.{Ask}
use Rattle.pc_avl.specs.declared.repair.Place.{Place}
use Rattle.pc_avl.specs.declared.repair.Repair.{Repair}
use Rattle.pc_avl.specs.declared.repair.Sought.{Sought}
use Rattle.pc_avl.specs.declared.repair.Sought.TheVariants.{Known}
use Rattle.pc_avl.specs.Repairs.{sought, going_on, seeks}

pub seeks_known : (next : Repair → Repair × Ask) (r r' : Repair) (p : Place) (link link' : ℕ) (o : Sought)
    → (r', o) ≡ sought r p link' → link' ≡ link → o ≡ Known → next r' ≡ seeks next r p link
seeks_known next r r' p link link' o e same known =
    sym (ap (going_on next r') known) ∙ ap (λ (z : Repair × Sought). going_on next z.0 z.1) e
    ∙ ap (seeks next r p) same
