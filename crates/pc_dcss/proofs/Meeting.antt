-- What a pass that was answered `Met` may complete.
use Rattle.std.proofs.Common.{◌≡◌, List, sym, subst, ap}
use mathlib.Core.Option.{some}
use Rattle.pc_rule_law.specs.Past.{Has}
use Rattle.pc_rule_law.specs.Views.{View, Note, placed}
use Rattle.pc_rule.specs.declared.opening.Place.{Place}
use Rattle.pc_rule.specs.declared.refs.Ref.{Ref}
use Rattle.pc_rule.specs.declared.refs.RefKind.{RefKind}
use Rattle.pc_rule.specs.declared.refs.RefKind.TheVariants.{Install as AnInstall}
use Rattle.pc_dcss.specs.Installs.{HasMet, IsMet, met_note}

-- an install that was met may be completed
pub met_install : (v w : View) (op r : Ref) (place : Place) → IsMet v w op place r → r.kind ≡ AnInstall → HasMet w r.seat r.number
met_install v w op r place met is = (
  place.node,
  place.field,
  subst (λ (l : List Note). Has l (placed r.seat r.number place.node place.field)) (sym met.0)
      (0, ap (λ (k : RefKind). some (met_note k r.seat r.number place.node place.field)) is),
)
