-- What is known of the word that was stopped.
use Rattle.std.proofs.Common.{◌≡◌, ◌<◌, List, length, get_or, sym, subst}
use Rattle.pc_model.specs.declared.shape.Shape.{Ghosts}
use Rattle.pc_rule.specs.declared.board.Pass.{Pass}
use Rattle.pc_rule.specs.declared.opening.Place.{Place}
use Rattle.pc_rule.specs.Passes.{whole, listed}
use Rattle.pc_rule.proofs.Starting.{element}
use Rattle.pc_kcas.specs.declared.answering.Stop.{Stop}
use Rattle.pc_kcas.specs.declared.obstacle.Obstacle.{Obstacle}
use Rattle.pc_kcas.specs.Stops.{KnowsStop, KnowsStopAt}

module _ {H : Type 0} {S : Ghosts H} where
  pub knows_stop : (p : Pass H S) (stop : Stop) (o : Obstacle) (now : List Place) (d : Place) → KnowsStopAt p stop → stop.at < length (listed p) → stop.obstacle ≡ o
      → now ≡ listed p → KnowsStop (whole p) (get_or now stop.at d).node o
  knows_stop p stop o now d why lt is same = subst (λ (l : List Place). KnowsStop (whole p) (get_or l stop.at d).node o) (sym same)
      (subst (KnowsStop (whole p) (get_or (listed p) stop.at d).node) is (why (get_or (listed p) stop.at d) (element (listed p) stop.at d lt)))
