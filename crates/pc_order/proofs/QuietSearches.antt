-- A search asks for no exchange, whatever it is told.
use Rattle.std.proofs.Common.{◌==◌}
use Rattle.std.proofs.lemmas.Bool.{cond_both}
use Rattle.pc_model.specs.declared.call.Reply.TheVariants.{Pair}
use Rattle.pc_model.specs.declared.cell.Side.{Side}
use Rattle.pc_model.specs.Map.{IsKey}
use Rattle.pc_plan.specs.declared.plan.Ask.{Ask}
use Rattle.pc_plan.specs.declared.plan.Told.{Told}
use Rattle.pc_plan.specs.declared.plan.Told.TheVariants.{Begin, Version, Number}
use Rattle.pc_plan.specs.declared.walk.Step.{Step}
use Rattle.pc_plan.specs.declared.walk.Step.TheVariants.{Visit, Read, Here, Missing, Astray}
use Rattle.pc_plan.specs.Quiet.{ChangesNothing, AsksForNoExchange}
use Rattle.pc_plan.specs.Walks.{walk_step}
use Rattle.pc_plan.proofs.Quiets.{quiet_by_steps}
use Rattle.pc_order.specs.declared.search.Search.{Search}
use Rattle.pc_order.specs.declared.search.SearchPhase.{SearchPhase}
use Rattle.pc_order.specs.declared.search.SearchPhase.TheVariants.{Walking, Reading, Ended}
use Rattle.pc_order.specs.Searches.{is_on, search_of, with_walk, ended, going_on, reading_value, walked, remembered}
use Rattle.pc_order.specs.Searches.{search_told, search_moves}

abbrev IsQuiet : Search × Ask → Type 0
IsQuiet s = ChangesNothing s.1

walked_quiet : (s : Search) (step : Step) → IsQuiet (walked s step)
walked_quiet s (Visit n) = tt
walked_quiet s (Read n f) = tt
walked_quiet s (Here x) =
    cond_both (is_on s.side s.walk.key x) (reading_value s x) (going_on s x) IsQuiet (λ _. tt) (λ _. tt)
walked_quiet s (Missing side link) = tt
walked_quiet s Astray = tt

told_quiet : (s : Search) (phase : SearchPhase) (t : Told) → IsQuiet (search_told s phase t)
told_quiet s Walking t = walked_quiet (with_walk s (walk_step s.walk t).0) (walk_step s.walk t).1
told_quiet s Reading (Number v) =
    let kept : Search = remembered s v in
    cond_both (s.met == s.walk.key) (ended kept (Pair s.met v)) (going_on kept s.met) IsQuiet (λ _. tt) (λ _. tt)
told_quiet s Reading Begin = tt
told_quiet s Reading (Version v) = tt
told_quiet s Ended t = tt

pub search_quiet : (side : Side) → AsksForNoExchange (search_of side) search_moves IsKey
search_quiet side = quiet_by_steps (search_of side) search_moves IsKey (λ s t. told_quiet s s.phase t)
