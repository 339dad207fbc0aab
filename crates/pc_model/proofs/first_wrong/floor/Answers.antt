use Rattle.std.proofs.Common.{◌∙◌, sym, ap}
use Rattle.pc_model.specs.Map.{last_of}
use Rattle.pc_model.proofs.SortedLists.{last_of-push}
use Rattle.pc_model.proofs.OrderedMaps.{last_to-is_floor_of}
use Rattle.pc_model.proofs.first_wrong.floor.Goals as goal

pub returns-in_err-key : goal.returns-in_err-key
returns-in_err-key c =
    c.from_residual.ensures ∙ ap last_of (sym c.in_err-key.ensures.steps.0 ∙ c.range.ensures.between tt)
    ∙ last_to-is_floor_of c.args.key c.args.map.now.entries c.range.ensures.ordered

pub returns : goal.returns
returns c =
    sym (last_of-push c.next_back.new.self (c.in_ok-key.key.now, c.in_ok-key.value.now))
    ∙ ap last_of (sym c.in_ok-key.ensures.steps ∙ c.range.ensures.between tt)
    ∙ last_to-is_floor_of c.args.key c.args.map.now.entries c.range.ensures.ordered
