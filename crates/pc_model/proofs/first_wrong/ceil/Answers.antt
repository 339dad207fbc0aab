use Rattle.std.proofs.Common.{◌∙◌, sym, ap}
use Rattle.pc_model.specs.Map.{first_of}
use Rattle.pc_model.proofs.OrderedMaps.{first_from-is_ceil_of}
use Rattle.pc_model.proofs.first_wrong.ceil.Goals as goal

pub returns-in_err-key : goal.returns-in_err-key
returns-in_err-key c =
    c.from_residual.ensures ∙ ap first_of (sym c.in_err-key.ensures.steps.0 ∙ c.range.ensures.between tt)
    ∙ first_from-is_ceil_of c.args.key c.args.map.now.entries

pub returns : goal.returns
returns c = ap first_of (sym c.in_ok-key.ensures.steps ∙ c.range.ensures.between tt)
    ∙ first_from-is_ceil_of c.args.key c.args.map.now.entries
