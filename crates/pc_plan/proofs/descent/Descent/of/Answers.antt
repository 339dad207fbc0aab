use Rattle.std.proofs.Common.{sym, ap, ◌∙◌}
use Rattle.std.specs.ControlFlow.{continue_value}
use Rattle.pc_plan.proofs.descent.Descent.of.Goals as goal

pub go_down-requires : goal.go_down-requires
go_down-requires g c m d passes =
    c.requires d (
      c.in_ok-begun.begun,
      m,
      sym c.begin.ensures ∙ c.branch-begun.ensures ∙ ap continue_value c.in_ok-begun.is,
      passes,
    )
