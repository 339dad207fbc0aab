-- The visits are those of the path, of which there are few.
use Rattle.std.proofs.Common.{◌≡◌, ◌<◌, ◌≤◌, ◌+◌, ◌^◌, length, map, refl, sym, ap, ◌∙◌, subst, arith}
use Rattle.std.proofs.lemmas.List.{length-map}
use Rattle.pc_rule.specs.Passes.{visits}
use Rattle.pc_rule.specs.Walking.{visited_of}
use Rattle.pc_rule.proofs.BoardSizes.{few_slots}
use Rattle.pc_kcas.specs.Exchanges.{visits_by}
use Rattle.pc_kcas.proofs.publishing.visits_of.Goals as goal
