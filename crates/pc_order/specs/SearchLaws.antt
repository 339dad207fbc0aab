-- The laws of ceil and floor.
use Rattle.std.proofs.Common.{◌+◌, ◌*◌, refl, arith}
use Rattle.pc_model.specs.declared.cell.Side.{Side}
use Rattle.pc_model.specs.Map.{IsKey}
use Rattle.pc_model.specs.TreeForms.{ordered_form}
use Rattle.pc_model.proofs.TreeFormLaws.{ordered_form_laws}
use Rattle.pc_plan.specs.Runs.{Runs}
use Rattle.pc_plan.specs.Terms.{map_terms}
use Rattle.pc_plan.specs.Laws.{PlanLaws}
use Rattle.pc_plan.proofs.Courses.{EndsRight, runs_by_course}
use Rattle.pc_order.specs.SearchCourses.{search_course}
use Rattle.pc_order.specs.SearchLawful.{search_lawful}
use Rattle.pc_order.specs.Searches.{call_on, search_of, search_moves}

search_runs : (side : Side)
    → Runs (search_of side) search_moves IsKey (λ k. map_terms (call_on side k)) ordered_form
search_runs side = runs_by_course (search_of side) search_moves IsKey (λ k. map_terms (call_on side k)) ordered_form
    (λ slots c ps k past a. EndsRight ordered_form slots c ps (map_terms (call_on side k)) past a)
    (λ slots c ps k past a right. right) (λ slots. 6 * slots + 3) (λ slots. omega arith)
    (λ slots c ps k ready key. search_course side slots c ready.is_sound.0 ps ready.few ready.is_sound.1 k)

pub search_laws : (side : Side)
    → PlanLaws (search_of side) search_moves IsKey (λ k. map_terms (call_on side k)) ordered_form
search_laws side = record {
  runs = search_runs side;
  lawful = search_lawful side;
  form_laws = ordered_form_laws;
  settles_nothing = λ k reply recorded. refl;
}
