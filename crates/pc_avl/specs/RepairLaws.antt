-- The laws of repairs.
use Rattle.std.proofs.Common.{ℕ, ◌+◌, ◌*◌, List, [], Some, refl, ap, arith}
use Rattle.pc_model.specs.Map.{Pairs}
use Rattle.pc_model.specs.Cells.{Cells}
use Rattle.pc_model.specs.Trees.{balanced}
use Rattle.pc_model.specs.TreeForms.{tree_form}
use Rattle.pc_model.proofs.TreeFormLaws.{tree_form_laws}
use Rattle.pc_plan.specs.declared.plan.Ask.{Ask}
use Rattle.pc_plan.specs.declared.plan.Told.TheVariants.{Begin}
use Rattle.pc_plan.specs.Laws.{PlanLaws}
use Rattle.pc_plan.specs.Runs.{Runs, IsReady, reached, past_of}
use Rattle.pc_plan.specs.Traces.{Event}
use Rattle.pc_plan.specs.declared.plan.Ask.TheVariants.{Visit, Read, Change, Answer}
use Rattle.pc_plan.proofs.Courses.{Course, IsOnCourse, EndsRight, runs_by_course, along_course}
use Rattle.pc_avl.specs.declared.repair.Aim.{Aim}
use Rattle.pc_avl.specs.declared.repair.Aim.TheVariants.{Exact, Nearest}
use Rattle.pc_avl.specs.Repairs.{repair_of, repair_moves}
use Rattle.pc_avl.specs.RepairCases.{EndsAsRepair, IsAtEndOfRepair, EndsByCases, SettlesAsRepair}
use Rattle.pc_avl.specs.RepairCases.{StandsForRepair}
use Rattle.pc_avl.specs.RepairLawful.{repair_lawful}
use Rattle.pc_avl.specs.RepairSearches.{search_course}
use Rattle.pc_avl.specs.RepairTerms.{settles_by, repair_terms}
use Rattle.pc_model.specs.declared.owed.Settle.TheVariants.{Raise}
use Rattle.pc_avl.specs.RepairWalks.{repair_course}

-- what is wanted of a repair's end: it is right, and as a repair is to end
abbrev Wanted : Aim → ℕ → Cells → Pairs → ℕ → List Event → Ask → Type 0
Wanted aim slots c ps k past a = EndsRight (tree_form balanced) slots c ps (repair_terms aim k) past a
    × EndsAsRepair aim k slots c ps past a

abbrev turns : ℕ → ℕ
turns slots = 6 * slots + (4 + 3)

course : (aim : Aim) (slots : ℕ) (c : Cells) (ps : Pairs) (k : ℕ) → IsReady (tree_form balanced) slots c ps
    → Course slots c repair_moves (Wanted aim slots c ps k) (repair_moves (repair_of aim k) Begin).1 (turns slots) []
    (repair_moves (repair_of aim k) Begin).0
course Exact slots c ps k ready = repair_course slots c ps k ready
course Nearest slots c ps k ready = search_course slots c ps k ready

repair_runs : (aim : Aim) → Runs (repair_of aim) repair_moves (λ (k : ℕ). Unit {0}) (repair_terms aim)
    (tree_form balanced)
repair_runs aim = runs_by_course (repair_of aim) repair_moves (λ (k : ℕ). Unit {0}) (repair_terms aim)
    (tree_form balanced) (Wanted aim) (λ slots c ps k past a h. h.0) turns (λ slots. omega arith)
    (λ slots c ps k ready can. course aim slots c ps k ready)

pub repair_laws : (aim : Aim) → PlanLaws (repair_of aim) repair_moves (λ (k : ℕ). Unit {0}) (repair_terms aim)
    (tree_form balanced)
repair_laws aim = record {
  runs = repair_runs aim;
  lawful = repair_lawful aim;
  form_laws = tree_form_laws balanced;
  settles_nothing = λ k reply some. absurd (cc);
}

at_end : (aim : Aim) (slots : ℕ) (c : Cells) (ps : Pairs) (k : ℕ) (past : List Event) (a : Ask)
    → IsOnCourse slots c repair_moves (Wanted aim slots c ps k) past a → IsAtEndOfRepair aim k slots c ps past a
at_end aim slots c ps k past (Visit n) h = tt
at_end aim slots c ps k past (Read n f) h = tt
at_end aim slots c ps k past (Change p) h = h.1.1
at_end aim slots c ps k past (Answer r) h = h.1.1

-- a repair ends by the cases
pub repair_ends : (aim : Aim) → EndsByCases (repair_of aim) repair_moves aim
repair_ends aim slots c ps k ts ready agrees = at_end aim slots c ps k (past_of (repair_of aim) repair_moves k ts)
    (reached (repair_of aim) repair_moves k ts).1
    (along_course (repair_of aim) repair_moves (λ (n : ℕ). Unit {0}) (repair_terms aim) (tree_form balanced)
    (Wanted aim) (λ slots c ps k past a h. h.0) turns (λ slots. omega arith)
    (λ slots c ps k ready can. course aim slots c ps k ready) slots c ps k ts ready tt agrees)

-- what a repair settles, in plain words
settles_as : (aim : Aim) (k : ℕ) → SettlesAsRepair aim k (settles_by aim k)
settles_as Exact k = (refl, λ x. refl, λ y. refl)
settles_as Nearest k = (refl, λ x v small. ap (λ (n : ℕ). Raise (Some n)) (omega (arith, small)), λ y. refl)

pub stands_for_repair : (aim : Aim) → StandsForRepair (repair_terms aim) (λ (k : ℕ). Unit {0}) (tree_form balanced) aim
stands_for_repair aim = record {
  terms_are = λ k. refl;
  settles = λ k. settles_as aim k;
  can_be_called = λ k. tt;
  form_is = record { sound = λ slots c ps. ((λ h. h), (λ h. h)); in_debt = λ slots c k. ((λ h. h), (λ h. h)) };
}
