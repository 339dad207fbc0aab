-- The laws of a remove.
use Rattle.std.proofs.Common.{◌≡◌, ℕ, suc, ◌+◌, ◌*◌, ⊎_elim, Option, Some, None, IsSome, refl, arith}
use Rattle.pc_model.specs.declared.call.Call.TheVariants.{Remove}
use Rattle.pc_model.specs.Map.{IsKey, value_at}
use Rattle.pc_model.specs.Trees.{balanced}
use Rattle.pc_model.specs.TreeForms.{tree_form}
use Rattle.pc_model.proofs.TreeFormLaws.{tree_form_laws}
use Rattle.pc_plan.specs.EndLaws.{EndsInChange, EndsInAnswer}
use Rattle.pc_plan.specs.Terms.{map_terms}
use Rattle.pc_plan.specs.Runs.{Runs}
use Rattle.pc_plan.specs.Laws.{PlanLaws}
use Rattle.pc_plan.proofs.Courses.{runs_by_course, changes_by_course, answers_by_course, change_or_answer}
use Rattle.pc_avl.specs.Removes.{remove_of, remove_moves}
use Rattle.pc_avl.specs.RemoveCourses.{remove_terms, RemovesRight, remove_course}
use Rattle.pc_avl.specs.RemoveLawful.{remove_lawful}

abbrev turns : ℕ → ℕ
turns slots = 6 * slots + (suc (suc (suc (3 * slots + 4))) + 3)

remove_runs : Runs remove_of remove_moves IsKey remove_terms (tree_form balanced)
remove_runs = runs_by_course remove_of remove_moves IsKey remove_terms (tree_form balanced) RemovesRight
    (λ slots c ps k past a h. h.0)
    turns (λ slots. omega arith) (λ slots c ps k ready key. remove_course slots c ps k ready)

not_both : (o : Option ℕ) → IsSome o → o ≡ None → ⊥
not_both None some none = absurd (cc)
not_both (Some x) some none = absurd (cc)

-- on sound cells a remove of a key that is there ends in an exchange, and one of another key in an answer
pub remove_ends_in_change : EndsInChange remove_of remove_moves IsKey (tree_form balanced)
    (λ k ps. IsSome (value_at k ps))
remove_ends_in_change = changes_by_course remove_of remove_moves IsKey remove_terms (tree_form balanced) RemovesRight
    (λ slots c ps k past a h. h.0)
    turns (λ slots. omega arith) (λ slots c ps k ready key. remove_course slots c ps k ready)
    (λ k ps. IsSome (value_at k ps))
    (λ slots c ps k past a some h answers. ⊎_elim (λ there. change_or_answer a there.0 answers)
    (λ missing. not_both (value_at k ps) some missing.1) h.1)

pub remove_ends_in_answer : EndsInAnswer remove_of remove_moves IsKey (tree_form balanced)
    (λ k ps. value_at k ps ≡ None)
remove_ends_in_answer = answers_by_course remove_of remove_moves IsKey remove_terms (tree_form balanced) RemovesRight
    (λ slots c ps k past a h. h.0)
    turns (λ slots. omega arith) (λ slots c ps k ready key. remove_course slots c ps k ready)
    (λ k ps. value_at k ps ≡ None)
    (λ slots c ps k past a none h changes. ⊎_elim (λ there. not_both (value_at k ps) there.1 none)
    (λ missing. change_or_answer a changes missing.0) h.1)

pub remove_laws : PlanLaws remove_of remove_moves IsKey (λ k. map_terms (Remove k)) (tree_form balanced)
remove_laws = record {
  runs = remove_runs;
  lawful = remove_lawful;
  form_laws = tree_form_laws balanced;
  settles_nothing = λ k reply some. refl;
}
