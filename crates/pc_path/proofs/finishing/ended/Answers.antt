-- The exchange ends, and what is recorded and dropped after it.
use Rattle.std.proofs.Common.{◌+◌, ◌<◌, ◌≤◌, length, [], refl, IfOk, IfErr, OnErr, sym, ap, ◌∙◌, subst}
use Rattle.pc_rule_law.specs.Conditions.{CanWrite, IsFree}
use Rattle.pc_exchange_law.specs.Paths.{dropped}
use Rattle.pc_exchange_law.specs.Wholes.{Whole}
use Rattle.pc_rule.specs.Carrying.{HasTakenEffect}
use Rattle.pc_rule.specs.Passes.{whole, view, visits, listed, board_size}
use Rattle.pc_rule.proofs.Calls.{pass_stays}
use Rattle.pc_kcas.specs.Bounds.{most_in_end}
use Rattle.pc_kcas.specs.Exchanges.{visit_count}
use Rattle.pc_kcas.specs.Verdicts.{KeepsAll, KnowsWon, WasBlocked, IsAtLast}
use Rattle.pc_path.specs.Exchanges.{HasTakenPlace, HasFailed, HasRival, IsPast, WasInTheWay}
use Rattle.pc_path.specs.Losses.{IfChanged, IfLocked, IfBlocked, IfNumbers}
use Rattle.pc_path.proofs.Answered.{won_ok, won_effect, took_place, failed_err, changed_err, locked_err, blocked_err, numbers_err}
use Rattle.pc_path.proofs.Endings.{whole_same, concluded_sits, concluded_of, seated_sits, recorded_ok, recorded_err}
use Rattle.pc_path.proofs.Paths.{path_kept}
use Rattle.pc_path.proofs.finishing.ended.Goals as goal

pub conclude-requires-clause-effect : goal.conclude-requires-clause-effect
conclude-requires-clause-effect g c = λ _ _. let q = c.finished-outcome.new.pass in
    subst (λ a. IfOk a (HasTakenEffect (whole q))) (sym c.answer_of-answer.ensures)
    (won_effect (whole q) (view q).attempt.number c.finished-outcome.result.verdict c.finished-outcome.result.seen c.finished-outcome.ensures.won)

pub returns-clause-seated : goal.returns-clause-seated
returns-clause-seated g c = let b = c.args.board.now in let p = c.args.pass.now in let q = c.finished-outcome.new.pass in let r = c.conclude.new.pass in
    let same = c.finished-outcome.ensures.seated in let only = c.conclude.ensures.only in (
      concluded_sits p q r (seated_sits p q same) only,
      concluded_of b q r (pass_stays b p q c.requires.pass same) only c.conclude.ensures.few,
    )

pub returns-clause-unpublished : goal.returns-clause-unpublished
returns-clause-unpublished g c = subst (λ (y : Whole). CanWrite y.view) (sym (whole_same c.finished-outcome.new.pass c.conclude.new.pass c.conclude.ensures.only)) c.finished-outcome.ensures.open

pub returns-clause-number : goal.returns-clause-number
returns-clause-number g c = ap (λ (y : Whole). y.view.attempt.number) (whole_same c.finished-outcome.new.pass c.conclude.new.pass c.conclude.ensures.only) ∙ c.finished-outcome.ensures.number

pub returns-clause-free : goal.returns-clause-free
returns-clause-free g c = subst (λ (y : Whole). IsFree y.view) (sym (whole_same c.finished-outcome.new.pass c.conclude.new.pass c.conclude.ensures.only)) c.finished-outcome.ensures.free

pub returns-clause-kept : goal.returns-clause-kept
returns-clause-kept g c = subst (λ (y : Whole). KeepsAll (whole c.args.pass.now) y) (sym (whole_same c.finished-outcome.new.pass c.conclude.new.pass c.conclude.ensures.only)) c.finished-outcome.ensures.kept

pub returns-clause-adds : goal.returns-clause-adds
returns-clause-adds g c = ap (λ v. v.items) c.conclude.ensures.only.2 ∙ c.finished-outcome.ensures.dropped

pub returns-clause-path : goal.returns-clause-path
returns-clause-path g c = c.conclude.ensures.path ∙ ap dropped (path_kept c.args.pass.now c.finished-outcome.new.pass c.finished-outcome.ensures.path)

pub returns-clause-recorded : goal.returns-clause-recorded
returns-clause-recorded g c = recorded_ok c.args.pass.now c.finished-outcome.new.pass c.conclude.new.pass c.answer_of-answer.result
    c.finished-outcome.ensures.seated c.conclude.ensures.recorded

pub returns-clause-not_recorded : goal.returns-clause-not_recorded
returns-clause-not_recorded g c = recorded_err c.args.pass.now c.finished-outcome.new.pass c.conclude.new.pass c.answer_of-answer.result
    c.finished-outcome.ensures.seated c.conclude.ensures.not_recorded

pub returns-clause-done : goal.returns-clause-done
returns-clause-done g c = λ seen e known. let p = c.args.pass.now in let q = c.finished-outcome.new.pass in
    subst (λ (y : Whole). IfOk c.answer_of-answer.result (HasTakenPlace seen y e)) (sym (whole_same q c.conclude.new.pass c.conclude.ensures.only))
    (subst (λ a. IfOk a (HasTakenPlace seen (whole q) e)) (sym c.answer_of-answer.ensures)
    (won_ok c.finished-outcome.result.verdict c.finished-outcome.result.seen (KnowsWon (whole q) (view q).attempt.number) (HasTakenPlace seen (whole q) e)
    (λ s won. took_place seen (whole p) (whole q) e s c.finished-outcome.ensures.kept c.finished-outcome.ensures.seated.2 c.finished-outcome.ensures.number known won) c.finished-outcome.ensures.won))

pub returns-clause-lost : goal.returns-clause-lost
returns-clause-lost g c = let q = c.finished-outcome.new.pass in
    subst (λ (y : Whole). OnErr c.answer_of-answer.result (HasFailed y)) (sym (whole_same q c.conclude.new.pass c.conclude.ensures.only))
    (subst (λ a. OnErr a (HasFailed (whole q))) (sym c.answer_of-answer.ensures)
    (failed_err (whole q) c.finished-outcome.result.verdict c.finished-outcome.result.seen c.finished-outcome.ensures.lost))

pub returns-clause-changed : goal.returns-clause-changed
returns-clause-changed g c = let p = c.args.pass.now in let q = c.finished-outcome.new.pass in
    subst (λ (y : Whole). IfErr c.answer_of-answer.result (λ e. IfChanged e (IsPast (visits p) (listed p) y))) (sym (whole_same q c.conclude.new.pass c.conclude.ensures.only))
    (subst (λ a. IfErr a (λ e. IfChanged e (IsPast (visits p) (listed p) (whole q)))) (sym c.answer_of-answer.ensures)
    (changed_err (whole q) (visits p) (listed p) c.finished-outcome.result.verdict c.finished-outcome.result.seen c.finished-outcome.ensures.changed c.finished-outcome.ensures.seen))

pub returns-clause-locked : goal.returns-clause-locked
returns-clause-locked g c = let q = c.finished-outcome.new.pass in
    subst (λ (y : Whole). IfErr c.answer_of-answer.result (λ e. IfLocked e (HasRival y))) (sym (whole_same q c.conclude.new.pass c.conclude.ensures.only))
    (subst (λ a. IfErr a (λ e. IfLocked e (HasRival (whole q)))) (sym c.answer_of-answer.ensures)
    (locked_err (HasRival (whole q)) c.finished-outcome.result.verdict c.finished-outcome.result.seen c.finished-outcome.ensures.locked))

pub returns-clause-walked : goal.returns-clause-walked
returns-clause-walked g c = let X = 0 < visit_count (view c.args.pass.now) in
    subst (λ a. IfErr a (λ e. IfLocked e (λ n by. X))) (sym c.answer_of-answer.ensures)
    (locked_err (λ n by. X) c.finished-outcome.result.verdict c.finished-outcome.result.seen c.finished-outcome.ensures.visits)

pub returns-clause-blocked : goal.returns-clause-blocked
returns-clause-blocked g c = let p = c.args.pass.now in let q = c.finished-outcome.new.pass in let links = (board_size c.args.board.now).seats in
    subst (λ (y : Whole). IfErr c.answer_of-answer.result (λ e. IfBlocked e (WasInTheWay links (view p) y))) (sym (whole_same q c.conclude.new.pass c.conclude.ensures.only))
    (subst (λ a. IfErr a (λ e. IfBlocked e (WasInTheWay links (view p) (whole q)))) (sym c.answer_of-answer.ensures)
    (blocked_err (WasBlocked links p q) (WasInTheWay links (view p) (whole q)) c.finished-outcome.result.verdict c.finished-outcome.result.seen
    (λ first second was. (whole p, ([], refl), was)) c.finished-outcome.ensures.blocked))

pub returns-clause-numbers : goal.returns-clause-numbers
returns-clause-numbers g c = let q = c.finished-outcome.new.pass in
    subst (λ (y : Whole). IfErr c.answer_of-answer.result (λ e. IfNumbers e (IsAtLast y))) (sym (whole_same q c.conclude.new.pass c.conclude.ensures.only))
    (subst (λ a. IfErr a (λ e. IfNumbers e (IsAtLast (whole q)))) (sym c.answer_of-answer.ensures)
    (numbers_err (IsAtLast (whole q)) c.finished-outcome.result.verdict c.finished-outcome.result.seen c.finished-outcome.ensures.numbers))

pub returns-clause-bounded : goal.returns-clause-bounded
returns-clause-bounded g c = let p = c.args.pass.now in
    subst (λ (y : Whole). y.view.install.number ≤ (view p).install.number + most_in_end (board_size c.args.board.now) (length (listed p)))
    (sym (whole_same c.finished-outcome.new.pass c.conclude.new.pass c.conclude.ensures.only)) c.finished-outcome.ensures.bounded
