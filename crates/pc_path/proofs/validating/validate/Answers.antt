-- The read, and what is recorded and dropped after it.
use Rattle.std.proofs.Common.{Bool, [], None, length, ◌+◌, ◌≤◌, IfOk, IfErr, sym, ap, ◌∙◌, subst}
use Rattle.pc_rule_law.specs.Conditions.{IsFree}
use Rattle.pc_rule_law.specs.Past.{Has}
use Rattle.pc_protocol.specs.Notes.{in_run}
use Rattle.pc_exchange_law.specs.Paths.{read_of}
use Rattle.pc_exchange_law.specs.Wholes.{Whole}
use Rattle.pc_rule.specs.Passes.{whole, view, visits, path, board_size}
use Rattle.pc_rule.proofs.Calls.{pass_stays}
use Rattle.pc_kcas.specs.Obstacles.{GoesOn}
use Rattle.pc_kcas.specs.Verdicts.{IsAtLast}
use Rattle.pc_path.specs.Bounds.{most_in_checks}
use Rattle.pc_path.specs.Losses.{HasChanged, IsBlockedAt, IfChanged, IfBlocked, IfNumbers}
use Rattle.pc_path.proofs.Endings.{whole_same, concluded_sits, concluded_of, seated_sits, recorded_ok, recorded_err, read_effect}
use Rattle.pc_path.proofs.validating.validate.Goals as goal

pub conclude-requires-clause-effect : goal.conclude-requires-clause-effect
conclude-requires-clause-effect g c = λ _ _. read_effect (whole c.validated-answer.new.pass) c.validated-answer.result (read_of (path c.args.pass.now)) c.validated-answer.ensures.read

pub returns-clause-seated : goal.returns-clause-seated
returns-clause-seated g c = let p = c.args.pass.now in let q = c.validated-answer.new.pass in let r = c.conclude.new.pass in
    let same = c.validated-answer.ensures.seated.0 in let only = c.conclude.ensures.only in (
      concluded_sits p q r (seated_sits p q same) only,
      concluded_of c.args.board.now q r (pass_stays c.args.board.now p q c.requires.pass same) only c.conclude.ensures.few,
    )

pub returns-clause-adds : goal.returns-clause-adds
returns-clause-adds g c = ap (λ v. v.items) (c.conclude.ensures.only.2 ∙ c.validated-answer.ensures.seated.1) ∙ c.requires.no_adds

pub returns-clause-goes_on : goal.returns-clause-goes_on
returns-clause-goes_on g c = let q = c.validated-answer.new.pass in let r = c.conclude.new.pass in
    subst (λ (y : Whole). GoesOn (whole c.args.pass.now) y) (sym (whole_same q r c.conclude.ensures.only)) c.validated-answer.ensures.goes_on

pub returns-clause-free : goal.returns-clause-free
returns-clause-free g c = let q = c.validated-answer.new.pass in let r = c.conclude.new.pass in
    subst (λ (y : Whole). IsFree y.view) (sym (whole_same q r c.conclude.ensures.only)) c.validated-answer.ensures.free

pub returns-clause-path : goal.returns-clause-path
returns-clause-path g c = c.conclude.ensures.path
    ∙ ap (λ (b : Bool). record { begun = b; visits = []; reads = []; stamp = None; left = [] }) c.validated-answer.ensures.begun

pub returns-clause-recorded : goal.returns-clause-recorded
returns-clause-recorded g c = recorded_ok c.args.pass.now c.validated-answer.new.pass c.conclude.new.pass c.validated-answer.result
    c.validated-answer.ensures.seated.0 c.conclude.ensures.recorded

pub returns-clause-not_recorded : goal.returns-clause-not_recorded
returns-clause-not_recorded g c = recorded_err c.args.pass.now c.validated-answer.new.pass c.conclude.new.pass c.validated-answer.result
    c.validated-answer.ensures.seated.0 c.conclude.ensures.not_recorded

pub returns-clause-read : goal.returns-clause-read
returns-clause-read g c = let q = c.validated-answer.new.pass in let r = c.conclude.new.pass in
    subst (λ (y : Whole). IfOk c.validated-answer.result (λ s. Has y.knows.told (in_run s (read_of (path c.args.pass.now))))) (sym (whole_same q r c.conclude.ensures.only))
    c.validated-answer.ensures.read

pub returns-clause-changed : goal.returns-clause-changed
returns-clause-changed g c = let q = c.validated-answer.new.pass in let r = c.conclude.new.pass in
    subst (λ (y : Whole). IfErr c.validated-answer.result (λ e. IfChanged e (HasChanged (visits c.args.pass.now) y))) (sym (whole_same q r c.conclude.ensures.only))
    c.validated-answer.ensures.changed

pub returns-clause-blocked : goal.returns-clause-blocked
returns-clause-blocked g c = let q = c.validated-answer.new.pass in let r = c.conclude.new.pass in let p = c.args.pass.now in
    subst (λ (y : Whole). IfErr c.validated-answer.result (λ e. IfBlocked e (IsBlockedAt (board_size c.args.board.now).seats (view p) y (visits p)))) (sym (whole_same q r c.conclude.ensures.only))
    c.validated-answer.ensures.blocked

pub returns-clause-numbers : goal.returns-clause-numbers
returns-clause-numbers g c = let q = c.validated-answer.new.pass in let r = c.conclude.new.pass in
    subst (λ (y : Whole). IfErr c.validated-answer.result (λ e. IfNumbers e (IsAtLast y))) (sym (whole_same q r c.conclude.ensures.only))
    c.validated-answer.ensures.numbers

pub returns-clause-bounded : goal.returns-clause-bounded
returns-clause-bounded g c = let q = c.validated-answer.new.pass in let r = c.conclude.new.pass in let p = c.args.pass.now in
    subst (λ (y : Whole). y.view.install.number ≤ (view p).install.number + most_in_checks (board_size c.args.board.now) (length (visits p))) (sym (whole_same q r c.conclude.ensures.only))
    c.validated-answer.ensures.bounded
