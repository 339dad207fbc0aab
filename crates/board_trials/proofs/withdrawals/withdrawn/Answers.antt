-- The statuses are those of the own attempt, of which both parts of the view have the number.
use Rattle.std.proofs.Common.{◌≡◌, ℕ, sym, ap, ◌∙◌}
use Rattle.pc_words.specs.declared.status.Stage.TheVariants.{Undecided, Withdrawn}
use Rattle.pc_words.specs.Statuses.{packed}
use Rattle.pc_rule.specs.Passes.{whole, view, knows}
use Rattle.pc_kcas.proofs.Holding.{pass_published, knows_still}
use Rattle.board_trials.proofs.OwnSteps.{later_attempt}
use Rattle.board_trials.proofs.Staying.{free_later, later_tried}
use Rattle.board_trials.proofs.withdrawals.withdrawn.Goals as goal

pub step_14_own-requires-clause-may : goal.step_14_own-requires-clause-may
step_14_own-requires-clause-may c κs = let p = c.args.pass.now in
    let same : c.attempts-number.result ≡ (knows p).own.number = c.attempts-number.ensures ∙ sym p.one_attempt.number in (
      c.pack-undecided.ensures.packed ∙ ap (λ (n : ℕ). packed (record { number = n; stage = Undecided })) same,
      c.pack-withdrawn.ensures.packed ∙ ap (λ (n : ℕ). packed (record { number = n; stage = Withdrawn })) same,
    )

pub returns-clause-free : goal.returns-clause-free
returns-clause-free c = let p = c.args.pass.now in let q = c.step_14_own.new.pass in
    free_later (view p) (view q) (later_tried (whole p) _ _ c.step_14_own.result _ _ _ (whole q) c.step_14_own.ensures.told) c.requires.free

pub returns-clause-published : goal.returns-clause-published
returns-clause-published c = let p = c.args.pass.now in let q = c.step_14_own.new.pass in
    let later = later_tried (whole p) _ _ c.step_14_own.result _ _ _ (whole q) c.step_14_own.ensures.told in
    pass_published p q c.step_14_own.ensures.pass (later_attempt (view p) (view q) later.same) c.requires.published

pub returns-clause-keeps : goal.returns-clause-keeps
returns-clause-keeps c = λ x known. let p = c.args.pass.now in let q = c.step_14_own.new.pass in
    let later = later_tried (whole p) _ _ c.step_14_own.result _ _ _ (whole q) c.step_14_own.ensures.told in
    knows_still p q c.step_14_own.ensures.pass (later_attempt (view p) (view q) later.same) later.more x known
