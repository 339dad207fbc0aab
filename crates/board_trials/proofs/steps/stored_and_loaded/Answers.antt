-- What the steps of an exchange tell leaves the own install as it was.
use Rattle.std.proofs.Common.{[], ◌∷◌, sym, subst, inl, inr, ⊎_elim}
use Rattle.pc_rule_law.specs.Conditions.{IsFree}
use Rattle.pc_rule_law.specs.Views.{removed, View, clock_at, with_notes}
use Rattle.pc_rule_law.proofs.Lists.{has_right}
use Rattle.pc_rule.specs.Passes.{view}
use Rattle.board_trials.proofs.Staying.{free_later}
use Rattle.board_trials.proofs.steps.stored_and_loaded.Goals as goal

pub returns-clause-free : goal.returns-clause-free
returns-clause-free c = let v : View = view c.args.pass.now in let v1 : View = view c.step_9-clock.new.pass in
    let noted : IsFree (with_notes v (clock_at c.step_9-clock.result ∷ [])) = ⊎_elim (λ fresh. inl fresh)
    (λ gone. inr (has_right (clock_at c.step_9-clock.result ∷ []) v.notes (removed v.seat v.install.number) gone)) c.requires.free in
    let free1 : IsFree v1 = subst IsFree (sym c.step_9-clock.ensures.told.0) noted in
    let free2 : IsFree (view c.step_10.new.pass) = subst IsFree (sym c.step_10.ensures.told) free1 in
    let free3 : IsFree (view c.step_10-2.new.pass) = subst IsFree (sym c.step_10-2.ensures.told) free2 in
    free_later (view c.step_12-count.new.pass) (view c.step_12-mode.new.pass) c.step_12-mode.ensures.told.later
    (free_later (view c.step_10-2.new.pass) (view c.step_12-count.new.pass) c.step_12-count.ensures.told.later free3)
