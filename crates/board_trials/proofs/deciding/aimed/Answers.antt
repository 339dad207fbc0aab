-- The status is the own one, and the clock is told after it.
use Rattle.std.proofs.Common.{rules, ◌≡◌, ℕ, ◌-◌, sym, ap, ap₂, ◌∙◌, arith}
use Rattle.pc_rule_law.specs.Views.{OwnAttempt}
use Rattle.pc_rule.specs.Passes.{view}
use Rattle.pc_kcas.proofs.Holding.{pass_published}
use Rattle.board_trials.proofs.OwnSteps.{later_attempt, looked_clock, held_now}
use Rattle.board_trials.proofs.Staying.{free_later}
use Rattle.board_trials.proofs.deciding.aimed.Goals as goal

pub returns-clause-published : goal.returns-clause-published
returns-clause-published c = let p = c.args.pass.now in let q = c.step_7.new.pass in let r = c.step_9.new.pass in
    pass_published q r c.step_9.ensures.pass (later_attempt (view q) (view r) (looked_clock (view q) (view r) _ c.step_9.ensures.told.0).same)
    (pass_published p q c.step_7.ensures.pass (later_attempt (view p) (view q) c.step_7.ensures.told.later.same) c.requires.published)

pub returns-clause-held : goal.returns-clause-held
returns-clause-held c = let p = c.args.pass.now in let q = c.step_7.new.pass in let r = c.step_9.new.pass in
    let look = looked_clock (view q) (view r) _ c.step_9.ensures.told.0 in
    held_now q r c.step_9.ensures.pass (later_attempt (view q) (view r) look.same) look.more
    (held_now p q c.step_7.ensures.pass (later_attempt (view p) (view q) c.step_7.ensures.told.later.same) c.step_7.ensures.told.later.more c.requires.held)

pub returns-clause-free : goal.returns-clause-free
returns-clause-free c = let p = c.args.pass.now in let q = c.step_7.new.pass in let r = c.step_9.new.pass in
    free_later (view q) (view r) (looked_clock (view q) (view r) _ c.step_9.ensures.told.0) (free_later (view p) (view q) c.step_7.ensures.told.later c.requires.free)

pub returns-clause-aim : goal.returns-clause-aim
returns-clause-aim c = let p = c.args.pass.now in let q = c.step_7.new.pass in let r = c.step_9.new.pass in
    let e : c.number-of.result - 1 ≡ (view p).seat = (let n = c.number-of.ensures in omega arith) in
    let own = c.step_7.ensures.told.own e c.requires.published.none_posted in
    let seat : (view p).seat ≡ (view r).seat = sym (c.step_9.ensures.pass.0.2 ∙ c.step_7.ensures.pass.0.2) in
    let look = looked_clock (view q) (view r) _ c.step_9.ensures.told.0 in
    let mine : (view p).attempt.number ≡ (view r).attempt.number = sym (ap (λ (a : OwnAttempt). a.number) ((later_attempt (view q) (view r) look.same).0 ∙ (later_attempt (view p) (view q) c.step_7.ensures.told.later.same).0)) in
    c.step_9.ensures.aim ∙ (c.step_7.ensures.aim ∙ ap₂ (λ (a b : ℕ). (a, b)) (e ∙ seat) (own.0 ∙ mine))

pub returns-clause-ready : goal.returns-clause-ready
returns-clause-ready c below = c.step_9.ensures.learnt.early (search rules)
