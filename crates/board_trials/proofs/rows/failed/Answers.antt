-- The exchange is known to be outdated, and the step leaves what the pass knows of it.
use Rattle.std.proofs.Common.{◌≡◌, ℕ, ◌-◌, ◌<◌, ◌^◌, sym, ap, subst, inr, arith}
use Rattle.pc_rule_law.specs.Past.{Has}
use Rattle.pc_protocol.specs.Histories.{changed}
use Rattle.pc_protocol.specs.Notes.{outdated}
use Rattle.pc_exchange_law.specs.Attempts.{OwnAttempt}
use Rattle.pc_exchange_law.specs.ExchangeConditions.{was_told}
use Rattle.pc_exchange_law.specs.Ties.{code}
use Rattle.pc_rule.specs.Passes.{whole, view, knows, listed, visits, board_size}
use Rattle.pc_kcas.proofs.Holding.{published_still, knows_still}
use Rattle.pc_kcas.proofs.Owning.{own_still, visits_still}
use Rattle.board_trials.proofs.OwnSteps.{later_attempt}
use Rattle.board_trials.proofs.Staying.{free_later, later_tried, tried_known}
use Rattle.board_trials.proofs.rows.failed.Goals as goal

pub step_14-requires-clause-may : goal.step_14-requires-clause-may
step_14-requires-clause-may c κs = let p = c.args.pass.now in let of = c.requires.pass in
    let e : c.number-of.result - 1 ≡ (view p).seat = (let n = c.number-of.ensures in omega arith) in
    let n : c.attempts-number.result ≡ (view p).attempt.number = c.attempts-number.ensures in (
      c.attempts-number.result,
      c.pack-undecided.ensures.packed,
      (subst (λ (s : ℕ). s < (board_size c.args.board.now).seats) (sym e) of.2, subst (λ (a : ℕ). a < 2 ^ 28) (sym n) c.requires.published.0.number),
      inr (
        changed 1,
        c.pack-changed.ensures.packed,
        (omega arith, omega arith),
        was_told (subst (λ (s : ℕ). Has (knows p).told (outdated (code s c.attempts-number.result) 1)) (sym e)
            (subst (λ (a : ℕ). Has (knows p).told (outdated (code (view p).seat a) 1)) (sym n) c.requires.outdated)),
      ),
    )

pub returns-clause-free : goal.returns-clause-free
returns-clause-free c = let p = c.args.pass.now in let q = c.step_14.new.pass in
    free_later (view p) (view q) (later_tried (whole p) _ _ c.step_14.result _ _ _ (whole q) c.step_14.ensures.told) c.requires.free

pub returns-clause-published : goal.returns-clause-published
returns-clause-published c = let p = c.args.pass.now in let q = c.step_14.new.pass in let e = c.step_14.ensures in let is = ap (λ v. v.items) e.pass.1 in
    let same = later_attempt (view p) (view q) (later_tried (whole p) _ _ c.step_14.result _ _ _ (whole q) e.told).same in
    let known = tried_known (whole p) _ _ c.step_14.result _ _ _ _ (whole q) e.told in (
      published_still (view p) (view q) (listed p) (listed q) same e.pass.0.1 is c.requires.published.0,
      own_still (whole p) (whole q) (listed p) (listed q) e.pass.0.1 e.pass.0.2 same.0 (ap (λ (o : OwnAttempt). o.withdrew) known.0) known.1 is c.requires.published.1,
      visits_still (view p) (view q) (visits p) (visits q) same.0 e.pass.0.1 (ap (λ v. v.items) e.pass.2.1) c.requires.published.2,
    )

pub returns-clause-keeps : goal.returns-clause-keeps
returns-clause-keeps c = λ x known. let p = c.args.pass.now in let q = c.step_14.new.pass in
    let later = later_tried (whole p) _ _ c.step_14.result _ _ _ (whole q) c.step_14.ensures.told in
    knows_still p q c.step_14.ensures.pass (later_attempt (view p) (view q) later.same) later.more x known
