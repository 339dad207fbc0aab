-- The statuses are those of the own attempt, and where the step hits, the verdict is known.
use Rattle.std.proofs.Common.{rules, ◌≡◌, ℕ, ◌-◌, ◌<◌, ◌^◌, refl, sym, ap, ap₂, ◌∙◌, subst, inl, arith}
use Rattle.pc_words.specs.declared.status.Status.{Status}
use Rattle.pc_words.specs.Statuses.{unpacked}
use Rattle.pc_rule_law.specs.Past.{Has}
use Rattle.pc_protocol.specs.Histories.{committed, Stage}
use Rattle.pc_protocol.specs.Notes.{verdict}
use Rattle.pc_exchange_law.specs.ExchangeConditions.{MaySucceed}
use Rattle.pc_exchange_law.specs.Ties.{code}
use Rattle.pc_exchange_law.specs.WholePlays.{verdict_by}
use Rattle.pc_exchange_law.specs.Wholes.{Whole}
use Rattle.pc_rule.specs.Passes.{whole, view, knows, listed, board_size}
use Rattle.pc_kcas.proofs.Holding.{pass_published}
use Rattle.board_trials.proofs.OwnSteps.{may_succeed, later_attempt}
use Rattle.board_trials.proofs.Staying.{free_later, later_tried}
use Rattle.board_trials.proofs.deciding.decided.Goals as goal

pub step_14-requires-clause-may : goal.step_14-requires-clause-may
step_14-requires-clause-may c κs = let p = c.args.pass.now in let of = c.requires.pass in
    let e : c.number-of.result - 1 ≡ (view p).seat = (let n = c.number-of.ensures in omega arith) in
    let n : c.attempts-number.result ≡ (view p).attempt.number = c.attempts-number.ensures in (
      c.attempts-number.result,
      c.pack-undecided.ensures.packed,
      (subst (λ (s : ℕ). s < (board_size c.args.board.now).seats) (sym e) of.2, subst (λ (a : ℕ). a < 2 ^ 28) (sym n) c.requires.published.number),
      inl (
        c.args.stamp,
        c.pack-succeeded.ensures.packed,
        subst (λ (s : ℕ). MaySucceed (view p) (knows p) s c.attempts-number.result c.args.stamp) (sym e)
            (subst (λ (a : ℕ). MaySucceed (view p) (knows p) (view p).seat a c.args.stamp) (sym n)
            (may_succeed (whole p) (listed p) c.requires.published p.one_attempt c.args.stamp (sym c.attempt_word.ensures ∙ c.if-attempt_word-ne0.false) c.requires.stamp c.requires.drawn)),
      ),
    )

pub returns-clause-published : goal.returns-clause-published
returns-clause-published c = let p = c.args.pass.now in let q = c.step_14.new.pass in
    pass_published p q c.step_14.ensures.pass (later_attempt (view p) (view q) (later_tried (whole p) _ _ c.step_14.result _ _ _ (whole q) c.step_14.ensures.told).same) c.requires.published

pub returns-clause-free : goal.returns-clause-free
returns-clause-free c = let p = c.args.pass.now in let q = c.step_14.new.pass in
    free_later (view p) (view q) (later_tried (whole p) _ _ c.step_14.result _ _ _ (whole q) c.step_14.ensures.told) c.requires.free

pub returns-clause-succeeded : goal.returns-clause-succeeded
returns-clause-succeeded c hits = let p = c.args.pass.now in let q = c.step_14.new.pass in
    let is = c.step_14.ensures.told.hit (search rules) in
    let d : c.number-of.result - 1 ≡ (view p).seat = (let n = c.number-of.ensures in omega arith) in
    let e : c.number-of.result - 1 ≡ (view q).seat = d ∙ sym c.step_14.ensures.pass.0.2 in
    let n : (unpacked c.pack-undecided.result).number ≡ (view q).attempt.number = ap (λ (s : Status). s.number) c.pack-undecided.ensures.back ∙ (c.attempts-number.ensures ∙ sym (ap (λ (x : Whole). x.view.attempt.number) is)) in
    let s : verdict_by (unpacked c.pack-succeeded.result).stage ≡ committed c.args.stamp = ap (λ (x : Status). verdict_by x.stage) c.pack-succeeded.ensures.back in (
      c.args.stamp,
      subst (λ (x : ℕ). Has (knows q).told (verdict x (committed c.args.stamp))) (ap₂ code e n)
          (subst (λ (st : Stage). Has (knows q).told (verdict (code (c.number-of.result - 1) (unpacked c.pack-undecided.result).number) st)) s
          (subst (λ (x : Whole). Has x.knows.told (verdict (code (c.number-of.result - 1) (unpacked c.pack-undecided.result).number) (verdict_by (unpacked c.pack-succeeded.result).stage))) (sym is) (0, refl))),
    )
