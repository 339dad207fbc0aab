-- The word is one of the own exchange, which took effect.
use Rattle.std.proofs.Common.{rules, ◌≡◌, ℕ, List, sym, ap, ap₂, ◌∙◌, subst}
use mathlib.Core.Option.{some}
use lib.ListN.{get_elem?}
use Rattle.pc_words.specs.declared.word.WordKind.TheVariants.{Exchange}
use Rattle.pc_words.specs.Words.{raw}
use Rattle.pc_protocol.specs.Histories.{committed}
use Rattle.pc_protocol.specs.Notes.{verdict}
use Rattle.pc_rule_law.specs.Past.{Has}
use Rattle.pc_rule_law.specs.Views.{OwnAttempt, clean}
use Rattle.pc_exchange_law.specs.Ties.{code}
use Rattle.pc_rule.specs.declared.opening.Place.{Place}
use Rattle.pc_rule.specs.Passes.{whole, view, knows, listed}
use Rattle.pc_rule.proofs.Calls.{read_at}
use Rattle.board_trials.proofs.OwnSteps.{may_take_read, later_attempt, told_still}
use Rattle.board_trials.proofs.Staying.{free_later}
use Rattle.board_trials.proofs.deciding.replaced.Goals as goal

pub step_15-requires-clause-may : goal.step_15-requires-clause-may
step_15-requires-clause-may c κs = let p = c.args.pass.now in let of = c.requires.pass in (
  (view p).seat,
  (view p).attempt.number,
  _,
  c.exchange_ref-old.ensures.raw ∙ ap₂ (λ (a b : ℕ). raw (Exchange a b)) c.seat_of.ensures.seat c.attempts.ensures,
  c.plain-new.ensures.raw,
  (of.2, c.requires.published.number),
  may_take_read (whole p) (listed p) c.requires.published p.one_attempt c.listed.result.now c.args.i c.requires.succeeded.0 _ c.listed.ensures c.requires.index c.requires.succeeded.1,
)

pub returns-clause-attempt : goal.returns-clause-attempt
returns-clause-attempt c = later_attempt (view c.args.pass.now) (view c.step_15.new.pass) c.step_15.ensures.told.later.same

pub returns-clause-free : goal.returns-clause-free
returns-clause-free c = free_later (view c.args.pass.now) (view c.step_15.new.pass) c.step_15.ensures.told.later c.requires.free

pub returns-clause-keeps : goal.returns-clause-keeps
returns-clause-keeps c = c.step_15.ensures.told.later.more

pub returns-clause-succeeded : goal.returns-clause-succeeded
returns-clause-succeeded c = let p = c.args.pass.now in let q = c.step_15.new.pass in let s = c.requires.succeeded in
    let attempt = (later_attempt (view p) (view q) c.step_15.ensures.told.later.same).0 in (
      s.0,
      subst (λ (x : ℕ). Has (knows q).told (verdict x (committed s.0))) (ap₂ code (sym c.step_15.ensures.pass.0.2) (sym (ap (λ (a : OwnAttempt). a.number) attempt)))
          (told_still (whole p) _ _ _ _ c.step_15.result (whole q) c.step_15.ensures.told (verdict (code (view p).seat (view p).attempt.number) (committed s.0)) s.1),
    )

pub returns-clause-clean : goal.returns-clause-clean
returns-clause-clean c hits = λ x at. let p = c.args.pass.now in let q = c.step_15.new.pass in
    let attempt = (later_attempt (view p) (view q) c.step_15.ensures.told.later.same).0 in
    let there = c.step_15.ensures.told.cleaned (search rules) c.seat_of.result c.attempts.result c.exchange_ref-old.ensures.kind in
    let read = read_at c.listed.result.now c.args.i x _ (subst (λ (l : List Place). get_elem? l c.args.i ≡ some x) (ap (λ v. v.items) c.step_15.ensures.pass.1 ∙ sym c.listed.ensures) at) in
    subst (λ (s : ℕ). Has (view q).notes (clean s (view q).attempt.number x.node x.field)) (c.seat_of.ensures.seat ∙ sym c.step_15.ensures.pass.0.2)
    (subst (λ (a : ℕ). Has (view q).notes (clean c.seat_of.result a x.node x.field)) (c.attempts.ensures ∙ sym (ap (λ (o : OwnAttempt). o.number) attempt))
    (subst (λ (r : Place). Has (view q).notes (clean c.seat_of.result c.attempts.result r.node r.field)) read there))
