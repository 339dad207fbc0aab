-- One word more is held, or one can't be.
use Rattle.std.proofs.Common.{rules, ◌≡◌, ◌+◌, length, subst, sym, arith}
use mathlib.Core.Logic.{dite}
use native.Mathlib.Decide.{ℕ_discrete}
use Rattle.pc_rule.specs.Passes.{whole, view, listed, board_size}
use Rattle.pc_kcas.specs.Exchanges.{IsHeldAt}
use Rattle.pc_kcas.proofs.Counted.{words_next, words_all}
use Rattle.pc_kcas.proofs.Evidence.{goes_then}
use Rattle.pc_kcas.proofs.Finished.{met_since, all_held, held_below}
use Rattle.pc_kcas.proofs.Holding.{held_still, held_since}
use Rattle.pc_kcas.proofs.finishing.hold_listed.Goals as goal

pub loop-at-preserved : goal.loop-at-preserved
loop-at-preserved g c = let inv = c.loop-at.invariant in let e = c.hold_at.ensures in let o = c.args.pass.now in let p = c.loop-at.pass in let q = c.hold_at.new.pass in record {
  few = search rules;
  same = search rules;
  goes_on = goes_then (whole o) (whole p) (whole q) inv.goes_on e.goes_on;
  free = e.free;
  published = e.published;
  bounded = words_next (board_size c.args.board.now) c.loop-at.at (view o) (view p) (view q) inv.bounded e.bounded;
  held = λ i lt. dite (ℕ_discrete i c.loop-at.at)
      (λ (here : i ≡ c.loop-at.at). subst (IsHeldAt o q) (sym here) (held_since o p q c.loop-at.at inv.goes_on.adds c.in-None.ensures.held))
      (λ other. held_still o p q i e.pass e.goes_on.attempt e.goes_on.adds (inv.held i (omega arith)));
}

pub returns-in-Some-clause-goes_on : goal.returns-in-Some-clause-goes_on
returns-in-Some-clause-goes_on g c = goes_then (whole c.args.pass.now) (whole c.loop-at.pass) (whole c.hold_at.new.pass) c.loop-at.invariant.goes_on c.hold_at.ensures.goes_on

pub returns-in-Some-clause-met : goal.returns-in-Some-clause-met
returns-in-Some-clause-met g c = met_since (board_size c.args.board.now).seats c.args.pass.now c.loop-at.pass c.hold_at.new.pass c.loop-at.at c.in-Some.obstacle c.loop-at.invariant.goes_on.adds c.in-Some.ensures.met

pub returns-in-Some-clause-before : goal.returns-in-Some-clause-before
returns-in-Some-clause-before g c = let e = c.hold_at.ensures in let o = c.args.pass.now in let p = c.loop-at.pass in let q = c.hold_at.new.pass in
    held_below o q c.loop-at.at e.published (search rules) (λ i lt. held_still o p q i e.pass e.goes_on.attempt e.goes_on.adds (c.loop-at.invariant.held i lt))

pub returns-clause-held : goal.returns-clause-held
returns-clause-held g c = all_held c.args.pass.now c.loop-at.pass (λ i lt. c.loop-at.invariant.held i (search rules))

pub returns-in-Some-clause-bounded : goal.returns-in-Some-clause-bounded
returns-in-Some-clause-bounded g c = let z = board_size c.args.board.now in let o = c.args.pass.now in let p = c.loop-at.pass in let q = c.hold_at.new.pass in let inv = c.loop-at.invariant in
    words_all z (c.loop-at.at + 1) (length (listed o)) (view o) (view q) (search rules)
    (words_next z c.loop-at.at (view o) (view p) (view q) inv.bounded c.hold_at.ensures.bounded)

pub returns-clause-bounded : goal.returns-clause-bounded
returns-clause-bounded g c = let z = board_size c.args.board.now in let o = c.args.pass.now in let p = c.loop-at.pass in let inv = c.loop-at.invariant in
    words_all z c.loop-at.at (length (listed o)) (view o) (view p) (search rules) inv.bounded
