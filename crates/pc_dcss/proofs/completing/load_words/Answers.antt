-- The loads of a descriptor: their lemma, at the views that they leave.
use Rattle.std.proofs.Common.{◌≡◌, ◌∙◌, ◌+◌, ◌-◌, subst, arith}
use Rattle.pc_rule_law.specs.Plays.{InstallLoaded}
use Rattle.pc_rule.specs.Passes.{view, board_size}
use Rattle.pc_rule.proofs.BoardSizes.{few_seats}
use Rattle.pc_dcss.proofs.Staying.{notes_ranged, later_then}
use Rattle.pc_dcss.proofs.Known.{met_seat}
use Rattle.pc_dcss.proofs.Loads.{of_seat, loads_known, loads_gone}
use Rattle.pc_dcss.proofs.completing.load_words.Goals as goal
use Rattle.pc_rule.specs.Passes.{knows}
use Rattle.pc_dcss.proofs.Learnt.{learns_same}

pub overflow_add-of : goal.overflow_add-of
overflow_add-of g c = let few = few_seats c.args.board.now in
    let s = met_seat (board_size c.args.board.now) (view c.args.pass.now) few (notes_ranged c.args.board.now c.args.pass.now c.requires.pass) c.args.r.seat c.args.r.number c.requires.met in omega arith

pub step_4-op-requires-clause-of : goal.step_4-op-requires-clause-of
step_4-op-requires-clause-of g c κs within = let s = met_seat (board_size c.args.board.now) (view c.args.pass.now) (few_seats c.args.board.now) (notes_ranged c.args.board.now c.args.pass.now c.requires.pass) c.args.r.seat c.args.r.number c.requires.met in
    (omega arith, omega (arith, s))

pub step_4-place-requires-clause-of : goal.step_4-place-requires-clause-of
step_4-place-requires-clause-of g c κs within = let s = met_seat (board_size c.args.board.now) (view c.args.pass.now) (few_seats c.args.board.now) (notes_ranged c.args.board.now c.args.pass.now c.requires.pass) c.args.r.seat c.args.r.number c.requires.met in
    (omega arith, omega (arith, s))

pub step_4-old-requires-clause-of : goal.step_4-old-requires-clause-of
step_4-old-requires-clause-of g c κs within = let s = met_seat (board_size c.args.board.now) (view c.args.pass.now) (few_seats c.args.board.now) (notes_ranged c.args.board.now c.args.pass.now c.requires.pass) c.args.r.seat c.args.r.number c.requires.met in
    (omega arith, omega (arith, s))

pub step_4-number-requires-clause-of : goal.step_4-number-requires-clause-of
step_4-number-requires-clause-of g c κs within = let s = met_seat (board_size c.args.board.now) (view c.args.pass.now) (few_seats c.args.board.now) (notes_ranged c.args.board.now c.args.pass.now c.requires.pass) c.args.r.seat c.args.r.number c.requires.met in
    (omega arith, omega (arith, s))

pub returns-then-number-r-clause-removed : goal.returns-then-number-r-clause-removed
returns-then-number-r-clause-removed g c = let q = c.args.r.seat in let e : (q + 1) - 1 ≡ q = of_seat q in
    loads_gone q c.args.r.number c.step_4-op.result c.step_4-place.result c.step_4-old.result c.step_4-number.result
    (view c.args.pass.now) (view c.step_4-op.new.pass) (view c.step_4-place.new.pass) (view c.step_4-old.new.pass) (view c.step_4-number.new.pass) c.requires.met
    (subst (λ x. InstallLoaded (view c.args.pass.now) x 1 c.step_4-op.result (view c.step_4-op.new.pass)) e c.step_4-op.ensures.told)
    (subst (λ x. InstallLoaded (view c.step_4-op.new.pass) x 2 c.step_4-place.result (view c.step_4-place.new.pass)) e c.step_4-place.ensures.told)
    (subst (λ x. InstallLoaded (view c.step_4-place.new.pass) x 3 c.step_4-old.result (view c.step_4-old.new.pass)) e c.step_4-old.ensures.told)
    (subst (λ x. InstallLoaded (view c.step_4-old.new.pass) x 0 c.step_4-number.result (view c.step_4-number.new.pass)) e c.step_4-number.ensures.told)
    c.if-number-r.true

pub returns-clause-known : goal.returns-clause-known
returns-clause-known g c = let q = c.args.r.seat in let e : (q + 1) - 1 ≡ q = of_seat q in
    loads_known q c.args.r.number c.step_4-op.result c.step_4-place.result c.step_4-old.result c.step_4-number.result
    (view c.args.pass.now) (view c.step_4-op.new.pass) (view c.step_4-place.new.pass) (view c.step_4-old.new.pass) (view c.step_4-number.new.pass) c.requires.met
    (subst (λ x. InstallLoaded (view c.args.pass.now) x 1 c.step_4-op.result (view c.step_4-op.new.pass)) e c.step_4-op.ensures.told)
    (subst (λ x. InstallLoaded (view c.step_4-op.new.pass) x 2 c.step_4-place.result (view c.step_4-place.new.pass)) e c.step_4-place.ensures.told)
    (subst (λ x. InstallLoaded (view c.step_4-place.new.pass) x 3 c.step_4-old.result (view c.step_4-old.new.pass)) e c.step_4-old.ensures.told)
    (subst (λ x. InstallLoaded (view c.step_4-old.new.pass) x 0 c.step_4-number.result (view c.step_4-number.new.pass)) e c.step_4-number.ensures.told)
    c.if-number-r.false

pub returns-then-number-r-clause-later : goal.returns-then-number-r-clause-later
returns-then-number-r-clause-later g c = let v1 = view c.step_4-op.new.pass in let v2 = view c.step_4-place.new.pass in let v3 = view c.step_4-old.new.pass in let v4 = view c.step_4-number.new.pass in
    later_then (view c.args.pass.now) v1 v4 c.step_4-op.ensures.told.later (later_then v1 v2 v4 c.step_4-place.ensures.told.later (later_then v2 v3 v4 c.step_4-old.ensures.told.later c.step_4-number.ensures.told.later))

pub returns-clause-later : goal.returns-clause-later
returns-clause-later g c = let v1 = view c.step_4-op.new.pass in let v2 = view c.step_4-place.new.pass in let v3 = view c.step_4-old.new.pass in let v4 = view c.step_4-number.new.pass in
    later_then (view c.args.pass.now) v1 v4 c.step_4-op.ensures.told.later (later_then v1 v2 v4 c.step_4-place.ensures.told.later (later_then v2 v3 v4 c.step_4-old.ensures.told.later c.step_4-number.ensures.told.later))

pub returns-then-number-r-clause-learns : goal.returns-then-number-r-clause-learns
returns-then-number-r-clause-learns g c = learns_same (knows c.args.pass.now) (knows c.step_4-number.new.pass)
    (c.step_4-number.ensures.learnt.0 ∙ (c.step_4-old.ensures.learnt.0 ∙ (c.step_4-place.ensures.learnt.0 ∙ c.step_4-op.ensures.learnt.0)))

pub returns-clause-learns : goal.returns-clause-learns
returns-clause-learns g c = learns_same (knows c.args.pass.now) (knows c.step_4-number.new.pass)
    (c.step_4-number.ensures.learnt.0 ∙ (c.step_4-old.ensures.learnt.0 ∙ (c.step_4-place.ensures.learnt.0 ∙ c.step_4-op.ensures.learnt.0)))
