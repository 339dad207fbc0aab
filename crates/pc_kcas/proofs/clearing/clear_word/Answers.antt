-- The number is put in place of the reference; and once more, where an install was found and completed.
use Rattle.std.proofs.Common.{rules, ◌<◌, arith}
use Rattle.pc_rule.specs.Passes.{whole, board_size}
use Rattle.pc_rule.proofs.BoardSizes.{few_seats}
use Rattle.pc_kcas.specs.Settling.{HasLearnt}
use Rattle.pc_kcas.proofs.Learning.{learnt_then}
use Rattle.pc_kcas.proofs.Cleared.{taken_learnt, met_taken, taken_clean, then_clean, may_put, entry_learnt, outcome_learnt}
use Rattle.pc_kcas.proofs.clearing.clear_word.Goals as goal

pub complete_found-requires-clause-met : goal.complete_found-requires-clause-met
complete_found-requires-clause-met g c = λ _ _. let o = c.args.op in let at = c.args.place in let known = c.requires.decided in
    met_taken (whole c.args.pass.now) (whole c.step_15-found.new.pass) at.node at.field c.exchange_ref-reference.result c.plain-number.result c.step_15-found.result o.seat o.number
    known.0 known.1 c.exchange_ref-reference.ensures.kind c.step_15-found.ensures.told

pub returns-then-not-complete_found-clause-learnt : goal.returns-then-not-complete_found-clause-learnt
returns-then-not-complete_found-clause-learnt g c = let at = c.args.place in let x = whole c.args.pass.now in let y = whole c.step_15-found.new.pass in
    learnt_then x y (whole c.complete_found.new.pass)
    (taken_learnt x y at.node at.field c.exchange_ref-reference.result c.plain-number.result c.step_15-found.result c.step_15-found.ensures.told) c.complete_found.ensures.learnt

pub returns-then-not-complete_found-clause-clean : goal.returns-then-not-complete_found-clause-clean
returns-then-not-complete_found-clause-clean g c = let o = c.args.op in let at = c.args.place in let known = c.requires.decided in
    c.complete_found.ensures.learnt.view.more _
    (taken_clean (whole c.args.pass.now) (whole c.step_15-found.new.pass) at.node at.field c.exchange_ref-reference.result c.plain-number.result c.step_15-found.result o.seat o.number
    known.0 known.1 c.exchange_ref-reference.ensures.kind c.step_15-found.ensures.told (c.complete_found.ensures.none c.if-not-complete_found.true))

pub step_15-requires-clause-may : goal.step_15-requires-clause-may
step_15-requires-clause-may g c = λ _ _. let o = c.args.op in let at = c.args.place in let x = whole c.args.pass.now in let y = whole c.step_15-found.new.pass in let u = whole c.complete_found.new.pass in
    let l : HasLearnt x u = learnt_then x y u
    (taken_learnt x y at.node at.field c.exchange_ref-reference.result c.plain-number.result c.step_15-found.result c.step_15-found.ensures.told) c.complete_found.ensures.learnt in
    may_put (board_size c.args.board.now) u o at c.args.won c.exchange_ref-reference.result c.plain-number.result (entry_learnt x u o at l c.requires.entry)
    (outcome_learnt x u o.seat o.number c.args.won l c.requires.decided) c.requires.attempt c.exchange_ref-reference.ensures.raw (search rules)

pub returns-clause-learnt : goal.returns-clause-learnt
returns-clause-learnt g c = let at = c.args.place in let x = whole c.args.pass.now in let y = whole c.step_15-found.new.pass in let u = whole c.complete_found.new.pass in
    let z = whole c.step_15.new.pass in
    learnt_then x u z (learnt_then x y u
    (taken_learnt x y at.node at.field c.exchange_ref-reference.result c.plain-number.result c.step_15-found.result c.step_15-found.ensures.told) c.complete_found.ensures.learnt)
    (taken_learnt u z at.node at.field c.exchange_ref-reference.result c.plain-number.result c.step_15.result c.step_15.ensures.told)

pub returns-clause-clean : goal.returns-clause-clean
returns-clause-clean g c = let o = c.args.op in let at = c.args.place in let known = c.requires.decided in
    let few = few_seats c.args.board.now in let inside : o.seat < (board_size c.args.board.now).seats = c.requires.attempt.0 in
    let found = c.complete_found.ensures.removed c.if-not-complete_found.false in
    then_clean (whole c.args.pass.now) (whole c.step_15-found.new.pass) at.node at.field c.exchange_ref-reference.result c.plain-number.result c.step_15-found.result o.seat o.number
    known.0 known.1 c.exchange_ref-reference.ensures.kind c.step_15-found.ensures.told
    (whole c.complete_found.new.pass) (whole c.step_15.new.pass) found.0 found.1 c.step_15.result (omega arith) c.complete_found.ensures.learnt found.2 found.3 c.step_15.ensures.told
