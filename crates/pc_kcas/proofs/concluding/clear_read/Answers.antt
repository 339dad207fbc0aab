-- The word is read, and then it is cleared.
use Rattle.pc_rule.specs.Passes.{whole, view, board_size, IsPassOf}
use Rattle.pc_rule.proofs.Calls.{pass_stays}
use Rattle.pc_dcss.proofs.Puts.{place_ranged}
use Rattle.pc_dcss.proofs.Staying.{notes_ranged}
use Rattle.pc_kcas.proofs.Concluded.{clean_word_of}
use Rattle.pc_kcas.proofs.Courses.{decided_noted, past_over}
use Rattle.pc_kcas.proofs.Learning.{learnt_by, learnt_then}
use Rattle.pc_kcas.proofs.concluding.clear_read.Goals as goal

pub clear_word-requires-clause-attempt : goal.clear_word-requires-clause-attempt
clear_word-requires-clause-attempt g c = λ _ _. let b = c.args.board.now in let q = c.read_place.new.pass in
    let of : IsPassOf b q = pass_stays b c.args.pass.now q c.requires.pass c.read_place.ensures.pass.0 in
    (place_ranged (board_size b) (view q) of.1 (notes_ranged b q of) c.args.op c.in-Ok.place c.in-Ok.ensures.place).0

pub clear_word-requires-clause-fits : goal.clear_word-requires-clause-fits
clear_word-requires-clause-fits g c = λ _ _. let b = c.args.board.now in let q = c.read_place.new.pass in
    let of : IsPassOf b q = pass_stays b c.args.pass.now q c.requires.pass c.read_place.ensures.pass.0 in
    let r = place_ranged (board_size b) (view q) of.1 (notes_ranged b q of) c.args.op c.in-Ok.place c.in-Ok.ensures.place in (r.1, r.2, r.3)

pub returns-in-Ok-clause-learnt : goal.returns-in-Ok-clause-learnt
returns-in-Ok-clause-learnt g c = let x = whole c.args.pass.now in let y = whole c.read_place.new.pass in
    learnt_then x y (whole c.clear_word.new.pass) (learnt_by x y c.read_place.ensures.later c.read_place.ensures.learns) c.clear_word.ensures.learnt

pub returns-in-Ok-clause-clean : goal.returns-in-Ok-clause-clean
returns-in-Ok-clause-clean g c =
    clean_word_of (whole c.read_place.new.pass) (whole c.clear_word.new.pass) c.args.op c.args.i c.in-Ok.place c.clear_word.ensures.learnt c.in-Ok.ensures.entry c.clear_word.ensures.clean

pub returns-in-Err-clause-past : goal.returns-in-Err-clause-past
returns-in-Err-clause-past g c = let e = c.in-Err.ensures in let q = c.read_place.new.pass in
    past_over (whole q) c.args.op c.in-Err.status e.over e.ahead (decided_noted (view c.args.pass.now) (view q) c.args.op.seat c.args.op.number e.decided) e.passed
