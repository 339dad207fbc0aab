-- What was loaded of an install that was met is in range, so its words are known.
use Rattle.pc_rule_law.specs.Board.{Size}
use Rattle.pc_rule_law.specs.Views.{View, NoteInRange, AllNotes}
use Rattle.pc_rule.specs.Passes.{view, board_size}
use Rattle.pc_rule.proofs.BoardSizes.{few_seats, few_slots}
use Rattle.pc_dcss.specs.Installs.{KnowsWords}
use Rattle.pc_rule.proofs.Calls.{pass_stays}
use Rattle.pc_dcss.proofs.Staying.{notes_ranged, later_then}
use Rattle.pc_dcss.proofs.Known.{Refers, refers, place_small, knows_words}
use Rattle.pc_dcss.proofs.completing.complete.Goals as goal
use Rattle.pc_rule.specs.Passes.{knows}
use Rattle.pc_dcss.proofs.Learnt.{learns_then}

pub words_of-words-requires-clause-word : goal.words_of-words-requires-clause-word
words_of-words-requires-clause-word g c = let b = c.args.board.now in let p = c.load_words.new.pass in
    let ranged : AllNotes (NoteInRange (board_size b)) (view p).notes = notes_ranged b p (pass_stays b c.args.pass.now p c.requires.pass c.load_words.ensures.pass.0) in
    (refers (board_size b) (view p) (few_seats b) ranged c.args.r.seat c.args.r.number c.in-Some.words.op c.in-Some.ensures.known.0).word

pub words_of-words-requires-clause-exchange : goal.words_of-words-requires-clause-exchange
words_of-words-requires-clause-exchange g c = let b = c.args.board.now in let p = c.load_words.new.pass in
    let ranged : AllNotes (NoteInRange (board_size b)) (view p).notes = notes_ranged b p (pass_stays b c.args.pass.now p c.requires.pass c.load_words.ensures.pass.0) in
    let r : Refers (board_size b) c.in-Some.words.op = refers (board_size b) (view p) (few_seats b) ranged c.args.r.seat c.args.r.number c.in-Some.words.op c.in-Some.ensures.known.0 in
    (r.seat, r.number, r.as_kind)

pub words_of-words-requires-clause-place : goal.words_of-words-requires-clause-place
words_of-words-requires-clause-place g c = let b = c.args.board.now in let p = c.load_words.new.pass in
    let ranged : AllNotes (NoteInRange (board_size b)) (view p).notes = notes_ranged b p (pass_stays b c.args.pass.now p c.requires.pass c.load_words.ensures.pass.0) in
    place_small (board_size b) (view p) (few_seats b) ranged c.args.r.seat c.args.r.number c.in-Some.words.place (few_slots b) c.in-Some.ensures.known.1

pub take-requires-clause-known : goal.take-requires-clause-known
take-requires-clause-known g c κs within = let b = c.args.board.now in let p = c.load_words.new.pass in
    let z : Size = board_size b in let v : View = view p in let w = c.words_of-words.result in
    let ranged : AllNotes (NoteInRange z) v.notes = notes_ranged b p (pass_stays b c.args.pass.now p c.requires.pass c.load_words.ensures.pass.0) in
    let known : KnowsWords z v c.args.r.seat c.args.r.number w.op.seat w.op.number w.node w.field c.in-Some.words.old =
    knows_words z v (few_seats b) ranged c.args.r.seat c.args.r.number w.op.seat w.op.number w.node w.field c.in-Some.words.op c.in-Some.words.place c.in-Some.words.old
    c.in-Some.ensures.known c.words_of-words.ensures.op c.words_of-words.ensures.place in
    rw c.words_of-words.ensures.old known

pub returns-in-Some-clause-later : goal.returns-in-Some-clause-later
returns-in-Some-clause-later g c = later_then (view c.args.pass.now) (view c.load_words.new.pass) (view c.take.new.pass) c.load_words.ensures.later c.take.ensures.later

pub returns-in-Some-clause-learns : goal.returns-in-Some-clause-learns
returns-in-Some-clause-learns g c = learns_then (knows c.args.pass.now) (knows c.load_words.new.pass) (knows c.take.new.pass) c.load_words.ensures.learns c.take.ensures.learns
