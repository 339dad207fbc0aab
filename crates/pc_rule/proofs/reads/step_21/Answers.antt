-- The step's lemma, at the address of the word.
use Rattle.std.proofs.Common.{List, ap, ◌∙◌, vec_capacity, rules, refl}
use Rattle.pc_model.specs.declared.cell.Field.TheVariants.{Version}
use Rattle.pc_rule_law.specs.Board.{Size, Place, at_cell, Inside}
use Rattle.pc_rule_law.specs.Views.{View}
use Rattle.pc_rule_law.specs.Tables.{size_of}
use Rattle.pc_rule_law.proofs.Places.{within}
use Rattle.pc_exchange_law.specs.WholePlays.{ChecksVisit}
use Rattle.pc_exchange_law.specs.Wholes.{Whole}
use Rattle.pc_exchange_law.proofs.WholeReads.{whole_check}
use Rattle.pc_rule.specs.declared.visit.Visit.{Visit}
use Rattle.pc_rule.proofs.Attempts.{agree_still}
use Rattle.pc_rule.proofs.HeldSlots.{slots_still}
use Rattle.pc_rule.proofs.Listing.{still_listed, still_ample}
use Rattle.pc_rule.proofs.OwnWords.{begin_still, words_still}
use Rattle.pc_rule.proofs.Telling.{told_at}
use Rattle.pc_rule.proofs.Walking.{path_moved, may_check_with, checked_with, check_stays}
use Rattle.pc_rule.proofs.reads.step_21.Goals as goal

pub load-requires : goal.load-requires
load-requires g c = let x : Whole = c.args.pass.now.seat.me.0 in let v : View = x.view in let z : Size = size_of c.args.board.now.table.shared.key in let p : Place = at_cell c.args.node Version in let inside : Inside z p = c.requires.inside in let held : List Visit = c.args.pass.now.visits.items in (
  c.requires.pass.0,
  rw (c.cell_word-word.ensures, c.args.board.now.wide.0) (within z p inside),
  rw c.cell_word-word.ensures (whole_check g.H.Shape.form z _ _ c.args.pass.now.seat.me c.args.node c.requires.pass.1 c.args.pass.now.live (may_check_with held x.path c.args.node c.requires.next) inside),
)

pub invariant_of-pass : goal.invariant_of-pass
invariant_of-pass g c = let x : Whole = c.args.pass.now.seat.me.0 in let v : View = x.view in let z : Size = size_of c.args.board.now.table.shared.key in let p : Place = at_cell c.args.node Version in let inside : Inside z p = c.requires.inside in let held : List Visit = c.args.pass.now.visits.items in
    let t = c.load.ensures.2 in let y : Whole = c.load.new.seat.me.0 in
    let told = told_at v z c.cell_word-word.result (ChecksVisit x c.load.result c.load.new.seat.me.0) p c.requires.pass.1 c.load.ensures.2.2 inside c.cell_word-word.ensures in
    let same = told.0.later.same in let own = told.0.seen.learns.own in
    let stays = check_stays x.path c.args.node c.load.result y.path y.knows (may_check_with held x.path c.args.node c.requires.next) told.1 in
    record {
      live = t.1.0 ∙ c.args.pass.now.live;
      numbered = t.1.1 ∙ c.args.pass.now.numbered;
      placed = begin_still _ _ _ _ t.1.4 c.args.pass.now.placed;
      counted = ap (λ (u : View). u.install) same ∙ c.args.pass.now.counted;
      tried = ap (λ (u : View). u.attempt.number) same ∙ c.args.pass.now.tried;
      pending = ap (λ (u : View). u.attempt.published) same ∙ c.args.pass.now.pending;
      written = words_still _ _ _ (ap (λ (u : View). u.attempt.words) same) c.args.pass.now.written;
      holds_none = t.0 ∙ c.args.pass.now.holds_none;
      one_attempt = agree_still x y (ap (λ (u : View). u.attempt) same) own c.args.pass.now.one_attempt;
      few = c.args.pass.now.few;
      roomy = c.args.pass.now.roomy;
      carrying = c.args.pass.now.carrying;
      ample = still_ample v y.view (vec_capacity c.args.pass.now.listed) t.1 c.args.pass.now.ample;
      listing = still_listed v y.view c.args.pass.now.listed.items t.1 c.args.pass.now.listing;
      walking = path_moved x y _ _ _ stays.begun stays.visits t.1.4 c.args.pass.now.walking;
      holding = slots_still x y _ (told.0.seen.learns.slots) t.1.4 c.args.pass.now.holding;
      resting = c.args.pass.now.resting;
    }

pub returns-clause-told : goal.returns-clause-told
returns-clause-told g c = let x : Whole = c.args.pass.now.seat.me.0 in let v : View = x.view in let z : Size = size_of c.args.board.now.table.shared.key in let p : Place = at_cell c.args.node Version in let inside : Inside z p = c.requires.inside in let held : List Visit = c.args.pass.now.visits.items in
    let told = told_at v z c.cell_word-word.result (ChecksVisit x c.load.result c.load.new.seat.me.0) p c.requires.pass.1 c.load.ensures.2.2 inside c.cell_word-word.ensures in told.0

pub returns-clause-checked : goal.returns-clause-checked
returns-clause-checked g c = let x : Whole = c.args.pass.now.seat.me.0 in let v : View = x.view in let z : Size = size_of c.args.board.now.table.shared.key in let p : Place = at_cell c.args.node Version in let inside : Inside z p = c.requires.inside in let held : List Visit = c.args.pass.now.visits.items in
    let y : Whole = c.load.new.seat.me.0 in
    let told = told_at v z c.cell_word-word.result (ChecksVisit x c.load.result c.load.new.seat.me.0) p c.requires.pass.1 c.load.ensures.2.2 inside c.cell_word-word.ensures in checked_with held x.path c.args.node c.load.result y.path y.knows c.requires.next told.1

pub returns-clause-pass : goal.returns-clause-pass
returns-clause-pass g c = let x : Whole = c.args.pass.now.seat.me.0 in let v : View = x.view in let z : Size = size_of c.args.board.now.table.shared.key in let p : Place = at_cell c.args.node Version in let inside : Inside z p = c.requires.inside in let held : List Visit = c.args.pass.now.visits.items in
    let t = c.load.ensures.2 in let y : Whole = c.load.new.seat.me.0 in
    let told = told_at v z c.cell_word-word.result (ChecksVisit x c.load.result c.load.new.seat.me.0) p c.requires.pass.1 c.load.ensures.2.2 inside c.cell_word-word.ensures in
    let same = told.0.later.same in let own = told.0.seen.learns.own in
    let stays = check_stays x.path c.args.node c.load.result y.path y.knows (may_check_with held x.path c.args.node c.requires.next) told.1 in
    (search rules, refl, (told.0.seen.learns.slots, refl))
