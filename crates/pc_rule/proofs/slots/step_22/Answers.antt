-- The step's lemma, at the address of the word.
use Rattle.std.proofs.Common.{vec_capacity, sym, ap, ◌∙◌, rules, refl}
use Rattle.pc_model.specs.declared.cell.Field.TheVariants.{Version}
use Rattle.pc_rule_law.specs.Board.{Size, Place, at_cell, Inside}
use Rattle.pc_rule_law.specs.Views.{View}
use Rattle.pc_rule_law.specs.Tables.{size_of}
use Rattle.pc_rule_law.proofs.Places.{within}
use Rattle.pc_exchange_law.specs.WholePlays.{TakesSlot}
use Rattle.pc_exchange_law.specs.Wholes.{Whole}
use Rattle.pc_exchange_law.proofs.WholeSlots.{whole_take_slot}
use Rattle.pc_rule.proofs.Attempts.{agree_still}
use Rattle.pc_rule.proofs.HeldSlots.{taken_holds, plain_word, plain_same}
use Rattle.pc_rule.proofs.Listing.{still_listed, still_ample}
use Rattle.pc_rule.proofs.OwnWords.{begin_still, words_still}
use Rattle.pc_rule.proofs.Telling.{told_at}
use Rattle.pc_rule.proofs.Walking.{path_still}
use Rattle.pc_rule.proofs.slots.step_22.Goals as goal

pub load-found-requires : goal.load-found-requires
load-found-requires g c = let x : Whole = c.args.pass.now.seat.me.0 in let v : View = x.view in let z : Size = size_of c.args.board.now.table.shared.key in let p : Place = at_cell c.args.node Version in let inside : Inside z p = c.requires.inside in (
  c.requires.pass.0,
  rw (c.cell_word-word.ensures, c.args.board.now.wide.0) (within z p inside),
  rw c.cell_word-word.ensures (whole_take_slot g.H.Shape.form z _ _ c.args.pass.now.seat.me c.args.node c.requires.pass.1 c.args.pass.now.live c.requires.may inside),
)

pub plain_in-version-requires-clause-word : goal.plain_in-version-requires-clause-word
plain_in-version-requires-clause-word g c = let x : Whole = c.args.pass.now.seat.me.0 in let v : View = x.view in let z : Size = size_of c.args.board.now.table.shared.key in let p : Place = at_cell c.args.node Version in let inside : Inside z p = c.requires.inside in
    let told = told_at v z c.cell_word-word.result (TakesSlot x c.load-found.result c.load-found.new.seat.me.0) p c.requires.pass.1 c.load-found.ensures.2.2 inside c.cell_word-word.ensures in plain_word c.load-found.result told.0 told.1

pub plain_in-version-requires-clause-plain : goal.plain_in-version-requires-clause-plain
plain_in-version-requires-clause-plain g c = let x : Whole = c.args.pass.now.seat.me.0 in let v : View = x.view in let z : Size = size_of c.args.board.now.table.shared.key in let p : Place = at_cell c.args.node Version in let inside : Inside z p = c.requires.inside in
    let told = told_at v z c.cell_word-word.result (TakesSlot x c.load-found.result c.load-found.new.seat.me.0) p c.requires.pass.1 c.load-found.ensures.2.2 inside c.cell_word-word.ensures in (told.0, told.1)

pub invariant_of-pass : goal.invariant_of-pass
invariant_of-pass g c = let x : Whole = c.args.pass.now.seat.me.0 in let v : View = x.view in let z : Size = size_of c.args.board.now.table.shared.key in let p : Place = at_cell c.args.node Version in let inside : Inside z p = c.requires.inside in
    let t = c.load-found.ensures.2 in let y : Whole = c.load-found.new.seat.me.0 in
    let told = told_at v z c.cell_word-word.result (TakesSlot x c.load-found.result c.load-found.new.seat.me.0) p c.requires.pass.1 c.load-found.ensures.2.2 inside c.cell_word-word.ensures in
    record {
      live = t.1.0 ∙ c.args.pass.now.live;
      numbered = t.1.1 ∙ c.args.pass.now.numbered;
      placed = begin_still _ _ _ _ t.1.4 c.args.pass.now.placed;
      counted = ap (λ (u : Whole). u.view.install) told.4 ∙ c.args.pass.now.counted;
      tried = ap (λ (u : Whole). u.view.attempt.number) told.4 ∙ c.args.pass.now.tried;
      pending = ap (λ (u : Whole). u.view.attempt.published) told.4 ∙ c.args.pass.now.pending;
      written = words_still _ _ _ (ap (λ (u : Whole). u.view.attempt.words) told.4) c.args.pass.now.written;
      holds_none = t.0 ∙ c.args.pass.now.holds_none;
      one_attempt = agree_still x y (ap (λ (u : Whole). u.view.attempt) told.4) (ap (λ (u : Whole). u.knows.own) told.4) c.args.pass.now.one_attempt;
      few = c.args.pass.now.few;
      roomy = c.args.pass.now.roomy;
      carrying = c.args.pass.now.carrying;
      ample = still_ample v y.view (vec_capacity c.args.pass.now.listed) t.1 c.args.pass.now.ample;
      listing = still_listed v y.view c.args.pass.now.listed.items t.1 c.args.pass.now.listing;
      walking = path_still x y _ _ _ (ap (λ (u : Whole). u.path) told.4) t.1.4 c.args.pass.now.walking;
      holding = taken_holds x y _ c.args.node told.0 _ (ap (λ (u : Whole). u.knows.slots) told.4) told.3 (plain_same c.plain_in-version.result told.0 (sym c.plain_in-version.ensures ∙ told.1)) t.1.4 c.requires.may.next c.requires.may.within c.args.pass.now.holding;
      resting = λ _. refl;
    }

pub returns-clause-taken : goal.returns-clause-taken
returns-clause-taken g c = let x : Whole = c.args.pass.now.seat.me.0 in let v : View = x.view in let z : Size = size_of c.args.board.now.table.shared.key in let p : Place = at_cell c.args.node Version in let inside : Inside z p = c.requires.inside in let y : Whole = c.load-found.new.seat.me.0 in
    let told = told_at v z c.cell_word-word.result (TakesSlot x c.load-found.result c.load-found.new.seat.me.0) p c.requires.pass.1 c.load-found.ensures.2.2 inside c.cell_word-word.ensures in
    (told.0, told.1, told.2, told.4)

pub returns-clause-pass : goal.returns-clause-pass
returns-clause-pass g c = let x : Whole = c.args.pass.now.seat.me.0 in let v : View = x.view in let z : Size = size_of c.args.board.now.table.shared.key in let p : Place = at_cell c.args.node Version in let inside : Inside z p = c.requires.inside in
    let t = c.load-found.ensures.2 in let y : Whole = c.load-found.new.seat.me.0 in
    let told = told_at v z c.cell_word-word.result (TakesSlot x c.load-found.result c.load-found.new.seat.me.0) p c.requires.pass.1 c.load-found.ensures.2.2 inside c.cell_word-word.ensures in
    (search rules, refl, (ap (λ (u : Whole). u.path) told.4, refl))
