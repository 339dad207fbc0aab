-- The step's lemma, at the address of the word.
use Rattle.std.proofs.Common.{ap, ◌∙◌, rules, refl, vec_capacity}
use Rattle.pc_rule_law.specs.Board.{Size, Place, at_cell, Inside}
use Rattle.pc_rule_law.specs.Views.{View}
use Rattle.pc_rule_law.specs.Tables.{size_of}
use Rattle.pc_rule_law.proofs.Places.{within}
use Rattle.pc_exchange_law.specs.WholePlays.{TookReference}
use Rattle.pc_exchange_law.specs.Wholes.{Whole}
use Rattle.pc_exchange_law.proofs.WholeReferences.{whole_take_reference}
use Rattle.pc_rule.proofs.Attempts.{agree_still, reference_own, reference_slots}
use Rattle.pc_rule.proofs.HeldSlots.{slots_still}
use Rattle.pc_rule.proofs.Listing.{still_listed, still_ample}
use Rattle.pc_rule.proofs.OwnWords.{begin_still, words_still}
use Rattle.pc_rule.proofs.Telling.{told_at}
use Rattle.pc_rule.proofs.Walking.{path_still}
use Rattle.pc_rule.proofs.decisions.step_15.Goals as goal

pub compare_exchange-requires : goal.compare_exchange-requires
compare_exchange-requires g c = let x : Whole = c.args.pass.now.seat.me.0 in let v : View = x.view in let z : Size = size_of c.args.board.now.table.shared.key in let p : Place = at_cell c.args.node c.args.field in let inside : Inside z p = c.requires.inside in (
  c.requires.pass.0,
  rw (c.cell_word-word.ensures, c.args.board.now.wide.0) (within z p inside),
  rw (c.cell_word-word.ensures, c.requires.may.3, c.requires.may.4) (whole_take_reference g.H.Shape.form z _ _ c.args.pass.now.seat.me c.args.node c.args.field c.requires.may.0 c.requires.may.1 c.requires.may.2 c.requires.pass.1 c.args.pass.now.live c.requires.may.5 c.requires.may.6 inside),
)

pub invariant_of-pass : goal.invariant_of-pass
invariant_of-pass g c = let x : Whole = c.args.pass.now.seat.me.0 in let v : View = x.view in let z : Size = size_of c.args.board.now.table.shared.key in let p : Place = at_cell c.args.node c.args.field in let inside : Inside z p = c.requires.inside in
    let t = c.compare_exchange.ensures.2 in let y : Whole = c.compare_exchange.new.seat.me.0 in
    let told = told_at v z c.cell_word-word.result (TookReference x c.args.old c.args.new c.compare_exchange.result c.compare_exchange.new.seat.me.0) p c.requires.pass.1 c.compare_exchange.ensures.2.2 inside c.cell_word-word.ensures in
    record {
      live = t.1.0 ∙ c.args.pass.now.live;
      numbered = t.1.1 ∙ c.args.pass.now.numbered;
      placed = begin_still _ _ _ _ t.1.4 c.args.pass.now.placed;
      counted = ap (λ (u : View). u.install) told.later.same ∙ c.args.pass.now.counted;
      tried = ap (λ (u : View). u.attempt.number) told.later.same ∙ c.args.pass.now.tried;
      pending = ap (λ (u : View). u.attempt.published) told.later.same ∙ c.args.pass.now.pending;
      written = words_still _ _ _ (ap (λ (u : View). u.attempt.words) told.later.same) c.args.pass.now.written;
      holds_none = t.0 ∙ c.args.pass.now.holds_none;
      one_attempt = agree_still x y (ap (λ (u : View). u.attempt) told.later.same) (reference_own x c.args.node c.args.field c.args.old c.args.new c.compare_exchange.result y told) c.args.pass.now.one_attempt;
      few = c.args.pass.now.few;
      roomy = c.args.pass.now.roomy;
      carrying = c.args.pass.now.carrying;
      ample = still_ample v y.view (vec_capacity c.args.pass.now.listed) t.1 c.args.pass.now.ample;
      listing = still_listed v y.view c.args.pass.now.listed.items t.1 c.args.pass.now.listing;
      walking = path_still x y _ _ _ (told.path) t.1.4 c.args.pass.now.walking;
      holding = slots_still x y _ (reference_slots x c.args.node c.args.field c.args.old c.args.new c.compare_exchange.result y told) t.1.4 c.args.pass.now.holding;
      resting = c.args.pass.now.resting;
    }

pub returns-clause-told : goal.returns-clause-told
returns-clause-told g c = let x : Whole = c.args.pass.now.seat.me.0 in let v : View = x.view in let z : Size = size_of c.args.board.now.table.shared.key in let p : Place = at_cell c.args.node c.args.field in let inside : Inside z p = c.requires.inside in let y : Whole = c.compare_exchange.new.seat.me.0 in
    let told = told_at v z c.cell_word-word.result (TookReference x c.args.old c.args.new c.compare_exchange.result c.compare_exchange.new.seat.me.0) p c.requires.pass.1 c.compare_exchange.ensures.2.2 inside c.cell_word-word.ensures in told

pub returns-clause-pass : goal.returns-clause-pass
returns-clause-pass g c = let x : Whole = c.args.pass.now.seat.me.0 in let v : View = x.view in let z : Size = size_of c.args.board.now.table.shared.key in let p : Place = at_cell c.args.node c.args.field in let inside : Inside z p = c.requires.inside in
    let t = c.compare_exchange.ensures.2 in let y : Whole = c.compare_exchange.new.seat.me.0 in
    let told = told_at v z c.cell_word-word.result (TookReference x c.args.old c.args.new c.compare_exchange.result c.compare_exchange.new.seat.me.0) p c.requires.pass.1 c.compare_exchange.ensures.2.2 inside c.cell_word-word.ensures in
    (search rules, refl, (told.path, refl), (reference_slots x c.args.node c.args.field c.args.old c.args.new c.compare_exchange.result y told, refl))
