-- The step's lemma, at the address of the word.
use Rattle.std.proofs.Common.{vec_capacity, ap, ◌∙◌, rules, refl}
use Rattle.pc_words.specs.declared.word.WordKind.TheVariants.{Plain}
use Rattle.pc_words.specs.Words.{kind}
use Rattle.pc_words.proofs.Words.{kind_raw}
use Rattle.pc_rule_law.specs.Board.{Size, Place, at_cell, Inside}
use Rattle.pc_rule_law.specs.Views.{View}
use Rattle.pc_rule_law.specs.Tables.{size_of}
use Rattle.pc_rule_law.proofs.Places.{within}
use Rattle.pc_exchange_law.specs.WholePlays.{FilledSpare}
use Rattle.pc_exchange_law.specs.Wholes.{Whole}
use Rattle.pc_exchange_law.proofs.WholeFills.{whole_fill}
use Rattle.pc_rule.proofs.Attempts.{agree_still}
use Rattle.pc_rule.proofs.HeldSlots.{filled_holds}
use Rattle.pc_rule.proofs.Listing.{still_listed, still_ample}
use Rattle.pc_rule.proofs.OwnWords.{begin_still, words_still}
use Rattle.pc_rule.proofs.Telling.{told_at}
use Rattle.pc_rule.proofs.Walking.{path_still}
use Rattle.pc_rule.proofs.slots.step_23.Goals as goal

pub store-requires : goal.store-requires
store-requires g c = let x : Whole = c.args.pass.now.seat.me.0 in let v : View = x.view in let z : Size = size_of c.args.board.now.table.shared.key in let p : Place = at_cell c.args.node c.args.field in let inside : Inside z p = c.requires.inside in (
  c.requires.pass.0,
  rw (c.cell_word-word.ensures, c.args.board.now.wide.0) (within z p inside),
  rw (c.cell_word-word.ensures, c.requires.may.1) (whole_fill g.H.Shape.form z _ _ c.args.pass.now.seat.me c.args.node c.args.field c.requires.may.0 c.requires.pass.1 c.args.pass.now.live c.requires.may.2 inside),
)

pub invariant_of-pass : goal.invariant_of-pass
invariant_of-pass g c = let x : Whole = c.args.pass.now.seat.me.0 in let v : View = x.view in let z : Size = size_of c.args.board.now.table.shared.key in let p : Place = at_cell c.args.node c.args.field in let inside : Inside z p = c.requires.inside in
    let t = c.store.ensures.2 in let y : Whole = c.store.new.seat.me.0 in
    let told = told_at v z c.cell_word-word.result (FilledSpare x c.args.new c.store.new.seat.me.0) p c.requires.pass.1 c.store.ensures.2.2 inside c.cell_word-word.ensures c.requires.may.0 (ap kind c.requires.may.1 ∙ kind_raw (Plain c.requires.may.0) c.requires.may.2.small) in
    record {
      live = t.1.0 ∙ c.args.pass.now.live;
      numbered = t.1.1 ∙ c.args.pass.now.numbered;
      placed = begin_still _ _ _ _ t.1.4 c.args.pass.now.placed;
      counted = ap (λ (u : Whole). u.view.install) told ∙ c.args.pass.now.counted;
      tried = ap (λ (u : Whole). u.view.attempt.number) told ∙ c.args.pass.now.tried;
      pending = ap (λ (u : Whole). u.view.attempt.published) told ∙ c.args.pass.now.pending;
      written = words_still _ _ _ (ap (λ (u : Whole). u.view.attempt.words) told) c.args.pass.now.written;
      holds_none = t.0 ∙ c.args.pass.now.holds_none;
      one_attempt = agree_still x y (ap (λ (u : Whole). u.view.attempt) told) (ap (λ (u : Whole). u.knows.own) told) c.args.pass.now.one_attempt;
      few = c.args.pass.now.few;
      roomy = c.args.pass.now.roomy;
      carrying = c.args.pass.now.carrying;
      ample = still_ample v y.view (vec_capacity c.args.pass.now.listed) t.1 c.args.pass.now.ample;
      listing = still_listed v y.view c.args.pass.now.listed.items t.1 c.args.pass.now.listing;
      walking = path_still x y _ _ _ (ap (λ (u : Whole). u.path) told) t.1.4 c.args.pass.now.walking;
      holding = filled_holds x y _ c.args.field c.requires.may.0 (ap (λ (u : Whole). u.knows.slots) told) t.1.4 c.args.pass.now.holding;
      resting = c.args.pass.now.resting;
    }

pub returns-clause-filled : goal.returns-clause-filled
returns-clause-filled g c = let x : Whole = c.args.pass.now.seat.me.0 in let v : View = x.view in let z : Size = size_of c.args.board.now.table.shared.key in let p : Place = at_cell c.args.node c.args.field in let inside : Inside z p = c.requires.inside in let y : Whole = c.store.new.seat.me.0 in
    λ n is. told_at v z c.cell_word-word.result (FilledSpare x c.args.new c.store.new.seat.me.0) p c.requires.pass.1 c.store.ensures.2.2 inside c.cell_word-word.ensures n is

pub returns-clause-pass : goal.returns-clause-pass
returns-clause-pass g c = let x : Whole = c.args.pass.now.seat.me.0 in let v : View = x.view in let z : Size = size_of c.args.board.now.table.shared.key in let p : Place = at_cell c.args.node c.args.field in let inside : Inside z p = c.requires.inside in
    let t = c.store.ensures.2 in let y : Whole = c.store.new.seat.me.0 in
    let told = told_at v z c.cell_word-word.result (FilledSpare x c.args.new c.store.new.seat.me.0) p c.requires.pass.1 c.store.ensures.2.2 inside c.cell_word-word.ensures c.requires.may.0 (ap kind c.requires.may.1 ∙ kind_raw (Plain c.requires.may.0) c.requires.may.2.small) in
    (search rules, refl, (ap (λ (u : Whole). u.path) told, refl))
