-- The step's lemma, at the address of the word.
use Rattle.std.proofs.Common.{ap, ◌∙◌, sym, refl, rules, vec_capacity}
use Rattle.pc_rule_law.specs.Board.{Size, Place, at_own, own_install, Inside}
use Rattle.pc_rule_law.specs.Plays.{with_install_word}
use Rattle.pc_rule_law.specs.Views.{OwnInstall, View}
use Rattle.pc_rule_law.specs.Tables.{size_of}
use Rattle.pc_rule_law.proofs.Places.{within}
use Rattle.pc_exchange_law.specs.WholePlays.{StoredInstall}
use Rattle.pc_exchange_law.specs.Wholes.{Whole}
use Rattle.pc_exchange_law.proofs.WholeStores.{whole_store_install}
use Rattle.pc_rule.proofs.Attempts.{agree_still}
use Rattle.pc_rule.proofs.HeldSlots.{slots_still}
use Rattle.pc_rule.proofs.Listing.{still_listed, still_ample}
use Rattle.pc_rule.proofs.OwnWords.{begin_still, words_still}
use Rattle.pc_rule.proofs.Telling.{told_at}
use Rattle.pc_rule.proofs.Walking.{path_still}
use Rattle.pc_rule.proofs.steps.step_3.Goals as goal

pub store-requires : goal.store-requires
store-requires g c = let x : Whole = c.args.pass.now.seat.me.0 in let v : View = x.view in let z : Size = size_of c.args.board.now.table.shared.key in let p : Place = at_own v.seat (own_install c.args.place) in let inside : Inside z p = (c.requires.pass.2, c.requires.place) in (
  c.requires.pass.0,
  rw (c.word_of-word.ensures, c.args.board.now.wide.0) (within z p inside),
  rw c.word_of-word.ensures (whole_store_install g.H.Shape.form z _ _ c.args.pass.now.seat.me c.args.place c.args.new c.requires.pass.1 c.args.pass.now.live c.requires.may inside),
)

pub invariant_of-pass : goal.invariant_of-pass
invariant_of-pass g c = let x : Whole = c.args.pass.now.seat.me.0 in let v : View = x.view in let z : Size = size_of c.args.board.now.table.shared.key in let p : Place = at_own v.seat (own_install c.args.place) in let inside : Inside z p = (c.requires.pass.2, c.requires.place) in
    let t = c.store.ensures.2 in let y : Whole = c.store.new.seat.me.0 in
    let told = told_at v z c.word_of-word.result (StoredInstall x c.args.new c.store.new.seat.me.0) p c.requires.pass.1 c.store.ensures.2.2 inside c.word_of-word.ensures refl in
    record {
      live = t.1.0 ∙ c.args.pass.now.live;
      numbered = t.1.1 ∙ c.args.pass.now.numbered;
      placed = begin_still _ _ _ _ t.1.4 c.args.pass.now.placed;
      counted = ap (λ (u : Whole). u.view.install) told ∙ (ap (λ (d : OwnInstall). with_install_word d c.args.place c.args.new) c.args.pass.now.counted ∙ sym c.set.ensures);
      tried = ap (λ (u : Whole). u.view.attempt.number) told ∙ c.args.pass.now.tried;
      pending = ap (λ (u : Whole). u.view.attempt.published) told ∙ c.args.pass.now.pending;
      written = words_still _ _ _ (ap (λ (u : Whole). u.view.attempt.words) told) c.args.pass.now.written;
      holds_none = t.0 ∙ c.args.pass.now.holds_none;
      one_attempt = agree_still x y (ap (λ (u : Whole). u.view.attempt) told) (ap (λ (u : Whole). u.knows.own) told) c.args.pass.now.one_attempt;
      few = c.args.pass.now.few;
      roomy = c.args.pass.now.roomy;
      carrying = c.args.pass.now.carrying;
      ample = still_ample v y.view (vec_capacity c.args.pass.now.listed) t.1 c.args.pass.now.ample;
      listing = still_listed v y.view c.args.pass.now.listed.items t.1 c.args.pass.now.listing;
      walking = path_still x y _ _ _ (ap (λ (u : Whole). u.path) told) t.1.4 c.args.pass.now.walking;
      holding = slots_still x y _ (ap (λ (u : Whole). u.knows.slots) told) t.1.4 c.args.pass.now.holding;
      resting = c.args.pass.now.resting;
    }

pub returns-clause-told : goal.returns-clause-told
returns-clause-told g c = let x : Whole = c.args.pass.now.seat.me.0 in let v : View = x.view in let z : Size = size_of c.args.board.now.table.shared.key in let p : Place = at_own v.seat (own_install c.args.place) in let inside : Inside z p = (c.requires.pass.2, c.requires.place) in let y : Whole = c.store.new.seat.me.0 in
    let told = told_at v z c.word_of-word.result (StoredInstall x c.args.new c.store.new.seat.me.0) p c.requires.pass.1 c.store.ensures.2.2 inside c.word_of-word.ensures refl in ap (λ (u : Whole). u.view) told

pub returns-clause-learnt : goal.returns-clause-learnt
returns-clause-learnt g c = let x : Whole = c.args.pass.now.seat.me.0 in let v : View = x.view in let z : Size = size_of c.args.board.now.table.shared.key in let p : Place = at_own v.seat (own_install c.args.place) in let inside : Inside z p = (c.requires.pass.2, c.requires.place) in let y : Whole = c.store.new.seat.me.0 in
    let told = told_at v z c.word_of-word.result (StoredInstall x c.args.new c.store.new.seat.me.0) p c.requires.pass.1 c.store.ensures.2.2 inside c.word_of-word.ensures refl in (ap (λ (u : Whole). u.knows) told, ap (λ (u : Whole). u.aim) told)

pub returns-clause-pass : goal.returns-clause-pass
returns-clause-pass g c = let x : Whole = c.args.pass.now.seat.me.0 in let v : View = x.view in let z : Size = size_of c.args.board.now.table.shared.key in let p : Place = at_own v.seat (own_install c.args.place) in let inside : Inside z p = (c.requires.pass.2, c.requires.place) in
    let t = c.store.ensures.2 in let y : Whole = c.store.new.seat.me.0 in
    let told = told_at v z c.word_of-word.result (StoredInstall x c.args.new c.store.new.seat.me.0) p c.requires.pass.1 c.store.ensures.2.2 inside c.word_of-word.ensures refl in
    (search rules, refl, (ap (λ (u : Whole). u.path) told, refl), (ap (λ (u : Whole). u.knows.slots) told, refl))
