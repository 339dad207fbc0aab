-- The step's lemma, at the address of the word.
use Rattle.std.proofs.Common.{vec_capacity, true, ◌+◌, refl, sym, ap, ◌∙◌, subst, rules, Bool, ◌≡◌, false}
use Rattle.pc_rule_law.specs.Board.{Size, Place, at_own, own_status, Inside}
use Rattle.pc_rule_law.specs.Views.{View}
use Rattle.pc_rule_law.specs.Tables.{size_of}
use Rattle.pc_rule_law.proofs.Places.{within}
use Rattle.pc_exchange_law.specs.WholePlays.{HasPublished}
use Rattle.pc_exchange_law.specs.Wholes.{Whole}
use Rattle.pc_exchange_law.proofs.WholeStores.{whole_publish_fresh}
use Rattle.pc_rule.specs.Attempts.{AgreeOnAttempt}
use Rattle.pc_rule.proofs.HeldSlots.{named_holds}
use Rattle.pc_rule.proofs.Listing.{still_listed, still_ample}
use Rattle.pc_rule.proofs.OwnWords.{begin_still, words_still}
use Rattle.pc_rule.proofs.Telling.{told_at}
use Rattle.pc_rule.proofs.Walking.{path_still}
use Rattle.pc_rule.proofs.exchanges.step_11_fresh.Goals as goal

pub store-requires : goal.store-requires
store-requires g c = let x : Whole = c.args.pass.now.seat.me.0 in let v : View = x.view in let z : Size = size_of c.args.board.now.table.shared.key in let p : Place = at_own v.seat own_status in let inside : Inside z p = (c.requires.pass.2, tt) in (
  c.requires.pass.0,
  rw (c.word_of-word.ensures, c.args.board.now.wide.0) (within z p inside),
  rw (c.word_of-word.ensures, c.requires.may.3) (whole_publish_fresh g.H.Shape.form z _ _ c.args.pass.now.seat.me c.requires.may.0 c.requires.may.1 c.requires.may.2 c.requires.pass.1 c.args.pass.now.live c.requires.may.5 c.requires.may.4 inside),
)

pub invariant_of-pass : goal.invariant_of-pass
invariant_of-pass g c = let x : Whole = c.args.pass.now.seat.me.0 in let v : View = x.view in let z : Size = size_of c.args.board.now.table.shared.key in let p : Place = at_own v.seat own_status in let inside : Inside z p = (c.requires.pass.2, tt) in
    let t = c.store.ensures.2 in let y : Whole = c.store.new.seat.me.0 in
    let told = told_at v z c.word_of-word.result (HasPublished true x c.store.new.seat.me.0) p c.requires.pass.1 c.store.ensures.2.2 inside c.word_of-word.ensures refl in let is = told.4 in
    record {
      live = t.1.0 ∙ c.args.pass.now.live;
      numbered = t.1.1 ∙ c.args.pass.now.numbered;
      placed = begin_still _ _ _ _ t.1.4 c.args.pass.now.placed;
      counted = ap (λ (u : Whole). u.view.install) is ∙ c.args.pass.now.counted;
      tried = ap (λ (u : Whole). u.view.attempt.number) is ∙ ap (λ k. k + 1) c.args.pass.now.tried;
      pending = ap (λ (u : Whole). u.view.attempt.published) is;
      written = words_still _ _ _ (ap (λ (u : Whole). u.view.attempt.words) is) c.args.pass.now.written;
      holds_none = t.0 ∙ c.args.pass.now.holds_none;
      one_attempt = subst AgreeOnAttempt (sym is) record { number = ap (λ k. k + 1) c.args.pass.now.one_attempt.number; busy = refl; words = c.args.pass.now.one_attempt.words };
      few = c.args.pass.now.few;
      roomy = c.args.pass.now.roomy;
      carrying = c.args.pass.now.carrying;
      ample = still_ample v y.view (vec_capacity c.args.pass.now.listed) t.1 c.args.pass.now.ample;
      listing = still_listed v y.view c.args.pass.now.listed.items t.1 c.args.pass.now.listing;
      walking = path_still x y _ _ _ (ap (λ (u : Whole). u.path) told.4) t.1.4 c.args.pass.now.walking;
      holding = named_holds x y _ true (ap (λ (u : Whole). u.knows.slots) told.4 ∙ ap (λ (b : Bool). record x.knows.slots { named = b }) told.8) t.1.4 c.args.pass.now.holding;
      resting = λ idle. absurd (let clash : true ≡ false = idle in cc);
    }

pub returns-clause-told : goal.returns-clause-told
returns-clause-told g c = let x : Whole = c.args.pass.now.seat.me.0 in let v : View = x.view in let z : Size = size_of c.args.board.now.table.shared.key in let p : Place = at_own v.seat own_status in let inside : Inside z p = (c.requires.pass.2, tt) in let y : Whole = c.store.new.seat.me.0 in
    let told = told_at v z c.word_of-word.result (HasPublished true x c.store.new.seat.me.0) p c.requires.pass.1 c.store.ensures.2.2 inside c.word_of-word.ensures refl in ap (λ (u : Whole). u.view) told.4

pub returns-clause-learnt : goal.returns-clause-learnt
returns-clause-learnt g c = let x : Whole = c.args.pass.now.seat.me.0 in let v : View = x.view in let z : Size = size_of c.args.board.now.table.shared.key in let p : Place = at_own v.seat own_status in let inside : Inside z p = (c.requires.pass.2, tt) in let y : Whole = c.store.new.seat.me.0 in
    let told = told_at v z c.word_of-word.result (HasPublished true x c.store.new.seat.me.0) p c.requires.pass.1 c.store.ensures.2.2 inside c.word_of-word.ensures refl in (told.0, told.1, told.2, told.3, ap (λ (u : Whole). u.knows) told.4, told.5, told.6, told.7, told.8)

pub returns-clause-aim : goal.returns-clause-aim
returns-clause-aim g c = let x : Whole = c.args.pass.now.seat.me.0 in let v : View = x.view in let z : Size = size_of c.args.board.now.table.shared.key in let p : Place = at_own v.seat own_status in let inside : Inside z p = (c.requires.pass.2, tt) in let y : Whole = c.store.new.seat.me.0 in
    let told = told_at v z c.word_of-word.result (HasPublished true x c.store.new.seat.me.0) p c.requires.pass.1 c.store.ensures.2.2 inside c.word_of-word.ensures refl in ap (λ (u : Whole). u.aim) told.4

pub returns-clause-pass : goal.returns-clause-pass
returns-clause-pass g c = let x : Whole = c.args.pass.now.seat.me.0 in let v : View = x.view in let z : Size = size_of c.args.board.now.table.shared.key in let p : Place = at_own v.seat own_status in let inside : Inside z p = (c.requires.pass.2, tt) in
    let t = c.store.ensures.2 in let y : Whole = c.store.new.seat.me.0 in
    let told = told_at v z c.word_of-word.result (HasPublished true x c.store.new.seat.me.0) p c.requires.pass.1 c.store.ensures.2.2 inside c.word_of-word.ensures refl in let is = told.4 in
    (search rules, refl, (ap (λ (u : Whole). u.path) told.4, refl))
