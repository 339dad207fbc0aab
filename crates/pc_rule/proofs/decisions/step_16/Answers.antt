-- The step's lemma, at the address of the word.
use Rattle.std.proofs.Common.{refl, sym, ap, ◌∙◌, subst, rules, vec_capacity}
use Rattle.pc_rule_law.specs.Board.{Size, Place, at_own, own_status, Inside}
use Rattle.pc_rule_law.specs.Views.{View}
use Rattle.pc_rule_law.specs.Tables.{size_of}
use Rattle.pc_rule_law.proofs.Places.{within}
use Rattle.pc_exchange_law.specs.WholePlays.{HasCleared}
use Rattle.pc_exchange_law.specs.Wholes.{Whole}
use Rattle.pc_exchange_law.proofs.WholeStores.{whole_clear}
use Rattle.pc_rule.specs.HeldSlots.{HoldsSlots}
use Rattle.pc_rule.specs.declared.held_slots.HeldSlots.{HeldSlots}
use Rattle.pc_rule.specs.Attempts.{AgreeOnAttempt}
use Rattle.pc_rule.proofs.HeldSlots.{cleared_holds}
use Rattle.pc_rule.proofs.Listing.{still_listed, still_ample}
use Rattle.pc_rule.proofs.OwnWords.{begin_still, words_still}
use Rattle.pc_rule.proofs.Telling.{told_at}
use Rattle.pc_rule.proofs.Walking.{path_still}
use Rattle.pc_rule.proofs.decisions.step_16.Goals as goal

pub store-requires : goal.store-requires
store-requires g c = let x : Whole = c.args.pass.now.seat.me.0 in let v : View = x.view in let z : Size = size_of c.args.board.now.table.shared.key in let p : Place = at_own v.seat own_status in let inside : Inside z p = (c.requires.pass.2, tt) in (
  c.requires.pass.0,
  rw (c.word_of-word.ensures, c.args.board.now.wide.0) (within z p inside),
  rw (c.word_of-word.ensures, c.requires.may.0) (whole_clear g.H.Shape.form z _ _ c.args.pass.now.seat.me c.requires.pass.1 c.args.pass.now.live c.requires.may.1 inside),
)

pub invariant_of-pass : goal.invariant_of-pass
invariant_of-pass g c = let x : Whole = c.args.pass.now.seat.me.0 in let v : View = x.view in let z : Size = size_of c.args.board.now.table.shared.key in let p : Place = at_own v.seat own_status in let inside : Inside z p = (c.requires.pass.2, tt) in
    let t = c.store.ensures.2 in let y : Whole = c.store.new.seat.me.0 in
    let told = told_at v z c.word_of-word.result (HasCleared x c.store.new.seat.me.0) p c.requires.pass.1 c.store.ensures.2.2 inside c.word_of-word.ensures refl c.requires.may.1.stage c.requires.may.1.decided in
    record {
      live = t.1.0 ∙ c.args.pass.now.live;
      numbered = t.1.1 ∙ c.args.pass.now.numbered;
      placed = begin_still _ _ _ _ t.1.4 c.args.pass.now.placed;
      counted = ap (λ (u : Whole). u.view.install) told ∙ c.args.pass.now.counted;
      tried = ap (λ (u : Whole). u.view.attempt.number) told ∙ c.args.pass.now.tried;
      pending = ap (λ (u : Whole). u.view.attempt.published) told;
      written = words_still _ _ _ (ap (λ (u : Whole). u.view.attempt.words) told) c.args.pass.now.written;
      holds_none = t.0 ∙ c.args.pass.now.holds_none;
      one_attempt = subst AgreeOnAttempt (sym told) record { number = c.args.pass.now.one_attempt.number; busy = refl; words = c.args.pass.now.one_attempt.words };
      few = c.args.pass.now.few;
      roomy = c.args.pass.now.roomy;
      carrying = c.args.pass.now.carrying;
      ample = still_ample v y.view (vec_capacity c.args.pass.now.listed) t.1 c.args.pass.now.ample;
      listing = still_listed v y.view c.args.pass.now.listed.items t.1 c.args.pass.now.listing;
      walking = path_still x y _ _ _ (ap (λ (u : Whole). u.path) told) t.1.4 c.args.pass.now.walking;
      holding = subst (HoldsSlots y) (sym c.cleared-pass.ensures) (cleared_holds x y _ c.requires.outcome.0 (ap (λ (u : Whole). u.knows.slots) (told_at v z c.word_of-word.result (HasCleared x c.store.new.seat.me.0) p c.requires.pass.1 c.store.ensures.2.2 inside c.word_of-word.ensures refl c.requires.outcome.0 c.requires.outcome.1)) c.requires.outcome.2 t.1.4 c.args.pass.now.holding);
      resting = λ _. ap (λ (s : HeldSlots). s.named) c.cleared-pass.ensures;
    }

pub returns-clause-told : goal.returns-clause-told
returns-clause-told g c = let x : Whole = c.args.pass.now.seat.me.0 in let v : View = x.view in let z : Size = size_of c.args.board.now.table.shared.key in let p : Place = at_own v.seat own_status in let inside : Inside z p = (c.requires.pass.2, tt) in let y : Whole = c.store.new.seat.me.0 in
    let told = told_at v z c.word_of-word.result (HasCleared x c.store.new.seat.me.0) p c.requires.pass.1 c.store.ensures.2.2 inside c.word_of-word.ensures refl in told

pub returns-clause-pass : goal.returns-clause-pass
returns-clause-pass g c = let x : Whole = c.args.pass.now.seat.me.0 in let v : View = x.view in let z : Size = size_of c.args.board.now.table.shared.key in let p : Place = at_own v.seat own_status in let inside : Inside z p = (c.requires.pass.2, tt) in
    let t = c.store.ensures.2 in let y : Whole = c.store.new.seat.me.0 in
    let told = told_at v z c.word_of-word.result (HasCleared x c.store.new.seat.me.0) p c.requires.pass.1 c.store.ensures.2.2 inside c.word_of-word.ensures refl c.requires.may.1.stage c.requires.may.1.decided in
    (search rules, refl, (ap (λ (u : Whole). u.path) told, refl))
