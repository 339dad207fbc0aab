-- The step's lemma, at the address of the word.
use Rattle.std.proofs.Common.{refl, ap, ◌∙◌, rules, vec_capacity}
use Rattle.pc_rule_law.specs.Board.{Size, Place, at_own, own_status, Inside}
use Rattle.pc_rule_law.specs.Views.{View, OwnAttempt}
use Rattle.pc_rule_law.specs.Tables.{size_of}
use Rattle.pc_rule_law.proofs.Places.{within}
use Rattle.pc_exchange_law.specs.WholePlays.{HasWithdrawn}
use Rattle.pc_exchange_law.specs.Wholes.{Whole}
use Rattle.pc_exchange_law.proofs.WholeDecisions.{whole_withdraw}
use Rattle.pc_rule.proofs.Attempts.{KeepsOwn, decided_keeps, tried_keeps}
use Rattle.pc_rule.proofs.HeldSlots.{slots_still}
use Rattle.pc_rule.proofs.Listing.{still_listed, still_ample}
use Rattle.pc_rule.proofs.OwnWords.{begin_still, words_still}
use Rattle.pc_rule.proofs.Telling.{told_at}
use Rattle.pc_rule.proofs.Walking.{path_still}
use Rattle.pc_rule.proofs.decisions.step_14_own.Goals as goal

pub compare_exchange-requires : goal.compare_exchange-requires
compare_exchange-requires g c = let x : Whole = c.args.pass.now.seat.me.0 in let v : View = x.view in let z : Size = size_of c.args.board.now.table.shared.key in let p : Place = at_own v.seat own_status in let inside : Inside z p = (c.requires.pass.2, tt) in (
  c.requires.pass.0,
  rw (c.word_of-word.ensures, c.args.board.now.wide.0) (within z p inside),
  rw (c.word_of-word.ensures, c.requires.may.0, c.requires.may.1) (whole_withdraw g.H.Shape.form z _ _ c.args.pass.now.seat.me c.requires.pass.1 c.args.pass.now.live inside),
)

pub invariant_of-pass : goal.invariant_of-pass
invariant_of-pass g c = let x : Whole = c.args.pass.now.seat.me.0 in let v : View = x.view in let z : Size = size_of c.args.board.now.table.shared.key in let p : Place = at_own v.seat own_status in let inside : Inside z p = (c.requires.pass.2, tt) in
    let t = c.compare_exchange.ensures.2 in let y : Whole = c.compare_exchange.new.seat.me.0 in
    let told = told_at v z c.word_of-word.result (HasWithdrawn x c.args.old c.compare_exchange.result c.compare_exchange.new.seat.me.0) p c.requires.pass.1 c.compare_exchange.ensures.2.2 inside c.word_of-word.ensures in
    let keeps : KeepsOwn x y = tried_keeps x v.seat c.args.old c.compare_exchange.result _ y told (λ e. decided_keeps x y v.seat x.knows.own.number _ e refl refl refl refl) in
    record {
      live = t.1.0 ∙ c.args.pass.now.live;
      numbered = t.1.1 ∙ c.args.pass.now.numbered;
      placed = begin_still _ _ _ _ t.1.4 c.args.pass.now.placed;
      counted = keeps.install ∙ c.args.pass.now.counted;
      tried = ap (λ (u : OwnAttempt). u.number) keeps.attempt ∙ c.args.pass.now.tried;
      pending = ap (λ (u : OwnAttempt). u.published) keeps.attempt ∙ c.args.pass.now.pending;
      written = words_still _ _ _ (ap (λ (u : OwnAttempt). u.words) keeps.attempt) c.args.pass.now.written;
      holds_none = t.0 ∙ c.args.pass.now.holds_none;
      one_attempt = keeps.agree c.args.pass.now.one_attempt;
      few = c.args.pass.now.few;
      roomy = c.args.pass.now.roomy;
      carrying = c.args.pass.now.carrying;
      ample = still_ample v y.view (vec_capacity c.args.pass.now.listed) t.1 c.args.pass.now.ample;
      listing = still_listed v y.view c.args.pass.now.listed.items t.1 c.args.pass.now.listing;
      walking = path_still x y _ _ _ (keeps.path) t.1.4 c.args.pass.now.walking;
      holding = slots_still x y _ (keeps.slots) t.1.4 c.args.pass.now.holding;
      resting = c.args.pass.now.resting;
    }

pub returns-clause-told : goal.returns-clause-told
returns-clause-told g c = let x : Whole = c.args.pass.now.seat.me.0 in let v : View = x.view in let z : Size = size_of c.args.board.now.table.shared.key in let p : Place = at_own v.seat own_status in let inside : Inside z p = (c.requires.pass.2, tt) in let y : Whole = c.compare_exchange.new.seat.me.0 in
    let told = told_at v z c.word_of-word.result (HasWithdrawn x c.args.old c.compare_exchange.result c.compare_exchange.new.seat.me.0) p c.requires.pass.1 c.compare_exchange.ensures.2.2 inside c.word_of-word.ensures in told

pub returns-clause-pass : goal.returns-clause-pass
returns-clause-pass g c = let x : Whole = c.args.pass.now.seat.me.0 in let v : View = x.view in let z : Size = size_of c.args.board.now.table.shared.key in let p : Place = at_own v.seat own_status in let inside : Inside z p = (c.requires.pass.2, tt) in
    let t = c.compare_exchange.ensures.2 in let y : Whole = c.compare_exchange.new.seat.me.0 in
    let told = told_at v z c.word_of-word.result (HasWithdrawn x c.args.old c.compare_exchange.result c.compare_exchange.new.seat.me.0) p c.requires.pass.1 c.compare_exchange.ensures.2.2 inside c.word_of-word.ensures in
    let keeps : KeepsOwn x y = tried_keeps x v.seat c.args.old c.compare_exchange.result _ y told (λ e. decided_keeps x y v.seat x.knows.own.number _ e refl refl refl refl) in
    (search rules, refl, (keeps.path, refl), (keeps.slots, refl))
