-- The step's lemma, at the address of the word.
use Rattle.std.proofs.Common.{◌-◌, ap, ◌∙◌, arith, rules, refl, vec_capacity}
use Rattle.pc_rule_law.specs.Board.{Size, Place, at_own, own_install, Inside}
use Rattle.pc_rule_law.specs.Views.{View}
use Rattle.pc_rule_law.specs.Tables.{size_of}
use Rattle.pc_rule_law.proofs.Places.{within}
use Rattle.pc_exchange_law.specs.WholePlays.{SeesInstall}
use Rattle.pc_exchange_law.specs.Wholes.{Whole}
use Rattle.pc_exchange_law.proofs.WholeLooks.{whole_load_install}
use Rattle.pc_rule.proofs.Attempts.{agree_still}
use Rattle.pc_exchange_law.specs.Passes.{PassKnows}
use Rattle.pc_rule.proofs.HeldSlots.{slots_still}
use Rattle.pc_rule.proofs.Listing.{still_listed, still_ample}
use Rattle.pc_rule.proofs.OwnWords.{begin_still, words_still}
use Rattle.pc_rule.proofs.Telling.{told_at}
use Rattle.pc_rule.proofs.Walking.{path_still}
use Rattle.pc_rule.proofs.steps.step_4.Goals as goal

pub load-requires : goal.load-requires
load-requires g c = let x : Whole = c.args.pass.now.seat.me.0 in let v : View = x.view in let z : Size = size_of c.args.board.now.table.shared.key in let p : Place = at_own (c.args.of - 1) (own_install c.args.place) in let inside : Inside z p = ((let of = c.requires.of in omega arith), c.requires.place) in (
  c.requires.pass.0,
  rw (c.own_word-word.ensures, c.args.board.now.wide.0) (within z p inside),
  rw c.own_word-word.ensures (whole_load_install g.H.Shape.form z _ _ c.args.pass.now.seat.me (c.args.of - 1) c.args.place c.requires.pass.1 c.args.pass.now.live inside),
)

pub invariant_of-pass : goal.invariant_of-pass
invariant_of-pass g c = let x : Whole = c.args.pass.now.seat.me.0 in let v : View = x.view in let z : Size = size_of c.args.board.now.table.shared.key in let p : Place = at_own (c.args.of - 1) (own_install c.args.place) in let inside : Inside z p = ((let of = c.requires.of in omega arith), c.requires.place) in
    let t = c.load.ensures.2 in let y : Whole = c.load.new.seat.me.0 in
    let told = told_at v z c.own_word-word.result (SeesInstall x c.load.result c.load.new.seat.me.0) p c.requires.pass.1 c.load.ensures.2.2 inside c.own_word-word.ensures in
    record {
      live = t.1.0 ∙ c.args.pass.now.live;
      numbered = t.1.1 ∙ c.args.pass.now.numbered;
      placed = begin_still _ _ _ _ t.1.4 c.args.pass.now.placed;
      counted = ap (λ (u : View). u.install) told.0.later.same ∙ c.args.pass.now.counted;
      tried = ap (λ (u : View). u.attempt.number) told.0.later.same ∙ c.args.pass.now.tried;
      pending = ap (λ (u : View). u.attempt.published) told.0.later.same ∙ c.args.pass.now.pending;
      written = words_still _ _ _ (ap (λ (u : View). u.attempt.words) told.0.later.same) c.args.pass.now.written;
      holds_none = t.0 ∙ c.args.pass.now.holds_none;
      one_attempt = agree_still x y (ap (λ (u : View). u.attempt) told.0.later.same) (ap (λ (k : PassKnows). k.own) told.1) c.args.pass.now.one_attempt;
      few = c.args.pass.now.few;
      roomy = c.args.pass.now.roomy;
      carrying = c.args.pass.now.carrying;
      ample = still_ample v y.view (vec_capacity c.args.pass.now.listed) t.1 c.args.pass.now.ample;
      listing = still_listed v y.view c.args.pass.now.listed.items t.1 c.args.pass.now.listing;
      walking = path_still x y _ _ _ (told.3) t.1.4 c.args.pass.now.walking;
      holding = slots_still x y _ (ap (λ (k : PassKnows). k.slots) told.1) t.1.4 c.args.pass.now.holding;
      resting = c.args.pass.now.resting;
    }

pub returns-clause-told : goal.returns-clause-told
returns-clause-told g c = let x : Whole = c.args.pass.now.seat.me.0 in let v : View = x.view in let z : Size = size_of c.args.board.now.table.shared.key in let p : Place = at_own (c.args.of - 1) (own_install c.args.place) in let inside : Inside z p = ((let of = c.requires.of in omega arith), c.requires.place) in let y : Whole = c.load.new.seat.me.0 in
    let told = told_at v z c.own_word-word.result (SeesInstall x c.load.result c.load.new.seat.me.0) p c.requires.pass.1 c.load.ensures.2.2 inside c.own_word-word.ensures in told.0

pub returns-clause-learnt : goal.returns-clause-learnt
returns-clause-learnt g c = let x : Whole = c.args.pass.now.seat.me.0 in let v : View = x.view in let z : Size = size_of c.args.board.now.table.shared.key in let p : Place = at_own (c.args.of - 1) (own_install c.args.place) in let inside : Inside z p = ((let of = c.requires.of in omega arith), c.requires.place) in let y : Whole = c.load.new.seat.me.0 in
    let told = told_at v z c.own_word-word.result (SeesInstall x c.load.result c.load.new.seat.me.0) p c.requires.pass.1 c.load.ensures.2.2 inside c.own_word-word.ensures in (told.1, told.2)

pub returns-clause-pass : goal.returns-clause-pass
returns-clause-pass g c = let x : Whole = c.args.pass.now.seat.me.0 in let v : View = x.view in let z : Size = size_of c.args.board.now.table.shared.key in let p : Place = at_own (c.args.of - 1) (own_install c.args.place) in let inside : Inside z p = ((let of = c.requires.of in omega arith), c.requires.place) in
    let t = c.load.ensures.2 in let y : Whole = c.load.new.seat.me.0 in
    let told = told_at v z c.own_word-word.result (SeesInstall x c.load.result c.load.new.seat.me.0) p c.requires.pass.1 c.load.ensures.2.2 inside c.own_word-word.ensures in
    (search rules, refl, (told.3, refl), (ap (λ (k : PassKnows). k.slots) told.1, refl))
