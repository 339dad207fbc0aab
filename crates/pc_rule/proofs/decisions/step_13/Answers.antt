-- The step's lemma, at the address of the word.
use Rattle.std.proofs.Common.{ℕ, refl, sym, ap, ◌∙◌, subst, rules, vec_capacity}
use Rattle.pc_rule_law.specs.Board.{Size, Place, at_clock, Inside}
use Rattle.pc_rule_law.specs.Views.{View, OwnAttempt}
use Rattle.pc_rule_law.specs.Tables.{size_of}
use Rattle.pc_rule_law.proofs.Places.{within}
use Rattle.pc_exchange_law.specs.WholePlays.{Draws}
use Rattle.pc_exchange_law.specs.Wholes.{Whole}
use Rattle.pc_exchange_law.proofs.WholeDraws.{whole_draw}
use Rattle.pc_exchange_law.specs.ExchangeConditions.{MayDrawFor}
use Rattle.pc_exchange_law.specs.Knowing.{after_draw}
use Rattle.pc_exchange_law.specs.Ties.{code}
use Rattle.pc_rule.proofs.Attempts.{KeepsOwn, drawn_or_not}
use Rattle.pc_rule.proofs.HeldSlots.{slots_still}
use Rattle.pc_rule.proofs.Listing.{still_listed, still_ample}
use Rattle.pc_rule.proofs.OwnWords.{begin_still, words_still}
use Rattle.pc_rule.proofs.Telling.{told_at}
use Rattle.pc_rule.proofs.Walking.{path_still}
use Rattle.pc_rule.proofs.decisions.step_13.Goals as goal

pub fetch_add-requires : goal.fetch_add-requires
fetch_add-requires g c = let x : Whole = c.args.pass.now.seat.me.0 in let v : View = x.view in let z : Size = size_of c.args.board.now.table.shared.key in let p : Place = at_clock in let inside : Inside z p = tt in (
  c.requires.pass.0,
  rw (c.args.board.now.wide.0) (within z p inside),
  whole_draw g.H.Shape.form z _ _ c.args.pass.now.seat.me c.requires.pass.1 c.args.pass.now.live (subst (λ (i : ℕ × ℕ). MayDrawFor v x.knows i.0 i.1) (sym c.requires.may.0) c.requires.may.1),
)

pub invariant_of-pass : goal.invariant_of-pass
invariant_of-pass g c = let x : Whole = c.args.pass.now.seat.me.0 in let v : View = x.view in let z : Size = size_of c.args.board.now.table.shared.key in let p : Place = at_clock in let inside : Inside z p = tt in
    let t = c.fetch_add.ensures.2 in let y : Whole = c.fetch_add.new.seat.me.0 in
    let told = told_at v z 0 (Draws x c.fetch_add.result c.fetch_add.new.seat.me.0) p c.requires.pass.1 c.fetch_add.ensures.2.2 inside refl in
    let keeps : KeepsOwn x y = drawn_or_not x c.fetch_add.result y told in
    record {
      live = t.1.0 ∙ c.args.pass.now.live;
      numbered = t.1.1 ∙ c.args.pass.now.numbered;
      placed = begin_still _ _ _ _ t.1.4 c.args.pass.now.placed;
      counted = keeps.install ∙ c.args.pass.now.counted;
      tried = ap (λ (u : OwnAttempt). u.number) keeps.attempt ∙ c.args.pass.now.tried;
      pending = ap (λ (u : OwnAttempt). u.published) keeps.attempt ∙ c.args.pass.now.pending;
      written = words_still _ _ _ (ap (λ (u : OwnAttempt). u.words) keeps.attempt) c.args.pass.now.written;
      holds_none = t.0 ∙ c.args.pass.now.holds_none;
      one_attempt = keeps.agree c.args.pass.now.one_attempt;
      few = c.args.pass.now.few;
      roomy = c.args.pass.now.roomy;
      carrying = c.args.pass.now.carrying;
      ample = still_ample v y.view (vec_capacity c.args.pass.now.listed) t.1 c.args.pass.now.ample;
      listing = still_listed v y.view c.args.pass.now.listed.items t.1 c.args.pass.now.listing;
      walking = path_still x y _ _ _ (keeps.path) t.1.4 c.args.pass.now.walking;
      holding = slots_still x y _ (keeps.slots) t.1.4 c.args.pass.now.holding;
      resting = c.args.pass.now.resting;
    }

pub returns-clause-drawn : goal.returns-clause-drawn
returns-clause-drawn g c = let x : Whole = c.args.pass.now.seat.me.0 in let v : View = x.view in let z : Size = size_of c.args.board.now.table.shared.key in let p : Place = at_clock in let inside : Inside z p = tt in let y : Whole = c.fetch_add.new.seat.me.0 in
    let told = told_at v z 0 (Draws x c.fetch_add.result c.fetch_add.new.seat.me.0) p c.requires.pass.1 c.fetch_add.ensures.2.2 inside refl in λ lt. told.drawn lt ∙ ap (λ (i : ℕ × ℕ). record x { knows = after_draw x.knows (code i.0 i.1) c.fetch_add.result }) c.requires.may.0

pub returns-clause-refused : goal.returns-clause-refused
returns-clause-refused g c = let x : Whole = c.args.pass.now.seat.me.0 in let v : View = x.view in let z : Size = size_of c.args.board.now.table.shared.key in let p : Place = at_clock in let inside : Inside z p = tt in let y : Whole = c.fetch_add.new.seat.me.0 in
    let told = told_at v z 0 (Draws x c.fetch_add.result c.fetch_add.new.seat.me.0) p c.requires.pass.1 c.fetch_add.ensures.2.2 inside refl in told.refused

pub returns-clause-pass : goal.returns-clause-pass
returns-clause-pass g c = let x : Whole = c.args.pass.now.seat.me.0 in let v : View = x.view in let z : Size = size_of c.args.board.now.table.shared.key in let p : Place = at_clock in let inside : Inside z p = tt in
    let t = c.fetch_add.ensures.2 in let y : Whole = c.fetch_add.new.seat.me.0 in
    let told = told_at v z 0 (Draws x c.fetch_add.result c.fetch_add.new.seat.me.0) p c.requires.pass.1 c.fetch_add.ensures.2.2 inside refl in
    let keeps : KeepsOwn x y = drawn_or_not x c.fetch_add.result y told in
    (search rules, refl, (keeps.path, refl), (keeps.slots, refl))
