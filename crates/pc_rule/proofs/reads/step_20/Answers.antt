-- The step's lemma, at the address of the word.
use Rattle.std.proofs.Common.{List, refl, ap, ◌∙◌, vec_capacity, rules}
use Rattle.pc_rule_law.specs.Board.{Size, Place, at_clock, Inside}
use Rattle.pc_rule_law.specs.Views.{View}
use Rattle.pc_rule_law.specs.Tables.{size_of}
use Rattle.pc_rule_law.proofs.Places.{within}
use Rattle.pc_exchange_law.specs.WholePlays.{DrawsRead}
use Rattle.pc_exchange_law.specs.Wholes.{Whole}
use Rattle.pc_exchange_law.proofs.WholeReads.{whole_read_draw}
use Rattle.pc_rule.specs.declared.visit.Visit.{Visit}
use Rattle.pc_rule.specs.Walking.{path_with}
use Rattle.pc_rule.proofs.Attempts.{agree_still}
use Rattle.pc_rule.proofs.HeldSlots.{slots_still}
use Rattle.pc_rule.proofs.Listing.{still_listed, still_ample}
use Rattle.pc_rule.proofs.OwnWords.{begin_still, words_still}
use Rattle.pc_rule.proofs.Telling.{told_at}
use Rattle.pc_rule.proofs.Walking.{path_moved, stamp_with, draw_stays}
use Rattle.pc_rule.proofs.reads.step_20.Goals as goal

pub fetch_add-requires : goal.fetch_add-requires
fetch_add-requires g c = let x : Whole = c.args.pass.now.seat.me.0 in let v : View = x.view in let z : Size = size_of c.args.board.now.table.shared.key in let p : Place = at_clock in let inside : Inside z p = tt in let held : List Visit = c.args.pass.now.visits.items in (
  c.requires.pass.0,
  rw (c.args.board.now.wide.0) (within z p inside),
  whole_read_draw g.H.Shape.form z _ _ c.args.pass.now.seat.me c.requires.pass.1 c.args.pass.now.live c.requires.ready,
)

pub invariant_of-pass : goal.invariant_of-pass
invariant_of-pass g c = let x : Whole = c.args.pass.now.seat.me.0 in let v : View = x.view in let z : Size = size_of c.args.board.now.table.shared.key in let p : Place = at_clock in let inside : Inside z p = tt in let held : List Visit = c.args.pass.now.visits.items in
    let t = c.fetch_add.ensures.2 in let y : Whole = c.fetch_add.new.seat.me.0 in
    let told = told_at v z 0 (DrawsRead x c.fetch_add.result c.fetch_add.new.seat.me.0) p c.requires.pass.1 c.fetch_add.ensures.2.2 inside refl in
    let stays = draw_stays x c.fetch_add.result y told in let same = stays.view in let own = stays.own in
    record {
      live = t.1.0 ∙ c.args.pass.now.live;
      numbered = t.1.1 ∙ c.args.pass.now.numbered;
      placed = begin_still _ _ _ _ t.1.4 c.args.pass.now.placed;
      counted = ap (λ (u : View). u.install) same ∙ c.args.pass.now.counted;
      tried = ap (λ (u : View). u.attempt.number) same ∙ c.args.pass.now.tried;
      pending = ap (λ (u : View). u.attempt.published) same ∙ c.args.pass.now.pending;
      written = words_still _ _ _ (ap (λ (u : View). u.attempt.words) same) c.args.pass.now.written;
      holds_none = t.0 ∙ c.args.pass.now.holds_none;
      one_attempt = agree_still x y (ap (λ (u : View). u.attempt) same) own c.args.pass.now.one_attempt;
      few = c.args.pass.now.few;
      roomy = c.args.pass.now.roomy;
      carrying = c.args.pass.now.carrying;
      ample = still_ample v y.view (vec_capacity c.args.pass.now.listed) t.1 c.args.pass.now.ample;
      listing = still_listed v y.view c.args.pass.now.listed.items t.1 c.args.pass.now.listing;
      walking = path_moved x y _ _ _ stays.path.begun stays.path.visits t.1.4 c.args.pass.now.walking;
      holding = slots_still x y _ (stays.slots) t.1.4 c.args.pass.now.holding;
      resting = c.args.pass.now.resting;
    }

pub returns-clause-told : goal.returns-clause-told
returns-clause-told g c = let x : Whole = c.args.pass.now.seat.me.0 in let v : View = x.view in let z : Size = size_of c.args.board.now.table.shared.key in let p : Place = at_clock in let inside : Inside z p = tt in let held : List Visit = c.args.pass.now.visits.items in
    let told = told_at v z 0 (DrawsRead x c.fetch_add.result c.fetch_add.new.seat.me.0) p c.requires.pass.1 c.fetch_add.ensures.2.2 inside refl in told

pub returns-clause-drawn : goal.returns-clause-drawn
returns-clause-drawn g c = let x : Whole = c.args.pass.now.seat.me.0 in let v : View = x.view in let z : Size = size_of c.args.board.now.table.shared.key in let p : Place = at_clock in let inside : Inside z p = tt in let held : List Visit = c.args.pass.now.visits.items in
    let told = told_at v z 0 (DrawsRead x c.fetch_add.result c.fetch_add.new.seat.me.0) p c.requires.pass.1 c.fetch_add.ensures.2.2 inside refl in
    λ early. ap (λ (u : Whole). path_with held u.path) (told.stamped early) ∙ stamp_with held x.path c.fetch_add.result c.requires.visited

pub returns-clause-refused : goal.returns-clause-refused
returns-clause-refused g c = let x : Whole = c.args.pass.now.seat.me.0 in let v : View = x.view in let z : Size = size_of c.args.board.now.table.shared.key in let p : Place = at_clock in let inside : Inside z p = tt in let held : List Visit = c.args.pass.now.visits.items in
    let told = told_at v z 0 (DrawsRead x c.fetch_add.result c.fetch_add.new.seat.me.0) p c.requires.pass.1 c.fetch_add.ensures.2.2 inside refl in
    λ late. ap (λ (u : Whole). path_with held u.path) (told.refused late)

pub returns-clause-pass : goal.returns-clause-pass
returns-clause-pass g c = let x : Whole = c.args.pass.now.seat.me.0 in let v : View = x.view in let z : Size = size_of c.args.board.now.table.shared.key in let p : Place = at_clock in let inside : Inside z p = tt in let held : List Visit = c.args.pass.now.visits.items in
    let t = c.fetch_add.ensures.2 in let y : Whole = c.fetch_add.new.seat.me.0 in
    let told = told_at v z 0 (DrawsRead x c.fetch_add.result c.fetch_add.new.seat.me.0) p c.requires.pass.1 c.fetch_add.ensures.2.2 inside refl in
    let stays = draw_stays x c.fetch_add.result y told in let same = stays.view in let own = stays.own in
    (search rules, refl, (stays.slots, refl))
