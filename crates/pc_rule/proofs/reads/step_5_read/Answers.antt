-- The step's lemma, at the address of the word.
use Rattle.std.proofs.Common.{ap, ◌∙◌, vec_capacity, rules, refl}
use Rattle.pc_words.specs.declared.word.WordKind.{WordKind}
use Rattle.pc_words.specs.Words.{kind}
use Rattle.pc_rule_law.specs.Board.{Size, Place, at_cell, Inside}
use Rattle.pc_rule_law.specs.Views.{View}
use Rattle.pc_rule_law.specs.Tables.{size_of}
use Rattle.pc_rule_law.proofs.Places.{within}
use Rattle.pc_exchange_law.specs.Paths.{Path}
use Rattle.pc_exchange_law.specs.WholePlays.{SeesRead}
use Rattle.pc_exchange_law.specs.Wholes.{Whole}
use Rattle.pc_exchange_law.proofs.WholePaths.{whole_read}
use Rattle.pc_rule.specs.Walking.{path_with}
use Rattle.pc_rule.proofs.Attempts.{agree_still}
use Rattle.pc_rule.proofs.HeldSlots.{slots_still}
use Rattle.pc_rule.proofs.Listing.{still_listed, still_ample}
use Rattle.pc_rule.proofs.OwnWords.{begin_still, words_still}
use Rattle.pc_rule.proofs.Telling.{told_at}
use Rattle.pc_rule.proofs.Walking.{path_moved, read_same, read_with}
use Rattle.pc_rule.proofs.reads.step_5_read.Goals as goal

pub load-requires : goal.load-requires
load-requires g c = let x : Whole = c.args.pass.now.seat.me.0 in let v : View = x.view in let z : Size = size_of c.args.board.now.table.shared.key in let p : Place = at_cell c.args.node c.args.field in let inside : Inside z p = c.requires.inside in (
  c.requires.pass.0,
  rw (c.cell_word-word.ensures, c.args.board.now.wide.0) (within z p inside),
  rw c.cell_word-word.ensures (whole_read g.H.Shape.form z _ _ c.args.pass.now.seat.me c.args.node c.args.field c.requires.pass.1 c.args.pass.now.live c.requires.held inside),
)

pub invariant_of-pass : goal.invariant_of-pass
invariant_of-pass g c = let x : Whole = c.args.pass.now.seat.me.0 in let v : View = x.view in let z : Size = size_of c.args.board.now.table.shared.key in let p : Place = at_cell c.args.node c.args.field in let inside : Inside z p = c.requires.inside in
    let t = c.load.ensures.2 in let y : Whole = c.load.new.seat.me.0 in
    let told = told_at v z c.cell_word-word.result (SeesRead x c.load.result c.load.new.seat.me.0) p c.requires.pass.1 c.load.ensures.2.2 inside c.cell_word-word.ensures in
    let same = told.0.later.same in let own = told.0.seen.learns.own in
    let k : WordKind = kind c.load.result in let kept = read_same x.path c.args.node c.args.field k in
    record {
      live = t.1.0 ∙ c.args.pass.now.live;
      numbered = t.1.1 ∙ c.args.pass.now.numbered;
      placed = begin_still _ _ _ _ t.1.4 c.args.pass.now.placed;
      counted = ap (λ (u : View). u.install) same ∙ c.args.pass.now.counted;
      tried = ap (λ (u : View). u.attempt.number) same ∙ c.args.pass.now.tried;
      pending = ap (λ (u : View). u.attempt.published) same ∙ c.args.pass.now.pending;
      written = words_still _ _ _ (ap (λ (u : View). u.attempt.words) same) c.args.pass.now.written;
      holds_none = t.0 ∙ c.args.pass.now.holds_none;
      one_attempt = agree_still x y (ap (λ (u : View). u.attempt) same) own c.args.pass.now.one_attempt;
      few = c.args.pass.now.few;
      roomy = c.args.pass.now.roomy;
      carrying = c.args.pass.now.carrying;
      ample = still_ample v y.view (vec_capacity c.args.pass.now.listed) t.1 c.args.pass.now.ample;
      listing = still_listed v y.view c.args.pass.now.listed.items t.1 c.args.pass.now.listing;
      walking = path_moved x y _ _ _ (ap (λ (q : Path). q.begun) told.1 ∙ kept.0) (ap (λ (q : Path). q.visits) told.1 ∙ kept.1) t.1.4 c.args.pass.now.walking;
      holding = slots_still x y _ (told.0.seen.learns.slots) t.1.4 c.args.pass.now.holding;
      resting = c.args.pass.now.resting;
    }

pub returns-clause-told : goal.returns-clause-told
returns-clause-told g c = let x : Whole = c.args.pass.now.seat.me.0 in let v : View = x.view in let z : Size = size_of c.args.board.now.table.shared.key in let p : Place = at_cell c.args.node c.args.field in let inside : Inside z p = c.requires.inside in
    let told = told_at v z c.cell_word-word.result (SeesRead x c.load.result c.load.new.seat.me.0) p c.requires.pass.1 c.load.ensures.2.2 inside c.cell_word-word.ensures in told.0

pub returns-clause-path : goal.returns-clause-path
returns-clause-path g c = let x : Whole = c.args.pass.now.seat.me.0 in let v : View = x.view in let z : Size = size_of c.args.board.now.table.shared.key in let p : Place = at_cell c.args.node c.args.field in let inside : Inside z p = c.requires.inside in
    let told = told_at v z c.cell_word-word.result (SeesRead x c.load.result c.load.new.seat.me.0) p c.requires.pass.1 c.load.ensures.2.2 inside c.cell_word-word.ensures in
    ap (path_with c.args.pass.now.visits.items) told.1 ∙ read_with c.args.pass.now.visits.items x.path c.args.node c.args.field (kind c.load.result)

pub returns-clause-pass : goal.returns-clause-pass
returns-clause-pass g c = let x : Whole = c.args.pass.now.seat.me.0 in let v : View = x.view in let z : Size = size_of c.args.board.now.table.shared.key in let p : Place = at_cell c.args.node c.args.field in let inside : Inside z p = c.requires.inside in
    let t = c.load.ensures.2 in let y : Whole = c.load.new.seat.me.0 in
    let told = told_at v z c.cell_word-word.result (SeesRead x c.load.result c.load.new.seat.me.0) p c.requires.pass.1 c.load.ensures.2.2 inside c.cell_word-word.ensures in
    let same = told.0.later.same in let own = told.0.seen.learns.own in
    let k : WordKind = kind c.load.result in let kept = read_same x.path c.args.node c.args.field k in
    (search rules, refl, (told.0.seen.learns.slots, refl))
