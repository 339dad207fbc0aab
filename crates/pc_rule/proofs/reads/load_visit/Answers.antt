-- The step's lemma, at the address of the word.
use Rattle.std.proofs.Common.{◌≡◌, if◌then◌else◌, Bool, sym, subst}
use Rattle.pc_model.specs.declared.cell.Field.TheVariants.{Version}
use Rattle.pc_words.specs.Words.{kind}
use Rattle.pc_rule_law.specs.Board.{Size, Place, at_cell, Inside}
use Rattle.pc_rule_law.specs.Views.{View}
use Rattle.pc_rule_law.specs.Tables.{size_of}
use Rattle.pc_rule_law.proofs.Places.{within}
use Rattle.pc_exchange_law.specs.Paths.{dropped, with_visit}
use Rattle.pc_exchange_law.specs.WholePlays.{SeesVisit}
use Rattle.pc_exchange_law.specs.Wholes.{Whole}
use Rattle.pc_exchange_law.proofs.WholePaths.{whole_visit, whole_first_visit}
use Rattle.pc_rule.proofs.Telling.{told_at}
use Rattle.pc_rule.proofs.reads.load_visit.Goals as goal

pub load-requires : goal.load-requires
load-requires g c = let x : Whole = c.args.seat.now.me.0 in let v : View = x.view in let z : Size = size_of c.args.board.now.table.shared.key in let p : Place = at_cell c.args.node Version in let inside : Inside z p = c.requires.inside in (
  c.requires.seat.0,
  rw (c.cell_word-word.ensures, c.args.board.now.wide.0) (within z p inside),
  rw c.cell_word-word.ensures (whole_first_visit g.H.Shape.form z _ _ c.args.seat.now.me c.args.node c.requires.seat.1 c.requires.open.0 c.requires.open.1 c.requires.held inside),
)

pub returns-then-first-clause-told : goal.returns-then-first-clause-told
returns-then-first-clause-told g c = let x : Whole = c.args.seat.now.me.0 in let v : View = x.view in let z : Size = size_of c.args.board.now.table.shared.key in let p : Place = at_cell c.args.node Version in let inside : Inside z p = c.requires.inside in
    let told = told_at v z c.cell_word-word.result (SeesVisit (dropped x.path) x c.load.result c.load.new.seat.me.0) p c.requires.seat.1 c.load.ensures.2.2 inside c.cell_word-word.ensures in told.0

pub returns-then-first-clause-path : goal.returns-then-first-clause-path
returns-then-first-clause-path g c = let x : Whole = c.args.seat.now.me.0 in let v : View = x.view in let z : Size = size_of c.args.board.now.table.shared.key in let p : Place = at_cell c.args.node Version in let inside : Inside z p = c.requires.inside in
    let told = told_at v z c.cell_word-word.result (SeesVisit (dropped x.path) x c.load.result c.load.new.seat.me.0) p c.requires.seat.1 c.load.ensures.2.2 inside c.cell_word-word.ensures in
    subst (λ (first : Bool). c.load.new.seat.me.0.path ≡ with_visit (if first then dropped x.path else x.path) c.args.node (kind c.load.result)) (sym c.if-first.true) told.1

pub load-requires-else-first : goal.load-requires-else-first
load-requires-else-first g c = let x : Whole = c.args.seat.now.me.0 in let v : View = x.view in let z : Size = size_of c.args.board.now.table.shared.key in let p : Place = at_cell c.args.node Version in let inside : Inside z p = c.requires.inside in (
  c.requires.seat.0,
  rw (c.cell_word-word.ensures, c.args.board.now.wide.0) (within z p inside),
  rw c.cell_word-word.ensures (whole_visit g.H.Shape.form z _ _ c.args.seat.now.me c.args.node c.requires.seat.1 c.requires.open.0 c.requires.open.1 c.requires.held inside),
)

pub returns-else-first-clause-told : goal.returns-else-first-clause-told
returns-else-first-clause-told g c = let x : Whole = c.args.seat.now.me.0 in let v : View = x.view in let z : Size = size_of c.args.board.now.table.shared.key in let p : Place = at_cell c.args.node Version in let inside : Inside z p = c.requires.inside in
    let told = told_at v z c.cell_word-word.result (SeesVisit (x.path) x c.load-else-first.result c.load-else-first.new.seat.me.0) p c.requires.seat.1 c.load-else-first.ensures.2.2 inside c.cell_word-word.ensures in told.0

pub returns-else-first-clause-path : goal.returns-else-first-clause-path
returns-else-first-clause-path g c = let x : Whole = c.args.seat.now.me.0 in let v : View = x.view in let z : Size = size_of c.args.board.now.table.shared.key in let p : Place = at_cell c.args.node Version in let inside : Inside z p = c.requires.inside in
    let told = told_at v z c.cell_word-word.result (SeesVisit (x.path) x c.load-else-first.result c.load-else-first.new.seat.me.0) p c.requires.seat.1 c.load-else-first.ensures.2.2 inside c.cell_word-word.ensures in
    subst (λ (first : Bool). c.load-else-first.new.seat.me.0.path ≡ with_visit (if first then dropped x.path else x.path) c.args.node (kind c.load-else-first.result)) (sym c.if-first.false) told.1
