-- The step's lemma, at the address of the word.
use Rattle.std.proofs.Common.{◌≡◌, if◌then◌else◌, Bool, sym, subst}
use Rattle.pc_rule_law.specs.Board.{Size, Place, at_epoch, Inside}
use Rattle.pc_rule_law.specs.Views.{View}
use Rattle.pc_rule_law.specs.Tables.{size_of}
use Rattle.pc_rule_law.proofs.Places.{within}
use Rattle.pc_exchange_law.specs.Paths.{begun_path, ended_path}
use Rattle.pc_exchange_law.specs.WholePlays.{BeginsPath, EndsPath}
use Rattle.pc_exchange_law.specs.Wholes.{Whole}
use Rattle.pc_exchange_law.proofs.WholePaths.{whole_begin_path, whole_end_path}
use Rattle.pc_rule.proofs.Telling.{told_at}
use Rattle.pc_rule.proofs.reads.load_epoch.Goals as goal

pub load-requires : goal.load-requires
load-requires g c = let x : Whole = c.args.seat.now.me.0 in let v : View = x.view in let z : Size = size_of c.args.board.now.table.shared.key in let p : Place = at_epoch in let inside : Inside z p = tt in (
  c.requires.seat.0,
  rw (c.epoch_word-word.ensures, c.args.board.now.wide.0) (within z p inside),
  rw c.epoch_word-word.ensures (whole_end_path g.H.Shape.form z _ _ c.args.seat.now.me c.requires.seat.1 c.requires.live),
)

pub returns-then-begun-clause-told : goal.returns-then-begun-clause-told
returns-then-begun-clause-told g c = let x : Whole = c.args.seat.now.me.0 in let v : View = x.view in let z : Size = size_of c.args.board.now.table.shared.key in let p : Place = at_epoch in let inside : Inside z p = tt in
    let told = told_at v z c.epoch_word-word.result (EndsPath x c.load.new.seat.me.0) p c.requires.seat.1 c.load.ensures.2.2 inside c.epoch_word-word.ensures in
    subst (λ (begun : Bool). c.load.new.seat.me.0 ≡ record x { path = if begun then ended_path else begun_path }) (sym c.if-begun.true) told

pub load-requires-else-begun : goal.load-requires-else-begun
load-requires-else-begun g c = let x : Whole = c.args.seat.now.me.0 in let v : View = x.view in let z : Size = size_of c.args.board.now.table.shared.key in let p : Place = at_epoch in let inside : Inside z p = tt in (
  c.requires.seat.0,
  rw (c.epoch_word-word.ensures, c.args.board.now.wide.0) (within z p inside),
  rw c.epoch_word-word.ensures (whole_begin_path g.H.Shape.form z _ _ c.args.seat.now.me c.requires.seat.1 c.requires.live),
)

pub returns-else-begun-clause-told : goal.returns-else-begun-clause-told
returns-else-begun-clause-told g c = let x : Whole = c.args.seat.now.me.0 in let v : View = x.view in let z : Size = size_of c.args.board.now.table.shared.key in let p : Place = at_epoch in let inside : Inside z p = tt in
    let told = told_at v z c.epoch_word-word.result (BeginsPath x c.load-else-begun.new.seat.me.0) p c.requires.seat.1 c.load-else-begun.ensures.2.2 inside c.epoch_word-word.ensures in
    subst (λ (begun : Bool). c.load-else-begun.new.seat.me.0 ≡ record x { path = if begun then ended_path else begun_path }) (sym c.if-begun.false) told
