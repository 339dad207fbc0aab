-- The field that was read is one word more.
use Rattle.std.proofs.Common.{[], ◌∷◌, ◌++◌, refl, ap, ◌∙◌}
use Rattle.pc_rule.specs.declared.opening.Place.{Place}
use Rattle.pc_rule.specs.Passes.{whole, visits, board_size}
use Rattle.pc_path.proofs.Known.{knows_number}
use Rattle.pc_path.specs.Adds.{IsLastVisit}
use Rattle.pc_rule.specs.declared.visit.Visit.{Visit}
use Rattle.std.proofs.Common.{List, sym, subst}
use Rattle.path_race.proofs.Adding.{begun_goes, begun_listed, seated_listed, added_more}
use Rattle.path_race.proofs.listing.add_field.Goals as goal

pub add-requires-clause-known : goal.add-requires-clause-known
add-requires-clause-known c κs = let p = c.args.pass.now in let q = c.read.new.pass in let a = c.requires.added in let seen = a.words.seen in (
  a.words.version.old,
  subst (λ (l : List Visit). IsLastVisit l 1 a.words.version.old) (sym c.read.ensures.visits) a.visit,
  knows_number (board_size c.args.board.now) (whole p) (whole q) 1 a.words.version.old seen.0 c.field_in-field.result c.in-Ok.old seen.1 c.in-Ok.ensures.found,
)

pub returns-clause-seated : goal.returns-clause-seated
returns-clause-seated c = let b = c.args.board.now in let p = c.args.pass.now in let q = c.read.new.pass in let r = c.add.new.pass in let e = c.read.ensures in
    seated_listed b p q r (begun_goes b p q c.requires.added.begun e.seated.0 e.goes_on e.free e.«open») e.seated.0 c.add.ensures.only

pub returns-clause-begun : goal.returns-clause-begun
returns-clause-begun c = let b = c.args.board.now in let p = c.args.pass.now in let q = c.read.new.pass in let r = c.add.new.pass in let e = c.read.ensures in
    begun_listed b q r (begun_goes b p q c.requires.added.begun e.seated.0 e.goes_on e.free e.«open») c.add.ensures.only

pub returns-clause-added : goal.returns-clause-added
returns-clause-added c = λ yes. let b = c.args.board.now in let p = c.args.pass.now in let q = c.read.new.pass in let r = c.add.new.pass in let e = c.read.ensures in
    let a = c.requires.added in let seen = a.words.seen in
    let x : Place = record { node = 1; field = c.field_in-field.result; old = c.in-Ok.old; new = c.number_for-new.result } in
    added_more b p q r c.args.place x a
    (begun_listed b q r (begun_goes b p q a.begun e.seated.0 e.goes_on e.free e.«open») c.add.ensures.only)
    e.goes_on c.add.ensures.only.0 (ap (λ l. l.items) c.add.ensures.only.3 ∙ e.visits)
    (c.add.ensures.added ∙ ap (λ l. l.items ++ x ∷ []) e.seated.1) c.field_in-field.ensures
    record {
      node = refl;
      known = knows_number (board_size b) (whole p) (whole q) 1 a.words.version.old seen.0 c.field_in-field.result c.in-Ok.old seen.1 c.in-Ok.ensures.found;
      keeps = c.number_for-new.ensures.keeps;
    }
