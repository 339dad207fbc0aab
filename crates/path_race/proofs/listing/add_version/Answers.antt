-- The version that was visited is the first word.
use Rattle.std.proofs.Common.{◌+◌, [], ◌∷◌, ◌++◌, refl, ap, ◌∙◌, inl}
use Rattle.pc_model.specs.declared.cell.Field.TheVariants.{Version}
use Rattle.pc_rule.specs.Passes.{whole, visits, board_size}
use Rattle.pc_path.proofs.Known.{last_visit, found_version}
use Rattle.path_race.proofs.Adding.{begun_goes, begun_listed, seated_listed, added_first}
use Rattle.path_race.proofs.listing.add_version.Goals as goal

pub add-requires-clause-known : goal.add-requires-clause-known
add-requires-clause-known c κs = let p = c.args.pass.now in let q = c.visit.new.pass in (
  c.in-Ok.version,
  last_visit (visits q) (visits p) 1 c.in-Ok.version c.in-Ok.ensures.visits,
  found_version (board_size c.args.board.now) (whole p) (whole q) 1 c.in-Ok.version c.in-Ok.ensures.found,
)

pub add-requires-clause-version : goal.add-requires-clause-version
add-requires-clause-version c κs = λ is. (last_visit (visits c.visit.new.pass) (visits c.args.pass.now) 1 c.in-Ok.version c.in-Ok.ensures.visits, inl refl)

pub returns-clause-seated : goal.returns-clause-seated
returns-clause-seated c = let b = c.args.board.now in let p = c.args.pass.now in let q = c.visit.new.pass in let r = c.add.new.pass in let e = c.visit.ensures in
    seated_listed b p q r (begun_goes b p q c.requires.begun.0 e.seated.0 e.goes_on e.free e.«open») e.seated.0 c.add.ensures.only

pub returns-clause-begun : goal.returns-clause-begun
returns-clause-begun c = let b = c.args.board.now in let p = c.args.pass.now in let q = c.visit.new.pass in let r = c.add.new.pass in let e = c.visit.ensures in
    begun_listed b q r (begun_goes b p q c.requires.begun.0 e.seated.0 e.goes_on e.free e.«open») c.add.ensures.only

pub returns-clause-added : goal.returns-clause-added
returns-clause-added c = λ yes. let b = c.args.board.now in let p = c.args.pass.now in let q = c.visit.new.pass in let r = c.add.new.pass in let e = c.visit.ensures in
    added_first b (whole p) q r c.in-Ok.version
    (begun_listed b q r (begun_goes b p q c.requires.begun.0 e.seated.0 e.goes_on e.free e.«open») c.add.ensures.only)
    c.add.ensures.only.0
    (c.add.ensures.added ∙ ap (λ l. l ++ record { node = 1; field = Version; old = c.in-Ok.version; new = c.in-Ok.version + 2 } ∷ []) (ap (λ l. l.items) e.seated.1 ∙ c.requires.begun.1))
    c.in-Ok.ensures.even c.in-Ok.ensures.found
    (last_visit (visits r) (visits p) 1 c.in-Ok.version (ap (λ l. l.items) c.add.ensures.only.3 ∙ c.in-Ok.ensures.visits))
