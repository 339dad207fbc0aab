-- The version that was visited and the value that was read since are known.
use Rattle.std.proofs.Common.{◌≡◌, [], ◌∷◌, ◌++◌, refl, sym, ap, ◌∙◌, subst, inl}
use Rattle.pc_model.specs.declared.cell.Field.TheVariants.{Version, Value}
use Rattle.pc_rule_law.specs.Conditions.{IsFree}
use Rattle.pc_exchange_law.specs.ExchangeConditions.{KnowsOld}
use Rattle.pc_exchange_law.specs.Paths.{Path}
use Rattle.pc_rule.specs.Passes.{whole, view, knows, path, visits, listed, board_size, IsSeatedAs}
use Rattle.pc_rule.proofs.Calls.{only_listed, pass_stays}
use Rattle.pc_kcas.proofs.Finished.{seated_then}
use Rattle.pc_kcas.proofs.Evidence.{goes_then}
use Rattle.pc_kcas.specs.Obstacles.{GoesOn}
use Rattle.pc_path.specs.Adds.{IsLastVisit}
use Rattle.pc_path.proofs.Known.{last_visit, version_told, knows_version, knows_number, same_path}
use Rattle.path_trials.proofs.Adding.{raised, revalued, both_added}
use Rattle.path_trials.proofs.acting.added.Goals as goal

pub add-requires-clause-known : goal.add-requires-clause-known
add-requires-clause-known c κs = let p = c.args.pass.now in let q = c.visit.new.pass in let r = c.read.new.pass in (
  c.in-Ok.version,
  last_visit (visits r) (visits p) 1 c.in-Ok.version (c.read.ensures.visits ∙ c.in-Ok.ensures.visits),
  knows_version (board_size c.args.board.now) (whole p) (whole q) (whole r) 1 c.in-Ok.version c.in-Ok.ensures.found c.read.ensures.goes_on,
)

pub add-requires-clause-version : goal.add-requires-clause-version
add-requires-clause-version c κs = λ is. (
  last_visit (visits c.read.new.pass) (visits c.args.pass.now) 1 c.in-Ok.version (c.read.ensures.visits ∙ c.in-Ok.ensures.visits),
  inl refl,
)

pub add-requires-2-clause-pass : goal.add-requires-2-clause-pass
add-requires-2-clause-pass c κs = let b = c.args.board.now in let p = c.args.pass.now in let r = c.read.new.pass in let s = c.add.new.pass in
    let of = pass_stays b c.visit.new.pass r (pass_stays b p c.visit.new.pass c.requires.pass c.visit.ensures.seated.0) c.read.ensures.seated.0 in
    pass_stays b r s of (only_listed b r s of c.add.ensures.only)

pub add-requires-2-clause-known : goal.add-requires-2-clause-known
add-requires-2-clause-known c κs = let p = c.args.pass.now in let q = c.visit.new.pass in let r = c.read.new.pass in let s = c.add.new.pass in
    let told = version_told (whole p) (whole q) 1 c.in-Ok.version c.in-Ok.ensures.found in (
      c.in-Ok.version,
      last_visit (visits s) (visits p) 1 c.in-Ok.version (ap (λ v. v.items) c.add.ensures.only.3 ∙ (c.read.ensures.visits ∙ c.in-Ok.ensures.visits)),
      subst (λ k. KnowsOld (board_size c.args.board.now) k 1 c.in-Ok.version Value c.in-Ok-read.value) (sym (ap (λ t. t.me.0.knows) c.add.ensures.only.0))
          (knows_number (board_size c.args.board.now) (whole q) (whole r) 1 c.in-Ok.version told.0 Value c.in-Ok-read.value told.1 c.in-Ok-read.ensures.found),
    )

pub returns-clause-seated : goal.returns-clause-seated
returns-clause-seated c = let b = c.args.board.now in let p = c.args.pass.now in let q = c.visit.new.pass in let r = c.read.new.pass in let s = c.add.new.pass in let t = c.add-2.new.pass in
    let of = pass_stays b q r (pass_stays b p q c.requires.pass c.visit.ensures.seated.0) c.read.ensures.seated.0 in
    let first = only_listed b r s of c.add.ensures.only in
    seated_then p s t (seated_then p r s (seated_then p q r c.visit.ensures.seated.0 c.read.ensures.seated.0) first)
    (only_listed b s t (pass_stays b r s of first) c.add-2.ensures.only)

pub returns-clause-free : goal.returns-clause-free
returns-clause-free c = subst IsFree (sym (ap (λ s. s.me.0.view) (c.add-2.ensures.only.0 ∙ c.add.ensures.only.0))) c.read.ensures.free

pub returns-clause-added : goal.returns-clause-added
returns-clause-added c = let p = c.args.pass.now in let q = c.visit.new.pass in let r = c.read.new.pass in let t = c.add-2.new.pass in let z = board_size c.args.board.now in
    let same = c.add-2.ensures.only.0 ∙ c.add.ensures.only.0 in let is = ap (λ s. s.me.0) same in
    let still = c.add-2.ensures.only.3 ∙ c.add.ensures.only.3 in
    let goes : GoesOn (whole p) (whole t) = subst (GoesOn (whole p)) (sym is) (goes_then (whole p) (whole q) (whole r) c.visit.ensures.goes_on c.read.ensures.goes_on) in
    let told = version_told (whole p) (whole q) 1 c.in-Ok.version c.in-Ok.ensures.found in
    let v = c.in-Ok.version in let x = c.in-Ok-read.value in
    both_added c.args.board.now p t v x c.from.result c.requires.begun goes
    (ap (λ (u : Path). u.begun) (same_path r t same still) ∙ c.read.ensures.«open»)
    (c.add-2.ensures.added ∙ ap (λ l. l ++ revalued x c.from.result ∷ []) (c.add.ensures.added ∙ ap (λ l. l ++ raised v ∷ []) (ap (λ l. l.items) (c.read.ensures.seated.1 ∙ c.visit.ensures.seated.1) ∙ c.requires.begun.unlisted)))
    c.in-Ok.ensures.even
    (subst (λ w. KnowsOld z w.knows 1 v Version v) (sym is) (knows_version z (whole p) (whole q) (whole r) 1 v c.in-Ok.ensures.found c.read.ensures.goes_on))
    (subst (λ w. KnowsOld z w.knows 1 v Value x) (sym is) (knows_number z (whole q) (whole r) 1 v told.0 Value x told.1 c.in-Ok-read.ensures.found))
