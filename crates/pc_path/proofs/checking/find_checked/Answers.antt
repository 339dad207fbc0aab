-- The load tells a version, by which the visit is checked, or a reference that is made to leave the word.
use Rattle.std.proofs.Common.{List, rules, sym, ap, ◌∙◌, subst}
use Rattle.pc_model.specs.declared.cell.Field.TheVariants.{Version}
use Rattle.pc_exchange_law.specs.Paths.{Path, MayCheck}
use Rattle.pc_exchange_law.specs.WholePlays.{PathChecked}
use Rattle.pc_rule.specs.declared.visit.Visit.{Visit}
use Rattle.pc_rule.specs.Passes.{whole, board_size, knows, path}
use Rattle.pc_rule.proofs.Walking.{check_stays}
use Rattle.pc_kcas.specs.Bounds.{most_in_help}
use Rattle.pc_kcas.proofs.Evidence.{goes_then}
use Rattle.pc_path.specs.Checks.{IsAfterVisits}
use Rattle.pc_path.proofs.Checked.{reference_checks_none, is_after}
use Rattle.pc_path.proofs.Counted.{found_bounded, way_bounded}
use Rattle.pc_path.proofs.Found.{cell_goes, cell_free, in_the_way}
use Rattle.pc_path.proofs.Paths.{path_kept, visits_kept}
use Rattle.pc_path.proofs.checking.find_checked.Goals as goal

pub returns-in-Ok-clause-goes_on : goal.returns-in-Ok-clause-goes_on
returns-in-Ok-clause-goes_on g c = let x0 = whole c.args.pass.now in let x = whole c.loop-version.pass in let y = whole c.step_21-found.new.pass in
    goes_then x0 x y c.loop-version.invariant.goes (cell_goes x y c.args.node Version c.step_21-found.result c.step_21-found.ensures.told)

pub returns-in-Ok-clause-free : goal.returns-in-Ok-clause-free
returns-in-Ok-clause-free g c = let x = whole c.loop-version.pass in let y = whole c.step_21-found.new.pass in
    cell_free x y c.args.node Version c.step_21-found.result c.step_21-found.ensures.told c.loop-version.invariant.free

pub returns-in-Ok-clause-begun : goal.returns-in-Ok-clause-begun
returns-in-Ok-clause-begun g c = let inv = c.loop-version.invariant in let q = c.step_21-found.new.pass in
    (check_stays (path c.loop-version.pass) c.args.node c.step_21-found.result (path q) (knows q)
    (subst (λ (p : Path). MayCheck p c.args.node) (sym inv.path) c.requires.next) c.step_21-found.ensures.checked).begun ∙ ap (λ (p : Path). p.begun) inv.path

pub returns-in-Ok-clause-checked : goal.returns-in-Ok-clause-checked
returns-in-Ok-clause-checked g c = let q = c.step_21-found.new.pass in (
  c.step_21-found.result,
  c.in-Ok.ensures.number,
  subst (λ (p : Path). PathChecked p c.step_21-found.result (path q) (knows q)) c.loop-version.invariant.path c.step_21-found.ensures.checked,
)

pub returns-in-Ok-clause-after : goal.returns-in-Ok-clause-after
returns-in-Ok-clause-after g c = subst (λ (l : List Visit). IsAfterVisits l c.args.node c.in-Ok.version) c.loop-version.invariant.visits
    (is_after c.loop-version.pass (whole c.step_21-found.new.pass) c.args.node c.step_21-found.result c.in-Ok.version c.step_21-found.ensures.told c.in-Ok.ensures.number)

pub make_way-requires-clause-met : goal.make_way-requires-clause-met
make_way-requires-clause-met g c = λ _ _. let x0 = whole c.args.pass.now in let x = whole c.loop-version.pass in let y = whole c.step_21-found.new.pass in
    let inv = c.loop-version.invariant in (
      x0.view,
      c.args.node,
      Version,
      in_the_way x y c.args.node Version c.step_21-found.result c.step_21-found.ensures.told c.in-Err.reference c.in-Err.ensures.reference
          x0.view c.loop-version.met inv.goes.adds inv.free inv.made,
    )

pub returns-in_err-met-in-Err-clause-goes_on : goal.returns-in_err-met-in-Err-clause-goes_on
returns-in_err-met-in-Err-clause-goes_on g c = let x0 = whole c.args.pass.now in let x = whole c.loop-version.pass in let y = whole c.step_21-found.new.pass in
    let z = whole c.make_way.new.pass in
    goes_then x0 y z (goes_then x0 x y c.loop-version.invariant.goes (cell_goes x y c.args.node Version c.step_21-found.result c.step_21-found.ensures.told)) c.make_way.ensures.goes_on

pub returns-in_err-met-in-Err-clause-begun : goal.returns-in_err-met-in-Err-clause-begun
returns-in_err-met-in-Err-clause-begun g c = let inv = c.loop-version.invariant in let q = c.step_21-found.new.pass in
    ap (λ (p : Path). p.begun) (path_kept q c.make_way.new.pass c.make_way.ensures.pass.2)
    ∙ ((check_stays (path c.loop-version.pass) c.args.node c.step_21-found.result (path q) (knows q)
    (subst (λ (p : Path). MayCheck p c.args.node) (sym inv.path) c.requires.next) c.step_21-found.ensures.checked).begun ∙ ap (λ (p : Path). p.begun) inv.path)

pub returns-in_err-met-in-Err-clause-busy : goal.returns-in_err-met-in-Err-clause-busy
returns-in_err-met-in-Err-clause-busy g c = let x0 = whole c.args.pass.now in let x = whole c.loop-version.pass in let y = whole c.step_21-found.new.pass in
    let inv = c.loop-version.invariant in
    let busy = c.in_err-met-in-Err.ensures.busy x0.view c.args.node Version
    (in_the_way x y c.args.node Version c.step_21-found.result c.step_21-found.ensures.told c.in-Err.reference c.in-Err.ensures.reference
    x0.view c.loop-version.met inv.goes.adds inv.free inv.made) in search rules

pub loop-version-preserved : goal.loop-version-preserved
loop-version-preserved g c = let x0 = whole c.args.pass.now in let x = whole c.loop-version.pass in let y = whole c.step_21-found.new.pass in
    let z = whole c.make_way.new.pass in let inv = c.loop-version.invariant in let s = c.step_21-found.ensures in let r = c.in-Err.reference in
    let q = c.step_21-found.new.pass in record {
      seated = search rules;
      path = path_kept q c.make_way.new.pass c.make_way.ensures.pass.2
          ∙ (reference_checks_none (path c.loop-version.pass) c.args.node c.step_21-found.result (path q) (knows q)
          (subst (λ (p : Path). MayCheck p c.args.node) (sym inv.path) c.requires.next) s.checked r.kind r.seat r.number c.in-Err.ensures.reference ∙ inv.path);
      visits = visits_kept q c.make_way.new.pass c.make_way.ensures.pass.2 ∙ (s.visits ∙ inv.visits);
      goes = goes_then x0 y z (goes_then x0 x y inv.goes (cell_goes x y c.args.node Version c.step_21-found.result s.told)) c.make_way.ensures.goes_on;
      free = c.make_way.ensures.free;
      bounded = way_bounded (board_size c.args.board.now) (whole c.args.pass.now) (whole c.loop-version.pass) (whole c.step_21-found.new.pass) c.args.node Version c.step_21-found.result c.step_21-found.ensures.told c.loop-version.met c.loop-version.invariant.bounded
          (whole c.make_way.new.pass) _ c.in_ok-met-in-Err.ensures.most;
      made = c.in_ok-met-in-Err.ensures.made x0.view c.args.node Version
          (in_the_way x y c.args.node Version c.step_21-found.result s.told r c.in-Err.ensures.reference x0.view c.loop-version.met inv.goes.adds inv.free inv.made);
    }

pub returns-in-Ok-clause-bounded : goal.returns-in-Ok-clause-bounded
returns-in-Ok-clause-bounded g c = found_bounded (board_size c.args.board.now) (whole c.args.pass.now) (whole c.loop-version.pass) (whole c.step_21-found.new.pass) c.args.node Version c.step_21-found.result c.step_21-found.ensures.told c.loop-version.met c.loop-version.invariant.bounded

pub returns-in_err-met-in-Err-clause-bounded : goal.returns-in_err-met-in-Err-clause-bounded
returns-in_err-met-in-Err-clause-bounded g c = way_bounded (board_size c.args.board.now) (whole c.args.pass.now) (whole c.loop-version.pass) (whole c.step_21-found.new.pass) c.args.node Version c.step_21-found.result c.step_21-found.ensures.told c.loop-version.met c.loop-version.invariant.bounded
    (whole c.make_way.new.pass) (most_in_help (board_size c.args.board.now)) c.in_err-met-in-Err.ensures.bounded
