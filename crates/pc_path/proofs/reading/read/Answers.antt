-- The load tells a number, or a reference that is made to leave the word.
use Rattle.std.proofs.Common.{rules, ap, ◌∙◌}
use Rattle.pc_words.specs.Words.{kind}
use Rattle.pc_rule.specs.Passes.{whole, board_size, path}
use Rattle.pc_exchange_law.specs.Paths.{Path}
use Rattle.pc_rule.proofs.Walking.{read_same}
use Rattle.pc_kcas.specs.Bounds.{most_in_help}
use Rattle.pc_kcas.proofs.Evidence.{goes_then}
use Rattle.pc_path.proofs.Counted.{found_bounded, way_bounded}
use Rattle.pc_path.proofs.Found.{held_goes, cell_goes, cell_free, in_the_way}
use Rattle.pc_path.proofs.Paths.{reference_read, path_kept, visits_kept}
use Rattle.pc_path.proofs.reading.read.Goals as goal

pub step_5_read-found-requires-clause-held : goal.step_5_read-found-requires-clause-held
step_5_read-found-requires-clause-held g c = λ _ _. held_goes (whole c.args.pass.now) (whole c.loop-number.pass) c.args.node c.loop-number.invariant.goes c.requires.held

pub returns-in-Ok-clause-goes_on : goal.returns-in-Ok-clause-goes_on
returns-in-Ok-clause-goes_on g c = let x0 = whole c.args.pass.now in let x = whole c.loop-number.pass in let y = whole c.step_5_read-found.new.pass in
    goes_then x0 x y c.loop-number.invariant.goes (cell_goes x y c.args.node c.args.field c.step_5_read-found.result c.step_5_read-found.ensures.told)

pub returns-in-Ok-clause-free : goal.returns-in-Ok-clause-free
returns-in-Ok-clause-free g c = let x = whole c.loop-number.pass in let y = whole c.step_5_read-found.new.pass in
    cell_free x y c.args.node c.args.field c.step_5_read-found.result c.step_5_read-found.ensures.told c.loop-number.invariant.free

pub returns-in-Ok-clause-open : goal.returns-in-Ok-clause-open
returns-in-Ok-clause-open g c = let inv = c.loop-number.invariant in
    ap (λ (p : Path). p.begun) c.step_5_read-found.ensures.path
    ∙ ((read_same (path c.loop-number.pass) c.args.node c.args.field (kind c.step_5_read-found.result)).0 ∙ (ap (λ (p : Path). p.begun) inv.path ∙ c.requires.open))

pub make_way-requires-clause-met : goal.make_way-requires-clause-met
make_way-requires-clause-met g c = λ _ _. let x0 = whole c.args.pass.now in let x = whole c.loop-number.pass in let y = whole c.step_5_read-found.new.pass in
    let inv = c.loop-number.invariant in (
      x0.view,
      c.args.node,
      c.args.field,
      in_the_way x y c.args.node c.args.field c.step_5_read-found.result c.step_5_read-found.ensures.told c.in-Err.reference c.in-Err.ensures.reference
          x0.view c.loop-number.met inv.goes.adds inv.free inv.made,
    )

pub returns-in_err-met-in-Err-clause-goes_on : goal.returns-in_err-met-in-Err-clause-goes_on
returns-in_err-met-in-Err-clause-goes_on g c = let x0 = whole c.args.pass.now in let x = whole c.loop-number.pass in let y = whole c.step_5_read-found.new.pass in
    let z = whole c.make_way.new.pass in
    goes_then x0 y z (goes_then x0 x y c.loop-number.invariant.goes (cell_goes x y c.args.node c.args.field c.step_5_read-found.result c.step_5_read-found.ensures.told)) c.make_way.ensures.goes_on

pub returns-in_err-met-in-Err-clause-busy : goal.returns-in_err-met-in-Err-clause-busy
returns-in_err-met-in-Err-clause-busy g c = let x0 = whole c.args.pass.now in let x = whole c.loop-number.pass in let y = whole c.step_5_read-found.new.pass in
    let inv = c.loop-number.invariant in
    let busy = c.in_err-met-in-Err.ensures.busy x0.view c.args.node c.args.field
    (in_the_way x y c.args.node c.args.field c.step_5_read-found.result c.step_5_read-found.ensures.told c.in-Err.reference c.in-Err.ensures.reference
    x0.view c.loop-number.met inv.goes.adds inv.free inv.made) in search rules

pub loop-number-preserved : goal.loop-number-preserved
loop-number-preserved g c = let x0 = whole c.args.pass.now in let x = whole c.loop-number.pass in let y = whole c.step_5_read-found.new.pass in
    let z = whole c.make_way.new.pass in let inv = c.loop-number.invariant in let s = c.step_5_read-found.ensures in let r = c.in-Err.reference in record {
      seated = search rules;
      path = path_kept c.step_5_read-found.new.pass c.make_way.new.pass c.make_way.ensures.pass.2 ∙ (s.path
          ∙ (reference_read (path c.loop-number.pass) c.args.node c.args.field (kind c.step_5_read-found.result) r.kind r.seat r.number c.in-Err.ensures.reference ∙ inv.path));
      visits = visits_kept c.step_5_read-found.new.pass c.make_way.new.pass c.make_way.ensures.pass.2 ∙ (s.visits ∙ inv.visits);
      goes = goes_then x0 y z (goes_then x0 x y inv.goes (cell_goes x y c.args.node c.args.field c.step_5_read-found.result s.told)) c.make_way.ensures.goes_on;
      free = c.make_way.ensures.free;
      bounded = way_bounded (board_size c.args.board.now) (whole c.args.pass.now) (whole c.loop-number.pass) (whole c.step_5_read-found.new.pass) c.args.node c.args.field c.step_5_read-found.result c.step_5_read-found.ensures.told c.loop-number.met c.loop-number.invariant.bounded
          (whole c.make_way.new.pass) _ c.in_ok-met-in-Err.ensures.most;
      made = c.in_ok-met-in-Err.ensures.made x0.view c.args.node c.args.field
          (in_the_way x y c.args.node c.args.field c.step_5_read-found.result s.told r c.in-Err.ensures.reference x0.view c.loop-number.met inv.goes.adds inv.free inv.made);
    }

pub returns-in-Ok-clause-bounded : goal.returns-in-Ok-clause-bounded
returns-in-Ok-clause-bounded g c = found_bounded (board_size c.args.board.now) (whole c.args.pass.now) (whole c.loop-number.pass) (whole c.step_5_read-found.new.pass) c.args.node c.args.field c.step_5_read-found.result c.step_5_read-found.ensures.told c.loop-number.met c.loop-number.invariant.bounded

pub returns-in_err-met-in-Err-clause-bounded : goal.returns-in_err-met-in-Err-clause-bounded
returns-in_err-met-in-Err-clause-bounded g c = way_bounded (board_size c.args.board.now) (whole c.args.pass.now) (whole c.loop-number.pass) (whole c.step_5_read-found.new.pass) c.args.node c.args.field c.step_5_read-found.result c.step_5_read-found.ensures.told c.loop-number.met c.loop-number.invariant.bounded
    (whole c.make_way.new.pass) (most_in_help (board_size c.args.board.now)) c.in_err-met-in-Err.ensures.bounded
