-- Why there was no version.
use Rattle.std.proofs.Common.{inl, sym, subst}
use Rattle.pc_model.specs.declared.cell.Field.TheVariants.{Version}
use Rattle.pc_rule.specs.Passes.{whole, board_size}
use Rattle.pc_kcas.specs.Takings.{IsAtLastInstall}
use Rattle.pc_path.specs.declared.fault.VisitFault.{VisitFault}
use Rattle.pc_path.specs.Faults.{IsBusy, IsAtLastNumber, IfBusyThere, IfNoNumbers}
use Rattle.pc_path.proofs.Faults.{busy_there, no_numbers}
use Rattle.pc_path.proofs.visiting.visit.Goals as goal

pub returns-in-Err-clause-busy : goal.returns-in-Err-clause-busy
returns-in-Err-clause-busy g c = let x = whole c.args.pass.now in let y = whole c.find_version.new.pass in
    subst (λ (f : VisitFault). IfBusyThere f (IsBusy (board_size c.args.board.now).seats x.view y c.args.node Version)) (sym c.fault_of.ensures)
    (busy_there (IsBusy (board_size c.args.board.now).seats x.view y c.args.node Version) c.in-Err.fault c.in-Err.ensures.busy)

pub returns-in-Err-clause-numbers : goal.returns-in-Err-clause-numbers
returns-in-Err-clause-numbers g c = let x = whole c.args.pass.now in let y = whole c.find_version.new.pass in
    subst (λ (f : VisitFault). IfNoNumbers f (IsAtLastNumber x y c.args.node)) (sym c.fault_of.ensures)
    (no_numbers (IsAtLastInstall y.view) (IsAtLastNumber x y c.args.node) c.in-Err.fault (λ n is. inl is) c.in-Err.ensures.numbers)
