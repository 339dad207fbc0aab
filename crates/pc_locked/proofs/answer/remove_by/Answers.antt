use Rattle.pc_locked.proofs.Charging.{run_charges, free_run}
use Rattle.pc_locked.proofs.answer.remove_by.Goals as goal

pub returns-clause-charged : goal.returns-clause-charged
returns-clause-charged g c =
    run_charges g.P.Plan.start g.P.Plan.moves g.P.Plan.can_call g.P.Plan.terms g.P.Plan.form g.met.P.Plan.laws c.args.call
    c.requires.recorded c.args.cells.now c.run_owed.new.cells c.args.owed.now c.run_owed.new.owed
    c.in-Ok.reply c.in-Ok.ensures.run

pub returns-clause-free : goal.returns-clause-free
returns-clause-free g c =
    free_run g.P.Plan.start g.P.Plan.moves g.P.Plan.can_call g.P.Plan.terms g.P.Plan.form g.met.P.Plan.laws c.args.call
    c.requires.recorded c.args.cells.now c.run_owed.new.cells c.args.owed.now c.run_owed.new.owed
    c.in-Ok.reply c.in-Ok.ensures.run c.requires.call
