use Rattle.pc_locked.proofs.Charging.{ok_charges, free_either}
use Rattle.pc_locked.proofs.answer.put_by.Goals as goal

pub returns-clause-charged : goal.returns-clause-charged
returns-clause-charged g c =
    ok_charges g.P.Plan.start g.P.Plan.moves g.P.Plan.can_call g.P.Plan.terms g.P.Plan.form g.met.P.Plan.laws c.args.call
    c.requires.recorded c.args.cells.now c.run_owed.new.cells c.args.owed.now c.run_owed.new.owed
    c.run_owed.result c.run_owed.ensures.run

pub returns-clause-free : goal.returns-clause-free
returns-clause-free g c =
    free_either g.P.Plan.start g.P.Plan.moves g.P.Plan.can_call g.P.Plan.terms g.P.Plan.form g.met.P.Plan.laws c.args.call
    c.requires.recorded c.args.cells.now c.run_owed.new.cells c.args.owed.now c.run_owed.new.owed
    c.run_owed.result c.run_owed.ensures.run c.run_owed.ensures.debts_stay c.requires.call
