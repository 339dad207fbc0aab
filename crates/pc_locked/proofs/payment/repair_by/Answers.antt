use Rattle.pc_plain.specs.PlainCells.{cells_of}
use Rattle.pc_locked.proofs.payment.repair_by.Goals as goal

pub returns-clause-answered : goal.returns-clause-answered
returns-clause-answered g c k debt =
    let same = c.requires.repair.1.is_for in
    c.in-Ok.ensures.answers c.requires.reach
    (λ q was. c.requires.answered q ((same.in_debt c.args.cells.now.slots (cells_of c.args.cells.now) q).0 was)) k
    ((same.in_debt c.run_owed.new.cells.slots (cells_of c.run_owed.new.cells) k).1 debt)
