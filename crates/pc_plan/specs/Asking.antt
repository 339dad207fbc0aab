-- What a plan asks by a turn, where an exchange stands in the change that was lent to it.
use Rattle.pc_plan.specs.declared.plan.Ask.{Ask}
use Rattle.pc_plan.specs.declared.plan.Ask.TheVariants.{Visit, Read, Change, Answer}
use Rattle.pc_plan.specs.declared.plan.Turn.{Turn}
use Rattle.pc_plan.specs.declared.plan.Turn.TheVariants.{Visit as ToVisit, Read as ToRead, Change as ToChange}
use Rattle.pc_plan.specs.declared.plan.Turn.TheVariants.{Answer as ToAnswer}
use Rattle.pc_plan.specs.Planned.{Planned}

abbrev pub asked : Turn → Planned → Ask
asked (ToVisit n) p = Visit n
asked (ToRead n f) p = Read n f
asked ToChange p = Change p
asked (ToAnswer r) p = Answer r
