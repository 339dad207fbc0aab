-- The status of each fault, and which fault a script's is.
use Rattle.std.specs.Prelude.{ℕ}
use Rattle.pc_text.specs.declared.fault.Fault.{Fault}
use Rattle.pc_text.specs.declared.fault.Fault.TheVariants.{Usage, Script, Read, TooLargeInput, TooManySlots, Slots}
use Rattle.pc_text.specs.declared.fault.Fault.TheVariants.{Numbers, Memory}
use Rattle.pc_text.specs.declared.script.ScriptFault.{ScriptFault}
use Rattle.pc_text.specs.declared.script.ScriptFault.TheVariants.{Bad, Memory as NoMemory}

abbrev pub status_of : Fault → ℕ
status_of Usage = 2
status_of (Script line kind) = 3
status_of Read = 4
status_of TooLargeInput = 6
status_of TooManySlots = 6
status_of (Slots client number) = 7
status_of (Numbers counter) = 8
status_of Memory = 9

abbrev pub fault_of_script : ScriptFault → Fault
fault_of_script (Bad line kind) = Script line kind
fault_of_script NoMemory = Memory
