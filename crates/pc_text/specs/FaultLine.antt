-- The line that a fault prints.
use Rattle.std.specs.Prelude.{ℕ, List, [], ◌++◌, codes, Option, Result}
use Rattle.std.specs.Fmt.{decimal}
use Rattle.pc_edge.specs.declared.traits.Failed.{Failed}
use Rattle.pc_edge.specs.Sending.{Writes}
use Rattle.pc_model.specs.declared.cell.Counter.{Counter}
use Rattle.pc_model.specs.declared.cell.Counter.TheVariants.{Attempt, Install, Stamp, Version, Epoch}
use Rattle.pc_text.specs.declared.kind.ScriptKind.{ScriptKind}
use Rattle.pc_text.specs.declared.kind.ScriptKind.TheVariants.{BadByte, UnknownWord, WordCount, BadNumber}
use Rattle.pc_text.specs.declared.kind.ScriptKind.TheVariants.{TooManyClients, TooManyLines}
use Rattle.pc_text.specs.declared.fault.Fault.{Fault}
use Rattle.pc_text.specs.declared.fault.Fault.TheVariants.{Usage, Script, Read, TooLargeInput, TooManySlots, Slots}
use Rattle.pc_text.specs.declared.fault.Fault.TheVariants.{Numbers, Memory}
use Rattle.pc_text.specs.Printed.{turn_text}

-- what is wrong with a line of a script
unfoldable pub kind_text : ScriptKind → List ℕ
kind_text BadByte = codes "bad byte"
kind_text UnknownWord = codes "unknown word"
kind_text WordCount = codes "word count"
kind_text BadNumber = codes "bad number"
kind_text TooManyClients = codes "too many clients"
kind_text TooManyLines = codes "too many lines"

unfoldable pub counter_text : Counter → List ℕ
counter_text Attempt = codes "attempt"
counter_text Install = codes "install"
counter_text Stamp = codes "stamp"
counter_text Version = codes "version"
counter_text Epoch = codes "epoch"

unfoldable pub fault_text : Fault → List ℕ
fault_text Usage = codes "usage"
fault_text (Script line kind) = codes "line " ++ decimal line ++ codes " " ++ kind_text kind
fault_text Read = codes "read"
fault_text TooLargeInput = codes "input too large"
fault_text TooManySlots = codes "too many slots"
fault_text (Slots client number) = codes "slots " ++ turn_text client number
fault_text (Numbers counter) = codes "numbers " ++ counter_text counter
fault_text Memory = codes "memory"

unfoldable pub fault_line : Fault → List ℕ
fault_line fault = codes "fault " ++ fault_text fault ++ codes "\n"

-- the fault's line was written, whole or up to where the sink failed
abbrev pub WritesFault : {K : Type 0} → (K → Option (List ℕ)) → (K → ℕ) → K → K → Fault → Type 0
WritesFault held faults old new fault =
    (written : Result (Unit {0}) Failed) × Writes held faults old new (fault_line fault) [] written
