-- How a run of the program ends: what was printed where it ended well, and why where it didn't.
use Rattle.std.specs.Prelude.{◌≡◌, ℕ, Bool, ◌<◌, ◌≤◌, ◌⊎◌, ⊤, List, length, Option, Some, Ok, Err, IsErr}
use Rattle.std.specs.Prelude.{IfSome, IsNone}
use Rattle.std.specs.Io.KnownBytes.{Appends, IsAtEnd}
use Rattle.pc_model.specs.declared.call.Entry.{Entry}
use Rattle.pc_model.specs.Map.{Pairs}
use Rattle.pc_avl.specs.TreeKinds.{kind_of}
use Rattle.pc_edge.specs.Faults.{HasRisen}
use Rattle.pc_edge.specs.Sending.{AppendsFront}
use Rattle.pc_text.specs.declared.fault.Fault.{Fault}
use Rattle.pc_text.specs.declared.fault.Fault.TheVariants.{Usage, Script, Read, TooLargeInput, TooManySlots, Slots}
use Rattle.pc_text.specs.declared.fault.Fault.TheVariants.{Numbers, Memory}
use Rattle.pc_text.specs.declared.kind.ScriptKind.{ScriptKind}
use Rattle.pc_text.specs.declared.kind.ScriptKind.TheVariants.{BadByte}
use Rattle.pc_text.specs.declared.limits.TheConstants.{MOST_BYTES}
use Rattle.pc_text.specs.Fault.{status_of}
use Rattle.pc_text.specs.Printed.{run_text}
use Rattle.pc_text.specs.Script.{script_of}
use Rattle.pc_text.specs.ScriptValue.{ScriptValue}
use Rattle.pc_text.specs.declared.shape.ShapeLine.{ShapeLine}
use Rattle.pc_run.specs.declared.words.Options.{Options}
use Rattle.pc_run.specs.Reading.{input_for}
use Rattle.pc_run.specs.Runs.{IsRunOf, IsShapeIfAsked}
use Rattle.pc_run.specs.Words.{ReadsSource}

-- the bytes are no longer than an input may be, and spell this script
abbrev pub SpellsScript : List ℕ → ScriptValue → Type 0
SpellsScript bytes script = (length bytes ≤ MOST_BYTES) × (script_of bytes ≡ Ok script)

-- they are too long
abbrev pub IsTooLong : List ℕ → Type 0
IsTooLong bytes = MOST_BYTES < length bytes

-- this line is the first bad one, for this
abbrev pub HasBadLine : List ℕ → ℕ → ScriptKind → Type 0
HasBadLine bytes line kind = (length bytes ≤ MOST_BYTES) × (script_of bytes ≡ Err (line, kind))

-- they are no longer than that, and spell no script
abbrev pub IsRefused : List ℕ → Type 0
IsRefused bytes = (length bytes ≤ MOST_BYTES) × IsErr (script_of bytes)

-- the status of a run whose script has a bad line, whichever line and whatever is wrong with it
abbrev pub bad_script : ℕ
bad_script = status_of (Script 1 BadByte)

-- The words are taken. Where they name a seed the script is the one that it makes; else the input was read to its end
-- and spells a script. Of its run these are the history and the pairs left, and the shape, where it was asked for and
-- no summary was.
pub record HasRunAll (asked : Option Options) (input rest : Option (List ℕ)) (summary : Bool) (history : List Entry)
    (pairs : Pairs) (shape : Option (List ShapeLine)) : Type 0 where
  pub options : Options
  pub taken : asked ≡ Some options
  pub script : ScriptValue
  pub spelled : IfSome (input_for options.made input) (λ bytes. SpellsScript bytes script)
  pub at_end : IsNone options.made → IsAtEnd rest
  pub ran : IsRunOf script.calls history pairs
  pub shaped : IsShapeIfAsked (kind_of options.tree) options.shape pairs shape
  pub summed : summary ≡ options.summary

-- what the sink holds is what it held before and the history of a run of the script, with the pairs that are left and
-- the shape that was asked for; or the summary of such a run, where that was asked for
pub record PrintsRun (asked : Option Options) (input rest held held' : Option (List ℕ)) : Type 0 where
  pub summary : Bool
  pub history : List Entry
  pub pairs : Pairs
  pub shape : Option (List ShapeLine)
  pub run : HasRunAll asked input rest summary history pairs shape
  pub printed : Appends held held' (run_text summary history pairs shape)

-- a front of that was written before the sink failed
pub record PrintsFront (asked : Option Options) (input rest held held' : Option (List ℕ)) : Type 0 where
  pub summary : Bool
  pub history : List Entry
  pub pairs : Pairs
  pub shape : Option (List ShapeLine)
  pub run : HasRunAll asked input rest summary history pairs shape
  pub front : AppendsFront held held' (run_text summary history pairs shape)

-- why a run ends in a fault: the words aren't taken; or they are and name no seed, and the input is too long or has a
-- bad line, or the source failed; want of memory needs no cause, and the other faults don't come
abbrev pub IsCauseOf : Option Options → Option (List ℕ) → ℕ → ℕ → Fault → Type 0
IsCauseOf asked input faults faults' Usage = IsNone asked
IsCauseOf asked input faults faults' Memory = ⊤
IsCauseOf asked input faults faults' Read = ReadsSource asked × HasRisen faults faults'
IsCauseOf asked input faults faults' (Script line kind) =
    ReadsSource asked × IfSome input (λ bytes. HasBadLine bytes line kind)
IsCauseOf asked input faults faults' TooLargeInput = ReadsSource asked × IfSome input IsTooLong
IsCauseOf asked input faults faults' TooManySlots = ⊥
IsCauseOf asked input faults faults' (Slots client number) = ⊥
IsCauseOf asked input faults faults' (Numbers counter) = ⊥

-- the run ended in a fault that has its cause, with its status and its line
pub record EndsInFault (status : ℕ) (IsCause WritesLine : Fault → Type 0) : Type 0 where
  pub fault : Fault
  pub status_is : status ≡ status_of fault
  pub cause : IsCause fault
  pub line : WritesLine fault

-- the run ends with this status, unless memory was wanting
abbrev pub EndsUnlessMemory : ℕ → ℕ → Type 0
EndsUnlessMemory wanted status = (status ≡ wanted) ⊎ (status ≡ status_of Memory)

-- the run ends with this status, unless a read failed or memory was wanting
abbrev pub EndsUnlessStopped : ℕ → ℕ → Type 0
EndsUnlessStopped wanted status = (status ≡ wanted) ⊎ ((status ≡ status_of Read) ⊎ (status ≡ status_of Memory))

-- the bytes spell a script, of whose run these are the history and the pairs left, and the shape, where it is asked
-- for
pub record RunsBytes (options : Options) (bytes : List ℕ) (history : List Entry) (pairs : Pairs)
    (shape : Option (List ShapeLine)) : Type 0 where
  pub script : ScriptValue
  pub spelled : script_of bytes ≡ Ok script
  pub ran : IsRunOf script.calls history pairs
  pub shaped : IsShapeIfAsked (kind_of options.tree) options.shape pairs shape

-- why bytes are not run: they have a bad line, or memory was wanting
abbrev pub IsBytesFault : List ℕ → Fault → Type 0
IsBytesFault bytes (Script line kind) = script_of bytes ≡ Err (line, kind)
IsBytesFault bytes Memory = Unit {0}
IsBytesFault bytes _ = ⊥
