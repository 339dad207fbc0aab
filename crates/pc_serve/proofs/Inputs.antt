-- What is read of a source stands for its whole input, and where a seed is named its script does. Why a run of it ends
-- in a fault.
use Rattle.std.proofs.Common.{ℕ, ◌≡◌, ◌≤◌, List, Option, Some, None, Err, sym, ap, ◌∙◌, refl, subst, length, is_some, is_ok, arith}
use Rattle.std.specs.Prelude.{IfSome, IsNone}
use Rattle.std.proofs.lemmas.Bool.{true≢false}
use Rattle.pc_text.specs.declared.fault.Fault.{Fault}
use Rattle.pc_text.specs.declared.fault.Fault.TheVariants.{Usage, Script, Read, TooLargeInput, TooManySlots, Slots}
use Rattle.pc_text.specs.declared.fault.Fault.TheVariants.{Numbers, Memory}
use Rattle.pc_text.specs.declared.kind.ScriptKind.{ScriptKind}
use Rattle.pc_text.specs.declared.limits.TheConstants.{MOST_BYTES}
use Rattle.pc_text.specs.Made.{made_script}
use Rattle.pc_text.specs.Script.{script_of}
use Rattle.pc_text.proofs.MadeLemmas.{made_reads_back}
use Rattle.pc_run.specs.declared.reading.TheConstants.{MADE_CLIENTS, MADE_COMMANDS}
use Rattle.pc_run.specs.declared.words.Options.{Options}
use Rattle.pc_run.specs.Reading.{IsInput, IsInputFault, input_for}
use Rattle.pc_run.specs.Words.{ReadsSource}
use Rattle.pc_serve.specs.Serving.{IsBytesFault, IsCauseOf}

-- what holds of the bytes that were read holds of the input, where the source tells it
pub of_input : (left : Option (List ℕ)) (bytes : List ℕ) (Holds : List ℕ → Type 0) → IsInput left bytes → Holds bytes
    → IfSome left Holds
of_input None bytes Holds is holds = tt
of_input (Some input) bytes Holds is holds = subst Holds (sym is) holds

-- where no seed is named the input is the source's
of_source : (made : Option ℕ) (left : Option (List ℕ)) → IsNone made → input_for made left ≡ left
of_source None left none = refl
of_source (Some seed) left none = absurd (true≢false none)

-- what holds of the bytes that were read holds of the source's input, where no seed is named
pub of_source_input : (asked : Option Options) (options : Options) (left : Option (List ℕ)) (bytes : List ℕ)
    (Holds : List ℕ → Type 0) → asked ≡ Some options → IsInput (input_for options.made left) bytes → Holds bytes
    → ReadsSource asked → IfSome left Holds
of_source_input asked options left bytes Holds taken is holds reads =
    of_input left bytes Holds
    (subst (λ (l : Option (List ℕ)). IsInput l bytes)
    (of_source options.made left (subst ReadsSource taken reads)) is) holds

-- where the words aren't taken they don't ask for the source's script
pub none_reads : (asked : Option Options) → IsNone asked → ReadsSource asked → ⊥
none_reads None none reads = reads
none_reads (Some options) none reads = true≢false none

-- a made script has no bad line
no_bad_line : (seed line : ℕ) (kind : ScriptKind)
    → script_of (made_script seed MADE_CLIENTS MADE_COMMANDS) ≡ Err (line, kind) → ⊥
no_bad_line seed line kind bad =
    true≢false (ap is_ok (sym (made_reads_back seed MADE_CLIENTS MADE_COMMANDS (omega arith, omega arith) (omega arith)))
    ∙ ap is_ok bad)

reads_source : (asked : Option Options) (options : Options) → asked ≡ Some options → options.made ≡ None
    → ReadsSource asked
reads_source asked options taken none = subst ReadsSource (sym taken) (ap is_some none)

unread_cause : (made : Option ℕ) (asked : Option Options) (left : Option (List ℕ)) (faults faults' : ℕ) (fault : Fault)
    → (made ≡ None → ReadsSource asked) → IsInputFault made left faults faults' fault
    → IsCauseOf asked left faults faults' fault
unread_cause (Some seed) asked left faults faults' fault reads cause =
    subst (IsCauseOf asked left faults faults') (sym cause) tt
unread_cause None asked left faults faults' Usage reads cause = absurd cause
unread_cause None asked left faults faults' Read reads cause = (reads refl, cause)
unread_cause None asked left faults faults' TooLargeInput reads cause = (reads refl, cause)
unread_cause None asked left faults faults' Memory reads cause = tt
unread_cause None asked left faults faults' (Script line kind) reads cause = absurd cause
unread_cause None asked left faults faults' TooManySlots reads cause = absurd cause
unread_cause None asked left faults faults' (Slots client number) reads cause = absurd cause
unread_cause None asked left faults faults' (Numbers counter) reads cause = absurd cause

-- why there is no input
pub cause_of_input : (asked : Option Options) (options : Options) (left : Option (List ℕ)) (faults faults' : ℕ)
    (fault : Fault) → asked ≡ Some options → IsInputFault options.made left faults faults' fault
    → IsCauseOf asked left faults faults' fault
cause_of_input asked options left faults faults' fault taken cause =
    unread_cause options.made asked left faults faults' fault (reads_source asked options taken) cause

bad_cause : (made : Option ℕ) (asked : Option Options) (left : Option (List ℕ)) (faults faults' : ℕ) (fault : Fault)
    (bytes : List ℕ) → (made ≡ None → ReadsSource asked) → length bytes ≤ MOST_BYTES
    → IsInput (input_for made left) bytes → IsBytesFault bytes fault → IsCauseOf asked left faults faults' fault
bad_cause (Some seed) asked left faults faults' (Script line kind) bytes reads few is bad =
    absurd (no_bad_line seed line kind (ap script_of is ∙ bad))
bad_cause None asked left faults faults' (Script line kind) bytes reads few is bad =
    (reads refl, of_input left bytes (λ bs. (length bs ≤ MOST_BYTES) × (script_of bs ≡ Err (line, kind))) is (few, bad))
bad_cause made asked left faults faults' Memory bytes reads few is bad = tt
bad_cause made asked left faults faults' Usage bytes reads few is bad = absurd bad
bad_cause made asked left faults faults' Read bytes reads few is bad = absurd bad
bad_cause made asked left faults faults' TooLargeInput bytes reads few is bad = absurd bad
bad_cause made asked left faults faults' TooManySlots bytes reads few is bad = absurd bad
bad_cause made asked left faults faults' (Slots client number) bytes reads few is bad = absurd bad
bad_cause made asked left faults faults' (Numbers counter) bytes reads few is bad = absurd bad

-- why the bytes of an input are not run
pub cause_of_bytes : (asked : Option Options) (options : Options) (left : Option (List ℕ)) (faults faults' : ℕ)
    (fault : Fault) (bytes : List ℕ) → asked ≡ Some options → length bytes ≤ MOST_BYTES
    → IsInput (input_for options.made left) bytes → IsBytesFault bytes fault
    → IsCauseOf asked left faults faults' fault
cause_of_bytes asked options left faults faults' fault bytes taken few is bad =
    bad_cause options.made asked left faults faults' fault bytes (reads_source asked options taken) few is bad
