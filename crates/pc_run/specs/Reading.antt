-- What the input of a run is, and what reading it to its end takes of a source.
use Rattle.std.specs.Prelude.{◌≡◌, ℕ, ◌<◌, ◌≤◌, ⊤, List, ◌++◌, length, Option, Some, None, IfSome}
use Rattle.std.specs.Io.KnownBytes.{Consumes, IsAtEnd}
use Rattle.pc_edge.specs.Faults.{HasRisen}
use Rattle.pc_text.specs.declared.fault.Fault.{Fault}
use Rattle.pc_text.specs.declared.fault.Fault.TheVariants.{Read, TooLargeInput, Memory}
use Rattle.pc_text.specs.declared.limits.TheConstants.{MOST_BYTES}
use Rattle.pc_text.specs.Made.{made_script}
use Rattle.pc_run.specs.declared.reading.TheConstants.{MADE_CLIENTS, MADE_COMMANDS}

-- these are all the bytes that the source had, where it tells them
abbrev pub IsInput : Option (List ℕ) → List ℕ → Type 0
IsInput left bytes = IfSome left (λ input. input ≡ bytes)

-- the source had more bytes than this, where it tells them
abbrev pub IsLongerThan : ℕ → Option (List ℕ) → Type 0
IsLongerThan n left = IfSome left (λ input. n < length input)

-- why an input isn't read to its end: a read failed, or it is too long, or memory was wanting
abbrev pub IsReadFault : Option (List ℕ) → ℕ → ℕ → Fault → Type 0
IsReadFault left faults faults' Read = HasRisen faults faults'
IsReadFault left faults faults' TooLargeInput = IsLongerThan MOST_BYTES left
IsReadFault left faults faults' Memory = ⊤
IsReadFault left faults faults' _ = ⊥

-- the bytes that are run: those that a seed makes, where one is named, and else those of the source, where it tells
-- them
abbrev pub input_for : Option ℕ → Option (List ℕ) → Option (List ℕ)
input_for (Some seed) left = Some (made_script seed MADE_CLIENTS MADE_COMMANDS)
input_for None left = left

-- why there is no input: where a seed is named, memory was wanting; else it couldn't be read to its end
abbrev pub IsInputFault : Option ℕ → Option (List ℕ) → ℕ → ℕ → Fault → Type 0
IsInputFault (Some seed) left faults faults' fault = fault ≡ Memory
IsInputFault None left faults faults' fault = IsReadFault left faults faults' fault

-- no more bytes than this were taken
pub record TakesAtMost (n : ℕ) (old new : Option (List ℕ)) : Type 0 where
  pub taken : List ℕ
  pub takes : Consumes old new taken
  pub few : length taken ≤ n

-- so many bytes were taken and stand behind the earlier ones; none only where the source is at its end
pub record TakesPiece (old new : Option (List ℕ)) (before after : List ℕ) (n : ℕ) : Type 0 where
  pub piece : List ℕ
  pub takes : Consumes old new piece
  pub appended : after ≡ before ++ piece
  pub count : length piece ≡ n
  pub end : n ≡ 0 → IsAtEnd new
