-- Worked rows of the generator: each one computes.
use Rattle.std.proofs.Common.{◌≡◌, [], ◌∷◌, refl, map}
use Rattle.std.specs.Prelude.{codes}
use Rattle.std.specs.Fmt.{digits}
use Rattle.std.specs.List.{range_with_len}
use Rattle.pc_model.specs.declared.call.Call.TheVariants.{Put, Get, Ceil}
use Rattle.pc_text.specs.Made.{draw, first_state, made_lists, made_script}
use Rattle.pc_text.specs.Printed.{call_text}
use Rattle.pc_text.specs.ScriptText.{client_line}

seven_draws : map (λ place. draw place 1) (range_with_len 1 7)
    ≡ 16838 ∷ 5758 ∷ 10113 ∷ 17515 ∷ 31051 ∷ 5627 ∷ 23010 ∷ []
seven_draws = refl

first_of_client_1 : first_state 0 1 ≡ 1
first_of_client_1 = refl

-- a seed and a client that go past the last state
first_past_the_last : first_state 2147483647 32 ≡ 31
first_past_the_last = refl

three_commands : made_lists 0 1 3 ≡ (Ceil 758 ∷ Put 515 31051 ∷ Get 10 ∷ []) ∷ []
three_commands = refl

three_lines : made_script 0 1 3 ≡ codes "client 1\nceil 758\nput 515 31051\nget 10\n"
unfolding made_script call_text client_line digits
three_lines = refl
