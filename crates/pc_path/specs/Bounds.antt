-- How many installs the calls along a path make at most, by the pass's install number: each raises it by one.
use Rattle.std.specs.Prelude.{ℕ, ◌*◌, Option, Some, None}
use Rattle.pc_rule_law.specs.Board.{Size}
use Rattle.pc_rule.specs.declared.refs.Ref.{Ref}
use Rattle.pc_kcas.specs.Bounds.{most_in_help}

-- the most in a word in which this exchange was helped, or none
abbrev pub most_helped : Size → Option Ref → ℕ
most_helped z None = 0
most_helped z (Some helped) = most_in_help z

-- the most of the checks of so many visits: of each that of one help
abbrev pub most_in_checks : Size → ℕ → ℕ
most_in_checks z visits = visits * most_in_help z
