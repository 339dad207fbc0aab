-- How many installs the calls make at most, by the pass's install number: each raises it by one, until it stands at its last value,
-- and then none is made.
use Rattle.std.specs.Prelude.{ℕ, ◌+◌, ◌*◌, ◌≤◌, Option, Some, None}
use Rattle.pc_rule_law.specs.Board.{Size}
use Rattle.pc_rule_law.specs.Views.{View}
use Rattle.pc_rule.specs.declared.refs.Ref.{Ref}

-- the most words that an exchange changes
abbrev pub most_words : ℕ → ℕ
most_words slots = 25 + slots

-- the most installs in the words of one exchange: three in each
abbrev pub most_in_one : ℕ → ℕ
most_in_one slots = 3 * most_words slots

-- the most of a help: in the words of its exchange, and of as many more as there are passes
abbrev pub most_in_help : Size → ℕ
most_in_help z = most_in_one z.slots * (z.seats + 1)

-- the most of the end of an own exchange of so many words: three in each, and in each one help
abbrev pub most_in_end : Size → ℕ → ℕ
most_in_end z words = words * (3 + most_in_help z)

-- so many installs were made since at most, and as many more as the words of one exchange may need for each link that was followed
abbrev pub HasInstalled : ℕ → ℕ → ℕ → View → View → Type 0
HasInstalled slots own followed v w = w.install.number ≤ v.install.number + (own + most_in_one slots * followed)

-- how many installs of another were completed in the word
abbrev pub completions : Option Ref → ℕ
completions None = 0
completions (Some first) = 1
