-- The words of a line, the six that begin a line of a script, and those that are numbers.
use Rattle.std.specs.Prelude.{codes, ℕ, Bool, ◌&&◌, ◌||◌, ◌==◌, nat_lt, nat_le, if◌then◌else◌, List, length, Option}
use Rattle.std.specs.Prelude.{Some, None}
use Rattle.std.specs.Char.{is_ascii_digit}
use Rattle.std.specs.List.{filter, list_all, slice_split}
use Rattle.std.specs.Str.{bytes_eq}
use Rattle.std.specs.Str.Parse.{digits_value}
use Rattle.pc_text.specs.declared.limits.TheConstants.{GREATEST_NUMBER}
use Rattle.pc_text.specs.declared.line.Keyword.{Keyword}
use Rattle.pc_text.specs.declared.line.Keyword.TheVariants.{Client, Put, Get, Remove, Ceil, Floor}

-- a space (32) or a tab (9)
abbrev pub is_blank : ℕ → Bool
is_blank byte = (byte == 32) || (byte == 9)

-- the parts between blanks that have bytes
abbrev pub words_of : List ℕ → List (List ℕ)
words_of line = filter (λ word. nat_lt 0 (length word)) (slice_split is_blank line)

-- which of the six words it is
abbrev pub keyword_of : List ℕ → Option Keyword
keyword_of word =
    if bytes_eq word (codes "client") then Some Client
    else if bytes_eq word (codes "put") then Some Put
    else if bytes_eq word (codes "get") then Some Get
    else if bytes_eq word (codes "remove") then Some Remove
    else if bytes_eq word (codes "ceil") then Some Ceil
    else if bytes_eq word (codes "floor") then Some Floor
    else None

-- one or more digits whose value, in tens, is at most 999999999999999999
abbrev pub is_number : List ℕ → Bool
is_number word = nat_lt 0 (length word) &&
    (list_all is_ascii_digit word && nat_le (digits_value 10 word) GREATEST_NUMBER)

abbrev pub number_of : List ℕ → Option ℕ
number_of word = if is_number word then Some (digits_value 10 word) else None
