-- What a line of a script is, by its bytes alone.
use Rattle.std.specs.Prelude.{ℕ, Bool, false, not, ◌&&◌, ◌||◌, ◌==◌, nat_lt, nat_le, if◌then◌else◌, is_none, List}
use Rattle.std.specs.Prelude.{[], ◌∷◌, length, map, slice_index, Option, Some, None}
use Rattle.std.specs.List.{list_all, list_any}
use Rattle.std.specs.Str.Parse.{digits_value}
use Rattle.pc_model.specs.declared.call.Call.TheVariants.{Put, Get, Remove, Ceil, Floor}
use Rattle.pc_text.specs.declared.limits.TheConstants.{MOST_CLIENTS}
use Rattle.pc_text.specs.declared.kind.ScriptKind.{ScriptKind}
use Rattle.pc_text.specs.declared.kind.ScriptKind.TheVariants.{BadByte, UnknownWord, WordCount, BadNumber}
use Rattle.pc_text.specs.declared.kind.ScriptKind.TheVariants.{TooManyClients}
use Rattle.pc_text.specs.declared.line.Keyword.{Keyword}
use Rattle.pc_text.specs.declared.line.Keyword.TheVariants.{Client as ClientWord, Put as PutWord, Get as GetWord}
use Rattle.pc_text.specs.declared.line.Keyword.TheVariants.{Remove as RemoveWord, Ceil as CeilWord}
use Rattle.pc_text.specs.declared.line.Keyword.TheVariants.{Floor as FloorWord}
use Rattle.pc_text.specs.declared.line.LineClass.{LineClass}
use Rattle.pc_text.specs.declared.line.LineClass.TheVariants.{Skip, Turn, Command, Bad}
use Rattle.pc_text.specs.ScriptWords.{words_of, keyword_of, is_number}

-- a tab, or from 32 to 126
abbrev pub is_plain : ℕ → Bool
is_plain byte = (byte == 9) || (nat_le 32 byte && nat_le byte 126)

-- ---- the kinds of fault, each by itself: `first` is what the first word is, and `words` are the others

abbrev pub has_bad_byte : List ℕ → Bool
has_bad_byte line = not (list_all is_plain line)

abbrev pub has_unknown_word : Option Keyword → Bool
has_unknown_word first = is_none first

-- how many words follow the first
abbrev pub count_after : Option Keyword → ℕ
count_after (Some PutWord) = 2
count_after _ = 1

abbrev pub has_other_count : Option Keyword → List (List ℕ) → Bool
has_other_count first words = not (length words == count_after first)

-- a client is named by a number that passes the test
abbrev pub names_client : (ℕ → Bool) → Option Keyword → List (List ℕ) → Bool
names_client test (Some ClientWord) words = list_any (λ word. test (digits_value 10 word)) words
names_client test _ words = false

abbrev pub has_bad_number : Option Keyword → List (List ℕ) → Bool
has_bad_number first words = not (list_all is_number words) || names_client (λ client. client == 0) first words

abbrev pub has_client_above : Option Keyword → List (List ℕ) → Bool
has_client_above first words = names_client (λ client. nat_lt MOST_CLIENTS client) first words

-- ---- what the line is

-- the first kind that holds
abbrev pub first_kind : List (ScriptKind × Bool) → Option ScriptKind
first_kind [] = None
first_kind ((kind, holds) ∷ kinds) = if holds then Some kind else first_kind kinds

-- the kinds of fault that words can have, in the order in which they count
abbrev pub kinds_of : Option Keyword → List (List ℕ) → List (ScriptKind × Bool)
kinds_of first words =
    (UnknownWord, has_unknown_word first) ∷ (WordCount, has_other_count first words)
    ∷ (BadNumber, has_bad_number first words) ∷ (TooManyClients, has_client_above first words) ∷ []

-- what a line says that has no fault; the last case has one
abbrev pub meaning_of : Option Keyword → List ℕ → LineClass
meaning_of (Some ClientWord) (client ∷ []) = Turn client
meaning_of (Some PutWord) (key ∷ value ∷ []) = Command (Put key value)
meaning_of (Some GetWord) (key ∷ []) = Command (Get key)
meaning_of (Some RemoveWord) (key ∷ []) = Command (Remove key)
meaning_of (Some CeilWord) (key ∷ []) = Command (Ceil key)
meaning_of (Some FloorWord) (key ∷ []) = Command (Floor key)
meaning_of _ _ = Skip

abbrev pub bad_or : Option ScriptKind → LineClass → LineClass
bad_or (Some kind) class = Bad kind
bad_or None class = class

-- what a line is that has plain bytes alone
abbrev pub class_after : Option Keyword → List (List ℕ) → LineClass
class_after first words =
    bad_or (first_kind (kinds_of first words)) (meaning_of first (map (λ word. digits_value 10 word) words))

-- a line is skipped where it has no words, or where the first one begins with # (35); a bad byte counts
-- before the other kinds
abbrev pub class_of_words : List ℕ → List (List ℕ) → LineClass
class_of_words line [] = Skip
class_of_words line (word ∷ words) =
    if slice_index word 0 == 35 then Skip
    else bad_or (first_kind ((BadByte, has_bad_byte line) ∷ kinds_of (keyword_of word) words))
    (meaning_of (keyword_of word) (map (λ word. digits_value 10 word) words))

-- what a line is, without its end
abbrev pub class_of : List ℕ → LineClass
class_of line = class_of_words line (words_of line)
