-- The lines of bytes. A line feed (10) ends a line, and so does the end of the bytes. One carriage return
-- at a line's end belongs to the end.
use Rattle.std.specs.Prelude.{ℕ, ◌==◌, if◌then◌else◌, List, [], ◌∷◌, length, map}
use Rattle.std.specs.List.{slice_split}
use Rattle.std.specs.Str.Lines.{strip_carriage_return}

-- what stands after the last line feed is a line only where it has bytes
abbrev pub without_empty_last : List (List ℕ) → List (List ℕ)
without_empty_last [] = []
without_empty_last (last ∷ []) = if length last == 0 then [] else last ∷ []
without_empty_last (part ∷ next ∷ parts) = part ∷ without_empty_last (next ∷ parts)

-- the parts between line feeds, each without its line's end
abbrev pub lines_of : List ℕ → List (List ℕ)
lines_of bytes = map strip_carriage_return (without_empty_last (slice_split (λ byte. byte == 10) bytes))
