-- A function of numbers, or of words, that is changed at one place.
use Rattle.std.specs.Prelude.{ℕ, ◌==◌, if◌then◌else◌}
use Rattle.pc_model.specs.declared.cell.Field.{Field}
use Rattle.pc_model.specs.Cells.{field_number}

-- with this value at this number
abbrev pub updated : {A : Type 0} → (ℕ → A) → ℕ → A → ℕ → A
updated h n v = λ m. if m == n then v else h m

-- with this value at this word
abbrev pub word_updated : {A : Type 0} → (ℕ → Field → A) → ℕ → Field → A → ℕ → Field → A
word_updated h n f v = λ m g. if field_number g == field_number f then (if m == n then v else h m g) else h m g
