-- Words that are written one after another, each by its address.
use Rattle.std.proofs.Common.{◌≡◌, ℕ, zero, suc, ◌+◌, ◌<◌, List, [], ◌∷◌, ◌++◌, length, get_or, refl, sym, ap, ◌∙◌, subst, arith}
use mathlib.Core.Logic.{dite}
use native.Mathlib.Decide.{ℕ_discrete}
use Rattle.pc_rule_law.specs.declared.opening.Opening.{Opening}
use Rattle.pc_rule_law.specs.Board.{Place, address, words_of, Inside, shows, Represents}
use Rattle.pc_rule_law.specs.Tables.{size_of}
use Rattle.pc_rule_law.proofs.Places.{within}
use Rattle.pc_rule.specs.Starting.{starting_board}

-- each word so far is what its place shows
abbrev pub AreWritten : Opening → List ℕ → Type 0
AreWritten o words = (p : Place) → Inside (size_of o) p → address (size_of o) p < length words → get_or words (address (size_of o) p) 0 ≡ shows (starting_board o) p

last_of : (l : List ℕ) (x : ℕ) → get_or (l ++ x ∷ []) (length l) 0 ≡ x
last_of [] x = refl
last_of (y ∷ ys) x = last_of ys x

front_of : (l : List ℕ) (x i : ℕ) → i < length l → get_or (l ++ x ∷ []) i 0 ≡ get_or l i 0
front_of [] x i lt = absurd (omega arith)
front_of (y ∷ ys) x zero lt = refl
front_of (y ∷ ys) x (suc i) lt = front_of ys x i (omega arith)

longer : (l : List ℕ) (x : ℕ) → length (l ++ x ∷ []) ≡ length l + 1
longer [] x = refl
longer (y ∷ ys) x = let e = longer ys x in omega arith

pub one_more_written : (o : Opening) (words : List ℕ) (x : ℕ) → AreWritten o words
    → ((p : Place) → Inside (size_of o) p → address (size_of o) p ≡ length words → x ≡ shows (starting_board o) p) → AreWritten o (words ++ x ∷ [])
one_more_written o words x written next p in_p lt = dite (ℕ_discrete (address (size_of o) p) (length words))
    (λ e. ap (λ (i : ℕ). get_or (words ++ x ∷ []) i 0) e ∙ (last_of words x ∙ next p in_p e))
    (λ ne. let more = longer words x in let less : address (size_of o) p < length words = omega arith in front_of words x (address (size_of o) p) less ∙ written p in_p less)

pub none_written : (o : Opening) → AreWritten o []
none_written o p in_p lt = absurd (omega arith)

pub all_written : (o : Opening) (words : List ℕ) → AreWritten o words → length words ≡ words_of (size_of o) → Represents (size_of o) words (starting_board o)
all_written o words written is = record { wide = is; each = λ p in_p. written p in_p (subst (λ (n : ℕ). address (size_of o) p < n) (sym is) (within (size_of o) p in_p)) }
