-- Which words the arguments of a line are.
use Rattle.std.specs.Prelude.{◌≡◌, ℕ, ◌<◌, List, [], ◌∷◌, length}
use Rattle.pc_text.specs.declared.words.Arguments.{Arguments}
use Rattle.pc_text.specs.declared.words.Arguments.TheVariants.{None, One, Two, More}

-- none, one or two words as they are, or else more than two
abbrev pub AreArguments : Arguments → List (List ℕ) → Type 0
AreArguments None words = words ≡ []
AreArguments (One first) words = words ≡ first.now ∷ []
AreArguments (Two first second) words = words ≡ first.now ∷ second.now ∷ []
AreArguments More words = 2 < length words
