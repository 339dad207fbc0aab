-- What a pass learns from its notes and a word that it loads: of each note some more.
use Rattle.std.proofs.Common.{◌≡◌, ℕ, zero, suc, Bool, true, false, ◌==◌, List, [], ◌∷◌, ◌++◌, refl, sym, subst, eqb-true, eq-eqb}
use mathlib.Core.Option.{some-injective}
use Rattle.pc_rule_law.specs.Past.{Has}
use Rattle.pc_rule_law.specs.Views.{Note, View, AllNotes, with_notes}
use Rattle.pc_rule_law.specs.Plays.{IsLater}
use Rattle.pc_rule_law.proofs.Lists.{has_left, has_right, has_first, all_both, all_none, all_one, none_has}

-- of each note what g says
pub learnt : (Note → List Note) → List Note → List Note
learnt g [] = []
learnt g (x ∷ xs) = g x ++ learnt g xs

pub has_learnt : (g : Note → List Note) (xs : List Note) (x y : Note) → Has xs x → Has (g x) y → Has (learnt g xs) y
unfolding learnt
has_learnt g [] x y h here = absurd (none_has x h)
has_learnt g (w ∷ xs) x y (zero, at) here = has_left (g w) (learnt g xs) y
    (subst (λ (u : Note). Has (g u) y) (sym (some-injective w x at)) here)
has_learnt g (w ∷ xs) x y (suc k, at) here = has_right (g w) (learnt g xs) y (has_learnt g xs x y (k, at) here)

pub all_learnt : (P : Note → Type 0) (g : Note → List Note) (xs : List Note)
    → ((x : Note) → Has xs x → AllNotes P (g x)) → AllNotes P (learnt g xs)
unfolding learnt
all_learnt P g [] each = all_none P
all_learnt P g (x ∷ xs) each = all_both P (g x) (learnt g xs) (each x (has_first x xs))
    (all_learnt P g xs (λ y h. each y (suc h.0, h.1)))

-- a note where a test says so
abbrev pub only_if : Bool → Note → List Note
only_if true x = x ∷ []
only_if false x = []

pub has_only_if : (b : Bool) (x : Note) → b ≡ true → Has (only_if b x) x
has_only_if true x e = has_first x []
has_only_if false x e = absurd (cc)

pub all_only_if : (P : Note → Type 0) (b : Bool) (x : Note) → (b ≡ true → P x) → AllNotes P (only_if b x)
all_only_if P true x here = all_one P x (here refl)
all_only_if P false x here = all_none P

pub has_if_same : (a b : ℕ) (x : Note) → a ≡ b → Has (only_if (a == b) x) x
has_if_same a b x e = has_only_if (a == b) x (eq-eqb a b e)

pub all_if_same : (P : Note → Type 0) (a b : ℕ) (x : Note) → (a ≡ b → P x) → AllNotes P (only_if (a == b) x)
all_if_same P a b x here = all_only_if P (a == b) x (λ e. here (eqb-true a b e))

-- notes where a test says so
abbrev pub when : Bool → List Note → List Note
when true xs = xs
when false xs = []

pub has_when : (b : Bool) (xs : List Note) (x : Note) → b ≡ true → Has xs x → Has (when b xs) x
has_when true xs x e h = h
has_when false xs x e h = absurd (cc)

pub all_when : (P : Note → Type 0) (b : Bool) (xs : List Note) → (b ≡ true → AllNotes P xs) → AllNotes P (when b xs)
all_when P true xs here = here refl
all_when P false xs here = all_none P

-- a view with more notes is a later one
pub later_more : (v : View) (more : List Note) → IsLater v (with_notes v more)
later_more v more = record { same = refl; adds = (more, refl); more = λ x h. has_right more v.notes x h }
