-- What an install's taking tells.
use Rattle.std.proofs.Common.{◌≡◌, ◌≢◌, ℕ, ◌+◌, ◌<◌, ◌≤◌, [], sym, subst, arith}
use Rattle.pc_model.specs.declared.cell.Field.{Field}
use Rattle.pc_words.specs.declared.word.WordKind.TheVariants.{Install, Exchange}
use Rattle.pc_words.specs.declared.status.Status.{Status}
use Rattle.pc_words.specs.Words.{raw, kind, InRange}
use Rattle.pc_words.proofs.Words.{kind_raw}
use Rattle.pc_rule_law.specs.Past.{Has}
use Rattle.pc_rule_law.specs.Stages.{decided_by}
use Rattle.pc_rule_law.specs.Views.{View, install_word, held}
use Rattle.pc_rule_law.specs.Plays.{InstallTaken, StatusLoaded, found, IsNotedSince}
use Rattle.pc_rule_law.proofs.Lists.{has_first}
use Rattle.pc_dcss.specs.Installs.{IsDecidedSince}

module _ (v w : View) (n : ℕ) (f : Field) (p a : ℕ) (small : InRange (Exchange p a)) where
  has_held : Has (found n f (kind (raw (Exchange p a)))) (held p a n f)
  has_held = subst (λ x. Has (found n f x) (held p a n f)) (sym (kind_raw (Exchange p a) small)) (has_first (held p a n f) [])

  -- the reference took the install's place
  pub held_by_hit : (old r : ℕ) → InstallTaken v n f old (raw (Exchange p a)) r w → r ≡ old → IsNotedSince v w (held p a n f)
  unfolding has_held
  held_by_hit old r told e = told.hit e (held p a n f) has_held

  -- it was there already
  pub held_by_miss : (old new r : ℕ) → InstallTaken v n f old new r w → r ≢ old → r ≡ raw (Exchange p a) → IsNotedSince v w (held p a n f)
  unfolding has_held
  held_by_miss old new r told ne e = told.miss ne (held p a n f) (subst (λ x. Has (found n f (kind x)) (held p a n f)) (sym e) has_held)

-- neither the install nor the reference was there
pub decided_by_miss : (v w : View) (n : ℕ) (f : Field) (q k p a old new r : ℕ) → InstallTaken v n f old new r w → old ≡ raw (Install q k)
    → q < 256 → p < 256 → Has v.notes (install_word q k 1 (raw (Exchange p a))) → r ≢ old → r ≢ raw (Exchange p a) → IsDecidedSince v w p a
decided_by_miss v w n f q k p a old new r told e sq sp op ne other = (a + 1, told.decided ne q k p a e sq sp op other, omega arith)

-- a status other than undecided at this number
pub decided_by_status : (v w : View) (q k p a : ℕ) (s : Status) → StatusLoaded v p s w → Has v.notes (install_word q k 1 (raw (Exchange p a)))
    → (a ≤ s.number → a < decided_by s) → IsDecidedSince v w p a
decided_by_status v w q k p a s told op below = (decided_by s, told.decided, below (told.installs_below q k a op))
