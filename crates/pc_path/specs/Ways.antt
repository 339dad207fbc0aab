-- What a pass met in one word, and what it did to make that leave.
use Rattle.std.specs.Prelude.{◌≡◌, ◌≢◌, ℕ, ◌+◌, Option, Some, None, IfSome}
use Rattle.pc_model.specs.declared.cell.Field.{Field}
use Rattle.pc_rule_law.specs.Plays.{IsNotedSince}
use Rattle.pc_rule_law.specs.Views.{View}
use Rattle.pc_exchange_law.specs.Wholes.{Whole}
use Rattle.pc_rule.specs.declared.refs.Ref.{Ref}
use Rattle.pc_rule.specs.declared.refs.RefKind.{RefKind}
use Rattle.pc_rule.specs.declared.refs.RefKind.TheVariants.{Install, Exchange}
use Rattle.pc_dcss.specs.Installs.{met_note, HasCome, IsGone}
use Rattle.pc_kcas.specs.Obstacles.{IsNotOwn}
use Rattle.pc_path.specs.declared.met.Met.{Met}

-- this reference stood in the word since, and it isn't that of an install of the pass
pub record Stood (v : View) (y : Whole) (n : ℕ) (f : Field) (r : Ref) : Type 0 where
  pub noted : IsNotedSince v y.view (met_note r.kind r.seat r.number n f)
  pub not_own : IsNotOwn y.view r

-- one of this kind stood there since, and won't again
abbrev pub HasLeft : RefKind → View → Whole → ℕ → Field → Ref → Type 0
HasLeft kind v y n f r = (r.kind ≡ kind) × Stood v y n f r × IsGone r.kind y r.seat r.number n f

-- these were made to leave the word since
pub record HasMadeWay (v : View) (y : Whole) (n : ℕ) (f : Field) (met : Met) : Type 0 where
  pub completed : IfSome met.completed (HasLeft Install v y n f)
  pub helped : IfSome met.helped (HasLeft Exchange v y n f)

-- This reference was found in the word after these were made to leave it, so it is another one; and where it is an exchange's,
-- that one's pass is known to have come to it.
pub record IsInTheWay (v : View) (y : Whole) (n : ℕ) (f : Field) (met : Met) (r : Ref) : Type 0 where
  pub stood : Stood v y n f r
  pub came : HasCome y.knows r
  pub after : HasMadeWay v y n f met
  pub not_completed : IfSome met.completed (λ first. r ≢ first)
  pub not_helped : IfSome met.helped (λ first. r ≢ first)

-- of how many kinds a reference may still be made to leave the word
abbrev pub one_left : Option Ref → ℕ
one_left None = 1
one_left (Some r) = 0

abbrev pub kinds_left : Met → ℕ
kinds_left met = one_left met.completed + one_left met.helped
