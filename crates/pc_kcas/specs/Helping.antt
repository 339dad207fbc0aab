-- What clauses say of a help of another's exchange.
use Rattle.std.specs.Prelude.{◌≢◌, ◌⊎◌, ℕ}
use Rattle.pc_model.specs.declared.cell.Field.{Field}
use Rattle.pc_model.specs.declared.numbers.Numbers.{Numbers}
use Rattle.pc_rule_law.specs.Plays.{IsNotedSince}
use Rattle.pc_rule_law.specs.Views.{View}
use Rattle.pc_exchange_law.specs.ExchangeConditions.{KnowsCleared}
use Rattle.pc_exchange_law.specs.Wholes.{Whole}
use Rattle.pc_rule.specs.declared.refs.Ref.{Ref}
use Rattle.pc_dcss.specs.Installs.{met_note, IsDecided}
use Rattle.pc_kcas.specs.Obstacles.{IsNotOwn, IsWordOf, AreTwo, HasFollowed, IsStuck, IsApartFrom}
use Rattle.pc_kcas.specs.Readings.{HasPassed, AreCleanWhereMet}
use Rattle.pc_kcas.specs.Takings.{IsAtLastInstall}
use Rattle.pc_kcas.specs.declared.helped.Helped.{Helped}
use Rattle.pc_kcas.specs.declared.helped.Helped.TheVariants.{Decided, Gone, Stopped, Numbers as OutOfNumbers}
use Rattle.pc_kcas.specs.declared.helped.Progress.{Progress}
use Rattle.pc_kcas.specs.declared.helped.Progress.TheVariants.{Decided as IsDone, Gone as IsPast, Stuck as IsStuckSo, Numbers as HasNoNumbers}

-- each word of the exchange is known and noted clean of its reference; or each word is in which the pass had met it
abbrev pub IsCleanOf : Whole → Whole → Ref → Type 0
IsCleanOf x y op = KnowsCleared y op.seat op.number ⊎ AreCleanWhereMet x.view y.view op

-- the exchange is decided, and its words are clean
abbrev pub IsOver : Whole → Whole → Ref → Type 0
IsOver x y op = IsDecided y.view op.seat op.number × IsCleanOf x y op

-- its pass was seen with a greater number, and its words are clean
abbrev pub IsGoneBy : Whole → Whole → Ref → Type 0
IsGoneBy x y op = (m : ℕ) × HasPassed y op m × IsCleanOf x y op

-- how far the exchange was helped; left is the number of links that are left
abbrev pub HasCome : Whole → Whole → Ref → ℕ → Progress → Type 0
HasCome x y op left IsDone = IsOver x y op
HasCome x y op left IsPast = IsGoneBy x y op
HasCome x y op left (IsStuckSo stuck) = IsStuck x.view y left stuck × IsApartFrom op stuck
HasCome x y op left (HasNoNumbers n) = IsAtLastInstall y.view n

-- The help of an exchange was stopped by this reference: it is another's, and stood in a word of an exchange that was helped since;
-- and two different references of one kind stood in one word, of which it is one; or so many links were followed.
pub record IsStoppedBy (links : ℕ) (v : View) (y : Whole) (op by : Ref) : Type 0 where
  pub other : by ≢ op
  pub not_own : IsNotOwn y.view by
  pub exchange : Ref
  pub node : ℕ
  pub field : Field
  pub word : IsWordOf y exchange node field
  pub stood : IsNotedSince v y.view (met_note by.kind by.seat by.number node field)
  pub cause : ((another : Ref) × (AreTwo v y another by ⊎ AreTwo v y by another)) ⊎ HasFollowed links v y

-- X holds where this is the answer
abbrev pub OnDone : Helped → Type 0 → Type 0
OnDone Decided X = X
OnDone Gone X = Unit {0}
OnDone (Stopped by) X = Unit {0}
OnDone (OutOfNumbers n) X = Unit {0}

abbrev pub OnGone : Helped → Type 0 → Type 0
OnGone Decided X = Unit {0}
OnGone Gone X = X
OnGone (Stopped by) X = Unit {0}
OnGone (OutOfNumbers n) X = Unit {0}

abbrev pub IfStopped : Helped → (Ref → Type 0) → Type 0
IfStopped Decided X = Unit {0}
IfStopped Gone X = Unit {0}
IfStopped (Stopped by) X = X by
IfStopped (OutOfNumbers n) X = Unit {0}

abbrev pub IfNumbers : Helped → (Numbers → Type 0) → Type 0
IfNumbers Decided X = Unit {0}
IfNumbers Gone X = Unit {0}
IfNumbers (Stopped by) X = Unit {0}
IfNumbers (OutOfNumbers n) X = X n
