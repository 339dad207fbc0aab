-- Stages, slots and the numbers of exchanges: what excludes what.
use Rattle.std.proofs.Common.{◌≡◌, ℕ, Option, Some, None, refl, sym, ◌∙◌, subst}
use Rattle.pc_protocol.specs.Histories.{Purpose, for_exchange, for_read, Cause, Stage, absent, undecided, committed, aborted}
use Rattle.pc_protocol.specs.Histories.{Slot, free, spare, used, IsPublished, IsUndecided, IsDecided, value_by, IsFree}
use Rattle.pc_protocol.specs.Histories.{IsSpare, IsUsed}

pub none_not_some : {A : Type 0} (x : A) → None ≡ Some x → ⊥
none_not_some x e = cc

pub some_same : {A : Type 0} (x y : A) → Some x ≡ Some y → x ≡ y
some_same x y e = cc

-- one option has one value
pub same_option : {A : Type 0} (o : Option A) (x y : A) → o ≡ Some x → o ≡ Some y → x ≡ y
same_option o x y is_x is_y = some_same x y (sym is_x ∙ is_y)

pub undecided_is_published : (st : Stage) → IsUndecided st → IsPublished st
undecided_is_published absent u = absurd u
undecided_is_published undecided u = tt
undecided_is_published (committed s) u = absurd u
undecided_is_published (aborted cause) u = absurd u

pub decided_not_undecided : (st : Stage) → IsDecided st → IsUndecided st → ⊥
decided_not_undecided absent d u = d
decided_not_undecided undecided d u = d
decided_not_undecided (committed s) d u = u
decided_not_undecided (aborted cause) d u = u

pub absent_not_published : (st : Stage) → st ≡ absent → IsPublished st → ⊥
absent_not_published st is p = subst IsPublished is p

pub absent_not_undecided : (st : Stage) → st ≡ absent → IsUndecided st → ⊥
absent_not_undecided st is u = subst IsUndecided is u

pub absent_not_decided : (st : Stage) → st ≡ absent → IsDecided st → ⊥
absent_not_decided st is d = subst IsDecided is d

pub committed_not_undecided : (st : Stage) (s : ℕ) → st ≡ committed s → IsUndecided st → ⊥
committed_not_undecided st s is u = subst IsUndecided is u

pub committed_is_published : (st : Stage) (s : ℕ) → st ≡ committed s → IsPublished st
committed_is_published st s is = subst IsPublished (sym is) tt

pub aborted_is_published : (st : Stage) (cause : Cause) → st ≡ aborted cause → IsPublished st
aborted_is_published st cause is = subst IsPublished (sym is) tt

pub decided_is_published : (st : Stage) → IsDecided st → IsPublished st
decided_is_published absent d = absurd d
decided_is_published undecided d = tt
decided_is_published (committed s) d = tt
decided_is_published (aborted cause) d = tt

pub committed_not_absent : (s : ℕ) → committed s ≡ absent → ⊥
committed_not_absent s e = cc

pub undecided_not_committed : (s : ℕ) → undecided ≡ committed s → ⊥
undecided_not_committed s e = cc

pub aborted_not_committed : (st : Stage) (s : ℕ) → IsUndecided st → st ≡ committed s → ⊥
aborted_not_committed st s u is = subst IsUndecided is u

pub same_cause : (v w : Cause) → aborted v ≡ aborted w → v ≡ w
same_cause v w e = cc

pub same_stamp : (s t : ℕ) → committed s ≡ committed t → s ≡ t
same_stamp s t e = cc

-- until it is decided, and where it failed, a word is worth its old number
pub undecided_value : (st : Stage) (old new : ℕ) → IsUndecided st → value_by st old new ≡ old
undecided_value absent old new u = refl
undecided_value undecided old new u = refl
undecided_value (committed s) old new u = absurd u
undecided_value (aborted cause) old new u = refl

-- a number was drawn for one thing
pub one_purpose : (d : Purpose) (x y : ℕ) → d ≡ for_exchange x → d ≡ for_exchange y → x ≡ y
one_purpose d x y is_x is_y = let same : for_exchange x ≡ for_exchange y = sym is_x ∙ is_y in cc

pub no_read : (d : Purpose) (x p : ℕ) → d ≡ for_exchange x → d ≡ for_read p → ⊥
no_read d x p is_x is_p = let same : for_exchange x ≡ for_read p = sym is_x ∙ is_p in cc

pub spare_not_used : (s : Slot) → IsSpare s → IsUsed s → ⊥
spare_not_used free a b = a
spare_not_used spare a b = b
spare_not_used used a b = a

pub used_not_spare : (s : Slot) → IsUsed s → IsSpare s → ⊥
used_not_spare s b a = spare_not_used s a b

pub free_not_used : (s : Slot) → IsFree s → IsUsed s → ⊥
free_not_used free a b = b
free_not_used spare a b = a
free_not_used used a b = a

pub spare_not_free : (s : Slot) → IsSpare s → IsFree s → ⊥
spare_not_free free a b = a
spare_not_free spare a b = b
spare_not_free used a b = a

pub free_not_spare : (s : Slot) → IsFree s → IsSpare s → ⊥
free_not_spare free a b = b
free_not_spare spare a b = a
free_not_spare used a b = a
