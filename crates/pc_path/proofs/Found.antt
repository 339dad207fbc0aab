-- What a load of a word tells a pass that goes on: a number, or a reference that is in its way.
use Rattle.std.proofs.Common.{◌≡◌, ◌≢◌, ℕ, Option, Some, None, IfSome, [], ◌∷◌, inl, inr, ⊎_elim, refl, sym, ap, ◌∙◌, subst}
use Rattle.pc_model.specs.declared.cell.Field.{Field}
use Rattle.pc_words.specs.declared.word.WordKind.{WordKind}
use Rattle.pc_words.specs.declared.word.WordKind.TheVariants.{Plain}
use Rattle.pc_words.specs.Words.{kind}
use Rattle.pc_rule_law.specs.Conditions.{IsFree}
use Rattle.pc_rule_law.specs.Past.{Has}
use Rattle.pc_rule_law.specs.Plays.{AddsNotes, found}
use Rattle.pc_rule_law.specs.Views.{View, clean, removed}
use Rattle.pc_protocol.specs.Notes.{in_use}
use Rattle.pc_exchange_law.specs.Slots.{IsHeld}
use Rattle.pc_exchange_law.specs.Wholes.{Whole}
use Rattle.pc_exchange_law.specs.WholePlays.{CellSeen}
use Rattle.pc_rule.specs.declared.refs.Ref.{Ref}
use Rattle.pc_rule.specs.declared.refs.RefKind.{RefKind}
use Rattle.pc_rule.specs.declared.refs.RefKind.TheVariants.{Install as AnInstall, Exchange as AnExchange}
use Rattle.pc_dcss.specs.Installs.{word_of, met_note, HasCome, IsGone}
use Rattle.pc_dcss.proofs.Staying.{noted_before, noted_after}
use Rattle.pc_kcas.specs.Obstacles.{GoesOn}
use Rattle.pc_kcas.proofs.Evidence.{keeps_notes}
use Rattle.pc_kcas.proofs.Going.{goes_later, cleared_goes}
use Rattle.pc_kcas.proofs.TakeWords.{free_later}
use Rattle.pc_path.specs.declared.met.Met.{Met}
use Rattle.pc_path.specs.Finds.{HasFound}
use Rattle.pc_path.specs.Ways.{Stood, HasLeft, HasMadeWay, IsInTheWay}

-- what holds of an option's element, by what held
pub if_some : (X Y : Ref → Type 0) (o : Option Ref) → ((r : Ref) → X r → Y r) → IfSome o X → IfSome o Y
if_some X Y None f x = tt
if_some X Y (Some r) f x = f r x

pub cell_goes : (x y : Whole) (n : ℕ) (f : Field) (w : ℕ) → CellSeen x n f w y → GoesOn x y
cell_goes x y n f w s = goes_later x y s.later s.seen.learns

pub cell_free : (x y : Whole) (n : ℕ) (f : Field) (w : ℕ) → CellSeen x n f w y → IsFree x.view → IsFree y.view
cell_free x y n f w s free = free_later x.view y.view s.later free

-- a node that was known to be in use is so still
pub held_goes : (x y : Whole) (n : ℕ) → GoesOn x y → IsHeld x.knows n → IsHeld y.knows n
held_goes x y n goes held = ⊎_elim (λ sentinel. inl sentinel) (λ told. inr (goes.told (in_use n) told)) held

cell_seat : (x y : Whole) (n : ℕ) (f : Field) (w : ℕ) → CellSeen x n f w y → y.view.seat ≡ x.view.seat
cell_seat x y n f w s = ap (λ (u : View). u.seat) s.later.same

-- ---- what was gone is so still

module _ (x y : Whole) (goes : GoesOn x y) (seat : y.view.seat ≡ x.view.seat) where
  pub gone_goes : (k : RefKind) (s m n : ℕ) (f : Field) → IsGone k x s m n f → IsGone k y s m n f
  gone_goes AnInstall s m n f gone = keeps_notes x.view y.view goes.adds (removed s m) gone
  gone_goes AnExchange s m n f gone = ⊎_elim (λ here. inl (keeps_notes x.view y.view goes.adds (clean s m n f) here))
      (λ all. inr (cleared_goes x y goes seat s m all)) gone

  pub stood_goes : (v : View) (n : ℕ) (f : Field) (r : Ref) → Stood v x n f r → Stood v y n f r
  stood_goes v n f r s = record {
    noted = noted_before v x.view y.view (met_note r.kind r.seat r.number n f) s.noted goes.adds;
    not_own = λ kind here. s.not_own kind (here ∙ seat);
  }

  pub left_goes : (kind : RefKind) (v : View) (n : ℕ) (f : Field) (r : Ref) → HasLeft kind v x n f r → HasLeft kind v y n f r
  unfolding gone_goes stood_goes
  left_goes kind v n f r l = (l.0, stood_goes v n f r l.1, gone_goes r.kind r.seat r.number n f l.2)

  pub way_goes : (v : View) (n : ℕ) (f : Field) (met : Met) → HasMadeWay v x n f met → HasMadeWay v y n f met
  unfolding left_goes
  way_goes v n f met way = record {
    completed = if_some (HasLeft AnInstall v x n f) (HasLeft AnInstall v y n f) met.completed (left_goes AnInstall v n f) way.completed;
    helped = if_some (HasLeft AnExchange v x n f) (HasLeft AnExchange v y n f) met.helped (left_goes AnExchange v n f) way.helped;
  }

-- ---- a reference that is found

found_word : (n : ℕ) (f : Field) (k : RefKind) (s m : ℕ) → found n f (word_of k s m) ≡ met_note k s m n f ∷ []
found_word n f AnInstall s m = refl
found_word n f AnExchange s m = refl

module _ (x y : Whole) (n : ℕ) (f : Field) (w : ℕ) (seen : CellSeen x n f w y) (r : Ref) (is : kind w ≡ word_of r.kind r.seat r.number) where
  -- it isn't one that is known to be gone
  not_gone : (k : RefKind) (s m : ℕ) → kind w ≡ word_of k s m → IsGone k x s m n f → ⊥
  not_gone AnInstall s m there gone = seen.present s m there gone
  not_gone AnExchange s m there gone = ⊎_elim (λ here. seen.unclean s m there here) (λ all. seen.uncleared s m there all) gone

  not_own_kind : (k : RefKind) (s m : ℕ) → kind w ≡ word_of k s m → IsFree x.view → k ≡ AnInstall → s ≢ x.view.seat
  not_own_kind AnInstall s m there free kind' = seen.other free s m there
  not_own_kind AnExchange s m there free kind' = absurd (cc)

  has_come : (k : RefKind) (s m : ℕ) → kind w ≡ word_of k s m → HasCome y.knows (record { kind = k; seat = s; number = m })
  has_come AnInstall s m there kind' = absurd (cc)
  has_come AnExchange s m there kind' = seen.seen.came s m there

  noted_found : Has (found n f (kind w)) (met_note r.kind r.seat r.number n f)
  noted_found = subst (λ (c : WordKind). Has (found n f c) (met_note r.kind r.seat r.number n f)) (sym is)
      (subst (λ l. Has l (met_note r.kind r.seat r.number n f)) (sym (found_word n f r.kind r.seat r.number)) (0, refl))

  other_than : (v : View) (kind' : RefKind) (first : Ref) → HasLeft kind' v x n f first → r ≢ first
  unfolding not_gone
  other_than v kind' first l same = not_gone r.kind r.seat r.number is
      (subst (λ (u : Ref). IsGone u.kind x u.seat u.number n f) (sym same) l.2)

  pub in_the_way : (v : View) (met : Met) → AddsNotes v x.view → IsFree x.view → HasMadeWay v x n f met → IsInTheWay v y n f met r
  unfolding not_own_kind has_come noted_found other_than cell_seat cell_goes
  in_the_way v met adds free way = record {
    stood = record {
      noted = noted_after v x.view y.view (met_note r.kind r.seat r.number n f) adds (seen.notes (met_note r.kind r.seat r.number n f) noted_found);
      not_own = λ kind' here. not_own_kind r.kind r.seat r.number is free kind' (here ∙ cell_seat x y n f w seen);
    };
    came = has_come r.kind r.seat r.number is;
    after = way_goes x y (cell_goes x y n f w seen) (cell_seat x y n f w seen) v n f met way;
    not_completed = if_some (HasLeft AnInstall v x n f) (λ first. r ≢ first) met.completed (other_than v AnInstall) way.completed;
    not_helped = if_some (HasLeft AnExchange v x n f) (λ first. r ≢ first) met.helped (other_than v AnExchange) way.helped;
  }

-- a number that is found
pub has_found : (x0 x y : Whole) (n : ℕ) (f : Field) (w v : ℕ) → GoesOn x0 x → CellSeen x n f w y → kind w ≡ Plain v → HasFound x0 y n f v
has_found x0 x y n f w v since seen plain = record { before = x; since = since; word = w; seen = seen; plain = plain }
