-- A reference that was found in a word is made to leave it, or two stood there.
use Rattle.std.proofs.Common.{◌≡◌, ◌≢◌, ℕ, Some, sym, ◌∙◌, subst, inl, inr, ⊎_elim}
use Rattle.pc_model.specs.declared.cell.Field.{Field}
use Rattle.pc_rule_law.specs.Past.{Has}
use Rattle.pc_rule_law.specs.Plays.{AddsNotes}
use Rattle.pc_rule_law.specs.Views.{View, held, removed}
use Rattle.pc_exchange_law.specs.Wholes.{Whole}
use Rattle.pc_rule.specs.declared.refs.Ref.{Ref}
use Rattle.pc_rule.specs.declared.refs.RefKind.{RefKind}
use Rattle.pc_rule.specs.declared.refs.RefKind.TheVariants.{Install as AnInstall, Exchange as AnExchange}
use Rattle.pc_dcss.specs.Installs.{met_note, HasMet, IsGone}
use Rattle.pc_dcss.proofs.Staying.{is_noted, noted_after}
use Rattle.pc_kcas.specs.Helping.{IsCleanOf, IsStoppedBy}
use Rattle.pc_kcas.specs.Obstacles.{GoesOn}
use Rattle.pc_kcas.specs.Readings.{HasComeTo}
use Rattle.pc_kcas.proofs.Evidence.{two_since, followed_since}
use Rattle.pc_path.specs.declared.met.Met.{Met}
use Rattle.pc_path.specs.Faults.{IsBusy}
use Rattle.pc_path.specs.Ways.{Stood, HasLeft, HasMadeWay, IsInTheWay}
use Rattle.pc_path.proofs.Found.{stood_goes, way_goes}

-- ---- what a completion and a help ask for

there_now : (v : View) (y : Whole) (n : ℕ) (f : Field) (met : Met) (r : Ref) → IsInTheWay v y n f met r
    → Has y.view.notes (met_note r.kind r.seat r.number n f)
there_now v y n f met r way = is_noted v y.view (met_note r.kind r.seat r.number n f) way.stood.noted

pub met_install : (v : View) (y : Whole) (n : ℕ) (f : Field) (met : Met) (r : Ref) → IsInTheWay v y n f met r → r.kind ≡ AnInstall
    → HasMet y.view r.seat r.number
unfolding there_now
met_install v y n f met r way kind = (n, f, subst (λ (k : RefKind). Has y.view.notes (met_note k r.seat r.number n f)) kind (there_now v y n f met r way))

pub held_there : (v : View) (y : Whole) (n : ℕ) (f : Field) (met : Met) (r : Ref) → IsInTheWay v y n f met r → r.kind ≡ AnExchange
    → Has y.view.notes (held r.seat r.number n f)
unfolding there_now
held_there v y n f met r way kind = subst (λ (k : RefKind). Has y.view.notes (met_note k r.seat r.number n f)) kind (there_now v y n f met r way)

pub met_exchange : (v : View) (y : Whole) (n : ℕ) (f : Field) (met : Met) (r : Ref) → IsInTheWay v y n f met r → r.kind ≡ AnExchange → HasComeTo y r
unfolding held_there
met_exchange v y n f met r way kind = ((n, f, held_there v y n f met r way kind), way.came kind)

-- ---- it left

module _ (v : View) (x y : Whole) (goes : GoesOn x y) (seat : y.view.seat ≡ x.view.seat) (n : ℕ) (f : Field) (met : Met) (r : Ref) (way : IsInTheWay v x n f met r) where
  has_left : (kind : RefKind) → r.kind ≡ kind → IsGone kind y r.seat r.number n f → HasLeft kind v y n f r
  has_left kind is gone = (is, stood_goes x y goes seat v n f r way.stood, subst (λ (k : RefKind). IsGone k y r.seat r.number n f) (sym is) gone)

  pub completed_way : r.kind ≡ AnInstall → Has y.view.notes (removed r.seat r.number)
      → HasMadeWay v y n f (record { completed = Some r; helped = met.helped })
  unfolding has_left
  completed_way kind gone = record { completed = has_left AnInstall kind gone; helped = (way_goes x y goes seat v n f met way.after).helped }

  -- by a help after which its words are clean
  gone_by : r.kind ≡ AnExchange → IsCleanOf x y r → IsGone AnExchange y r.seat r.number n f
  gone_by kind cleaned = ⊎_elim (λ all. inr all) (λ where_met. inl (where_met n f (held_there v x n f met r way kind))) cleaned

  pub helped_way : r.kind ≡ AnExchange → IsCleanOf x y r → HasMadeWay v y n f (record { completed = met.completed; helped = Some r })
  unfolding has_left gone_by
  helped_way kind cleaned = record { completed = (way_goes x y goes seat v n f met way.after).completed; helped = has_left AnExchange kind (gone_by kind cleaned) }

-- ---- two stood there

-- one of this kind was made to leave before
pub busy_again : (links : ℕ) (kind : RefKind) (v : View) (y : Whole) (n : ℕ) (f : Field) (first second : Ref) → HasLeft kind v y n f first
    → Stood v y n f second → second.kind ≡ kind → second ≢ first → IsBusy links v y n f first second
busy_again links kind v y n f first second left stood is different = record {
  stood = left.1.noted;
  not_own = (left.1.not_own, stood.not_own);
  different = different;
  then = inl (is ∙ sym left.0, stood.noted);
}

pub stopped_before : (links : ℕ) (v u : View) (y : Whole) (op by : Ref) → AddsNotes v u → IsStoppedBy links u y op by → IsStoppedBy links v y op by
stopped_before links v u y op by adds s = record {
  other = s.other;
  not_own = s.not_own;
  exchange = s.exchange;
  node = s.node;
  field = s.field;
  word = s.word;
  stood = noted_after v u y.view (met_note by.kind by.seat by.number s.node s.field) adds s.stood;
  cause = ⊎_elim
      (λ two. inl (two.0, ⊎_elim (λ two_then. inl (two_since v u adds y two.0 by two_then)) (λ two_then. inr (two_since v u adds y by two.0 two_then)) two.1))
      (λ many. inr (followed_since v u adds y links many))
      s.cause;
}

-- the help of the first one was stopped
pub busy_beyond : (links : ℕ) (v : View) (x y : Whole) (n : ℕ) (f : Field) (met : Met) (first by : Ref) → GoesOn x y → y.view.seat ≡ x.view.seat
    → IsInTheWay v x n f met first → IsStoppedBy links x.view y first by → IsBusy links v y n f first by
unfolding stopped_before
busy_beyond links v x y n f met first by goes seat way stopped = let stood = stood_goes x y goes seat v n f first way.stood in record {
  stood = stood.noted;
  not_own = (stood.not_own, stopped.not_own);
  different = stopped.other;
  then = inr (stopped_before links v x.view y first by (way.stood.noted.0, way.stood.noted.1) stopped);
}
