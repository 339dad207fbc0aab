-- A pass that goes on, by what its steps tell; and what it knew of exchanges it knows still.
use Rattle.std.proofs.Common.{◌≡◌, ℕ, ◌+◌, ◌*◌, [], refl, ap, inl, inr, ⊎_elim}
use Rattle.pc_model.specs.declared.cell.Field.{Field}
use Rattle.pc_rule_law.specs.Board.{place_number}
use Rattle.pc_rule_law.specs.Plays.{AddsNotes, IsLater}
use Rattle.pc_rule_law.specs.Views.{View, clean, removed}
use Rattle.pc_exchange_law.specs.ExchangeConditions.{KnowsCleared}
use Rattle.pc_exchange_law.specs.Knowing.{Learns}
use Rattle.pc_exchange_law.specs.Wholes.{Whole}
use Rattle.pc_rule.specs.declared.opening.Place.{Place}
use Rattle.pc_rule.specs.declared.refs.Ref.{Ref}
use Rattle.pc_rule.specs.declared.refs.RefKind.{RefKind}
use Rattle.pc_rule.specs.declared.refs.RefKind.TheVariants.{Install as AnInstall, Exchange as AnExchange}
use Rattle.pc_dcss.specs.Installs.{KeepsAttempt, IsGone, IsNews}
use Rattle.pc_kcas.specs.Obstacles.{GoesOn}
use Rattle.pc_kcas.specs.Settling.{HasLearnt}
use Rattle.pc_kcas.proofs.Evidence.{keeps_notes, word_goes}

pub goes_none : (x : Whole) → GoesOn x x
goes_none x = record { adds = ([], refl); size = refl; attempt = (refl, refl); noted = λ n h. h; told = λ n h. h; own = refl }

pub goes_by : (x y : Whole) → AddsNotes x.view y.view → y.view.size ≡ x.view.size → KeepsAttempt x.view y.view → Learns x.knows y.knows → GoesOn x y
goes_by x y adds size attempt learns = record { adds = adds; size = size; attempt = attempt; noted = learns.noted; told = learns.told; own = learns.own }

later_keeps : (v w : View) → IsLater v w → KeepsAttempt v w
later_keeps v w later = (ap (λ (u : View). u.attempt) later.same, ap (λ (u : View). u.posted) later.same)

pub goes_later : (x y : Whole) → IsLater x.view y.view → Learns x.knows y.knows → GoesOn x y
unfolding later_keeps
goes_later x y later learns = goes_by x y later.adds (ap (λ (u : View). u.size) later.same) (later_keeps x.view y.view later) learns

pub goes_learnt : (x y : Whole) → HasLearnt x y → GoesOn x y
unfolding later_keeps
goes_learnt x y l = record { adds = l.view.adds; size = ap (λ (u : View). u.size) l.view.same; attempt = later_keeps x.view y.view l.view; noted = l.noted; told = l.told; own = l.own }

module _ (x y : Whole) (goes : GoesOn x y) (seat : y.view.seat ≡ x.view.seat) where
  -- an attempt that is known to be gone from all words is so still
  pub cleared_goes : (p a : ℕ) → KnowsCleared x p a → KnowsCleared y p a
  cleared_goes p a c = record {
    places = record {
      count = c.places.count;
      counted = word_goes x y goes seat p a 1 c.places.count c.places.counted;
      each = λ i below. let e = c.places.each i below in (e.0, e.1, word_goes x y goes seat p a (3 + 3 * i) (place_number e.0 e.1) e.2);
    };
    each = λ i below. keeps_notes x.view y.view goes.adds (clean p a (c.places.each i below).0 (c.places.each i below).1) (c.each i below);
  }

  gone_goes : (kind : RefKind) (s k n : ℕ) (f : Field) → IsGone kind x s k n f → IsGone kind y s k n f
  unfolding cleared_goes
  gone_goes AnInstall s k n f gone = keeps_notes x.view y.view goes.adds (removed s k) gone
  gone_goes AnExchange s k n f gone = ⊎_elim (λ h. inl (keeps_notes x.view y.view goes.adds (clean s k n f) h)) (λ c. inr (cleared_goes s k c)) gone

  -- so what is news by what is known later is news by what was known before
  pub news_goes : (place : Place) (r : Ref) → IsNews y place r → IsNews x place r
  unfolding gone_goes
  news_goes place r news gone = news (gone_goes r.kind r.seat r.number place.node place.field gone)
