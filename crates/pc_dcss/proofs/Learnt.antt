-- What a pass knows beside its view grows from step to step.
use Rattle.std.proofs.Common.{◌≡◌, ℕ, ◌+◌, ◌*◌, ⊎_elim, inl, inr, refl, sym, ap, ◌∙◌, subst}
use mathlib.Core.Logic.{dite}
use native.Mathlib.Decide.{ℕ_discrete}
use Rattle.pc_model.specs.declared.cell.Field.{Field}
use Rattle.pc_rule_law.specs.Board.{place_number}
use Rattle.pc_rule_law.specs.Views.{clean}
use Rattle.pc_exchange_law.specs.Attempts.{OwnAttempt, listed_word, word_in, KnowsWord}
use Rattle.pc_exchange_law.specs.ExchangeConditions.{KnowsCleared}
use Rattle.pc_exchange_law.specs.Knowing.{Learns}
use Rattle.pc_exchange_law.specs.Passes.{PassKnows}
use Rattle.pc_exchange_law.specs.WholePlays.{WordSwapped}
use Rattle.pc_exchange_law.specs.Wholes.{Whole}
use Rattle.pc_dcss.specs.Installs.{KeepsNotes}

pub learns_none : (k : PassKnows) → Learns k k
learns_none k = record { own = refl; ready = refl; slots = refl; noted = λ n h. h; told = λ n h. h }

pub learns_same : (k k' : PassKnows) → k' ≡ k → Learns k k'
unfolding learns_none
learns_same k k' e = subst (Learns k) (sym e) (learns_none k)

pub learns_then : (a b c : PassKnows) → Learns a b → Learns b c → Learns a c
learns_then a b c x y = record {
  own = y.own ∙ x.own;
  ready = y.ready ∙ x.ready;
  slots = y.slots ∙ x.slots;
  noted = λ n h. y.noted n (x.noted n h);
  told = λ n h. y.told n (x.told n h);
}

-- by a compare_exchange on a word of a node
pub learns_swapped : (x : Whole) (n : ℕ) (f : Field) (old new r : ℕ) (y : Whole) → WordSwapped x n f old new r y → Learns x.knows y.knows
unfolding learns_then
learns_swapped x n f old new r y s = dite (ℕ_discrete r old)
    (λ e. let h = s.hit e in learns_then x.knows h.0 y.knows h.1.learns h.2.learns)
    (λ ne. (s.miss ne).learns)

module _ (x y : Whole) (keeps : KeepsNotes x.view y.view) (learns : Learns x.knows y.knows) (seat : y.view.seat ≡ x.view.seat) where
  -- a word of a descriptor that was known is known
  pub known_kept : (p a place w : ℕ) → KnowsWord x.knows.noted x.view.seat x.knows.own p a place w
      → KnowsWord y.knows.noted y.view.seat y.knows.own p a place w
  known_kept p a place w known = ⊎_elim (λ noted. inl (learns.noted (listed_word p a place w) noted))
      (λ own. inr (
        own.0 ∙ sym seat,
        own.1 ∙ sym (ap (λ (o : OwnAttempt). o.number) learns.own),
        ap (λ (o : OwnAttempt). o.busy) learns.own ∙ own.2,
        ap (λ (o : OwnAttempt). word_in o.words place) learns.own ∙ own.3,
      )) known

  -- and so is an attempt that is gone from all words
  pub cleared_kept : (p a : ℕ) → KnowsCleared x p a → KnowsCleared y p a
  unfolding known_kept
  cleared_kept p a c = record {
    places = record {
      count = c.places.count;
      counted = known_kept p a 1 c.places.count c.places.counted;
      each = λ i below. let e = c.places.each i below in (e.0, e.1, known_kept p a (3 + 3 * i) (place_number e.0 e.1) e.2);
    };
    each = λ i below. keeps (clean p a (c.places.each i below).0 (c.places.each i below).1) (c.each i below);
  }
