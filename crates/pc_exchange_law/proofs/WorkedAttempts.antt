-- The definitions of attempts on worked cases: words that were stored into a descriptor, what they say of an attempt,
-- an early install in a word, and seats that drew at the end of the clock.
use Rattle.std.proofs.Common.{◌≡◌, ℕ, zero, suc, ◌+◌, ◌*◌, inr, true, false, ◌==◌, if◌then◌else◌, List, [], ◌∷◌, None, refl, sym, subst, arith}
use mathlib.Core.Option.{some, some-injective, some-ne-none}
use lib.ListN.{get_elem?}
use Rattle.pc_model.specs.declared.cell.Field.TheVariants.{Value}
use Rattle.pc_model.specs.Exchanges.{Changed}
use Rattle.pc_words.specs.declared.word.WordKind.TheVariants.{Install, Exchange}
use Rattle.pc_rule_law.specs.Board.{place_number}
use Rattle.pc_rule_law.specs.Past.{Attempt, Placing, change, Describes}
use Rattle.pc_exchange_law.specs.Attempts.{OwnAttempt, word_in, IsCalm, IsCalmBut, KnowsEntry}
use Rattle.pc_exchange_law.specs.ClockEnds.{count_late}

-- an attempt of one change, as it is stored: the count, and then the entry from its last word on
abbrev to_put : Attempt
to_put = record { mode = 0; changes = change 1 Value 0 50 ∷ []; visits = []; reads = []; fresh = None }

abbrev stored : List (ℕ × ℕ)
stored = (3, 10) ∷ (5, 50) ∷ (1, 1) ∷ []

new_number : word_in stored 5 ≡ 50
new_number = refl

never_stored : word_in stored 4 ≡ 0
never_stored = refl

stored_again : word_in ((5, 60) ∷ stored) 5 ≡ 60
stored_again = refl

others_stay : word_in ((5, 60) ∷ stored) 3 ≡ place_number 1 Value
others_stay = refl

described : Describes 4 to_put (word_in stored)
described = record {
  mode = refl;
  changes = refl;
  visits = refl;
  each_change = entry;
  each_visit = λ i x at. absurd (some-ne-none x (sym at));
}
  where
    entry : (i : ℕ) (x : Changed) → get_elem? to_put.changes i ≡ some x
        → (word_in stored (3 + 3 * i) ≡ place_number x.node x.field) × (word_in stored (4 + 3 * i) ≡ x.old)
        × (word_in stored (5 + 3 * i) ≡ x.new)
    entry zero x at = subst (λ (y : Changed). (10 ≡ place_number y.node y.field) × (0 ≡ y.old) × (50 ≡ y.new))
        (some-injective (change 1 Value 0 50) x at) (refl, refl, refl)
    entry (suc i) x at = absurd (some-ne-none x (sym at))

-- the pass at seat 2 knows its entry by its own words, once it is published, and no entry before
abbrev mine : OwnAttempt
mine = record { number = 4; busy = true; withdrew = false; words = stored }

own_entry : KnowsEntry [] 2 mine 2 4 0 1 Value 0 50
own_entry = record {
  count = 1;
  counted = inr (refl, refl, refl, refl);
  below = omega arith;
  place = inr (refl, refl, refl, refl);
  old_word = inr (refl, refl, refl, refl);
  new_word = inr (refl, refl, refl, refl);
}

-- install 9 of the pass at seat 0 is for attempt 4 of that at seat 2, and early
abbrev placing : ℕ → ℕ → Placing
placing q k = record { seat = 2; number = 4; node = 1; field = Value; old = 0; early = if k == 9 then true else false }

not_calm : IsCalm placing 2 4 (Install 0 9) → ⊥
not_calm calm = calm (refl, refl, refl)

calm_but_it : IsCalmBut placing 2 4 0 9 (Install 0 9)
calm_but_it early = (refl, refl)

-- one that is late doesn't count, nor does one of another attempt
calm_late : IsCalm placing 2 4 (Install 0 8)
calm_late early = absurd (let clash : false ≡ true = early.2 in cc)

calm_other : IsCalm placing 2 5 (Install 0 9)
calm_other early = absurd (let same : 4 ≡ 5 = early.1 in omega arith)

calm_own_reference : IsCalm placing 2 4 (Exchange 2 4)
calm_own_reference = tt

-- of four seats two drew from the last stamp on
two_late : count_late 4 (λ j. if j == 1 then true else j == 3) ≡ 2
two_late = refl
