-- All stamps that a pass has seen are below the clock; and a clock that is above them stays so where what is noted tells of none above.
use Rattle.std.proofs.Common.{◌≡◌, ℕ, zero, suc, ◌<◌, ◌≤◌, ◌⊎◌, ⊎_elim, inl, inr, List, [], ◌∷◌, None, Some, sym, subst, ◌∙◌, arith}
use mathlib.Core.Option.{some-injective}
use Rattle.std.proofs.lemmas.Bool.{cases_lt}
use Rattle.pc_model.specs.Exchanges.{Exchange as PathExchange}
use Rattle.pc_rule_law.specs.Past.{Has}
use Rattle.pc_protocol.specs.Histories.{Stage, absent, undecided, committed, aborted, History}
use Rattle.pc_protocol.specs.Notes.{Note as RunNote, clock_was, visited, read_word, saw, looked, published, held, drew, verdict, in_use, rival, in_run, cleared, outdated, IsTrueNote}
use Rattle.pc_protocol.specs.Rules.{Rule}
use Rattle.pc_rule_law.proofs.Lists.{none_has}
use Rattle.pc_exchange_law.specs.Knowing.{IsAboveSeen}

-- nothing stands in the run from the clock on
stands_below : (h : History) → Rule h → (t : ℕ) (e : PathExchange) → h.item t ≡ Some e → t < h.clock
stands_below h r t e stands = ⊎_elim (λ below. below)
    (λ late. absurd (let clash : Some e ≡ None = sym stands ∙ r.run.late t late in cc)) (cases_lt t h.clock)

-- all that was seen is below the clock
pub seen_below : (h : History) → Rule h → (told : List RunNote) → ((n : RunNote) → Has told n → IsTrueNote h n) → IsAboveSeen told h.clock
seen_below h r told so = record {
  clock = λ c has. so (clock_was c) has;
  stamps = λ t seen. ⊎_elim (λ drawn. (so (drew drawn.0 t) drawn.1).0)
      (⊎_elim (λ won. (r.standing won.0 t (so (verdict won.0 (committed t)) won.1).0).0.0)
      (λ read. stands_below h r t read.0 (so (in_run t read.0) read.1))) seen;
  reads = λ n v x b f has. (so (read_word n v f x b) has).0;
}

-- a verdict, and any note, tells of no stamp from r on, and of no clock and no moment of a read above
abbrev IsBefore : Stage → ℕ → Type 0
IsBefore absent r = Unit {0}
IsBefore undecided r = Unit {0}
IsBefore (committed s) r = s < r
IsBefore (aborted cause) r = Unit {0}

abbrev pub IsNotAbove : RunNote → ℕ → Type 0
IsNotAbove (clock_was c) r = c ≤ r
IsNotAbove (visited n v c) r = Unit {0}
IsNotAbove (read_word n v f x c) r = c ≤ r
IsNotAbove (saw c e) r = Unit {0}
IsNotAbove (looked s n f) r = Unit {0}
IsNotAbove (published x e c) r = Unit {0}
IsNotAbove (held x n f) r = Unit {0}
IsNotAbove (drew x s) r = s < r
IsNotAbove (verdict x st) r = IsBefore st r
IsNotAbove (in_use n) r = Unit {0}
IsNotAbove (rival q n c) r = Unit {0}
IsNotAbove (in_run s e) r = s < r
IsNotAbove (cleared x) r = Unit {0}
IsNotAbove (outdated x n) r = Unit {0}

pub none_above : (r : ℕ) → IsAboveSeen [] r
none_above r = record {
  clock = λ c has. absurd (none_has (clock_was c) has);
  stamps = λ t seen. ⊎_elim (λ drawn. absurd (none_has (drew drawn.0 t) drawn.1))
      (⊎_elim (λ won. absurd (none_has (verdict won.0 (committed t)) won.1)) (λ read. absurd (none_has (in_run t read.0) read.1))) seen;
  reads = λ n v x b f has. absurd (none_has (read_word n v f x b) has);
}

-- a note that is found in front, or behind
front_or_behind : (n : RunNote) (told : List RunNote) (m : RunNote) → Has (n ∷ told) m → (n ≡ m) ⊎ Has told m
front_or_behind n told m (zero, at) = inl (some-injective n m at)
front_or_behind n told m (suc k, at) = inr (k, at)

pub above_more : (n : RunNote) (told : List RunNote) (r : ℕ) → IsNotAbove n r → IsAboveSeen told r → IsAboveSeen (n ∷ told) r
above_more n told r is above = record {
  clock = λ c has. ⊎_elim (λ e. subst (λ (m : RunNote). IsNotAbove m r) e is) (above.clock c) (front_or_behind n told (clock_was c) has);
  stamps = λ t seen. ⊎_elim
      (λ drawn. ⊎_elim (λ e. subst (λ (m : RunNote). IsNotAbove m r) e is) (λ has. above.stamps t (inl (drawn.0, has)))
      (front_or_behind n told (drew drawn.0 t) drawn.1))
      (⊎_elim
      (λ won. ⊎_elim (λ e. subst (λ (m : RunNote). IsNotAbove m r) e is) (λ has. above.stamps t (inr (inl (won.0, has))))
      (front_or_behind n told (verdict won.0 (committed t)) won.1))
      (λ read. ⊎_elim (λ e. subst (λ (m : RunNote). IsNotAbove m r) e is) (λ has. above.stamps t (inr (inr (read.0, has))))
      (front_or_behind n told (in_run t read.0) read.1)))
      seen;
  reads = λ m v x b f has. ⊎_elim (λ e. subst (λ (k : RunNote). IsNotAbove k r) e is) (above.reads m v x b f)
      (front_or_behind n told (read_word m v f x b) has);
}

-- so it is behind a load of the clock, with what that tells
pub above_clock : (told : List RunNote) (r : ℕ) (e : PathExchange) → IsAboveSeen told r → IsAboveSeen (clock_was r ∷ saw r e ∷ told) r
above_clock told r e above = above_more (clock_was r) (saw r e ∷ told) r (omega arith) (above_more (saw r e) told r tt above)
