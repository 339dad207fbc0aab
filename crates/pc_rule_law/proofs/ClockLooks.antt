-- A load of the clock, which never falls.
use Rattle.std.proofs.Common.{◌≡◌, ℕ, true, [], ◌∷◌, refl, arith}
use mathlib.Core.Option.{none}
use Rattle.atomic_table.specs.Table.{step, Allows}
use Rattle.pc_model.specs.Cells.{Cells}
use Rattle.pc_rule_law.specs.Board.{Size, at_clock, address}
use Rattle.pc_rule_law.specs.Views.{clock_at, View, NoteHolds, with_notes}
use Rattle.pc_rule_law.specs.Rule.{Holds}
use Rattle.pc_rule_law.specs.Plays.{Mine, SameSeat, LoadedClock, loads_clock}
use Rattle.pc_rule_law.proofs.Lists.{all_one}
use Rattle.pc_rule_law.proofs.Keeping.{noted_more}
use Rattle.pc_rule_law.proofs.Steps.{Looks, looked}

module _ (sound : ℕ → Cells → Cells → Type 0) (z : Size) where
  pub clock_looks : (id : ℕ) (v : View) → v.live ≡ true
      → Looks sound z id v at_clock (λ r w. SameSeat v w × LoadedClock v r w at_clock)
  clock_looks id v live b h views k at = let mine = k.each_view id v at in (
    with_notes v (clock_at b.clock ∷ []),
    noted_more sound z b h views id v (clock_at b.clock ∷ []) k at live
        (all_one (NoteHolds z b h) (clock_at b.clock) ((omega arith), tt)),
    ((refl, refl, refl, refl, refl), (refl, λ c has. (mine.noted (clock_at c) has).0)),
  )

  pub load_clock : (slots id : ℕ) (me : Mine) → me.0.size ≡ z → me.0.live ≡ true
      → Allows (Holds sound z) slots id me (address z at_clock) (λ r. r)
      (loads_clock (step slots (address z at_clock) 0 0 none) me)
  load_clock slots id me sized live = looked sound z slots id me at_clock (LoadedClock me.0) tt sized (clock_looks id me.0 live)
