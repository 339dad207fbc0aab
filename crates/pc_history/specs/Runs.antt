-- A run of exchanges as a function of stamps: at each stamp stands an exchange or nothing. So an exchange
-- enters the run at its stamp, and the cells at a moment are those that the exchanges with smaller stamps
-- leave.
use Rattle.std.specs.Prelude.{◌≡◌, ℕ, zero, suc, ◌<◌, ◌≤◌, ◌⊎◌, Option, Some, None}
use Rattle.pc_model.specs.declared.cell.Field.{Field}
use Rattle.pc_model.specs.declared.cell.Field.TheVariants.{Version}
use Rattle.pc_model.specs.Cells.{Cells}
use Rattle.pc_model.specs.Exchanges.{Exchange, Stands, applied}
use Rattle.pc_history.specs.Updates.{updated}
use Rattle.pc_history.specs.Footprints.{WritesMiss, RaisesVersions}

-- what stands at each stamp
abbrev pub Items : Type 0
Items = ℕ → Option Exchange

-- the cells after the exchange at a stamp, if there is one
abbrev pub after : Option Exchange → Cells → Cells
after None c = c
after (Some e) c = applied e c

-- the cells at a moment
abbrev pub cells_at : Cells → Items → ℕ → Cells
cells_at opening item zero = opening
cells_at opening item (suc t) = after (item t) (cells_at opening item t)

-- the run with an exchange at a stamp
abbrev pub put_item : Items → ℕ → Exchange → Items
put_item item s e = updated item s (Some e)

-- it holds of the exchange, if there is one
abbrev pub OnItem : (Exchange → Type 0) → Option Exchange → Type 0
OnItem P None = Unit {0}
OnItem P (Some e) = P e

-- no stamp from the clock on has an exchange; each exchange stands in the cells at its stamp, and raises the
-- version of each node that it changes
pub record IsRun (opening : Cells) (clock : ℕ) (item : Items) : Type 0 where
  pub late : (t : ℕ) → clock ≤ t → item t ≡ None
  pub stands : (t : ℕ) → OnItem (λ e. Stands e (cells_at opening item t)) (item t)
  pub raises : (t : ℕ) → OnItem RaisesVersions (item t)

-- the exchange may enter the run at this stamp, which no other has: it stands there, and what it writes
-- misses every exchange with a greater stamp
pub record MayEnter (opening : Cells) (clock : ℕ) (item : Items) (s : ℕ) (e : Exchange) : Type 0 where
  pub below : s < clock
  pub empty : item s ≡ None
  pub stands : Stands e (cells_at opening item s)
  pub raises : RaisesVersions e
  pub misses : (u : ℕ) → s < u → OnItem (WritesMiss e) (item u)

-- at each moment a node's version is greater than before the change of the run, or the node is as before
abbrev pub HasRisen : Cells → Items → Items → Type 0
HasRisen opening item item' = (t n : ℕ) → (cells_at opening item t n Version < cells_at opening item' t n Version)
    ⊎ ((f : Field) → cells_at opening item' t n f ≡ cells_at opening item t n f)

-- what comes of it: it is a run; the cells up to the stamp are as before; those above are as before, with the
-- exchange made; and so versions rise, or nodes stay
pub record HasEntered (opening : Cells) (clock : ℕ) (item : Items) (s : ℕ) (e : Exchange) : Type 0 where
  pub run : IsRun opening clock (put_item item s e)
  pub lower : (t : ℕ) → t ≤ s → cells_at opening (put_item item s e) t ≡ cells_at opening item t
  pub upper : (t : ℕ) → s < t → cells_at opening (put_item item s e) t ≡ applied e (cells_at opening item t)
  pub risen : HasRisen opening item (put_item item s e)
