-- The words of an exchange that were read and held, and what stopped them.
use Rattle.std.proofs.Common.{◌≡◌, ℕ, ◌+◌, ◌*◌, inl, sym, subst, arith, Option, Some, None, IfSome, IfNone}
use mathlib.Core.Logic.{dite}
use native.Mathlib.Decide.{ℕ_discrete}
use Rattle.pc_model.specs.Cells.{IsNode}
use Rattle.pc_rule_law.specs.Board.{Size, place_number}
use Rattle.pc_rule_law.specs.Plays.{AddsNotes, IsNotedSince}
use Rattle.pc_rule_law.specs.Views.{View, NoteInRange, AllNotes, held, word_loaded, attempt_word}
use Rattle.pc_exchange_law.specs.Attempts.{KnowsEntry, came_to, loaded_word, listed_word}
use Rattle.pc_exchange_law.specs.Wholes.{Whole}
use Rattle.pc_rule.specs.declared.opening.Place.{Place}
use Rattle.pc_rule.specs.declared.refs.Ref.{Ref}
use Rattle.pc_dcss.specs.Installs.{KnowsPlace}
use Rattle.pc_dcss.proofs.Puts.{place_ranged}
use Rattle.pc_dcss.proofs.Staying.{is_noted}
use Rattle.pc_kcas.specs.Collecting.{IsHaltedBy}
use Rattle.pc_kcas.specs.declared.collecting.Halt.{Halt}
use Rattle.pc_kcas.specs.declared.collecting.Halt.TheVariants.{Over, At}
use Rattle.pc_kcas.specs.declared.obstacle.Obstacle.{Obstacle}
use Rattle.pc_kcas.specs.Holds.{halt_at}
use Rattle.pc_kcas.specs.Obstacles.{GoesOn, IsWordOf, IsObstacle}
use Rattle.pc_kcas.specs.Checking.{KnowsCounts}
use Rattle.pc_kcas.specs.declared.reading.Counts.{Counts}
use Rattle.pc_kcas.specs.Readings.{HasComeTo, HasLoaded, HasRead}
use Rattle.pc_kcas.specs.Settling.{HoldsEach}
use Rattle.pc_kcas.specs.Takings.{HoldsAt, HoldsBelow}
use Rattle.pc_kcas.proofs.Concluded.{clean_met_before}
use Rattle.pc_kcas.proofs.Evidence.{keeps_notes, word_goes, obstacle_since}

-- what was known of the exchange stays known
pub come_goes : (x y : Whole) (op : Ref) → GoesOn x y → HasComeTo x op → HasComeTo y op
come_goes x y op goes come = let m = come.0 in
    ((m.0, m.1, keeps_notes x.view y.view goes.adds (held op.seat op.number m.0 m.1) m.2), goes.noted (came_to op.seat op.number) come.1)

pub loaded_goes : (x y : Whole) (op : Ref) (place r : ℕ) → GoesOn x y → HasLoaded x op place r → HasLoaded y op place r
loaded_goes x y op place r goes h = (
  keeps_notes x.view y.view goes.adds (word_loaded op.seat op.number place r) h.0,
  goes.noted (loaded_word op.seat op.number place r) h.1,
)

pub read_goes : (x y : Whole) (op : Ref) (place r : ℕ) → GoesOn x y → HasRead x op place r → HasRead y op place r
read_goes x y op place r goes h = (
  keeps_notes x.view y.view goes.adds (attempt_word op.seat op.number place r) h.0,
  goes.noted (listed_word op.seat op.number place r) h.1,
)

pub counts_goes : (x y : Whole) (op : Ref) (counts : Counts) → GoesOn x y → KnowsCounts x op counts → KnowsCounts y op counts
counts_goes x y op counts goes k = (
  loaded_goes x y op 1 counts.changes goes k.0,
  read_goes x y op 1 counts.changes goes k.1,
  loaded_goes x y op 2 counts.visits goes k.2,
  read_goes x y op 2 counts.visits goes k.3,
)

-- one word more holds the reference
pub holds_goes : (x y : Whole) (op : Ref) (i : ℕ) → GoesOn x y → y.view.seat ≡ x.view.seat → HoldsAt x op i → HoldsAt y op i
holds_goes x y op i goes seat h = (
  h.0,
  h.1,
  word_goes x y goes seat op.seat op.number (3 + 3 * i) (place_number h.0 h.1) h.2,
  keeps_notes x.view y.view goes.adds (held op.seat op.number h.0 h.1) h.3,
)

pub holds_more : (x y : Whole) (op : Ref) (i : ℕ) → GoesOn x y → y.view.seat ≡ x.view.seat → HoldsBelow x op i → HoldsAt y op i → HoldsBelow y op (i + 1)
holds_more x y op i goes seat below here j lt = dite (ℕ_discrete j i)
    (λ (is : j ≡ i). subst (HoldsAt y op) (sym is) here)
    (λ other. holds_goes x y op j goes seat (below j (omega arith)))

-- ---- what came of a word that was read

pub holds_word : (x y : Whole) (op : Ref) (i : ℕ) (at : Place) (obstacle : Option Obstacle) → GoesOn x y → y.view.seat ≡ x.view.seat
    → KnowsEntry x.knows.noted x.view.seat x.knows.own op.seat op.number i at.node at.field at.old at.new
    → IfNone obstacle (IsNotedSince x.view y.view (held op.seat op.number at.node at.field)) → IfNone (halt_at at.node obstacle) (HoldsAt y op i)
holds_word x y op i at (Some o) goes seat entry told = tt
holds_word x y op i at None goes seat entry told = (
  at.node,
  at.field,
  word_goes x y goes seat op.seat op.number (3 + 3 * i) (place_number at.node at.field) entry.place,
  is_noted x.view y.view (held op.seat op.number at.node at.field) told,
)

pub halted_word : (o x y : Whole) (op : Ref) (at : Place) (links left : ℕ) (obstacle : Option Obstacle) → AddsNotes o.view x.view
    → IsNode y.view.size.slots at.node → IsWordOf y op at.node at.field → IfSome obstacle (IsObstacle x y op at.node at.field links left)
    → IfSome (halt_at at.node obstacle) (IsHaltedBy o y op left)
halted_word o x y op at links left None adds node word told = tt
halted_word o x y op at links left (Some obstacle) adds node word told =
    (at.field, links, node, word, obstacle_since o x adds y op at.node at.field links left obstacle told)

-- what stopped the words since a later moment stopped them since an earlier one
pub halted_since : (o x : Whole) → AddsNotes o.view x.view → (y : Whole) (op : Ref) (left : ℕ) (halt : Halt) → IsHaltedBy x y op left halt → IsHaltedBy o y op left halt
halted_since o x adds y op left (Over s) h = (h.0, h.1, clean_met_before o.view x.view y.view op adds h.2)
halted_since o x adds y op left (At n obstacle) h = (h.0, h.1, h.2, h.3, obstacle_since o x adds y op n h.0 h.1 left obstacle h.4)

pub halted_if : (o x : Whole) → AddsNotes o.view x.view → (y : Whole) (op : Ref) (left : ℕ) (halt : Option Halt) → IfSome halt (IsHaltedBy x y op left)
    → IfSome halt (IsHaltedBy o y op left)
halted_if o x adds y op left None h = tt
halted_if o x adds y op left (Some halt) h = halted_since o x adds y op left halt h

-- the node of a word that is known is one of the board's
pub node_of : (z : Size) (v w : View) (op : Ref) (place : Place) → v.size ≡ z → w.size ≡ z → AllNotes (NoteInRange z) v.notes → KnowsPlace v op place
    → IsNode w.size.slots place.node
node_of z v w op place sized sized' ranged known = subst (λ (y : Size). IsNode y.slots place.node) (sym sized') (place_ranged z v sized ranged op place known).1

-- so the exchange may be drawn for
pub holds_each : (x : Whole) (op : Ref) (count : ℕ) → HasRead x op 1 count → HasComeTo x op → HoldsBelow x op count → HoldsEach x op.seat op.number
holds_each x op count counted come below = record {
  met = come.0;
  places = record {
    count = count;
    counted = inl counted.1;
    each = λ i lt. let b = below i lt in (b.0, b.1, b.2);
  };
  each = λ i lt. (below i lt).3;
}
