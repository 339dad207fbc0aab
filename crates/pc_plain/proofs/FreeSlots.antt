-- The stack of the slots out of use: what it tells of a slot that is taken from it, and that it stays
-- right where a slot is taken and another given.
use Rattle.std.proofs.Common.{◌≡◌, ℕ, ◌+◌, ◌<◌, List, [], ◌∷◌, ◌++◌, length, Option, Some, sym, ap, ◌∙◌, subst, arith}
use Rattle.pc_model.specs.declared.cell.Field.TheVariants.{Version}
use Rattle.pc_model.specs.Cells.{Cells}
use Rattle.pc_model.specs.Counts.{count}
use Rattle.pc_model.specs.Exchanges.{with_fresh}
use Rattle.pc_model.proofs.Counting.{count-here, count-append}
use Rattle.pc_plan.specs.declared.change.Fresh.{Fresh}
use Rattle.pc_plan.specs.Runs.{fresh_fields, fresh_at}
use Rattle.pc_plain.specs.PlainCells.{SplitWords, cells_in, AreBelowLimits, kept, kept_cells}
use Rattle.pc_plain.specs.PlainWriting.{TakesSlot}
use Rattle.pc_plain.proofs.KeptCells.{kept_node, kept_same}

-- the last of a stack is counted
pub last_counted : (free rest : List ℕ) (slot : ℕ) → free ≡ rest ++ slot ∷ [] → 0 < count slot free
last_counted free rest slot e =
    let a : count slot free ≡ count slot (rest ++ slot ∷ []) = ap (count slot) e in
    let b : count slot (rest ++ slot ∷ []) ≡ count slot rest + count slot (slot ∷ [])
    = count-append slot rest (slot ∷ []) in
    let d : count slot (slot ∷ []) ≡ 1 = count-here slot [] in
    omega arith

-- a node written at the stack's last slot takes that slot
pub takes_slot : (wanted : Option Fresh) (fresh : Fresh) (old_words new_words : SplitWords) (old_free new_free : List ℕ)
    (slot version : ℕ) → wanted ≡ Some fresh
    → old_free ≡ new_free ++ slot ∷ [] → version ≡ cells_in old_words slot Version
    → AreBelowLimits (cells_in old_words)
    → cells_in new_words ≡ with_fresh
    (Some (record { node = slot; fields = λ f. kept f (fresh_fields version fresh f) })) (cells_in old_words)
    → length new_words.near ≡ length old_words.near → slot < 4294967296 → fresh.parent < 4294967296
    → TakesSlot wanted old_words new_words old_free new_free slot
takes_slot wanted fresh old_words new_words old_free new_free slot version e taken v below cells long small parent =
    let c : Cells = cells_in old_words in
    let here : kept_cells (with_fresh (fresh_at slot version (Some fresh)) c) ≡ cells_in new_words
    = kept_node slot (fresh_fields version fresh) c
    ∙ ap (λ (d : Cells). with_fresh
    (Some (record { node = slot; fields = λ f. kept f (fresh_fields version fresh f) })) d) (kept_same c below)
    ∙ sym cells in
    let at : TakesSlot (Some fresh) old_words new_words old_free new_free slot
    = record {
      taken = taken;
      cells =
          sym (subst (λ (x : ℕ). kept_cells (with_fresh (fresh_at slot x (Some fresh)) c) ≡ cells_in new_words) v
          here);
      long = long;
      small = small;
      parent = parent;
    } in
    subst (λ (o : Option Fresh). TakesSlot o old_words new_words old_free new_free slot) (sym e) at
