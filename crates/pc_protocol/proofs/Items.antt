-- What holds of the exchange at a stamp, if there is one; and what a reference says, where stages change.
use Rattle.std.proofs.Common.{◌≡◌, ℕ, Option, Some, None, sym, ◌∙◌, subst}
use Rattle.pc_model.specs.declared.cell.Field.{Field}
use Rattle.pc_model.specs.Cells.{Cells}
use Rattle.pc_model.specs.Exchanges.{Exchange}
use Rattle.pc_history.specs.Footprints.{IsAmong}
use Rattle.pc_history.specs.Runs.{OnItem}
use Rattle.pc_protocol.specs.Histories.{Stage, Slot, IsPublished, IsUsed, value_by}
use Rattle.pc_protocol.specs.Rules.{Refers}

pub on_item_map : (P Q : Exchange → Type 0) (o : Option Exchange) → ((e : Exchange) → P e → Q e) → OnItem P o
    → OnItem Q o
on_item_map P Q None f holds = tt
on_item_map P Q (Some e) f holds = f e holds

pub on_item_none : (P : Exchange → Type 0) (o : Option Exchange) → o ≡ None → OnItem P o
on_item_none P o is = subst (OnItem P) (sym is) tt

pub on_item_some : (P : Exchange → Type 0) (o : Option Exchange) (e : Exchange) → o ≡ Some e → P e → OnItem P o
on_item_some P o e is holds = subst (OnItem P) (sym is) holds

pub at_item : (P : Exchange → Type 0) (o : Option Exchange) (e : Exchange) → o ≡ Some e → OnItem P o → P e
at_item P o e is holds = subst (OnItem P) is holds

module _ (stage stage' : ℕ → Stage) (op op' : ℕ → Exchange) (plain plain' : Cells) (slot slot' : ℕ → Slot) (n : ℕ)
    (f : Field) (x : ℕ) where
  -- a reference still refers where its exchange is as it was, and is worth what it was, or the word's plain value
  -- went along
  pub refers_stays : IsPublished (stage' x) → op' x ≡ op x
      → ((old new : ℕ) → value_by (stage' x) old new ≡ value_by (stage x) old new) → plain' n f ≡ plain n f
      → (IsUsed (slot n) → IsUsed (slot' n)) → Refers stage op plain slot n f x → Refers stage' op' plain' slot' n f x
  refers_stays published same worth value in_use old = record {
    published = published;
    change = old.change;
    among = subst (λ (e : Exchange). IsAmong old.change e.changes) (sym same) old.among;
    is_of = old.is_of;
    value = worth old.change.old old.change.new ∙ old.value ∙ sym value;
    in_use = in_use old.in_use;
  }
