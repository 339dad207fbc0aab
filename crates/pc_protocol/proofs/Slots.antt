-- The slots once the fresh node of an exchange, if there is one, is in use.
use Rattle.std.proofs.Common.{◌≡◌, ◌≢◌, ℕ, Option, Some, None, refl, sym, ap, ◌∙◌}
use Rattle.pc_model.specs.Exchanges.{FreshNode}
use Rattle.pc_history.proofs.Updates.{on_updated, updated_other}
use Rattle.pc_protocol.specs.Histories.{Slot, used, IsUsed}
use Rattle.pc_protocol.specs.Steps.{slots_with}
use Rattle.pc_protocol.proofs.Stages.{some_same}

pub slots_with-used : (o : Option FreshNode) (slot : ℕ → Slot) (n : ℕ) → IsUsed (slot n) → IsUsed (slots_with o slot n)
slots_with-used None slot n is = is
slots_with-used (Some g) slot n is = on_updated slot g.node used IsUsed n (λ same. tt) (λ ne. is)

pub slots_with-fresh : (o : Option FreshNode) (slot : ℕ → Slot) (n : ℕ) (g : FreshNode) → o ≡ Some g → n ≡ g.node
    → IsUsed (slots_with o slot n)
slots_with-fresh None slot n g is same = absurd (let clash : None ≡ Some g = is in cc)
slots_with-fresh (Some k) slot n g is same = on_updated slot k.node used IsUsed n
    (λ here. tt)
    (λ ne. absurd (ne (same ∙ ap (λ (x : FreshNode). x.node) (sym (some_same k g is)))))

pub slots_with-other : (o : Option FreshNode) (slot : ℕ → Slot) (n : ℕ) → ((g : FreshNode) → o ≡ Some g → n ≢ g.node)
    → slots_with o slot n ≡ slot n
slots_with-other None slot n other = refl
slots_with-other (Some g) slot n other = updated_other slot g.node used n (other g refl)
