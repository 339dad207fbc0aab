-- A slot that isn't in use has the version that the board opened with: no exchange of the run changes a word of it, and one that
-- made its node would have left an even version.
use Rattle.std.proofs.Common.{◌≡◌, ◌≢◌, ℕ, zero, suc, ◌+◌, ◌%◌, ◌==◌, if◌then◌else◌, ◌⊎◌, inl, inr, ⊎_elim, List, [], Option, Some, None, refl, sym, ap, ◌∙◌, subst, arith}
use Rattle.std.proofs.lemmas.Bool.{cases_eq}
use Rattle.std.proofs.lemmas.Bool.Decides.{nat_tests}
use Rattle.pc_model.specs.declared.cell.Field.TheVariants.{Version}
use Rattle.pc_model.specs.Cells.{Cells, IsEven, IsOdd}
use Rattle.pc_model.specs.Exchanges.{Changed, FreshNode, Exchange, FreshStands, Stands, applied}
use Rattle.pc_model.specs.Linked.{opening_cells}
use Rattle.pc_history.specs.Footprints.{IsAmong, LeavesWord, IsWellFormed}
use Rattle.pc_history.specs.Runs.{after, cells_at, OnItem}
use Rattle.pc_history.proofs.Footprints.{applied_left, applied_fresh}
use Rattle.pc_protocol.specs.Histories.{committed, Stage, History, cells_now, IsPublished, IsUsed}
use Rattle.pc_protocol.specs.Rules.{IsTaken, Rule}
use Rattle.pc_exchange_law.specs.Slots.{ChangesUsed}

-- a node's version is that of the opening, or even
abbrev IsAsOpened : History → ℕ → ℕ → Type 0
IsAsOpened h n v = (v ≡ h.opening n Version) ⊎ IsEven v

abbrev node_in : ℕ → Option FreshNode → ℕ
node_in n None = n
node_in n (Some g) = g.node

even_after : (v : ℕ) → IsOdd v → IsEven (v + 1)
even_after v odd = omega (arith, odd)

no_even : (v : ℕ) → IsOdd v → IsEven v → ⊥
no_even v odd even = absurd (omega (arith, odd, even))

module _ (h : History) (rule : Rule h) (changed : ChangesUsed h) (n : ℕ) (unused : IsUsed (h.slot n) → ⊥) where
  was_published : (x t : ℕ) → h.stage x ≡ committed t → IsPublished (h.stage x)
  was_published x t is = subst IsPublished (sym is) tt

  changes_none : (x t : ℕ) → h.stage x ≡ committed t → (a : Changed) → IsAmong a (h.op x).changes → a.node ≡ n → ⊥
  changes_none x t is a among here = unused (subst (λ (m : ℕ). IsUsed (h.slot m)) here (changed x a (was_published x t is) among))

  -- an exchange that took effect leaves such a version so
  module _ (x t : ℕ) (is : h.stage x ≡ committed t) (c : Cells) (stands : FreshStands c (h.op x).fresh) where
    made : (g : Option FreshNode) → (h.op x).fresh ≡ g → IsAsOpened h n (c n Version) → IsAsOpened h n (applied (h.op x) c n Version)
    made None none was = subst (IsAsOpened h n) (sym (applied_left (h.op x) c n Version (record {
      unchanged = λ a among of. changes_none x t is a among of.0;
      not_fresh = λ g some' e. absurd (let clash : None ≡ Some g = sym none ∙ some' in cc);
    }))) was
    made (Some g) some' was = ⊎_elim
        (λ here. let there : applied (h.op x) c n Version ≡ g.fields Version
        = subst (λ (m : ℕ). applied (h.op x) c m Version ≡ g.fields Version) (sym here)
        (applied_fresh (h.op x) (rule.well_formed x (was_published x t is)) c g Version some') in
        let at : FreshStands c (Some g) = subst (FreshStands c) some' stands in
        inr (subst IsEven (sym (there ∙ at.1)) (even_after (c g.node Version) at.0)))
        (λ other. subst (IsAsOpened h n) (sym (applied_left (h.op x) c n Version (record {
          unchanged = λ a among of. changes_none x t is a among of.0;
          not_fresh = λ k some_k e. other (e ∙ ap (node_in n) (sym some_k ∙ some'));
        }))) was)
        (cases_eq n g.node)

  abbrev now_at : ℕ → Cells
  now_at t = cells_at h.opening h.item t

  -- what stands at a stamp leaves it so
  stood : (t : ℕ) (i : Option Exchange) → h.item t ≡ i → IsAsOpened h n (now_at t n Version) → IsAsOpened h n (after i (now_at t) n Version)
  stood t None is was = was
  stood t (Some e) is was =
      let taken : IsTaken (h.drawn_for t) h.stage h.op t e = subst (OnItem (IsTaken (h.drawn_for t) h.stage h.op t)) is (rule.taken t) in
      let stands : Stands e (now_at t) = subst (OnItem (λ (x : Exchange). Stands x (now_at t))) is (rule.run.stands t) in
      ⊎_elim
      (λ read. subst (IsAsOpened h n) (sym (applied_left e (now_at t) n Version (record {
        unchanged = λ a among of. subst (IsAmong a) read.1 among;
        not_fresh = λ g some' e. absurd (let clash : None ≡ Some g = sym read.2 ∙ some' in cc);
      }))) was)
      (λ won. subst (λ (x : Exchange). IsAsOpened h n (applied x (now_at t) n Version)) (sym won.3)
      (made won.0 t won.2 (now_at t) (subst (λ (x : Exchange). FreshStands (now_at t) x.fresh) won.3 stands.fresh) (h.op won.0).fresh refl was))
      taken

  as_opened : (t : ℕ) → IsAsOpened h n (now_at t n Version)
  as_opened zero = inl refl
  as_opened (suc t) = stood t (h.item t) refl (as_opened t)

  pub unused_version : cells_now h n Version ≡ h.opening n Version
  unused_version = ⊎_elim (λ same. same) (λ even. absurd (no_even (cells_now h n Version) (rule.unused n unused) even)) (as_opened h.clock)

-- which is one above that of the sentinel
pub opened_version : (start n : ℕ) → n ≢ 1 → opening_cells start n Version ≡ start + 1
opened_version start n ne = grind (arith, nat_tests)
