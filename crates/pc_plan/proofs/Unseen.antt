-- A tree that a plan hasn't visited yet: what is left of that when it visits the tree's root.
use Rattle.std.proofs.Common.{◌≡◌, ℕ, inl, inr, List, [], ◌∷◌, None, sym, ◌∙◌, subst, arith}
use Rattle.pc_model.specs.declared.cell.Field.TheVariants.{Left}
use Rattle.pc_model.specs.Cells.{Cells, IsSlot}
use Rattle.pc_model.specs.Trees.{Tree, Fork, Kind, Spells, IsIn}
use Rattle.pc_model.proofs.Framing.{Apart, slot_in}
use Rattle.pc_plan.specs.Traces.{Event, visited, version_seen}
use Rattle.pc_plan.proofs.Learning.{version_seen-else}

-- no node of the tree was visited
abbrev pub IsUnseen : Tree → List Event → Type 0
IsUnseen t past = (m : ℕ) → IsIn m t → version_seen m past ≡ None

module _ (c : Cells) (n : ℕ) (l r : Tree) (a : Apart c n l r) (v : ℕ) (past : List Event) (unseen : IsUnseen
    (Fork n l r) past) where
  pub unseen_left : IsUnseen l (visited n v ∷ past)
  unseen_left m i = version_seen-else m n v past (λ e. a.not_left (subst (λ (x : ℕ). IsIn x l) (sym e) i))
      ∙ unseen m (inr (inl i))

  pub unseen_right : IsUnseen r (visited n v ∷ past)
  unseen_right m i = version_seen-else m n v past (λ e. a.not_right (subst (λ (x : ℕ). IsIn x r) (sym e) i))
      ∙ unseen m (inr (inr i))

-- a plan that has visited the sentinel alone has seen nothing of the tree
pub unseen_whole : (kind : Kind) (slots : ℕ) (c : Cells) (t : Tree) (v : ℕ) → Spells kind slots c t 1 (c 1 Left)
    → IsUnseen t (visited 1 v ∷ [])
unseen_whole kind slots c t v spelled m i = let slot : IsSlot slots m = slot_in kind slots c t 1 (c 1 Left) m spelled
    i in version_seen-else m 1 v [] (λ e. absurd (omega arith))
