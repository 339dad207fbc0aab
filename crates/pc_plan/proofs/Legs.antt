-- A way down by the nodes alone: where it leads to a node, a walk passes nodes and visits that one.
use Rattle.std.proofs.Common.{◌≡◌, ◌≢◌, ℕ, zero, suc, ◌==◌, inl, inr, Bool, true, false, if◌then◌else◌, [], ◌∷◌}
use Rattle.std.proofs.Common.{Option, Some, None, refl, sym, ap, subst, arith}
use Rattle.std.proofs.lemmas.Bool.{cases_eq}
use Rattle.std.proofs.lemmas.Bool.Decides.{nat_tests}
use Rattle.pc_model.specs.declared.cell.Field.TheVariants.{Key as KeyField}
use Rattle.pc_model.specs.Cells.{Cells, IsNode, node_at}
use Rattle.pc_model.specs.Debts.{has}
use Rattle.pc_plan.specs.declared.descent.Descent.{Descent}
use Rattle.pc_plan.specs.Descents.{passed, passing, passing_to, Passes, onward, node_below, Leads, IsLeg, version_at}
use Rattle.pc_plan.specs.Descents.{leg_visit}
use Rattle.pc_plan.specs.Walks.{way}

-- a node that is below another on the way is passed to
link_passes : (c : Cells) (e : Descent) (b n : ℕ) (back : Bool) → (if back then None else Some n) ≡ Some b
    → ◌≡◌ {A = Option Descent} (if back then None else Some (passed c e n)) (Some (passed c e b))
link_passes c e b n true is = absurd (cc)
link_passes c e b n false is = let same : n ≡ b = cc in ap (λ (x : ℕ). Some (passed c e x)) same

onward_passes : (c : Cells) (e : Descent) (b : ℕ) (o : Option ℕ) → onward e.walk.node o ≡ Some b
    → passing_to c e o ≡ Some (passed c e b)
onward_passes c e b None is = absurd (cc)
onward_passes c e b (Some n) is = link_passes c e b n (has n (e.walk.node ∷ 1 ∷ [])) is

key_passes : (c : Cells) (e : Descent) (b : ℕ) (there : Bool) (o : Option ℕ)
    → (if there then None else onward e.walk.node o) ≡ Some b
    → (if there then None else passing_to c e o) ≡ Some (passed c e b)
key_passes c e b true o is = absurd (cc)
key_passes c e b false o is = onward_passes c e b o is

passes_below : (c : Cells) (e : Descent) (b : ℕ) → node_below c e.walk.key e.walk.node ≡ Some b
    → passing c e ≡ Some (passed c e b)
passes_below c e b is = key_passes c e b (c e.walk.node KeyField == e.walk.key)
    (node_at (c e.walk.node (way e.walk (c e.walk.node KeyField)))) is

-- a walk that has come from another to this node
record IsAt (c : Cells) (d e : Descent) (n : ℕ) : Type 0 where
  node : e.walk.node ≡ n
  key : e.walk.key ≡ d.walk.key
  version : e.version ≡ version_at c d n

at_first : (c : Cells) (d : Descent) (n : ℕ) → n ≡ d.walk.node
    → (k : ℕ) × (e : Descent) × Passes c d k e × IsAt c d e n
at_first c d n same = (
  zero,
  d,
  refl,
  record { node = sym same; key = refl; version = grind (arith, nat_tests) },
)

one_further : (c : Cells) (d : Descent) (a n : ℕ) → n ≢ d.walk.node
    → (k : ℕ) × (e : Descent) × Passes c d k e × IsAt c d e a → node_below c d.walk.key a ≡ Some n
    → (k : ℕ) × (e : Descent) × Passes c d k e × IsAt c d e n
one_further c d a n differs (k, e, passes, at) is =
    let here : node_below c e.walk.key e.walk.node ≡ Some n = rw (at.key, at.node) is in (
      suc k,
      passed c e n,
      (e, passes, passes_below c e n here),
      record { node = refl; key = at.key; version = grind (arith, nat_tests) },
    )

leads_passes : (c : Cells) (d : Descent) (m n : ℕ) → Leads c d.walk.key d.walk.node m n
    → (k : ℕ) × (e : Descent) × Passes c d k e × IsAt c d e n
leads_passes c d zero n same = at_first c d n (sym same)
leads_passes c d (suc m) n (a, leads, is) = elim (cases_eq n d.walk.node) [
  | inl same ↦ at_first c d n same
  | inr differs ↦ one_further c d a n differs (leads_passes c d m a leads) is
]

same_visit : (c : Cells) (d e : Descent) (a b : ℕ) → IsAt c d e a → passed c e b ≡ leg_visit c d a b
same_visit c d e a b at = rw (at.node, at.key, at.version) refl

-- a leg of the way leads from the node that the walk visits
pub leg_leads : (c : Cells) (key n a b : ℕ) → IsLeg c key n a b → (m : ℕ) × Leads c key n m b
leg_leads c key n a b (inl same) = (zero, same)
leg_leads c key n a b (inr (m, leads, is)) = (suc m, (a, leads, is))

-- so the walk comes to its visit
pub leg_passes : (c : Cells) (d : Descent) (a b : ℕ) → IsLeg c d.walk.key d.walk.node a b
    → b ≢ d.walk.node → (m : ℕ) × Passes c d m (leg_visit c d a b)
leg_passes c d a b (inl same) other = absurd (other (sym same))
leg_passes c d a b (inr (m, leads, is)) other =
    let there = leads_passes c d m a leads in
    let at : IsAt c d there.1 a = there.3 in
    let here : node_below c there.1.walk.key there.1.walk.node ≡ Some b = rw (at.key, at.node) is in (
      suc there.0,
      (
        there.1,
        there.2,
        subst (λ (f : Descent). passing c there.1 ≡ Some f) (same_visit c d there.1 a b at)
            (passes_below c there.1 b here),
      ),
    )

module _ (slots : ℕ) (c : Cells) (d : Descent)
    (nodes : (m : ℕ) (e : Descent) → Passes c d m e → IsNode slots e.walk.node) where
  -- where all that the walk visits are nodes, so are all that the way leads to
  pub leads_by_nodes : (m n : ℕ) → Leads c d.walk.key d.walk.node m n → IsNode slots n
  leads_by_nodes m n leads =
      let there = leads_passes c d m n leads in
      let at : IsAt c d there.1 n = there.3 in
      subst (IsNode slots) at.node (nodes there.0 there.1 there.2)

  pub leg_above_is_node : (a b : ℕ) → IsLeg c d.walk.key d.walk.node a b → b ≢ d.walk.node → IsNode slots a
  leg_above_is_node a b (inl same) other = absurd (other (sym same))
  leg_above_is_node a b (inr (m, leads, is)) other = leads_by_nodes m a leads

  pub leg_is_node : (a b : ℕ) → IsLeg c d.walk.key d.walk.node a b → IsNode slots b
  leg_is_node a b leg = let there = leg_leads c d.walk.key d.walk.node a b leg in leads_by_nodes there.0 b there.1
