-- A key of a search tree has one node, so that a node in balance keeps its key out of debt; and where no
-- key is in debt from a number on, by the nearest key.
use Rattle.std.proofs.Common.{◌≡◌, ℕ, ◌+◌, ◌≤◌, ◌<◌, ◌==◌, inl, inr, ⊎_elim, [], ◌∷◌, Some, None, sym, ◌∙◌, subst}
use Rattle.std.proofs.Common.{arith}
use Rattle.std.proofs.lemmas.Bool.{cases_eq, cases_lt, cond-true, eq-eqb}
use Rattle.pc_model.specs.declared.cell.Field.TheVariants.{Version, Key}
use Rattle.pc_model.specs.Map.{Pairs, RisesFrom, IsRising, HasKey, value_at, ceil_of}
use Rattle.pc_model.specs.Cells.{Cells, IsEven, IsSlot}
use Rattle.pc_model.specs.Trees.{Tree, Empty, Fork, Kind, balanced, IsIn, pairs_of, IsSearchTree}
use Rattle.pc_model.specs.TreeForms.{IsInBalance, InDebt}
use Rattle.pc_model.proofs.SortedLists.{HasKey_above, rises_above, ceil_of-stop, ceil_of-skip, value_at-skip}
use Rattle.pc_model.proofs.Framing.{below_in, above_in, Apart, apart_from_rising}
use Rattle.pc_model.proofs.TreeFormLaws.{debt_has_key}

-- Lists of pairs

-- a key of the list has a value
pub has_value : (k : ℕ) (ps : Pairs) → HasKey k ps → value_at k ps ≡ None → ⊥
has_value k [] has none = has
has_value k (p ∷ ps) has none = ⊎_elim
    (λ same. let found : value_at k (p ∷ ps) ≡ Some p.1
    = cond-true (k == p.0) (Some p.1) (value_at k ps) (eq-eqb k p.0 same) in absurd cc)
    (λ differs. has_value k ps (⊎_elim (λ same. absurd (differs same)) (λ later. later) has)
    (sym (value_at-skip k p ps differs) ∙ none))
    (cases_eq k p.0)

-- the nearest key is the least from a number on
pub ceil_of-least : (low j m : ℕ) (p : ℕ × ℕ) (ps : Pairs) → RisesFrom low ps → ceil_of m ps ≡ Some p → HasKey j ps
    → m ≤ j → p.0 ≤ j
ceil_of-least low j m p [] rises nearest has from = absurd has
ceil_of-least low j m p (q ∷ ps) rises nearest has from = ⊎_elim
    (λ less. let later : HasKey j ps = ⊎_elim (λ same. absurd (omega arith)) (λ i. i) has in
    ceil_of-least (q.0 + 1) j m p ps rises.1 (sym (ceil_of-skip m q ps less) ∙ nearest) later from)
    (λ le. let is : q ≡ p = (let e : Some q ≡ Some p = sym (ceil_of-stop m q ps le) ∙ nearest in cc) in
    let first : q.0 ≡ p.0 = λ i. (is i).0 in
    ⊎_elim (λ same. omega arith)
    (λ later. let less : q.0 < j = HasKey_above q.0 j ps (rises_above q.0 (q.0 + 1) ps (omega arith) rises.1) later in
    omega arith) has)
    (cases_lt q.0 m)

-- where there is no nearest key, each key is below
pub ceil_of-none : (j m : ℕ) (ps : Pairs) → ceil_of m ps ≡ None → HasKey j ps → j < m
ceil_of-none j m [] none has = absurd has
ceil_of-none j m (q ∷ ps) none has = ⊎_elim
    (λ less. ⊎_elim (λ same. omega arith)
    (λ later. ceil_of-none j m ps (sym (ceil_of-skip m q ps less) ∙ none) later) has)
    (λ le. let e : Some q ≡ None = sym (ceil_of-stop m q ps le) ∙ none in absurd cc)
    (cases_lt q.0 m)

-- Nodes by their keys

-- two nodes of a tree with the same key are one
pub one_node_in_tree : (c : Cells) (t : Tree) (m n : ℕ) → IsRising (pairs_of c t) → IsIn m t → IsIn n t
    → c m Key ≡ c n Key → m ≡ n
one_node_in_tree c Empty m n rising i j same = absurd i
one_node_in_tree c (Fork x l r) m n rising i j same =
    let apart : Apart c x l r = apart_from_rising c x l r rising in
    let left : (y : ℕ) → IsIn y l → c y Key < c x Key = λ y. below_in (c x Key) c l y apart.below in
    let right : (y : ℕ) → IsIn y r → c x Key < c y Key = λ y. above_in (c x Key) c r y apart.above in
    let root : (y : ℕ) → y ≡ x → c y Key ≡ c x Key = λ y e d. c (e d) Key in
    elim i [
      | inl a ↦ elim j [
        | inl b ↦ a ∙ sym b
        | inr (inl b) ↦ absurd (omega (arith, root m a, left n b))
        | inr (inr b) ↦ absurd (omega (arith, root m a, right n b))
      ]
      | inr (inl a) ↦ elim j [
        | inl b ↦ absurd (omega (arith, left m a, root n b))
        | inr (inl b) ↦ one_node_in_tree c l m n apart.left a b same
        | inr (inr b) ↦ absurd (omega (arith, left m a, right n b))
      ]
      | inr (inr a) ↦ elim j [
        | inl b ↦ absurd (omega (arith, right m a, root n b))
        | inr (inl b) ↦ absurd (omega (arith, right m a, left n b))
        | inr (inr b) ↦ one_node_in_tree c r m n apart.right a b same
      ]
    ]

-- two slots in use with the same key are one
pub key_has_one_node : (kind : Kind) (slots : ℕ) (c : Cells) (ps : Pairs) → IsSearchTree kind slots c ps → (m n : ℕ)
    → IsSlot slots m → IsEven (c m Version) → IsSlot slots n → IsEven (c n Version) → c m Key ≡ c n Key → m ≡ n
key_has_one_node kind slots c ps s m n slot_m even_m slot_n even_n same =
    one_node_in_tree c s.tree m n (subst IsRising (sym s.pairs) s.rising)
    (s.covered m slot_m even_m) (s.covered n slot_n even_n) same

-- Keys that are in no debt

module _ (slots : ℕ) (c : Cells) (ps : Pairs) (s : IsSearchTree balanced slots c ps) where
  -- the key of a node in balance isn't in debt
  pub in_balance_not_in_debt : (n k : ℕ) → IsSlot slots n → IsEven (c n Version) → c n Key ≡ k → IsInBalance c n
      → InDebt slots c k → ⊥
  in_balance_not_in_debt n k slot even key balance debt =
      let same : debt.node ≡ n = key_has_one_node balanced slots c ps s debt.node n debt.slot debt.unmarked slot even
      (debt.key ∙ sym key) in
      debt.out_of_balance (subst (IsInBalance c) (sym same) balance)

  -- a key without a value isn't in debt
  pub absent_not_in_debt : (k : ℕ) → value_at k ps ≡ None → InDebt slots c k → ⊥
  absent_not_in_debt k absent debt = has_value k ps (debt_has_key balanced slots c ps k s debt) absent

  -- no key from a number up to the nearest key is in debt where the nearest key's node is in balance
  pub none_in_debt_to_nearest : (low k v n : ℕ) → ceil_of low ps ≡ Some (k, v) → IsSlot slots n
      → IsEven (c n Version) → c n Key ≡ k → IsInBalance c n
      → (j : ℕ) → low ≤ j → j < k + 1 → InDebt slots c j → ⊥
  none_in_debt_to_nearest low k v n nearest slot even key balance j from to debt =
      let least : k ≤ j = ceil_of-least 0 j low (k, v) ps s.rising nearest
      (debt_has_key balanced slots c ps j s debt) from in
      let same : c n Key ≡ j = omega arith in
      in_balance_not_in_debt n j slot even same balance debt

  -- no key from a number on is in debt where there is none
  pub none_in_debt_from : (low : ℕ) → ceil_of low ps ≡ None → (j : ℕ) → low ≤ j → InDebt slots c j → ⊥
  none_in_debt_from low none j from debt =
      let below : j < low = ceil_of-none j low ps none (debt_has_key balanced slots c ps j s debt) in
      absurd (omega arith)
