-- What was looked at below the node of a repair, and what is still due there.
use Rattle.std.proofs.Common.{◌≡◌, ◌≢◌, ℕ, ◌+◌, ◌<◌, ◌==◌, ◌⊎◌, inl, inr, ⊎_elim}
use Rattle.std.proofs.Common.{List, [], ◌∷◌, None, refl, sym, ap, ◌∙◌, subst, arith}
use Rattle.std.specs.Prelude.{IsTrue}
use Rattle.std.proofs.lemmas.Bool.{cases_Bool, cond-true, eqb-false}
use Rattle.pc_model.specs.declared.cell.Field.TheVariants.{Version as VersionField, Key as KeyField}
use Rattle.pc_model.specs.declared.cell.Field.TheVariants.{Value as ValueField}
use Rattle.pc_model.specs.declared.cell.Side.{Side}
use Rattle.pc_model.specs.declared.cell.Side.TheVariants.{Left as OnLeft, Right as OnRight}
use Rattle.pc_model.specs.declared.call.Reply.TheVariants.{Was, Value}
use Rattle.pc_model.specs.Map.{Pairs, IsRising}
use Rattle.pc_model.specs.Cells.{Cells, IsEven, IsSlot}
use Rattle.pc_model.specs.Debts.{has}
use Rattle.pc_model.specs.Sides.{opposite, fork_on}
use Rattle.pc_model.specs.Trees.{Tree, Empty, Fork, balanced, Spells, IsIn, pairs_of}
use Rattle.pc_model.specs.Trees.{IsSearchTree}
use Rattle.pc_model.specs.TreeForms.{tree_form, IsInBalance, InDebt}
use Rattle.pc_model.proofs.Framing.{Apart, apart_from_rising}
use Rattle.pc_model.proofs.NodeKeys.{in_balance_not_in_debt, none_in_debt_to_nearest}
use Rattle.pc_plan.specs.Traces.{Event, version_seen}
use Rattle.pc_plan.specs.Runs.{SettlesIn}
use Rattle.pc_plan.proofs.WalkKeys.{IsKeyOf}
use Rattle.pc_bst.specs.Kinds.{key_unless_sentinel}
use Rattle.pc_avl.specs.declared.look.Looked.{Looked}
use Rattle.pc_avl.specs.declared.repair.Aim.{Aim}
use Rattle.pc_avl.specs.declared.repair.Aim.TheVariants.{Exact, Nearest}
use Rattle.pc_avl.specs.declared.repair.Repair.{Repair}
use Rattle.pc_avl.specs.Looks.{missing, looked_in}
use Rattle.pc_avl.specs.Repairs.{balanced_reply, child_on}
use Rattle.pc_avl.specs.RepairTerms.{settles_by, lower_of}
use Rattle.pc_avl.specs.RepairCases.{IsAimed}
use Rattle.pc_avl.specs.RepairEnds.{IsLookedAt, looked_at_node}
use Rattle.pc_avl.specs.RepairLooks.{at_tree, IsRoot, IsDue}

-- what was told of the root of a tree is what its link names
pub looked_at_tree : (slots : ℕ) (c : Cells) (u : Tree) (w v : ℕ) → Spells balanced slots c u w v
    → IsLookedAt c v (at_tree c u)
looked_at_tree slots c Empty w v spelled = subst (λ (x : ℕ). IsLookedAt c x missing) (sym spelled)
    (record { node = refl; version = λ some. absurd (some refl); parent = λ some. absurd (some refl); height = refl })
looked_at_tree slots c (Fork i a b) w v spelled =
    let slot : IsSlot slots i = spelled.1.slot in
    subst (λ (x : ℕ). IsLookedAt c x (looked_in c i)) (sym spelled.0) (looked_at_node c i (λ e. absurd (omega arith)))

-- a node outside a tree isn't its root
pub root_differs : (c : Cells) (n : ℕ) (u : Tree) → (IsIn n u → ⊥) → (at_tree c u).node ≢ 0 → n ≢ (at_tree c u).node
root_differs c n Empty out some = absurd (some refl)
root_differs c n (Fork i a b) out some = λ e. out (inl e)

pub roots_differ : (c : Cells) (u v : Tree) → ((m : ℕ) → IsIn m u → IsIn m v → ⊥) → (at_tree c u).node ≢ 0
    → (at_tree c v).node ≢ 0 → (at_tree c u).node ≢ (at_tree c v).node
roots_differ c Empty v apart some some' = absurd (some refl)
roots_differ c (Fork i a b) v apart some some' = root_differs c i v (λ j. apart i (inl refl) j) some'

pub root_in : (n : ℕ) (u : Tree) → IsRoot n u → IsIn n u
root_in n Empty root = absurd root
root_in n (Fork i a b) root = inl root

-- a root stays unseen where another one was looked at
pub due_still : (c : Cells) (past past' : List Event) (u v : Tree) (l : Looked) (due : ℕ)
    → ((i : ℕ) → IsRoot i u → IsRoot i v → ⊥)
    → ((m : ℕ) → (IsRoot m v → ⊥) → version_seen m past ≡ None → version_seen m past' ≡ None)
    → IsDue c past u l due → IsDue c past' u l due
due_still c past past' Empty v l due apart still is_due = tt
due_still c past past' (Fork i a b) v l due apart still is_due = ⊎_elim (λ known. inl known)
    (λ new. inr (new.0, still i (apart i refl) new.1, new.2)) is_due

-- What is settled

pub settles_first : (slots : ℕ) (c : Cells) (aim : Aim) (k y : ℕ)
    → SettlesIn (tree_form balanced) slots c [] (lower_of aim k) (settles_by aim k (Value y))
settles_first slots c Exact k y = tt
settles_first slots c Nearest k y = tt

pub settles_was : (slots : ℕ) (c c' : Cells) (ps : Pairs) (aim : Aim) (k x : ℕ) (charged : List ℕ) → IsAimed aim k c ps x
    → IsTrue (has (c x KeyField) charged) ⊎ (InDebt slots c' (c x KeyField) → ⊥)
    → SettlesIn (tree_form balanced) slots c' charged (lower_of aim k) (settles_by aim k (Was (c x KeyField)))
settles_was slots c c' ps Exact k x charged aimed right =
    subst (λ (j : ℕ). IsTrue (has j charged) ⊎ (InDebt slots c' j → ⊥)) aimed right
settles_was slots c c' ps Nearest k x charged aimed right = tt

pub settles_balanced : (slots : ℕ) (c : Cells) (ps : Pairs) → IsSearchTree balanced slots c ps → (aim : Aim) (k x : ℕ)
    → IsSlot slots x → IsEven (c x VersionField) → IsAimed aim k c ps x → IsInBalance c x
    → SettlesIn (tree_form balanced) slots c [] (lower_of aim k) (settles_by aim k (balanced_reply aim (c x KeyField)))
settles_balanced slots c ps s Exact k x slot even aimed balance =
    inr (in_balance_not_in_debt slots c ps s x k slot even aimed balance)
settles_balanced slots c ps s Nearest k x slot even aimed balance = λ j low below.
    let to : j < c x KeyField + 1 = omega (arith, below) in
    inr (none_in_debt_to_nearest slots c ps s k (c x KeyField) (c x ValueField) x aimed slot even refl balance j low to)

-- the kept key of a node is charged as the node's
pub charged_key : (c : Cells) (q key : ℕ) → IsKeyOf c q key
    → key_unless_sentinel q key ≡ key_unless_sentinel q (c q KeyField)
charged_key c q key is = ⊎_elim
    (λ same. cond-true (q == 1) [] (key ∷ []) same ∙ sym (cond-true (q == 1) [] (c q KeyField ∷ []) same))
    (λ other. ap (λ (y : ℕ). key_unless_sentinel q y) (is (eqb-false q 1 other)))
    (cases_Bool (q == 1))

-- the tree on a side of a fork
abbrev pub height_told : Looked → ℕ
height_told l = l.height

abbrev pub left_told : Looked → ℕ
left_told l = l.left

abbrev pub right_told : Looked → ℕ
right_told l = l.right

abbrev pub tree_on : Side → Tree → Tree → Tree
tree_on OnLeft l r = l
tree_on OnRight l r = r

pub tree_on_in : (s : Side) (n x : ℕ) (l r : Tree) → IsIn n (tree_on s l r) → IsIn n (Fork x l r)
tree_on_in OnLeft n x l r i = inr (inl i)
tree_on_in OnRight n x l r i = inr (inr i)

pub tree_on_sides : (s : Side) (n : ℕ) (l r : Tree) → IsIn n (tree_on s l r) → IsIn n l ⊎ IsIn n r
tree_on_sides OnLeft n l r i = inl i
tree_on_sides OnRight n l r i = inr i

-- a fork seen from a side
pub fork_seen : (s : Side) (n : ℕ) (a b : Tree) → Fork n a b ≡ fork_on s n (tree_on s a b) (tree_on (opposite s) a b)
fork_seen OnLeft n a b = refl
fork_seen OnRight n a b = refl

pub root_on : (s : Side) (c : Cells) (n : ℕ) (a b : Tree) → at_tree c (fork_on s n a b) ≡ looked_in c n
root_on OnLeft c n a b = refl
root_on OnRight c n a b = refl

pub child_is : (s : Side) (c : Cells) (r' : Repair) (l r : Tree) → r'.left ≡ at_tree c l → r'.right ≡ at_tree c r
    → child_on r' s ≡ at_tree c (tree_on s l r)
child_is OnLeft c r' l r left right = left
child_is OnRight c r' l r left right = right

-- What is due below a child on a side

abbrev pub InnerDue : Side → Cells → List Event → Tree → Looked → Looked → ℕ → ℕ → Type 0
InnerDue s c past Empty near far near_turns far_turns = Unit {0}
InnerDue s c past (Fork g a b) near far near_turns far_turns =
    IsDue c past (tree_on s a b) near near_turns × IsDue c past (tree_on (opposite s) a b) far far_turns

abbrev pub ChildDue : Side → Cells → List Event → Tree → Looked → Looked → Looked → Looked → ℕ → ℕ → ℕ → ℕ → Type 0
ChildDue s c past Empty outer inner near far outer_turns inner_turns near_turns far_turns = Unit {0}
ChildDue s c past (Fork y a b) outer inner near far outer_turns inner_turns near_turns far_turns = IsDue c past (tree_on s a b) outer outer_turns
    × IsDue c past (tree_on (opposite s) a b) inner inner_turns
    × InnerDue s c past (tree_on (opposite s) a b) near far near_turns far_turns

-- the node is in one of the trees below a root
abbrev pub IsBelow : ℕ → Tree → Type 0
IsBelow n Empty = ⊥
IsBelow n (Fork y a b) = IsIn n a ⊎ IsIn n b

pub below_on : (s : Side) (n y : ℕ) (a b : Tree) → IsIn n (tree_on s a b) → IsBelow n (Fork y a b)
below_on OnLeft n y a b i = inl i
below_on OnRight n y a b i = inr i

pub below_in : (n : ℕ) (u : Tree) → IsBelow n u → IsIn n u
below_in n Empty i = absurd i
below_in n (Fork y a b) i = inr i

pub root_below : (s : Side) (n y : ℕ) (a b : Tree) → IsRoot n (tree_on s a b) → IsBelow n (Fork y a b)
root_below s n y a b root = below_on s n y a b (root_in n (tree_on s a b) root)

-- the root of a tree with rising keys isn't below itself
pub root_not_below : (c : Cells) (u : Tree) → IsRising (pairs_of c u) → (i : ℕ) → IsRoot i u → IsBelow i u → ⊥
root_not_below c Empty rising i root below = absurd root
root_not_below c (Fork y a b) rising i root below =
    let apart : Apart c y a b = apart_from_rising c y a b rising in
    ⊎_elim (λ in_a. apart.not_left (subst (λ (n : ℕ). IsIn n a) root in_a))
    (λ in_b. apart.not_right (subst (λ (n : ℕ). IsIn n b) root in_b)) below

module _ (s : Side) (c : Cells) (past past' : List Event) (v : Tree)
    (still : (m : ℕ) → (IsRoot m v → ⊥) → version_seen m past ≡ None → version_seen m past' ≡ None) where
  pub inner_due_still : (u : Tree) (near far : Looked) (near_turns far_turns : ℕ) → ((i : ℕ) → IsRoot i v → IsBelow i u → ⊥)
      → InnerDue s c past u near far near_turns far_turns → InnerDue s c past' u near far near_turns far_turns
  inner_due_still Empty near far near_turns far_turns out is_due = tt
  inner_due_still (Fork g a b) near far near_turns far_turns out is_due = (
    due_still c past past' (tree_on s a b) v near near_turns (λ i root at. out i at (root_below s i g a b root)) still is_due.0,
    due_still c past past' (tree_on (opposite s) a b) v far far_turns
        (λ i root at. out i at (root_below (opposite s) i g a b root)) still is_due.1,
  )

  pub child_due_still : (u : Tree) (outer inner near far : Looked) (outer_turns inner_turns near_turns far_turns : ℕ)
      → ((i : ℕ) → IsRoot i v → IsBelow i u → ⊥) → ChildDue s c past u outer inner near far outer_turns inner_turns near_turns far_turns
      → ChildDue s c past' u outer inner near far outer_turns inner_turns near_turns far_turns
  child_due_still Empty outer inner near far outer_turns inner_turns near_turns far_turns out is_due = tt
  child_due_still (Fork y a b) outer inner near far outer_turns inner_turns near_turns far_turns out is_due = (
    due_still c past past' (tree_on s a b) v outer outer_turns (λ i root at. out i at (root_below s i y a b root)) still
        is_due.0,
    due_still c past past' (tree_on (opposite s) a b) v inner inner_turns
        (λ i root at. out i at (root_below (opposite s) i y a b root)) still is_due.1,
    inner_due_still (tree_on (opposite s) a b) near far near_turns far_turns
        (λ i at below. out i at (below_on (opposite s) i y a b (below_in i (tree_on (opposite s) a b) below))) is_due.2,
  )
