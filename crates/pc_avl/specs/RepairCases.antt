-- What a repair is to do at a node of a balanced tree, by the heights that the cells store: nothing where the
-- node is in balance, another height where its children's are close, else a rotation, unless a node below is
-- out of balance and comes first.
use Rattle.std.specs.Prelude.{◌≡◌, ℕ, ◌+◌, ◌^◌, ◌<◌, ◌≤◌, ◌⊎◌, List, ◌∷◌, Some, None}
use Rattle.pc_model.specs.declared.call.Reply.{Reply}
use Rattle.pc_model.specs.declared.call.Reply.TheVariants.{Was, Value, Pair, None as Nothing}
use Rattle.pc_model.specs.declared.owed.Settle.{Settle}
use Rattle.pc_model.specs.declared.owed.Settle.TheVariants.{Release, First, Raise}
use Rattle.pc_model.specs.declared.cell.Field.{Field}
use Rattle.pc_model.specs.declared.cell.Field.TheVariants.{Version, Key, Left, Right, Height}
use Rattle.pc_model.specs.declared.cell.Side.{Side}
use Rattle.pc_model.specs.Map.{Pairs, value_at, ceil_of}
use Rattle.pc_model.specs.Cells.{Cells}
use Rattle.pc_model.specs.Exchanges.{applied}
use Rattle.pc_model.specs.Sides.{link_of, opposite}
use Rattle.pc_model.specs.Trees.{balanced, pair_of, IsTreeNode}
use Rattle.pc_model.specs.Forms.{Form}
use Rattle.pc_model.specs.TreeForms.{tree_form, height_at, height_over, AreClose, IsInBalance}
use Rattle.pc_model.specs.Rotations.{IsReheighted, height_asked, IsRotated, IsDoublyRotated}
use Rattle.pc_plan.specs.declared.plan.Ask.{Ask}
use Rattle.pc_plan.specs.declared.plan.Ask.TheVariants.{Visit, Read, Change, Answer}
use Rattle.pc_plan.specs.Traces.{Event}
use Rattle.pc_plan.specs.declared.plan.Told.{Told}
use Rattle.pc_plan.specs.CallLaws.{AreSameForms}
use Rattle.pc_plan.specs.Runs.{exchange_of, IsReady, reached, past_of, AgreesWith}
use Rattle.pc_plan.specs.Terms.{Terms}
use Rattle.pc_bst.specs.Kinds.{key_unless_sentinel}
use Rattle.pc_avl.specs.declared.repair.Aim.{Aim}
use Rattle.pc_avl.specs.declared.repair.Aim.TheVariants.{Exact, Nearest}
use Rattle.pc_avl.specs.Repairs.{balanced_reply}
use Rattle.pc_avl.specs.RepairTerms.{repair_terms}

-- the node has the key, or the least key from the number up
abbrev pub IsAimed : Aim → ℕ → Cells → Pairs → ℕ → Type 0
IsAimed Exact k c ps x = c x Key ≡ k
IsAimed Nearest k c ps x = ceil_of k ps ≡ Some (pair_of c x)

-- there is no such key
abbrev pub IsAbsent : Aim → ℕ → Pairs → Type 0
IsAbsent Exact k ps = value_at k ps ≡ None
IsAbsent Nearest k ps = ceil_of k ps ≡ None

-- the child on a side is too high, by two at least
abbrev pub IsTooHighOn : Side → Cells → ℕ → Type 0
IsTooHighOn side c x = height_at c (c x (link_of (opposite side))) + 2 ≤ height_at c (c x (link_of side))

-- the inner child of a node that is a child on a side is higher than the outer one
abbrev pub IsInnerHigher : Side → Cells → ℕ → Type 0
IsInnerHigher side c y = height_at c (c y (link_of side)) < height_at c (c y (link_of (opposite side)))

-- the child y comes first, which is out of balance, or its inner child g, which is the higher one and out of balance
abbrev pub ComesFirst : Side → Cells → ℕ → Reply → Type 0
ComesFirst side c x r = (y : ℕ) × (c x (link_of side) ≡ y)
    × (((IsInBalance c y → ⊥) × (r ≡ Value (c y Key)))
    ⊎ ((g : ℕ) × (c y (link_of (opposite side)) ≡ g) × IsInBalance c y × IsInnerHigher side c y
    × (IsInBalance c g → ⊥) × (r ≡ Value (c g Key))))

-- the node gets the height that its children ask for, and the key of the node above is charged
pub record Reheights (c c' : Cells) (above x : ℕ) (charged : List ℕ) : Type 0 where
  pub close : AreClose (height_at c (c x Left)) (height_at c (c x Right))
  pub out_of_balance : IsInBalance c x → ⊥
  pub height : IsReheighted c c' x (height_asked c x)
  pub charges : charged ≡ key_unless_sentinel above (c above Key)

-- The child y on a side takes the node's place: y is in balance, and its inner child isn't the higher one. Both
-- nodes get heights over those of what hangs below them then, and three keys are charged.
pub record RotatesOnce (side : Side) (c c' : Cells) (above : ℕ) (link : Field) (x y : ℕ) (charged : List ℕ) : Type 0
  where
    pub high : IsTooHighOn side c x
    pub child : IsInBalance c y
    pub outer : height_at c (c y (link_of (opposite side))) ≤ height_at c (c y (link_of side))
    pub rotated : IsRotated side c c' above link x y
    pub lower : c' x Height
        ≡ height_over (height_at c (c y (link_of (opposite side)))) (height_at c (c x (link_of (opposite side))))
    pub upper : c' y Height ≡ height_over (height_at c (c y (link_of side))) (c' x Height)
    pub charges : charged ≡ c x Key ∷ c y Key ∷ key_unless_sentinel above (c above Key)

-- The inner child g of the child y takes the node's place: both are in balance, and g is higher than the outer
-- child. Three nodes get heights over those of what hangs below them then, and four keys are charged.
pub record RotatesTwice (side : Side) (c c' : Cells) (above : ℕ) (link : Field) (x y g : ℕ) (charged : List ℕ) : Type 0
  where
    pub high : IsTooHighOn side c x
    pub child : IsInBalance c y
    pub inner : IsInnerHigher side c y
    pub inner_balanced : IsInBalance c g
    pub rotated : IsDoublyRotated side c c' above link x y g
    pub near : c' y Height ≡ height_over (height_at c (c y (link_of side))) (height_at c (c g (link_of side)))
    pub far : c' x Height
        ≡ height_over (height_at c (c g (link_of (opposite side)))) (height_at c (c x (link_of (opposite side))))
    pub upper : c' g Height ≡ height_over (c' y Height) (c' x Height)
    pub charges : charged ≡ c x Key ∷ c y Key ∷ c g Key ∷ key_unless_sentinel above (c above Key)

-- what the exchange of a repair does to the cells
abbrev pub Mends : Cells → Cells → ℕ → Field → ℕ → List ℕ → Type 0
Mends c c' above link x charged = Reheights c c' above x charged
    ⊎ ((side : Side) × (y : ℕ) × (RotatesOnce side c c' above link x y charged
    ⊎ ((g : ℕ) × RotatesTwice side c c' above link x y g charged)))

-- how a repair of this node, which hangs below a node by a link, is to end
abbrev pub EndsRepair : Aim → ℕ → Cells → ℕ → Field → ℕ → List Event → Ask → Type 0
EndsRepair aim slots c above link x past (Visit n) = ⊥
EndsRepair aim slots c above link x past (Read n f) = ⊥
EndsRepair aim slots c above link x past (Answer r) =
    (IsInBalance c x × (r ≡ balanced_reply aim (c x Key)))
    ⊎ ((side : Side) × IsTooHighOn side c x × ComesFirst side c x r)
EndsRepair aim slots c above link x past (Change p) = (p.reply ≡ Was (c x Key))
    × ((slot : ℕ) → Mends c (applied (exchange_of past p slot (c slot Version)) c) above link x p.charged)

-- the node that is to be repaired, which hangs below a node by a link
pub record IsNodeBelow (slots : ℕ) (c : Cells) (above : ℕ) (link : Field) (x : ℕ) : Type 0 where
  pub hangs : c above link ≡ x
  pub node : IsTreeNode balanced slots c above x

-- how a repair of a key, or of the nearest key from a number up, is to end
abbrev pub EndsAsRepair : Aim → ℕ → ℕ → Cells → Pairs → List Event → Ask → Type 0
EndsAsRepair aim k slots c ps past a =
    (IsAbsent aim k ps × (a ≡ Answer Nothing))
    ⊎ ((above : ℕ) × (link : Field) × (x : ℕ) × IsNodeBelow slots c above link x × IsAimed aim k c ps x
    × EndsRepair aim slots c above link x past a)

-- a plan that may go on, or is at the end of a repair
abbrev pub IsAtEndOfRepair : Aim → ℕ → ℕ → Cells → Pairs → List Event → Ask → Type 0
IsAtEndOfRepair aim k slots c ps past (Visit n) = Unit {0}
IsAtEndOfRepair aim k slots c ps past (Read n f) = Unit {0}
IsAtEndOfRepair aim k slots c ps past a = EndsAsRepair aim k slots c ps past a

-- on sound cells the plan of every number ends as the repair of that number is to end
abbrev pub EndsByCases : {P : Type 0} → (ℕ → P) → (P → Told → P × Ask) → Aim → Type 0
EndsByCases {P} start moves aim =
    (slots : ℕ) (c : Cells) (ps : Pairs) (k : ℕ) (ts : List Told) → IsReady (tree_form balanced) slots c ps
    → AgreesWith start moves c k ts
    → IsAtEndOfRepair aim k slots c ps (past_of start moves k ts) (reached start moves k ts).1

-- The repair of a key releases it where it answers that nothing is to do, or mends, and puts a key of a node below
-- first where it names it. The repair of the nearest key lets the number go where there is none, and raises it past
-- the key whose node is in balance.
abbrev pub SettlesAsRepair : Aim → ℕ → (Reply → Settle) → Type 0
SettlesAsRepair Exact k settles = (settles Nothing ≡ Release k) × ((x : ℕ) → settles (Was x) ≡ Release k)
    × ((y : ℕ) → settles (Value y) ≡ First y)
SettlesAsRepair Nearest k settles = (settles Nothing ≡ Raise None)
    × ((x v : ℕ) → x < 2 ^ 62 → settles (Pair x v) ≡ Raise (Some (x + 1)))
    × ((y : ℕ) → settles (Value y) ≡ First y)

-- the plan is a repair of every number, on balanced search trees: it records nothing, leaves the pairs as they
-- are, and settles as a repair does
pub record StandsForRepair (terms : ℕ → Terms) (can_call : ℕ → Type 0) (form : Form) (aim : Aim) : Type 0 where
  pub terms_are : (k : ℕ) → terms k ≡ repair_terms aim k
  pub settles : (k : ℕ) → SettlesAsRepair aim k (terms k).settles
  pub can_be_called : (k : ℕ) → can_call k
  pub form_is : AreSameForms form (tree_form balanced)
