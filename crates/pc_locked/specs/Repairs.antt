-- Repairs: what a plan has to be to repair a balanced tree, and what one repair of what is owed does.
use Rattle.std.specs.Prelude.{◌≡◌, ℕ, ◌≤◌}
use Rattle.pc_model.specs.declared.call.Reply.{Reply}
use Rattle.pc_model.specs.declared.owed.Owing.{Owing}
use Rattle.pc_model.specs.declared.owed.Owing.TheVariants.{Key, From}
use Rattle.pc_model.specs.Forms.{Form}
use Rattle.pc_model.specs.Heights.{IsBalanced}
use Rattle.pc_model.specs.Map.{Pairs}
use Rattle.pc_model.specs.Trees.{balanced, IsSearchTree}
use Rattle.pc_model.specs.TreeForms.{tree_form}
use Rattle.pc_plan.specs.declared.plan.Ask.{Ask}
use Rattle.pc_plan.specs.declared.plan.Told.{Told}
use Rattle.pc_plan.specs.CallLaws.{AreSameForms}
use Rattle.pc_plan.specs.EndLaws.{WantsNoSlot}
use Rattle.pc_plan.specs.Terms.{Terms}
use Rattle.pc_plain.specs.PlainCells.{PlainWords, cells_of}
use Rattle.pc_plain.specs.OwedRuns.{IsOwedRunOf}
use Rattle.pc_avl.specs.declared.tree_kind.TreeKind.{TreeKind}
use Rattle.pc_locked.specs.States.{MapState, form_of}

-- A plan that repairs a balanced tree may be begun with any number, leaves the pairs as they are and wants no slot.
-- What it raises begins no higher than this, for each number.
pub record IsRepair {P : Type 0} (start : ℕ → P) (moves : P → Told → P × Ask) (can_call : ℕ → Type 0)
    (terms : ℕ → Terms) (form : Form) (highest : ℕ → ℕ) : Type 0 where
  pub any : (k : ℕ) → can_call k
  pub is_for : AreSameForms form (tree_form balanced)
  pub stays : (k : ℕ) (ps : Pairs) → ((terms k).step ps).pairs ≡ ps
  pub no_slot : WantsNoSlot start moves can_call
  pub lower : (k : ℕ) → (terms k).lower ≤ highest k

-- whatever pairs the old cells have, the new ones have
abbrev pub KeepsPairs : TreeKind → PlainWords → PlainWords → Type 0
KeepsPairs kind old new = (ps : Pairs) → (form_of kind).sound old.slots (cells_of old) ps
    → (form_of kind).sound new.slots (cells_of new) ps

-- each node of the tree stores its true height, and the true heights of its two sides differ by at most one
abbrev pub IsInFullBalance : PlainWords → Type 0
IsInFullBalance w = (ps : Pairs) (s : IsSearchTree balanced w.slots (cells_of w) ps) → IsBalanced (cells_of w) s.tree

-- the plan was run on the cells with some reply, and its settlement and charges were taken up
abbrev pub RunsFor : {P : Type 0} → (ℕ → P) → (P → Told → P × Ask) → Form → (ℕ → Terms) → ℕ → MapState → MapState
    → Type 0
RunsFor start moves form terms k old new = (r : Reply)
    × IsOwedRunOf start moves form (terms k) k old.cells new.cells old.owed new.owed r

-- what is owed first was repaired: its key, by the one plan, or what there is from its number on, by the other
abbrev pub Repairs : (ℕ → MapState → MapState → Type 0) → (ℕ → MapState → MapState → Type 0) → MapState → MapState
    → Owing → Type 0
Repairs repairs_key repairs_from old new (Key k) = repairs_key k old new
Repairs repairs_key repairs_from old new (From n) = repairs_from n old new
