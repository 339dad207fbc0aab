-- Exchanges by their nodes: each changed node with the version that it was visited at and the fields that
-- change, and the node that is marked.
use Rattle.std.specs.Prelude.{ℕ, List, [], ◌∷◌, ◌++◌, Option, Some, None}
use Rattle.pc_model.specs.declared.cell.Field.{Field}
use Rattle.pc_model.specs.declared.call.Reply.{Reply}
use Rattle.pc_model.specs.Exchanges.{Visited}
use Rattle.pc_plan.specs.declared.change.To.{To}
use Rattle.pc_plan.specs.declared.change.Add.{Add}
use Rattle.pc_plan.specs.declared.change.Fresh.{Fresh}
use Rattle.pc_plan.specs.Planned.{Planned, raised, removed, rewritten}

-- a field that goes from a number to what it gets
pub record FieldChange : Type 0 where
  pub field : Field
  pub old : ℕ
  pub new : To

-- a node whose version is raised, and its fields that change
pub record NodeChange : Type 0 where
  pub node : ℕ
  pub version : ℕ
  pub fields : List FieldChange

abbrev pub adds_at : ℕ → List FieldChange → List Add
adds_at n [] = []
adds_at n (x ∷ xs) = rewritten n x.field x.old x.new ∷ adds_at n xs

abbrev pub marked_adds : Option Visited → List Add
marked_adds None = []
marked_adds (Some v) = removed v.node v.version ∷ []

-- the words of some nodes, then that of the marked one
abbrev pub adds_of : List NodeChange → Option Visited → List Add
adds_of [] mark = marked_adds mark
adds_of (w ∷ ws) mark = raised w.node w.version ∷ (adds_at w.node w.fields ++ adds_of ws mark)

abbrev pub mark_of : Option Visited → Option ℕ
mark_of None = None
mark_of (Some v) = Some v.node

-- an exchange as the nodes that it changes, the one that it marks, its fresh node, charges and reply
pub record ByNodes : Type 0 where
  pub nodes : List NodeChange
  pub mark : Option Visited
  pub fresh : Option Fresh
  pub charged : List ℕ
  pub reply : Reply

abbrev pub planned_by : ByNodes → Planned
planned_by b = record {
  adds = adds_of b.nodes b.mark;
  charged = b.charged;
  fresh = b.fresh;
  mark = mark_of b.mark;
  reply = b.reply;
}
