-- The exchange that a plan asks for, as its words, its fresh node, its mark, its reply and its charges.
use Rattle.std.specs.Prelude.{ℕ, ◌+◌, ◌%◌, ◌^◌, List, [], ◌∷◌, ◌++◌, Option, Some, None}
use Rattle.pc_model.specs.declared.cell.Field.{Field}
use Rattle.pc_model.specs.declared.cell.Field.TheVariants.{Version}
use Rattle.pc_model.specs.declared.call.Reply.{Reply}
use Rattle.pc_plan.specs.declared.change.To.{To}
use Rattle.pc_plan.specs.declared.change.To.TheVariants.{Number}
use Rattle.pc_plan.specs.declared.change.Add.{Add}
use Rattle.pc_plan.specs.declared.change.Fresh.{Fresh}

pub record Planned : Type 0 where
  pub adds : List Add
  pub charged : List ℕ
  pub fresh : Option Fresh
  pub mark : Option ℕ
  pub reply : Reply

-- nothing to change
abbrev pub replying : Reply → Planned
replying r = record { adds = []; charged = []; fresh = None; mark = None; reply = r }

abbrev pub with_add : Planned → Add → Planned
with_add p a = record { adds = p.adds ++ a ∷ []; charged = p.charged; fresh = p.fresh; mark = p.mark; reply = p.reply }

abbrev pub with_charge : Planned → ℕ → Planned
with_charge p k = record {
  adds = p.adds;
  charged = p.charged ++ k ∷ [];
  fresh = p.fresh;
  mark = p.mark;
  reply = p.reply;
}

-- the version of a changed node goes up by two
abbrev pub raised : ℕ → ℕ → Add
raised n version = record { node = n; field = Version; old = version; new = Number ((version + 2) % 2 ^ 64) }

-- the version of a node that is marked as removed goes up by one
abbrev pub removed : ℕ → ℕ → Add
removed n version = record { node = n; field = Version; old = version; new = Number ((version + 1) % 2 ^ 64) }

-- a field goes from a number to what it gets
abbrev pub rewritten : ℕ → Field → ℕ → To → Add
rewritten n f old new = record { node = n; field = f; old = old; new = new }

abbrev pub with_mark : Planned → ℕ → ℕ → Planned
with_mark p n version = record {
  adds = p.adds ++ removed n version ∷ [];
  charged = p.charged;
  fresh = p.fresh;
  mark = Some n;
  reply = p.reply;
}
