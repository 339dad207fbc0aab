-- What a repair comes to: it is recorded nowhere, leaves the pairs as they are, and settles debts.
use Rattle.std.specs.Prelude.{ℕ, ◌+◌, ◌^◌, ◌-◌, min, Some, None}
use Rattle.pc_model.specs.declared.call.Reply.{Reply}
use Rattle.pc_model.specs.declared.call.Reply.TheVariants.{New, Was, Value, Pair, None as NoReply}
use Rattle.pc_model.specs.declared.owed.Settle.{Settle}
use Rattle.pc_model.specs.declared.owed.Settle.TheVariants.{Nothing, Release, First, Raise}
use Rattle.pc_plan.specs.Terms.{Terms}
use Rattle.pc_avl.specs.declared.repair.Aim.{Aim}
use Rattle.pc_avl.specs.declared.repair.Aim.TheVariants.{Exact, Nearest}

-- The repair of a key releases it, and a key of a node below that is out of balance comes first. Where a
-- rotation charges the key, it is owed again.
abbrev pub settles_key : ℕ → Reply → Settle
settles_key k New = Nothing
settles_key k (Was x) = Release k
settles_key k (Value y) = First y
settles_key k NoReply = Release k
settles_key k (Pair x v) = Nothing

-- the repair of the nearest key settles all keys up to it where its node is in balance, and all where there is none
abbrev pub settles_nearest : Reply → Settle
settles_nearest New = Nothing
settles_nearest (Was x) = Nothing
settles_nearest (Value y) = First y
settles_nearest NoReply = Raise None
settles_nearest (Pair x v) = Raise (Some (min (x + 1) (2 ^ 64 - 1)))

abbrev pub settles_by : Aim → ℕ → Reply → Settle
settles_by Exact k reply = settles_key k reply
settles_by Nearest k reply = settles_nearest reply

-- from which key on a settlement may forget
abbrev pub lower_of : Aim → ℕ → ℕ
lower_of Exact k = 0
lower_of Nearest k = k

abbrev pub repair_terms : Aim → ℕ → Terms
repair_terms aim k = record {
  entry = None;
  step = λ ps. record { reply = None; pairs = ps };
  settles = settles_by aim k;
  lower = lower_of aim k;
}
