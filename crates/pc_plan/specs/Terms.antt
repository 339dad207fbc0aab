-- What a call comes to: the entry that is recorded for it, what it does to the pairs, and what it settles.
use Rattle.std.specs.Prelude.{◌≡◌, ℕ, Option, Some, None}
use Rattle.pc_model.specs.declared.call.Call.{Call}
use Rattle.pc_model.specs.declared.call.Reply.{Reply}
use Rattle.pc_model.specs.declared.owed.Settle.{Settle}
use Rattle.pc_model.specs.declared.owed.Settle.TheVariants.{Nothing}
use Rattle.pc_model.specs.Map.{Pairs, reply_of, pairs_after}

-- what a step on the pairs answers, or none where any reply is right; and the pairs after it
pub record Outcome : Type 0 where
  pub reply : Option Reply
  pub pairs : Pairs

pub record Terms : Type 0 where
  -- the call that is recorded, or none
  pub entry : Option Call
  -- what is right, whatever is recorded
  pub step : Pairs → Outcome
  -- what a call that was answered so settles of its client's debts
  pub settles : Reply → Settle
  -- the lower end of a raise
  pub lower : ℕ

-- a call of the map is recorded as itself, answers what the map answers, and settles nothing
abbrev pub map_terms : Call → Terms
map_terms call = record {
  entry = Some call;
  step = λ ps. record { reply = Some (reply_of call ps); pairs = pairs_after call ps };
  settles = λ reply. Nothing;
  lower = 0;
}

-- the reply is the one that is right, or any
abbrev pub IsReply : Option Reply → Reply → Type 0
IsReply None r = Unit {0}
IsReply (Some right) r = r ≡ right
