-- How many slots of a pass's share came into use: one for each node that the run makes there.
use Rattle.std.specs.Prelude.{ℕ, ◌+◌, ◌&&◌, nat_le, nat_lt, if◌then◌else◌, List, [], ◌∷◌, Option, Some, None}
use Rattle.pc_model.specs.Exchanges.{FreshNode}
use Rattle.pc_history.specs.WorldRuns.{Stamped}
use Rattle.pc_rule_law.specs.Board.{Size, start_of}

-- 1 where there is a slot, else 0
abbrev pub count_of : Option ℕ → ℕ
count_of None = 0
count_of (Some n) = 1

-- 1 where the node that an exchange makes, if any, is in the share of the pass at seat j, else 0
abbrev pub node_made : Size → ℕ → Option FreshNode → ℕ
node_made z j None = 0
node_made z j (Some g) = if nat_le (start_of z j) g.node && nat_lt g.node (start_of z (j + 1)) then 1 else 0

-- how many nodes a run makes in that share
abbrev pub nodes_made : Size → ℕ → List Stamped → ℕ
nodes_made z j [] = 0
nodes_made z j (x ∷ run) = node_made z j x.what.fresh + nodes_made z j run
