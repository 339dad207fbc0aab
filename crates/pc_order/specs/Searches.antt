-- The search on one side of a key, as a machine: its walk to the key remembers each pair that it meets on
-- that side, so that the last one is the nearest.
use Rattle.std.specs.Prelude.{ℕ, ◌==◌, nat_le, if◌then◌else◌, Bool, Option, Some, None}
use Rattle.pc_model.specs.declared.call.Call.{Call}
use Rattle.pc_model.specs.declared.call.Call.TheVariants.{Ceil, Floor}
use Rattle.pc_model.specs.declared.call.Reply.{Reply}
use Rattle.pc_model.specs.declared.call.Reply.TheVariants.{None as Nothing, Pair}
use Rattle.pc_model.specs.declared.cell.Field.TheVariants.{Value as ValueField}
use Rattle.pc_model.specs.declared.cell.Side.{Side}
use Rattle.pc_model.specs.declared.cell.Side.TheVariants.{Left, Right}
use Rattle.pc_model.specs.Map.{pair_or_nothing}
use Rattle.pc_plan.specs.declared.plan.Ask.{Ask}
use Rattle.pc_plan.specs.declared.plan.Ask.TheVariants.{Visit as AskVisit, Read as AskRead, Answer}
use Rattle.pc_plan.specs.declared.plan.Told.{Told}
use Rattle.pc_plan.specs.declared.plan.Told.TheVariants.{Number}
use Rattle.pc_plan.specs.declared.walk.Walk.{Walk}
use Rattle.pc_plan.specs.declared.walk.Step.{Step}
use Rattle.pc_plan.specs.declared.walk.Step.TheVariants.{Visit, Read, Here, Missing, Astray}
use Rattle.pc_plan.specs.Walks.{walk_of, on_way, way, walk_step}
use Rattle.pc_order.specs.declared.search.SearchPhase.{SearchPhase}
use Rattle.pc_order.specs.declared.search.SearchPhase.TheVariants.{Walking, Reading, Ended}
use Rattle.pc_order.specs.declared.search.Search.{Search}

-- the call of the map that a search answers
abbrev pub call_on : Side → ℕ → Call
call_on Left k = Floor k
call_on Right k = Ceil k

-- whether a node's key lies on this side of the key that is asked for, which lies on both
abbrev pub is_on : Side → ℕ → ℕ → Bool
is_on Left k x = nat_le x k
is_on Right k x = nat_le k x

abbrev pub search_at : Side → Walk → SearchPhase → ℕ → Option (ℕ × ℕ) → Search
search_at side w phase met nearest = record { walk = w; side = side; phase = phase; met = met; nearest = nearest }

abbrev pub search_of : Side → ℕ → Search
search_of side k = search_at side (walk_of k) Walking 0 None

abbrev pub with_walk : Search → Walk → Search
with_walk s w = search_at s.side w s.phase s.met s.nearest

abbrev pub ended : Search → Reply → Search × Ask
ended s r = (search_at s.side s.walk Ended s.met s.nearest, Answer r)

abbrev pub going_on : Search → ℕ → Search × Ask
going_on s x = (with_walk s (on_way s.walk x), AskRead s.walk.node (way s.walk x))

abbrev pub reading_value : Search → ℕ → Search × Ask
reading_value s x = (search_at s.side s.walk Reading x s.nearest, AskRead s.walk.node ValueField)

-- a search whose walk has made a step: the value of a node on its side is read, and where the key is
-- missing the remembered pair is the answer
abbrev pub walked : Search → Step → Search × Ask
walked s (Visit n) = (s, AskVisit n)
walked s (Read n f) = (s, AskRead n f)
walked s (Here x) = if is_on s.side s.walk.key x then reading_value s x else going_on s x
walked s (Missing side link) = ended s (pair_or_nothing s.nearest)
walked s Astray = ended s Nothing

abbrev pub walked_on : Search → Told → Search × Ask
walked_on s t = walked (with_walk s (walk_step s.walk t).0) (walk_step s.walk t).1

abbrev pub remembered : Search → ℕ → Search
remembered s v = search_at s.side s.walk Walking s.met (Some (s.met, v))

-- a remembered pair ends the search where it has the key
abbrev pub remembering : Search → ℕ → Search × Ask
remembering s v = if s.met == s.walk.key
    then ended (remembered s v) (Pair s.met v)
    else going_on (remembered s v) s.met

abbrev pub search_told : Search → SearchPhase → Told → Search × Ask
search_told s Walking t = walked_on s t
search_told s Reading (Number v) = remembering s v
search_told s _ _ = ended s Nothing

abbrev pub search_moves : Search → Told → Search × Ask
search_moves s t = search_told s s.phase t
