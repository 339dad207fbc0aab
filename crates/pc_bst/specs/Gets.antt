-- The plan of a get, as a machine.
use Rattle.std.specs.Prelude.{ℕ, ◌==◌, if◌then◌else◌}
use Rattle.pc_model.specs.declared.cell.Field.TheVariants.{Value as ValueField}
use Rattle.pc_model.specs.declared.call.Reply.{Reply}
use Rattle.pc_model.specs.declared.call.Reply.TheVariants.{Value, None as Nothing}
use Rattle.pc_plan.specs.declared.plan.Ask.{Ask}
use Rattle.pc_plan.specs.declared.plan.Ask.TheVariants.{Visit as AskVisit, Read as AskRead, Answer}
use Rattle.pc_plan.specs.declared.plan.Told.{Told}
use Rattle.pc_plan.specs.declared.plan.Told.TheVariants.{Number}
use Rattle.pc_plan.specs.declared.walk.Walk.{Walk}
use Rattle.pc_plan.specs.declared.walk.Step.{Step}
use Rattle.pc_plan.specs.declared.walk.Step.TheVariants.{Visit, Read, Here, Missing, Astray}
use Rattle.pc_plan.specs.Walks.{walk_of, on_way, way, walk_step}
use Rattle.pc_bst.specs.declared.get.GetPhase.{GetPhase}
use Rattle.pc_bst.specs.declared.get.GetPhase.TheVariants.{Walking, Reading, Ended}
use Rattle.pc_bst.specs.declared.get.BstGet.{BstGet}

abbrev pub get_at : Walk → GetPhase → BstGet
get_at w phase = record { walk = w; phase = phase }

abbrev pub get_of : ℕ → BstGet
get_of k = get_at (walk_of k) Walking

abbrev pub get_ended : Walk → Reply → BstGet × Ask
get_ended w r = (get_at w Ended, Answer r)

-- a get whose walk has made a step: at the key it reads the value, and where the key is missing it answers
abbrev pub get_walked : BstGet → Walk → Step → BstGet × Ask
get_walked g w (Visit n) = (get_at w g.phase, AskVisit n)
get_walked g w (Read n f) = (get_at w g.phase, AskRead n f)
get_walked g w (Here x) = if x == w.key
    then (get_at w Reading, AskRead w.node ValueField)
    else (get_at (on_way w x) g.phase, AskRead w.node (way w x))
get_walked g w (Missing s link) = get_ended w Nothing
get_walked g w Astray = get_ended w Nothing

abbrev pub get_told : BstGet → GetPhase → Told → BstGet × Ask
get_told g Walking t = get_walked g (walk_step g.walk t).0 (walk_step g.walk t).1
get_told g Reading (Number v) = get_ended g.walk (Value v)
get_told g _ _ = get_ended g.walk Nothing

abbrev pub get_moves : BstGet → Told → BstGet × Ask
get_moves g t = get_told g g.phase t
