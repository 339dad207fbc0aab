use Rattle.std.proofs.Common.{◌∙◌, sym, ap}
use Rattle.pc_model.specs.Map.{was_or_new}
use Rattle.pc_model.proofs.OrderedMaps.{lookup-is_value_at, insert_entry-is_put}
use Rattle.pc_model.proofs.first_wrong.put.Goals as goal

pub returns-in-Ok-Some-clause-reply : goal.returns-in-Ok-Some-clause-reply
returns-in-Ok-Some-clause-reply c = ap was_or_new (sym c.in-Ok-Some.field-0-is ∙ c.in-Ok-Some.ensures.old
    ∙ lookup-is_value_at c.args.key c.args.map.now.entries)

pub returns-in-Ok-Some-clause-pairs : goal.returns-in-Ok-Some-clause-pairs
returns-in-Ok-Some-clause-pairs c = c.in-Ok-Some.ensures.entries
    ∙ insert_entry-is_put c.args.key c.args.value c.args.map.now.entries

pub returns-in-Ok-None-clause-reply : goal.returns-in-Ok-None-clause-reply
returns-in-Ok-None-clause-reply c = ap was_or_new (sym c.in-Ok-None.field-0-is ∙ c.in-Ok-None.ensures.old
    ∙ lookup-is_value_at c.args.key c.args.map.now.entries)

pub returns-in-Ok-None-clause-pairs : goal.returns-in-Ok-None-clause-pairs
returns-in-Ok-None-clause-pairs c = c.in-Ok-None.ensures.entries
    ∙ insert_entry-is_put c.args.key c.args.value c.args.map.now.entries
