use Rattle.std.proofs.Common.{◌∙◌, ap}
use Rattle.pc_model.specs.Map.{value_or_nothing}
use Rattle.pc_model.proofs.OrderedMaps.{lookup-is_value_at, remove_entry-is_without}
use Rattle.pc_model.proofs.first_wrong.answer.Goals as goal

pub returns-in-Get-clause-reply : goal.returns-in-Get-clause-reply
returns-in-Get-clause-reply c =
    rw c.in-Get.is (c.value_reply.ensures
    ∙ ap value_or_nothing (c.copied.ensures ∙ c.get.ensures.value
    ∙ lookup-is_value_at c.in-Get.key c.args.map.now.entries))

pub returns-in-Remove-clause-reply : goal.returns-in-Remove-clause-reply
returns-in-Remove-clause-reply c =
    rw c.in-Remove.is (c.value_reply-in-Remove.ensures
    ∙ ap value_or_nothing (c.remove.ensures.value ∙ lookup-is_value_at c.in-Remove.key c.args.map.now.entries))

pub returns-in-Remove-clause-pairs : goal.returns-in-Remove-clause-pairs
returns-in-Remove-clause-pairs c =
    rw c.in-Remove.is (c.remove.ensures.entries ∙ remove_entry-is_without c.in-Remove.key c.args.map.now.entries)
