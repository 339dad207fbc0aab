use Rattle.std.proofs.Common.{◌-◌, ◌<◌, ◌∷◌, [], ◌++◌, ◌∙◌, ap, sym, length, map, set, arith}
use Rattle.std.proofs.lemmas.List.{map-set, get_or-map}
use Rattle.pc_text.proofs.read.add_call.Goals as goal

pub returns : goal.returns
returns c =
    let place = c.args.client - 1 in
    let below : place < length c.args.lists.now.items = omega arith in
    map-set (λ list. list.items) c.args.lists.now.items place c.push.new.self
    ∙ ap (set (map (λ list. list.items) c.args.lists.now.items) place)
    (c.in_ok-push.ensures.items ∙ ap (λ calls. calls ++ c.args.call ∷ [])
    (ap (λ list. list.items) c.index_mut-list.ensures.value
    ∙ sym (get_or-map (λ list. list.items) c.args.lists.now.items place c.index_mut-list.result.now [] below)))
