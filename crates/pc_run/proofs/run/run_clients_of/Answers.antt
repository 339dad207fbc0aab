-- The one list of a script has its numbers in range.
use Rattle.std.proofs.Common.{◌≡◌, ◌<◌, List, [], length, sym, ap, ◌∙◌, subst, arith}
use Rattle.std.specs.Prelude.{All, slice_index_or}
use Rattle.std.proofs.lemmas.List.{get_or-map}
use Rattle.pc_model.specs.declared.call.Call.{Call}
use Rattle.pc_text.specs.ScriptFacts.{IsCallInRange}
use Rattle.pc_run.proofs.run.run_clients_of.Goals as goal

pub run_alone-requires-clause-in_range : goal.run_alone-requires-clause-in_range
run_alone-requires-clause-in_range g c = λ l alive.
    let lists = c.script.inside.calls.items in
    let whole = ap (λ s. s.calls) c.script.view_is in
    let inside : 0 < length lists = omega (arith, c.if-len-eq1.true, c.len.ensures) in
    let first = get_or-map (λ list. list.items) lists 0 c.index.result.now [] inside in
    let same : c.deref.result.now ≡ slice_index_or c.args.script.now.calls 0 [] =
    c.deref.ensures.value ∙ ap (λ list. list.items) c.index.ensures ∙ sym first
    ∙ ap (λ (ls : List (List Call)). slice_index_or ls 0 []) whole in
    subst (All IsCallInRange) (sym same) (c.requires.in_range 0 [] (omega (arith, c.requires.clients.0)))
