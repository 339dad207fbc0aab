use Rattle.std.proofs.Common.{◌≡◌, ℕ, ◌+◌, ◌<◌, ◌≤◌, List, length, take, get_or, ap, ◌∙◌, arith}
use Rattle.std.proofs.lemmas.List.{take_more}
use Rattle.pc_model.specs.declared.call.Call.{Call}
use Rattle.pc_model.specs.declared.call.Call.TheVariants.{Put}
use Rattle.pc_model.specs.Calls.{is_put, puts_in}
use Rattle.pc_model.specs.Counts.{one_if}
use Rattle.pc_model.proofs.Sizes.{puts_in-push, one_if-le-one}
use Rattle.pc_run.proofs.shares.count_puts.Goals as goal

pub loop-call-preserved : goal.loop-call-preserved
loop-call-preserved c =
    let i : ℕ = c.loop-call.call-index in
    let calls : List Call = c.args.calls.now in
    let call : Call = get_or calls i (Put 0 0) in
    let inside : i < length calls = omega arith in
    let more : puts_in (take (i + 1) calls) ≡ puts_in (take i calls) + one_if (is_put call) =
    ap puts_in (take_more calls i (Put 0 0) inside) ∙ puts_in-push (take i calls) call in
    let small : one_if (is_put call) ≤ 1 = one_if-le-one (is_put call) in
    let before : c.loop-call.puts ≡ puts_in (take i calls) = c.loop-call.invariant.0 in
    let few : c.loop-call.puts ≤ i = c.loop-call.invariant.1 in
    let one : c.one_for_put-puts.result ≡ one_if (is_put call) = c.one_for_put-puts.ensures in
    (omega arith, omega arith)
