-- Each client's text comes after the earlier ones; where the sink failed, a front of the script was sent.
use Rattle.std.proofs.Common.{ℕ, List, [], ◌+◌, ◌++◌, subst}
use Rattle.std.proofs.lemmas.Result.{err_from_is_err_and}
use Rattle.pc_edge.proofs.Sends.{Writes-then}
use Rattle.pc_text.specs.Made.{made_commands, made_script}
use Rattle.pc_text.specs.ScriptText.{client_line, text_of}
use Rattle.pc_text.proofs.MadeLemmas.{next_turn, no_turn}
use Rattle.pc_text.proofs.PrintedLines.{Writes-from_empty}
use Rattle.pc_text.proofs.Writing.{HasWritten, has_written_all, has_written_more, has_written_failed}
use Rattle.pc_text.proofs.made.write_made.Goals as goal

pub loop-before-preserved : goal.loop-before-preserved
loop-before-preserved g c =
    let client = c.loop-before.before + 1 in
    let text = client_line client ++ text_of (made_commands c.args.seed c.args.commands client) in
    has_written_more _ _ _ _ _ _ _ _ _ text _ _ c.loop-before.invariant
    (next_turn c.args.seed c.args.commands c.args.clients c.loop-before.before c.loop-before-test.true)
    c.in_ok-write_client.ensures

pub returns-in_err-write_client : goal.returns-in_err-write_client
unfolding made_script
returns-in_err-write_client g c =
    let p = err_from_is_err_and c.from_residual.result c.from_residual.ensures.1 in
    let client = c.loop-before.before + 1 in
    let text = client_line client ++ text_of (made_commands c.args.seed c.args.commands client) in
    let script = made_script c.args.seed c.args.clients c.args.commands in
    rw p.1 (Writes-from_empty _ _ _ _ c.new-chunk.result script _ _ c.new-chunk.ensures
    (has_written_failed {T = Unit {0}} _ _ _ _ _ _ _ _ _ text _ _ _ _ _ c.loop-before.invariant
    (next_turn c.args.seed c.args.commands c.args.clients c.loop-before.before c.loop-before-test.true)
    c.in_err-write_client.ensures))

pub returns : goal.returns
unfolding made_script
returns g c =
    let chunk = c.new-chunk.result in
    let script = made_script c.args.seed c.args.clients c.args.commands in
    let all : HasWritten g.K.Sink.held g.K.Sink.faults c.args.sink.now c.loop-before.sink chunk script
    c.loop-before.chunk [] =
    subst (λ (to_come : List ℕ). HasWritten g.K.Sink.held g.K.Sink.faults c.args.sink.now c.loop-before.sink chunk
    script c.loop-before.chunk to_come)
    (no_turn c.args.seed c.args.commands c.args.clients c.loop-before.before c.loop-before-test.false)
    c.loop-before.invariant in
    Writes-from_empty _ _ _ _ chunk script _ _ c.new-chunk.ensures
    (Writes-then _ _ _ _ _ (chunk ++ script) _ _ _ c.flush.result
    (has_written_all _ _ _ _ chunk script c.loop-before.chunk all) c.flush.ensures.written)
