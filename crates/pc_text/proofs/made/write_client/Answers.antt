-- The client's line, and then its commands'.
use Rattle.std.proofs.Common.{◌++◌, subst, List, ℕ, append_assoc}
use Rattle.pc_edge.specs.Sending.{Writes}
use Rattle.pc_edge.proofs.Sends.{Writes-more}
use Rattle.pc_text.specs.ScriptText.{client_line, text_of}
use Rattle.pc_text.specs.Made.{commands_from, made_commands}
use Rattle.pc_text.proofs.Writing.{Writes-append}
use Rattle.pc_text.proofs.made.write_client.Goals as goal

pub returns : goal.returns
returns g c =
    let chunk = c.args.chunk.now in
    let line = client_line c.args.client in
    let text = text_of (made_commands c.args.seed c.args.commands c.args.client) in
    let first = Writes-append _ _ _ _ chunk c.make_room.new.self line _ c.in_ok-make_room.ensures.written in
    let rest : Writes g.K.Sink.held g.K.Sink.faults c.make_room.new.sink c.write_commands.new.sink
    (c.make_room.new.self ++ line ++ text) c.write_commands.new.chunk c.write_commands.result =
    subst (λ (waiting : List ℕ). Writes g.K.Sink.held g.K.Sink.faults c.make_room.new.sink c.write_commands.new.sink
    (waiting ++ text) c.write_commands.new.chunk c.write_commands.result) c.push_client.ensures
    (subst (λ (state : ℕ). Writes g.K.Sink.held g.K.Sink.faults c.make_room.new.sink c.write_commands.new.sink
    (c.push_client.new.chunk ++ text_of (commands_from c.args.commands state)) c.write_commands.new.chunk
    c.write_commands.result) c.new.ensures.state c.write_commands.ensures) in
    subst (λ (whole : List ℕ). Writes g.K.Sink.held g.K.Sink.faults c.args.sink.now c.write_commands.new.sink whole
    c.write_commands.new.chunk c.write_commands.result) (append_assoc chunk line text)
    (Writes-more _ _ _ _ _ (chunk ++ line) (c.make_room.new.self ++ line) text _ _ _ first rest)
