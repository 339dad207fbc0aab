-- Each line's class goes one step further; what is left in the end is nothing.
use Rattle.std.proofs.Common.{◌≡◌, [], List, ap, sym, ◌∙◌, arith, map, take, subst, Ok, Vec, Global, ℕ}
use Rattle.std.proofs.lemmas.List.{length-map, take-map}
use Rattle.std.proofs.lemmas.List.Elements.{All-map}
use Rattle.pc_model.specs.declared.call.Call.{Call}
use Rattle.pc_text.specs.declared.line.LineClass.TheVariants.{Skip, Turn, Command, Bad}
use Rattle.pc_text.specs.ScriptFacts.{AreInRange}
use Rattle.pc_text.proofs.ReadLemmas.{reads, has_read_none, has_read_skip, has_read_turn, has_read_command, bad_at}
use Rattle.pc_text.proofs.ReadLemmas.{full_at, is_read}
use Rattle.pc_text.proofs.read.read_script.Goals as goal

pub loop-rest-init : goal.loop-rest-init
loop-rest-init c =
    has_read_none c.args.bytes.now (map (λ list. list.items) c.in_ok-lists.lists.items)
    (omega (
      arith,
      length-map c.in_ok-lists.lists.items
          (λ list. list.items),
      c.in_ok-lists.ensures.many,
      c.in_ok-lists.lists.ok,
    ))
    (All-map (λ calls. calls ≡ []) (λ list. list.items) c.in_ok-lists.lists.items c.in_ok-lists.ensures.lists)

pub loop-rest-preserved-in-Skip : goal.loop-rest-preserved-in-Skip
loop-rest-preserved-in-Skip c =
    has_read_skip _ c.loop-rest.rest.now c.after_line-rest.result.now _ _ _ _ _ c.loop-rest.invariant
    (reads c.loop-rest.rest.now c.after_line-rest.result.now c.without_return.result.now c.line_len-len.result Skip
    (omega arith) c.line_len-len.ensures.place c.without_return.ensures c.in-Skip.ensures.class
    c.after_line-rest.ensures)

pub loop-rest-preserved-in-Turn : goal.loop-rest-preserved-in-Turn
loop-rest-preserved-in-Turn c =
    rw c.max-clients.ensures
    (has_read_turn _ c.loop-rest.rest.now c.after_line-rest.result.now _ _ _ c.loop-rest.clients _ c.in-Turn.client
    c.loop-rest.invariant
    (reads c.loop-rest.rest.now c.after_line-rest.result.now c.without_return.result.now c.line_len-len.result
    (Turn c.in-Turn.client)
    (omega arith) c.line_len-len.ensures.place c.without_return.ensures c.in-Turn.ensures.class
    c.after_line-rest.ensures) c.in-Turn.ensures.in_range)

pub loop-rest-preserved : goal.loop-rest-preserved
loop-rest-preserved c =
    rw c.in_ok-add_call-in-Command.ensures
    (has_read_command _ c.loop-rest.rest.now c.after_line-rest.result.now
    (map (λ list. list.items) c.loop-rest.lists.items) _ c.loop-rest.turn _ c.loop-rest.commands c.in-Command.call
    c.loop-rest.invariant
    (reads c.loop-rest.rest.now c.after_line-rest.result.now c.without_return.result.now c.line_len-len.result
    (Command c.in-Command.call)
    (omega arith) c.line_len-len.ensures.place c.without_return.ensures c.in-Command.ensures.class
    c.after_line-rest.ensures) (omega arith) c.in-Command.ensures.in_range)

pub returns-then-commands-eq-MOST_COMMANDS-clause-bad : goal.returns-then-commands-eq-MOST_COMMANDS-clause-bad
returns-then-commands-eq-MOST_COMMANDS-clause-bad c =
    full_at _ c.loop-rest.rest.now c.after_line-rest.result.now
    (map (λ list. list.items) c.loop-rest.lists.items) _ _ _ _ c.in-Command.call c.loop-rest.invariant
    (reads c.loop-rest.rest.now c.after_line-rest.result.now c.without_return.result.now c.line_len-len.result
    (Command c.in-Command.call)
    (omega arith) c.line_len-len.ensures.place c.without_return.ensures c.in-Command.ensures.class
    c.after_line-rest.ensures) (omega arith)

pub returns-in-Bad-clause-bad : goal.returns-in-Bad-clause-bad
returns-in-Bad-clause-bad c =
    bad_at _ c.loop-rest.rest.now c.after_line-rest.result.now
    (map (λ list. list.items) c.loop-rest.lists.items) _ _ _ _ c.in-Bad.kind c.loop-rest.invariant
    (reads c.loop-rest.rest.now c.after_line-rest.result.now c.without_return.result.now c.line_len-len.result
    (Bad c.in-Bad.kind)
    (omega arith) c.line_len-len.ensures.place c.without_return.ensures c.in-Bad.ensures.class
    c.after_line-rest.ensures)

-- the lists that are kept
kept_is : (lists kept : List (Vec Call Global)) (clients : ℕ) → kept ≡ take clients lists
    → map (λ list. list.items) kept ≡ take clients (map (λ list. list.items) lists)
kept_is lists kept clients is = ap (map (λ list. list.items)) is ∙ sym (take-map (λ list. list.items) clients lists)

pub returns-clause-script : goal.returns-clause-script
returns-clause-script c =
    let read = is_read _ c.loop-rest.rest.now (map (λ list. list.items) c.loop-rest.lists.items) _ _ _ _
    c.loop-rest.invariant c.loop-rest-test.false in
    read.script ∙ ap (λ calls. Ok (record { clients = c.loop-rest.clients; calls = calls }))
    (sym (kept_is c.loop-rest.lists.items c.truncate.new.self.items c.loop-rest.clients c.truncate.ensures.items))

pub returns-clause-few : goal.returns-clause-few
returns-clause-few c =
    let read = is_read _ c.loop-rest.rest.now (map (λ list. list.items) c.loop-rest.lists.items) _ _ _ _
    c.loop-rest.invariant c.loop-rest-test.false in
    rw (kept_is c.loop-rest.lists.items c.truncate.new.self.items c.loop-rest.clients c.truncate.ensures.items)
    read.few

pub returns-clause-in_range : goal.returns-clause-in_range
returns-clause-in_range c =
    let read = is_read _ c.loop-rest.rest.now (map (λ list. list.items) c.loop-rest.lists.items) _ _ _ _
    c.loop-rest.invariant c.loop-rest-test.false in
    subst AreInRange (sym
    (kept_is c.loop-rest.lists.items c.truncate.new.self.items c.loop-rest.clients c.truncate.ensures.items))
    read.in_range
