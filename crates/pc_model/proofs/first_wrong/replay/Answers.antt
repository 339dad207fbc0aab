use Rattle.std.proofs.Common.{rules, ◌≡◌, ◌≢◌, ◌∙◌, sym, get_or}
use Rattle.pc_model.specs.declared.call.Entry.{Entry}
use Rattle.pc_model.specs.declared.call.Call.TheVariants.{Put}
use Rattle.pc_model.specs.declared.call.Reply.TheVariants.{New}
use Rattle.pc_model.specs.FirstWrong.{IsFirstWrong}
use Rattle.pc_model.proofs.Replaying.{replayed_more, wrong_here, not_right}
use Rattle.pc_model.proofs.first_wrong.replay.Goals as goal

-- what stands past the end of a list
abbrev blank : Entry
blank = record { pass = 0; number = 0; call = Put 0 0; reply = New; stamp = 0 }

found : (c : goal.After-drop-map-then-ne)
    → IsFirstWrong c.args.list.now (record { place = c.loop-place.place; expected = c.in_ok-expected.expected })
found c =
    let differs : (get_or c.args.list.now c.loop-place.place blank).reply ≢ c.in_ok-expected.expected = search rules in
    wrong_here c.args.list.now c.loop-place.place c.loop-place.map.entries blank c.in_ok-expected.expected
    c.loop-place-test.true c.loop-place.invariant c.in_ok-expected.ensures.reply differs

pub returns-then-ne-clause-right : goal.returns-then-ne-clause-right
returns-then-ne-clause-right c = (λ none. absurd cc, λ right. absurd (not_right c.args.list.now _ (found c) right))

pub returns-then-ne-clause-wrong : goal.returns-then-ne-clause-wrong
returns-then-ne-clause-wrong c = found c

pub loop-place-preserved : goal.loop-place-preserved
loop-place-preserved c =
    let same : c.in_ok-expected.expected ≡ (get_or c.args.list.now c.loop-place.place blank).reply = search rules in
    replayed_more c.args.list.now c.loop-place.place c.loop-place.map.entries c.answer.new.map.entries blank
    c.loop-place-test.true c.loop-place.invariant (sym same
    ∙ c.in_ok-expected.ensures.reply) c.in_ok-expected.ensures.pairs
