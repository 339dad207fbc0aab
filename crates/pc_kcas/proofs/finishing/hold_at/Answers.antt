-- The word is known to be one of the exchange, and what came of it is said of the pass's word.
use Rattle.std.proofs.Common.{◌<◌, sym, subst}
use Rattle.pc_rule.specs.Passes.{view, board_size}
use Rattle.pc_kcas.proofs.Counted.{word_bounded}
use Rattle.pc_kcas.proofs.Finished.{if_some, if_none, own_place, own_word_of, own_held, own_met}
use Rattle.pc_kcas.proofs.Owning.{published_goes}
use Rattle.pc_kcas.proofs.finishing.hold_at.Goals as goal

pub hold_word-held-requires-clause-place : goal.hold_word-held-requires-clause-place
hold_word-held-requires-clause-place g c = λ _ _. let p = c.args.pass.now in let of = c.requires.pass in
    own_place p c.args.i c.own_ref-op.result c.listed.result.now _ c.requires.published (subst (λ z. (view p).seat < z.seats) (sym of.1) of.2) c.own_ref-op.ensures c.listed.ensures c.requires.index

pub hold_word-held-requires-clause-word : goal.hold_word-held-requires-clause-word
hold_word-held-requires-clause-word g c = λ _ _.
    own_word_of c.args.pass.now c.args.i c.own_ref-op.result c.listed.result.now _ c.requires.published c.own_ref-op.ensures c.listed.ensures c.requires.index

pub returns-clause-published : goal.returns-clause-published
returns-clause-published g c = let e = c.hold_word-held.ensures in published_goes c.args.pass.now c.hold_word-held.new.pass e.pass e.goes_on c.requires.published

pub returns-clause-held : goal.returns-clause-held
returns-clause-held g c = let e = c.hold_word-held.ensures in if_none c.hold_word-held.result.obstacle _ _
    (own_held c.args.pass.now c.hold_word-held.new.pass c.args.i c.own_ref-op.result c.listed.result.now _ c.own_ref-op.ensures c.listed.ensures e.pass e.goes_on) e.held

pub returns-clause-met : goal.returns-clause-met
returns-clause-met g c = let e = c.hold_word-held.ensures in if_some c.hold_word-held.result.obstacle _ _
    (λ o. own_met (board_size c.args.board.now).seats c.args.pass.now c.hold_word-held.new.pass c.args.i c.own_ref-op.result c.listed.result.now _ c.passes-links.result c.hold_word-held.result.links o
    c.own_ref-op.ensures c.listed.ensures e.pass e.goes_on c.passes-links.ensures.number e.followed) e.obstacle

pub returns-clause-bounded : goal.returns-clause-bounded
returns-clause-bounded g c = let h = c.hold_word-held in
    word_bounded (board_size c.args.board.now) c.passes-links.result h.result.links (view c.args.pass.now) (view h.new.pass) c.passes-links.ensures.number h.ensures.bounded
