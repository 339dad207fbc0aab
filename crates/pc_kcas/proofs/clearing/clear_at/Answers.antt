-- The listed word is one of the own exchange.
use Rattle.std.proofs.Common.{ap}
use Rattle.pc_rule.specs.declared.refs.Ref.{Ref}
use Rattle.pc_kcas.proofs.Cleared.{own_entry_of, clean_at}
use Rattle.pc_kcas.proofs.clearing.clear_at.Goals as goal

pub clear_word-requires-clause-entry : goal.clear_word-requires-clause-entry
clear_word-requires-clause-entry g c = λ _ _. let own = c.own_ref-op.ensures in own_entry_of c.args.pass.now c.args.i c.listed.result.now _ c.own_ref-op.result
    c.requires.published c.listed.ensures c.requires.index (ap (λ (r : Ref). r.seat) own) (ap (λ (r : Ref). r.number) own)

pub returns-clause-clean : goal.returns-clause-clean
returns-clause-clean g c = let e = c.clear_word.ensures in let own = c.own_ref-op.ensures in
    clean_at c.args.pass.now c.clear_word.new.pass c.args.i c.listed.result.now _ c.own_ref-op.result.seat c.own_ref-op.result.number
    c.listed.ensures e.pass e.learnt (ap (λ (r : Ref). r.seat) own) (ap (λ (r : Ref). r.number) own) e.clean
