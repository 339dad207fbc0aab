-- What the pass was told changes nothing that it knows.
use Rattle.std.proofs.Common.{◌≡◌, sym, ap, subst}
use Rattle.pc_protocol.specs.Notes.{verdict}
use Rattle.pc_rule_law.specs.Past.{Has}
use Rattle.pc_exchange_law.specs.Knowing.{after_clearing}
use Rattle.pc_exchange_law.specs.Ties.{code}
use Rattle.pc_exchange_law.specs.WholePlays.{after_clear}
use Rattle.pc_exchange_law.specs.Wholes.{Whole}
use Rattle.pc_rule.specs.Deciding.{MayClearOwn, KnowsOutcome}
use Rattle.pc_rule.specs.Passes.{whole}
use Rattle.pc_kcas.proofs.clearing.make_idle.Goals as goal

pub step_16-requires-clause-may : goal.step_16-requires-clause-may
step_16-requires-clause-may g c = λ _ _. let same : whole c.tell_won.new.self ≡ whole c.args.pass.now = ap (λ s. s.me.0) c.tell_won.ensures.only.0 in
    subst (λ (x : Whole). MayClearOwn x c.args.idle) (sym same) c.requires.may

pub step_16-requires-clause-outcome : goal.step_16-requires-clause-outcome
step_16-requires-clause-outcome g c = λ _ _. let same : whole c.tell_won.new.self ≡ whole c.args.pass.now = ap (λ s. s.me.0) c.tell_won.ensures.only.0 in
    subst (KnowsOutcome (whole c.tell_won.new.self)) (sym c.tell_won.ensures.won) (subst (λ (x : Whole). KnowsOutcome x c.args.won) (sym same) c.requires.outcome)

pub returns-clause-told : goal.returns-clause-told
returns-clause-told g c = λ st has. let same : whole c.tell_won.new.self ≡ whole c.args.pass.now = ap (λ s. s.me.0) c.tell_won.ensures.only.0 in
    subst (λ (x : Whole). whole c.step_16.new.pass ≡ record x { view = after_clear x.view; knows = after_clearing x.knows st }) same
    (c.step_16.ensures.told st (subst (λ (x : Whole). Has x.knows.told (verdict (code x.view.seat x.knows.own.number) st)) (sym same) has))
