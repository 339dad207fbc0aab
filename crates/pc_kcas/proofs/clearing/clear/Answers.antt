-- Each word is clean, and then the status is idle.
use Rattle.std.proofs.Common.{rules, ◌≡◌, List, sym, ap, subst}
use mathlib.Core.Option.{some}
use lib.ListN.{get_elem?}
use Rattle.pc_rule_law.specs.Past.{Has}
use Rattle.pc_rule_law.specs.Views.{clean}
use Rattle.pc_rule_law.proofs.Lists.{below_length, has_right}
use Rattle.pc_protocol.specs.Notes.{clock_was}
use Rattle.pc_exchange_law.specs.OwnSlots.{made_by}
use Rattle.pc_exchange_law.specs.Wholes.{Whole}
use Rattle.pc_rule.specs.declared.opening.Place.{Place}
use Rattle.pc_rule.specs.Passes.{whole, listed}
use Rattle.pc_kcas.specs.Settling.{HasLearnt}
use Rattle.pc_kcas.proofs.Learning.{learnt_then, clock_learnt, clock_told, withdrawn_none}
use Rattle.pc_kcas.proofs.Cleared.{may_clear, outcome_still, cleared_so, own_outcome, published_learnt, clean_still}
use Rattle.pc_kcas.proofs.clearing.clear.Goals as goal

pub make_idle-requires-clause-may : goal.make_idle-requires-clause-may
make_idle-requires-clause-may g c = λ _ _. let p = c.args.pass.now in let q = c.clear_listed.new.pass in let r = c.step_9-clock.new.pass in let e = c.clear_listed.ensures in let n = c.step_9-clock.ensures in
    let m : HasLearnt (whole q) (whole r) = clock_learnt (whole q) (whole r) c.step_9-clock.result n.told n.learnt in
    let l : HasLearnt (whole p) (whole r) = learnt_then (whole p) (whole q) (whole r) e.learnt m in
    may_clear (whole r) (listed r) c.args.won c.pack-idle.result (published_learnt p r (search rules) l c.requires.published) r.one_attempt
    (outcome_still (whole p) (whole r) c.args.won l c.requires.decided)
    (λ i x at. let there : get_elem? (listed q) i ≡ some x = subst (λ (k : List Place). get_elem? k i ≡ some x) (ap (λ v. v.items) n.pass.1) at in
    clean_still q r i n.pass m (e.clean i (below_length (listed q) i x there)) x at)
    (search rules)

pub make_idle-requires-clause-outcome : goal.make_idle-requires-clause-outcome
make_idle-requires-clause-outcome g c = λ _ _. let p = c.args.pass.now in let q = c.clear_listed.new.pass in let r = c.step_9-clock.new.pass in let n = c.step_9-clock.ensures in
    let l : HasLearnt (whole p) (whole r) = learnt_then (whole p) (whole q) (whole r) c.clear_listed.ensures.learnt (clock_learnt (whole q) (whole r) c.step_9-clock.result n.told n.learnt) in
    own_outcome (whole r) c.args.won r.one_attempt (outcome_still (whole p) (whole r) c.args.won l c.requires.decided)

pub returns-clause-cleared : goal.returns-clause-cleared
returns-clause-cleared g c = let p = c.args.pass.now in let q = c.clear_listed.new.pass in let r = c.step_9-clock.new.pass in let n = c.step_9-clock.ensures in
    let l : HasLearnt (whole p) (whole r) = learnt_then (whole p) (whole q) (whole r) c.clear_listed.ensures.learnt (clock_learnt (whole q) (whole r) c.step_9-clock.result n.told n.learnt) in
    let told = cleared_so (whole r) (whole c.make_idle.new.pass) c.args.won r.one_attempt (outcome_still (whole p) (whole r) c.args.won l c.requires.decided) c.make_idle.ensures.told in
    (whole r, withdrawn_none (whole p) (whole r) l, told.0, told.1, told.2)

pub returns-clause-clean : goal.returns-clause-clean
returns-clause-clean g c = λ i _ x at. let p = c.args.pass.now in let q = c.clear_listed.new.pass in let r = c.step_9-clock.new.pass in let n = c.step_9-clock.ensures in
    let l : HasLearnt (whole p) (whole r) = learnt_then (whole p) (whole q) (whole r) c.clear_listed.ensures.learnt (clock_learnt (whole q) (whole r) c.step_9-clock.result n.told n.learnt) in
    let told = cleared_so (whole r) (whole c.make_idle.new.pass) c.args.won r.one_attempt (outcome_still (whole p) (whole r) c.args.won l c.requires.decided) c.make_idle.ensures.told in
    let m : HasLearnt (whole q) (whole r) = clock_learnt (whole q) (whole r) c.step_9-clock.result n.told n.learnt in
    let before : get_elem? (listed r) i ≡ some x = subst (λ (k : List Place). get_elem? k i ≡ some x) (ap (λ v. v.items) c.make_idle.ensures.pass.1) at in
    let there : get_elem? (listed q) i ≡ some x = subst (λ (k : List Place). get_elem? k i ≡ some x) (ap (λ v. v.items) n.pass.1) before in
    subst (λ (w : Whole). Has w.view.notes (clean w.view.seat w.view.attempt.number x.node x.field)) (sym told.2)
    (clean_still q r i n.pass m (c.clear_listed.ensures.clean i (below_length (listed q) i x there)) x before)

pub returns-clause-clock : goal.returns-clause-clock
returns-clause-clock g c = let p = c.args.pass.now in let q = c.clear_listed.new.pass in let r = c.step_9-clock.new.pass in let n = c.step_9-clock.ensures in
    let l : HasLearnt (whole p) (whole r) = learnt_then (whole p) (whole q) (whole r) c.clear_listed.ensures.learnt (clock_learnt (whole q) (whole r) c.step_9-clock.result n.told n.learnt) in
    let told = cleared_so (whole r) (whole c.make_idle.new.pass) c.args.won r.one_attempt (outcome_still (whole p) (whole r) c.args.won l c.requires.decided) c.make_idle.ensures.told in
    subst (λ (w : Whole). Has w.knows.told (clock_was c.step_9-clock.result)) (sym told.2)
    (has_right (made_by told.0 (whole r).knows.slots.named (whole r).knows.slots.spare) (whole r).knows.told (clock_was c.step_9-clock.result) (clock_told (whole q) (whole r) c.step_9-clock.result c.step_9-clock.ensures.learnt))

pub returns-clause-covers : goal.returns-clause-covers
returns-clause-covers g c = λ x n b e past there. let l = c.clear_listed.ensures.learnt in c.step_9-clock.ensures.learnt.covers x n b e (l.told _ past) (l.told _ there)

pub returns-clause-last : goal.returns-clause-last
returns-clause-last g c = λ x h. c.step_9-clock.ensures.learnt.ended x (c.clear_listed.ensures.learnt.told _ h)
