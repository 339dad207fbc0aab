-- The withdrawal, where the attempt was undecided.
use Rattle.std.proofs.Common.{◌≡◌, ◌∙◌, refl, sym, subst, inr}
use Rattle.pc_words.specs.declared.status.Stage.TheVariants.{Undecided}
use Rattle.pc_words.specs.Statuses.{packed, unpacked}
use Rattle.pc_rule_law.specs.Past.{Has}
use Rattle.pc_exchange_law.specs.Ties.{code}
use Rattle.pc_protocol.specs.Histories.{withdrawn, aborted}
use Rattle.pc_protocol.specs.Notes.{verdict}
use Rattle.pc_rule.specs.Passes.{whole}
use Rattle.pc_kcas.proofs.Failing.{failure_seen}
use Rattle.pc_kcas.proofs.Learning.{withdrawn_by, decision_told}
use Rattle.pc_kcas.proofs.Standing.{stands_seen, not_undecided}
use Rattle.pc_kcas.proofs.deciding.withdraw.Goals as goal

pub returns-then-found-old-clause-withdrew : goal.returns-then-found-old-clause-withdrew
returns-then-found-old-clause-withdrew g c = let x = whole c.args.pass.now in let y = whole c.step_14_own-found.new.pass in
    withdrawn_by x y x.view.seat x.knows.own.number (verdict (code x.view.seat x.knows.own.number) (aborted withdrawn)) (c.step_14_own-found.ensures.told.hit c.if-found-old.true)

pub returns-then-found-old-clause-told : goal.returns-then-found-old-clause-told
returns-then-found-old-clause-told g c = let p = c.args.pass.now in let x = whole p in let y = whole c.step_14_own-found.new.pass in
    subst (λ n. Has y.knows.told (verdict (code x.view.seat n) (aborted withdrawn))) p.one_attempt.number
    (decision_told x y x.view.seat x.knows.own.number _ (verdict (code x.view.seat x.knows.own.number) (aborted withdrawn)) _ (c.step_14_own-found.ensures.told.hit c.if-found-old.true) refl)

pub returns-clause-settled : goal.returns-clause-settled
returns-clause-settled g c = let x = whole c.args.pass.now in let y = whole c.step_14_own-found.new.pass in let r = c.step_14_own-found.result in
    let m = c.step_14_own-found.ensures.told.miss c.if-found-old.false in
    rw c.unpack.ensures.status record {
      stands = stands_seen x y x.view.seat x.view.attempt.number (unpacked r) (inr (refl, c.requires.published.1, refl)) m.1 m.2;
      over = not_undecided r x.view.attempt.number m.0 (λ e. c.if-found-old.false (e ∙ sym (subst (λ n. c.pack-old.result ≡ packed (record { number = n; stage = Undecided })) c.attempts-number.ensures c.pack-old.ensures.packed)));
    }

pub returns-clause-failure : goal.returns-clause-failure
returns-clause-failure g c = let x = whole c.args.pass.now in let y = whole c.step_14_own-found.new.pass in let r = c.step_14_own-found.result in
    let m = c.step_14_own-found.ensures.told.miss c.if-found-old.false in
    rw c.unpack.ensures.status (failure_seen x y x.view.seat (unpacked r) m.2 m.4)
