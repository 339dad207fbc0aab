-- What a status that was found, or put, tells of the failure of its attempt.
use Rattle.std.proofs.Common.{ℕ, sym, ap, ◌∙◌, subst, ⊎_elim}
use Rattle.pc_words.specs.declared.status.Stage.{Stage as StatusStage}
use Rattle.pc_words.specs.declared.status.Status.{Status}
use Rattle.pc_rule_law.specs.Past.{Has}
use Rattle.pc_rule_law.specs.Stages.{IsIdle, IsOpen}
use Rattle.pc_rule_law.specs.Views.{View}
use Rattle.pc_protocol.specs.Histories.{Stage}
use Rattle.pc_protocol.specs.Notes.{Note, verdict}
use Rattle.pc_exchange_law.specs.Attempts.{OwnAttempt}
use Rattle.pc_exchange_law.specs.Knowing.{StatusSeen}
use Rattle.pc_exchange_law.specs.Ties.{code, IsStageOf}
use Rattle.pc_exchange_law.specs.WholePlays.{OwnVerdict, verdict_by}
use Rattle.pc_exchange_law.specs.Wholes.{Whole}
use Rattle.pc_kcas.specs.Settling.{HasLearnt, MaySettle, TellsFailure}

-- of a status that was found
pub failure_seen : (x y : Whole) (p : ℕ) (s : Status) → StatusSeen x.knows p s y.knows → OwnVerdict x p s y → TellsFailure x y p s
failure_seen x y p s seen own = record {
  changed = seen.outdated;
  locked = seen.locked;
  ended = λ is at number kept.
      let v = seen.decided (subst (λ (st : StatusStage). IsIdle st → ⊥) (sym is) (λ i. i)) (subst (λ (st : StatusStage). IsOpen st → ⊥) (sym is) (λ o. o)) in
      ⊎_elim (λ e. absurd (own at kept number v.0 v.2 e)) (λ e. subst (λ (st : Stage). Has y.knows.told (verdict (code p s.number) st)) e v.2)
      (subst (λ (st : StatusStage). IsStageOf st v.0) is v.1);
}

-- of one that was put
pub failure_put : (x y : Whole) (p a : ℕ) (st : StatusStage) → MaySettle x p a st → ((n : Note) → Has x.knows.told n → Has y.knows.told n)
    → Has y.knows.told (verdict (code p a) (verdict_by st)) → TellsFailure x y p (record { number = a; stage = st })
failure_put x y p a st may more has = record {
  changed = λ n is. more _ (subst (MaySettle x p a) is may);
  locked = λ n q is. absurd (subst (MaySettle x p a) is may);
  ended = λ is _ _ _. subst (λ (t : StatusStage). Has y.knows.told (verdict (code p a) (verdict_by t))) is has;
}

-- it tells so of what was known before
pub failure_before : (x y z : Whole) (p : ℕ) (s : Status) → HasLearnt x y → TellsFailure y z p s → TellsFailure x z p s
failure_before x y z p s l f = record {
  changed = f.changed;
  locked = λ n q is. let r = f.locked n q is in record { other = r.other; clock = r.clock; rival = r.rival; of = λ e d h. r.of e d (l.told _ h) };
  ended = λ is at number kept. f.ended is (at ∙ sym (ap (λ (v : View). v.seat) l.view.same)) (number ∙ sym (ap (λ (o : OwnAttempt). o.number) l.own))
      (ap (λ (o : OwnAttempt). o.withdrew) l.own ∙ kept);
}
