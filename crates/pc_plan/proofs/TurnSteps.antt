-- Turns one after another: where they lead, and that a plan which can go on still can after them.
use Rattle.std.proofs.Common.{◌≡◌, ℕ, ◌+◌, ◌≤◌, List, [], ◌∷◌, ◌++◌, length, Result, Ok, Err, IfOk, IfErr, refl, sym, ap}
use Rattle.std.proofs.Common.{◌∙◌, subst, length-append, arith}
use Rattle.pc_model.specs.Cells.{Cells}
use Rattle.pc_plan.specs.declared.plan.Ask.{Ask}
use Rattle.pc_plan.specs.declared.plan.End.{End}
use Rattle.pc_plan.specs.declared.plan.Told.{Told}
use Rattle.pc_plan.specs.declared.plan.Turn.{Turn}
use Rattle.pc_plan.specs.Asking.{asked}
use Rattle.pc_plan.specs.Planned.{Planned}
use Rattle.pc_plan.specs.Traces.{after, Agrees, Tells}
use Rattle.pc_plan.specs.Turns.{CanBeTold, CanGoOn, GoesOn, ComesFrom, last_ask}

-- what is told for whatever exchange is told for this one
pub told_for : (c : Cells) (turn : Turn) (p : Planned) (r : Result Told End)
    → IfOk r (λ told. (q : Planned) → Tells c (asked turn q) told) → IfOk r (Tells c (asked turn p))
told_for c turn p (Ok t) tells = tells p
told_for c turn p (Err end) tells = tt

pub ended_for : (turn : Turn) (p : Planned) (r : Result Told End)
    → IfErr r (λ end. (q : Planned) → asked turn q ≡ last_ask end q) → IfErr r (λ end. asked turn p ≡ last_ask end p)
ended_for turn p (Ok t) same = tt
ended_for turn p (Err end) same = same p

module _ {P : Type 0} (moves : P → Told → P × Ask) where
  pub after_append : (s : P × Ask) (ts us : List Told)
      → after moves s (ts ++ us) ≡ after moves (after moves s ts) us
  after_append s [] us = refl
  after_append s (t ∷ ts) us = after_append (moves s.0 t) ts us

  pub agrees_append : (c : Cells) (s : P × Ask) (ts us : List Told) → Agrees moves c s ts
      → Agrees moves c (after moves s ts) us → Agrees moves c s (ts ++ us)
  agrees_append c s [] us agrees further = further
  agrees_append c s (t ∷ ts) us agrees further =
      (agrees.0, agrees_append c (moves s.0 t) ts us agrees.1 further)

  -- no turn yet
  pub goes_at_first : (c : Cells) (plan : P) (told : Told) → GoesOn moves c (moves plan told) 0 plan told
  goes_at_first c plan told = record { trace = []; agrees = tt; leads = refl; long = omega arith }

  -- fewer turns are some, too
  pub goes_fewer : (c : Cells) (s : P × Ask) (m n : ℕ) (plan : P) (told : Told) → GoesOn moves c s m plan told
      → n ≤ m → GoesOn moves c s n plan told
  goes_fewer c s m n plan told goes few = record {
    trace = goes.trace;
    agrees = goes.agrees;
    leads = goes.leads;
    long = let long : m ≤ length goes.trace = goes.long in omega arith;
  }

  module _ (c : Cells) (s : P × Ask) (m : ℕ) (plan : P) (told : Told) (goes : GoesOn moves c s m plan told) where
    further_agrees : (us : List Told) → Agrees moves c (moves plan told) us
        → Agrees moves c s (goes.trace ++ us)
    further_agrees us agrees = agrees_append c s goes.trace us goes.agrees
        (subst (λ (x : P × Ask). Agrees moves c x us) goes.leads agrees)

    further_leads : (us : List Told) → after moves (moves plan told) us ≡ after moves s (goes.trace ++ us)
    further_leads us = ap (λ (x : P × Ask). after moves x us) goes.leads ∙ sym (after_append s goes.trace us)

    -- some turns, and then more
    pub goes_further : (n : ℕ) (plan' : P) (told' : Told) → GoesOn moves c (moves plan told) n plan' told'
        → GoesOn moves c s (m + n) plan' told'
    goes_further n plan' told' next = record {
      trace = goes.trace ++ next.trace;
      agrees = further_agrees next.trace next.agrees;
      leads = next.leads ∙ further_leads next.trace;
      long = let first : m ≤ length goes.trace = goes.long in let second : n ≤ length next.trace = next.long in
          omega (arith, length-append goes.trace next.trace);
    }

    -- some turns, and then the end
    pub comes_further : (ask : Ask) → ComesFrom moves c (moves plan told) ask → ComesFrom moves c s ask
    comes_further ask end = (
      goes.trace ++ end.0,
      further_agrees end.0 end.1,
      ap (λ (x : P × Ask). x.1) (sym (further_leads end.0))
          ∙ end.2,
    )

    -- the same of what a turn results in
    pub goes_on_by : {E : Type 0} (n : ℕ) (plan' : P) (r : Result Told E)
        → IfOk r (λ next. GoesOn moves c (moves plan told) n plan' next)
        → IfOk r (λ next. GoesOn moves c s (m + n) plan' next)
    goes_on_by n plan' (Ok next) h = goes_further n plan' next h
    goes_on_by n plan' (Err end) h = tt

    pub ends_by : {E : Type 0} (last : E → Ask) (r : Result Told E)
        → IfErr r (λ end. ComesFrom moves c (moves plan told) (last end))
        → IfErr r (λ end. ComesFrom moves c s (last end))
    ends_by last (Ok next) h = tt
    ends_by last (Err end) h = comes_further (last end) h

    -- a plan that can go on still can after some turns
    pub can_further : (slots : ℕ) → CanGoOn moves slots c s → CanGoOn moves slots c (moves plan told)
    can_further slots can us agrees =
        subst (λ (x : P × Ask). CanBeTold slots c x.1) (sym (further_leads us))
        (can (goes.trace ++ us) (further_agrees us agrees))

  -- After a trace that agrees with the cells the plan has this state and asks this. Told what stands in them it goes
  -- on, or it has ended.
  module _ (c : Cells) (s : P × Ask) (ts : List Told) (agrees : Agrees moves c s ts) (plan : P) (ask : Ask)
      (is : ◌≡◌ {A = P × Ask} (plan, ask) (after moves s ts)) where
    pub can_be_told : (slots : ℕ) → CanGoOn moves slots c s → CanBeTold slots c ask
    can_be_told slots can = subst (λ (x : P × Ask). CanBeTold slots c x.1) (sym is) (can ts agrees)

    pub goes_by : (t : Told) → Tells c ask t → GoesOn moves c s 1 plan t
    goes_by t tells = record {
      trace = ts ++ t ∷ [];
      agrees = agrees_append c s ts (t ∷ []) agrees (subst (λ (x : P × Ask). Tells c x.1 t) is tells, tt);
      leads = ap (λ (x : P × Ask). moves x.0 t) is ∙ sym (after_append s ts (t ∷ []));
      long = omega (arith, length-append ts (t ∷ []));
    }

    pub goes_if_told : {E : Type 0} (r : Result Told E) → IfOk r (Tells c ask) → IfOk r (GoesOn moves c s 1 plan)
    goes_if_told (Ok t) tells = goes_by t tells
    goes_if_told (Err end) tells = tt

    pub ends_if_ended : {E : Type 0} (last : E → Ask) (r : Result Told E) → IfErr r (λ end. ask ≡ last end)
        → IfErr r (λ end. ComesFrom moves c s (last end))
    ends_if_ended last (Ok t) same = tt
    ends_if_ended last (Err end) same = (ts, agrees, ap (λ (x : P × Ask). x.1) (sym is) ∙ same)
