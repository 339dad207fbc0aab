-- What holds of a search whatever it is told: what it asks is lawful.
use Rattle.std.proofs.Common.{◌≡◌, ℕ, inl, ◌==◌, List, [], ◌∷◌, refl, sym, subst, arith}
use Rattle.std.proofs.lemmas.Bool.{cond_both}
use Rattle.pc_model.specs.declared.call.Reply.{Reply}
use Rattle.pc_model.specs.declared.call.Reply.TheVariants.{None as Nothing, Pair}
use Rattle.pc_model.specs.declared.cell.Field.TheVariants.{Value as ValueField}
use Rattle.pc_model.specs.declared.cell.Side.{Side}
use Rattle.pc_model.specs.Map.{IsKey, pair_or_nothing}
use Rattle.pc_plan.specs.declared.plan.Ask.{Ask}
use Rattle.pc_plan.specs.declared.plan.Ask.TheVariants.{Visit as AskVisit, Read as AskRead, Answer}
use Rattle.pc_plan.specs.declared.plan.Told.{Told}
use Rattle.pc_plan.specs.declared.plan.Told.TheVariants.{Begin, Version, Number}
use Rattle.pc_plan.specs.declared.walk.Step.{Step}
use Rattle.pc_plan.specs.declared.walk.Step.TheVariants.{Visit, Read, Here, Missing, Astray}
use Rattle.pc_plan.specs.Traces.{Event, found, learned, after, learned_along, reads_since_visit}
use Rattle.pc_plan.specs.Lawful.{IsWord, IsLawfulAsk, IsLawful}
use Rattle.pc_plan.specs.Walks.{walk_step}
use Rattle.pc_plan.proofs.Learning.{kept_along, is_some-seen}
use Rattle.pc_plan.proofs.WalkLawful.{HasCome, StepStands, Waits, walk_stands, waits_lawful, goes_on, come_read}
use Rattle.pc_order.specs.declared.search.Search.{Search}
use Rattle.pc_order.specs.declared.search.SearchPhase.{SearchPhase}
use Rattle.pc_order.specs.declared.search.SearchPhase.TheVariants.{Walking, Reading, Ended}
use Rattle.pc_order.specs.Searches.{is_on, search_of, with_walk, ended, going_on, reading_value, walked, remembered}
use Rattle.pc_order.specs.Searches.{remembering, search_told, search_moves}

-- what holds of a search in this phase that waits for the answer to this ask
abbrev pub InPhase : List Event → Search → Ask → SearchPhase → Type 0
InPhase past s a Walking = Waits past s.walk a
InPhase past s a Reading =
    (a ≡ AskRead s.walk.node ValueField) × HasCome past s.walk × (reads_since_visit past ≡ 1)
InPhase past s a Ended = (r : Reply) × (a ≡ Answer r)

-- what each step of a search keeps
abbrev pub Keeps : List Event → Search × Ask → Type 0
Keeps past s = InPhase past s.0 s.1 s.0.phase

module _ (past : List Event) (s : Search) (walking : s.phase ≡ Walking) where
  waits : (a : Ask) → Waits past s.walk a → Keeps past (s, a)
  waits a h = subst (InPhase past s a) (sym walking) h

  walk_keeps : (step : Step) → StepStands past s.walk step → Keeps past (walked s step)
  walk_keeps (Visit n) h = waits (AskVisit n) h
  walk_keeps (Read n f) h = waits (AskRead n f) h
  walk_keeps (Here x) h =
      let one : reads_since_visit past ≡ 1 = h.2 in
      cond_both (is_on s.side s.walk.key x) (reading_value s x) (going_on s x) (Keeps past)
      (λ _. (refl, h.0.come, one))
      (λ _. subst (InPhase past (going_on s x).0 (going_on s x).1) (sym walking)
      (goes_on past s.walk x h.0.come (omega arith)))
  walk_keeps (Missing side link) h = (pair_or_nothing s.nearest, refl)
  walk_keeps Astray h = (Nothing, refl)

remember_keeps : (past : List Event) (s : Search) (v : ℕ) → HasCome past s.walk → reads_since_visit past ≡ 1
    → Keeps (found s.walk.node ValueField v ∷ past) (remembering s v)
remember_keeps past s v come one =
    let past1 : List Event = found s.walk.node ValueField v ∷ past in
    let kept : Search = remembered s v in
    cond_both (s.met == s.walk.key) (ended kept (Pair s.met v)) (going_on kept s.met) (Keeps past1)
    (λ _. (Pair s.met v, refl))
    (λ _. goes_on past1 s.walk s.met (come_read past s.walk s.walk.node ValueField v come) (omega arith))

told_keeps : (past : List Event) (s : Search) (a : Ask) (phase : SearchPhase) (t : Told) → IsWord t
    → s.phase ≡ phase → InPhase past s a phase → Keeps (learned a t past) (search_told s phase t)
told_keeps past s a Walking t word is h =
    walk_keeps (learned a t past) (with_walk s (walk_step s.walk t).0) is (walk_step s.walk t).1
    (walk_stands past s.walk a t word h)
told_keeps past s a Reading (Number v) word is h =
    subst (λ (b : Ask). Keeps (learned b (Number v) past) (remembering s v)) (sym h.0)
    (remember_keeps past s v h.1 h.2)
told_keeps past s a Reading Begin word is h = (Nothing, refl)
told_keeps past s a Reading (Version v) word is h = (Nothing, refl)
told_keeps past s a Ended t word is h = (Nothing, refl)

search_keeps : (past : List Event) (s : Search × Ask) (t : Told) → IsWord t → Keeps past s
    → Keeps (learned s.1 t past) (search_moves s.0 t)
search_keeps past s t word h = told_keeps past s.0 s.1 s.0.phase t word refl h

keeps_lawful : (past : List Event) (s : Search) (a : Ask) (phase : SearchPhase) → InPhase past s a phase
    → IsLawfulAsk past a
keeps_lawful past s a Walking h = waits_lawful past s.walk a h
keeps_lawful past s a Reading h =
    let one : reads_since_visit past ≡ 1 = h.2 in
    subst (IsLawfulAsk past) (sym h.0) (is_some-seen s.walk.node s.walk.version past h.1.seen, omega arith)
keeps_lawful past s a Ended h = subst (IsLawfulAsk past) (sym h.1) tt

pub search_lawful : (side : Side) → IsLawful (search_of side) search_moves IsKey
search_lawful side = record {
  first = λ k key. refl;
  asks = λ k ts key words.
      let begun : Search × Ask = search_moves (search_of side k) Begin in
      let last : Search × Ask = after search_moves begun ts in
      let past : List Event = learned_along search_moves [] begun ts in
      keeps_lawful past last.0 last.1 last.0.phase
      (kept_along search_moves Keeps search_keeps ts [] begun words (refl, refl, inl refl));
}
