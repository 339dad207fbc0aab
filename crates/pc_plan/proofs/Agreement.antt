-- Standing is agreeing: where what a plan learned holds of some cells, what it was told agrees with them.
use Rattle.std.proofs.Common.{List, [], ◌∷◌}
use Rattle.pc_model.specs.Cells.{Cells}
use Rattle.pc_model.specs.Exchanges.{VisitsStand, ReadsStand}
use Rattle.pc_plan.specs.declared.plan.Ask.{Ask}
use Rattle.pc_plan.specs.declared.plan.Ask.TheVariants.{Visit, Read, Change, Answer}
use Rattle.pc_plan.specs.declared.plan.Told.{Told}
use Rattle.pc_plan.specs.declared.plan.Told.TheVariants.{Begin, Version, Number}
use Rattle.pc_plan.specs.Traces.{Event, visited, found, learned, Tells, Fitting, learned_along, Agrees, IsAnswered}
use Rattle.pc_plan.specs.Traces.{visits_in, reads_in}
use Rattle.pc_plan.specs.Fitting.{StandingIsAgreeing}
use Rattle.pc_plan.proofs.Courses.{PastHolds, visits_stand, reads_stand}

pub past_holds : (c : Cells) (past : List Event) → VisitsStand c (visits_in past) → ReadsStand c (reads_in past)
    → PastHolds c past
past_holds c [] v r = tt
past_holds c (visited n x ∷ past) v r = (v.0, past_holds c past v.1 r)
past_holds c (found n f x ∷ past) v r = (r.0, past_holds c past v r.1)

-- what was learned earlier holds too
holds_before : (c : Cells) (a : Ask) (t : Told) (past : List Event) → PastHolds c (learned a t past) → PastHolds c past
holds_before c (Visit n) (Version v) past h = h.1
holds_before c (Visit n) Begin past h = h
holds_before c (Visit n) (Number x) past h = h
holds_before c (Read n f) (Number x) past h = h.1
holds_before c (Read n f) Begin past h = h
holds_before c (Read n f) (Version v) past h = h
holds_before c (Change p) t past h = h
holds_before c (Answer r) t past h = h

tells_learned : (c : Cells) (a : Ask) (t : Told) (past : List Event) → Fitting a t → PastHolds c (learned a t past)
    → Tells c a t
tells_learned c (Visit n) (Version v) past fits h = h.0
tells_learned c (Visit n) Begin past fits h = absurd fits
tells_learned c (Visit n) (Number x) past fits h = absurd fits
tells_learned c (Read n f) (Number x) past fits h = h.0
tells_learned c (Read n f) Begin past fits h = absurd fits
tells_learned c (Read n f) (Version v) past fits h = absurd fits
tells_learned c (Change p) t past fits h = absurd fits
tells_learned c (Answer r) t past fits h = absurd fits

holds_learned : (c : Cells) (a : Ask) (t : Told) (past : List Event) → Tells c a t → PastHolds c past
    → PastHolds c (learned a t past)
holds_learned c (Visit n) (Version v) past tells h = (tells, h)
holds_learned c (Visit n) Begin past tells h = absurd tells
holds_learned c (Visit n) (Number x) past tells h = absurd tells
holds_learned c (Read n f) (Number x) past tells h = (tells, h)
holds_learned c (Read n f) Begin past tells h = absurd tells
holds_learned c (Read n f) (Version v) past tells h = absurd tells
holds_learned c (Change p) t past tells h = absurd tells
holds_learned c (Answer r) t past tells h = absurd tells

module _ {P : Type 0} (moves : P → Told → P × Ask) (c : Cells) where
  holds_first : (ts : List Told) (past : List Event) (s : P × Ask) → PastHolds c (learned_along moves past s ts)
      → PastHolds c past
  holds_first [] past s h = h
  holds_first (t ∷ ts) past s h = holds_before c s.1 t past (holds_first ts (learned s.1 t past) (moves s.0 t) h)

  -- what was told agrees with cells of which all that was learned holds
  pub agrees_by_past : (ts : List Told) (past : List Event) (s : P × Ask) → IsAnswered moves s ts
      → PastHolds c (learned_along moves past s ts) → Agrees moves c s ts
  agrees_by_past [] past s answered h = tt
  agrees_by_past (t ∷ ts) past s answered h = (
    tells_learned c s.1 t past answered.0 (holds_first ts (learned s.1 t past) (moves s.0 t) h),
    agrees_by_past ts (learned s.1 t past) (moves s.0 t) answered.1 h,
  )

  -- and the other way round
  pub past_by_agreeing : (ts : List Told) (past : List Event) (s : P × Ask) → Agrees moves c s ts → PastHolds c past
      → PastHolds c (learned_along moves past s ts)
  past_by_agreeing [] past s agrees h = h
  past_by_agreeing (t ∷ ts) past s agrees h = past_by_agreeing ts (learned s.1 t past) (moves s.0 t) agrees.1
      (holds_learned c s.1 t past agrees.0 h)

pub standing_is_agreeing : {P C : Type 0} (start : C → P) (moves : P → Told → P × Ask) → StandingIsAgreeing start moves
standing_is_agreeing start moves = record {
  change = λ c call ts p slot version asks stands.
      agrees_by_past moves c ts [] (moves (start call) Begin) asks.0 (past_holds c (learned_along moves []
      (moves (start call) Begin) ts) stands.visits stands.reads);
  answer = λ c call ts r asks stands.
      agrees_by_past moves c ts [] (moves (start call) Begin) asks.0 (past_holds c (learned_along moves []
      (moves (start call) Begin) ts) stands.visits stands.reads);
  agreeing = λ c call ts agrees.
      let h : PastHolds c (learned_along moves [] (moves (start call) Begin) ts) = past_by_agreeing moves c ts []
      (moves (start call) Begin) agrees tt in
      record {
        visits = visits_stand c (learned_along moves [] (moves (start call) Begin) ts) h;
        reads = reads_stand c (learned_along moves [] (moves (start call) Begin) ts) h;
        changes = tt;
        fresh = tt;
      };
}
