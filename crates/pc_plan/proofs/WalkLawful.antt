-- What holds of a walk whatever it is told: the fact about its state, its ask and what it learned that
-- each of its steps keeps, for every plan that begins with it.
use Rattle.std.proofs.Common.{◌≡◌, ◌≢◌, ℕ, ◌^◌, ◌<◌, ◌==◌, ◌⊎◌, inl, inr, ⊎_elim, false, List, [], ◌∷◌, Option, Some}
use Rattle.std.proofs.Common.{None, refl, sym, ap, ◌∙◌, subst, arith}
use Rattle.std.specs.Prelude.{IsSome}
use Rattle.std.proofs.lemmas.Bool.{cases_Bool, eqb-false, or_parts, cond-true, cond-false, cond_both}
use Rattle.pc_model.specs.declared.cell.Field.{Field}
use Rattle.pc_model.specs.declared.cell.Field.TheVariants.{Key as KeyField}
use Rattle.pc_model.specs.Cells.{node_at}
use Rattle.pc_model.specs.Debts.{has}
use Rattle.pc_model.proofs.Links.{node_at-some}
use Rattle.pc_plan.specs.declared.plan.Ask.{Ask}
use Rattle.pc_plan.specs.declared.plan.Ask.TheVariants.{Visit as AskVisit, Read as AskRead, Change as AskChange}
use Rattle.pc_plan.specs.declared.plan.Ask.TheVariants.{Answer as AskAnswer}
use Rattle.pc_plan.specs.declared.plan.Told.{Told}
use Rattle.pc_plan.specs.declared.plan.Told.TheVariants.{Begin, Version, Number}
use Rattle.pc_model.specs.declared.cell.Side.{Side}
use Rattle.pc_model.specs.declared.cell.Side.TheVariants.{Left}
use Rattle.pc_plan.specs.declared.walk.Above.{Above}
use Rattle.pc_plan.specs.declared.walk.Awaited.{Awaited}
use Rattle.pc_plan.specs.declared.walk.Awaited.TheVariants.{Begin as ToBegin, Version as AVersion, Key as AKey, Choice}
use Rattle.pc_plan.specs.declared.walk.Awaited.TheVariants.{Link}
use Rattle.pc_plan.specs.declared.walk.Walk.{Walk}
use Rattle.pc_plan.specs.declared.walk.Step.{Step}
use Rattle.pc_plan.specs.declared.walk.Step.TheVariants.{Visit, Read, Here, Missing, Astray}
use Rattle.pc_plan.specs.Traces.{Event, visited, found, learned, version_seen, number_seen, reads_since_visit}
use Rattle.pc_plan.specs.Lawful.{WasToldOf, IsWord, IsLawfulAsk}
use Rattle.pc_model.specs.Sides.{link_of}
use Rattle.pc_plan.specs.Walks.{at_version, reading_link, arriving, left_by, descending, following, on_way, way}
use Rattle.pc_plan.specs.Walks.{step_at, walk_step}
use Rattle.pc_plan.proofs.Learning.{version_seen-here, version_seen-else, number_seen-here, number_seen-visit}
use Rattle.pc_plan.proofs.Learning.{number_seen-else, is_some-seen, side_is_link}

-- a node doesn't lead back: it is none of those that were met
pub not_met : (n m : ℕ) (met : List ℕ) → has n (m ∷ met) ≡ false → (n ≢ m) × (has n met ≡ false)
not_met n m met e =
    let parts : ((m == n) ≡ false) × (has n met ≡ false) = or_parts (m == n) (has n met) e in
    (λ same. eqb-false m n parts.0 (sym same), parts.1)

-- the version of the node above was told, and that its link names this node, another one
pub record ToldAbove (past : List Event) (a : Above) (n : ℕ) : Type 0 where
  pub seen : version_seen a.node past ≡ Some a.version
  pub small : a.version < 2 ^ 60
  pub link : number_seen a.node (link_of a.side) past ≡ Some n
  pub apart : n ≢ a.node

-- the walk has come to a node that it visited at this version
pub record HasCome (past : List Event) (w : Walk) : Type 0 where
  pub seen : version_seen w.node past ≡ Some w.version
  pub small : w.version < 2 ^ 60

-- and by a link of the node above
pub record HasComeBelow (past : List Event) (w : Walk) : Type 0 where
  pub come : HasCome past w
  pub above : ToldAbove past w.above w.node

-- what holds where a walk has made a step
abbrev pub StepStands : List Event → Walk → Step → Type 0
StepStands past w (Visit n) = (w.awaited ≡ AVersion) × (w.node ≡ n)
    × ((n ≡ 1) ⊎ ((n ≢ 0) × WasToldOf n past × ToldAbove past w.above n))
StepStands past w (Read n f) = (w.node ≡ n) × HasCome past w
    × (((w.awaited ≡ AKey) × (f ≡ KeyField) × (reads_since_visit past ≡ 0) × ToldAbove past w.above w.node)
    ⊎ ((s : Side) × (w.awaited ≡ Link s) × (f ≡ link_of s) × (reads_since_visit past < 8)))
StepStands past w (Here x) = HasComeBelow past w × (number_seen w.node KeyField past ≡ Some x) × (reads_since_visit
    past ≡ 1)
StepStands past w (Missing s link) = HasCome past w × (number_seen w.node (link_of s) past ≡ Some link)
StepStands past w Astray = Unit {0}

-- the walk waits for the answer to this ask
abbrev pub Waits : List Event → Walk → Ask → Type 0
Waits past w (AskVisit n) = StepStands past w (Visit n)
Waits past w (AskRead n f) = StepStands past w (Read n f)
Waits past w _ = ⊥

-- a statement about what a walk's step gives
abbrev pub After : List Event → Walk × Step → Type 0
After past s = StepStands past s.0 s.1

-- what was told of a node above stays told where another node is visited or read
pub above_visit : (past : List Event) (a : Above) (n m v : ℕ) → m ≢ a.node → ToldAbove past a n
    → ToldAbove (visited m v ∷ past) a n
above_visit past a n m v ne h = record {
  seen = version_seen-else a.node m v past ne ∙ h.seen;
  small = h.small;
  link = number_seen-visit a.node (link_of a.side) m v past ne ∙ h.link;
  apart = h.apart;
}

pub above_read : (past : List Event) (a : Above) (n m : ℕ) (f : Field) (x : ℕ) → m ≢ a.node → ToldAbove past a n
    → ToldAbove (found m f x ∷ past) a n
above_read past a n m f x ne h = record {
  seen = h.seen;
  small = h.small;
  link = number_seen-else a.node (link_of a.side) m f x past ne ∙ h.link;
  apart = h.apart;
}

pub come_read : (past : List Event) (w : Walk) (m : ℕ) (f : Field) (x : ℕ) → HasCome past w
    → HasCome (found m f x ∷ past) w
come_read past w m f x h = record { seen = h.seen; small = h.small }

-- and where the node itself is read
pub below_read : (past : List Event) (w : Walk) (f : Field) (x : ℕ) → HasComeBelow past w
    → HasComeBelow (found w.node f x ∷ past) w
below_read past w f x h = record {
  come = come_read past w w.node f x h.come;
  above = above_read past w.above w.node w.node f x h.above.apart h.above;
}

arrived : (past : List Event) (w : Walk) (n v : ℕ) → w.node ≡ n → v < 2 ^ 60
    → (n ≡ 1) ⊎ ((n ≢ 0) × WasToldOf n past × ToldAbove past w.above n)
    → After (visited n v ∷ past) (arriving w v)
arrived past w n v e small told =
    let here : version_seen w.node (visited n v ∷ past) ≡ Some v = ap (λ (x : ℕ). version_seen x (visited n v ∷ past))
    e ∙ version_seen-here n v past in
    let come : (a : Awaited) → HasCome (visited n v ∷ past) (at_version w v a) = λ a. record {
      seen = here;
      small
          = small;
    } in
    let by_link : Walk × Step = reading_link (at_version w v w.awaited) Left in
    let by_key : Walk × Step = (at_version w v AKey, Read w.node KeyField) in
    ⊎_elim
    (λ root. subst (After (visited n v ∷ past)) (sym (cond-true (w.node == 1) by_link by_key root))
    (refl, come (Link Left), inr (Left, refl, refl, omega arith)))
    (λ other. let not_1 : w.node ≢ 1 = eqb-false w.node 1 other in
    let above : ToldAbove past w.above n = ⊎_elim (λ one. absurd (not_1 (e ∙ one))) (λ h. h.2) told in
    let still : ToldAbove (visited n v ∷ past) w.above w.node = subst (ToldAbove (visited n v ∷ past) w.above) (sym e)
    (above_visit past w.above n n v above.apart above) in
    subst (After (visited n v ∷ past)) (sym (cond-false (w.node == 1) by_link by_key other))
    (refl, come AKey, inl (refl, refl, refl, still)))
    (cases_Bool (w.node == 1))

met : (past : List Event) (w : Walk) (n x : ℕ) → w.node ≡ n → HasCome past w → reads_since_visit past ≡ 0
    → ToldAbove past w.above w.node
    → After (found n KeyField x ∷ past) (walk_step (record {
      key = w.key;
      node = w.node;
      awaited = AKey;
      version = w.version;
      above = w.above;
    }) (Number x))
met past w n x e come none above = (
  record {
    come = record { seen = come.seen; small = come.small };
    above = above_read past w.above w.node n KeyField x (λ d. above.apart (e ∙ d)) above;
  },
  ap (λ (y : ℕ). number_seen y KeyField (found n KeyField x ∷ past)) e ∙ number_seen-here n KeyField x past,
  omega arith,
)

followed : (past : List Event) (w : Walk) (n x : ℕ) (s : Side) → w.node ≡ n → HasCome past w → (o : Option ℕ)
    → node_at x ≡ o
    → After (found n (link_of s) x ∷ past) (following w s x o)
followed past w n x s e come None named = (
  record { seen = come.seen; small = come.small },
  ap (λ (y : ℕ). number_seen y (link_of s)
      (found n (link_of s) x ∷ past)) e ∙ number_seen-here n (link_of s) x past,
)
followed past w n x s e come (Some m) named =
    let parts : (x ≡ m) × (m ≢ 0) = node_at-some x m named in
    let past1 : List Event = found n (link_of s) x ∷ past in
    ⊎_elim
    (λ back. subst (After past1) (sym (cond-true (has m (w.node ∷ 1 ∷ [])) (w, Astray) (descending w s m) back)) tt)
    (λ new. let other : m ≢ w.node = (not_met m w.node (1 ∷ []) new).0 in
    let above : ToldAbove past1 (left_by w s) m = record {
      seen = come.seen;
      small = come.small;
      link = ap (λ (y : ℕ). number_seen y (link_of s) past1) e ∙ number_seen-here n (link_of s) x past
          ∙ ap Some parts.0;
      apart = other;
    } in
    subst (After past1) (sym (cond-false (has m (w.node ∷ 1 ∷ [])) (w, Astray) (descending w s m) new))
    (refl, refl, inr (parts.1, inl (side_is_link s, parts.0), above)))
    (cases_Bool (has m (w.node ∷ 1 ∷ [])))

-- told something, a walk that waits makes a step that stands
pub walk_stands : (past : List Event) (w : Walk) (a : Ask) (t : Told) → IsWord t → Waits past w a
    → After (learned a t past) (walk_step w t)
walk_stands past w (AskVisit n) (Version v) small h =
    subst (After (visited n v ∷ past)) (sym (ap (λ (x : Awaited). step_at w x (Version v)) h.0))
    (arrived past w n v h.1 small h.2)
walk_stands past w (AskVisit n) Begin small h = subst (After past) (sym (ap (λ (x : Awaited). step_at w x Begin) h.0))
    tt
walk_stands past w (AskVisit n) (Number x) small h = subst (After past)
    (sym (ap (λ (y : Awaited). step_at w y (Number x)) h.0)) tt
walk_stands past w (AskRead n f) (Number x) small h = ⊎_elim
    (λ key. subst (After (found n f x ∷ past)) (sym (ap (λ (y : Awaited). step_at w y (Number x)) key.0))
    (subst (λ (g : Field). After (found n g x ∷ past) (step_at w AKey (Number x))) (sym key.1) (met past w n x h.0 h.1
    key.2 key.3)))
    (λ link. subst (After (found n f x ∷ past)) (sym (ap (λ (y : Awaited). step_at w y (Number x)) link.1))
    (subst (λ (g : Field). After (found n g x ∷ past) (step_at w (Link link.0) (Number x))) (sym link.2)
    (followed past w n x link.0 h.0 h.1 (node_at x) refl))) h.2
walk_stands past w (AskRead n f) Begin small h = ⊎_elim
    (λ key. subst (After past) (sym (ap (λ (y : Awaited). step_at w y Begin) key.0)) tt)
    (λ link. subst (After past) (sym (ap (λ (y : Awaited). step_at w y Begin) link.1)) tt) h.2
walk_stands past w (AskRead n f) (Version v) small h = ⊎_elim
    (λ key. subst (After past) (sym (ap (λ (y : Awaited). step_at w y (Version v)) key.0)) tt)
    (λ link. subst (After past) (sym (ap (λ (y : Awaited). step_at w y (Version v)) link.1)) tt) h.2
walk_stands past w (AskChange p) t small h = absurd h
walk_stands past w (AskAnswer r) t small h = absurd h

-- what a waiting walk asks is lawful
pub waits_lawful : (past : List Event) (w : Walk) (a : Ask) → Waits past w a → IsLawfulAsk past a
waits_lawful past w (AskVisit n) h = ⊎_elim (λ one. inl one) (λ told. inr (told.0, told.1)) h.2
waits_lawful past w (AskRead n f) h =
    let few : reads_since_visit past < 8 = ⊎_elim (λ key. let z : reads_since_visit past ≡ 0 = key.2 in
    omega arith) (λ link. link.3) h.2 in
    (subst (λ (x : ℕ). IsSome (version_seen x past)) h.0 (is_some-seen w.node w.version past h.1.seen), few)
waits_lawful past w (AskChange p) h = absurd h
waits_lawful past w (AskAnswer r) h = absurd h

-- a walk that goes on from a node waits for its link
pub goes_on : (past : List Event) (w : Walk) (x : ℕ) → HasCome past w → reads_since_visit past < 8
    → Waits past (on_way w x) (AskRead w.node (way w x))
goes_on past w x come few = (refl, record { seen = come.seen; small = come.small }, inr (_, refl, refl, few))

-- no step of a walk changes its key

follow_keeps_key : (w : Walk) (s : Side) (x : ℕ) (o : Option ℕ) → (following w s x o).0.key ≡ w.key
follow_keeps_key w s x None = refl
follow_keeps_key w s x (Some n) = cond_both (has n (w.node ∷ 1 ∷ [])) (w, Astray) (descending w s n)
    (λ (y : Walk × Step). y.0.key ≡ w.key) (λ _. refl) (λ _. refl)

step_keeps_key : (w : Walk) (a : Awaited) (t : Told) → (step_at w a t).0.key ≡ w.key
step_keeps_key w ToBegin Begin = refl
step_keeps_key w ToBegin (Version v) = refl
step_keeps_key w ToBegin (Number x) = refl
step_keeps_key w AVersion Begin = refl
step_keeps_key w AVersion (Version v) =
    cond_both (w.node == 1) (reading_link (at_version w v w.awaited) Left) (at_version w v AKey, Read w.node KeyField)
    (λ (y : Walk × Step). y.0.key ≡ w.key) (λ _. refl) (λ _. refl)
step_keeps_key w AVersion (Number x) = refl
step_keeps_key w AKey Begin = refl
step_keeps_key w AKey (Version v) = refl
step_keeps_key w AKey (Number x) = refl
step_keeps_key w Choice t = refl
step_keeps_key w (Link s) Begin = refl
step_keeps_key w (Link s) (Version v) = refl
step_keeps_key w (Link s) (Number x) = follow_keeps_key w s x (node_at x)

pub walk_keeps_key : (w : Walk) (t : Told) → (walk_step w t).0.key ≡ w.key
walk_keeps_key w t = step_keeps_key w w.awaited t
