-- What a trace that agrees with plain cells tells: words, of the kind that was asked for, and of nodes alone
-- where each ask on the way is for a node.
use Rattle.std.proofs.Common.{◌≡◌, ℕ, ◌^◌, ◌<◌, ◌==◌, ⊎_elim, List, [], ◌∷◌, Some, sym, ◌∙◌, subst, arith}
use Rattle.std.proofs.lemmas.Bool.{cases_eq, eq-eqb, ne_eqb, cond-true, cond-false}
use Rattle.pc_model.specs.declared.cell.Field.{Field}
use Rattle.pc_model.specs.declared.cell.Field.TheVariants.{Version as VersionField, Key, Value, Left, Right, Parent}
use Rattle.pc_model.specs.declared.cell.Field.TheVariants.{Height, Spare}
use Rattle.pc_model.specs.Cells.{Cells, IsEven, IsNode}
use Rattle.pc_plan.specs.declared.plan.Ask.{Ask}
use Rattle.pc_plan.specs.declared.plan.Ask.TheVariants.{Visit, Read, Change, Answer}
use Rattle.pc_plan.specs.declared.plan.Told.{Told}
use Rattle.pc_plan.specs.declared.plan.Told.TheVariants.{Begin, Version, Number}
use Rattle.pc_plan.specs.Lawful.{IsWord, AreWords}
use Rattle.pc_plan.specs.Traces.{Event, visited, found, learned, Tells, Fitting, after, learned_along, Agrees}
use Rattle.pc_plan.specs.Traces.{IsAnswered, version_seen}
use Rattle.pc_plan.proofs.Courses.{PastHolds}
use Rattle.pc_plain.specs.PlainCells.{limit, AreBelowLimits}

-- a number in a field fits a word
pub limit_small : (f : Field) (x : ℕ) → x < limit f → x < 2 ^ 62
limit_small VersionField x h = omega arith
limit_small Key x h = omega arith
limit_small Value x h = omega arith
limit_small Left x h = omega arith
limit_small Right x h = omega arith
limit_small Parent x h = omega arith
limit_small Height x h = omega arith
limit_small Spare x h = omega arith

tells_word : (c : Cells) (a : Ask) (t : Told) → AreBelowLimits c → Tells c a t → IsWord t
tells_word c (Visit n) (Version v) below tells =
    let small : c n VersionField < limit VersionField = below n VersionField in
    let is : c n VersionField ≡ v = tells.0 in
    omega arith
tells_word c (Visit n) Begin below tells = absurd tells
tells_word c (Visit n) (Number x) below tells = absurd tells
tells_word c (Read n f) (Number x) below tells =
    subst (λ (y : ℕ). y < 2 ^ 62) tells (limit_small f (c n f) (below n f))
tells_word c (Read n f) Begin below tells = absurd tells
tells_word c (Read n f) (Version v) below tells = absurd tells
tells_word c (Change p) t below tells = absurd tells
tells_word c (Answer r) t below tells = absurd tells

tells_kind : (c : Cells) (a : Ask) (t : Told) → Tells c a t → Fitting a t
tells_kind c (Visit n) (Version v) tells = tt
tells_kind c (Visit n) Begin tells = absurd tells
tells_kind c (Visit n) (Number x) tells = absurd tells
tells_kind c (Read n f) (Number x) tells = tt
tells_kind c (Read n f) Begin tells = absurd tells
tells_kind c (Read n f) (Version v) tells = absurd tells
tells_kind c (Change p) t tells = absurd tells
tells_kind c (Answer r) t tells = absurd tells

-- what is visited is a node
abbrev pub VisitsNode : ℕ → Ask → Type 0
VisitsNode slots (Visit n) = IsNode slots n
VisitsNode slots (Read n f) = Unit {0}
VisitsNode slots (Change p) = Unit {0}
VisitsNode slots (Answer r) = Unit {0}

-- all that were visited are nodes
abbrev pub AreNodes : ℕ → List Event → Type 0
AreNodes slots [] = Unit {0}
AreNodes slots (visited n v ∷ past) = IsNode slots n × AreNodes slots past
AreNodes slots (found n f x ∷ past) = AreNodes slots past

one_node_more : (slots : ℕ) (a : Ask) (t : Told) (past : List Event) → VisitsNode slots a → AreNodes slots past
    → AreNodes slots (learned a t past)
one_node_more slots (Visit n) (Version v) past node h = (node, h)
one_node_more slots (Visit n) Begin past node h = h
one_node_more slots (Visit n) (Number x) past node h = h
one_node_more slots (Read n f) Begin past node h = h
one_node_more slots (Read n f) (Version v) past node h = h
one_node_more slots (Read n f) (Number x) past node h = h
one_node_more slots (Change p) t past node h = h
one_node_more slots (Answer r) t past node h = h

module _ {P : Type 0} (moves : P → Told → P × Ask) (c : Cells) where
  pub told_words : (ts : List Told) (s : P × Ask) → AreBelowLimits c → Agrees moves c s ts → AreWords ts
  told_words [] s below agrees = tt
  told_words (t ∷ ts) s below agrees =
      (tells_word c s.1 t below agrees.0, told_words ts (moves s.0 t) below agrees.1)

  pub told_kinds : (ts : List Told) (s : P × Ask) → Agrees moves c s ts → IsAnswered moves s ts
  told_kinds [] s agrees = tt
  told_kinds (t ∷ ts) s agrees = (tells_kind c s.1 t agrees.0, told_kinds ts (moves s.0 t) agrees.1)

  pub visits_nodes : (slots : ℕ) (ts : List Told) (past : List Event) (s : P × Ask) → Agrees moves c s ts
      → ((us : List Told) → Agrees moves c s us → VisitsNode slots (after moves s us).1) → AreNodes slots past
      → AreNodes slots (learned_along moves past s ts)
  visits_nodes slots [] past s agrees asks h = h
  visits_nodes slots (t ∷ ts) past s agrees asks h =
      visits_nodes slots ts (learned s.1 t past) (moves s.0 t) agrees.1
      (λ us further. asks (t ∷ us) (agrees.0, further))
      (one_node_more slots s.1 t past (asks [] tt) h)

-- what is known of a node that was visited at a version
abbrev pub IsSeenNode : ℕ → Cells → ℕ → ℕ → Type 0
IsSeenNode slots c n v = IsNode slots n × (c n VersionField ≡ v) × IsEven v

-- a node that was visited is a node, and has the version that was told, which is even
pub seen_node : (slots : ℕ) (c : Cells) (past : List Event) (n v : ℕ) → AreNodes slots past → PastHolds c past
    → version_seen n past ≡ Some v → IsSeenNode slots c n v
seen_node slots c [] n v nodes holds seen = absurd (cc)
seen_node slots c (found m f x ∷ past) n v nodes holds seen = seen_node slots c past n v nodes holds.1 seen
seen_node slots c (visited m w ∷ past) n v nodes holds seen = ⊎_elim
    (λ same.
    let is : version_seen n (visited m w ∷ past) ≡ Some w
    = cond-true (m == n) (Some w) (version_seen n past) (eq-eqb m n same) in
    let said : Some w ≡ Some v = sym is ∙ seen in
    let at : w ≡ v = cc in
    let here : IsSeenNode slots c m w = (nodes.0, holds.0.0, holds.0.1) in
    subst (λ (k : ℕ). IsSeenNode slots c k v) same (subst (λ (x : ℕ). IsSeenNode slots c m x) at here))
    (λ other.
    let is : version_seen n (visited m w ∷ past) ≡ version_seen n past
    = cond-false (m == n) (Some w) (version_seen n past) (ne_eqb m n other) in
    seen_node slots c past n v nodes.1 holds.1 (sym is ∙ seen))
    (cases_eq m n)
