-- The first of some visits that is of a node.
use Rattle.std.proofs.Common.{◌≡◌, ◌≢◌, ℕ, ◌+◌, ◌<◌, ◌≤◌, List, length, get_or, ⊎_elim, sym, ap, ◌∙◌, subst, arith}
use Rattle.std.proofs.lemmas.Bool.{cases_eq}
use mathlib.Core.Option.{some}
use lib.ListN.{get_elem?}
use Rattle.pc_rule_law.specs.Past.{Has}
use Rattle.pc_rule_law.proofs.Lists.{below_length}
use Rattle.pc_rule.specs.declared.visit.Visit.{Visit}
use Rattle.pc_rule.proofs.Calls.{read_at}
use Rattle.pc_rule.proofs.Starting.{element}
use Rattle.pc_path.specs.Losses.{IsFirstVisit}

-- none of the visits below a place is of this node
abbrev AreOthers : List Visit → ℕ → ℕ → Type 0
AreOthers visits place n = (i : ℕ) (v : Visit) → i < place → get_elem? visits i ≡ some v → v.node ≢ n

-- a visit of another node isn't the one that was given
pub not_passed : (visits : List Visit) (at place : ℕ) (d : Visit) → place ≤ at → (get_or visits place d).node ≢ (get_or visits at d).node → place + 1 ≤ at
not_passed visits at place d le other = ⊎_elim
    (λ same. absurd (other (ap (λ (i : ℕ). (get_or visits i d).node) same)))
    (λ ne. omega arith)
    (cases_eq place at)

pub more_others : (visits : List Visit) (place n : ℕ) (d : Visit) → (get_or visits place d).node ≢ n → AreOthers visits place n → AreOthers visits (place + 1) n
more_others visits place n d other before i v lt here = ⊎_elim
    (λ same. λ is. other (ap (λ (u : Visit). u.node) (read_at visits place v d (subst (λ (j : ℕ). get_elem? visits j ≡ some v) same here)) ∙ is))
    (λ ne. before i v (omega arith) here)
    (cases_eq i place)

pub first_at : (visits : List Visit) (at place : ℕ) (v d : Visit) → get_elem? visits at ≡ some v → place < length visits
    → (get_or visits place d).node ≡ (get_or visits at d).node → AreOthers visits place (get_or visits at d).node
    → IsFirstVisit visits v.node (get_or visits place d).version
first_at visits at place v d here lt same before =
    let node : (get_or visits at d).node ≡ v.node = ap (λ (u : Visit). u.node) (read_at visits at v d here) in record {
      place = place;
      at = element visits place d lt ∙ ap (λ (m : ℕ). some (record { node = m; version = (get_or visits place d).version })) (same ∙ node);
      before = λ i u below there is. before i u below there (is ∙ sym node);
    }

-- the visit at this place is of the node, and none before it is
pub first_of : (visits : List Visit) (place n : ℕ) (d : Visit) → place < length visits → (get_or visits place d).node ≡ n → AreOthers visits place n
    → IsFirstVisit visits n (get_or visits place d).version
first_of visits place n d lt is before = record {
  place = place;
  at = element visits place d lt ∙ ap (λ (m : ℕ). some (record { node = m; version = (get_or visits place d).version })) is;
  before = before;
}

-- none of all is
pub none_of : (visits : List Visit) (place n : ℕ) → length visits ≤ place → AreOthers visits place n → (v : Visit) → Has visits v → v.node ≢ n
none_of visits place n past before v has = let lt = below_length visits has.0 v has.1 in before has.0 v (omega arith) has.1
