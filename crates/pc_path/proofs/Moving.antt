-- Visits of one node that gave one version, or different ones.
use Rattle.std.proofs.Common.{◌≡◌, ◌≢◌, ℕ, ◌+◌, ◌<◌, ◌≤◌, List, length, get_or, ⊎_elim, refl, sym, ap, ◌∙◌, subst, arith}
use Rattle.std.proofs.lemmas.Bool.{cases_eq, cases_order}
use mathlib.Core.Option.{some, some-injective}
use lib.ListN.{get_elem?}
use Rattle.pc_model.specs.declared.cell.Field.TheVariants.{Version}
use Rattle.pc_rule_law.specs.Past.{Has}
use Rattle.pc_rule_law.proofs.Lists.{below_length}
use Rattle.pc_rule.specs.declared.opening.Place.{Place}
use Rattle.pc_rule.specs.declared.visit.Visit.{Visit}
use Rattle.pc_rule.specs.Walking.{VersionsRise}
use Rattle.pc_rule.proofs.Calls.{read_at}
use Rattle.pc_rule.proofs.Starting.{element}
use Rattle.pc_kcas.specs.Locks.{CanLock}
use Rattle.pc_path.specs.Adds.{AreFromVisits, AreAtOneVersion}
use Rattle.pc_path.specs.Losses.{IsFirstVisit, WasSeenToMove}

-- the visits below a place gave what the first ones of their nodes gave
abbrev pub AreAsFirst : List Visit → ℕ → Type 0
AreAsFirst visits at = (i : ℕ) (v : Visit) → i < at → get_elem? visits i ≡ some v → IsFirstVisit visits v.node v.version

pub first_more : (visits : List Visit) (at : ℕ) (d : Visit) → at < length visits → IsFirstVisit visits (get_or visits at d).node (get_or visits at d).version
    → AreAsFirst visits at → AreAsFirst visits (at + 1)
first_more visits at d lt here before i v below is = ⊎_elim
    (λ same. subst (λ (u : Visit). IsFirstVisit visits u.node u.version) (read_at visits at v d (subst (λ (j : ℕ). get_elem? visits j ≡ some v) same is)) here)
    (λ ne. before i v (omega arith) is)
    (cases_eq i at)

-- the first visit of a node isn't behind another one of it
not_behind : (visits : List Visit) (at n seen : ℕ) (v : Visit) → get_elem? visits at ≡ some v → v.node ≡ n → (first : IsFirstVisit visits n seen) → first.place ≤ at
not_behind visits at n seen v here node first = ⊎_elim
    (λ same. omega arith)
    (λ ne. ⊎_elim (λ before. absurd (first.before at v before here node)) (λ after. omega arith) ne)
    (cases_order at first.place)

pub seen_to_move : (visits : List Visit) (at seen : ℕ) (v : Visit) → VersionsRise visits → get_elem? visits at ≡ some v → v.version ≢ seen
    → IsFirstVisit visits v.node seen → WasSeenToMove visits v.node seen
unfolding not_behind
seen_to_move visits at seen v rise here differs first = record {
  first = first;
  again = v;
  among = (at, here);
  node = refl;
  above = ⊎_elim
      (λ same. absurd (differs (sym (ap (λ (u : Visit). u.version) (some-injective _ v (sym first.at ∙ (ap (get_elem? visits) same ∙ here)))))))
      (λ ne. let le = not_behind visits at v.node seen v here refl first in
      let lt : first.place < at = omega arith in
      let u : Visit = record { node = v.node; version = seen } in
      let one = read_at visits first.place u v first.at in let two = read_at visits at v v here in
      let r = rise first.place at v lt (below_length visits at v here) (ap (λ (w : Visit). w.node) one ∙ sym (ap (λ (w : Visit). w.node) two)) in
      let a = ap (λ (w : Visit). w.version) one in let b = ap (λ (w : Visit). w.version) two in
      omega arith)
      (cases_eq first.place at);
}

-- a node has one first visit
one_first : (visits : List Visit) (n seen other : ℕ) → IsFirstVisit visits n seen → IsFirstVisit visits n other → seen ≡ other
one_first visits n seen other a b = ⊎_elim
    (λ same. ap (λ (u : Visit). u.version) (some-injective _ _ (sym a.at ∙ (ap (get_elem? visits) same ∙ b.at))))
    (λ ne. ⊎_elim
    (λ (lt : a.place < b.place). absurd (b.before a.place (record { node = n; version = seen }) lt a.at refl))
    (λ (lt : b.place < a.place). absurd (a.before b.place (record { node = n; version = other }) lt b.at refl)) ne)
    (cases_order a.place b.place)

pub at_one_version : (visits : List Visit) (at : ℕ) → length visits ≤ at → AreAsFirst visits at → AreAtOneVersion visits
unfolding one_first
at_one_version visits at past all u v one two same = let lt = below_length visits one.0 u one.1 in let lt' = below_length visits two.0 v two.1 in
    one_first visits v.node u.version v.version (subst (λ (n : ℕ). IsFirstVisit visits n u.version) same (all one.0 u (omega arith) one.1)) (all two.0 v (omega arith) two.1)

-- so the visits can be locked beside words whose versions change from visited ones
pub can_lock : (visits : List Visit) (places : List Place) → length places ≤ 24 → AreFromVisits visits places → AreAtOneVersion visits → CanLock visits places
can_lock visits places few from once = record {
  few = few;
  listed = λ v p has h node version. let r = from p h version in sym r.3 ∙ once r.0 v r.1 has (r.2 ∙ node);
  once = once;
}
