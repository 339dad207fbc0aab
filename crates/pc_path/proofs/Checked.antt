-- The check of a visit: what it asks for, and what a version tells that was found.
use Rattle.std.proofs.Common.{◌≡◌, ◌≢◌, ℕ, suc, ◌+◌, ◌≤◌, List, [], ◌∷◌, length, get_or, map, drop, add-one, ⊎_elim, refl, sym, ap, ◌∙◌, subst, arith}
use Rattle.std.proofs.Math.Seq.{drop-cons}
use Rattle.std.proofs.lemmas.Bool.{cases_eq, cases_lt}
use Rattle.std.proofs.lemmas.Grind.{common_steps}
use mathlib.Core.Option.{some, some-injective}
use lib.ListN.{get_elem?}
use Rattle.pc_model.specs.declared.cell.Field.TheVariants.{Version}
use Rattle.pc_model.specs.declared.shape.Shape.{Ghosts}
use Rattle.pc_model.specs.Exchanges.{Visited}
use Rattle.pc_words.specs.declared.word.WordKind.TheVariants.{Plain}
use Rattle.pc_words.specs.Words.{kind}
use Rattle.pc_history.specs.Footprints.{IsAmong}
use Rattle.pc_rule_law.specs.Past.{Has}
use Rattle.pc_rule_law.proofs.Lists.{below_length, element_at}
use Rattle.pc_protocol.specs.Notes.{in_run}
use Rattle.pc_exchange_law.specs.Passes.{PassKnows}
use Rattle.pc_exchange_law.specs.Paths.{Path, read_of, with_stamp, with_left, MayCheck}
use Rattle.pc_exchange_law.specs.Wholes.{Whole}
use Rattle.pc_exchange_law.specs.WholePlays.{CellSeen, PathChecked}
use Rattle.pc_rule.specs.declared.board.Pass.{Pass}
use Rattle.pc_rule.specs.declared.refs.RefKind.{RefKind}
use Rattle.pc_rule.specs.declared.refs.RefKind.TheVariants.{Install as AnInstall, Exchange as AnExchange}
use Rattle.pc_rule.specs.declared.visit.Visit.{Visit}
use Rattle.pc_rule.specs.Passes.{whole, visits}
use Rattle.pc_rule.specs.Walking.{visited_of, VersionsRise}
use Rattle.pc_rule.proofs.Calls.{read_at}
use Rattle.pc_rule.proofs.Walking.{among_held}
use Rattle.pc_dcss.specs.Installs.{word_of}
use Rattle.pc_path.specs.Checks.{IsCheckedBy, IsCheckedTo, IsAfterVisits}
use Rattle.pc_path.specs.Finds.{HasFound}
use Rattle.pc_path.specs.Losses.{IsFirstVisit, HasChanged}

-- ---- a reference checks nothing

not_plain : (k : RefKind) (s m v : ℕ) → word_of k s m ≢ Plain v
not_plain AnInstall s m v is = absurd (cc)
not_plain AnExchange s m v is = absurd (cc)

pub reference_checks_none : (p : Path) (n r : ℕ) (q : Path) (k : PassKnows) → MayCheck p n → PathChecked p r q k → (j : RefKind) (s m : ℕ)
    → kind r ≡ word_of j s m → q ≡ p
reference_checks_none p n r q k may c j s m is = c.fails may.visit may.others may.next (λ plain. not_plain j s m may.visit.version (sym is ∙ plain))

-- ---- what a version tells

module _ {H : Type 0} {S : Ghosts H} where
  pub is_after : (p : Pass H S) (y : Whole) (n r w : ℕ) → CellSeen (whole p) n Version r y → kind r ≡ Plain w → IsAfterVisits (visits p) n w
  is_after p y n r w seen plain v has here = seen.after_visits (visited_of v) w refl plain
      (subst (λ (u : Visit). IsAmong (visited_of u) (whole p).path.visits) (read_at (visits p) has.0 v v has.1)
      (among_held (visits p) (whole p).path p.walking.visits has.0 v (below_length (visits p) has.0 v has.1))) here

-- ---- the next visit

rest_of : (visits : List Visit) (i : ℕ) (v : Visit) → get_elem? visits i ≡ some v
    → map visited_of (drop i visits) ≡ visited_of v ∷ map visited_of (drop (suc i) visits)
rest_of visits i v at = ap (map visited_of) (drop-cons visits i v (below_length visits i v at))
    ∙ ap (λ (u : Visit). visited_of u ∷ map visited_of (drop (suc i) visits)) (read_at visits i v v at)

pub may_check : (p : Path) (s : ℕ) (visits : List Visit) (i : ℕ) (q : Path) (k : PassKnows) (v : Visit) → get_elem? visits i ≡ some v
    → IsCheckedTo p s visits i q k → MayCheck q v.node
may_check p s visits i q k v at c = let e : q ≡ with_left (with_stamp p s) (map visited_of (drop i visits)) = c.more (below_length visits i v at) in record {
  stamp = s;
  drawn = ap (λ (u : Path). u.stamp) e;
  visit = visited_of v;
  others = map visited_of (drop (suc i) visits);
  next = ap (λ (u : Path). u.left) e ∙ rest_of visits i v at;
  at_node = refl;
}

none_after : (visits : List Visit) (i : ℕ) → length visits ≤ i → map visited_of (drop i visits) ≡ []
none_after visits i le = let none : drop i visits ≡ [] = grind (arith, common_steps) in ap (map visited_of) none

module _ (p : Path) (s : ℕ) (visits : List Visit) (i : ℕ) (q : Path) (k : PassKnows) (v : Visit) (at : get_elem? visits i ≡ some v)
    (c : IsCheckedTo p s visits i q k) (q' : Path) (k' : PassKnows) (by : IsCheckedBy q v.version q' k') where
  here : q ≡ with_left (with_stamp p s) (map visited_of (drop i visits))
  here = c.more (below_length visits i v at)

  left_now : q.left ≡ visited_of v ∷ map visited_of (drop (suc i) visits)
  left_now = ap (λ (u : Path). u.left) here ∙ rest_of visits i v at

  passes_on : (u : Visit) → get_elem? visits (suc i) ≡ some u → q' ≡ with_left (with_stamp p s) (map visited_of (drop (suc i) visits))
  passes_on u next = let more = rest_of visits (suc i) u next in
      by.2.passes (visited_of v) (visited_of u) (map visited_of (drop (suc (suc i)) visits)) (left_now ∙ ap (λ (l : List Visited). visited_of v ∷ l) more) by.1
      ∙ (ap (λ (w : Path). with_left w (visited_of u ∷ map visited_of (drop (suc (suc i)) visits))) here
      ∙ ap (with_left (with_stamp p s)) (sym more))

  takes_now : length visits ≤ suc i → Has k'.told (in_run s (read_of p))
  takes_now le = subst (λ (e : Path). Has k'.told (in_run s (read_of e))) here
      (by.2.takes s (visited_of v) (ap (λ (u : Path). u.stamp) here) (left_now ∙ ap (λ (l : List Visited). visited_of v ∷ l) (none_after visits (suc i) le)) by.1).1

  pub checked_more : IsCheckedTo p s visits (i + 1) q' k'
  checked_more = record {
    more = λ lt. let e = element_at visits (suc i) (omega arith) in
        subst (λ (j : ℕ). q' ≡ with_left (with_stamp p s) (map visited_of (drop j visits))) (sym (add-one i)) (passes_on e.0 e.1);
    done = λ le. takes_now (omega arith);
  }

-- ---- a version that is greater

module _ (visits : List Visit) (i : ℕ) (v : Visit) (at : get_elem? visits i ≡ some v) (rising : VersionsRise visits) where
  -- the first visit of a node had no greater version than a later one
  first_least : (seen : ℕ) → IsFirstVisit visits v.node seen → seen ≤ v.version
  first_least seen first = let there : get_or visits first.place v ≡ record { node = v.node; version = seen } =
      read_at visits first.place (record { node = v.node; version = seen }) v first.at in
      let now : get_or visits i v ≡ v = read_at visits i v v at in
      ⊎_elim
      (λ before. let least = rising first.place i v before (below_length visits i v at) (ap (λ (u : Visit). u.node) there ∙ sym (ap (λ (u : Visit). u.node) now)) in
      let a : (get_or visits first.place v).version ≡ seen = ap (λ (u : Visit). u.version) there in
      let b : (get_or visits i v).version ≡ v.version = ap (λ (u : Visit). u.version) now in omega arith)
      (λ le. ⊎_elim
      (λ same. let one : record { node = v.node; version = seen } ≡ v = some-injective (record { node = v.node; version = seen }) v
      (sym first.at ∙ (ap (get_elem? visits) same ∙ at)) in let e : seen ≡ v.version = ap (λ (u : Visit). u.version) one in omega arith)
      (λ other. absurd (first.before i v (omega arith) at refl))
      (cases_eq first.place i))
      (cases_lt first.place i)

  pub has_changed : (x y : Whole) (seen w : ℕ) → IsFirstVisit visits v.node seen → IsAfterVisits visits v.node w → w ≢ v.version
      → HasFound x y v.node Version w → HasChanged visits y v.node seen
  has_changed x y seen w first after other found = let told = found.seen.seen.version w refl found.plain in record {
    first = first;
    now = w;
    above = (let least = first_least seen first in let le = after v (i, at) refl in omega arith);
    moment = told.0;
    noted = told.1;
  }
