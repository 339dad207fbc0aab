-- The least version of a node that an exchange covers.
use Rattle.std.proofs.Common.{◌≡◌, ◌≢◌, ◌⊎◌, ⊎_elim, inl, inr, ℕ, ◌+◌, ◌*◌, ◌<◌, ◌≤◌, List, length, map, get_or, Option, Some, None, Result, Ok, Err, IfOk, IfErr, IfSome, IfNone, refl, sym, ap, ◌∙◌, subst, arith}
use Rattle.std.proofs.lemmas.Bool.{cases_eq, cases_order}
use Rattle.std.proofs.lemmas.List.{length-map}
use Rattle.std.proofs.lemmas.List.Sorted.{IsPermutation-sym}
use Rattle.std.specs.List.Sorted.{IsPermutation}
use mathlib.Core.Option.{some}
use lib.ListN.{get_elem?}
use Rattle.pc_model.specs.declared.cell.Field.{Field}
use Rattle.pc_model.specs.declared.cell.Field.TheVariants.{Version}
use Rattle.pc_model.specs.declared.shape.Shape.{Ghosts}
use Rattle.pc_rule_law.specs.Board.{place_number}
use Rattle.pc_rule_law.specs.Past.{Has}
use Rattle.pc_rule_law.specs.Views.{word_in}
use Rattle.pc_rule_law.proofs.Lists.{below_length, element_at}
use Rattle.pc_rule_law.proofs.Places.{one_word}
use Rattle.pc_exchange_law.specs.Wholes.{Whole}
use Rattle.pc_rule.specs.declared.board.Pass.{Pass}
use Rattle.pc_rule.specs.declared.opening.Place.{Place}
use Rattle.pc_rule.specs.declared.visit.Visit.{Visit}
use Rattle.pc_rule.specs.Listed.{word_number}
use Rattle.pc_rule.specs.Passes.{view, listed, visits}
use Rattle.pc_rule.specs.Starting.{change_of}
use Rattle.pc_rule.specs.Walking.{VersionsRise}
use Rattle.pc_rule.proofs.Calls.{read_at}
use Rattle.pc_rule.proofs.Starting.{element}
use Rattle.pc_kcas.specs.declared.verdict.Verdict.{Verdict}
use Rattle.pc_kcas.specs.declared.verdict.Verdict.TheVariants.{Won, Changed as NodeChanged, Locked as NodeLocked, Blocked as WasStuck, Numbers as HadNoNumber}
use Rattle.pc_kcas.specs.Exchanges.{IsPublished, CoversNode}
use Rattle.pc_kcas.specs.Verdicts.{IfChanged as IfNodeChanged}
use Rattle.pc_kcas.proofs.Attempts.{listed_as, has_in_order}
use Rattle.pc_path.specs.declared.lost.Lost.{Lost}
use Rattle.pc_path.specs.declared.lost.Lost.TheVariants.{Changed, Locked, Blocked, Numbers as OutOfNumbers}
use Rattle.pc_path.specs.Exchanges.{IsListedFrom, IsCovered, WasSeen, IsPast}
use Rattle.pc_path.specs.Losses.{IsFirstVisit, IfChanged}

-- ---- the version in a list

-- the version of the node is none of the words below a place
abbrev pub IsNotBelow : List Place → ℕ → ℕ → Type 0
IsNotBelow places i n = (k : ℕ) (p : Place) → k < i → get_elem? places k ≡ some p → word_number p ≢ 8 * n

pub more_below : (places : List Place) (i n : ℕ) (d : Place) → word_number (get_or places i d) ≢ 8 * n → IsNotBelow places i n → IsNotBelow places (i + 1) n
more_below places i n d other before k p lt at = ⊎_elim
    (λ (same : k ≡ i). λ is. other (ap word_number (read_at places i p d (subst (λ (j : ℕ). get_elem? places j ≡ some p) same at)) ∙ is))
    (λ ne. before k p (omega arith) at)
    (cases_eq k i)

pub listed_here : (places : List Place) (i n : ℕ) (d : Place) → i < length places → word_number (get_or places i d) ≡ 8 * n → IsListedFrom places n (get_or places i d).old
listed_here places i n d lt is = let p = get_or places i d in
    let same : place_number p.node p.field ≡ place_number n Version = is ∙ (let e : 8 * n ≡ place_number n Version = omega arith in e) in
    let w = one_word p.node n p.field Version same in (p, (i, element places i d lt), w.0, w.1, refl)

pub none_listed : (places : List Place) (i n : ℕ) → length places ≤ i → IsNotBelow places i n → (p : Place) → Has places p → p.node ≡ n → p.field ≡ Version → ⊥
none_listed places i n past before p h node field = let lt = below_length places h.0 p h.1 in
    before h.0 p (omega arith) h.1 (ap (λ (m : ℕ). place_number m p.field) node ∙ (ap (place_number n) field ∙ (let e : place_number n Version ≡ 8 * n = omega arith in e)))

-- ---- the least one

-- the first visit of a node gave the least version of it
first_least : (visits : List Visit) (n seen : ℕ) → VersionsRise visits → IsFirstVisit visits n seen → (v : Visit) → Has visits v → v.node ≡ n → seen ≤ v.version
first_least visits n seen rise first v h node =
    let u : Visit = record { node = n; version = seen } in let one = read_at visits first.place u v first.at in let two = read_at visits h.0 v v h.1 in ⊎_elim
    (λ (same : h.0 ≡ first.place). let e = ap (λ (w : Visit). w.version) (sym two ∙ (ap (λ (j : ℕ). get_or visits j v) same ∙ one)) in omega arith)
    (λ ne. ⊎_elim
    (λ (before : h.0 < first.place). absurd (first.before h.0 v before h.1 node))
    (λ (after : first.place < h.0). let r = rise first.place h.0 v after (below_length visits h.0 v h.1) (ap (λ (w : Visit). w.node) one ∙ sym (ap (λ (w : Visit). w.node) two ∙ node)) in
    let a = ap (λ (w : Visit). w.version) one in let b = ap (λ (w : Visit). w.version) two in omega arith) ne)
    (cases_order h.0 first.place)

-- what the least one of two is, of a first visit and of a listed version
module _ (seen_visits : List Visit) (places : List Place) (n : ℕ) (rise : VersionsRise seen_visits) (once : (p q : Place) → Has places p → Has places q → p.node ≡ n → q.node ≡ n
    → p.field ≡ Version → q.field ≡ Version → p.old ≡ q.old) where
  pub was_seen : (visited old : Option ℕ) (seen : ℕ)
      → IfSome visited (IsFirstVisit seen_visits n) → IfNone visited ((v : Visit) → Has seen_visits v → v.node ≢ n)
      → IfSome old (IsListedFrom places n) → IfNone old ((p : Place) → Has places p → p.node ≡ n → p.field ≡ Version → ⊥)
      → (visited ≡ Some seen) ⊎ (old ≡ Some seen) → IfSome visited (λ w. seen ≤ w) × IfSome old (λ w. seen ≤ w) → WasSeen seen_visits places n seen
  unfolding first_least
  was_seen visited old seen first no_visit from not_listed one below = record {
    from = ⊎_elim (λ e. inl (subst (λ o. IfSome o (IsFirstVisit seen_visits n)) e first)) (λ e. inr (subst (λ o. IfSome o (IsListedFrom places n)) e from)) one;
    visited = by_visit visited first no_visit below.0;
    listed = by_word old from not_listed below.1;
  }
    where
      by_visit : (o : Option ℕ) → IfSome o (IsFirstVisit seen_visits n) → IfNone o ((v : Visit) → Has seen_visits v → v.node ≢ n) → IfSome o (λ w. seen ≤ w)
          → (v : Visit) → Has seen_visits v → v.node ≡ n → seen ≤ v.version
      by_visit (Some w) first no_visit le v h node = let r = first_least seen_visits n w rise first v h node in omega arith
      by_visit None first no_visit le v h node = absurd (no_visit v h node)

      by_word : (o : Option ℕ) → IfSome o (IsListedFrom places n) → IfNone o ((p : Place) → Has places p → p.node ≡ n → p.field ≡ Version → ⊥) → IfSome o (λ w. seen ≤ w)
          → (p : Place) → Has places p → p.node ≡ n → p.field ≡ Version → seen ≤ p.old
      by_word (Some w) from not_listed le p h node field = let e = once from.0 p from.1 h from.2 node from.3 field in let f = from.4 in omega arith
      by_word None from not_listed le p h node field = absurd (not_listed p h node field)

-- where none of the two is there, the node was neither visited nor listed
pub no_visit : (seen_visits : List Visit) (n : ℕ) (o : Option ℕ) → o ≡ None → IfNone o ((v : Visit) → Has seen_visits v → v.node ≡ n → ⊥) → (v : Visit) → Has seen_visits v → v.node ≡ n → ⊥
no_visit seen_visits n o is none = subst (λ (r : Option ℕ). IfNone r ((v : Visit) → Has seen_visits v → v.node ≡ n → ⊥)) is none

pub no_word : (places : List Place) (n : ℕ) (o : Option ℕ) → o ≡ None → IfNone o ((p : Place) → Has places p → p.node ≡ n → p.field ≡ Version → ⊥)
    → (v : ℕ) → IsListedFrom places n v → ⊥
no_word places n o is none v from = subst (λ (r : Option ℕ). IfNone r ((p : Place) → Has places p → p.node ≡ n → p.field ≡ Version → ⊥)) is none from.0 from.1 from.2 from.3

-- ---- the node is covered

module _ {H : Type 0} {S : Ghosts H} where
  pub is_covered : (p : Pass H S) (n : ℕ) → IsPublished p → CoversNode (view p) n → IsCovered (visits p) (listed p) n
  is_covered p n has covers = ⊎_elim
      (λ change. let at = element_at (listed p) change.0 (subst (λ k. change.0 < k) (has.0.describes.changes ∙ length-map (listed p) change_of) change.1) in let x : Place = at.0 in
      let w = one_word x.node n x.field Version (sym (has.0.describes.each_change change.0 (change_of x) (listed_as (listed p) change.0 x at.1)).0 ∙ change.2) in
      inr (x.old, (x, (change.0, at.1), w.0, w.1, refl)))
      (λ visit. let within = has.2.within in let lt = visit.1 in let at = element_at (visits p) visit.0 (omega arith) in let v : Visit = at.0 in
      inl (v, (visit.0, at.1), sym (has.2.each visit.0 v visit.1 at.1).0 ∙ visit.2))
      covers

  pub covered_if : (p : Pass H S) (r : Verdict) → IsPublished p → IfNodeChanged r (CoversNode (view p)) → IfNodeChanged r (IsCovered (visits p) (listed p))
  unfolding is_covered
  covered_if p (Won s) has h = tt
  covered_if p (NodeChanged n) has h = is_covered p n has h
  covered_if p (NodeLocked n by) has h = tt
  covered_if p (WasStuck first second) has h = tt
  covered_if p (HadNoNumber n) has h = tt

-- ---- in another order of the words

seen_again : (seen_visits : List Visit) (old new : List Place) (n seen : ℕ) → IsPermutation old new → WasSeen seen_visits new n seen → WasSeen seen_visits old n seen
seen_again seen_visits old new n seen same was = record {
  from = ⊎_elim (λ first. inl first)
      (λ l. inr (l.0, has_in_order new old (IsPermutation-sym old new same) l.0 l.1, l.2, l.3, l.4)) was.from;
  visited = was.visited;
  listed = λ p h. was.listed p (has_in_order old new same p h);
}

changed_so : (y : Whole) (seen_visits : List Visit) (old new : List Place) (e : Lost) → IsPermutation old new → IfChanged e (IsPast seen_visits new y) → IfChanged e (IsPast seen_visits old y)
unfolding seen_again
changed_so y seen_visits old new (Changed n seen) same is = (is.0, seen_again seen_visits old new n seen same is.1)
changed_so y seen_visits old new (Locked n by) same is = tt
changed_so y seen_visits old new (Blocked first second) same is = tt
changed_so y seen_visits old new (OutOfNumbers k) same is = tt

pub changed_again : (y : Whole) (seen_visits : List Visit) (old new : List Place) (a : Result ℕ Lost) → IsPermutation old new → IfErr a (λ e. IfChanged e (IsPast seen_visits new y))
    → IfErr a (λ e. IfChanged e (IsPast seen_visits old y))
unfolding changed_so
changed_again y seen_visits old new (Ok s) same is = tt
changed_again y seen_visits old new (Err e) same is = changed_so y seen_visits old new e same is

-- each word is listed once, so a version too
pub once_listed : {H : Type 0} {S : Ghosts H} (p : Pass H S) (n : ℕ) (q r : Place) → Has (listed p) q → Has (listed p) r → q.node ≡ n → r.node ≡ n → q.field ≡ Version → r.field ≡ Version → q.old ≡ r.old
once_listed p n q r one two at_q at_r field_q field_r = ⊎_elim
    (λ (same : one.0 ≡ two.0). ap (λ (x : Place). x.old) (sym (read_at (listed p) one.0 q q one.1) ∙ (ap (λ (j : ℕ). get_or (listed p) j q) same ∙ read_at (listed p) two.0 r q two.1)))
    (λ ne. ⊎_elim
    (λ (lt : one.0 < two.0). absurd (p.listing.apart one.0 two.0 q lt (below_length (listed p) two.0 r two.1) (number_q ∙ sym number_r)))
    (λ (lt : two.0 < one.0). absurd (p.listing.apart two.0 one.0 q lt (below_length (listed p) one.0 q one.1) (number_r ∙ sym number_q))) ne)
    (cases_order one.0 two.0)
  where
    number_q : word_number (get_or (listed p) one.0 q) ≡ place_number n Version
    number_q = ap word_number (read_at (listed p) one.0 q q one.1) ∙ (ap (λ (m : ℕ). place_number m q.field) at_q ∙ ap (place_number n) field_q)

    number_r : word_number (get_or (listed p) two.0 q) ≡ place_number n Version
    number_r = ap word_number (read_at (listed p) two.0 r q two.1) ∙ (ap (λ (m : ℕ). place_number m r.field) at_r ∙ ap (place_number n) field_r)
