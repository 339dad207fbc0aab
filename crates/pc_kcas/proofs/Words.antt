-- The words that a pass stores in its descriptor, one change after another.
use Rattle.std.proofs.Common.{◌≡◌, ◌≢◌, ℕ, ◌+◌, ◌*◌, ◌<◌, ◌≤◌, refl, List, length, get_or, sym, ap, ◌∙◌, subst, arith}
use mathlib.Core.Logic.{dite}
use mathlib.Core.Option.{some, some-injective}
use lib.ListN.{get_elem?}
use native.Mathlib.Decide.{ℕ_discrete}
use Rattle.std.proofs.lemmas.Bool.Decides.{nat_tests}
use Rattle.pc_exchange_law.specs.Passes.{PassKnows}
use Rattle.pc_rule_law.specs.Past.{visits_begin}
use Rattle.pc_rule_law.specs.Views.{View}
use Rattle.pc_rule.specs.declared.opening.Place.{Place}
use Rattle.pc_rule.specs.declared.visit.Visit.{Visit}
use Rattle.pc_rule.specs.Listed.{word_number}
use Rattle.pc_rule.proofs.Starting.{element}
use Rattle.pc_kcas.specs.Exchanges.{ListsTo, VisitsTo, SameBelow, OnlyWrote, OnlyStored, with_word, with_counts, with_change, with_visit_words}

-- a word that stands already is as if it had been stored
same_word : (f : ℕ → ℕ) (place x k : ℕ) → f place ≡ x → f k ≡ with_word f place x k
same_word f place x k is = dite (ℕ_discrete k place)
    (λ same. ap f same ∙ is ∙ sym (at_place same))
    (λ other. sym (elsewhere other))
  where
    at_place : k ≡ place → with_word f place x k ≡ x
    at_place same = grind (arith, nat_tests)

    elsewhere : k ≢ place → with_word f place x k ≡ f k
    elsewhere other = grind (arith, nat_tests)

pub stands_already : (f : ℕ → ℕ) (place x : ℕ) → f place ≡ x → f ≡ with_word f place x
stands_already f place x is = λ i k. same_word f place x k is i

-- of three words that were stored each is what it is, and the others are what they were
three_words : (f : ℕ → ℕ) (a b c x y z k : ℕ) → b ≡ a + 1 → c ≡ a + 2
    → (k ≡ a → with_word (with_word (with_word f a x) b y) c z k ≡ x)
    × (k ≡ b → with_word (with_word (with_word f a x) b y) c z k ≡ y)
    × (k ≡ c → with_word (with_word (with_word f a x) b y) c z k ≡ z)
    × (k ≢ a → k ≢ b → k ≢ c → with_word (with_word (with_word f a x) b y) c z k ≡ f k)
three_words f a b c x y z k eb ec = (
  (λ e. grind (arith, nat_tests)),
  (λ e. grind (arith, nat_tests)),
  (λ e. grind (arith, nat_tests)),
  (λ na nb nc. grind (arith, nat_tests)),
)

pub three_written : (f g h k : ℕ → ℕ) (a b c x y z : ℕ) → g ≡ with_word f a x → h ≡ with_word g b y → k ≡ with_word h c z
    → k ≡ with_word (with_word (with_word f a x) b y) c z
three_written f g h k a b c x y z first second third =
    third ∙ ap (λ (w : ℕ → ℕ). with_word w c z) (second ∙ ap (λ (w : ℕ → ℕ). with_word w b y) first)

-- the words of the changes so far, and one more
module _ (m n : ℕ) (places : List Place) (f : ℕ → ℕ) (i : ℕ) (p : Place) where
  here : (k : ℕ) → (k ≡ 3 + 3 * i → with_change f i p k ≡ word_number p)
      × (k ≡ 4 + 3 * i → with_change f i p k ≡ p.old)
      × (k ≡ 5 + 3 * i → with_change f i p k ≡ p.new)
      × (k ≢ 3 + 3 * i → k ≢ 4 + 3 * i → k ≢ 5 + 3 * i → with_change f i p k ≡ f k)
  here k = three_words f (3 + 3 * i) (4 + 3 * i) (5 + 3 * i) (word_number p) p.old p.new k (omega arith) (omega arith)

  pub lists_next : ListsTo m n places f i → get_elem? places i ≡ some p → ListsTo m n places (with_change f i p) (i + 1)
  unfolding here
  lists_next so at = record {
    mode = (here 0).3 (omega arith) (omega arith) (omega arith) ∙ so.mode;
    changes = (here 1).3 (omega arith) (omega arith) (omega arith) ∙ so.changes;
    visits = (here 2).3 (omega arith) (omega arith) (omega arith) ∙ so.visits;
    each = λ j q lt at_q. dite (ℕ_discrete j i)
        (λ (same : j ≡ i). let e : p ≡ q = some-injective p q (sym at ∙ (ap (get_elem? places) (sym same) ∙ at_q)) in (
          (here (3 + 3 * j)).0 (omega arith) ∙ ap word_number e,
          (here (4 + 3 * j)).1 (omega arith) ∙ ap (λ (r : Place). r.old) e,
          (here (5 + 3 * j)).2 (omega arith) ∙ ap (λ (r : Place). r.new) e,
        ))
        (λ (other : j ≢ i). let s = so.each j q (omega arith) at_q in (
          (here (3 + 3 * j)).3 (omega arith) (omega arith) (omega arith) ∙ s.0,
          (here (4 + 3 * j)).3 (omega arith) (omega arith) (omega arith) ∙ s.1,
          (here (5 + 3 * j)).3 (omega arith) (omega arith) (omega arith) ∙ s.2,
        ));
  }

none_listed : (m n : ℕ) (places : List Place) (f : ℕ → ℕ) → ListsTo m n places (with_counts f m (length places) n) 0
none_listed m n places f = record {
  mode = (three_words f 0 1 2 m (length places) n 0 (omega arith) (omega arith)).0 (omega arith);
  changes = (three_words f 0 1 2 m (length places) n 1 (omega arith) (omega arith)).1 (omega arith);
  visits = (three_words f 0 1 2 m (length places) n 2 (omega arith) (omega arith)).2 (omega arith);
  each = λ j q lt at. absurd (omega arith);
}

pub lists_none : (m n : ℕ) (places : List Place) (f g : ℕ → ℕ) (count : ℕ) → count ≡ length places → g ≡ with_counts f m count n → ListsTo m n places g 0
lists_none m n places f g count all is =
    subst (λ (w : ℕ → ℕ). ListsTo m n places w 0) (sym (is ∙ ap (λ (k : ℕ). with_counts f m k n) all)) (none_listed m n places f)

-- a pass that stored words, and more, stored words
pub only_then : (v u w : View) → OnlyWrote v u → OnlyWrote u w → OnlyWrote v w
only_then v u w first second = second ∙ ap (λ (x : View). record x { attempt = record x.attempt { words = w.attempt.words } }) first

pub stored_then : (k u k' : PassKnows) → OnlyStored k u → OnlyStored u k' → OnlyStored k k'
stored_then k u k' first second = second ∙ ap (λ (x : PassKnows). record x { own = record x.own { words = k'.own.words } }) first

-- one change more is stored, as it is read from the list
pub lists_written : (m n : ℕ) (old now new : List Place) (f g : ℕ → ℕ) (i : ℕ) (d : Place) → now ≡ old → new ≡ old → i < length now
    → ListsTo m n old f i → g ≡ with_change f i (get_or now i d) → ListsTo m n new g (i + 1)
lists_written m n old now new f g i d is same lt so e =
    let at : get_elem? old i ≡ some (get_or now i d) = subst (λ (l : List Place). get_elem? l i ≡ some (get_or now i d)) is (element now i d lt) in
    subst (λ (l : List Place). ListsTo m n l g (i + 1)) (sym same)
    (subst (λ (w : ℕ → ℕ). ListsTo m n old w (i + 1)) (sym e) (lists_next m n old f i (get_or now i d) so at))

-- ---- the words of visits, behind those of the changes

-- of two words that were stored each is what it is, and the others are what they were
two_words : (f : ℕ → ℕ) (a b x y k : ℕ) → b ≡ a + 1
    → (k ≡ a → with_word (with_word f a x) b y k ≡ x) × (k ≡ b → with_word (with_word f a x) b y k ≡ y)
    × (k ≢ a → k ≢ b → with_word (with_word f a x) b y k ≡ f k)
two_words f a b x y k e = (
  (λ at. grind (arith, nat_tests)),
  (λ at. grind (arith, nat_tests)),
  (λ na nb. grind (arith, nat_tests)),
)

module _ (slots : ℕ) (f : ℕ → ℕ) (i : ℕ) (v : Visit) where
  stored : (k : ℕ) → (k ≡ visits_begin slots + 2 * i → with_visit_words slots f i v k ≡ v.node)
      × (k ≡ visits_begin slots + 2 * i + 1 → with_visit_words slots f i v k ≡ v.version)
      × (k ≢ visits_begin slots + 2 * i → k ≢ visits_begin slots + 2 * i + 1 → with_visit_words slots f i v k ≡ f k)
  stored k = two_words f (visits_begin slots + 2 * i) (visits_begin slots + 2 * i + 1) v.node v.version k refl

  pub below_stored : SameBelow slots f (with_visit_words slots f i v)
  unfolding stored
  below_stored k lt = (stored k).2 (omega arith) (omega arith)

  pub visits_next : (held : List Visit) → VisitsTo slots held f i → get_elem? held i ≡ some v → VisitsTo slots held (with_visit_words slots f i v) (i + 1)
  unfolding stored
  visits_next held so at j u lt at_u = dite (ℕ_discrete j i)
      (λ (same : j ≡ i). let e : v ≡ u = some-injective v u (sym at ∙ (ap (get_elem? held) (sym same) ∙ at_u)) in (
        (stored (visits_begin slots + 2 * j)).0 (omega arith) ∙ ap (λ (w : Visit). w.node) e,
        (stored (visits_begin slots + (1 + 2 * j))).1 (omega arith) ∙ ap (λ (w : Visit). w.version) e,
      ))
      (λ (other : j ≢ i). let s = so j u (omega arith) at_u in (
        (stored (visits_begin slots + 2 * j)).2 (omega arith) (omega arith) ∙ s.0,
        (stored (visits_begin slots + (1 + 2 * j))).2 (omega arith) (omega arith) ∙ s.1,
      ))

-- one visit more is stored, as it is read from those that the pass holds
pub visits_written : (slots slots' : ℕ) (old now new : List Visit) (f g : ℕ → ℕ) (i : ℕ) (d : Visit) → now ≡ old → new ≡ old → slots' ≡ slots → i < length now
    → VisitsTo slots old f i → g ≡ with_visit_words slots f i (get_or now i d) → VisitsTo slots' new g (i + 1)
visits_written slots slots' old now new f g i d is same at lt so e =
    let there : get_elem? old i ≡ some (get_or now i d) = subst (λ (l : List Visit). get_elem? l i ≡ some (get_or now i d)) is (element now i d lt) in
    subst (λ (z : ℕ). VisitsTo z new g (i + 1)) (sym at) (subst (λ (l : List Visit). VisitsTo slots l g (i + 1)) (sym same)
    (subst (λ (w : ℕ → ℕ). VisitsTo slots old w (i + 1)) (sym e) (visits_next slots f i (get_or now i d) old so there)))

pub below_written : (slots : ℕ) (o f g : ℕ → ℕ) (i : ℕ) (v : Visit) → SameBelow slots o f → g ≡ with_visit_words slots f i v → SameBelow slots o g
unfolding below_stored
below_written slots o f g i v same e k lt = ap (λ (w : ℕ → ℕ). w k) e ∙ (below_stored slots f i v k lt ∙ same k lt)

-- what was listed is listed still
pub lists_below : (m n slots : ℕ) (old new : List Place) (f g : ℕ → ℕ) → new ≡ old → length old ≤ 25 + slots → SameBelow slots f g → ListsTo m n old f (length old)
    → ListsTo m n new g (length new)
lists_below m n slots old new f g is few same so = subst (λ (l : List Place). ListsTo m n l g (length l)) (sym is) record {
  mode = same 0 (omega arith) ∙ so.mode;
  changes = same 1 (omega arith) ∙ so.changes;
  visits = same 2 (omega arith) ∙ so.visits;
  each = λ j p lt at. let e = so.each j p lt at in (
    same (3 + 3 * j) (omega arith) ∙ e.0,
    same (4 + 3 * j) (omega arith) ∙ e.1,
    same (5 + 3 * j) (omega arith) ∙ e.2,
  );
}

pub two_written : (f g h : ℕ → ℕ) (a b x y : ℕ) → g ≡ with_word f a x → h ≡ with_word g b y → h ≡ with_word (with_word f a x) b y
two_written f g h a b x y first second = second ∙ ap (λ (w : ℕ → ℕ). with_word w b y) first
