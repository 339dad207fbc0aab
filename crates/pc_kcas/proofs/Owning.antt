-- What a pass knows of the exchange that it published itself.
use Rattle.std.proofs.Common.{◌≡◌, ◌≢◌, ◌⊎◌, ⊎_elim, inl, inr, Option, ℕ, zero, suc, ◌+◌, List, [], ◌∷◌, length, map, ◌≤◌, refl, sym, ap, ap₂, ◌∙◌, subst, arith}
use mathlib.Core.Option.{some}
use lib.ListN.{get_elem?}
use Rattle.pc_model.specs.declared.cell.Field.{Field}
use Rattle.pc_model.specs.declared.shape.Shape.{Ghosts}
use Rattle.pc_model.specs.Exchanges.{Changed, Visited, Exchange, Seen, FreshNode}
use Rattle.pc_rule_law.specs.Board.{Size}
use Rattle.pc_rule_law.specs.Past.{Has, Attempt, change, Describes}
use Rattle.pc_rule_law.specs.Plays.{after_publish}
use Rattle.pc_rule_law.specs.Views.{View, OwnAttempt, word_in}
use Rattle.pc_rule_law.proofs.Lists.{has_later}
use Rattle.pc_rule_law.proofs.Places.{one_word}
use Rattle.pc_protocol.specs.Histories.{committed}
use Rattle.pc_protocol.specs.Notes.{Note, read_word, published, clock_was, drew, verdict, in_run}
use Rattle.pc_exchange_law.specs.Attempts.{OwnAttempt as OwnTried, AttemptNote}
use Rattle.pc_exchange_law.specs.Knowing.{Learns, IsAboveSeen}
use Rattle.pc_exchange_law.specs.Passes.{PassKnows}
use Rattle.pc_exchange_law.specs.Ties.{code, exchange_of}
use Rattle.pc_exchange_law.specs.Wholes.{Whole}
use Rattle.pc_rule.specs.Attempts.{AgreeOnAttempt}
use Rattle.pc_rule.specs.Conditions.{KnowsPublished}
use Rattle.pc_rule.specs.Passes.{whole, view, knows, listed, visits, IsSamePass}
use Rattle.pc_rule.specs.Starting.{change_of}
use Rattle.pc_rule.specs.declared.board.Pass.{Pass}
use Rattle.pc_rule.specs.declared.opening.Place.{Place}
use Rattle.pc_rule.specs.declared.visit.Visit.{Visit}
use Rattle.pc_dcss.specs.Installs.{KeepsAttempt}
use Rattle.pc_kcas.specs.Exchanges.{KnowsOwn, KnowsExchange, KnowsAbove, VisitsHeld, VisitsTo, IsPublished, attempt_with}
use Rattle.pc_kcas.specs.Obstacles.{GoesOn}
use Rattle.pc_kcas.proofs.Holding.{published_still}

-- two lists with the same elements
same_list : {X : Type 0} (xs ys : List X) → length xs ≡ length ys → ((i : ℕ) (x y : X) → get_elem? xs i ≡ some x → get_elem? ys i ≡ some y → x ≡ y) → xs ≡ ys
same_list [] [] n each = refl
same_list [] (y ∷ ys) n each = absurd (omega arith)
same_list (x ∷ xs) [] n each = absurd (omega arith)
same_list (x ∷ xs) (y ∷ ys) n each = ap₂ (λ a as'. a ∷ as') (each zero x y refl refl) (same_list xs ys (omega arith) (λ i. each (suc i)))

same_change : (x y : Changed) → x.node ≡ y.node → x.field ≡ y.field → x.old ≡ y.old → x.new ≡ y.new → x ≡ y
same_change x y n f o w = ap₂ (λ (a : ℕ) (b : Field). change a b x.old x.new) n f ∙ ap₂ (λ (a b : ℕ). change y.node y.field a b) o w

same_visit : (x y : Visited) → x.node ≡ y.node → x.version ≡ y.version → x ≡ y
same_visit x y n v = ap₂ (λ (a b : ℕ). record { node = a; version = b }) n v

-- two attempts that the same words describe, and which have the same reads where they have the same visits, make the same exchange
one_exchange : (slots : ℕ) (a b : Attempt) (word : ℕ → ℕ) → Describes slots a word → Describes slots b word
    → (a.visits ≡ b.visits → a.reads ≡ b.reads) → a.fresh ≡ b.fresh → exchange_of a ≡ exchange_of b
unfolding same_list same_change same_visit
one_exchange slots a b word one two reads fresh =
    let changes : a.changes ≡ b.changes = same_list a.changes b.changes (sym one.changes ∙ two.changes) (λ i x y at_x at_y.
    let e = one.each_change i x at_x in let f = two.each_change i y at_y in let w = one_word x.node y.node x.field y.field (sym e.0 ∙ f.0) in
    same_change x y w.0 w.1 (sym e.1 ∙ f.1) (sym e.2 ∙ f.2)) in
    let visits : a.visits ≡ b.visits = same_list a.visits b.visits (sym one.visits ∙ two.visits) (λ i x y at_x at_y.
    let e = one.each_visit i x at_x in let f = two.each_visit i y at_y in same_visit x y (sym e.0 ∙ f.0) (sym e.1 ∙ f.1)) in
    ap₂ (λ (c : List Changed) (i : List Visited × List Seen × Option FreshNode). exchange_of (record { mode = 0; changes = c; visits = i.0; reads = i.1; fresh = i.2 })) changes
    (λ j. (visits j, reads visits j, fresh j))

-- what was published is the exchange of the words that were listed
pub own_exchange_noted : (x y : Whole) (mode : ℕ) (visits : List Visited) (reads : List Seen) (places : List Place) → AgreeOnAttempt x → y.view ≡ after_publish x.view
    → KnowsPublished x y.knows → Describes x.view.size.slots (attempt_with mode visits reads (map change_of places)) (word_in x.view.attempt.words)
    → ((mode ≡ 0) × (reads ≡ [])) ⊎ ((mode ≢ 0) × (reads ≡ x.path.reads))
    → KnowsAbove x.knows.told y (exchange_of (attempt_with 0 visits reads (map change_of places)))
unfolding one_exchange
own_exchange_noted x y mode visits reads places agree at told so by =
    let slots = x.view.size.slots in let listed_one : Attempt = attempt_with mode visits reads (map change_of places) in
    let found : Describes slots told.0 (word_in x.view.attempt.words) = subst (λ (l : List (ℕ × ℕ)). Describes slots told.0 (word_in l)) agree.words told.2 in
    let same : exchange_of told.0 ≡ exchange_of listed_one = one_exchange slots told.0 listed_one (word_in x.view.attempt.words) found so
    (λ _. ⊎_elim (λ none. (told.5.none (sym found.mode ∙ (so.mode ∙ none.0))).1 ∙ sym none.1)
    (λ all. told.5.all (λ e. all.0 (sym so.mode ∙ (found.mode ∙ e))) ∙ sym all.1) by) told.7 in
    let number : code x.view.seat (x.knows.own.number + 1) ≡ code y.view.seat y.view.attempt.number =
    ap₂ (λ (s n : ℕ). code s n) (sym (ap (λ (v : View). v.seat) at)) (ap (λ (n : ℕ). n + 1) agree.number ∙ sym (ap (λ (v : View). v.attempt.number) at)) in
    let there : Has y.knows.told (published (code x.view.seat (x.knows.own.number + 1)) (exchange_of told.0) told.1) =
    subst (λ (k : PassKnows). Has k.told (published (code x.view.seat (x.knows.own.number + 1)) (exchange_of told.0) told.1)) (sym told.4) (0, refl) in
    (told.1, subst (Has y.knows.told) (ap₂ (λ (n : ℕ) (e : Exchange). published n e told.1) number same) there, told.6)

pub own_published : (x y : Whole) (mode : ℕ) (visits : List Visited) (reads : List Seen) (places : List Place) → KnowsPublished x y.knows
    → Describes y.view.size.slots (attempt_with mode visits reads (map change_of places)) (word_in y.view.attempt.words) → KnowsExchange y (exchange_of (attempt_with 0 visits reads (map change_of places))) → KnowsOwn y places
own_published x y mode visits reads places told describes noted = record {
  not_withdrawn = ap (λ (k : PassKnows). k.own.withdrew) told.4;
  mode = mode;
  visits = visits;
  reads = reads;
  describes = describes;
  noted = noted;
}

-- a clock that is above all that was seen is above what was seen before
pub above_fewer : (told more : List Note) (c : ℕ) → ((n : Note) → Has told n → Has more n) → IsAboveSeen more c → IsAboveSeen told c
above_fewer told more c keeps above = record {
  clock = λ b has. above.clock b (keeps (clock_was b) has);
  stamps = λ t seen. above.stamps t (⊎_elim (λ drawn. inl (drawn.0, keeps (drew drawn.0 t) drawn.1))
      (⊎_elim (λ won. inr (inl (won.0, keeps (verdict won.0 (committed t)) won.1)))
      (λ read. inr (inr (read.0, keeps (in_run t read.0) read.1)))) seen);
  reads = λ n v x b f has. above.reads n v x b f (keeps (read_word n v f x b) has);
}

-- a publication leaves what was known
pub noted_published : (x y : Whole) → KnowsPublished x y.knows → (n : AttemptNote) → Has x.knows.noted n → Has y.knows.noted n
noted_published x y told n has = subst (λ (k : PassKnows). Has k.noted n) (sym told.4) has

pub told_published : (x y : Whole) → KnowsPublished x y.knows → (n : Note) → Has x.knows.told n → Has y.knows.told n
told_published x y told n has = subst (λ (k : PassKnows). Has k.told n) (sym told.4)
    (has_later (published (code x.view.seat (x.knows.own.number + 1)) (exchange_of told.0) told.1) x.knows.told n has)

-- and it is known still
pub own_still : (x y : Whole) (old new : List Place) → y.view.size ≡ x.view.size → y.view.seat ≡ x.view.seat → y.view.attempt ≡ x.view.attempt → y.knows.own.withdrew ≡ x.knows.own.withdrew
    → ((n : Note) → Has x.knows.told n → Has y.knows.told n) → new ≡ old → KnowsOwn x old → KnowsOwn y new
own_still x y old new size seat attempt withdrew more is own =
    let number : code x.view.seat x.view.attempt.number ≡ code y.view.seat y.view.attempt.number =
    ap₂ (λ (s n : ℕ). code s n) (sym seat) (sym (ap (λ (a : OwnAttempt). a.number) attempt)) in record {
      not_withdrawn = withdrew ∙ own.not_withdrawn;
      visits = own.visits;
      reads = own.reads;
      mode = own.mode;
      describes = subst (λ (l : List Place). Describes y.view.size.slots (attempt_with own.mode own.visits own.reads (map change_of l)) (word_in y.view.attempt.words)) (sym is)
          (subst (λ (z : Size). Describes z.slots (attempt_with own.mode own.visits own.reads (map change_of old)) (word_in y.view.attempt.words)) (sym size)
          (subst (λ (a : OwnAttempt). Describes x.view.size.slots (attempt_with own.mode own.visits own.reads (map change_of old)) (word_in a.words)) (sym attempt) own.describes));
      noted = (
        own.noted.0,
        subst (λ (l : List Place). Has y.knows.told (published (code y.view.seat y.view.attempt.number) (exchange_of (attempt_with 0 own.visits own.reads (map change_of l))) own.noted.0)) (sym is)
            (subst (λ (n : ℕ). Has y.knows.told (published n (exchange_of (attempt_with 0 own.visits own.reads (map change_of old))) own.noted.0)) number (more _ own.noted.1)),
      );
    }

-- the visits are held still
pub visits_still : (v w : View) (old new : List Visit) → w.attempt ≡ v.attempt → w.size ≡ v.size → new ≡ old → VisitsHeld v old → VisitsHeld w new
visits_still v w old new attempt size is has = subst (VisitsHeld w) (sym is) record {
  within = subst (λ (a : OwnAttempt). word_in a.words 2 ≤ length old) (sym attempt) has.within;
  each = subst (λ (a : OwnAttempt). VisitsTo w.size.slots old (word_in a.words) (word_in a.words 2)) (sym attempt)
      (subst (λ (z : Size). VisitsTo z.slots old (word_in v.attempt.words) (word_in v.attempt.words 2)) (sym size) has.each);
}

module _ {H : Type 0} {S : Ghosts H} where
  pub published_known : (p q : Pass H S) → IsSamePass p q → KeepsAttempt (view p) (view q) → Learns (knows p) (knows q) → IsPublished p → IsPublished q
  published_known p q same keeps l has = let is = ap (λ v. v.items) same.1 in (
    published_still (view p) (view q) (listed p) (listed q) keeps same.0.1 is has.0,
    own_still (whole p) (whole q) (listed p) (listed q) same.0.1 same.0.2 keeps.0 (ap (λ (o : OwnTried). o.withdrew) l.own) l.told is has.1,
    visits_still (view p) (view q) (visits p) (visits q) keeps.0 same.0.1 (ap (λ v. v.items) same.2.1) has.2,
  )

  pub published_goes : (p q : Pass H S) → IsSamePass p q → GoesOn (whole p) (whole q) → IsPublished p → IsPublished q
  published_goes p q same goes has = let is = ap (λ v. v.items) same.1 in (
    published_still (view p) (view q) (listed p) (listed q) goes.attempt same.0.1 is has.0,
    own_still (whole p) (whole q) (listed p) (listed q) same.0.1 same.0.2 goes.attempt.0 (ap (λ (o : OwnTried). o.withdrew) goes.own) goes.told is has.1,
    visits_still (view p) (view q) (visits p) (visits q) goes.attempt.0 same.0.1 (ap (λ v. v.items) same.2.1) has.2,
  )
