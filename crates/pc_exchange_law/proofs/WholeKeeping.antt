-- How a step keeps the whole rule, once for all: from the rule of installs afterwards and from what the step comes to.
use Rattle.std.proofs.Common.{◌≡◌, ◌≢◌, ℕ, ◌<◌, ◌≤◌, Bool, true, false, List, [], ◌∷◌, ◌++◌, zero, suc, set, refl, sym, ap, ◌∙◌, subst, arith}
use mathlib.Core.Option.{some}
use lib.ListN.{get_elem?}
use Rattle.atomic_table.proofs.Lists.{at_map}
use Rattle.pc_model.specs.Forms.{Form}
use Rattle.pc_rule_law.specs.Board.{Size, Board, descriptor_words}
use Rattle.pc_rule_law.specs.Past.{Has, Past, Describes}
use Rattle.pc_rule_law.specs.Stages.{IsIdle}
use Rattle.pc_rule_law.specs.Views.{Note, View, NoteHolds, AllNotes}
use Rattle.pc_rule_law.specs.Rule.{Each, Own, OwnTries, Known, Kept}
use Rattle.pc_rule_law.proofs.Keeping.{kept_after}
use Rattle.pc_rule_law.proofs.Lists.{each_moved, below_length}
use Rattle.pc_protocol.specs.Histories.{History}
use Rattle.pc_protocol.specs.Owned.{IsUnread}
use Rattle.pc_protocol.specs.Steps.{Keeps}
use Rattle.pc_exchange_law.specs.Attempts.{Scripts, OwnAttempt, AreScripts}
use Rattle.pc_exchange_law.specs.AttemptSteps.{first_attempt}
use Rattle.pc_exchange_law.specs.OwnSlots.{OwnSlots, first_slots, OwnsSlots}
use Rattle.pc_exchange_law.specs.Ties.{CellsAreSound}
use Rattle.pc_exchange_law.specs.ExchangeLaws.{Comes, ExchangeStepsGoOn}
use Rattle.pc_exchange_law.specs.Passes.{PassKnows, IsKnown}
use Rattle.pc_exchange_law.specs.Paths.{IsPathOf}
use Rattle.pc_exchange_law.specs.Wholes.{SlotsAt, Whole, IsTakenIn, views_of, knows_nothing, WholeKept}
use Rattle.pc_exchange_law.proofs.AttemptNotes.{attempt_note_stays, attempt_stays}
use Rattle.pc_exchange_law.proofs.ExchangeLaws.{comes, exchange_steps_go_on}
use Rattle.pc_exchange_law.proofs.Paths.{path_stays}
use Rattle.pc_exchange_law.proofs.Worlds.{Goes}

-- the views of views of which one is changed
pub views_set : (views : List Whole) (id : ℕ) (y : Whole) → views_of (set views id y) ≡ set (views_of views) id y.view
views_set [] id y = refl
views_set (x ∷ xs) zero y = refl
views_set (x ∷ xs) (suc id) y = ap (λ (l : List View). x.view ∷ l) (views_set xs id y)

pub views_more : (views : List Whole) (y : Whole) → views_of (views ++ y ∷ []) ≡ views_of views ++ y.view ∷ []
views_more [] y = refl
views_more (x ∷ xs) y = ap (λ (l : List View). x.view ∷ l) (views_more xs y)

-- where the past's own words are the scripts, they are what the rule of installs says of them
pub scripts_agree : (slots : ℕ) (b : Board) (t : Past) → AreScripts slots b t t.words
    → ((p a : ℕ) → Describes slots (t.attempt p a) (t.words p a))
    × ((p : ℕ) → (IsIdle (b.status p).stage → ⊥) → (place : ℕ) → place < descriptor_words slots
    → b.word p place ≡ t.words p (b.status p).number place)
scripts_agree slots b t scripts = (scripts.describe, λ p busy place _. scripts.present p busy place)

-- what a pass at another seat knows is so after a step
pub known_after : (form : Form) (z : Size) (id : ℕ) (b : Board) (t : Past) (w : Scripts) (h : History) (late : ℕ → Bool)
    (b' : Board) (t' : Past) (w' : Scripts) (h' : History) (late' : ℕ → Bool) (k' : PassKnows)
    → Comes form z id b t w h late b' t' w' h' late' k' → (j : ℕ) (k : PassKnows) → j < 64 → j ≢ id
    → IsKnown b t w h late j k → IsKnown b' t' w' h' late' j k
known_after form z id b t w h late b' t' w' h' late' k' c j k small ne known = record {
  own = attempt_stays id j b h b' h' k.own c.leaves small ne known.own;
  ready = λ is. c.leaves_late j ne ∙ known.ready is;
  noted = λ n has. attempt_note_stays b t w b' t' w' c.attempts n (known.noted n has);
  told = λ n has. c.keeps.notes n (known.told n has);
}

module _ (form : Form) (z : Size) (b : Board) (t : Past) (h : History) (late : ℕ → Bool) (views : List Whole)
    (k : WholeKept form z b t h late views) (id : ℕ) (x : Whole) (at : get_elem? views id ≡ some x)
    (live : x.view.live ≡ true) where
  pub at_view : get_elem? (views_of views) id ≡ some x.view
  at_view = at_map (λ (u : Whole). u.view) views id x at

  pub mine : Known z b t id x.view
  mine = k.kept.each_view id x.view at_view

  pub own_here : Own z b.install t.course id x.view
  own_here = mine.own live

  pub known_here : IsKnown b t t.words h late id x.knows
  known_here = k.known id x at live

  pub owned_here : OwnsSlots z h id x.knows.own x.knows.slots
  owned_here = k.owned id x at live

  pub path_here : IsPathOf h id x.path
  path_here = k.paths id x at live

  -- a step that takes no stamp away that was drawn for a read leaves the path as it is
  pub path_kept : (h' : History) → Keeps h h' → ((j s : ℕ) → IsUnread h j s → IsUnread h' j s) → IsPathOf h' id x.path
  path_kept h' keeps unread = path_stays h h' keeps id x.path path_here (unread id)

  -- from what the pass knows, each kind of step goes on
  pub steps_here : ExchangeStepsGoOn form z id b t t.words h late x.view x.knows
  steps_here = exchange_steps_go_on form z id b t t.words h late x.view x.knows k.kept.few k.kept.shared k.world own_here
      mine.noted known_here owned_here

  -- the seat of a view is one of those that were made
  made : (j : ℕ) (y : Whole) → get_elem? views j ≡ some y → j < t.count
  made j y at_j = subst (λ (c : ℕ). j < c) k.kept.counted
      (below_length (views_of views) j y.view (at_map (λ (u : Whole). u.view) views j y at_j))

  -- passes that were taken in are others, so what they have of slots stays
  taken_still : (t' : Past) (h' : History) → ((j : ℕ) → t'.live j ≡ t.live j)
      → ((j : ℕ) (a : OwnAttempt) (o : OwnSlots) → j < 64 → j ≢ id → OwnsSlots z h j a o → OwnsSlots z h' j a o)
      → (s : SlotsAt) → IsTakenIn z t h s → IsTakenIn z t' h' s
  taken_still t' h' lives stays s was = record {
    seated = was.seated;
    joined = lives s.seat ∙ was.joined;
    owned = stays s.seat s.own s.slots (let few : z.seats ≤ 32 = k.kept.few in let lt = was.seated in omega arith)
        (λ same. let here : t.live id ≡ true = sym mine.counted.live_is ∙ live in
        absurd (let clash : true ≡ false = sym here ∙ (ap t.live (sym same) ∙ was.joined) in cc)) was.owned;
  }

  pub taken_kept : (t' : Past) (h' : History) (y : Whole) → ((j : ℕ) → t'.live j ≡ t.live j) → y.taken ≡ x.taken
      → ((j : ℕ) (a : OwnAttempt) (o : OwnSlots) → j < 64 → j ≢ id → OwnsSlots z h j a o → OwnsSlots z h' j a o)
      → Each (set views id y) (λ j u. u.view.live ≡ true → (s : SlotsAt) → Has u.taken s → IsTakenIn z t' h' s)
  taken_kept t' h' y lives same stays = each_moved views id y
      (λ j u. u.view.live ≡ true → (s : SlotsAt) → Has u.taken s → IsTakenIn z t h s)
      (λ j u. u.view.live ≡ true → (s : SlotsAt) → Has u.taken s → IsTakenIn z t' h' s) k.taken
      (λ _ s has. taken_still t' h' lives stays s (k.taken id x at live s (subst (λ (l : List SlotsAt). Has l s) same has)))
      (λ j u _ _ was alive s has. taken_still t' h' lives stays s (was alive s has))

  -- a look: the rule of installs holds with a later view, and it is so what the pass knows and has visited then
  pub whole_looked : (y : Whole) → Kept (CellsAreSound form) z b t (set (views_of views) id y.view)
      → IsKnown b t t.words h late id y.knows → (y.knows.own ≡ x.knows.own) × (y.knows.slots ≡ x.knows.slots) × (y.taken ≡ x.taken) → IsPathOf h id y.path
      → WholeKept form z b t h late (set views id y)
  whole_looked y kept known same path = record {
    kept = subst (Kept (CellsAreSound form) z b t) (sym (views_set views id y)) kept;
    world = k.world;
    known = each_moved views id y (λ j u. u.view.live ≡ true → IsKnown b t t.words h late j u.knows)
        (λ j u. u.view.live ≡ true → IsKnown b t t.words h late j u.knows) k.known (λ _. known) (λ j u _ _ was. was);
    paths = each_moved views id y (λ j u. u.view.live ≡ true → IsPathOf h j u.path) (λ j u. u.view.live ≡ true → IsPathOf h j u.path)
        k.paths (λ _. path) (λ j u _ _ was. was);
    owned = each_moved views id y (λ j u. u.view.live ≡ true → OwnsSlots z h j u.knows.own u.knows.slots)
        (λ j u. u.view.live ≡ true → OwnsSlots z h j u.knows.own u.knows.slots) k.owned
        (λ _. subst (λ (i : OwnAttempt × OwnSlots). OwnsSlots z h id i.0 i.1) (λ i. (sym same.0 i, sym same.1 i)) owned_here)
        (λ j u _ _ was. was);
    taken = taken_kept t h y (λ j. refl) same.2 (λ j a o _ _ was. was);
    unmade = k.unmade;
    unowned = k.unowned;
    none_given = k.none_given;
  }

  -- any other step of the pass
  pub whole_after : (b' : Board) (t' : Past) (h' : History) (late' : ℕ → Bool) (y : Whole)
      → Kept (CellsAreSound form) z b' t' (set (views_of views) id y.view) → t'.count ≡ t.count → t'.posted ≡ t.posted
      → ((j : ℕ) → t'.live j ≡ t.live j) → y.taken ≡ x.taken
      → Comes form z id b t t.words h late b' t' t'.words h' late' y.knows → IsPathOf h' id y.path
      → WholeKept form z b' t' h' late' (set views id y)
  whole_after b' t' h' late' y kept count posted lives same c path = let few : z.seats ≤ 32 = k.kept.few in
      let room : t.count ≤ z.seats = k.kept.room in record {
        kept = subst (Kept (CellsAreSound form) z b' t') (sym (views_set views id y)) kept;
        world = c.world;
        known = each_moved views id y (λ j u. u.view.live ≡ true → IsKnown b t t.words h late j u.knows)
            (λ j u. u.view.live ≡ true → IsKnown b' t' t'.words h' late' j u.knows) k.known (λ _. c.known)
            (λ j u ne at_j was alive. known_after form z id b t t.words h late b' t' t'.words h' late' y.knows c j u.knows
            (let lt = made j u at_j in omega arith) ne (was alive));
        paths = each_moved views id y (λ j u. u.view.live ≡ true → IsPathOf h j u.path)
            (λ j u. u.view.live ≡ true → IsPathOf h' j u.path) k.paths (λ _. path)
            (λ j u ne at_j was alive. path_stays h h' c.keeps j u.path (was alive) (c.unread j));
        owned = each_moved views id y (λ j u. u.view.live ≡ true → OwnsSlots z h j u.knows.own u.knows.slots)
            (λ j u. u.view.live ≡ true → OwnsSlots z h' j u.knows.own u.knows.slots) k.owned (λ _. c.owned)
            (λ j u ne at_j was alive. c.stays j u.knows.own u.knows.slots (let lt = made j u at_j in omega arith) ne (was alive));
        taken = taken_kept t' h' y lives same c.stays;
        unmade = λ j le lt. let old : t.count ≤ j = subst (λ (i : ℕ). i ≤ j) count le in
            known_after form z id b t t.words h late b' t' t'.words h' late' y.knows c j (knows_nothing z j)
            (omega arith) (λ e. let below = made id x at in absurd (omega arith)) (k.unmade j old lt);
        unowned = λ j le lt. let old : t.count ≤ j = subst (λ (i : ℕ). i ≤ j) count le in
            c.stays j (first_attempt z.starts.attempt) (first_slots z j) (omega arith)
            (λ e. let below = made id x at in absurd (omega arith)) (k.unowned j old lt);
        none_given = posted ∙ k.none_given;
      }

  -- a step of an exchange, with its own view and these notes more
  pub whole_goes : (b' : Board) (t' : Past) (h' : History) (late' : ℕ → Bool) (y : Whole) (more : List Note)
      → Goes form z id b t t.words h late b' t' t'.words h' late' × IsKnown b' t' t'.words h' late' id y.knows
      → OwnsSlots z h' id y.knows.own y.knows.slots
      → (y.view.live ≡ x.view.live) × (y.view.seat ≡ x.view.seat) × (y.view.last ≡ x.view.last)
      × (y.view.rest ≡ x.view.rest) → y.taken ≡ x.taken
      → y.view.notes ≡ more ++ x.view.notes → Own z b'.install t'.course id y.view
      → (y.view.posted ≡ false → (t'.posted ≡ false) × OwnTries z.slots b' id y.view.attempt)
      → AllNotes (NoteHolds z b' t') more → IsPathOf h' id y.path
      → WholeKept form z b' t' h' late' (set views id y)
  whole_goes b' t' h' late' y more step owned same same_taken notes own tries noted path = whole_after b' t' h' late' y
      (kept_after (CellsAreSound form) z b t (views_of views) id x.view b' t' y.view more k.kept at_view live record {
        same = same;
        notes = notes;
        grows = step.0.grows;
        leaves = step.0.leaves;
        shared = step.0.shared;
        own = own;
        tries = tries;
        noted = noted;
      }) step.0.leaves.count step.0.leaves.posted step.0.leaves.lives same_taken
      (comes form z id b t t.words h late b' t' t'.words h' late' y.knows step owned) path
