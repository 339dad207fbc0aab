-- An exchange that takes effect keeps the rule and every note: it enters the run at its stamp, below what stands there
-- with greater ones.
use Rattle.std.proofs.Common.{◌≡◌, ◌≢◌, ℕ, ◌+◌, ◌<◌, ◌≤◌, inl, inr, ⊎_elim, Option, Some, None, refl, sym, ap, ◌∙◌}
use Rattle.std.proofs.Common.{subst, arith, le_refl}
use Rattle.std.proofs.lemmas.Bool.{cases_eq, cases_lt}
use Rattle.pc_model.specs.declared.cell.Field.{Field}
use Rattle.pc_model.specs.declared.cell.Field.TheVariants.{Version}
use Rattle.pc_model.specs.Cells.{IsOdd}
use Rattle.pc_model.specs.Exchanges.{Visited, Seen, Changed, FreshNode, Exchange, Stands, with_fresh, applied}
use Rattle.pc_model.proofs.Writes.{with_node-here, with_node-other}
use Rattle.pc_history.specs.Footprints.{IsAmong, IsOfWord, LeavesWord, WritesMiss, IsWellFormed}
use Rattle.pc_history.specs.Runs.{OnItem, MayEnter, HasEntered}
use Rattle.pc_history.proofs.Updates.{updated_here, updated_other, on_updated, from_updated}
use Rattle.pc_history.proofs.Footprints.{applied_left, applied_change, leaves_there, leaves_node, visits_stand, reads_stand}
use Rattle.pc_history.proofs.Footprints.{changes_stand, raises_versions, with_changes_at, with_changes_left}
use Rattle.pc_history.proofs.Footprints.{with_changes_local}
use Rattle.pc_history.proofs.Moments.{versions_never_fall}
use Rattle.pc_history.proofs.Entering.{has_entered}
use Rattle.pc_protocol.specs.Histories.{Cause, Stage, committed, aborted, History, moments, cells_now}
use Rattle.pc_protocol.specs.Histories.{IsPublished}
use Rattle.pc_protocol.specs.Histories.{IsUndecided, IsDecided, value_by, IsSpare, IsUsed, Drew}
use Rattle.pc_protocol.specs.Seeing.{Covers, SawWord, Saw}
use Rattle.pc_protocol.specs.Rules.{IsTaken, Refers, IsReady, IsCause, Rule}
use Rattle.pc_protocol.specs.Notes.{Found, value, by, IsBoundedBy, IsBelowFound, Looked}
use Rattle.pc_protocol.specs.Steps.{Keeps, slots_with, commit, CanCommit}
use Rattle.pc_protocol.proofs.Stages.{same_option, none_not_some, undecided_is_published, decided_not_undecided}
use Rattle.pc_protocol.proofs.Stages.{committed_not_undecided, same_stamp, undecided_value, aborted_is_published}
use Rattle.pc_protocol.proofs.Items.{on_item_map, refers_stays}
use Rattle.pc_protocol.proofs.Slots.{slots_with-used, slots_with-fresh, slots_with-other}
use Rattle.pc_protocol.proofs.Notes.{Grows, cause_stays, notes_stay, saw_still, as_great}
use Rattle.pc_protocol.proofs.Drawn.{is_empty, own_refers, own_at, own_fresh_stands, other_leaves_own, leaves_fresh_of}
use Rattle.pc_protocol.proofs.Drawn.{changed_version_grows, passed_version, passed_others}

module _ (h : History) (rule : Rule h) (x s : ℕ) (can : CanCommit h x s) where
  abbrev e : Exchange
  e = h.op x

  abbrev h' : History
  h' = commit h x s

  open' : IsUndecided (h.stage x)
  open' = can.undecided

  well_formed : IsWellFormed e
  well_formed = rule.well_formed x (undecided_is_published (h.stage x) open')

  seen : Saw (moments h) (h.published_at x) e
  seen = rule.saw x open'

  since : h.published_at x ≤ s
  since = (rule.drawn x s can.drew).1

  never_falls : (t u n : ℕ) → t ≤ u → moments h t n Version ≤ moments h u n Version
  never_falls = versions_never_fall h.opening h.clock h.item rule.run

  -- What is known of its visits at the stamp

  abbrev Leaves : ℕ → Type 0
  Leaves n = (y t : ℕ) → y ≢ x → IsUndecided (h.stage y) → Drew h.clock h.drawn_for t y → t < s
      → LeavesWord (h.op y) n Version

  own_version : (a : Changed) → IsAmong a e.changes → (n : ℕ) → IsOfWord n Version a
      → (moments h s n Version ≡ a.old) × Leaves n
  own_version a among n is = (
    (λ i. moments h s (sym is.0 i) (sym is.1 i)) ∙ own_at h rule x s open' can.drew a among,
    (λ y t ne u drew lt. leaves_there (h.op y) a.node n a.field Version is.0 is.1
        (other_leaves_own h rule x s open' can.drew y t ne u drew a among)),
  )

  known_visit : (v : Visited) → IsAmong v e.visits → (moments h s v.node Version ≡ v.version) × Leaves v.node
  known_visit v among = ⊎_elim
      (λ own. let there : (moments h s v.node Version ≡ own.change.old) × Leaves v.node =
      own_version own.change own.among v.node own.is_of in
      (there.0 ∙ own.old, there.1))
      (λ passed. let least : v.version ≤ moments h s v.node Version =
      omega (arith, (seen.visits v among).1, never_falls (h.published_at x) s v.node since) in (
        passed_version h rule s v least passed,
        (λ y t ne u drew lt. passed_others h rule s v least passed y t u drew lt),
      ))
      (can.checked v among)

  covered : (n v : ℕ) → Covers e n v → (moments h s n Version ≡ v) × Leaves n
  covered n v covers = ⊎_elim
      (λ visit. let there : (moments h s visit.visit.node Version ≡ visit.visit.version) × Leaves visit.visit.node =
      known_visit visit.visit visit.among in (
        ap (λ (m : ℕ). moments h s m Version) (sym visit.node) ∙ there.0 ∙ visit.version,
        subst Leaves visit.node there.1,
      ))
      (λ own. let there : (moments h s n Version ≡ own.change.old) × Leaves n =
      own_version own.change own.among n own.is_of in
      (there.0 ∙ own.old, there.1))
      covers

  read_at : (r : Seen) → IsAmong r e.reads → moments h s r.node r.field ≡ r.number
  read_at r among =
      let there : (v : ℕ) × Covers e r.node v × SawWord (moments h) (h.published_at x) r.node v r.field r.number =
      seen.reads r among in
      there.2.1 s since (covered r.node there.0 there.1).0

  stands_at : Stands e (moments h s)
  stands_at = record {
    visits = visits_stand (moments h s) e.visits
        (λ v among. ((known_visit v among).0, (seen.visits v among).0));
    reads = reads_stand (moments h s) e.reads read_at;
    changes = changes_stand (moments h s) e.changes (own_at h rule x s open' can.drew);
    fresh = own_fresh_stands h rule x s open' can.drew;
  }

  pub empty_there : h.item s ≡ None
  empty_there = is_empty h rule x s open' can.drew

  may_enter : MayEnter h.opening h.clock h.item s e
  may_enter = record {
    below = can.drew.0;
    empty = empty_there;
    stands = stands_at;
    raises = raises_versions e well_formed;
    misses = λ u lt. rule.misses x s u open' can.drew lt;
  }

  pub entered : HasEntered h.opening h.clock h.item s e
  entered = has_entered h.opening h.clock h.item rule.run s e may_enter

  pub same_now : cells_now h' ≡ applied e (cells_now h)
  same_now = entered.upper h.clock can.drew.0

  -- what another exchange with a smaller stamp writes misses this one
  misses_this : (y t : ℕ) → y ≢ x → IsUndecided (h.stage y) → Drew h.clock h.drawn_for t y → t < s
      → WritesMiss (h.op y) e
  misses_this y t ne u drew lt = record {
    visits = λ v among. (known_visit v among).1 y t ne u drew lt;
    reads = λ r among.
        let there : (v : ℕ) × Covers e r.node v × SawWord (moments h) (h.published_at x) r.node v r.field r.number =
        seen.reads r among in
        leaves_node (h.op y) (rule.well_formed y (undecided_is_published (h.stage y) u)) r.node
        ((covered r.node there.0 there.1).1 y t ne u drew lt) r.field;
    changes = λ a among. other_leaves_own h rule x s open' can.drew y t ne u drew a among;
    fresh = λ g f is. leaves_fresh_of h rule y t u drew x open' ne g f is;
  }

  -- Stages before and after

  not_this : (y : ℕ) → IsUndecided (h'.stage y) → (y ≢ x) × IsUndecided (h.stage y)
  not_this y u = ⊎_elim (λ here. absurd here.1) (λ other. other)
      (from_updated h.stage x (committed s) IsUndecided y u)

  was_published : (y : ℕ) → IsPublished (h'.stage y) → IsPublished (h.stage y)
  was_published y p = ⊎_elim
      (λ here. subst (λ (z : ℕ). IsPublished (h.stage z)) (sym here.0) (undecided_is_published (h.stage x) open'))
      (λ other. other.1)
      (from_updated h.stage x (committed s) IsPublished y p)

  still_published : (y : ℕ) → IsPublished (h.stage y) → IsPublished (h'.stage y)
  still_published y p = on_updated h.stage x (committed s) IsPublished y (λ same. tt) (λ ne. p)

  stage_here : h'.stage x ≡ committed s
  stage_here = updated_here h.stage x (committed s) x refl

  stage_other : (y : ℕ) → y ≢ x → h'.stage y ≡ h.stage y
  stage_other y ne = updated_other h.stage x (committed s) y ne

  other_committed : (y t : ℕ) → h.stage y ≡ committed t → y ≢ x
  other_committed y t is same = committed_not_undecided (h.stage x) t (ap h.stage (sym same) ∙ is) open'

  -- The topics

  taken_still : (t : ℕ) → OnItem (IsTaken (h.drawn_for t) h'.stage h.op t) (h'.item t)
  taken_still t = on_updated h.item s (Some e) (OnItem (IsTaken (h.drawn_for t) h'.stage h.op t)) t
      (λ same. inr (x, ap h.drawn_for same ∙ can.drew.1, stage_here ∙ ap committed (sym same), refl))
      (λ ne. on_item_map (IsTaken (h.drawn_for t) h.stage h.op t) (IsTaken (h.drawn_for t) h'.stage h.op t) (h.item t)
      (λ d taken. ⊎_elim
      (λ read. inl read)
      (λ drawn. inr (
        drawn.0,
        drawn.1,
        stage_other drawn.0 (other_committed drawn.0 t drawn.2) ∙ drawn.2,
        drawn.3,
      ))
      taken)
      (rule.taken t))

  standing_still : (y t : ℕ) → h'.stage y ≡ committed t
      → Drew h.clock h.drawn_for t y × (h'.item t ≡ Some (h.op y))
  standing_still y t is = ⊎_elim
      (λ here. let base : Drew h.clock h.drawn_for s x × (h'.item s ≡ Some (h.op x)) =
      (can.drew, updated_here h.item s (Some e) s refl) in
      subst (λ (z : ℕ). Drew h.clock h.drawn_for t z × (h'.item t ≡ Some (h.op z))) (sym here.0)
      (subst (λ (u : ℕ). Drew h.clock h.drawn_for u x × (h'.item u ≡ Some (h.op x))) (same_stamp s t here.1) base))
      (λ other. let old : Drew h.clock h.drawn_for t y × (h.item t ≡ Some (h.op y)) = rule.standing y t other.1 in (
        old.0,
        updated_other h.item s (Some e) t (λ same. none_not_some (h.op y)
            (sym empty_there ∙ ap h.item (sym same) ∙ old.1)) ∙ old.1,
      ))
      (from_updated h.stage x (committed s) (λ (st : Stage). st ≡ committed t) y is)

  misses_still : (y t v : ℕ) → IsUndecided (h'.stage y) → Drew h.clock h.drawn_for t y → t < v
      → OnItem (WritesMiss (h.op y)) (h'.item v)
  misses_still y t v u drew lt =
      let was : (y ≢ x) × IsUndecided (h.stage y) = not_this y u in
      on_updated h.item s (Some e) (OnItem (WritesMiss (h.op y))) v
      (λ same. misses_this y t was.0 was.1 drew (subst (λ (w : ℕ). t < w) same lt))
      (λ ne. rule.misses y t v was.1 drew lt)

  -- the plain values
  filled_word : (o : Option FreshNode) → e.fresh ≡ o → (n : ℕ) (f : Field) → (IsSpare (slots_with o h.slot n) → ⊥)
      → h.plain n f ≡ with_fresh o (cells_now h) n f
  filled_word None is n f not_spare = rule.plain_is n f not_spare
  filled_word (Some g) is n f not_spare = ⊎_elim
      (λ same. subst (λ (m : ℕ). h.plain m f ≡ with_fresh (Some g) (cells_now h) m f) (sym same)
      ((rule.fresh x g open' is).filled f ∙ sym (with_node-here g.node g.fields (cells_now h) f)))
      (λ ne. rule.plain_is n f (λ spare. not_spare
      (subst IsSpare (sym (slots_with-other (Some g) h.slot n (λ k is_k same. ne (same
      ∙ ap (λ (z : FreshNode). z.node) (let this : k ≡ g = cc in this))))) spare))
      ∙ sym (with_node-other g.node g.fields (cells_now h) n f ne))
      (cases_eq n g.node)

  plain_still : (n : ℕ) (f : Field) → (IsSpare (h'.slot n) → ⊥) → h'.plain n f ≡ cells_now h' n f
  plain_still n f not_spare =
      with_changes_local e.changes h.plain (with_fresh e.fresh (cells_now h)) n f
      (filled_word e.fresh refl n f not_spare)
      ∙ sym (λ i. same_now i n f)

  own_reference : (n : ℕ) (f : Field) → h.reference n f ≡ Some x → Refers h'.stage h.op h'.plain h'.slot n f x
  own_reference n f is =
      let old : Refers h.stage h.op h.plain h.slot n f x = rule.refers n f x is in record {
        published = still_published x old.published;
        change = old.change;
        among = old.among;
        is_of = old.is_of;
        value = ap (λ (st : Stage). value_by st old.change.old old.change.new) stage_here
            ∙ sym (with_changes_at e.changes old.change h.plain well_formed.once old.among)
            ∙ (λ i. h'.plain (old.is_of.0 i) (old.is_of.1 i));
        in_use = slots_with-used e.fresh h.slot n old.in_use;
      }

  refers_still : (n : ℕ) (f : Field) (y : ℕ) → h.reference n f ≡ Some y → Refers h'.stage h.op h'.plain h'.slot n f y
  refers_still n f y is = ⊎_elim
      (λ same. subst (Refers h'.stage h.op h'.plain h'.slot n f) (sym same)
      (own_reference n f (is ∙ ap Some same)))
      (λ ne. let old : Refers h.stage h.op h.plain h.slot n f y = rule.refers n f y is in
      refers_stays h.stage h'.stage h.op h.op h.plain h'.plain h.slot h'.slot n f y (still_published y old.published) refl
      (λ a b. ap (λ (st : Stage). value_by st a b) (stage_other y ne))
      (with_changes_left e.changes h.plain n f (λ a among is_of. ne (same_option (h.reference n f) y x is
      ((λ i. h.reference (sym is_of.0 i) (sym is_of.1 i)) ∙ rule.held x s a open' can.drew among))))
      (slots_with-used e.fresh h.slot n) old)
      (cases_eq y x)

  unused_still : (n : ℕ) → (IsUsed (h'.slot n) → ⊥) → IsOdd (cells_now h' n Version)
  unused_still n not_used =
      let leaves : LeavesWord e n Version = record {
        unchanged = λ a among is. not_used (slots_with-used e.fresh h.slot n
            (subst (λ (m : ℕ). IsUsed (h.slot m)) is.0
            (own_refers h rule x s open' can.drew a among).in_use));
        not_fresh = λ g is same. not_used (slots_with-fresh e.fresh h.slot n g is same);
      } in
      let same : cells_now h' n Version ≡ cells_now h n Version =
      (λ i. same_now i n Version) ∙ applied_left e (cells_now h) n Version leaves in
      subst IsOdd (sym same) (rule.unused n (λ used. not_used (slots_with-used e.fresh h.slot n used)))

  fresh_still : (y : ℕ) (k : FreshNode) → IsUndecided (h'.stage y) → (h.op y).fresh ≡ Some k
      → IsReady (cells_now h') h'.plain h'.slot k
  fresh_still y k u is =
      let was : (y ≢ x) × IsUndecided (h.stage y) = not_this y u in
      let old : IsReady (cells_now h) h.plain h.slot k = rule.fresh y k was.1 is in
      let leaves : (f : Field) → LeavesWord e k.node f = λ f. leaves_fresh_of h rule x s open' can.drew y was.1
      (λ same. was.0 (sym same)) k f is in
      let same : cells_now h' k.node Version ≡ cells_now h k.node Version =
      (λ i. same_now i k.node Version) ∙ applied_left e (cells_now h) k.node Version (leaves Version) in record {
        is_spare = subst IsSpare (sym (slots_with-other e.fresh h.slot k.node (leaves Version).not_fresh)) old.is_spare;
        version = old.version ∙ ap (λ (v : ℕ). v + 1) (sym same);
        filled = λ f. with_changes_left e.changes h.plain k.node f (leaves f).unchanged ∙ old.filled f;
      }

  -- Looks at versions

  -- a reference is worth no less of a version than it was
  bound_grows : (n v r : ℕ) → IsBoundedBy h.stage h.op n v r → IsBoundedBy h'.stage h.op n v r
  bound_grows n v r old = record {
    published = still_published r old.published;
    change = old.change;
    among = old.among;
    is_of = old.is_of;
    bound = on_updated h.stage x (committed s) (λ (st : Stage). v ≤ value_by st old.change.old old.change.new) r
        (λ same. let among : IsAmong old.change e.changes =
        subst (λ (z : ℕ). IsAmong old.change (h.op z).changes) same old.among in
        let was : value_by (h.stage r) old.change.old old.change.new ≡ old.change.old =
        undecided_value (h.stage r) old.change.old old.change.new
        (subst (λ (z : ℕ). IsUndecided (h.stage z)) (sym same) open') in
        omega (arith, old.bound, was, changed_version_grows e well_formed old.change among old.is_of.1))
        (λ ne. old.bound);
  }

  below_grows : (n v : ℕ) (f : Found) → IsBelowFound h.stage h.op n v f → IsBelowFound h'.stage h.op n v f
  below_grows n v (value w) below = below
  below_grows n v (by r) below = bound_grows n v r below

  -- the version that the exchange gives a node is what its reference is worth
  own_bound : (t n v : ℕ) → s < t → IsBoundedBy h.stage h.op n v x
      → IsBoundedBy h'.stage h.op n (moments h' t n Version) x
  own_bound t n v lt old = record {
    published = still_published x old.published;
    change = old.change;
    among = old.among;
    is_of = old.is_of;
    bound = let worth : value_by (h'.stage x) old.change.old old.change.new ≡ old.change.new =
        ap (λ (st : Stage). value_by st old.change.old old.change.new) stage_here in
        let now : moments h' t n Version ≡ old.change.new =
        (λ i. entered.upper t lt i n Version)
        ∙ (λ i. applied e (moments h t) (sym old.is_of.0 i) (sym old.is_of.1 i))
        ∙ applied_change e well_formed (moments h t) old.change old.among in
        omega (arith, worth, now);
  }

  left_above : (t n : ℕ) → s < t → LeavesWord e n Version → moments h' t n Version ≡ moments h t n Version
  left_above t n lt leaves = (λ i. entered.upper t lt i n Version) ∙ applied_left e (moments h t) n Version leaves

  below_above : (t n : ℕ) (f : Found) → s < t → Looked h t n f
      → IsBelowFound h'.stage h.op n (moments h' t n Version) f
  below_above t n (value w) lt old = subst (λ (v : ℕ). v ≤ w) (sym (left_above t n lt
      (old.others x s open' can.drew lt (λ is. is)))) old.below
  below_above t n (by r) lt old = ⊎_elim
      (λ same. subst (IsBoundedBy h'.stage h.op n (moments h' t n Version)) (sym same)
      (own_bound t n (moments h t n Version) lt (subst (IsBoundedBy h.stage h.op n (moments h t n Version)) same
      old.below)))
      (λ ne. subst (λ (v : ℕ). IsBoundedBy h'.stage h.op n v r)
      (sym (left_above t n lt (old.others x s open' can.drew lt ne)))
      (bound_grows n (moments h t n Version) r old.below))
      (cases_eq r x)

  looked_still : (t n : ℕ) (f : Found) → t < h.clock → Looked h t n f → Looked h' t n f
  looked_still t n f lt old = record {
    others = λ y u undecided drew below not_by. old.others y u (not_this y undecided).1 drew below not_by;
    below = ⊎_elim
        (λ above. below_above t n f above old)
        (λ under. subst (λ (v : ℕ). IsBelowFound h'.stage h.op n v f) (sym (λ i. entered.lower t under i n Version))
        (below_grows n (moments h t n Version) f old.below))
        (cases_lt s t);
  }

  grows : Grows h h'
  grows = record {
    clock = le_refl h.clock;
    rose = entered.risen;
    published = λ y p. (still_published y p, refl);
    undecided = λ y p u. (not_this y u).1;
    decided = λ y d. stage_other y (λ same. decided_not_undecided (h.stage x)
        (subst (λ (z : ℕ). IsDecided (h.stage z)) same d) open');
    draws = λ t y drew. drew;
    held = λ y n f u is. is;
    in_use = slots_with-used e.fresh h.slot;
    looked = looked_still;
    last = refl;
    owner = λ y. refl;
    times = λ y p. refl;
    cleared = λ y c le is. is;
    now = λ n. as_great (moments h) (moments h') never_falls entered.risen h.clock n;
    clears = λ y is. is;
    items = λ t d is. updated_other h.item s (Some e) t (λ same. none_not_some d
        (sym empty_there ∙ ap h.item (sym same) ∙ is)) ∙ is;
  }

  caused_still : (y : ℕ) (w : Cause) → h'.stage y ≡ aborted w → IsCause h' y w
  caused_still y w is = ⊎_elim
      (λ here. absurd (let clash : committed s ≡ aborted w = here.1 in cc))
      (λ other. cause_stays h h' grows y w (aborted_is_published (h.stage y) w other.1) (rule.caused y w other.1))
      (from_updated h.stage x (committed s) (λ (st : Stage). st ≡ aborted w) y is)

  running_still : (y : ℕ) → (IsDecided (h'.stage y) → ⊥) → h.cleared_at y ≡ None
  running_still y not_decided = rule.running y (λ d. not_decided (subst IsDecided (sym (grows.decided y d)) d))

  rule_kept : Rule h'
  rule_kept = record {
    run = entered.run;
    taken = taken_still;
    standing = standing_still;
    past = λ y p. rule.past y (was_published y p);
    drawn = λ y t drew. (still_published y (rule.drawn y t drew).0, (rule.drawn y t drew).1);
    held = λ y t a u drew among. rule.held y t a (not_this y u).1 drew among;
    misses = misses_still;
    plain_is = plain_still;
    refers = refers_still;
    unused = unused_still;
    well_formed = λ y p. rule.well_formed y (was_published y p);
    fresh = fresh_still;
    apart = λ y z g k ne u v is_g is_k. rule.apart y z g k ne (not_this y u).1 (not_this z v).1 is_g is_k;
    saw = λ y u. saw_still (moments h) (moments h') never_falls entered.risen (h.published_at y) (h.op y)
        (rule.saw y (not_this y u).1);
    caused = caused_still;
    uncleared = rule.uncleared;
    running = running_still;
  }

  commits_keep : Keeps h h'
  commits_keep = record { rule = rule_kept; notes = notes_stay h h' never_falls grows }

pub commit_keeps : (h : History) → Rule h → (x s : ℕ) → CanCommit h x s → Keeps h (commit h x s)
commit_keeps h rule x s can = commits_keep h rule x s can
