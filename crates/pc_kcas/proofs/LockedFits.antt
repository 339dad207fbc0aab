-- An exchange that fits a shape with the nodes that it visits fits it with these locked in their place: a lock leaves a version what it is.
use Rattle.std.proofs.Common.{◌≡◌, ◌≢◌, ◌⊎◌, ⊎_elim, inl, inr, ℕ, zero, suc, ◌+◌, ◌%◌, ◌^◌, ◌<◌, ◌≤◌, length, true, false, List, [], ◌∷◌, ◌++◌, get_or, map, Option, Some, None, refl, sym, ap, ap₂, ◌∙◌, subst, arith}
use Rattle.std.proofs.lemmas.Bool.{cases_eq}
use Rattle.std.proofs.Math.ListN.{length-append}
use Rattle.std.proofs.lemmas.List.Sorted.{IsPermutation-refl, IsPermutation-sym}
use Rattle.std.specs.List.{All, AllPairs}
use Rattle.std.specs.List.Sorted.{IsPermutation}
use mathlib.Core.Option.{some, some-injective}
use lib.ListN.{get_elem?}
use Rattle.pc_model.specs.declared.cell.Field.{Field}
use Rattle.pc_model.specs.declared.cell.Field.TheVariants.{Version}
use Rattle.pc_model.specs.Cells.{Cells, IsEven, IsNode}
use Rattle.pc_model.specs.Exchanges.{Visited, Seen, Changed, FreshNode, Exchange, Stands, FreshStands, with_changes, with_fresh, applied}
use Rattle.pc_model.specs.Forms.{Form, IsSound, Fits}
use Rattle.pc_model.proofs.Writes.{with_node-other}
use Rattle.pc_history.specs.Footprints.{IsAmong, AreOnce}
use Rattle.pc_history.proofs.Footprints.{visits_stand, change_stands, changes_stand, with_changes_at, with_changes_left}
use Rattle.pc_rule_law.specs.Board.{place_number}
use Rattle.pc_rule_law.specs.Past.{Has}
use Rattle.pc_rule_law.proofs.Lists.{below_length, none_has, has_first, has_later, all_both, all_more, all_one}
use Rattle.pc_rule_law.proofs.Places.{one_word}
use Rattle.pc_exchange_law.specs.Paths.{Path}
use Rattle.pc_exchange_law.proofs.ChangeLists.{among_has}
use Rattle.pc_rule.specs.declared.opening.Place.{Place}
use Rattle.pc_rule.specs.declared.visit.Visit.{Visit}
use Rattle.pc_rule.specs.Listed.{word_number, AreListed}
use Rattle.pc_rule.specs.Starting.{change_of}
use Rattle.pc_rule.specs.Walking.{visited_of, FitsVisit}
use Rattle.pc_rule.proofs.Calls.{read_at}
use Rattle.pc_rule.proofs.Listing.{one_listed, listed_again}
use Rattle.pc_rule.proofs.Sharing.{from_map}
use Rattle.pc_kcas.specs.declared.mode.Mode.TheVariants.{Path as OfPath, LockedPath as OfLockedPath}
use Rattle.pc_kcas.specs.Exchanges.{FitsByMode}
use Rattle.pc_kcas.specs.Locks.{lock_of, lists_version, with_lock, with_locks, CanLock}
use Rattle.pc_kcas.proofs.Attempts.{has_in_order}
use Rattle.pc_kcas.proofs.Locks.{is_unlisted, on_lock, keeps_lock, keeps_locks, IsCoveredBy, covered_by}
use Rattle.pc_kcas.proofs.PathVisits.{visits_inside}

-- ---- words, and the changes that they are

-- a word is among those that change, or isn't
listed_or_not : (places : List Place) (n : ℕ) (f : Field) → ((p : Place) × Has places p × (p.node ≡ n) × (p.field ≡ f)) ⊎ ((p : Place) → Has places p → p.node ≡ n → p.field ≢ f)
listed_or_not [] n f = inr (λ p h node field. none_has p h)
listed_or_not (q ∷ places) n f = ⊎_elim
    (λ here. let w = one_word q.node n q.field f here in inl (q, has_first q places, w.0, w.1))
    (λ other. ⊎_elim
    (λ found. inl (found.0, has_later q places found.0 found.1, found.2, found.3))
    (λ none'. inr (all_more (λ (p : Place). p.node ≡ n → p.field ≢ f) q places (λ node field. other (ap₂ place_number node field)) none'))
    (listed_or_not places n f))
    (cases_eq (word_number q) (place_number n f))

among_change : (places : List Place) (p : Place) → Has places p → IsAmong (change_of p) (map change_of places)
among_change [] p h = absurd (none_has p h)
among_change (q ∷ places) p (zero, at) = inl (ap change_of (sym (some-injective q p at)))
among_change (q ∷ places) p (suc i, at) = inr (among_change places p (i, at))

change_among : (places : List Place) (a : Changed) → IsAmong a (map change_of places) → (p : Place) × Has places p × (change_of p ≡ a)
change_among places a among = let h = among_has (map change_of places) a among in let p = from_map change_of places h.0 a h.1 in (p.0, (h.0, p.1), p.2)

abbrev Apart : List Place → Type 0
Apart places = AllPairs (λ p q. word_number p ≢ word_number q) places

-- each of the words once
once : (places : List Place) → Apart places → AreOnce (map change_of places)
once [] apart = tt
once (p ∷ places) apart = (
  (λ b among same. let r = change_among places b among in let q : Place = r.0 in let i : ℕ = r.1.0 in
      let there : get_or places i p ≡ q = read_at places i q p r.1.1 in
      apart 0 (suc i) p (omega arith) (let lt = below_length places i q r.1.1 in omega arith)
      (ap₂ place_number (sym (ap (λ (c : Changed). c.node) r.2 ∙ same.0)) (sym (ap (λ (c : Changed). c.field) r.2 ∙ same.1)) ∙ ap word_number (sym there))),
  once places (λ i j d lt below. apart (suc i) (suc j) d (omega arith) (omega arith)),
)

-- ---- locks among the words

-- the word is the lock of a visited node, and none of these words
record IsLock (places : List Place) (visits : List Visited) (p : Place) : Type 0 where
  visit : Visited
  among : IsAmong visit visits
  is : lock_of visit ≡ p
  other : (q : Place) → Has places q → word_number q ≢ word_number p

-- a lock that isn't among the words is of no word of theirs
none_same : (u : Visited) (places : List Place) → lists_version u.node places ≡ false → (q : Place) → Has places q → word_number q ≢ word_number (lock_of u)
none_same u places none' q h = subst (λ (r : Place). word_number r ≢ word_number (lock_of u)) (read_at places h.0 q q h.1)
    (is_unlisted u places none' h.0 q (below_length places h.0 q h.1))

listed_or_lock : (places : List Place) (visits : List Visited) (p : Place) → Has (with_locks places visits) p → Has places p ⊎ IsLock places visits p
listed_or_lock places [] p h = inl h
listed_or_lock places (u ∷ visits) p h = ⊎_elim
    (λ has. on_lock (λ l. Has l p → Has places p ⊎ IsLock places (u ∷ visits) p) places u (λ _ g. inl g)
    (λ none' g. all_both (λ q. Has places q ⊎ IsLock places (u ∷ visits) q) places (lock_of u ∷ []) (λ q there. inl there)
    (all_one (λ q. Has places q ⊎ IsLock places (u ∷ visits) q) (lock_of u)
    (inr (record { visit = u; among = inl refl; is = refl; other = none_same u places none' }))) p g) has)
    (λ lock. inr (record { visit = lock.visit; among = inr lock.among; is = lock.is; other = λ q g. lock.other q (keeps_lock places u q g) }))
    (listed_or_lock (with_lock places u) visits p h)

-- with the locks they are words of the board, each once, where there is room
locks_listed : (slots : ℕ) (places : List Place) (visits : List Visited) → ((u : Visited) → IsAmong u visits → IsNode slots u.node × (u.version < 2 ^ 62))
    → length places + length visits ≤ 25 + slots → AreListed slots places → AreListed slots (with_locks places visits)
locks_listed slots places [] fit few all = all
locks_listed slots places (u ∷ visits) fit few all = let fits = fit u (inl refl) in locks_listed slots (with_lock places u) visits (λ v among. fit v (inr among))
    (on_lock (λ l. length l + length visits ≤ 25 + slots) places u (λ _. omega arith) (λ _. let n = length-append places (lock_of u ∷ []) in omega arith))
    (on_lock (AreListed slots) places u (λ _. all)
    (λ none'. one_listed slots places (places ++ lock_of u ∷ []) (lock_of u) refl all (omega arith) (fits.0, fits.1, fits.1) (is_unlisted u places none')))

-- ---- what the words make of cells

abbrev changed_by : List Place → Cells → Cells
changed_by places c = with_changes (map change_of places) c

new_there : (places : List Place) (c : Cells) (p : Place) → Apart places → Has places p → changed_by places c p.node p.field ≡ p.new
new_there places c p apart h = with_changes_at (map change_of places) (change_of p) c (once places apart) (among_change places p h)

same_there : (places : List Place) (c : Cells) (n : ℕ) (f : Field) → ((p : Place) → Has places p → p.node ≡ n → p.field ≢ f) → changed_by places c n f ≡ c n f
same_there places c n f none' = with_changes_left (map change_of places) c n f (λ a among is. let r = change_among places a among in
    none' r.0 r.1 (ap (λ (x : Changed). x.node) r.2 ∙ is.0) (ap (λ (x : Changed). x.field) r.2 ∙ is.1))

module _ (slots : ℕ) (places : List Place) (visits : List Visited) (ordered : List Place) (listed : AreListed slots places) (all : AreListed slots (with_locks places visits))
    (same : IsPermutation (with_locks places visits) ordered) where
  in_order : (p : Place) → Has places p → Has ordered p
  in_order p h = has_in_order (with_locks places visits) ordered same p (keeps_locks places visits p h)

  ordered_apart : Apart ordered
  ordered_apart = (listed_again slots (with_locks places visits) ordered same all).apart

  -- where the locks stand, they change nothing
  at_word : (c : Cells) → ((p : Place) → IsLock places visits p → c p.node p.field ≡ p.old) → (n : ℕ) (f : Field) → changed_by ordered c n f ≡ changed_by places c n f
  at_word c locks n f = ⊎_elim
      (λ found. let p : Place = found.0 in
      subst (λ (m : ℕ). changed_by ordered c m f ≡ changed_by places c m f) found.2
      (subst (λ (g : Field). changed_by ordered c p.node g ≡ changed_by places c p.node g) found.3
      (new_there ordered c p ordered_apart (in_order p found.1) ∙ sym (new_there places c p listed.apart found.1))))
      (λ none'. ⊎_elim
      (λ found. by_lock none' found.0 found.1 found.2 found.3)
      (λ other. same_there ordered c n f other ∙ sym (same_there places c n f none'))
      (listed_or_not ordered n f))
      (listed_or_not places n f)
    where
      by_lock : ((p : Place) → Has places p → p.node ≡ n → p.field ≢ f) → (q : Place) → Has ordered q → q.node ≡ n → q.field ≡ f
          → changed_by ordered c n f ≡ changed_by places c n f
      by_lock none' q h node field = ⊎_elim
          (λ there. absurd (none' q there node field))
          (λ lock. subst (λ (m : ℕ). changed_by ordered c m f ≡ c m f) node
          (subst (λ (g : Field). changed_by ordered c q.node g ≡ c q.node g) field
          (new_there ordered c q ordered_apart h ∙ (subst (λ (p : Place). p.new ≡ p.old) lock.is refl ∙ sym (locks q lock))))
          ∙ sym (same_there places c n f none'))
          (listed_or_lock places visits q (has_in_order ordered (with_locks places visits) (IsPermutation-sym (with_locks places visits) ordered same) q h))

  -- ---- the exchange of these words, with locks or with visits

  module _ (reads : List Seen) (fresh : Option FreshNode) where
    abbrev visiting : Exchange
    visiting = record { visits = visits; reads = reads; changes = map change_of places; fresh = fresh }

    abbrev locking : Exchange
    locking = record { visits = []; reads = reads; changes = map change_of ordered; fresh = fresh }

    module _ (even : (u : Visited) → IsAmong u visits → IsEven u.version) (covered : (u : Visited) → IsAmong u visits → IsCoveredBy (with_locks places visits) u) where
      stands_at : (c : Cells) → Stands locking c → (p : Place) → Has ordered p → c p.node p.field ≡ p.old
      stands_at c stands p h = change_stands c (map change_of ordered) (change_of p) stands.changes (among_change ordered p h)

      visit_at : (c : Cells) → Stands locking c → (u : Visited) → IsAmong u visits → c u.node Version ≡ u.version
      visit_at c stands u among = let r = covered u among in let p : Place = r.0 in
          subst (λ (n : ℕ). c n Version ≡ u.version) r.2 (subst (λ (f : Field). c p.node f ≡ u.version) r.3
          (stands_at c stands p (has_in_order (with_locks places visits) ordered same p r.1) ∙ r.4))

      as_visiting : (c : Cells) → Stands locking c → Stands visiting c
      as_visiting c stands = record {
        visits = visits_stand c visits (λ u among. (visit_at c stands u among, even u among));
        reads = stands.reads;
        changes = changes_stand c (map change_of places) (λ a among. let r = change_among places a among in
            subst (λ (x : Changed). c x.node x.field ≡ x.old) r.2 (stands_at c stands r.0 (in_order r.0 r.1)));
        fresh = stands.fresh;
      }

      -- no visited node is the one that it makes
      not_made : (o : Option FreshNode) (c : Cells) (n : ℕ) → FreshStands c o → IsEven (c n Version) → with_fresh o c n Version ≡ c n Version
      not_made None c n stands is = refl
      not_made (Some g) c n stands is = with_node-other g.node g.fields c n Version
          (λ at. let odd : c n Version % 2 ≡ 1 = subst (λ (m : ℕ). c m Version % 2 ≡ 1) (sym at) stands.0 in absurd (omega arith))

      lock_at : (c : Cells) → Stands locking c → (p : Place) → IsLock places visits p → with_fresh fresh c p.node p.field ≡ p.old
      lock_at c stands p lock = let u = lock.visit in let at = visit_at c stands u lock.among in
          subst (λ (q : Place). with_fresh fresh c q.node q.field ≡ q.old) lock.is
          (not_made fresh c u.node stands.fresh (subst IsEven (sym at) (even u lock.among)) ∙ at)

      same_cells : (c : Cells) → Stands locking c → applied locking c ≡ applied visiting c
      same_cells c stands = λ i n f. at_word (with_fresh fresh c) (lock_at c stands) n f i

      fits_locked : (form : Form) (keys : List ℕ) → Fits form slots visiting keys → Fits form slots locking keys
      fits_locked form keys fits = record {
        leaves = λ c sound stands. subst (IsSound form slots) (sym (same_cells c stands)) (fits.leaves c sound (as_visiting c stands));
        charges = λ c k sound stands debt. fits.charges c k sound (as_visiting c stands) (subst (λ (d : Cells). form.in_debt slots d k) (same_cells c stands) debt);
      }

visit_even : (visits : List Visited) (held : List Visit) → visits ≡ map visited_of held → All (λ (v : Visit). IsEven v.version) held → (u : Visited) → IsAmong u visits
    → IsEven u.version
visit_even visits held is even u among = let h = among_has visits u among in
    let v = from_map visited_of held h.0 u (subst (λ (l : List Visited). get_elem? l h.0 ≡ some u) is h.1) in
    subst (λ (w : Visited). IsEven w.version) v.2 (subst (λ (w : Visit). IsEven w.version) (read_at held h.0 v.0 v.0 v.1) (even h.0 v.0 (below_length held h.0 v.0 v.1)))

-- An exchange of these words that fits by what was visited fits where the path is locked: where no node was visited at two versions, and
-- each at an even one.
pub locked_fits : (form : Form) (slots : ℕ) (path : Path) (held : List Visit) (places : List Place) → path.visits ≡ map visited_of held → All (FitsVisit slots) held
    → length held ≤ slots + 1 → All (λ (v : Visit). IsEven v.version) held → CanLock held places → AreListed slots places
    → FitsByMode form slots OfPath path places → FitsByMode form slots OfLockedPath path places
locked_fits form slots path held places is fit few even can listed fits ordered same =
    let inside = visits_inside slots path held is OfPath fit few in let long = inside.0 in let short = can.few in
    let all = locks_listed slots places path.visits (λ u among. inside.1 u (among_has path.visits u among)) (omega arith) listed in
    let f = fits places (IsPermutation-refl places) in (
      f.0,
      fits_locked slots places path.visits ordered listed all same path.reads None (visit_even path.visits held is even) (covered_by OfLockedPath path held places is can)
          form f.0 f.1,
    )
