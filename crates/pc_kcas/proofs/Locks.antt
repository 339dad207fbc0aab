-- What holds of the words of an exchange when the locks of its path are among them.
use Rattle.std.proofs.Common.{◌≡◌, ◌≢◌, ◌⊎◌, ⊎_elim, inl, inr, ℕ, zero, suc, ◌+◌, ◌<◌, ◌≤◌, ◌==◌, ◌||◌, if◌then◌else◌, Bool, true, false, List, [], ◌∷◌, ◌++◌, length, get_or, map, drop, refl, sym, ap, ap₂, ◌∙◌, subst, arith}
use Rattle.std.proofs.Math.ListN.{length-append}
use Rattle.std.proofs.lemmas.Bool.{cases_Bool}
use Rattle.std.proofs.lemmas.Bool.Decides.{nat_tests}
use Rattle.std.proofs.lemmas.List.{drop_more}
use Rattle.std.specs.List.{All}
use mathlib.Core.Option.{some}
use lib.ListN.{get_elem?}
use Rattle.pc_model.specs.declared.cell.Field.{Field}
use Rattle.pc_model.specs.declared.cell.Field.TheVariants.{Version}
use Rattle.pc_model.specs.Cells.{IsEven}
use Rattle.pc_model.specs.Exchanges.{Visited}
use Rattle.pc_history.specs.Footprints.{IsAmong}
use Rattle.pc_rule_law.specs.Board.{Size, place_number}
use Rattle.pc_rule_law.specs.Past.{Has}
use Rattle.pc_rule_law.proofs.Lists.{below_length, has_first, has_left, has_right, all_both, all_one}
use Rattle.pc_rule_law.proofs.Places.{one_word}
use Rattle.pc_protocol.specs.Notes.{Note as ToldNote, saw, in_use}
use Rattle.pc_exchange_law.specs.ExchangeConditions.{KnowsOld, was_read, is_version, was_visited, was_opened, was_written}
use Rattle.pc_exchange_law.specs.Passes.{PassKnows}
use Rattle.pc_exchange_law.specs.Paths.{Path, read_of}
use Rattle.pc_exchange_law.specs.Slots.{IsHeld, IsHeldOrVisited}
use Rattle.pc_exchange_law.proofs.ChangeLists.{among_has}
use Rattle.pc_rule.specs.declared.opening.Place.{Place}
use Rattle.pc_rule.specs.declared.visit.Visit.{Visit}
use Rattle.pc_rule.specs.Listed.{word_number, IsUnlisted}
use Rattle.pc_rule.specs.Walking.{visited_of, path_with}
use Rattle.pc_rule.proofs.Calls.{read_at}
use Rattle.pc_rule.proofs.Sharing.{from_map}
use Rattle.pc_rule.proofs.Starting.{element}
use Rattle.pc_kcas.specs.declared.mode.Mode.{Mode}
use Rattle.pc_kcas.specs.declared.mode.Mode.TheVariants.{Words, Path as OfPath, LockedPath as OfLockedPath}
use Rattle.pc_kcas.specs.Exchanges.{IsOneWord, RaisesVersions, KnowsOldValues}
use Rattle.pc_kcas.specs.Locks.{lock_of, lists_version, with_lock, with_locks, words_by, WhereLocked, CanLock}

-- ---- whether a version is listed

-- a word that is, or isn't, the version of the node
is_version_word : (p : Place) (n : ℕ) → word_number p ≡ place_number n Version → (word_number p == place_number n Version) ≡ true
is_version_word p n e = grind (arith, nat_tests)

is_no_version : (p : Place) (n : ℕ) → word_number p ≢ place_number n Version → (word_number p == place_number n Version) ≡ false
is_no_version p n ne = grind (arith, nat_tests)

was_version : (p : Place) (n : ℕ) → (word_number p == place_number n Version) ≡ true → word_number p ≡ place_number n Version
was_version p n e = grind (arith, nat_tests)

was_no_version : (p : Place) (n : ℕ) → (word_number p == place_number n Version) ≡ false → word_number p ≢ place_number n Version
was_no_version p n e = grind (arith, nat_tests)

first_or : (a b : Bool) → a ≡ true → (a || b) ≡ true
first_or true b e = refl
first_or false b e = grind arith

second_or : (a b : Bool) → a ≡ false → (a || b) ≡ b
second_or false b e = refl
second_or true b e = grind arith

first_not : (a b : Bool) → (a || b) ≡ false → a ≡ false
first_not false b e = refl
first_not true b e = e

second_not : (a b : Bool) → (a || b) ≡ false → b ≡ false
second_not false b e = e
second_not true b e = grind arith

-- the version stands at this index, or elsewhere
pub lists_here : (places : List Place) (i n : ℕ) (d : Place) → i < length places → word_number (get_or places i d) ≡ place_number n Version
    → lists_version n places ≡ lists_version n (drop i places) → lists_version n places ≡ true
unfolding first_or is_version_word
lists_here places i n d lt e so = so ∙ (ap (lists_version n) (drop_more places i d lt) ∙ first_or _ _ (is_version_word (get_or places i d) n e))

pub lists_elsewhere : (places : List Place) (i n : ℕ) (d : Place) → i < length places → word_number (get_or places i d) ≢ place_number n Version
    → lists_version n places ≡ lists_version n (drop i places) → lists_version n places ≡ lists_version n (drop (i + 1) places)
unfolding second_or is_no_version
lists_elsewhere places i n d lt ne so = so ∙ (ap (lists_version n) (drop_more places i d lt) ∙ second_or _ _ (is_no_version (get_or places i d) n ne))

-- a version that isn't listed is none of the words; and one that is, is one of them
unlisted : (n : ℕ) (places : List Place) → lists_version n places ≡ false → (p : Place) → Has places p → word_number p ≢ place_number n Version
unfolding first_not second_not was_no_version
unlisted n [] e p (i, at) = grind arith
unlisted n (q ∷ places) e p (zero, at) = subst (λ (r : Place). word_number r ≢ place_number n Version) (read_at (q ∷ places) 0 p p at)
    (was_no_version q n (first_not _ _ e))
unlisted n (q ∷ places) e p (suc i, at) = unlisted n places (second_not _ _ e) p (i, at)

pub is_unlisted : (u : Visited) (places : List Place) → lists_version u.node places ≡ false → IsUnlisted places (lock_of u)
unfolding unlisted
is_unlisted u places e k d lt = unlisted u.node places e (get_or places k d) (k, element places k d lt)

listed_version : (n : ℕ) (places : List Place) → lists_version n places ≡ true → (p : Place) × Has places p × (p.node ≡ n) × (p.field ≡ Version)
unfolding second_or was_version
listed_version n [] e = grind arith
listed_version n (q ∷ places) e = ⊎_elim
    (λ (here : (word_number q == place_number n Version) ≡ true). let w = one_word q.node n q.field Version (was_version q n here) in
    (q, has_first q places, w.0, w.1))
    (λ (other : (word_number q == place_number n Version) ≡ false). let r = listed_version n places (sym (second_or _ _ other) ∙ e) in
    (r.0, (suc r.1.0, r.1.1), r.2, r.3))
    (cases_Bool (word_number q == place_number n Version))

-- ---- one lock

on_either : (P : List Place → Type 0) (b : Bool) (xs ys : List Place) → (b ≡ true → P xs) → (b ≡ false → P ys) → P (if b then xs else ys)
on_either P true xs ys one other = one refl
on_either P false xs ys one other = other refl

pub on_lock : (P : List Place → Type 0) (places : List Place) (u : Visited) → (lists_version u.node places ≡ true → P places)
    → (lists_version u.node places ≡ false → P (places ++ lock_of u ∷ [])) → P (with_lock places u)
unfolding on_either
on_lock P places u one other = on_either P (lists_version u.node places) places (places ++ lock_of u ∷ []) one other

-- what was listed is listed still
pub keeps_lock : (places : List Place) (u : Visited) (p : Place) → Has places p → Has (with_lock places u) p
unfolding on_lock
keeps_lock places u p h = on_lock (λ l. Has l p) places u (λ _. h) (λ _. has_left places (lock_of u ∷ []) p h)

pub keeps_locks : (places : List Place) (visits : List Visited) (p : Place) → Has places p → Has (with_locks places visits) p
unfolding keeps_lock
keeps_locks places [] p h = h
keeps_locks places (u ∷ visits) p h = keeps_locks (with_lock places u) visits p (keeps_lock places u p h)

-- and none is lost
one_lock : (places : List Place) (u : Visited) → length places ≤ length (with_lock places u)
unfolding on_lock
one_lock places u = on_lock (λ l. length places ≤ length l) places u (λ _. omega arith) (λ _. let n = length-append places (lock_of u ∷ []) in omega arith)

all_locks : (places : List Place) (visits : List Visited) → length places ≤ length (with_locks places visits)
unfolding one_lock
all_locks places [] = omega arith
all_locks places (u ∷ visits) = let a = one_lock places u in let b = all_locks (with_lock places u) visits in omega arith

pub more_words : (mode : Mode) (p : Path) (places : List Place) → length places ≤ length (words_by mode p places)
unfolding all_locks
more_words Words p places = omega arith
more_words OfPath p places = omega arith
more_words OfLockedPath p places = all_locks places p.visits

-- ---- each node is raised, or locked

-- with the word comes the version of its node, which rises, and to an even number or as the node's one word, or stays as that
abbrev pub RaisesOrLocks : List Place → Place → Type 0
RaisesOrLocks places p = (v : Place) × Has places v × (v.node ≡ p.node) × (v.field ≡ Version)
    × (((v.old < v.new) × (p.field ≡ Version → IsEven p.new ⊎ IsOneWord places p.node)) ⊎ ((v.new ≡ v.old) × IsOneWord places p.node))

abbrev pub AllRaiseOrLock : List Place → Type 0
AllRaiseOrLock places = (p : Place) → Has places p → RaisesOrLocks places p

pub raise_all : (places : List Place) → RaisesVersions places → AllRaiseOrLock places
raise_all places raises p h =
    let r = subst (λ (q : Place). (v : Place) × Has places v × (v.node ≡ q.node) × (v.field ≡ Version) × ((v.new ≡ v.old + 2) ⊎ (v.new ≡ v.old + 1))
    × (q.field ≡ Version → IsEven q.new ⊎ IsOneWord places q.node))
    (read_at places h.0 p p h.1)
    (raises h.0 p (below_length places h.0 p h.1)) in
    let v : Place = r.0 in let more : (v.new ≡ v.old + 2) ⊎ (v.new ≡ v.old + 1) = r.4 in
    (v, r.1, r.2, r.3, inl (⊎_elim (λ (two : v.new ≡ v.old + 2). omega arith) (λ (one : v.new ≡ v.old + 1). omega arith) more, r.5))

module _ (places : List Place) (u : Visited) (all : AllRaiseOrLock places) (none : lists_version u.node places ≡ false) where
  -- none of the words is of the node
  not_of_node : (q : Place) → Has places q → q.node ≢ u.node
  unfolding unlisted
  not_of_node q h e = let r = all q h in let v : Place = r.0 in
      unlisted u.node places none v r.1 (ap₂ place_number (r.2 ∙ e) r.3)

  one_word_more : (n : ℕ) → IsOneWord places n → IsOneWord (places ++ lock_of u ∷ []) n
  one_word_more n one = all_both (λ (q : Place). q.node ≡ n → q.field ≡ Version) places (lock_of u ∷ []) one
      (all_one (λ (q : Place). q.node ≡ n → q.field ≡ Version) (lock_of u) (λ _. refl))

  locked_more : AllRaiseOrLock (places ++ lock_of u ∷ [])
  unfolding not_of_node one_word_more
  locked_more = all_both (RaisesOrLocks (places ++ lock_of u ∷ [])) places (lock_of u ∷ [])
      (λ p h. let r = all p h in (
        r.0,
        has_left places (lock_of u ∷ []) r.0 r.1,
        r.2,
        r.3,
        ⊎_elim (λ rises. inl (rises.0, λ version. ⊎_elim (λ even. inl even) (λ one. inr (one_word_more p.node one)) (rises.1 version)))
            (λ locks. inr (locks.0, one_word_more p.node locks.1)) r.4,
      ))
      (all_one (RaisesOrLocks (places ++ lock_of u ∷ [])) (lock_of u) (
        lock_of u,
        has_right places (lock_of u ∷ []) (lock_of u) (has_first (lock_of u) []),
        refl,
        refl,
        inr (
          refl,
          all_both (λ (q : Place). q.node ≡ u.node → q.field ≡ Version) places (lock_of u ∷ []) (λ q h e. absurd (not_of_node q h e))
              (all_one (λ (q : Place). q.node ≡ u.node → q.field ≡ Version) (lock_of u) (λ _. refl)),
        ),
      ))

raise_or_lock : (places : List Place) (visits : List Visited) → AllRaiseOrLock places → AllRaiseOrLock (with_locks places visits)
unfolding on_lock locked_more
raise_or_lock places [] all = all
raise_or_lock places (u ∷ visits) all = raise_or_lock (with_lock places u) visits
    (on_lock AllRaiseOrLock places u (λ _. all) (λ none. locked_more places u all none))

pub raises_by : (mode : Mode) (p : Path) (places : List Place) → RaisesVersions places → AllRaiseOrLock (words_by mode p places)
unfolding raise_all raise_or_lock
raises_by Words p places raises = raise_all places raises
raises_by OfPath p places raises = raise_all places raises
raises_by OfLockedPath p places raises = raise_or_lock places p.visits (raise_all places raises)

-- ---- the old numbers are known

abbrev pub KnowsItsOld : Size → PassKnows → List Place → Place → Type 0
KnowsItsOld z k places p = (v : Place) × Has places v × (v.node ≡ p.node) × (v.field ≡ Version) × KnowsOld z k p.node v.old p.field p.old

abbrev pub AllKnown : Size → PassKnows → List Place → Type 0
AllKnown z k places = (p : Place) → Has places p → KnowsItsOld z k places p

-- what is asked of each listed word
abbrev KnowsAndHolds : Size → PassKnows → List Place → Place → Type 0
KnowsAndHolds z k places p = (v : Place) × Has places v × (v.node ≡ p.node) × (v.field ≡ Version) × KnowsOld z k p.node v.old p.field p.old × IsHeld k p.node

-- an old number that was known is known still
pub old_still : (z : Size) (k k' : PassKnows) (n v : ℕ) (f : Field) (x : ℕ) → ((m : ToldNote) → Has k.told m → Has k'.told m) → KnowsOld z k n v f x
    → KnowsOld z k' n v f x
old_still z k k' n v f x more (was_read c h) = was_read c (more _ h)
old_still z k k' n v f x more (is_version c at is h) = is_version c at is (more _ h)
old_still z k k' n v f x more (was_visited c e u field is at_node at_version among h) = was_visited c e u field is at_node at_version among (more _ h)
old_still z k k' n v f x more (was_opened version is) = was_opened version is
old_still z k k' n v f x more (was_written y s c before old e decided there one other) = was_written y s c before old e (more _ decided) (more _ there) one other

module _ (z : Size) (k : PassKnows) where
  pub known_all : (k' : PassKnows) (places : List Place) → ((m : ToldNote) → Has k'.told m → Has k.told m) → KnowsOldValues z k' places → AllKnown z k places
  unfolding old_still
  known_all k' places more known p h = let r = subst (KnowsAndHolds z k' places) (read_at places h.0 p p h.1) (known h.0 p (below_length places h.0 p h.1)) in
      let v : Place = r.0 in (v, r.1, r.2, r.3, old_still z k' k p.node v.old p.field p.old more r.4)

  known_more : (places : List Place) (u : Visited) → KnowsOld z k u.node u.version Version u.version → AllKnown z k places
      → AllKnown z k (places ++ lock_of u ∷ [])
  known_more places u is all = all_both (KnowsItsOld z k (places ++ lock_of u ∷ [])) places (lock_of u ∷ [])
      (λ p h. let r = all p h in (r.0, has_left places (lock_of u ∷ []) r.0 r.1, r.2, r.3, r.4))
      (all_one (KnowsItsOld z k (places ++ lock_of u ∷ [])) (lock_of u)
      (lock_of u, has_right places (lock_of u ∷ []) (lock_of u) (has_first (lock_of u) []), refl, refl, is))

  known_locks : (places : List Place) (visits : List Visited) → ((u : Visited) → IsAmong u visits → KnowsOld z k u.node u.version Version u.version)
      → AllKnown z k places → AllKnown z k (with_locks places visits)
  unfolding on_lock known_more
  known_locks places [] each all = all
  known_locks places (u ∷ visits) each all = known_locks (with_lock places u) visits (λ v among. each v (inr among))
      (on_lock (AllKnown z k) places u (λ _. all) (λ _. known_more places u (each u (inl refl)) all))

  pub known_by : (mode : Mode) (p : Path) (places : List Place) → ((u : Visited) → IsAmong u p.visits → KnowsOld z k u.node u.version Version u.version)
      → AllKnown z k places → AllKnown z k (words_by mode p places)
  unfolding known_locks
  known_by Words p places each all = all
  known_by OfPath p places each all = all
  known_by OfLockedPath p places each all = known_locks places p.visits each all

  -- a version that was visited is known
  pub visit_known : (p : Path) (held : List Visit) (c : ℕ) → Has k.told (saw c (read_of p)) → (u : Visited) → IsAmong u (path_with held p).visits
      → KnowsOld z k u.node u.version Version u.version
  visit_known p [] c seen u among = absurd among
  visit_known p (v ∷ held) c seen u among = was_visited c (read_of p) u refl refl refl refl among seen

-- ---- the nodes are in use

abbrev pub AllTouched : PassKnows → List Visited → List Place → Type 0
AllTouched k visits places = (p : Place) → Has places p → IsHeldOrVisited k visits p.node

-- the visits that a pass holds are among those of its path
held_visit : (held : List Visit) (p : Path) (u : Visited) → IsAmong u (path_with held p).visits → IsAmong u p.visits
held_visit [] p u among = absurd among
held_visit (v ∷ held) p u among = among

module _ (k : PassKnows) (visits : List Visited) where
  -- nodes that are held are so for a pass that knows more
  pub touched_all : (z : Size) (k' : PassKnows) (places : List Place) → ((m : ToldNote) → Has k'.told m → Has k.told m) → KnowsOldValues z k' places
      → AllTouched k visits places
  touched_all z k' places more known p h = let r = subst (KnowsAndHolds z k' places) (read_at places h.0 p p h.1) (known h.0 p (below_length places h.0 p h.1)) in
      inl (⊎_elim (λ sentinel. inl sentinel) (λ told. inr (more (in_use p.node) told)) r.5)

  touched_locks : (places : List Place) (locked : List Visited) → ((u : Visited) → IsAmong u locked → IsAmong u visits) → AllTouched k visits places
      → AllTouched k visits (with_locks places locked)
  unfolding on_lock
  touched_locks places [] of all = all
  touched_locks places (u ∷ locked) of all = touched_locks (with_lock places u) locked (λ v among. of v (inr among))
      (on_lock (AllTouched k visits) places u (λ _. all) (λ _. all_both (λ (q : Place). IsHeldOrVisited k visits q.node) places (lock_of u ∷ []) all
      (all_one (λ (q : Place). IsHeldOrVisited k visits q.node) (lock_of u) (inr (u, of u (inl refl), refl)))))

-- and a lock is of a node that was visited
pub touched_by : (k : PassKnows) (mode : Mode) (held : List Visit) (p : Path) (places : List Place) → AllTouched k p.visits places
    → AllTouched k p.visits (words_by mode (path_with held p) places)
unfolding held_visit touched_locks
touched_by k Words held p places all = all
touched_by k OfPath held p places all = all
touched_by k OfLockedPath held p places all = touched_locks k p.visits places (path_with held p).visits (held_visit held p) all

-- ---- each visit is covered

-- the words change the version of a visited node from the one visited
abbrev pub IsCoveredBy : List Place → Visited → Type 0
IsCoveredBy places u = (p : Place) × Has places p × (p.node ≡ u.node) × (p.field ≡ Version) × (p.old ≡ u.version)

-- no other version of these nodes is among the words
abbrev AreListedSo : List Place → List Visited → Type 0
AreListedSo places visits = (u : Visited) (p : Place) → IsAmong u visits → Has places p → p.node ≡ u.node → p.field ≡ Version → p.old ≡ u.version

covered_first : (places : List Place) (u : Visited) → ((p : Place) → Has places p → p.node ≡ u.node → p.field ≡ Version → p.old ≡ u.version)
    → IsCoveredBy (with_lock places u) u
unfolding on_lock listed_version
covered_first places u listed = on_lock (λ l. IsCoveredBy l u) places u
    (λ there. let r = listed_version u.node places there in (r.0, r.1, r.2, r.3, listed r.0 r.1 r.2 r.3))
    (λ _. (lock_of u, has_right places (lock_of u ∷ []) (lock_of u) (has_first (lock_of u) []), refl, refl, refl))

listed_still : (places : List Place) (u : Visited) (visits : List Visited) → ((v : Visited) → IsAmong v visits → u.node ≡ v.node → u.version ≡ v.version)
    → AreListedSo places visits → AreListedSo (with_lock places u) visits
unfolding on_lock
listed_still places u visits once listed = on_lock (λ l. AreListedSo l visits) places u (λ _. listed)
    (λ _ v p among h. all_both (λ (q : Place). q.node ≡ v.node → q.field ≡ Version → q.old ≡ v.version) places (lock_of u ∷ []) (λ q g. listed v q among g)
    (all_one (λ (q : Place). q.node ≡ v.node → q.field ≡ Version → q.old ≡ v.version) (lock_of u) (λ node field. once v among node)) p h)

covered : (places : List Place) (visits : List Visited) → AreListedSo places visits
    → ((u v : Visited) → IsAmong u visits → IsAmong v visits → u.node ≡ v.node → u.version ≡ v.version)
    → (u : Visited) → IsAmong u visits → IsCoveredBy (with_locks places visits) u
unfolding covered_first listed_still keeps_locks
covered places [] listed once u among = absurd among
covered places (v ∷ visits) listed once u (inl here) = subst (IsCoveredBy (with_locks (with_lock places v) visits)) (sym here)
    (let r = covered_first places v (λ p h. listed v p (inl refl) h) in (r.0, keeps_locks (with_lock places v) visits r.0 r.1, r.2, r.3, r.4))
covered places (v ∷ visits) listed once u (inr later) = covered (with_lock places v) visits
    (listed_still places v visits (λ w among. once v w (inl refl) (inr among)) (λ w p among. listed w p (inr among)))
    (λ w x one other. once w x (inr one) (inr other)) u later

pub covered_by : (mode : Mode) (p : Path) (held : List Visit) (places : List Place) → p.visits ≡ map visited_of held → WhereLocked mode (CanLock held places)
    → WhereLocked mode ((u : Visited) → IsAmong u p.visits → IsCoveredBy (words_by mode p places) u)
unfolding covered
covered_by Words p held places is can = tt
covered_by OfPath p held places is can = tt
covered_by OfLockedPath p held places is can = covered places p.visits
    (λ u q among h. let v = a_visit u among in subst (λ (w : Visited). q.node ≡ w.node → q.field ≡ Version → q.old ≡ w.version) v.2 (can.listed v.0 q v.1 h))
    (λ u w one other. let v = a_visit u one in let x = a_visit w other in
    subst (λ (y : Visited). y.node ≡ w.node → y.version ≡ w.version) v.2 (subst (λ (y : Visited). v.0.node ≡ y.node → v.0.version ≡ y.version) x.2
    (can.once v.0 x.0 v.1 x.1)))
  where
    a_visit : (u : Visited) → IsAmong u p.visits → (v : Visit) × Has held v × (visited_of v ≡ u)
    a_visit u among = let h = among_has p.visits u among in
        let r = from_map visited_of held h.0 u (subst (λ (l : List Visited). get_elem? l h.0 ≡ some u) is h.1) in (r.0, (h.0, r.1), r.2)
