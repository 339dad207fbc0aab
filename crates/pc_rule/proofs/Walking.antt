-- What a pass holds of its path is so after each kind of step, and where the pass has just been made.
use Rattle.std.proofs.Common.{◌≡◌, ◌≢◌, ℕ, zero, suc, ◌+◌, ◌%◌, ◌==◌, ◌<◌, ◌≤◌, nat_lt, inl, inr, ⊎_elim, if◌then◌else◌, Bool, true, false, List, [], ◌∷◌, ◌++◌, length, get_or, map, Some, None, refl, sym, ap, ◌∙◌, subst, append-nil, arith}
use Rattle.std.proofs.Math.ListN.{length-append}
use Rattle.std.proofs.lemmas.List.Elements.{All-nil, All-push}
use Rattle.std.proofs.lemmas.List.Quantifiers.{all_pairs_push}
use Rattle.std.specs.List.{All}
use Rattle.std.proofs.lemmas.Bool.{cases_lt}
use Rattle.std.proofs.lemmas.Bool.Decides.{nat_tests}
use Rattle.std.proofs.lemmas.List.{map-append}
use Rattle.pc_model.specs.declared.cell.Field.{Field}
use Rattle.pc_model.specs.declared.cell.Field.TheVariants.{Version}
use Rattle.pc_model.specs.Cells.{field_number, IsNode}
use Rattle.pc_model.specs.Exchanges.{Visited}
use Rattle.pc_words.specs.declared.word.WordKind.{WordKind}
use Rattle.pc_words.specs.declared.word.WordKind.TheVariants.{Plain, Install, Exchange}
use Rattle.pc_words.specs.Words.{kind}
use Rattle.pc_history.specs.Footprints.{IsAmong}
use Rattle.pc_rule_law.specs.Board.{Size}
use Rattle.pc_exchange_law.specs.Passes.{PassKnows}
use Rattle.pc_exchange_law.specs.Paths.{Path, dropped, last_version, is_visitable, more_visits, with_visit, more_reads, counts_as_read, with_read}
use Rattle.pc_exchange_law.specs.Paths.{with_stamp, with_left, without_stamp, MayCheck}
use Rattle.pc_exchange_law.specs.Wholes.{Whole}
use Rattle.pc_exchange_law.specs.Ties.{last_stamp}
use Rattle.pc_exchange_law.specs.WholePlays.{CellSeen, ReadDrawn, PathChecked}
use Rattle.pc_exchange_law.proofs.WholeReads.{is_plain_or_not}
use Rattle.pc_rule.specs.declared.visit.Visit.{Visit}
use Rattle.pc_rule.specs.Walking.{visited_of, path_with, visits_in, FitsVisit, VersionsRise, HoldsPath}

pub path_still : (x y : Whole) (begun : Bool) (visits : List Visit) (room : ℕ) → y.path ≡ x.path → y.view.size ≡ x.view.size
    → HoldsPath x begun visits room → HoldsPath y begun visits room
path_still x y begun visits room same sized was = record {
  begun = ap (λ (p : Path). p.begun) same ∙ was.begun;
  visits = ap (λ (p : Path). (path_with visits p).visits) same ∙ was.visits;
  fit = subst (λ (z : Size). All (FitsVisit z.slots) visits) (sym sized) was.fit;
  rising = was.rising;
  few = subst (λ (z : Size). length visits ≤ z.slots + 1) (sym sized) was.few;
  ample = subst (λ (z : Size). z.slots + 1 ≤ room) (sym sized) was.ample;
}

none_rise : (visits : List Visit) → visits ≡ [] → VersionsRise visits
none_rise visits none i j d lt below = absurd (let n : length visits ≡ 0 = ap length none in omega arith)

pub new_holds : (x : Whole) (visits : List Visit) (room : ℕ) → visits ≡ [] → x.path.begun ≡ false → x.view.size.slots + 1 ≤ room
    → HoldsPath x false visits room
new_holds x visits room none begun ample = record {
  begun = begun;
  visits = subst (λ (l : List Visit). (path_with l x.path).visits ≡ map visited_of l) (sym none) refl;
  fit = subst (All (FitsVisit x.view.size.slots)) (sym none) (All-nil (FitsVisit x.view.size.slots));
  rising = none_rise visits none;
  few = (let n : length visits ≡ 0 = ap length none in omega arith);
  ample = ample;
}

-- a path with visits in place of those that a pass holds
pub same_visits : (held : List Visit) (p q : Path) → q.visits ≡ p.visits → (path_with held q).visits ≡ (path_with held p).visits
same_visits [] p q e = refl
same_visits (v ∷ held) p q e = e

pub path_moved : (x y : Whole) (begun : Bool) (held : List Visit) (room : ℕ) → y.path.begun ≡ x.path.begun → y.path.visits ≡ x.path.visits
    → y.view.size ≡ x.view.size → HoldsPath x begun held room → HoldsPath y begun held room
path_moved x y begun held room begins visits sized was = record {
  begun = begins ∙ was.begun;
  visits = same_visits held x.path y.path visits ∙ was.visits;
  fit = subst (λ (z : Size). All (FitsVisit z.slots) held) (sym sized) was.fit;
  rising = was.rising;
  few = subst (λ (z : Size). length held ≤ z.slots + 1) (sym sized) was.few;
  ample = subst (λ (z : Size). z.slots + 1 ≤ room) (sym sized) was.ample;
}

-- ---- a load that counts as a read

either_path : (P : Path → Type 0) (c : Bool) (p q : Path) → P p → P q → P (if c then p else q)
either_path P true p q here there = here
either_path P false p q here there = there

pub read_same : (p : Path) (n : ℕ) (f : Field) (k : WordKind) → ((with_read p n f k).begun ≡ p.begun) × ((with_read p n f k).visits ≡ p.visits)
read_same p n f (Plain x) = either_path (λ q. (q.begun ≡ p.begun) × (q.visits ≡ p.visits)) (counts_as_read p n f) (more_reads p n f x) p (refl, refl) (refl, refl)
read_same p n f (Install q i) = (refl, refl)
read_same p n f (Exchange q a) = (refl, refl)

none_counts : (c : Bool) (p q : Path) → (if (if c then false else false) then p else q) ≡ q
none_counts true p q = refl
none_counts false p q = refl

nothing_read : (p : Path) (n : ℕ) (f : Field) (k : WordKind) → with_read (dropped p) n f k ≡ dropped p
nothing_read p n f (Plain x) = none_counts (field_number f == 0) (more_reads (dropped p) n f x) (dropped p)
nothing_read p n f (Install q i) = refl
nothing_read p n f (Exchange q a) = refl

drops_same : (p q : Path) → q.begun ≡ p.begun → dropped q ≡ dropped p
drops_same p q e = ap (λ (c : Bool). record { begun = c; visits = []; reads = []; stamp = None; left = [] }) e

pub read_with : (held : List Visit) (p : Path) (n : ℕ) (f : Field) (k : WordKind)
    → path_with held (with_read p n f k) ≡ with_read (path_with held p) n f k
read_with [] p n f k = drops_same p (with_read p n f k) (read_same p n f k).0 ∙ sym (nothing_read p n f k)
read_with (v ∷ held) p n f k = refl

-- ---- a draw and a check

pub stamp_with : (held : List Visit) (p : Path) (s : ℕ) → held ≢ [] → path_with held (with_stamp p s) ≡ with_stamp (path_with held p) s
stamp_with [] p s some = absurd (some refl)
stamp_with (v ∷ held) p s some = refl

no_stamp : {X : Type 0} (s : ℕ) → None ≡ Some s → X
no_stamp s e = absurd (cc)

pub may_check_with : (held : List Visit) (p : Path) (n : ℕ) → MayCheck (path_with held p) n → MayCheck p n
may_check_with [] p n may = no_stamp may.stamp may.drawn
may_check_with (v ∷ held) p n may = may

pub checked_with : (held : List Visit) (p : Path) (n r : ℕ) (q : Path) (k : PassKnows) → MayCheck (path_with held p) n → PathChecked p r q k
    → PathChecked (path_with held p) r (path_with held q) k
checked_with [] p n r q k may c = no_stamp may.stamp may.drawn
checked_with (v ∷ held) p n r q k may c = c

-- a check leaves the visits
pub record Stays (p q : Path) : Type 0 where
  pub begun : q.begun ≡ p.begun
  pub visits : q.visits ≡ p.visits

stays_as : (p q w : Path) → q ≡ w → Stays p w → Stays p q
stays_as p q w is s = subst (Stays p) (sym is) s

found_stays : (p : Path) (n r : ℕ) (q : Path) (k : PassKnows) (may : MayCheck p n) → PathChecked p r q k → kind r ≡ Plain may.visit.version
    → (others : List Visited) → may.others ≡ others → Stays p q
found_stays p n r q k may c found [] last = stays_as p q (without_stamp p)
    (c.takes may.stamp may.visit may.drawn (may.next ∙ ap (λ (l : List Visited). may.visit ∷ l) last) found).0 (record { begun = refl; visits = refl })
found_stays p n r q k may c found (u ∷ others) more = stays_as p q (with_left p (u ∷ others))
    (c.passes may.visit u others (may.next ∙ ap (λ (l : List Visited). may.visit ∷ l) more) found) (record { begun = refl; visits = refl })

pub check_stays : (p : Path) (n r : ℕ) (q : Path) (k : PassKnows) → MayCheck p n → PathChecked p r q k → Stays p q
check_stays p n r q k may c = ⊎_elim
    (λ found. found_stays p n r q k may c found may.others refl)
    (λ other. stays_as p q p (c.fails may.visit may.others may.next other) (record { begun = refl; visits = refl }))
    (is_plain_or_not (kind r) may.visit.version)

-- a draw for a read leaves the view, the own attempt and the visits
pub record DrawStays (x y : Whole) : Type 0 where
  pub view : y.view ≡ x.view
  pub own : y.knows.own ≡ x.knows.own
  pub slots : y.knows.slots ≡ x.knows.slots
  pub path : Stays x.path y.path

pub draw_stays : (x : Whole) (r : ℕ) (y : Whole) → ReadDrawn x r y → DrawStays x y
draw_stays x r y d = ⊎_elim
    (λ early. subst (DrawStays x) (sym (d.stamped early)) (record { view = refl; own = refl; slots = refl; path = record { begun = refl; visits = refl } }))
    (λ late. subst (DrawStays x) (sym (d.refused late)) (record { view = refl; own = refl; slots = refl; path = record { begun = refl; visits = refl } }))
    (cases_lt r last_stamp)

-- ---- a load that counts as a visit

among_mapped : (held : List Visit) (i : ℕ) (d : Visit) → i < length held → IsAmong (visited_of (get_or held i d)) (map visited_of held)
among_mapped [] i d lt = absurd (omega arith)
among_mapped (v ∷ held) zero d lt = inl refl
among_mapped (v ∷ held) (suc i) d lt = inr (among_mapped held i d (omega arith))

-- the visits that a pass holds are its path's
pub among_held : (held : List Visit) (p : Path) → (path_with held p).visits ≡ map visited_of held → (i : ℕ) (d : Visit) → i < length held
    → IsAmong (visited_of (get_or held i d)) p.visits
among_held [] p same i d lt = absurd (omega arith)
among_held (v ∷ held) p same i d lt = subst (IsAmong (visited_of (get_or (v ∷ held) i d))) (sym same) (among_mapped (v ∷ held) i d lt)

-- none more, or one more
one_more : (P : List Visit → Type 0) (held : List Visit) (n x : ℕ) (c : Bool) → P held → (c ≡ true → P (held ++ record { node = n; version = x } ∷ []))
    → P (held ++ (if c then record { node = n; version = x } ∷ [] else []))
one_more P held n x true same more = more refl
one_more P held n x false same more = subst P (sym (append-nil held)) same

rising_more : (held : List Visit) (p : Path) (n : ℕ) (k : WordKind) → (path_with held p).visits ≡ map visited_of held
    → ((v : Visited) (w : ℕ) → k ≡ Plain w → IsAmong v p.visits → v.node ≡ n → v.version ≤ w) → VersionsRise held
    → VersionsRise (held ++ visits_in n k)
rising_more held p n (Plain x) same above rising = one_more VersionsRise held n x (is_visitable x) rising
    (λ _. all_pairs_push (λ u v. u.node ≡ v.node → u.version ≤ v.version) held (record { node = n; version = x }) rising
    (λ i d lt here. above (visited_of (get_or held i d)) x refl (among_held held p same i d lt) here))
rising_more held p n (Install q i) same above rising = subst VersionsRise (sym (append-nil held)) rising
rising_more held p n (Exchange q a) same above rising = subst VersionsRise (sym (append-nil held)) rising

visitable_below : (x : ℕ) (c : Bool) → (if c then nat_lt x 1152921504606846970 else false) ≡ true → x < last_version
visitable_below x true is = grind (arith, nat_tests)
visitable_below x false is = absurd (cc)

fit_more : (held : List Visit) (n slots : ℕ) (k : WordKind) → IsNode slots n → All (FitsVisit slots) held → All (FitsVisit slots) (held ++ visits_in n k)
fit_more held n slots (Plain x) inside fit = one_more (All (FitsVisit slots)) held n x (is_visitable x) fit
    (λ is. All-push (FitsVisit slots) held (record { node = n; version = x }) fit (inside, visitable_below x (x % 2 == 0) is))
fit_more held n slots (Install q i) inside fit = subst (All (FitsVisit slots)) (sym (append-nil held)) fit
fit_more held n slots (Exchange q a) inside fit = subst (All (FitsVisit slots)) (sym (append-nil held)) fit

pub visits_fit : (x y : Whole) (n r : ℕ) (held new : List Visit) → y.view.size ≡ x.view.size → IsNode x.view.size.slots n
    → All (FitsVisit x.view.size.slots) held → new ≡ held ++ visits_in n (kind r) → All (FitsVisit y.view.size.slots) new
visits_fit x y n r held new sized inside fit is = subst (λ (z : Size). All (FitsVisit z.slots) new) (sym sized)
    (subst (All (FitsVisit x.view.size.slots)) (sym is) (fit_more held n x.view.size.slots (kind r) inside fit))

few_more : (held : List Visit) (n slots : ℕ) (k : WordKind) → length held ≤ slots → length (held ++ visits_in n k) ≤ slots + 1
few_more held n slots (Plain x) few = one_more (λ l. length l ≤ slots + 1) held n x (is_visitable x) (omega arith)
    (λ _. let more = length-append held (record { node = n; version = x } ∷ []) in omega arith)
few_more held n slots (Install q i) few = subst (λ (l : List Visit). length l ≤ slots + 1) (sym (append-nil held)) (omega arith)
few_more held n slots (Exchange q a) few = subst (λ (l : List Visit). length l ≤ slots + 1) (sym (append-nil held)) (omega arith)

pub visit_rises : (x y : Whole) (n r : ℕ) (begun : Bool) (held new : List Visit) (room : ℕ) → HoldsPath x begun held room
    → CellSeen x n Version r y → new ≡ held ++ visits_in n (kind r) → VersionsRise new
visit_rises x y n r begun held new room was seen is = subst VersionsRise (sym is)
    (rising_more held x.path n (kind r) was.visits (λ v w found among here. seen.after_visits v w refl found among here) was.rising)

pub visits_few : (x y : Whole) (n r : ℕ) (held new : List Visit) → y.view.size ≡ x.view.size → length held ≤ x.view.size.slots
    → new ≡ held ++ visits_in n (kind r) → length new ≤ y.view.size.slots + 1
visits_few x y n r held new sized few is = subst (λ (z : Size). length new ≤ z.slots + 1) (sym sized)
    (subst (λ (l : List Visit). length l ≤ x.view.size.slots + 1) (sym is) (few_more held n x.view.size.slots (kind r) few))

-- a path that begins anew where the pass holds no visits
either_begins : (held : List Visit) (p : Path) (first : Bool) → first ≡ (length held == 0) → (if first then dropped p else p) ≡ path_with held p
either_begins [] p first is = ap (λ (c : Bool). if c then dropped p else p) is
either_begins (v ∷ held) p first is = let some : (length (v ∷ held) == 0) ≡ false = grind (arith, nat_tests) in
    ap (λ (c : Bool). if c then dropped p else p) (is ∙ some)

-- what a pass holds of a path after a visit is all of it
held_plain : (held : List Visit) (p : Path) (n x : ℕ) (c : Bool)
    → path_with (held ++ (if c then record { node = n; version = x } ∷ [] else [])) (if c then more_visits (path_with held p) n x else path_with held p)
    ≡ (if c then more_visits (path_with held p) n x else path_with held p)
held_plain [] p n x true = refl
held_plain [] p n x false = refl
held_plain (v ∷ held) p n x true = refl
held_plain (v ∷ held) p n x false = refl

held_same : (held : List Visit) (p : Path) → path_with (held ++ []) (path_with held p) ≡ path_with held p
held_same [] p = refl
held_same (v ∷ held) p = refl

visit_held : (held : List Visit) (p : Path) (n : ℕ) (k : WordKind)
    → path_with (held ++ visits_in n k) (with_visit (path_with held p) n k) ≡ with_visit (path_with held p) n k
visit_held held p n (Plain x) = held_plain held p n x (is_visitable x)
visit_held held p n (Install q i) = held_same held p
visit_held held p n (Exchange q a) = held_same held p

pub visit_with : (held new : List Visit) (p q : Path) (n : ℕ) (k : WordKind) (first : Bool) → first ≡ (length held == 0)
    → q ≡ with_visit (if first then dropped p else p) n k → new ≡ held ++ visits_in n k
    → path_with new q ≡ with_visit (path_with held p) n k
visit_with held new p q n k first is goes more =
    let same : q ≡ with_visit (path_with held p) n k = goes ∙ ap (λ (u : Path). with_visit u n k) (either_begins held p first is) in
    (λ i. path_with (more i) (same i)) ∙ visit_held held p n k

begun_visited : (p : Path) (n : ℕ) (k : WordKind) → (with_visit p n k).begun ≡ p.begun
begun_visited p n (Plain x) = either_path (λ q. q.begun ≡ p.begun) (is_visitable x) (more_visits p n x) p refl refl
begun_visited p n (Install q i) = refl
begun_visited p n (Exchange q a) = refl

-- a visit leaves it that an operation has begun
pub visit_begun : (p q : Path) (n : ℕ) (k : WordKind) (first : Bool) → q ≡ with_visit (if first then dropped p else p) n k → q.begun ≡ p.begun
visit_begun p q n k first goes = ap (λ (u : Path). u.begun) goes ∙ begun_visited (if first then dropped p else p) n k
    ∙ either_path (λ u. u.begun ≡ p.begun) first (dropped p) p refl refl

plain_then : (p : Path) (n x : ℕ) (c : Bool) → (if c then more_visits p n x else p).visits
    ≡ p.visits ++ map visited_of (if c then record { node = n; version = x } ∷ [] else [])
plain_then p n x true = refl
plain_then p n x false = sym (append-nil p.visits)

visits_then : (p : Path) (n : ℕ) (k : WordKind) → (with_visit p n k).visits ≡ p.visits ++ map visited_of (visits_in n k)
visits_then p n (Plain x) = plain_then p n x (is_visitable x)
visits_then p n (Install q i) = sym (append-nil p.visits)
visits_then p n (Exchange q a) = sym (append-nil p.visits)

pub visit_visits : (held new : List Visit) (p q : Path) (n : ℕ) (k : WordKind) (first : Bool) → first ≡ (length held == 0)
    → q ≡ with_visit (if first then dropped p else p) n k → new ≡ held ++ visits_in n k
    → (path_with held p).visits ≡ map visited_of held → (path_with new q).visits ≡ map visited_of new
visit_visits held new p q n k first is goes more was =
    ap (λ (u : Path). u.visits) (visit_with held new p q n k first is goes more)
    ∙ (visits_then (path_with held p) n k ∙ (ap (λ (l : List Visited). l ++ map visited_of (visits_in n k)) was
    ∙ (sym (map-append visited_of held (visits_in n k)) ∙ ap (map visited_of) (sym more))))
