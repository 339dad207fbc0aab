-- The changes that take a guest aboard keep cells linked and the ferry's seats, in each order.
use Rattle.std.proofs.Common.{◌≡◌, ◌≢◌, ℕ, zero, suc, ◌+◌, ◌<◌, ◌≤◌, ◌==◌, ◌⊎◌, map, length, if◌then◌else◌, List, [], ◌∷◌, Result, Ok, Err, IfOk, OnErr, IsErrAnd, MatchResult, refl, sym, ap, ap₂, ◌∙◌, subst, inl, inr, ⊎_elim, arith}
use Rattle.std.specs.List.{All}
use Rattle.std.specs.List.Sorted.{IsPermutation}
use Rattle.std.proofs.lemmas.List.Sorted.{All-permutation, IsPermutation-sym}
use Rattle.std.proofs.lemmas.Bool.{cases_eq}
use Rattle.std.proofs.lemmas.Bool.Decides.{nat_tests}
use mathlib.Core.Logic.{dite}
use mathlib.Core.Option.{some, some-injective, some-ne-none}
use lib.ListN.{get_elem?}
use native.Mathlib.Decide.{ℕ_discrete}
use Rattle.pc_model.specs.declared.cell.Field.{Field}
use Rattle.pc_model.specs.declared.cell.Field.TheVariants.{Version, Key, Value, Left, Right, Parent, Height, Spare}
use Rattle.pc_model.specs.Cells.{Cells, field_number, IsEven, written}
use Rattle.pc_model.specs.Exchanges.{Exchange, Stands, with_changes, applied}
use Rattle.pc_model.specs.Linked.{IsLinkField, IsUnmarked, IsChildOf, IsLinked}
use Rattle.pc_model.proofs.Writes.{same_field, written-here, written-other_field}
use Rattle.pc_rule_law.specs.Board.{Size}
use Rattle.pc_rule_law.specs.Past.{Has}
use Rattle.pc_rule_law.specs.Views.{View}
use Rattle.pc_exchange_law.specs.ExchangeConditions.{KnowsOld, was_read, is_version, was_visited, was_opened, was_written}
use Rattle.pc_exchange_law.specs.Passes.{PassKnows}
use Rattle.pc_exchange_law.specs.Paths.{Path, read_of}
use Rattle.pc_exchange_law.specs.Slots.{IsHeld}
use Rattle.pc_exchange_law.specs.Ties.{code}
use Rattle.pc_exchange_law.specs.Wholes.{Whole}
use Rattle.pc_protocol.specs.Histories.{committed}
use Rattle.pc_protocol.specs.Notes.{Note, clock_was, visited, read_word, saw, published, drew, verdict, in_run}
use Rattle.pc_exchange_law.specs.Knowing.{HasSeenStamp, IsAboveSeen}
use Rattle.pc_rule.specs.declared.opening.Place.{Place}
use Rattle.pc_rule.specs.declared.visit.Visit.{Visit}
use Rattle.pc_rule.specs.Starting.{change_of}
use Rattle.pc_rule.proofs.Starting.{element}
use Rattle.pc_kcas.specs.declared.mode.Mode.TheVariants.{Path as OfPath}
use Rattle.pc_kcas.specs.Exchanges.{IsOneWord, RaisesVersions, KnowsOldValues, FitsByMode, exchange_by}
use Rattle.pc_kcas.specs.Obstacles.{GoesOn}
use Rattle.pc_path.specs.Adds.{IsLastVisit}
use Rattle.pc_path.specs.Exchanges.{HasExchanged, HasNoEffect}
use Rattle.pc_path.specs.Finds.{HasFound}
use Rattle.examples.specs.declared.ferry.Boarding.{Boarding}
use Rattle.examples.specs.declared.ferry.Boarding.TheVariants.{Aboard, Full}
use Rattle.examples.specs.declared.ferry.Count.{Count}
use Rattle.examples.specs.declared.ferry.Guest.{Guest}
use Rattle.examples.specs.declared.ferry.Guest.TheVariants.{Grown, Child}
use Rattle.examples.specs.Ferry.{ferry_form, grown_of, children_of, TakesAboard, FindsFull, IsAboard, IfAboard, visit_of, path_of, version_change, seat_change, changes_for}

-- ---- links

-- cells with the same links, and versions that are even where they were, are linked where the others are
module _ (slots : ℕ) (c d : Cells) (links : (n : ℕ) (f : Field) → IsLinkField f → d n f ≡ c n f)
    (fore : (n : ℕ) → IsEven (d n Version) → IsEven (c n Version)) (back : (n : ℕ) → IsEven (c n Version) → IsEven (d n Version)) where
  child_then : (n above : ℕ) → IsChildOf c n above → IsChildOf d n above
  child_then n above is = ⊎_elim (λ l. inl (links above Left tt ∙ l)) (λ r. inr (links above Right tt ∙ r)) is

  child_before : (n above : ℕ) → IsChildOf d n above → IsChildOf c n above
  child_before n above is = ⊎_elim (λ l. inl (sym (links above Left tt) ∙ l)) (λ r. inr (sym (links above Right tt) ∙ r)) is

  linked_as : IsLinked slots c → IsLinked slots d
  unfolding child_then child_before
  linked_as l = record {
    sentinel = back 1 l.sentinel;
    links = λ n f at is ne. let e = links n f is in let to = l.links n f (at.0, fore n at.1) is (λ z. ne (e ∙ z)) in
        subst (IsUnmarked slots d) (sym e) (to.0, back (c n f) to.1);
    hang = λ n slot even. let h = l.hang n slot (fore n even) in record {
      above = h.above;
      unmarked = (h.unmarked.0, back h.above h.unmarked.1);
      child = child_then n h.above h.child;
      no_other = λ m at is. h.no_other m (at.0, fore m at.1) (child_before n m is);
    };
  }

-- the sentinel's version, which is even then, or one of its counts
abbrev pub IsCount : Field → ℕ → Type 0
IsCount Version x = IsEven x
IsCount Key x = ⊥
IsCount Value x = Unit {0}
IsCount Left x = ⊥
IsCount Right x = ⊥
IsCount Parent x = ⊥
IsCount Height x = Unit {0}
IsCount Spare x = ⊥

not_link : (f g : Field) (x : ℕ) → IsCount f x → IsLinkField g → field_number g ≢ field_number f
not_link f Left x count is = λ e. absurd (subst (λ (h : Field). IsCount h x) (same_field f Left (sym e)) count)
not_link f Right x count is = λ e. absurd (subst (λ (h : Field). IsCount h x) (same_field f Right (sym e)) count)
not_link f Parent x count is = λ e. absurd (subst (λ (h : Field). IsCount h x) (same_field f Parent (sym e)) count)
not_link f Version x count is = absurd is
not_link f Key x count is = absurd is
not_link f Value x count is = absurd is
not_link f Height x count is = absurd is
not_link f Spare x count is = absurd is

if_true : (m : ℕ) (x y : ℕ) → m ≡ 1 → (if m == 1 then x else y) ≡ x
if_true m x y e = grind (arith, nat_tests)

if_false : (m : ℕ) (x y : ℕ) → m ≢ 1 → (if m == 1 then x else y) ≡ y
if_false m x y ne = grind (arith, nat_tests)

module _ (c : Cells) (even : IsEven (c 1 Version)) where
  parity_fore : (f : Field) (x n : ℕ) → IsCount f x → IsEven (written 1 f x c n Version) → IsEven (c n Version)
  parity_fore Version x n count is = dite (ℕ_discrete n 1) (λ (e : n ≡ 1). subst (λ (k : ℕ). IsEven (c k Version)) (sym e) even)
      (λ ne. subst IsEven (if_false n x (c n Version) ne) is)
  parity_fore Key x n count is = is
  parity_fore Value x n count is = is
  parity_fore Left x n count is = is
  parity_fore Right x n count is = is
  parity_fore Parent x n count is = is
  parity_fore Height x n count is = is
  parity_fore Spare x n count is = is

  parity_back : (f : Field) (x n : ℕ) → IsCount f x → IsEven (c n Version) → IsEven (written 1 f x c n Version)
  parity_back Version x n count is = dite (ℕ_discrete n 1) (λ (e : n ≡ 1). subst IsEven (sym (if_true n x (c n Version) e)) count)
      (λ ne. subst IsEven (sym (if_false n x (c n Version) ne)) is)
  parity_back Key x n count is = is
  parity_back Value x n count is = is
  parity_back Left x n count is = is
  parity_back Right x n count is = is
  parity_back Parent x n count is = is
  parity_back Height x n count is = is
  parity_back Spare x n count is = is

one_linked : (slots : ℕ) (f : Field) (x : ℕ) (c : Cells) → IsCount f x → IsLinked slots c → IsLinked slots (written 1 f x c)
unfolding linked_as not_link parity_fore parity_back
one_linked slots f x c count l = linked_as slots c (written 1 f x c)
    (λ n g is. written-other_field 1 f x c n g (not_link f g x count is))
    (λ n. parity_fore c l.sentinel f x n count) (λ n. parity_back c l.sentinel f x n count) l

-- a word of the sentinel that is one of its counts
abbrev pub IsCountPlace : Place → Type 0
IsCountPlace p = (p.node ≡ 1) × IsCount p.field p.new

all_linked : (slots : ℕ) (places : List Place) (c : Cells) → All IsCountPlace places → IsLinked slots c → IsLinked slots (with_changes (map change_of places) c)
unfolding one_linked
all_linked slots [] c all l = l
all_linked slots (p ∷ places) c all l = all_linked slots places (written p.node p.field p.new c) (λ k d lt. all (suc k) d (omega arith))
    (let here = all 0 p (omega arith) in subst (λ (n : ℕ). IsLinked slots (written n p.field p.new c)) (sym here.0)
    (one_linked slots p.field p.new c here.1 l))

-- ---- what a word ends as

module _ (f : Field) (x : ℕ) where
  -- the change is of the sentinel, and where it is of this word, to this number
  abbrev IsTo : Place → Type 0
  IsTo p = (p.node ≡ 1) × (f ≡ p.field → p.new ≡ x)

  after : (p : Place) (c : Cells) → IsTo p → (f ≡ p.field) ⊎ (c 1 f ≡ x) → written p.node p.field p.new c 1 f ≡ x
  after p c to how = subst (λ (n : ℕ). written n p.field p.new c 1 f ≡ x) (sym to.0) (⊎_elim
      (λ e. let same : f ≡ p.field = same_field f p.field e in
      subst (λ (g : Field). written 1 p.field p.new c 1 g ≡ x) (sym same) (written-here 1 p.field p.new c ∙ to.1 same))
      (λ ne. written-other_field 1 p.field p.new c 1 f ne ∙ ⊎_elim (λ (same : f ≡ p.field). absurd (ne (ap field_number same))) (λ here. here) how)
      (cases_eq (field_number f) (field_number p.field)))

  stays_so : (places : List Place) (c : Cells) → All IsTo places → c 1 f ≡ x → with_changes (map change_of places) c 1 f ≡ x
  unfolding after
  stays_so [] c all here = here
  stays_so (p ∷ places) c all here = stays_so places (written p.node p.field p.new c) (λ k d lt. all (suc k) d (omega arith))
      (after p c (all 0 p (omega arith)) (inr here))

  comes_so : (places : List Place) (c : Cells) → All IsTo places → (k : ℕ) (p : Place) → get_elem? places k ≡ some p → f ≡ p.field
      → with_changes (map change_of places) c 1 f ≡ x
  unfolding stays_so
  comes_so [] c all k p at same = absurd (cc)
  comes_so (q ∷ places) c all zero p at same = stays_so places (written q.node q.field q.new c) (λ k d lt. all (suc k) d (omega arith))
      (after q c (all 0 q (omega arith)) (inl (same ∙ ap (λ (r : Place). r.field) (sym (some-injective q p at)))))
  comes_so (q ∷ places) c all (suc k) p at same = comes_so places (written q.node q.field q.new c) (λ k d lt. all (suc k) d (omega arith)) k p at same

-- ---- the two changes

module _ (guest : Guest) (count : Count) where
  both : (P : Place → Type 0) → P (version_change count) → P (seat_change guest count) → All P (changes_for guest count)
  both P one two zero d lt = one
  both P one two (suc zero) d lt = two
  both P one two (suc (suc k)) d lt = absurd (omega arith)

  module _ (ordered : List Place) (same : IsPermutation (changes_for guest count) ordered) where
    in_order : (P : Place → Type 0) → P (version_change count) → P (seat_change guest count) → All P ordered
    unfolding both
    in_order P one two = All-permutation P (changes_for guest count) ordered same (both P one two)

    there : Has ordered (seat_change guest count)
    there = All-permutation (Has ordered) ordered (changes_for guest count) (IsPermutation-sym (changes_for guest count) ordered same) (λ k d lt. (k, element ordered k d lt)) 1
        (seat_change guest count) (omega arith)

grown_to : (guest : Guest) (count : Count) (ordered : List Place) → IsPermutation (changes_for guest count) ordered → (c : Cells)
    → c 1 Value ≡ count.grown → with_changes (map change_of ordered) c 1 Value ≡ count.grown + grown_of guest
unfolding in_order there stays_so comes_so
grown_to Grown count ordered same c grown = let at = there Grown count ordered same in
    comes_so Value (count.grown + 1) ordered c (in_order Grown count ordered same (IsTo Value (count.grown + 1)) (refl, λ e. absurd (cc)) (refl, λ e. refl))
    at.0 (seat_change Grown count) at.1 refl
grown_to Child count ordered same c grown = stays_so Value (count.grown + 0) ordered c
    (in_order Child count ordered same (IsTo Value (count.grown + 0)) (refl, λ e. absurd (cc)) (refl, λ e. absurd (cc))) (grown ∙ omega arith)

children_to : (guest : Guest) (count : Count) (ordered : List Place) → IsPermutation (changes_for guest count) ordered → (c : Cells)
    → c 1 Height ≡ count.children → with_changes (map change_of ordered) c 1 Height ≡ count.children + children_of guest
unfolding in_order there stays_so comes_so
children_to Child count ordered same c children = let at = there Child count ordered same in
    comes_so Height (count.children + 1) ordered c (in_order Child count ordered same (IsTo Height (count.children + 1)) (refl, λ e. absurd (cc)) (refl, λ e. refl))
    at.0 (seat_change Child count) at.1 refl
children_to Grown count ordered same c children = stays_so Height (count.children + 0) ordered c
    (in_order Grown count ordered same (IsTo Height (count.children + 0)) (refl, λ e. absurd (cc)) (refl, λ e. absurd (cc))) (children ∙ omega arith)

counts_linked : (guest : Guest) (count : Count) (ordered : List Place) → IsPermutation (changes_for guest count) ordered → IsEven count.version
    → (slots : ℕ) (c : Cells) → IsLinked slots c → IsLinked slots (with_changes (map change_of ordered) c)
unfolding in_order all_linked
counts_linked Grown count ordered same even slots c l = all_linked slots ordered c
    (in_order Grown count ordered same IsCountPlace (refl, omega arith) (refl, tt)) l
counts_linked Child count ordered same even slots c l = all_linked slots ordered c
    (in_order Child count ordered same IsCountPlace (refl, omega arith) (refl, tt)) l

one_more : (guest : Guest) → grown_of guest + children_of guest ≡ 1
one_more Grown = refl
one_more Child = refl

-- the exchange takes the guest aboard, where a seat is free
pub takes_aboard : (guest : Guest) (count : Count) (ordered : List Place) → IsPermutation (changes_for guest count) ordered
    → count.grown + count.children < 10 → TakesAboard guest (exchange_by OfPath (path_of count) ordered)
unfolding grown_to children_to
takes_aboard guest count ordered same room = record {
  room = λ c stands. let g : c 1 Value ≡ count.grown = stands.reads.0 in let h : c 1 Height ≡ count.children = stands.reads.1.0 in omega arith;
  grown = λ c stands. let g : c 1 Value ≡ count.grown = stands.reads.0 in grown_to guest count ordered same c g ∙ ap (λ n. n + grown_of guest) (sym g);
  children = λ c stands. let h : c 1 Height ≡ count.children = stands.reads.1.0 in children_to guest count ordered same c h ∙ ap (λ n. n + children_of guest) (sym h);
}

-- and it fits the ferry
pub ferry_fits : (slots : ℕ) (guest : Guest) (count : Count) → IsEven count.version → count.grown + count.children < 10
    → FitsByMode ferry_form slots OfPath (path_of count) (changes_for guest count)
unfolding takes_aboard counts_linked one_more
ferry_fits slots guest count even room ordered same = (
  [],
  record {
    leaves = λ c sound stands. let t = takes_aboard guest count ordered same room in let free = t.room c stands in
        let g = t.grown c stands in let h = t.children c stands in let one = one_more guest in (
          sound.0,
          (counts_linked guest count ordered same even slots c sound.1.0, sound.1.1, omega arith),
        );
    charges = λ c k sound stands debt. absurd debt;
  },
)

-- what vexec asks of the two changes
abbrev RaisesIn : List Place → Place → Type 0
RaisesIn places p = (v : Place) × Has places v × (v.node ≡ p.node) × (v.field ≡ Version) × ((v.new ≡ v.old + 2) ⊎ (v.new ≡ v.old + 1))
    × (p.field ≡ Version → IsEven p.new ⊎ IsOneWord places p.node)

-- a count is no version
no_version : (f : Field) (X : Type 0) → field_number f ≢ 0 → f ≡ Version → X
no_version f X ne version = absurd (ne (ap field_number version))

pub raises_sentinel : (guest : Guest) (count : Count) → IsEven count.version → RaisesVersions (changes_for guest count)
unfolding both no_version
raises_sentinel Grown count even = let v = version_change count in
    let next : IsEven (count.version + 2) = omega arith in
    both Grown count (RaisesIn (changes_for Grown count)) (v, (0, refl), refl, refl, inl refl, λ _. inl next)
    (v, (0, refl), refl, refl, inl refl, no_version Value (IsEven (count.grown + 1) ⊎ IsOneWord (changes_for Grown count) 1) (omega arith))
raises_sentinel Child count even = let v = version_change count in
    let next : IsEven (count.version + 2) = omega arith in
    both Child count (RaisesIn (changes_for Child count)) (v, (0, refl), refl, refl, inl refl, λ _. inl next)
    (v, (0, refl), refl, refl, inl refl, no_version Height (IsEven (count.children + 1) ⊎ IsOneWord (changes_for Child count) 1) (omega arith))

module _ (z : Size) (k : PassKnows) where
  abbrev KnowsIn : List Place → Place → Type 0
  KnowsIn places p = (v : Place) × Has places v × (v.node ≡ p.node) × (v.field ≡ Version) × KnowsOld z k p.node v.old p.field p.old × IsHeld k p.node

  pub knows_both : (guest : Guest) (count : Count) → KnowsOld z k 1 count.version Version count.version → KnowsOld z k 1 count.version Value count.grown
      → KnowsOld z k 1 count.version Height count.children → KnowsOldValues z k (changes_for guest count)
  unfolding both
  knows_both Grown count known grown children = let v = version_change count in
      both Grown count (KnowsIn (changes_for Grown count)) (v, (0, refl), refl, refl, known, inl refl) (v, (0, refl), refl, refl, grown, inl refl)
  knows_both Child count known grown children = let v = version_change count in
      both Child count (KnowsIn (changes_for Child count)) (v, (0, refl), refl, refl, known, inl refl) (v, (0, refl), refl, refl, children, inl refl)

-- the last visit of an operation that visited the sentinel alone
pub only_visit : (count : Count) → IsLastVisit (visit_of count ∷ []) 1 count.version
only_visit count = record { place = 0; at = refl; after = no_other }
  where
    no_other : (i : ℕ) (v : Visit) → 0 < i → get_elem? (visit_of count ∷ []) i ≡ some v → v.node ≢ 1
    no_other zero v lt at = absurd (omega arith)
    no_other (suc i) v lt at = absurd (some-ne-none v (sym at))

-- ---- what is known of a count

-- what was told is told still
pub known_later : (z : Size) (x y : Whole) (n v : ℕ) (f : Field) (m : ℕ) → GoesOn x y → KnowsOld z x.knows n v f m → KnowsOld z y.knows n v f m
known_later z x y n v f m goes (was_read c noted) = was_read c (goes.told (read_word n v f m c) noted)
known_later z x y n v f m goes (is_version c at same noted) = is_version c at same (goes.told (visited n v c) noted)
known_later z x y n v f m goes (was_visited c e u at same node version among noted) =
    was_visited c e u at same node version among (goes.told (saw c e) noted)
known_later z x y n v f m goes (was_opened v0 m0) = was_opened v0 m0
known_later z x y n v f m goes (was_written a s c before old e won noted one two) =
    was_written a s c before old e (goes.told (verdict a (committed s)) won) (goes.told (published a e c) noted) one two

-- a version that was found is noted and known, and a number that was found at a noted version is known
pub version_noted : (x y : Whole) (n v : ℕ) → HasFound x y n Version v → (c : ℕ) × Has y.knows.told (visited n v c)
version_noted x y n v found = found.seen.seen.version v refl found.plain

pub found_version : (z : Size) (x y : Whole) (n v : ℕ) → HasFound x y n Version v → KnowsOld z y.knows n v Version v
unfolding version_noted
found_version z x y n v found = let noted = version_noted x y n v found in is_version noted.0 refl refl noted.1

pub found_number : (z : Size) (x y : Whole) (n v : ℕ) (f : Field) (m : ℕ) → ((c : ℕ) × Has x.knows.told (visited n v c)) → HasFound x y n f m
    → KnowsOld z y.knows n v f m
found_number z x y n v f m noted found = let seen = found.seen.seen.number m v noted.0 found.plain (found.since.told (visited n v noted.0) noted.1) in
    was_read seen.0 seen.1

-- ---- what an answer tells where its error is mapped

number_in : {D : Type 0} → Result ℕ D → ℕ
number_in (Ok x) = x
number_in (Err e) = 0

-- what holds of the number holds of it still
pub ok_through : {E D : Type 0} (Q : E → D → Type 0) (P : ℕ → Type 0) (v : ℕ) (r : Result ℕ E) (s : Result ℕ D)
    → MatchResult r (λ x. s ≡ Ok x) (λ e. IsErrAnd s (Q e)) → s ≡ Ok v → IfOk r P → P v
unfolding number_in
ok_through {E} {D} Q P v (Ok x) s cases is holds = subst P (ap number_in (sym cases ∙ is)) holds
ok_through {E} {D} Q P v (Err e) s cases is holds = absurd (subst (λ (t : Result ℕ D). IsErrAnd t (Q e)) is cases)

-- ---- what an exchange that took effect tells

above_none : (s : ℕ) → IsAboveSeen [] s
above_none s = record { clock = λ c at. absurd (nothing_noted (clock_was c) at); stamps = λ t seen. absurd (none_seen t seen); reads = λ n v x b f at. absurd (nothing_noted (read_word n v f x b) at) }
  where
    nothing_noted : (n : Note) → Has [] n → ⊥
    nothing_noted n at = some-ne-none n (sym at.1)

    none_seen : (t : ℕ) → HasSeenStamp [] t → ⊥
    none_seen t (inl drawn) = nothing_noted (drew drawn.0 t) drawn.1
    none_seen t (inr (inl won)) = nothing_noted (verdict won.0 (committed t)) won.1
    none_seen t (inr (inr read)) = nothing_noted (in_run t read.0) read.1

-- the exchange of these changes took the guest aboard
pub aboard_by : (told : List Note) (y : Whole) (guest : Guest) (count : Count) (s : ℕ) → count.grown + count.children < 10
    → HasExchanged told y OfPath (path_of count) (changes_for guest count) s → IsAboard guest y s
unfolding above_none takes_aboard
aboard_by told y guest count s room done = let taken = done.2 in (
  exchange_by OfPath (path_of count) done.0,
  record { attempt = taken.attempt; clock = taken.clock; noted = taken.noted; above = above_none taken.clock; won = taken.won },
  takes_aboard guest count done.0 done.1 room,
)

-- what holds of an answer's number gives what holds of it
pub ok_map : {E : Type 0} (P Q : ℕ → Type 0) (r : Result ℕ E) → ((s : ℕ) → P s → Q s) → IfOk r P → IfOk r Q
ok_map P Q (Ok s) gives holds = gives s holds
ok_map P Q (Err e) gives holds = tt

pub on_err : {A E : Type 0} (P : Type 0) (r : Result A E) → P → OnErr r P
on_err P (Ok s) holds = tt
on_err P (Err e) holds = holds

-- the read of the counts found all seats taken
pub full_by : (told : List Note) (p : Path) (count : Count) (s : ℕ) → p ≡ path_of count → 10 ≤ count.grown + count.children
    → Has told (in_run s (read_of p)) → (e : Exchange) × Has told (in_run s e) × FindsFull e
full_by told p count s is full noted = (read_of p, noted, finds)
  where
    finds : FindsFull (read_of p)
    finds c stands = let st = subst (λ (x : Path). Stands (read_of x) c) is stands in
        let g : c 1 Value ≡ count.grown = st.reads.0 in let h : c 1 Height ≡ count.children = st.reads.1.0 in omega arith

-- nothing took effect, counted from an earlier view of the same attempt
pub no_effect_since : (v u : View) (y : Whole) → v.attempt.number ≡ u.attempt.number → HasNoEffect v y → HasNoEffect u y
no_effect_since v u y same (inl number) = inl (number ∙ same)
no_effect_since v u y same (inr failed) = inr failed

is_number : {D : Type 0} → Result ℕ D → Type 0
is_number (Ok x) = Unit {0}
is_number (Err e) = ⊥

pub err_through : {E D : Type 0} (Q : E → D → Type 0) (P : Type 0) (d : D) (r : Result ℕ E) (s : Result ℕ D)
    → MatchResult r (λ x. s ≡ Ok x) (λ e. IsErrAnd s (Q e)) → s ≡ Err d → OnErr r P → P
unfolding is_number
err_through {E} {D} Q P d (Ok x) s cases is holds = absurd (subst (is_number {D = D}) (sym cases ∙ is) tt)
err_through {E} {D} Q P d (Err e) s cases is holds = holds

-- a guest is aboard still at the end of the operation
aboard_still : (x y : Whole) (guest : Guest) (s : ℕ) → y.view ≡ x.view → y.knows ≡ x.knows → IsAboard guest x s → IsAboard guest y s
aboard_still x y guest s view knows is = let taken = is.1 in (
  is.0,
  record {
    attempt = taken.attempt;
    clock = taken.clock;
    noted = subst (λ (seat : ℕ). Has y.knows.told (published (code seat taken.attempt) is.0 taken.clock)) (sym (ap (λ (v : View). v.seat) view))
        (subst (λ (k : PassKnows). Has k.told (published (code x.view.seat taken.attempt) is.0 taken.clock)) (sym knows) taken.noted);
    above = taken.above;
    won = subst (λ (seat : ℕ). Has y.knows.told (verdict (code seat taken.attempt) (committed s))) (sym (ap (λ (v : View). v.seat) view))
        (subst (λ (k : PassKnows). Has k.told (verdict (code x.view.seat taken.attempt) (committed s))) (sym knows) taken.won);
  },
  is.2,
)

if_aboard : (x y : Whole) (guest : Guest) (b : Boarding) → y.view ≡ x.view → y.knows ≡ x.knows → IfAboard b (IsAboard guest x) → IfAboard b (IsAboard guest y)
unfolding aboard_still
if_aboard x y guest (Aboard s) view knows is = aboard_still x y guest s view knows is
if_aboard x y guest (Full s) view knows is = tt

pub answer_still : {E : Type 0} (x y : Whole) (guest : Guest) (r : Result Boarding E) → y.view ≡ x.view → y.knows ≡ x.knows
    → IfOk r (λ b. IfAboard b (IsAboard guest x)) → IfOk r (λ b. IfAboard b (IsAboard guest y))
unfolding if_aboard
answer_still x y guest (Ok b) view knows is = if_aboard x y guest b view knows is
answer_still x y guest (Err e) view knows is = tt
