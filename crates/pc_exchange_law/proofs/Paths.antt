-- What the rule says of paths: it is kept by each step of others, and a path may go on by what a load finds.
use Rattle.std.proofs.Common.{◌≡◌, ℕ, ◌%◌, ◌==◌, ◌||◌, inl, inr, ⊎_elim, nat_lt, if◌then◌else◌, Bool, true, false, List, [], ◌∷◌, Some, None, eqb-true, refl, sym, subst, arith}
use Rattle.pc_model.specs.declared.cell.Field.{Field}
use Rattle.pc_model.specs.Cells.{field_number, IsEven}
use Rattle.pc_model.specs.Exchanges.{Visited, Seen}
use Rattle.pc_words.specs.declared.word.WordKind.{WordKind}
use Rattle.pc_words.specs.declared.word.WordKind.TheVariants.{Plain, Install, Exchange as Refers}
use Rattle.pc_history.specs.Footprints.{IsAmong}
use Rattle.pc_history.proofs.WorldRuns.{among_front, among_either}
use Rattle.pc_protocol.specs.Histories.{for_read, History, IsUsed}
use Rattle.pc_protocol.specs.Notes.{value, visited, read_word, saw, looked, in_use, IsTrueNote}
use Rattle.pc_protocol.specs.Owned.{IsUnread}
use Rattle.pc_protocol.specs.Rules.{Rule}
use Rattle.pc_protocol.specs.Seeing.{Covers}
use Rattle.pc_protocol.specs.Steps.{Keeps, draw, CanRead}
use Rattle.pc_protocol.specs.Telling.{IsNoted}
use Rattle.pc_protocol.proofs.Draws.{read_draw_keeps}
use Rattle.pc_protocol.proofs.Owned.{steps_keep_owned}
use Rattle.pc_protocol.proofs.Protocol.{rule_tells}
use Rattle.pc_exchange_law.specs.Paths.{Path, read_of, IsPathOf, more_visits, more_reads, is_visitable, with_visit, has_visited, counts_as_read, with_read}
use Rattle.pc_exchange_law.specs.Paths.{with_stamp, with_left, without_stamp}

-- nothing stamped
no_stamp : {X : Type 0} (s : ℕ) → None ≡ Some s → X
no_stamp s e = absurd (cc)

either_way : (P : Path → Type 0) (c : Bool) (p q : Path) → (c ≡ true → P p) → P q → P (if c then p else q)
either_way P true p q here there = here refl
either_way P false p q here there = there

-- an empty path says nothing
pub empty_path : (h : History) (j : ℕ) (begun : Bool) → IsPathOf h j (record { begun = begun; visits = []; reads = []; stamp = None; left = [] })
empty_path h j begun = record {
  noted = record { visits = λ v among. absurd among; reads = λ r among. absurd among };
  unread = λ s e. no_stamp s e;
  seen = λ s e. no_stamp s e;
  checked = λ s v e among. absurd among;
  used = λ v among. absurd (⊎_elim (λ a. a) (λ a. a) among);
}

pub noted_stays : (h h' : History) (p : Path) → ((v : Visited) → IsAmong v p.visits → (b : ℕ) → IsTrueNote h (visited v.node v.version b) → IsTrueNote h' (visited v.node v.version b))
    → ((r : Seen) (v b : ℕ) → IsTrueNote h (read_word r.node v r.field r.number b) → IsTrueNote h' (read_word r.node v r.field r.number b))
    → IsNoted h (read_of p) → IsNoted h' (read_of p)
noted_stays h h' p visits reads noted = record {
  visits = λ v among. let was = noted.visits v among in (was.0, (was.1.0, visits v among was.1.0 was.1.1));
  reads = λ r among. let was = noted.reads r among in (was.0, was.1, (was.2.0, reads r was.0 was.2.0 was.2.1));
}

module _ (h h' : History) (keeps : Keeps h h') (j : ℕ) (p : Path) (path : IsPathOf h j p) where
  noted_then : IsNoted h' (read_of p)
  noted_then = noted_stays h h' p (λ v among b. keeps.notes (visited v.node v.version b))
      (λ r v b. keeps.notes (read_word r.node v r.field r.number b)) path.noted

  -- a step that takes the pass's stamp not away
  pub path_stays : ((s : ℕ) → IsUnread h j s → IsUnread h' j s) → IsPathOf h' j p
  path_stays unread = record {
    noted = noted_then;
    unread = λ s e. unread s (path.unread s e);
    seen = λ s e. keeps.notes (saw s (read_of p)) (path.seen s e);
    checked = λ s v e among. ⊎_elim (λ left. inl left)
        (λ was. inr (keeps.notes (looked s v.node (value v.version)) was)) (path.checked s v e among);
    used = λ v among. keeps.notes (in_use v.node) (path.used v among);
  }

  -- one that uses it up
  pub path_used : IsPathOf h' j (without_stamp p)
  path_used = record {
    noted = noted_then;
    unread = λ s e. no_stamp s e;
    seen = λ s e. no_stamp s e;
    checked = λ s v e among. no_stamp s e;
    used = λ v among. ⊎_elim (λ a. keeps.notes (in_use v.node) (path.used v (inl a))) (λ a. absurd a) among;
  }

first_or_later : (n : ℕ) (v : Visited) (visits : List Visited) (c : Bool) → (v.node == n) ≡ c → (c || has_visited n visits) ≡ true
    → (has_visited n visits ≡ true → (w : Visited) × IsAmong w visits × (w.node ≡ n)) → (w : Visited) × IsAmong w (v ∷ visits) × (w.node ≡ n)
first_or_later n v visits true same is later = (v, inl refl, eqb-true v.node n same)
first_or_later n v visits false other is later = let l = later is in (l.0, inr l.1, l.2)

-- a node that was visited has a visit
pub visited_or_not : (n : ℕ) (visits : List Visited) → has_visited n visits ≡ true → (v : Visited) × IsAmong v visits × (v.node ≡ n)
visited_or_not n [] is = absurd (cc)
visited_or_not n (v ∷ visits) is = first_or_later n v visits (v.node == n) refl is (visited_or_not n visits)

if_false : (c d : Bool) → (if c then false else d) ≡ true → d ≡ true
if_false true d is = absurd (cc)
if_false false d is = is

visited_where : (p : Path) (n : ℕ) (f : Field) → counts_as_read p n f ≡ true → has_visited n p.visits ≡ true
visited_where p n f counts = if_false (field_number f == 0) (has_visited n p.visits) counts

if_true : (c d : Bool) → (if c then d else false) ≡ true → c ≡ true
if_true true d is = refl
if_true false d is = absurd (cc)

pub visitable_is_even : (x : ℕ) → is_visitable x ≡ true → IsEven x
visitable_is_even x is = eqb-true (x % 2) 0 (if_true (x % 2 == 0) (nat_lt x 1152921504606846970) is)

module _ (h : History) (j : ℕ) (p : Path) (path : IsPathOf h j p) where
  -- what the path covers is covered where visits are added
  covered : (q : Path) → ((v : Visited) → IsAmong v p.visits → IsAmong v q.visits) → (n v : ℕ) → Covers (read_of p) n v → Covers (read_of q) n v
  covered q more n v covers = ⊎_elim
      (λ is. inl (record { visit = is.visit; among = more is.visit is.among; node = is.node; version = is.version }))
      (λ changes. absurd changes.among) covers

  -- one visit more, of a version that is noted
  pub visits_more : (n x c : ℕ) → IsUsed (h.slot n) → IsEven x → IsTrueNote h (visited n x c) → IsPathOf h j (more_visits p n x)
  visits_more n x c is_used even note = let v0 : Visited = record { node = n; version = x } in record {
    noted = record {
      visits = λ v among. ⊎_elim (λ old. path.noted.visits v old)
          (λ last. ⊎_elim (λ same. subst (λ (w : Visited). IsEven w.version × ((b : ℕ) × IsTrueNote h (visited w.node w.version b))) (sym same) (even, (c, note)))
          (λ none'. absurd none') last) (among_either v p.visits (v0 ∷ []) among);
      reads = λ r among. let was = path.noted.reads r among in (
        was.0,
        covered (more_visits p n x) (λ v. among_front v p.visits (v0 ∷ [])) r.node was.0 was.1,
        was.2,
      );
    };
    unread = λ s e. no_stamp s e;
    seen = λ s e. no_stamp s e;
    checked = λ s v e among. no_stamp s e;
    used = λ v among. ⊎_elim
        (λ a. ⊎_elim (λ old. path.used v (inl old))
        (λ last. ⊎_elim (λ same. subst (λ (w : Visited). IsUsed (h.slot w.node)) (sym same) is_used) (λ none'. absurd none') last)
        (among_either v p.visits (v0 ∷ []) a))
        (λ a. absurd a) among;
  }

  -- one read more, of a word of a node that was visited
  pub reads_more : (v : Visited) (f : Field) (x c : ℕ) → IsAmong v p.visits → IsTrueNote h (read_word v.node v.version f x c)
      → IsPathOf h j (more_reads p v.node f x)
  reads_more v f x c among note = let r0 : Seen = record { node = v.node; field = f; number = x } in
      let q : Path = more_reads p v.node f x in record {
        noted = record {
          visits = path.noted.visits;
          reads = λ r in_reads. ⊎_elim
              (λ old. let was = path.noted.reads r old in (was.0, covered q (λ w in_w. in_w) r.node was.0 was.1, was.2))
              (λ last. ⊎_elim
              (λ same. subst (λ (u : Seen). (w : ℕ) × Covers (read_of q) u.node w × ((b : ℕ) × IsTrueNote h (read_word u.node w u.field u.number b)))
              (sym same) (v.version, inl (record { visit = v; among = among; node = refl; version = refl }), (c, note)))
              (λ none'. absurd none') last)
              (among_either r p.reads (r0 ∷ []) in_reads);
        };
        unread = λ s e. no_stamp s e;
        seen = λ s e. no_stamp s e;
        checked = λ s w e in_w. no_stamp s e;
        used = λ w in_w. ⊎_elim (λ a. path.used w (inl a)) (λ a. absurd a) in_w;
      }

  -- by what was found in a version word, and in any word
  pub visit_is_path : (n : ℕ) (k : WordKind) → IsUsed (h.slot n) → ((x : ℕ) → k ≡ Plain x → (c : ℕ) × IsTrueNote h (visited n x c)) → IsPathOf h j (with_visit p n k)
  visit_is_path n (Plain x) is_used found = either_way (IsPathOf h j) (is_visitable x) (more_visits p n x) p
      (λ is. let note = found x refl in visits_more n x note.0 is_used (visitable_is_even x is) note.1) path
  visit_is_path n (Install q i) is_used found = path
  visit_is_path n (Refers q a) is_used found = path

  read_counts : (n : ℕ) (f : Field) (x : ℕ) → ((v b : ℕ) → IsTrueNote h (visited n v b) → (c : ℕ) × IsTrueNote h (read_word n v f x c))
      → has_visited n p.visits ≡ true → IsPathOf h j (more_reads p n f x)
  read_counts n f x found is =
      let v = visited_or_not n p.visits is in let was = path.noted.visits v.0 v.1 in
      let note = found v.0.version was.1.0 (subst (λ (m : ℕ). IsTrueNote h (visited m v.0.version was.1.0)) v.2 was.1.1) in
      subst (λ (m : ℕ). IsPathOf h j (more_reads p m f x)) v.2
      (reads_more v.0 f x note.0 v.1 (subst (λ (m : ℕ). IsTrueNote h (read_word m v.0.version f x note.0)) (sym v.2) note.1))

  pub read_is_path : (n : ℕ) (f : Field) (k : WordKind) → ((x v b : ℕ) → k ≡ Plain x → IsTrueNote h (visited n v b) → (c : ℕ) × IsTrueNote h (read_word n v f x c))
      → IsPathOf h j (with_read p n f k)
  read_is_path n f (Plain x) found = either_way (IsPathOf h j) (counts_as_read p n f) (more_reads p n f x) p
      (λ counts. read_counts n f x (λ v b. found x v b refl) (visited_where p n f counts)) path
  read_is_path n f (Install q i) found = path
  read_is_path n f (Refers q a) found = path

  -- a visit passed its check
  pub check_passes : (s : ℕ) (v : Visited) (left : List Visited) → p.stamp ≡ Some s → p.left ≡ v ∷ left
      → IsTrueNote h (looked s v.node (value v.version)) → IsPathOf h j (with_left p left)
  check_passes s v left is first look = record {
    noted = path.noted;
    unread = path.unread;
    seen = λ u e. path.seen u e;
    checked = λ u w e among. ⊎_elim
        (λ was_left. ⊎_elim
        (λ same. inr (subst (λ (t : ℕ × Visited). IsTrueNote h (looked t.0 t.1.node (value t.1.version)))
        (let one : s ≡ u = cc in λ i. (one i, sym same i)) look))
        (λ later. inl later)
        (subst (λ (l : List Visited). IsAmong w l) first was_left))
        (λ was. inr was)
        (path.checked u w e among);
    used = λ w among. ⊎_elim (λ a. path.used w (inl a))
        (λ a. path.used w (inr (subst (λ (l : List Visited). IsAmong w l) (sym first) (inr a)))) among;
  }

-- A stamp is drawn for the read
pub stamp_is_drawn : (h : History) → Rule h → (j : ℕ) (p : Path) → IsPathOf h j p
    → IsPathOf (draw h (for_read j)) j (with_stamp p h.clock)
stamp_is_drawn h rule j p path =
    let keeps = read_draw_keeps h rule j in let h' : History = draw h (for_read j) in
    let there = noted_then h h' keeps j p path in record {
      noted = there;
      unread = λ s e. subst (IsUnread h' j) (let one : h.clock ≡ s = cc in one) ((steps_keep_owned h rule).begins_read j);
      seen = λ s e. subst (λ (u : ℕ). IsTrueNote h' (saw u (read_of p))) (let one : h.clock ≡ s = cc in one)
          (keeps.notes (saw h.clock (read_of p)) ((rule_tells h rule).loads.clock (read_of p) path.noted));
      checked = λ s v e among. inl among;
      used = λ v among. path.used v (inl (⊎_elim (λ a. a) (λ a. a) among));
    }

-- the read may take effect once every visit has passed
pub may_read : (h : History) → Rule h → (j s : ℕ) (p : Path) → IsPathOf h j p → p.stamp ≡ Some s → p.left ≡ []
    → CanRead h j s (read_of p)
may_read h rule j s p path is none' = (rule_tells h rule).notes.read j s s (read_of p) (path.unread s is) refl refl (omega arith)
    (path.seen s is)
    (λ v among. ⊎_elim (λ left. absurd (subst (IsAmong v) none' left)) (λ look. (value v.version, look, omega arith))
    (path.checked s v is among))
