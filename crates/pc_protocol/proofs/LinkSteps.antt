-- Each step keeps the rule of links.
use Rattle.std.proofs.Common.{◌≡◌, ◌≢◌, ℕ, ◌+◌, ◌%◌, ◌==◌, ◌⊎◌, inl, inr, ⊎_elim, Option}
use Rattle.std.proofs.Common.{Some, None, refl, sym, ap, ◌∙◌, subst, arith, le_refl}
use Rattle.std.proofs.lemmas.Bool.{cases_eq, ne_eqb, cond-false}
use Rattle.pc_model.specs.declared.cell.Field.{Field}
use Rattle.pc_model.specs.declared.cell.Field.TheVariants.{Version}
use Rattle.pc_model.specs.Cells.{Cells, IsNode, IsEven, IsOdd}
use Rattle.pc_model.specs.Exchanges.{Changed, FreshNode, Exchange, applied}
use Rattle.pc_model.specs.Linked.{IsLinkField, IsUnmarked, IsLinked, opening_cells}
use Rattle.pc_history.specs.Updates.{updated}
use Rattle.pc_history.specs.Footprints.{IsAmong, IsOfWord, LeavesWord, IsWellFormed}
use Rattle.pc_history.specs.Runs.{after}
use Rattle.pc_history.proofs.Updates.{on_updated, from_updated}
use Rattle.pc_history.proofs.Footprints.{applied_left, applied_change, applied_fresh, leaves_node, writes_or_leaves}
use Rattle.pc_protocol.specs.Histories.{Slot, free, spare, used, undecided, for_exchange, for_read, Cause, aborted}
use Rattle.pc_protocol.specs.Histories.{committed, History, cells_now, IsPublished, IsFree, IsUsed}
use Rattle.pc_protocol.specs.Rules.{IsReady, Rule}
use Rattle.pc_protocol.specs.Steps.{draw, publish, commit, CanCommit, abort, CanAbort, take_read}
use Rattle.pc_protocol.specs.Steps.{take_slot, slots_with}
use Rattle.pc_protocol.specs.Openings.{opened, opening_slots}
use Rattle.pc_protocol.specs.Links.{MarksAlone, LinksRule, LinksAreInUse, StepsKeepLinks, LinksLaw}
use Rattle.pc_protocol.proofs.Stages.{undecided_is_published, free_not_used, spare_not_used, spare_not_free}
use Rattle.pc_protocol.proofs.Slots.{slots_with-used, slots_with-other}
use Rattle.pc_protocol.proofs.Openings.{nothing_yet}
use Rattle.pc_protocol.proofs.Drawn.{own_refers}
use Rattle.pc_protocol.proofs.Commits as Commits
use Rattle.pc_protocol.proofs.Reading as Reading

used_or_not : (s : Slot) → IsUsed s ⊎ (IsUsed s → ⊥)
used_or_not free = inr (λ u. u)
used_or_not spare = inr (λ u. u)
used_or_not used = inl tt

used_not_free : (s : Slot) → IsUsed s → IsFree s → ⊥
used_not_free s u f = free_not_used s f u

even_or_odd : (v : ℕ) → IsEven v ⊎ IsOdd v
even_or_odd v = ⊎_elim (λ e. inl e) (λ ne. inr (omega (arith, ne))) (cases_eq (v % 2) 0)

module _ (slots : ℕ) (h : History) (rule : Rule h) (links : LinksRule slots h) (linked : IsLinked slots (cells_now h)) where
  -- an unmarked node is in use
  unmarked_in_use : (n : ℕ) → IsEven (cells_now h n Version) → IsUsed (h.slot n)
  unmarked_in_use n even = ⊎_elim
      (λ is. is)
      (λ not_used. absurd (omega (arith, even, rule.unused n not_used)))
      (used_or_not (h.slot n))

  links_in_use : LinksAreInUse h
  links_in_use n f is_used link ne = ⊎_elim
      (λ even. let named : IsUnmarked slots (cells_now h) (cells_now h n f) =
      linked.links n f (links.ranged n (used_not_free (h.slot n) is_used), even) link ne in
      unmarked_in_use (cells_now h n f) named.1)
      (λ odd. links.dead_links n f is_used odd link ne)
      (even_or_odd (cells_now h n Version))

  -- the same cells and slots, and no exchange more
  stays_with : (h' : History) → cells_now h' ≡ cells_now h → h'.slot ≡ h.slot
      → ((x : ℕ) → IsPublished (h'.stage x) → MarksAlone (h'.op x))
      → LinksRule slots h'
  stays_with h' same_now same_slots marks = record {
    ranged = λ n not_free. links.ranged n (λ is. not_free (subst (λ (s : ℕ → Slot). IsFree (s n)) (sym same_slots) is));
    marks = marks;
    dead_links = subst (λ (c : Cells). (n : ℕ) (f : Field) → IsUsed (h'.slot n) → IsOdd (c n Version) → IsLinkField f
        → c n f ≢ 0
        → IsUsed (h'.slot (c n f))) (sym same_now)
        (subst (λ (s : ℕ → Slot). (n : ℕ) (f : Field) → IsUsed (s n) → IsOdd (cells_now h n Version)
        → IsLinkField f
        → cells_now h n f ≢ 0
        → IsUsed (s (cells_now h n f))) (sym same_slots) links.dead_links);
  }

  drawn_now : cells_now (draw h (for_read 0)) ≡ cells_now h
  drawn_now = ap (λ (o : Option Exchange). after o (cells_now h)) (rule.run.late h.clock (le_refl h.clock))

  module _ (x : ℕ) (e : Exchange) (b : ℕ) (alone : MarksAlone e) where
    publish_marks : (y : ℕ) → IsPublished (updated h.stage x undecided y) → MarksAlone (updated h.op x e y)
    publish_marks y p = on_updated h.op x e MarksAlone y
        (λ same. alone)
        (λ ne. links.marks y (⊎_elim (λ here. absurd (ne here.0)) (λ other. other.1)
        (from_updated h.stage x undecided IsPublished y p)))

  module _ (x : ℕ) (w : Cause) (can : CanAbort h x w) where
    abort_marks : (y : ℕ) → IsPublished (updated h.stage x (aborted w) y) → MarksAlone (h.op y)
    abort_marks y p = links.marks y (⊎_elim
        (λ here. subst (λ (z : ℕ). IsPublished (h.stage z)) (sym here.0)
        (undecided_is_published (h.stage x) can.undecided))
        (λ other. other.1)
        (from_updated h.stage x (aborted w) IsPublished y p))

  take_slot_links : (n : ℕ) → IsFree (h.slot n) → IsNode slots n → LinksRule slots (take_slot h n)
  take_slot_links n is_free node = record {
    ranged = λ m not_free. ⊎_elim
        (λ same. subst (IsNode slots) (sym same) node)
        (λ ne. links.ranged m (λ is. not_free (on_updated h.slot n spare IsFree m (λ same. absurd (ne same))
        (λ _. is))))
        (cases_eq m n);
    marks = links.marks;
    dead_links = λ m f is_used odd link ne.
        let was_used : IsUsed (h.slot m) = ⊎_elim (λ here. absurd here.1) (λ other. other.1)
        (from_updated h.slot n spare IsUsed m is_used) in
        let named : IsUsed (h.slot (cells_now h m f)) = links.dead_links m f was_used odd link ne in
        on_updated h.slot n spare IsUsed (cells_now h m f)
        (λ same. absurd (free_not_used (h.slot n) is_free (subst (λ (k : ℕ). IsUsed (h.slot k)) same named)))
        (λ _. named);
  }

  module _ (x s : ℕ) (can : CanCommit h x s) where
    abbrev e : Exchange
    e = h.op x

    abbrev h' : History
    h' = commit h x s

    well_formed : IsWellFormed e
    well_formed = rule.well_formed x (undecided_is_published (h.stage x) can.undecided)

    same_now : cells_now h' ≡ applied e (cells_now h)
    same_now = Commits.same_now h rule x s can

    now_at : (n : ℕ) (f : Field) → cells_now h' n f ≡ applied e (cells_now h) n f
    now_at n f = λ i. same_now i n f

    -- a link that the exchange leaves names a node in use, since it did before
    left_link : (n : ℕ) (f : Field) → IsUsed (h.slot n) → LeavesWord e n f → IsLinkField f → cells_now h' n f ≢ 0
        → IsUsed (h'.slot (cells_now h' n f))
    left_link n f is_used leaves link ne =
        let same : cells_now h' n f ≡ cells_now h n f = now_at n f ∙ applied_left e (cells_now h) n f leaves in
        subst (λ (m : ℕ). IsUsed (h'.slot m)) (sym same)
        (slots_with-used e.fresh h.slot (cells_now h n f)
        (links_in_use n f is_used link (λ zero_link. ne (same ∙ zero_link))))

    -- the node that it marks keeps its links
    marked_leaves : (a : Changed) → IsAmong a e.changes → (n : ℕ) (f : Field) → IsOfWord n Version a → IsOdd a.new
        → IsLinkField f
        → LeavesWord e n f
    marked_leaves a among n f is odd link = record {
      unchanged = λ b in_b is_b.
          let version : b.field ≡ Version = links.marks x (undecided_is_published (h.stage x) can.undecided) a b among
          in_b is.1 odd (is_b.0 ∙ sym is.0) in
          subst IsLinkField (sym is_b.1 ∙ version) link;
      not_fresh = λ g is_g same. well_formed.not_fresh a g among is_g (is.0 ∙ same);
    }

    dead_links_still : (n : ℕ) (f : Field) → IsUsed (h'.slot n) → IsOdd (cells_now h' n Version) → IsLinkField f
        → cells_now h' n f ≢ 0
        → IsUsed (h'.slot (cells_now h' n f))
    dead_links_still n f is_used odd link ne = ⊎_elim
        (λ writes. ⊎_elim
        (λ change. let now : cells_now h' n Version ≡ change.change.new = now_at n Version
        ∙ (λ i. applied e (cells_now h) (sym change.is_of.0 i) (sym change.is_of.1 i))
        ∙ applied_change e well_formed (cells_now h) change.change change.among in
        let is_odd : IsOdd change.change.new = subst IsOdd now odd in
        let was_used : IsUsed (h.slot n) = subst (λ (m : ℕ). IsUsed (h.slot m)) change.is_of.0
        (own_refers h rule x s can.undecided can.drew change.change change.among).in_use in
        left_link n f was_used (marked_leaves change.change change.among n f change.is_of is_odd link) link ne)
        (λ made. let ready : IsReady (cells_now h) h.plain h.slot made.0 =
        rule.fresh x made.0 can.undecided made.1 in
        let was_odd : IsOdd (cells_now h made.0.node Version) = rule.unused made.0.node
        (spare_not_used (h.slot made.0.node) ready.is_spare) in
        let now : cells_now h' n Version ≡ cells_now h made.0.node Version + 1 = now_at n Version
        ∙ ap (λ (m : ℕ). applied e (cells_now h) m Version) made.2
        ∙ applied_fresh e well_formed (cells_now h) made.0 Version made.1 ∙ ready.version in
        absurd (odd_then_even (cells_now h made.0.node Version) was_odd (subst IsOdd now odd)))
        writes)
        (λ leaves. let was_used : IsUsed (h.slot n) = subst IsUsed
        (slots_with-other e.fresh h.slot n leaves.not_fresh) is_used in
        left_link n f was_used (leaves_node e well_formed n leaves f) link ne)
        (writes_or_leaves e n Version)
      where
        odd_then_even : (v : ℕ) → IsOdd v → IsOdd (v + 1) → ⊥
        odd_then_even v one two = absurd (omega (arith, one, two))

    ranged_still : (n : ℕ) → (IsFree (h'.slot n) → ⊥) → IsNode slots n
    ranged_still n not_free = by_fresh e.fresh refl not_free
      where
        by_fresh : (o : Option FreshNode) → e.fresh ≡ o → (IsFree (slots_with o h.slot n) → ⊥) → IsNode slots n
        by_fresh None is other = links.ranged n other
        by_fresh (Some g) is other = ⊎_elim
            (λ same. links.ranged n (λ is_free. spare_not_free (h.slot g.node)
            (rule.fresh x g can.undecided is).is_spare (subst (λ (m : ℕ). IsFree (h.slot m)) same is_free)))
            (λ ne. links.ranged n (λ is_free. other (on_updated h.slot g.node used IsFree n (λ same. absurd (ne same))
            (λ _. is_free))))
            (cases_eq n g.node)

    commit_links : LinksRule slots h'
    commit_links = record {
      ranged = ranged_still;
      marks = λ y p. links.marks y (⊎_elim
          (λ here. subst (λ (z : ℕ). IsPublished (h.stage z)) (sym here.0)
          (undecided_is_published (h.stage x) can.undecided))
          (λ other. other.1)
          (from_updated h.stage x (committed s) IsPublished y p));
      dead_links = dead_links_still;
    }

  steps_keep_links : StepsKeepLinks slots h
  steps_keep_links = record {
    draws = λ x can. stays_with (draw h (for_exchange x)) drawn_now refl links.marks;
    read_draws = λ p. stays_with (draw h (for_read p)) drawn_now refl links.marks;
    publishes = λ x e b can alone. stays_with (publish h x e b) refl refl (publish_marks x e b alone);
    commits = commit_links;
    aborts = λ x w can. stays_with (abort h x w) refl refl (abort_marks x w can);
    reads = λ p s e can. stays_with (take_read h s e) (Reading.same_now h rule p s e can) refl links.marks;
    refers = λ n f r can. record { ranged = links.ranged; marks = links.marks; dead_links = links.dead_links };
    fills = λ n f v can. record { ranged = links.ranged; marks = links.marks; dead_links = links.dead_links };
    takes_slots = take_slot_links;
    clears = λ x can. record { ranged = links.ranged; marks = links.marks; dead_links = links.dead_links };
  }

only_root : (n : ℕ) → (IsFree (opening_slots n) → ⊥) → n ≡ 1
only_root n not_free = ⊎_elim
    (λ one. one)
    (λ other. absurd (not_free (subst IsFree (sym (cond-false (n == 1) used free (ne_eqb n 1 other))) tt)))
    (cases_eq n 1)

opening_links : (slots version start last : ℕ) (owner : ℕ → ℕ) → IsEven version
    → LinksRule slots (opened (opening_cells version) start last owner opening_slots)
opening_links slots version start last owner even = record {
  ranged = λ n not_free. let one : n ≡ 1 = only_root n not_free in (omega (arith, one), omega (arith, one));
  marks = λ x p. absurd p;
  dead_links = λ n f is_used odd link ne.
      let one : n ≡ 1 = only_root n (used_not_free (opening_slots n) is_used) in
      let now : cells_now (opened (opening_cells version) start last owner opening_slots) n Version ≡ version =
      (λ i. nothing_yet (opening_cells version) start i n Version)
      ∙ ap (λ (m : ℕ). opening_cells version m Version) one in
      absurd (omega (arith, even, odd, now));
}

pub links_law : LinksLaw
links_law = record { opening = opening_links; in_use = links_in_use; steps = steps_keep_links }
