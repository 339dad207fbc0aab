-- A failed decision keeps the rule and every note: its references are worth their old numbers before and after.
use Rattle.std.proofs.Common.{◌≡◌, ℕ, inl, inr, ⊎_elim, None, refl, sym, ap, ◌∙◌, subst, le_refl}
use Rattle.pc_model.specs.declared.cell.Field.TheVariants.{Version}
use Rattle.pc_model.specs.Exchanges.{Exchange}
use Rattle.pc_history.proofs.Moments.{versions_never_fall}
use Rattle.pc_history.proofs.Updates.{updated_other, on_updated, from_updated}
use Rattle.pc_protocol.specs.Histories.{Stage, committed, aborted, Cause, History, cells_now, IsPublished}
use Rattle.pc_protocol.specs.Histories.{IsUndecided}
use Rattle.pc_protocol.specs.Histories.{IsDecided, value_by}
use Rattle.pc_protocol.specs.Rules.{IsTaken, IsCause, Rule}
use Rattle.pc_protocol.specs.Steps.{Keeps, abort, CanAbort}
use Rattle.pc_protocol.proofs.Stages.{undecided_is_published, decided_not_undecided, committed_not_undecided}
use Rattle.pc_protocol.proofs.Stages.{undecided_value, aborted_is_published, same_cause}
use Rattle.pc_protocol.proofs.Items.{on_item_map, refers_stays}
use Rattle.pc_protocol.proofs.Notes.{Grows, cause_stays, notes_stay, looked_stays}

module _ (h : History) (rule : Rule h) (x : ℕ) (cause : Cause) (can : CanAbort h x cause) where
  open' : IsUndecided (h.stage x)
  open' = can.undecided

  abbrev h' : History
  h' = abort h x cause

  was_undecided : (y : ℕ) → IsUndecided (h'.stage y) → IsUndecided (h.stage y)
  was_undecided y u = ⊎_elim (λ here. absurd here.1) (λ other. other.1)
      (from_updated h.stage x (aborted cause) IsUndecided y u)

  was_published : (y : ℕ) → IsPublished (h'.stage y) → IsPublished (h.stage y)
  was_published y p = ⊎_elim
      (λ here. subst (λ (z : ℕ). IsPublished (h.stage z)) (sym here.0) (undecided_is_published (h.stage x) open'))
      (λ other. other.1)
      (from_updated h.stage x (aborted cause) IsPublished y p)

  still_published : (y : ℕ) → IsPublished (h.stage y) → IsPublished (h'.stage y)
  still_published y p = on_updated h.stage x (aborted cause) IsPublished y (λ e. tt) (λ ne. p)

  was_committed : (y t : ℕ) → h'.stage y ≡ committed t → h.stage y ≡ committed t
  was_committed y t is = ⊎_elim
      (λ here. absurd (let clash : aborted cause ≡ committed t = here.1 in cc))
      (λ other. other.1)
      (from_updated h.stage x (aborted cause) (λ (st : Stage). st ≡ committed t) y is)

  still_committed : (y t : ℕ) → h.stage y ≡ committed t → h'.stage y ≡ committed t
  still_committed y t is = on_updated h.stage x (aborted cause) (λ (st : Stage). st ≡ committed t) y
      (λ e. absurd (committed_not_undecided (h.stage x) t (ap h.stage (sym e) ∙ is) open'))
      (λ ne. is)

  still_decided : (y : ℕ) → IsDecided (h.stage y) → h'.stage y ≡ h.stage y
  still_decided y d = updated_other h.stage x (aborted cause) y
      (λ e. decided_not_undecided (h.stage x) (subst (λ (z : ℕ). IsDecided (h.stage z)) e d) open')

  same_value : (y old new : ℕ) → value_by (h'.stage y) old new ≡ value_by (h.stage y) old new
  same_value y old new = on_updated h.stage x (aborted cause)
      (λ (st : Stage). value_by st old new ≡ value_by (h.stage y) old new) y
      (λ e. subst (λ (z : ℕ). old ≡ value_by (h.stage z) old new) (sym e)
      (sym (undecided_value (h.stage x) old new open')))
      (λ ne. refl)

  taken_still : (t : ℕ) (e : Exchange) → IsTaken (h.drawn_for t) h.stage h.op t e
      → IsTaken (h.drawn_for t) h'.stage h.op t e
  taken_still t e taken = ⊎_elim
      (λ read. inl read)
      (λ drawn. inr (drawn.0, drawn.1, still_committed drawn.0 t drawn.2, drawn.3))
      taken

  grows : Grows h h'
  grows = record {
    clock = le_refl h.clock;
    rose = λ t n. inr (λ f. refl);
    published = λ y p. (still_published y p, refl);
    undecided = λ y p u. was_undecided y u;
    decided = still_decided;
    draws = λ t y drew. drew;
    held = λ y n f u is. is;
    in_use = λ n is. is;
    looked = looked_stays h h' (λ t n. refl) (λ y p. (still_published y p, refl)) (λ y p u. was_undecided y u)
        (λ y old new p. same_value y old new) (λ t y drew. (rule.drawn y t drew).0) (λ t y lt drew. drew);
    last = refl;
    owner = λ y. refl;
    times = λ y p. refl;
    cleared = λ y c le is. is;
    now = λ n. le_refl (cells_now h n Version);
    clears = λ y is. is;
    items = λ t d is. is;
  }

  caused_still : (y : ℕ) (w : Cause) → h'.stage y ≡ aborted w → IsCause h' y w
  caused_still y w is = ⊎_elim
      (λ here. cause_stays h h' grows y w
      (subst (λ (z : ℕ). IsPublished (h.stage z)) (sym here.0) (undecided_is_published (h.stage x) open'))
      (let same : cause ≡ w = same_cause cause w here.1 in
      subst (λ (z : ℕ). IsCause h z w) (sym here.0) (subst (IsCause h x) same can.cause)))
      (λ other. cause_stays h h' grows y w (aborted_is_published (h.stage y) w other.1) (rule.caused y w other.1))
      (from_updated h.stage x (aborted cause) (λ (st : Stage). st ≡ aborted w) y is)

  running_still : (y : ℕ) → (IsDecided (h'.stage y) → ⊥) → h.cleared_at y ≡ None
  running_still y not_decided = rule.running y (λ d. not_decided (subst IsDecided (sym (still_decided y d)) d))

  rule_kept : Rule h'
  rule_kept = record {
    run = rule.run;
    taken = λ t. on_item_map (IsTaken (h.drawn_for t) h.stage h.op t) (IsTaken (h.drawn_for t) h'.stage h.op t)
        (h.item t) (taken_still t) (rule.taken t);
    standing = λ y t is. rule.standing y t (was_committed y t is);
    past = λ y p. rule.past y (was_published y p);
    drawn = λ y t drew. (still_published y (rule.drawn y t drew).0, (rule.drawn y t drew).1);
    held = λ y t a u drew among. rule.held y t a (was_undecided y u) drew among;
    misses = λ y t v u drew lt. rule.misses y t v (was_undecided y u) drew lt;
    plain_is = rule.plain_is;
    refers = λ n f y is. refers_stays h.stage h'.stage h.op h.op h.plain h.plain h.slot h.slot n f y
        (still_published y (rule.refers n f y is).published) refl (same_value y) refl (λ used. used)
        (rule.refers n f y is);
    unused = rule.unused;
    well_formed = λ y p. rule.well_formed y (was_published y p);
    fresh = λ y g u is. rule.fresh y g (was_undecided y u) is;
    apart = λ y z g k ne u v is_g is_k. rule.apart y z g k ne (was_undecided y u) (was_undecided z v) is_g is_k;
    saw = λ y u. rule.saw y (was_undecided y u);
    caused = caused_still;
    uncleared = rule.uncleared;
    running = running_still;
  }

  aborts_keep : Keeps h h'
  aborts_keep = record {
    rule = rule_kept;
    notes = notes_stay h h' (versions_never_fall h.opening h.clock h.item rule.run) grows;
  }

-- an exchange that isn't decided fails, for a cause
pub abort_keeps : (h : History) → Rule h → (x : ℕ) (cause : Cause) → CanAbort h x cause → Keeps h (abort h x cause)
abort_keeps h rule x cause can = aborts_keep h rule x cause can
