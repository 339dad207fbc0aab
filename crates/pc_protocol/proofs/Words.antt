-- Steps on one word or one slot keep the rule and every note: a reference is put or taken out, a word of a spare is
-- filled, a free slot is taken as a spare, and the clock is read after clearing.
use Rattle.std.proofs.Common.{◌≡◌, ◌≢◌, ℕ, inr, ⊎_elim, Option, Some, None, refl, sym, ap, ◌∙◌, subst}
use Rattle.std.proofs.Common.{le_refl}
use Rattle.pc_model.specs.declared.cell.Field.{Field}
use Rattle.pc_model.specs.declared.cell.Field.TheVariants.{Version}
use Rattle.pc_history.specs.Updates.{updated, word_updated}
use Rattle.pc_history.proofs.Moments.{versions_never_fall}
use Rattle.pc_history.proofs.Updates.{word_updated_other, on_word_updated, from_word_updated, on_updated}
use Rattle.pc_protocol.specs.Histories.{spare, History, cells_now, IsUndecided, IsFree}
use Rattle.pc_protocol.specs.Histories.{IsDecided, IsSpare, IsUsed}
use Rattle.pc_protocol.specs.Rules.{Refers, IsReady, IsFrom, Rule}
use Rattle.pc_protocol.specs.Notes.{IsCleared}
use Rattle.pc_protocol.specs.Steps.{Keeps, refer, CanRefer, fill, CanFill, take_slot, clear, CanClear}
use Rattle.pc_protocol.proofs.Stages.{used_not_spare, free_not_used}
use Rattle.pc_protocol.proofs.Stages.{aborted_is_published}
use Rattle.pc_protocol.proofs.Items.{refers_stays}
use Rattle.pc_protocol.proofs.Notes.{Grows, cause_stays, notes_stay, looked_stays}

-- a reference is put into a word or taken out
module _ (h : History) (rule : Rule h) (n : ℕ) (f : Field) (r : Option ℕ) (can : CanRefer h n f r) where
  -- an exchange that isn't decided keeps its references
  still_held : (x m : ℕ) (g : Field) → IsUndecided (h.stage x) → h.reference m g ≡ Some x
      → word_updated h.reference n f r m g ≡ Some x
  still_held x m g u is = on_word_updated h.reference n f r (λ (o : Option ℕ). o ≡ Some x) m g
      (λ node field. can.stays x ((λ i. h.reference (sym node i) (sym field i)) ∙ is) u)
      (λ other. is)

  refers_still : (m : ℕ) (g : Field) (x : ℕ) → word_updated h.reference n f r m g ≡ Some x
      → Refers h.stage h.op h.plain h.slot m g x
  refers_still m g x is = ⊎_elim
      (λ here. subst (λ (k : ℕ). Refers h.stage h.op h.plain h.slot k g x) (sym here.0)
      (subst (λ (k : Field). Refers h.stage h.op h.plain h.slot n k x) (sym here.1) (can.refers x here.2)))
      (λ other. rule.refers m g x other.1)
      (from_word_updated h.reference n f r (λ (o : Option ℕ). o ≡ Some x) m g is)

  refer_grows : Grows h (refer h n f r)
  refer_grows = record {
    clock = le_refl h.clock;
    rose = λ t m. inr (λ g. refl);
    published = λ x p. (p, refl);
    undecided = λ x p u. u;
    decided = λ x d. refl;
    draws = λ t x drew. drew;
    held = λ x m g u is. still_held x m g u is;
    in_use = λ m is. is;
    looked = looked_stays h (refer h n f r) (λ t m. refl) (λ x p. (p, refl)) (λ x p u. u)
        (λ x old new p. refl) (λ t x drew. (rule.drawn x t drew).0) (λ t x lt drew. drew);
    last = refl;
    owner = λ y. refl;
    times = λ y p. refl;
    cleared = λ y c le is. is;
    now = λ m. le_refl (cells_now h m Version);
    clears = λ y is. is;
    items = λ t d is. is;
  }

  pub refer_keeps : Keeps h (refer h n f r)
  refer_keeps = record {
    rule = record {
      run = rule.run;
      taken = rule.taken;
      standing = rule.standing;
      past = rule.past;
      drawn = rule.drawn;
      held = λ x t a u drew among. still_held x a.node a.field u (rule.held x t a u drew among);
      misses = rule.misses;
      plain_is = rule.plain_is;
      refers = refers_still;
      unused = rule.unused;
      well_formed = rule.well_formed;
      fresh = rule.fresh;
      apart = rule.apart;
      saw = rule.saw;
      caused = λ y w is. cause_stays h (refer h n f r) refer_grows y w (aborted_is_published (h.stage y) w is)
          (rule.caused y w is);
      uncleared = λ m g y is. ⊎_elim (λ here. can.uncleared y here.2) (λ other. rule.uncleared m g y other.1)
          (from_word_updated h.reference n f r (λ (o : Option ℕ). o ≡ Some y) m g is);
      running = rule.running;
    };
    notes = notes_stay h (refer h n f r) (versions_never_fall h.opening h.clock h.item rule.run) refer_grows;
  }

-- a word of a spare is filled, whose node no exchange names that isn't decided
module _ (h : History) (rule : Rule h) (n : ℕ) (f : Field) (v : ℕ) (can : CanFill h n) where
  other_node : (m : ℕ) → m ≢ n → (g : Field) → word_updated h.plain n f v m g ≡ h.plain m g
  other_node m ne g = word_updated_other h.plain n f v m g (λ same. absurd (ne same))

  not_here : (m : ℕ) → (IsSpare (h.slot m) → ⊥) → m ≢ n
  not_here m not_spare same = not_spare (subst (λ (k : ℕ). IsSpare (h.slot k)) (sym same) can.is_spare)

  fill_grows : Grows h (fill h n f v)
  fill_grows = record {
    clock = le_refl h.clock;
    rose = λ t m. inr (λ g. refl);
    published = λ x p. (p, refl);
    undecided = λ x p u. u;
    decided = λ x d. refl;
    draws = λ t x drew. drew;
    held = λ x m g u is. is;
    in_use = λ m is. is;
    looked = looked_stays h (fill h n f v) (λ t m. refl) (λ x p. (p, refl)) (λ x p u. u)
        (λ x old new p. refl) (λ t x drew. (rule.drawn x t drew).0) (λ t x lt drew. drew);
    last = refl;
    owner = λ y. refl;
    times = λ y p. refl;
    cleared = λ y c le is. is;
    now = λ m. le_refl (cells_now h m Version);
    clears = λ y is. is;
    items = λ t d is. is;
  }

  pub fill_keeps : Keeps h (fill h n f v)
  fill_keeps = record {
    rule = record {
      run = rule.run;
      taken = rule.taken;
      standing = rule.standing;
      past = rule.past;
      drawn = rule.drawn;
      held = rule.held;
      misses = rule.misses;
      plain_is = λ m g not_spare. other_node m (not_here m not_spare) g ∙ rule.plain_is m g not_spare;
      refers = λ m g x is. let old : Refers h.stage h.op h.plain h.slot m g x = rule.refers m g x is in
          refers_stays h.stage h.stage h.op h.op h.plain (fill h n f v).plain h.slot h.slot m g x old.published refl
          (λ old' new. refl) (other_node m (not_here m (used_not_spare (h.slot m) old.in_use)) g) (λ used. used) old;
      unused = rule.unused;
      well_formed = rule.well_formed;
      fresh = λ x k u is. let old : IsReady (cells_now h) h.plain h.slot k = rule.fresh x k u is in record {
        is_spare = old.is_spare;
        version = old.version;
        filled = λ g. other_node k.node (can.not_named x k u is) g ∙ old.filled g;
      };
      apart = rule.apart;
      saw = rule.saw;
      caused = λ y w is. cause_stays h (fill h n f v) fill_grows y w (aborted_is_published (h.stage y) w is)
          (rule.caused y w is);
      uncleared = rule.uncleared;
      running = rule.running;
    };
    notes = notes_stay h (fill h n f v) (versions_never_fall h.opening h.clock h.item rule.run) fill_grows;
  }

-- a free slot is taken as a spare
module _ (h : History) (rule : Rule h) (n : ℕ) (is_free : IsFree (h.slot n)) where
  still_used : (m : ℕ) → IsUsed (h.slot m) → IsUsed (updated h.slot n spare m)
  still_used m used = on_updated h.slot n spare IsUsed m
      (λ same. free_not_used (h.slot n) is_free (subst (λ (k : ℕ). IsUsed (h.slot k)) same used))
      (λ ne. used)

  still_spare : (m : ℕ) → IsSpare (h.slot m) → IsSpare (updated h.slot n spare m)
  still_spare m is = on_updated h.slot n spare IsSpare m (λ same. tt) (λ ne. is)

  take_slot_grows : Grows h (take_slot h n)
  take_slot_grows = record {
    clock = le_refl h.clock;
    rose = λ t m. inr (λ g. refl);
    published = λ x p. (p, refl);
    undecided = λ x p u. u;
    decided = λ x d. refl;
    draws = λ t x drew. drew;
    held = λ x m g u is. is;
    in_use = still_used;
    looked = looked_stays h (take_slot h n) (λ t m. refl) (λ x p. (p, refl)) (λ x p u. u)
        (λ x old new p. refl) (λ t x drew. (rule.drawn x t drew).0) (λ t x lt drew. drew);
    last = refl;
    owner = λ y. refl;
    times = λ y p. refl;
    cleared = λ y c le is. is;
    now = λ m. le_refl (cells_now h m Version);
    clears = λ y is. is;
    items = λ t d is. is;
  }

  pub take_slot_keeps : Keeps h (take_slot h n)
  take_slot_keeps = record {
    rule = record {
      run = rule.run;
      taken = rule.taken;
      standing = rule.standing;
      past = rule.past;
      drawn = rule.drawn;
      held = rule.held;
      misses = rule.misses;
      plain_is = λ m g not_spare. rule.plain_is m g (λ is. not_spare (still_spare m is));
      refers = λ m g x is. let old : Refers h.stage h.op h.plain h.slot m g x = rule.refers m g x is in
          refers_stays h.stage h.stage h.op h.op h.plain h.plain h.slot (take_slot h n).slot m g x old.published refl
          (λ old' new. refl) refl (still_used m) old;
      unused = λ m not_used. rule.unused m (λ used. not_used (still_used m used));
      well_formed = rule.well_formed;
      fresh = λ x k u is. let old : IsReady (cells_now h) h.plain h.slot k = rule.fresh x k u is in record {
        is_spare = still_spare k.node old.is_spare;
        version = old.version;
        filled = old.filled;
      };
      apart = rule.apart;
      saw = rule.saw;
      caused = λ y w is. cause_stays h (take_slot h n) take_slot_grows y w (aborted_is_published (h.stage y) w is)
          (rule.caused y w is);
      uncleared = rule.uncleared;
      running = rule.running;
    };
    notes = notes_stay h (take_slot h n) (versions_never_fall h.opening h.clock h.item rule.run) take_slot_grows;
  }

-- the clock is read after clearing
module _ (h : History) (rule : Rule h) (x : ℕ) (can : CanClear h x) where
  clear_grows : Grows h (clear h x)
  clear_grows = record {
    clock = le_refl h.clock;
    rose = λ t m. inr (λ g. refl);
    published = λ y p. (p, refl);
    undecided = λ y p u. u;
    decided = λ y d. refl;
    draws = λ t y drew. drew;
    held = λ y m g u is. is;
    in_use = λ m is. is;
    looked = looked_stays h (clear h x) (λ t m. refl) (λ y p. (p, refl)) (λ y p u. u)
        (λ y old new p. refl) (λ t y drew. (rule.drawn y t drew).0) (λ t y lt drew. drew);
    last = refl;
    owner = λ y. refl;
    times = λ y p. refl;
    cleared = λ y c le is. on_updated h.cleared_at x (Some h.clock) (IsFrom c) y (λ same. le) (λ ne. is);
    now = λ m. le_refl (cells_now h m Version);
    clears = λ y is. on_updated h.cleared_at x (Some h.clock) IsCleared y (λ same. tt) (λ ne. is);
    items = λ t d is. is;
  }

  pub clear_keeps : Keeps h (clear h x)
  clear_keeps = record {
    rule = record {
      run = rule.run;
      taken = rule.taken;
      standing = rule.standing;
      past = rule.past;
      drawn = rule.drawn;
      held = rule.held;
      misses = rule.misses;
      plain_is = rule.plain_is;
      refers = rule.refers;
      unused = rule.unused;
      well_formed = rule.well_formed;
      fresh = rule.fresh;
      apart = rule.apart;
      saw = rule.saw;
      caused = λ y w is. cause_stays h (clear h x) clear_grows y w (aborted_is_published (h.stage y) w is)
          (rule.caused y w is);
      uncleared = λ m g y is. on_updated h.cleared_at x (Some h.clock) (λ (o : Option ℕ). o ≡ None) y
          (λ same. absurd (can.no_words m g (is ∙ ap Some same))) (λ ne. rule.uncleared m g y is);
      running = λ y not_decided. on_updated h.cleared_at x (Some h.clock) (λ (o : Option ℕ). o ≡ None) y
          (λ same. absurd (not_decided (subst (λ (z : ℕ). IsDecided (h.stage z)) (sym same) can.decided)))
          (λ ne. rule.running y not_decided);
    };
    notes = notes_stay h (clear h x) (versions_never_fall h.opening h.clock h.item rule.run) clear_grows;
  }
