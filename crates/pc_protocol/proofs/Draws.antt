-- A draw of a stamp keeps the rule and every note: no cells change, and the next stamp is above all that stands.
use Rattle.std.proofs.Common.{◌≡◌, ℕ, suc, ◌<◌, ◌≤◌, ◌⊎◌, inl, inr, ⊎_elim, Option, None, refl, sym, ap, ◌∙◌}
use Rattle.std.proofs.Common.{subst, arith, le_refl}
use Rattle.pc_model.specs.declared.cell.Field.TheVariants.{Version}
use Rattle.pc_model.specs.Cells.{Cells, IsOdd}
use Rattle.pc_model.specs.Exchanges.{Exchange}
use Rattle.pc_history.specs.Footprints.{WritesMiss}
use Rattle.pc_history.specs.Runs.{after, OnItem}
use Rattle.pc_history.proofs.Moments.{versions_never_fall}
use Rattle.pc_history.proofs.Updates.{updated_other, on_updated, from_updated}
use Rattle.pc_protocol.specs.Histories.{Purpose, for_exchange, for_read, History, cells_now, Drew}
use Rattle.pc_protocol.specs.Rules.{IsTaken, IsReady, Rule}
use Rattle.pc_protocol.specs.Steps.{Keeps, draw, CanDraw}
use Rattle.pc_protocol.proofs.Items.{on_item_none}
use Rattle.pc_protocol.proofs.Stages.{aborted_is_published}
use Rattle.pc_protocol.proofs.Notes.{Grows, cause_stays, notes_stay, looked_stays}

module _ (h : History) (rule : Rule h) (d : Purpose) (may : (x : ℕ) → d ≡ for_exchange x → CanDraw h x) where
  abbrev h' : History
  h' = draw h d

  -- a stamp that was drawn is the new one, or an old one
  new_or_old : (t x : ℕ) → Drew h'.clock h'.drawn_for t x
      → ((t ≡ h.clock) × (d ≡ for_exchange x)) ⊎ Drew h.clock h.drawn_for t x
  new_or_old t x drew = ⊎_elim
      (λ new. inl new)
      (λ old. let below : t < suc h.clock = drew.0 in inr (omega (arith, below, old.0), old.1))
      (from_updated h.drawn_for h.clock d (λ (k : Purpose). k ≡ for_exchange x) t drew.1)

  still_drawn : (t x : ℕ) → Drew h.clock h.drawn_for t x → Drew h'.clock h'.drawn_for t x
  still_drawn t x drew = (
    omega (arith, drew.0),
    updated_other h.drawn_for h.clock d t (λ e. absurd (omega (arith, e, drew.0))) ∙ drew.1,
  )

  no_item_now : h.item h.clock ≡ None
  no_item_now = rule.run.late h.clock (le_refl h.clock)

  same_now : cells_now h' ≡ cells_now h
  same_now = ap (λ (o : Option Exchange). after o (cells_now h)) no_item_now

  taken_still : (t : ℕ) → OnItem (IsTaken (h'.drawn_for t) h.stage h.op t) (h.item t)
  taken_still t = on_updated h.drawn_for h.clock d (λ (k : Purpose). OnItem (IsTaken k h.stage h.op t) (h.item t)) t
      (λ e. on_item_none (IsTaken d h.stage h.op t) (h.item t) (ap h.item e ∙ no_item_now))
      (λ ne. rule.taken t)

  grows : Grows h h'
  grows = record {
    clock = omega arith;
    rose = λ t n. inr (λ f. refl);
    published = λ x p. (p, refl);
    undecided = λ x p u. u;
    decided = λ x p. refl;
    draws = still_drawn;
    held = λ x n f u is. is;
    in_use = λ n is. is;
    looked = looked_stays h h' (λ t n. refl) (λ x p. (p, refl)) (λ x p u. u) (λ x old new p. refl)
        (λ t x drew. (rule.drawn x t drew).0)
        (λ t x lt drew. ⊎_elim (λ new. absurd (omega (arith, new.0, lt))) (λ old. old) (new_or_old t x drew));
    last = refl;
    owner = λ x. refl;
    times = λ x p. refl;
    cleared = λ x c le is. is;
    now = λ n. let same : cells_now h' n Version ≡ cells_now h n Version = (λ i. same_now i n Version) in
        omega (arith, same);
    clears = λ y is. is;
    items = λ t d is. is;
  }

  rule_kept : Rule h'
  rule_kept = record {
    run = record {
      late = λ t le. rule.run.late t (omega (arith, le));
      stands = rule.run.stands;
      raises = rule.run.raises;
    };
    taken = taken_still;
    standing = λ x t is. (still_drawn t x (rule.standing x t is).0, (rule.standing x t is).1);
    past = λ x published. omega (arith, rule.past x published);
    drawn = λ x t drew. ⊎_elim
        (λ new. let published = (may x new.1).published in
        (published, subst (λ (u : ℕ). h.published_at x ≤ u) (sym new.0) (rule.past x published)))
        (λ old. rule.drawn x t old)
        (new_or_old t x drew);
    held = λ x t a u drew among. ⊎_elim
        (λ new. (may x new.1).held a u among)
        (λ old. rule.held x t a u old among)
        (new_or_old t x drew);
    misses = λ x t v u drew lt. ⊎_elim
        (λ new. on_item_none (WritesMiss (h.op x)) (h.item v) (rule.run.late v (omega (arith, new.0, lt))))
        (λ old. rule.misses x t v u old lt)
        (new_or_old t x drew);
    plain_is = λ n f not_spare. rule.plain_is n f not_spare ∙ sym (λ i. same_now i n f);
    refers = rule.refers;
    unused = λ n not_used. subst (λ (c : Cells). IsOdd (c n Version)) (sym same_now) (rule.unused n not_used);
    well_formed = rule.well_formed;
    fresh = λ x g u is. subst (λ (c : Cells). IsReady c h.plain h.slot g) (sym same_now) (rule.fresh x g u is);
    apart = rule.apart;
    saw = rule.saw;
    caused = λ x w is. cause_stays h h' grows x w (aborted_is_published (h.stage x) w is) (rule.caused x w is);
    uncleared = rule.uncleared;
    running = rule.running;
  }

  draws_keep : Keeps h h'
  draws_keep = record {
    rule = rule_kept;
    notes = notes_stay h h' (versions_never_fall h.opening h.clock h.item rule.run) grows;
  }

-- a stamp for an exchange
pub draw_keeps : (h : History) → Rule h → (x : ℕ) → CanDraw h x → Keeps h (draw h (for_exchange x))
draw_keeps h rule x can = draws_keep h rule (for_exchange x) (λ y e. let same : x ≡ y = cc in subst (CanDraw h) same can)

-- a stamp for a read, or one that isn't used
pub read_draw_keeps : (h : History) → Rule h → (p : ℕ) → Keeps h (draw h (for_read p))
read_draw_keeps h rule p = draws_keep h rule (for_read p)
    (λ y e. absurd (let clash : for_read p ≡ for_exchange y = e in cc))
