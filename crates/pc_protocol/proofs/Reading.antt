-- A read that takes effect keeps the rule and every note: it changes no cells, and the run has it at its stamp.
use Rattle.std.proofs.Common.{◌≡◌, ℕ, ◌<◌, ◌≤◌, inl, inr, ⊎_elim, [], Option, Some, None, refl, sym, ap, ◌∙◌}
use Rattle.std.proofs.Common.{subst, arith, le_refl}
use Rattle.std.proofs.lemmas.Bool.{cases_lt}
use Rattle.pc_model.specs.declared.cell.Field.{Field}
use Rattle.pc_model.specs.declared.cell.Field.TheVariants.{Version}
use Rattle.pc_model.specs.Cells.{Cells, IsOdd}
use Rattle.pc_model.specs.Exchanges.{Visited, Changed, FreshNode, Exchange, FreshStands, Stands, with_changes}
use Rattle.pc_model.specs.Exchanges.{with_fresh, applied}
use Rattle.pc_history.specs.Footprints.{IsAmong, LeavesWord, WritesMiss, RaisesVersions}
use Rattle.pc_history.specs.Runs.{OnItem, HasEntered}
use Rattle.pc_history.proofs.Updates.{updated_other, on_updated}
use Rattle.pc_history.proofs.Footprints.{leaves_node, visits_stand, reads_stand, changes_stand}
use Rattle.pc_history.proofs.Moments.{versions_never_fall}
use Rattle.pc_history.proofs.Entering.{has_entered}
use Rattle.pc_protocol.specs.Histories.{History, moments, cells_now}
use Rattle.pc_protocol.specs.Histories.{IsUndecided, Drew}
use Rattle.pc_protocol.specs.Seeing.{Covers, SawWord, Saw}
use Rattle.pc_protocol.specs.Rules.{IsTaken, IsReady, Rule}
use Rattle.pc_protocol.specs.Steps.{Keeps, take_read, CanRead}
use Rattle.pc_protocol.proofs.Stages.{none_not_some, undecided_is_published, aborted_is_published}
use Rattle.pc_protocol.proofs.Notes.{Grows, cause_stays, notes_stay, looked_stays}
use Rattle.pc_protocol.proofs.Drawn.{passed_version, passed_others}

-- an exchange without changes and fresh node leaves the cells as they are
pub changes_nothing : (e : Exchange) → e.changes ≡ [] → e.fresh ≡ None → (c : Cells) → applied e c ≡ c
changes_nothing e changes fresh c = λ i. with_changes (changes i) (with_fresh (fresh i) c)

none_among : (e : Exchange) → e.changes ≡ [] → (a : Changed) → IsAmong a e.changes → ⊥
none_among e changes a among = let none' : IsAmong a [] = subst (IsAmong a) changes among in none'

no_fresh : (e : Exchange) → e.fresh ≡ None → (g : FreshNode) → e.fresh ≡ Some g → ⊥
no_fresh e fresh g is = none_not_some g (sym fresh ∙ is)

module _ (h : History) (rule : Rule h) (p s : ℕ) (e : Exchange) (can : CanRead h p s e) where
  abbrev h' : History
  h' = take_read h s e

  never_falls : (t u n : ℕ) → t ≤ u → moments h t n Version ≤ moments h u n Version
  never_falls = versions_never_fall h.opening h.clock h.item rule.run

  leaves_all : (n : ℕ) (f : Field) → LeavesWord e n f
  leaves_all n f = record {
    unchanged = λ a among is. none_among e can.no_changes a among;
    not_fresh = λ g is. absurd (no_fresh e can.no_fresh g is);
  }

  misses_all : (x : Exchange) → WritesMiss e x
  misses_all x = record {
    visits = λ v among. leaves_all v.node Version;
    reads = λ r among. leaves_all r.node r.field;
    changes = λ a among. leaves_all a.node a.field;
    fresh = λ g f is. leaves_all g.node f;
  }

  on_all : (o : Option Exchange) → OnItem (WritesMiss e) o
  on_all None = tt
  on_all (Some x) = misses_all x

  least : (v : Visited) → IsAmong v e.visits → v.version ≤ moments h s v.node Version
  least v among = omega (arith, (can.saw.visits v among).1, never_falls can.seen_at s v.node can.past)

  at_version : (v : Visited) → IsAmong v e.visits → moments h s v.node Version ≡ v.version
  at_version v among = passed_version h rule s v (least v among) (can.checked v among)

  abbrev Leaves : ℕ → Type 0
  Leaves n = (y t : ℕ) → IsUndecided (h.stage y) → Drew h.clock h.drawn_for t y → t < s
      → LeavesWord (h.op y) n Version

  covered : (n v : ℕ) → Covers e n v → (moments h s n Version ≡ v) × Leaves n
  covered n v covers = ⊎_elim
      (λ visit. (
        ap (λ (m : ℕ). moments h s m Version) (sym visit.node) ∙ at_version visit.visit visit.among ∙ visit.version,
        subst Leaves visit.node (λ y t u drew lt. passed_others h rule s visit.visit (least visit.visit visit.among)
            (can.checked visit.visit visit.among) y t u drew lt),
      ))
      (λ own. absurd (none_among e can.no_changes own.change own.among))
      covers

  fresh_stands : (o : Option FreshNode) → o ≡ None → FreshStands (moments h s) o
  fresh_stands o is = subst (FreshStands (moments h s)) (sym is) tt

  stands_at : Stands e (moments h s)
  stands_at = record {
    visits = visits_stand (moments h s) e.visits (λ v among. (at_version v among, (can.saw.visits v among).0));
    reads = reads_stand (moments h s) e.reads (λ r among.
        let there : (v : ℕ) × Covers e r.node v × SawWord (moments h) can.seen_at r.node v r.field r.number =
        can.saw.reads r among in
        there.2.1 s can.past (covered r.node there.0 there.1).0);
    changes = changes_stand (moments h s) e.changes (λ a among. absurd (none_among e can.no_changes a among));
    fresh = fresh_stands e.fresh can.no_fresh;
  }

  raises : RaisesVersions e
  raises c changes fresh n = inr (λ f. λ i. changes_nothing e can.no_changes can.no_fresh c i n f)

  entered : HasEntered h.opening h.clock h.item s e
  entered = has_entered h.opening h.clock h.item rule.run s e (record {
    below = can.drew.0;
    empty = can.empty;
    stands = stands_at;
    raises = raises;
    misses = λ u lt. on_all (h.item u);
  })

  -- no moment changes
  same_at : (t : ℕ) → moments h' t ≡ moments h t
  same_at t = ⊎_elim
      (λ above. entered.upper t above ∙ changes_nothing e can.no_changes can.no_fresh (moments h t))
      (λ below. entered.lower t below)
      (cases_lt s t)

  same_moments : moments h' ≡ moments h
  same_moments = λ i t. same_at t i

  pub same_now : cells_now h' ≡ cells_now h
  same_now = same_at h.clock

  -- what an exchange with a smaller stamp writes misses the read
  misses_this : (y t : ℕ) → IsUndecided (h.stage y) → Drew h.clock h.drawn_for t y → t < s → WritesMiss (h.op y) e
  misses_this y t u drew lt = record {
    visits = λ v among. passed_others h rule s v (least v among) (can.checked v among) y t u drew lt;
    reads = λ r among.
        let there : (v : ℕ) × Covers e r.node v × SawWord (moments h) can.seen_at r.node v r.field r.number =
        can.saw.reads r among in
        leaves_node (h.op y) (rule.well_formed y (undecided_is_published (h.stage y) u)) r.node
        ((covered r.node there.0 there.1).1 y t u drew lt) r.field;
    changes = λ a among. absurd (none_among e can.no_changes a among);
    fresh = λ g f is. absurd (no_fresh e can.no_fresh g is);
  }

  grows : Grows h h'
  grows = record {
    clock = le_refl h.clock;
    rose = entered.risen;
    published = λ x p. (p, refl);
    undecided = λ x p u. u;
    decided = λ x d. refl;
    draws = λ t x drew. drew;
    held = λ x n f u is. is;
    in_use = λ n is. is;
    looked = looked_stays h h' (λ t n. λ i. same_at t i n Version) (λ x p. (p, refl)) (λ x p u. u)
        (λ x old new p. refl) (λ t x drew. (rule.drawn x t drew).0) (λ t x lt drew. drew);
    last = refl;
    owner = λ x. refl;
    times = λ x p. refl;
    cleared = λ x c le is. is;
    now = λ n. let same : cells_now h' n Version ≡ cells_now h n Version = (λ i. same_now i n Version) in
        omega (arith, same);
    clears = λ y is. is;
    items = λ t d is. updated_other h.item s (Some e) t (λ same. none_not_some d
        (sym can.empty ∙ ap h.item (sym same) ∙ is)) ∙ is;
  }

  rule_kept : Rule h'
  rule_kept = record {
    run = entered.run;
    taken = λ t. on_updated h.item s (Some e) (OnItem (IsTaken (h.drawn_for t) h.stage h.op t)) t
        (λ same. inl ((p, ap h.drawn_for same ∙ can.drew.1), can.no_changes, can.no_fresh))
        (λ ne. rule.taken t);
    standing = λ y t is. let old : Drew h.clock h.drawn_for t y × (h.item t ≡ Some (h.op y)) = rule.standing y t is in (
      old.0,
      updated_other h.item s (Some e) t (λ same. none_not_some (h.op y)
          (sym can.empty ∙ ap h.item (sym same) ∙ old.1)) ∙ old.1,
    );
    past = rule.past;
    drawn = rule.drawn;
    held = rule.held;
    misses = λ y t v u drew lt. on_updated h.item s (Some e) (OnItem (WritesMiss (h.op y))) v
        (λ same. misses_this y t u drew (subst (λ (w : ℕ). t < w) same lt))
        (λ ne. rule.misses y t v u drew lt);
    plain_is = λ n f not_spare. rule.plain_is n f not_spare ∙ sym (λ i. same_now i n f);
    refers = rule.refers;
    unused = λ n not_used. subst (λ (c : Cells). IsOdd (c n Version)) (sym same_now) (rule.unused n not_used);
    well_formed = rule.well_formed;
    fresh = λ x g u is. subst (λ (c : Cells). IsReady c h.plain h.slot g) (sym same_now) (rule.fresh x g u is);
    apart = rule.apart;
    saw = λ x u. subst (λ (at : ℕ → Cells). Saw at (h.published_at x) (h.op x)) (sym same_moments) (rule.saw x u);
    caused = λ x w is. cause_stays h h' grows x w (aborted_is_published (h.stage x) w is) (rule.caused x w is);
    uncleared = rule.uncleared;
    running = rule.running;
  }

  reads_keep : Keeps h h'
  reads_keep = record {
    rule = rule_kept;
    notes = notes_stay h h' never_falls grows;
  }

pub read_keeps : (h : History) → Rule h → (p s : ℕ) (e : Exchange) → CanRead h p s e → Keeps h (take_read h s e)
read_keeps h rule p s e can = reads_keep h rule p s e can
