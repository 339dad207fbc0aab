-- Notes stay true: at a step that makes the history grow, by cases on the note.
use Rattle.std.proofs.Common.{◌≡◌, ℕ, ◌<◌, ◌≤◌, ◌⊎◌, ⊎_elim, Some, sym, ◌∙◌}
use Rattle.std.proofs.Common.{subst, arith}
use Rattle.pc_model.specs.declared.cell.Field.{Field}
use Rattle.pc_model.specs.declared.cell.Field.TheVariants.{Version}
use Rattle.pc_model.specs.Cells.{Cells}
use Rattle.pc_model.specs.Exchanges.{Exchange}
use Rattle.pc_history.specs.Footprints.{IsAmong, HasChange, LeavesWord}
use Rattle.pc_protocol.specs.Histories.{Cause, withdrawn, ended, changed, locked, Stage, History, moments, cells_now, IsPublished}
use Rattle.pc_protocol.specs.Histories.{IsUndecided, IsDecided, value_by, IsUsed, Drew}
use Rattle.pc_protocol.specs.Seeing.{Visits, Covers, SawWord, Saw}
use Rattle.pc_protocol.specs.Rules.{IsFrom, Rival, IsCause}
use Rattle.pc_protocol.specs.Notes.{Found, value, by, IsBoundedBy, IsBelowFound, Looked, Note, clock_was, visited, read_word}
use Rattle.pc_protocol.specs.Notes.{saw, looked, published, held, drew, verdict, in_use, rival, in_run, cleared, outdated, IsCleared}
use Rattle.pc_protocol.specs.Notes.{IsTrueNote}

-- at each moment a node's version rose, or the node is as before
abbrev pub Rose : (ℕ → Cells) → (ℕ → Cells) → Type 0
Rose at at' = (t n : ℕ) → (at t n Version < at' t n Version) ⊎ ((f : Field) → at' t n f ≡ at t n f)

-- versions never fall from one moment to the next
abbrev pub NeverFalls : (ℕ → Cells) → Type 0
NeverFalls at = (t u n : ℕ) → t ≤ u → at t n Version ≤ at u n Version

module _ (at at' : ℕ → Cells) (falls : NeverFalls at) (rose : Rose at at') where
  pub as_great : (t n : ℕ) → at t n Version ≤ at' t n Version
  as_great t n = ⊎_elim (λ more. omega (arith, more)) (λ same. omega (arith, same Version)) (rose t n)

  pub word_still : (b n v : ℕ) (f : Field) (x : ℕ) → SawWord at b n v f x → SawWord at' b n v f x
  word_still b n v f x seen = (
    omega (arith, seen.0, as_great b n),
    (λ t le version. ⊎_elim
        (λ more. absurd (omega (arith, more, version, seen.0, falls b t n le)))
        (λ same. same f ∙ seen.1 t le (sym (same Version) ∙ version))
        (rose t n)),
  )

  pub saw_still : (b : ℕ) (e : Exchange) → Saw at b e → Saw at' b e
  saw_still b e seen = record {
    visits = λ v among. ((seen.visits v among).0, omega (arith, (seen.visits v among).1, as_great b v.node));
    reads = λ r among. let there : (v : ℕ) × Covers e r.node v × SawWord at b r.node v r.field r.number =
        seen.reads r among in
        (there.0, there.1, word_still b r.node there.0 r.field r.number there.2);
  }

module _ (at : ℕ → Cells) (falls : NeverFalls at) where
  -- what was seen at a moment is seen at a later one
  pub word_later : (b c n v : ℕ) (f : Field) (x : ℕ) → b ≤ c → SawWord at b n v f x → SawWord at c n v f x
  word_later b c n v f x le seen = (
    omega (arith, seen.0, falls b c n le),
    (λ t later version. seen.1 t (omega arith) version),
  )

  pub saw_later : (b c : ℕ) (e : Exchange) → b ≤ c → Saw at b e → Saw at c e
  saw_later b c e le seen = record {
    visits = λ v among. ((seen.visits v among).0, omega (arith, (seen.visits v among).1, falls b c v.node le));
    reads = λ r among. let there : (v : ℕ) × Covers e r.node v × SawWord at b r.node v r.field r.number =
        seen.reads r among in
        (there.0, there.1, word_later b c r.node there.0 r.field r.number le there.2);
  }

-- A history grows to the next one
pub record Grows (h h' : History) : Type 0 where
  pub clock : h.clock ≤ h'.clock
  pub rose : Rose (moments h) (moments h')
  pub published : (x : ℕ) → IsPublished (h.stage x) → IsPublished (h'.stage x) × (h'.op x ≡ h.op x)
  pub undecided : (x : ℕ) → IsPublished (h.stage x) → IsUndecided (h'.stage x) → IsUndecided (h.stage x)
  pub decided : (x : ℕ) → IsDecided (h.stage x) → h'.stage x ≡ h.stage x
  pub draws : (t x : ℕ) → Drew h.clock h.drawn_for t x → Drew h'.clock h'.drawn_for t x
  pub held : (x n : ℕ) (f : Field) → IsUndecided (h'.stage x) → h.reference n f ≡ Some x → h'.reference n f ≡ Some x
  pub in_use : (n : ℕ) → IsUsed (h.slot n) → IsUsed (h'.slot n)
  pub looked : (s n : ℕ) (f : Found) → s < h.clock → Looked h s n f → Looked h' s n f
  pub last : h'.last ≡ h.last
  pub owner : (x : ℕ) → h'.owner x ≡ h.owner x
  pub times : (x : ℕ) → IsPublished (h.stage x) → h'.published_at x ≡ h.published_at x
  pub cleared : (x c : ℕ) → c ≤ h.clock → IsFrom c (h.cleared_at x) → IsFrom c (h'.cleared_at x)
  pub now : (n : ℕ) → cells_now h n Version ≤ cells_now h' n Version
  pub clears : (x : ℕ) → IsCleared (h.cleared_at x) → IsCleared (h'.cleared_at x)
  pub items : (s : ℕ) (e : Exchange) → h.item s ≡ Some e → h'.item s ≡ Some e

-- a rival stays one, and so does a cause
module _ (h h' : History) (grows : Grows h h') where
  pub rival_stays : (pass n c : ℕ) → Rival h pass n c → Rival h' pass n c
  rival_stays pass n c r =
      let still : IsPublished (h'.stage r.exchange) × (h'.op r.exchange ≡ h.op r.exchange) =
      grows.published r.exchange r.published in record {
        exchange = r.exchange;
        owned = grows.owner r.exchange ∙ r.owned;
        published = still.0;
        changes = subst (λ (e : Exchange). HasChange e n Version) (sym still.1) r.changes;
        past = omega (arith, r.past, grows.clock);
        cleared = grows.cleared r.exchange c r.past r.cleared;
      }

  pub cause_stays : (x : ℕ) (w : Cause) → IsPublished (h.stage x) → IsCause h x w → IsCause h' x w
  cause_stays x withdrawn p cause = tt
  cause_stays x ended p cause = omega (arith, cause, grows.clock, grows.last)
  cause_stays x (changed n) p cause = (
    cause.0,
    subst (λ (e : Exchange). Covers e n cause.0) (sym (grows.published x p).1) cause.1,
    omega (arith, cause.2, grows.now n),
  )
  cause_stays x (locked n pass) p cause = (
    cause.0,
    subst (λ (e : Exchange). Visits e n cause.0) (sym (grows.published x p).1) cause.1,
    (λ same. cause.2 (same ∙ grows.owner x)),
    subst (λ (c : ℕ). Rival h' pass n c) (sym (grows.times x p)) (rival_stays pass n (h.published_at x) cause.3),
  )

pub notes_stay : (h h' : History) → NeverFalls (moments h) → Grows h h' → (k : Note) → IsTrueNote h k
    → IsTrueNote h' k
notes_stay h h' falls grows (clock_was c) true' = omega (arith, true', grows.clock)
notes_stay h h' falls grows (visited n v b) true' = (
  omega (arith, true'.0, grows.clock),
  omega (arith, true'.1, as_great (moments h) (moments h') falls grows.rose b n),
)
notes_stay h h' falls grows (read_word n v f x b) true' = (
  omega (arith, true'.0, grows.clock),
  word_still (moments h) (moments h') falls grows.rose b n v f x true'.1,
)
notes_stay h h' falls grows (saw b e) true' = (
  omega (arith, true'.0, grows.clock),
  saw_still (moments h) (moments h') falls grows.rose b e true'.1,
)
notes_stay h h' falls grows (looked s n f) true' = (
  omega (arith, true'.0, grows.clock),
  grows.looked s n f true'.0 true'.1,
)
notes_stay h h' falls grows (published x e b) true' = (
  (grows.published x true'.0).0,
  (grows.published x true'.0).1 ∙ true'.1,
  grows.times x true'.0 ∙ true'.2,
)
notes_stay h h' falls grows (held x n f) true' = (
  (grows.published x true'.0).0,
  (λ u. grows.held x n f u (true'.1 (grows.undecided x true'.0 u))),
)
notes_stay h h' falls grows (drew x s) true' = grows.draws s x true'
notes_stay h h' falls grows (verdict x st) true' = (
  grows.decided x (subst IsDecided (sym true'.0) true'.1) ∙ true'.0,
  true'.1,
)
notes_stay h h' falls grows (in_use n) true' = grows.in_use n true'
notes_stay h h' falls grows (rival pass n c) true' = rival_stays h h' grows pass n c true'
notes_stay h h' falls grows (in_run s e) true' = grows.items s e true'
notes_stay h h' falls grows (cleared x) true' = grows.clears x true'
notes_stay h h' falls grows (outdated x n) true' = (
  (grows.published x true'.0).0,
  cause_stays h h' grows x (changed n) true'.0 true'.1,
)

-- Looks at a step that leaves the run as it is, and the worth of each reference

bound_stays : (stage stage' : ℕ → Stage) (op op' : ℕ → Exchange) (n v x : ℕ) → IsPublished (stage' x) → op' x ≡ op x
    → ((old new : ℕ) → value_by (stage' x) old new ≡ value_by (stage x) old new)
    → IsBoundedBy stage op n v x → IsBoundedBy stage' op' n v x
bound_stays stage stage' op op' n v x is_published same worth bounded = record {
  published = is_published;
  change = bounded.change;
  among = subst (λ (e : Exchange). IsAmong bounded.change e.changes) (sym same) bounded.among;
  is_of = bounded.is_of;
  bound = subst (λ (w : ℕ). v ≤ w) (sym (worth bounded.change.old bounded.change.new)) bounded.bound;
}

module _ (h h' : History) (same_cells : (t n : ℕ) → moments h' t n Version ≡ moments h t n Version)
    (still : (x : ℕ) → IsPublished (h.stage x) → IsPublished (h'.stage x) × (h'.op x ≡ h.op x))
    (undecided : (x : ℕ) → IsPublished (h.stage x) → IsUndecided (h'.stage x) → IsUndecided (h.stage x))
    (values : (x old new : ℕ) → IsPublished (h.stage x) → value_by (h'.stage x) old new ≡ value_by (h.stage x) old new)
    (drawn : (t x : ℕ) → Drew h.clock h.drawn_for t x → IsPublished (h.stage x))
    (old_draws : (t x : ℕ) → t < h.clock → Drew h'.clock h'.drawn_for t x → Drew h.clock h.drawn_for t x) where
  below_stays : (s n : ℕ) (f : Found) → IsBelowFound h.stage h.op n (moments h s n Version) f
      → IsBelowFound h'.stage h'.op n (moments h' s n Version) f
  below_stays s n (value w) below = subst (λ (v : ℕ). v ≤ w) (sym (same_cells s n)) below
  below_stays s n (by x) below = subst (λ (v : ℕ). IsBoundedBy h'.stage h'.op n v x) (sym (same_cells s n))
      (bound_stays h.stage h'.stage h.op h'.op n (moments h s n Version) x (still x below.published).0
      (still x below.published).1 (λ old new. values x old new below.published) below)

  pub looked_stays : (s n : ℕ) (f : Found) → s < h.clock → Looked h s n f → Looked h' s n f
  looked_stays s n f lt old = record {
    others = λ y t u drew below not_by.
        let old_drew : Drew h.clock h.drawn_for t y = old_draws t y (omega arith) drew in
        let was : IsPublished (h.stage y) = drawn t y old_drew in
        subst (λ (e : Exchange). LeavesWord e n Version) (sym (still y was).1)
        (old.others y t (undecided y was u) old_drew below not_by);
    below = below_stays s n f old.below;
  }
