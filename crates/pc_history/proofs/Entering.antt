-- An exchange enters a run at its stamp, below others: it is a run then, and its last cells are the old ones
-- with the exchange made.
use Rattle.std.proofs.Common.{◌≡◌, ◌≢◌, ℕ, zero, suc, ◌<◌, ◌≤◌, inl, inr, ⊎_elim, Option, Some, None, refl, sym}
use Rattle.std.proofs.Common.{ap, ◌∙◌, subst, arith, le_refl}
use Rattle.std.proofs.lemmas.Bool.{cases_eq, cases_lt}
use Rattle.pc_model.specs.declared.cell.Field.TheVariants.{Version}
use Rattle.pc_model.specs.Cells.{Cells}
use Rattle.pc_model.specs.Exchanges.{Exchange, ChangesStand, FreshStands, Stands, applied}
use Rattle.pc_history.specs.Footprints.{WritesMiss, RaisesVersions}
use Rattle.pc_history.specs.Runs.{Items, after, cells_at, put_item, OnItem, IsRun, MayEnter, HasRisen, HasEntered}
use Rattle.pc_history.proofs.Updates.{updated_here, updated_other, on_updated}
use Rattle.pc_history.proofs.Footprints.{exchanges_commute, still_stands, own_changes_still, own_fresh_stands_still}

after_commutes : (e : Exchange) (o : Option Exchange) (c : Cells) → OnItem (WritesMiss e) o
    → after o (applied e c) ≡ applied e (after o c)
after_commutes e None c misses = refl
after_commutes e (Some x) c misses = exchanges_commute e x misses c

stands_after : (e : Exchange) (o : Option Exchange) (c : Cells) → OnItem (WritesMiss e) o
    → OnItem (λ x. Stands x c) o → OnItem (λ x. Stands x (applied e c)) o
stands_after e None c misses stands = tt
stands_after e (Some x) c misses stands = still_stands e x misses c stands

changes_after : (e : Exchange) (o : Option Exchange) (c : Cells) → OnItem (WritesMiss e) o
    → ChangesStand c e.changes → ChangesStand (after o c) e.changes
changes_after e None c misses stands = stands
changes_after e (Some x) c misses stands = own_changes_still e x misses c stands

fresh_after : (e : Exchange) (o : Option Exchange) (c : Cells) → OnItem (WritesMiss e) o
    → FreshStands c e.fresh → FreshStands (after o c) e.fresh
fresh_after e None c misses stands = stands
fresh_after e (Some x) c misses stands = own_fresh_stands_still e x misses c stands

module _ (opening : Cells) (clock : ℕ) (item : Items) (run : IsRun opening clock item) (s : ℕ) (e : Exchange)
    (may : MayEnter opening clock item s e) where
  abbrev item' : Items
  item' = put_item item s e

  abbrev at : ℕ → Cells
  at = cells_at opening item

  abbrev at' : ℕ → Cells
  at' = cells_at opening item'

  is_e : item' s ≡ Some e
  is_e = updated_here item s (Some e) s refl

  is_other : (t : ℕ) → t ≢ s → item' t ≡ item t
  is_other t ne = updated_other item s (Some e) t ne

  lower : (t : ℕ) → t ≤ s → at' t ≡ at t
  lower zero le = refl
  lower (suc t) le = λ i. after (is_other t (λ same. absurd (omega (arith, same))) i) (lower t (omega arith) i)

  -- the moment above the stamp
  next_cells : at' (suc s) ≡ applied e (at s)
  next_cells = λ i. after (is_e i) (lower s (le_refl s) i)

  same_next : at (suc s) ≡ at s
  same_next = ap (λ (o : Option Exchange). after o (at s)) may.empty

  upper : (t : ℕ) → s < t → at' t ≡ applied e (at t)
  upper zero lt = absurd (omega arith)
  upper (suc t) lt = ⊎_elim
      (λ same. subst (λ (x : ℕ). at' (suc x) ≡ applied e (at (suc x))) same (next_cells ∙ ap (applied e) (sym same_next)))
      (λ ne. let above : s < t = omega arith in
      (λ i. after (is_other t (λ same. ne (sym same)) i) (upper t above i))
      ∙ after_commutes e (item t) (at t) (may.misses t above))
      (cases_eq s t)

  own_changes : (t : ℕ) → s < t → ChangesStand (at t) e.changes
  own_changes zero lt = absurd (omega arith)
  own_changes (suc t) lt = ⊎_elim
      (λ same. subst (λ (x : ℕ). ChangesStand (at (suc x)) e.changes) same
      (subst (λ (c : Cells). ChangesStand c e.changes) (sym same_next) may.stands.changes))
      (λ ne. let above : s < t = omega arith in
      changes_after e (item t) (at t) (may.misses t above) (own_changes t above))
      (cases_eq s t)

  own_fresh : (t : ℕ) → s < t → FreshStands (at t) e.fresh
  own_fresh zero lt = absurd (omega arith)
  own_fresh (suc t) lt = ⊎_elim
      (λ same. subst (λ (x : ℕ). FreshStands (at (suc x)) e.fresh) same
      (subst (λ (c : Cells). FreshStands c e.fresh) (sym same_next) may.stands.fresh))
      (λ ne. let above : s < t = omega arith in
      fresh_after e (item t) (at t) (may.misses t above) (own_fresh t above))
      (cases_eq s t)

  stands_there : (t : ℕ) → OnItem (λ x. Stands x (at' t)) (item' t)
  stands_there t = on_updated item s (Some e) (OnItem (λ x. Stands x (at' t))) t
      (λ same. subst (λ (x : ℕ). Stands e (at' x)) (sym same)
      (subst (Stands e) (sym (lower s (le_refl s))) may.stands))
      (λ ne. ⊎_elim
      (λ below. subst (λ (c : Cells). OnItem (λ x. Stands x c) (item t)) (sym (lower t (omega arith))) (run.stands t))
      (λ above. let strictly : s < t = omega arith in
      subst (λ (c : Cells). OnItem (λ x. Stands x c) (item t)) (sym (upper t strictly))
      (stands_after e (item t) (at t) (may.misses t strictly) (run.stands t)))
      (cases_lt t s))

  risen_there : HasRisen opening item item'
  risen_there t n = ⊎_elim
      (λ above. ⊎_elim
      (λ rises. inl (subst (λ (c : Cells). at t n Version < c n Version) (sym (upper t above)) rises))
      (λ stays. inr (λ f. (λ i. upper t above i n f) ∙ stays f))
      (may.raises (at t) (own_changes t above) (own_fresh t above) n))
      (λ below. inr (λ f. λ i. lower t below i n f))
      (cases_lt s t)

  pub has_entered : HasEntered opening clock item s e
  has_entered = record {
    run = record {
      late = λ t le. is_other t (λ same. absurd (omega (arith, may.below, same, le))) ∙ run.late t le;
      stands = stands_there;
      raises = λ t. on_updated item s (Some e) (OnItem RaisesVersions) t (λ same. may.raises) (λ ne. run.raises t);
    };
    lower = lower;
    upper = upper;
    risen = risen_there;
  }
