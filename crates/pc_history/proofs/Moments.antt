-- The cells at the moments of a run: what stays between two moments, and that versions never fall.
use Rattle.std.proofs.Common.{◌≡◌, ℕ, zero, suc, ◌<◌, ◌≤◌, ◌⊎◌, inl, inr, ⊎_elim, Option, Some, None, refl, sym}
use Rattle.std.proofs.Common.{ap, ◌∙◌, subst, arith, le_refl}
use Rattle.std.proofs.lemmas.Bool.{cases_eq}
use Rattle.pc_model.specs.declared.cell.Field.{Field}
use Rattle.pc_model.specs.declared.cell.Field.TheVariants.{Version}
use Rattle.pc_model.specs.Cells.{Cells}
use Rattle.pc_model.specs.Exchanges.{Exchange, Stands}
use Rattle.pc_history.specs.Footprints.{LeavesWord, RaisesVersions}
use Rattle.pc_history.specs.Runs.{Items, after, cells_at, OnItem, IsRun}
use Rattle.pc_history.proofs.Footprints.{applied_left}

after_left : (o : Option Exchange) (c : Cells) (n : ℕ) (f : Field) → OnItem (λ x. LeavesWord x n f) o
    → after o c n f ≡ c n f
after_left None c n f leaves = refl
after_left (Some x) c n f leaves = applied_left x c n f leaves

-- an exchange that stands moves a node's version up, or leaves the node
pub after_moves : (o : Option Exchange) (c : Cells) (n : ℕ) → OnItem (λ x. Stands x c) o → OnItem RaisesVersions o
    → (c n Version < after o c n Version) ⊎ ((f : Field) → after o c n f ≡ c n f)
after_moves None c n stands raises = inr (λ f. refl)
after_moves (Some x) c n stands raises = raises c stands.changes stands.fresh n

pub last_step : (s t : ℕ) → s ≤ suc t → (s ≡ suc t) ⊎ (s ≤ t)
last_step s t le = ⊎_elim (λ e. inl e) (λ ne. inr (omega arith)) (cases_eq s (suc t))

-- a word stays as long as each exchange on the way leaves it
pub word_stays : (opening : Cells) (item : Items) (n : ℕ) (f : Field) (s t : ℕ) → s ≤ t
    → ((u : ℕ) → s ≤ u → u < t → OnItem (λ x. LeavesWord x n f) (item u))
    → cells_at opening item t n f ≡ cells_at opening item s n f
word_stays opening item n f s zero le leaves =
    let e : s ≡ zero = omega arith in ap (λ (x : ℕ). cells_at opening item x n f) (sym e)
word_stays opening item n f s (suc t) le leaves = ⊎_elim
    (λ e. ap (λ (x : ℕ). cells_at opening item x n f) (sym e))
    (λ below. after_left (item t) (cells_at opening item t) n f (leaves t below (le_refl (suc t)))
    ∙ word_stays opening item n f s t below (λ u above under. leaves u above (omega arith)))
    (last_step s t le)

module _ (opening : Cells) (clock : ℕ) (item : Items) (run : IsRun opening clock item) where
  abbrev at : ℕ → Cells
  at = cells_at opening item

  -- from the clock on nothing changes
  pub late_cells : (t : ℕ) → clock ≤ t → at t ≡ at clock
  late_cells zero le = let e : clock ≡ zero = omega arith in ap at (sym e)
  late_cells (suc t) le = ⊎_elim
      (λ e. ap at (sym e))
      (λ below. ap (λ (o : Option Exchange). after o (at t)) (run.late t below) ∙ late_cells t below)
      (last_step clock t le)

  -- between two moments the version of a node rises, or the node stays as it was
  pub versions_rise : (t u n : ℕ) → t ≤ u → (at t n Version < at u n Version) ⊎ ((f : Field) → at u n f ≡ at t n f)
  versions_rise t zero n le = let e : t ≡ zero = omega arith in inr (λ f. ap (λ (x : ℕ). at x n f) (sym e))
  versions_rise t (suc u) n le = ⊎_elim
      (λ e. inr (λ f. ap (λ (x : ℕ). at x n f) (sym e)))
      (λ below. ⊎_elim
      (λ rose. inl (⊎_elim
      (λ rises. omega (arith, rose, rises))
      (λ stays. subst (λ (x : ℕ). at t n Version < x) (sym (stays Version)) rose)
      (after_moves (item u) (at u) n (run.stands u) (run.raises u))))
      (λ stayed. ⊎_elim
      (λ rises. inl (subst (λ (x : ℕ). x < at (suc u) n Version) (stayed Version) rises))
      (λ stays. inr (λ f. stays f ∙ stayed f))
      (after_moves (item u) (at u) n (run.stands u) (run.raises u)))
      (versions_rise t u n below))
      (last_step t u le)

  pub versions_never_fall : (t u n : ℕ) → t ≤ u → at t n Version ≤ at u n Version
  versions_never_fall t u n le = ⊎_elim
      (λ rises. omega (arith, rises))
      (λ stays. omega (arith, stays Version))
      (versions_rise t u n le)

  -- where a version is as before, so are the node's other words
  pub same_version_same_node : (t u n : ℕ) → t ≤ u → at u n Version ≡ at t n Version → (f : Field)
      → at u n f ≡ at t n f
  same_version_same_node t u n le same f = ⊎_elim
      (λ rises. absurd (omega (arith, rises, same)))
      (λ stays. stays f)
      (versions_rise t u n le)
