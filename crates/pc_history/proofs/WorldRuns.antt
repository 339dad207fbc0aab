-- The list of a run is a world run.
use Rattle.std.proofs.Common.{◌≡◌, ℕ, zero, suc, ◌<◌, ◌≤◌, ◌⊎◌, inl, inr, ⊎_elim, List, [], ◌∷◌, ◌++◌, Option, Some, None}
use Rattle.std.proofs.Common.{refl, sym, ap, ◌∙◌, subst, arith, append-nil}
use Rattle.std.proofs.Common.{if◌then◌else◌, nat_lt}
use Rattle.std.proofs.lemmas.Bool.{cases_eq, cond-true, cond-false, lt-ltb, le-ltb}
use Rattle.pc_model.specs.Cells.{Cells}
use Rattle.pc_model.specs.Exchanges.{Exchange, Stands, applied}
use Rattle.pc_history.specs.Footprints.{IsAmong}
use Rattle.pc_history.specs.Runs.{Items, after, cells_at, OnItem, IsRun}
use Rattle.pc_history.specs.WorldRuns.{Stamped, IsWorldRun, cells_after, cells_before, stamped, run_of, IsListOf}

-- Members of two lists one after the other

pub among_front : {A : Type 0} (x : A) (xs ys : List A) → IsAmong x xs → IsAmong x (xs ++ ys)
among_front x [] ys i = absurd i
among_front x (y ∷ xs) ys i = ⊎_elim (λ e. inl e) (λ later. inr (among_front x xs ys later)) i

pub among_back : {A : Type 0} (x : A) (xs ys : List A) → IsAmong x ys → IsAmong x (xs ++ ys)
among_back x [] ys i = i
among_back x (y ∷ xs) ys i = inr (among_back x xs ys i)

pub among_either : {A : Type 0} (x : A) (xs ys : List A) → IsAmong x (xs ++ ys) → IsAmong x xs ⊎ IsAmong x ys
among_either x [] ys i = inr i
among_either x (y ∷ xs) ys i = ⊎_elim
    (λ e. inl (inl e))
    (λ later. ⊎_elim (λ front. inl (inr front)) (λ back. inr back) (among_either x xs ys later))
    i

-- One more exchange at the end

cells_after_append : (c : Cells) (xs ys : List Stamped) → cells_after c (xs ++ ys) ≡ cells_after (cells_after c xs) ys
cells_after_append c [] ys = refl
cells_after_append c (x ∷ xs) ys = cells_after_append (applied x.what c) xs ys

cells_before_append : (c : Cells) (xs ys : List Stamped) (s : ℕ) → cells_before c (xs ++ ys) s ≡ cells_before (cells_before c xs s) ys s
cells_before_append c [] ys s = refl
cells_before_append c (x ∷ xs) ys s = cells_before_append (if nat_lt x.stamp s then applied x.what c else c) xs ys s

-- one whose stamp is below, or isn't
before_below : (c : Cells) (t s : ℕ) (e : Exchange) → t < s → cells_before c (record { stamp = t; what = e } ∷ []) s ≡ applied e c
before_below c t s e below = cond-true (nat_lt t s) (applied e c) c (lt-ltb t s below)

before_late : (c : Cells) (t s : ℕ) (e : Exchange) → s ≤ t → cells_before c (record { stamp = t; what = e } ∷ []) s ≡ c
before_late c t s e late = cond-false (nat_lt t s) (applied e c) c (le-ltb t s late)

-- where all stamps are below, it is what the list leaves
before_all : (c : Cells) (xs : List Stamped) (s : ℕ) → ((x : Stamped) → IsAmong x xs → x.stamp < s) → cells_before c xs s ≡ cells_after c xs
before_all c [] s below = refl
before_all c (x ∷ xs) s below =
    ap (λ (d : Cells). cells_before d xs s) (cond-true (nat_lt x.stamp s) (applied x.what c) c (lt-ltb x.stamp s (below x (inl refl))))
    ∙ before_all (applied x.what c) xs s (λ y i. below y (inr i))

world_more : (c : Cells) (from : ℕ) (xs : List Stamped) (t : ℕ) (e : Exchange) → IsWorldRun c from xs → from ≤ t
    → ((x : Stamped) → IsAmong x xs → x.stamp < t) → Stands e (cells_after c xs)
    → IsWorldRun c from (xs ++ record { stamp = t; what = e } ∷ [])
world_more c from [] t e world le below stands = (le, stands, tt)
world_more c from (x ∷ xs) t e world le below stands = (
  world.0,
  world.1,
  world_more (applied x.what c) (suc x.stamp) xs t e world.2 (below x (inl refl)) (λ y i. below y (inr i)) stands,
)

module _ (opening : Cells) (item : Items) (t : ℕ) (xs : List Stamped) (old : IsListOf opening item t xs) where
  -- the moment after a stamp at which nothing stands
  list_same : item t ≡ None → IsListOf opening item (suc t) (xs ++ [])
  list_same none' = subst (IsListOf opening item (suc t)) (sym (append-nil xs)) (record {
    world = old.world;
    leaves = old.leaves ∙ ap (λ (o : Option Exchange). after o (cells_at opening item t)) (sym none');
    before = λ s le. ⊎_elim
        (λ same. subst (λ (i : ℕ). cells_before opening xs i ≡ cells_at opening item i) (sym same) (all_before ∙ none_more))
        (λ ne. old.before s (omega arith))
        (cases_eq s (suc t));
    only = λ x i. (omega (arith, (old.only x i).0), (old.only x i).1);
    all = λ s e lt is. ⊎_elim
        (λ same. absurd (let some : None ≡ Some e = sym none' ∙ ap item (sym same) ∙ is in cc))
        (λ ne. old.all s e (omega arith) is)
        (cases_eq s t);
  })
    where
      all_before : cells_before opening xs (suc t) ≡ cells_after opening xs
      all_before = before_all opening xs (suc t) (λ x i. omega (arith, (old.only x i).0))

      none_more : cells_after opening xs ≡ cells_at opening item (suc t)
      none_more = old.leaves ∙ ap (λ (o : Option Exchange). after o (cells_at opening item t)) (sym none')

  list_more : (e : Exchange) → item t ≡ Some e → Stands e (cells_at opening item t)
      → IsListOf opening item (suc t) (xs ++ record { stamp = t; what = e } ∷ [])
  list_more e is stands = record {
    world = world_more opening 0 xs t e old.world (omega arith) (λ x i. (old.only x i).0)
        (subst (Stands e) (sym old.leaves) stands);
    leaves = cells_after_append opening xs (record { stamp = t; what = e } ∷ []) ∙ ap (applied e) old.leaves
        ∙ ap (λ (o : Option Exchange). after o (cells_at opening item t)) (sym is);
    before = λ s le. cells_before_append opening xs (record { stamp = t; what = e } ∷ []) s ∙ ⊎_elim
        (λ same. subst (λ (i : ℕ). cells_before (cells_before opening xs i) (record { stamp = t; what = e } ∷ []) i ≡ cells_at opening item i) (sym same) one_more)
        (λ ne. before_late (cells_before opening xs s) t s e (omega arith) ∙ old.before s (omega arith))
        (cases_eq s (suc t));
    only = λ x i. ⊎_elim
        (λ front. (omega (arith, (old.only x front).0), (old.only x front).1))
        (λ back. ⊎_elim
        (λ same. subst (λ (y : Stamped). (y.stamp < suc t) × (item y.stamp ≡ Some y.what)) (sym same)
        (omega arith, is))
        (λ none'. absurd none') back)
        (among_either x xs (record { stamp = t; what = e } ∷ []) i);
    all = λ s d lt that. ⊎_elim
        (λ same. among_back (record { stamp = s; what = d }) xs (record { stamp = t; what = e } ∷ [])
        (inl (let equal : d ≡ e = injected d e (sym that ∙ ap item same ∙ is) in λ i. record {
          stamp = same i;
          what = equal i;
        })))
        (λ ne. among_front (record { stamp = s; what = d }) xs (record { stamp = t; what = e } ∷ [])
        (old.all s d (omega arith) that))
        (cases_eq s t);
  }
    where
      one_more : cells_before (cells_before opening xs (suc t)) (record { stamp = t; what = e } ∷ []) (suc t) ≡ cells_at opening item (suc t)
      one_more = before_below (cells_before opening xs (suc t)) t (suc t) e (omega arith)
          ∙ ap (applied e) (before_all opening xs (suc t) (λ x i. omega (arith, (old.only x i).0)) ∙ old.leaves)
          ∙ ap (λ (o : Option Exchange). after o (cells_at opening item t)) (sym is)

      injected : (d e : Exchange) → Some d ≡ Some e → d ≡ e
      injected d e same = cc

list_step : (opening : Cells) (item : Items) (t : ℕ) (xs : List Stamped) (o : Option Exchange) → item t ≡ o
    → OnItem (λ e. Stands e (cells_at opening item t)) o → IsListOf opening item t xs
    → IsListOf opening item (suc t) (xs ++ stamped t o)
list_step opening item t xs None is stands old = list_same opening item t xs old is
list_step opening item t xs (Some e) is stands old = list_more opening item t xs old e is stands

pub runs_are_world_runs : (opening : Cells) (clock : ℕ) (item : Items) → IsRun opening clock item → (t : ℕ)
    → IsListOf opening item t (run_of item t)
runs_are_world_runs opening clock item run zero = record {
  world = tt;
  leaves = refl;
  before = λ s le. let none' : 0 ≡ s = omega (arith, le) in ap (cells_at opening item) none';
  only = λ x i. absurd i;
  all = λ s e lt is. absurd (omega arith);
}
runs_are_world_runs opening clock item run (suc t) = list_step opening item t (run_of item t) (item t) refl
    (run.stands t) (runs_are_world_runs opening clock item run t)

-- Each exchange of a world run stands in the cells that those before it leave

from_on : (c : Cells) (from : ℕ) (xs : List Stamped) → IsWorldRun c from xs → (x : Stamped) → IsAmong x xs → from ≤ x.stamp
from_on c from [] world x i = absurd i
from_on c from (y ∷ ys) world x i = ⊎_elim
    (λ same. subst (λ (z : Stamped). from ≤ z.stamp) (sym same) world.0)
    (λ later. let next : suc y.stamp ≤ x.stamp = from_on (applied y.what c) (suc y.stamp) ys world.2 x later in let first : from ≤ y.stamp = world.0 in omega arith)
    i

before_none : (c : Cells) (xs : List Stamped) (s : ℕ) → ((x : Stamped) → IsAmong x xs → s ≤ x.stamp) → cells_before c xs s ≡ c
before_none c [] s late = refl
before_none c (x ∷ xs) s late =
    ap (λ (d : Cells). cells_before d xs s) (cond-false (nat_lt x.stamp s) (applied x.what c) c (le-ltb x.stamp s (late x (inl refl))))
    ∙ before_none c xs s (λ y i. late y (inr i))

pub stands_before : (c : Cells) (from : ℕ) (xs : List Stamped) → IsWorldRun c from xs → (x : Stamped) → IsAmong x xs
    → Stands x.what (cells_before c xs x.stamp)
stands_before c from [] world x i = absurd i
stands_before c from (y ∷ ys) world x i = ⊎_elim
    (λ same. subst (λ (z : Stamped). Stands z.what (cells_before c (y ∷ ys) z.stamp)) (sym same)
    (subst (Stands y.what) (sym (before_none c (y ∷ ys) y.stamp not_before)) world.1))
    (λ later. subst (Stands x.what) (ap (λ (d : Cells). cells_before d ys x.stamp)
    (sym (cond-true (nat_lt y.stamp x.stamp) (applied y.what c) c (lt-ltb y.stamp x.stamp (above x later)))))
    (stands_before (applied y.what c) (suc y.stamp) ys world.2 x later))
    i
  where
    above : (z : Stamped) → IsAmong z ys → y.stamp < z.stamp
    above z later = from_on (applied y.what c) (suc y.stamp) ys world.2 z later

    not_before : (z : Stamped) → IsAmong z (y ∷ ys) → y.stamp ≤ z.stamp
    not_before z among = ⊎_elim
        (λ same. subst (λ (w : Stamped). y.stamp ≤ w.stamp) (sym same) (omega arith))
        (λ later. let next = above z later in omega arith)
        among
