-- A worked run: three nodes are in use, one exchange stands at stamp 3, another enters at stamp 1, and a third
-- one may not, since it writes what the first one changes.
use Rattle.std.proofs.Common.{◌≡◌, ◌≢◌, ℕ, inl, inr, ⊎_elim, [], ◌∷◌, Option, Some, None, refl, sym}
use Rattle.std.proofs.Common.{ap, ◌∙◌, subst, arith}
use Rattle.pc_model.specs.declared.cell.Field.{Field}
use Rattle.pc_model.specs.declared.cell.Field.TheVariants.{Version, Value}
use Rattle.pc_model.specs.Cells.{Cells}
use Rattle.pc_model.specs.Exchanges.{Visited, Changed, FreshNode, Exchange}
use Rattle.pc_history.specs.Footprints.{IsAmong, LeavesWord, WritesMiss, RaisesVersionOf, IsWellFormed}
use Rattle.pc_history.specs.Runs.{Items, cells_at, put_item, OnItem, IsRun, MayEnter, HasEntered}
use Rattle.pc_history.specs.WorldRuns.{run_of, IsListOf}
use Rattle.pc_history.proofs.Updates.{on_updated}
use Rattle.pc_history.proofs.Footprints.{raises_versions}
use Rattle.pc_history.proofs.Entering.{has_entered}
use Rattle.pc_history.proofs.WorldRuns.{runs_are_world_runs}

abbrev zeros : Cells
zeros = λ n f. 0

-- the value of a node that was visited becomes 7, and its version rises
abbrev set_value : ℕ → Exchange
set_value n = record {
  visits = record { node = n; version = 0 } ∷ [];
  reads = [];
  changes = record { node = n; field = Value; old = 0; new = 7 } ∷ record {
    node = n;
    field = Version;
    old = 0;
    new = 2;
  } ∷ [];
  fresh = None;
}

node_is : (n : ℕ) (a : Changed) → IsAmong a (set_value n).changes → a.node ≡ n
node_is n a among = ⊎_elim
    (λ e. ap (λ (x : Changed). x.node) e)
    (λ later. ⊎_elim (λ e. ap (λ (x : Changed). x.node) e) (λ none'. absurd none') later) among

is_well_formed : (n : ℕ) → IsWellFormed (set_value n)
is_well_formed n = record {
  once = (
    (λ b among is. ⊎_elim
        (λ e. let clash : ◌≡◌ {A = Field} Version Value = sym (ap (λ (x : Changed). x.field) e) ∙ is.1 in cc)
        (λ none'. none') among),
    ((λ b among is. among), tt),
  );
  raises = λ a among. subst (RaisesVersionOf (set_value n)) (sym (node_is n a among)) (record {
    change = record { node = n; field = Version; old = 0; new = 2 };
    among = inr (inl refl);
    is_of = (refl, refl);
    rises = inl (omega arith);
  });
  not_fresh = λ a g among is. absurd (let x : ◌≡◌ {A = Option FreshNode} None (Some g) = is in cc);
}

leaves_other : (m n : ℕ) (f : Field) → m ≢ n → LeavesWord (set_value m) n f
leaves_other m n f ne = record {
  unchanged = λ a among is. ne (sym (node_is m a among) ∙ is.0);
  not_fresh = λ g is. absurd (let x : ◌≡◌ {A = Option FreshNode} None (Some g) = is in cc);
}

misses_other : (m n : ℕ) → m ≢ n → WritesMiss (set_value m) (set_value n)
misses_other m n ne = record {
  visits = λ v among. ⊎_elim
      (λ e. leaves_other m v.node Version (λ same. ne (same ∙ ap (λ (x : Visited). x.node) e)))
      (λ none'. absurd none') among;
  reads = λ r among. absurd among;
  changes = λ a among. leaves_other m a.node a.field (λ same. ne (same ∙ node_is n a among));
  fresh = λ g f is. absurd (let x : ◌≡◌ {A = Option FreshNode} None (Some g) = is in cc);
}

abbrev nothing : Items
nothing = λ t. None

empty_run : IsRun zeros 4 nothing
empty_run = record { late = λ t le. refl; stands = λ t. tt; raises = λ t. tt }

-- one exchange stands at stamp 3
abbrev first : Items
first = put_item nothing 3 (set_value 2)

first_may : MayEnter zeros 4 nothing 3 (set_value 2)
first_may = record {
  below = omega arith;
  empty = refl;
  stands = record { visits = ((refl, refl), tt); reads = tt; changes = (refl, (refl, tt)); fresh = tt };
  raises = raises_versions (set_value 2) (is_well_formed 2);
  misses = λ u lt. tt;
}

first_run : IsRun zeros 4 first
first_run = (has_entered zeros 4 nothing empty_run 3 (set_value 2) first_may).run

-- another comes late, and enters at stamp 1
abbrev both : Items
both = put_item first 1 (set_value 3)

late_may : MayEnter zeros 4 first 1 (set_value 3)
late_may = record {
  below = omega arith;
  empty = refl;
  stands = record { visits = ((refl, refl), tt); reads = tt; changes = (refl, (refl, tt)); fresh = tt };
  raises = raises_versions (set_value 3) (is_well_formed 3);
  misses = λ u lt. on_updated nothing 3 (Some (set_value 2)) (OnItem (WritesMiss (set_value 3))) u
      (λ e. misses_other 3 2 (λ same. absurd (omega (arith, same))))
      (λ ne. tt);
}

both_entered : HasEntered zeros 4 first 1 (set_value 3)
both_entered = has_entered zeros 4 first first_run 1 (set_value 3) late_may

listed : run_of both 4 ≡ record { stamp = 1; what = set_value 3 } ∷ record { stamp = 3; what = set_value 2 } ∷ []
listed = refl

both_listed : IsListOf zeros both 4 (run_of both 4)
both_listed = runs_are_world_runs zeros 4 both both_entered.run 4

-- the cells at the moments
before_both : cells_at zeros both 1 3 Value ≡ 0
before_both = refl

between : cells_at zeros both 3 3 Value ≡ 7
between = refl

not_yet : cells_at zeros both 3 2 Version ≡ 0
not_yet = refl

in_the_end : cells_at zeros both 4 2 Version ≡ 2
in_the_end = refl

-- an exchange that writes what a later one changes may not enter below it
conflict_may_not : MayEnter zeros 4 first 1 (set_value 2) → ⊥
conflict_may_not may =
    let misses : WritesMiss (set_value 2) (set_value 2) = may.misses 3 (omega arith) in
    (misses.changes (record { node = 2; field = Value; old = 0; new = 7 }) (inl refl)).unchanged
    (record { node = 2; field = Value; old = 0; new = 7 }) (inl refl) (refl, refl)

-- nor above it, where it doesn't stand any more
stale_may_not : MayEnter zeros 5 first 4 (set_value 2) → ⊥
stale_may_not may =
    let version : ◌≡◌ {A = ℕ} 2 0 = may.stands.visits.0.0 in absurd (omega (arith, version))
