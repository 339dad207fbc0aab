use Rattle.std.proofs.Common.{ℕ, ◌≤◌, refl, sym, ap, subst}
use Rattle.pc_model.specs.Debts.{Debts, first_owed}
use Rattle.pc_locked.proofs.Paying.{balanced_when_free}
use Rattle.pc_locked.proofs.StateSteps.{empty_of, opened_right, opened_counts}
use Rattle.pc_locked.proofs.state.open_state.Goals as goal

pub invariant_of-result : goal.invariant_of-result
invariant_of-result c = (
  opened_right c.args.kind c.in_ok-cells.cells c.in-Ok.entries.items c.args.calls c.none.result
      (subst (λ (n : ℕ). n ≤ 61000) (sym c.in_ok-cells.ensures.slots) c.requires) c.ranges.calls.fits
      c.in_ok-cells.ensures.opening
      (empty_of c.args.kind c.in_ok-cells.cells c.in_ok-cells.ensures.empty c.in_ok-cells.ensures.empty_balanced)
      c.in-Ok.ensures.items c.none.ensures,
  opened_counts _ c.in-Ok.entries.items refl refl c.in-Ok.ensures.items,
  c.in-Ok.ensures.capacity,
)

-- nothing is owed, so the empty tree is in full balance
pub returns-clause-balanced : goal.returns-clause-balanced
returns-clause-balanced c = balanced_when_free (record {
  kind = c.args.kind;
  cells = c.in_ok-cells.cells;
  entries = c.in-Ok.entries.items;
  calls = c.args.calls;
  owed = c.none.result;
}) (invariant_of-result c).0 (ap (λ (d : Debts). first_owed d.keys d.from) c.none.ensures)
