use Rattle.std.proofs.Common.{◌≡◌, Some, sym, ap, ◌∙◌, subst}
use Rattle.pc_model.specs.declared.owed.Owing.TheVariants.{Key, From}
use Rattle.pc_avl.specs.declared.tree_kind.TreeKind.TheVariants.{Avl}
use Rattle.pc_locked.specs.Repairs.{IsInFullBalance, RunsFor}
use Rattle.pc_locked.specs.States.{MapState}
use Rattle.pc_locked.proofs.Paying.{balanced_when_free, paid_first}
use Rattle.pc_locked.proofs.payment.pay_by.Goals as goal

pub returns-in-None-clause-balanced : goal.returns-in-None-clause-balanced
returns-in-None-clause-balanced g c =
    subst (λ (s : MapState). s.kind ≡ Avl → IsInFullBalance s.cells) c.state.view_is
    (balanced_when_free _ c.state.invariant.0 (sym c.first.ensures ∙ c.in-None.is))

pub returns-in-Some-Key-clause-paid : goal.returns-in-Some-Key-clause-paid
returns-in-Some-Key-clause-paid g c =
    paid_first (RunsFor g.R.Plan.start g.R.Plan.moves g.R.Plan.form g.R.Plan.terms)
    (RunsFor g.F.Plan.start g.F.Plan.moves g.F.Plan.form g.F.Plan.terms) _ c.args.state.now (record {
      kind = c.state.inside.kind;
      cells = c.repair_by.new.cells;
      entries = c.state.inside.entries.items;
      calls = c.state.inside.calls;
      owed = c.repair_by.new.owed;
    })
    (Key c.in-Some-Key.key) c.state.view_is (sym c.first.ensures ∙ c.in-Some-Key.is ∙ ap Some c.in-Some-Key.field-0-is)
    (c.repair_by.result, c.repair_by.ensures.run)

pub returns-in-Some-From-clause-paid : goal.returns-in-Some-From-clause-paid
returns-in-Some-From-clause-paid g c =
    paid_first (RunsFor g.R.Plan.start g.R.Plan.moves g.R.Plan.form g.R.Plan.terms)
    (RunsFor g.F.Plan.start g.F.Plan.moves g.F.Plan.form g.F.Plan.terms) _ c.args.state.now (record {
      kind = c.state.inside.kind;
      cells = c.repair_by-in-Some-From.new.cells;
      entries = c.state.inside.entries.items;
      calls = c.state.inside.calls;
      owed = c.repair_by-in-Some-From.new.owed;
    })
    (From c.in-Some-From.number) c.state.view_is
    (sym c.first.ensures ∙ c.in-Some-From.is ∙ ap Some c.in-Some-From.field-0-is)
    (c.repair_by-in-Some-From.result, c.repair_by-in-Some-From.ensures.run)
