-- There is an entry for each call.
use Rattle.std.proofs.Common.{◌≡◌, List, ◌∷◌, [], length, sym, ap, ◌∙◌, subst}
use Rattle.pc_model.specs.declared.call.Call.{Call}
use Rattle.pc_model.specs.History.{IsHistoryOf}
use Rattle.pc_run.proofs.Steps.{whole_run}
use Rattle.pc_run.proofs.alone.Lone.into_map.Goals as goal

pub returns-clause-whole : goal.returns-clause-whole
returns-clause-whole c =
    let same : c.self.inside.calls.now ≡ c.args.self.calls = ap (λ w. w.calls) c.self.view_is in
    let all : length c.self.inside.map.entries ≡ length c.self.inside.calls.now =
    ap (λ w. length w.map.entries) c.self.view_is ∙ c.requires.all ∙ sym (ap length same) in
    subst (λ (calls : List Call). IsHistoryOf (calls ∷ []) c.self.inside.map.entries) same
    (whole_run c.self.inside.calls.now c.self.inside.map c.self.invariant c.history-right.ensures.right all)
