-- Where a seed is named, its script is the input.
use Rattle.std.proofs.Common.{sym, subst, Option, ℕ}
use Rattle.std.specs.Prelude.{IfOk, IfErr}
use Rattle.std.proofs.lemmas.Result.{IfOk-weaker}
use Rattle.pc_run.specs.Reading.{IsInput, IsInputFault, input_for}
use Rattle.pc_run.proofs.reading.read_input.Goals as goal

pub returns-in-Some-clause-whole : goal.returns-in-Some-clause-whole
returns-in-Some-clause-whole g c =
    let left = g.S.Source.left c.args.source.now in
    subst (λ (made : Option ℕ). IfOk c.make_input.result (λ bytes. IsInput (input_for made left) bytes.items))
    (sym c.in-Some.is) (IfOk-weaker c.make_input.result _ _ (λ bytes is. sym is) c.make_input.ensures.made)

pub returns-in-Some-clause-cause : goal.returns-in-Some-clause-cause
returns-in-Some-clause-cause g c =
    let left = g.S.Source.left c.args.source.now in
    let faults = g.S.Source.faults c.args.source.now in
    subst (λ (made : Option ℕ). IfErr c.make_input.result (IsInputFault made left faults faults))
    (sym c.in-Some.is) c.make_input.ensures.cause
