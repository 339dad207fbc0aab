-- What was run is the script that the input spells; where it is not run, its bytes say why.
use Rattle.std.proofs.Common.{ℕ, ◌≤◌, length, sym, subst}
use Rattle.std.proofs.lemmas.Result.{IfErr-weaker}
use Rattle.pc_text.specs.declared.limits.TheConstants.{MOST_BYTES}
use Rattle.pc_run.specs.Reading.{IsInput, input_for}
use Rattle.pc_run.specs.Words.{options_of}
use Rattle.pc_serve.proofs.Inputs.{cause_of_bytes}
use Rattle.pc_serve.proofs.serving.run_input.Goals as goal

pub returns-clause-cause : goal.returns-clause-cause
returns-clause-cause g c =
    let options = c.in_ok-options.options in
    let left = g.S.Source.left c.args.source.now in
    let bytes = c.deref.result.now in
    let small : length bytes ≤ MOST_BYTES = subst (λ (n : ℕ). n ≤ MOST_BYTES) (sym c.deref.ensures.len)
    c.in_ok-bytes.ensures.small in
    let is : IsInput (input_for options.made left) bytes =
    subst (IsInput (input_for options.made left)) (sym c.deref.ensures.value) c.in_ok-bytes.ensures.whole in
    IfErr-weaker c.run_bytes.result _ _ (λ fault bad. cause_of_bytes (options_of c.args.words.now) options left _ _ fault
    bytes c.in_ok-options.ensures.taken small is bad) c.run_bytes.ensures.cause
