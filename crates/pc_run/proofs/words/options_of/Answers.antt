-- The command is the one of the definition, so the parse is that of the definition.
use Rattle.std.proofs.Common.{◌≡◌, ◌∙◌, List, [], Some, Result, IfOk, IfErr, map, sym, ap, subst}
use Rattle.std.specs.Prelude.{string_bytes}
use Rattle.clap.specs.Words.{App, Text, app_of, fault_of, matches_of, is_simple, is_simple_and_free, kind_of, HasKind}
use Rattle.pc_run.specs.Words.{pathmap, asked_by, options_of, HasSeedInRange, IsWordsFault}
use Rattle.pc_text.specs.declared.fault.Fault.{Fault}
use Rattle.pc_run.specs.declared.words.Options.{Options}
use Rattle.pc_run.proofs.Taking.{pathmap_is_simple, pathmap_has_matches, asked_where_taken}
use Rattle.pc_run.proofs.Taking.{options_or_usage, ok_or_in_range, why_refused}
use Rattle.pc_run.proofs.words.options_of.Goals as goal

pub returns-in-Ok : goal.returns-in-Ok
returns-in-Ok c =
    let words : List Text = map string_bytes c.args.words.now in
    let is : app_of c.in_ok-command.command ≡ pathmap = c.in_ok-command.ensures in
    let taken : fault_of pathmap words ≡ [] = ap (λ (app : App). fault_of app words) (sym is)
    ∙ c.in-Ok.ensures.kinds (ap is_simple_and_free is ∙ pathmap_is_simple) in
    let rows = (c.in-Ok.ensures.matches (ap is_simple is ∙ pathmap_has_matches)).0
    ∙ ap (λ (app : App). matches_of app words) is in
    let asked : asked_by words ≡ c.options_in.result =
    asked_where_taken words _ taken rows ∙ sym c.options_in.ensures.options in
    let either = options_or_usage (asked_by words) c.options_in.result asked in
    let found = sym c.ok_or.ensures.value in
    record {
      taken = subst (λ (r : Result Options Fault). IfOk r (λ options. asked_by words ≡ Some options)) found either.0;
      seed = subst (λ (r : Result Options Fault). IfOk r HasSeedInRange) found
          (ok_or_in_range c.options_in.result c.options_in.ensures.seed);
      cause = subst (λ (r : Result Options Fault). IfErr r (IsWordsFault (asked_by words))) found either.1;
    }

pub returns-in-Err-clause-cause : goal.returns-in-Err-clause-cause
returns-in-Err-clause-cause c =
    let words : List Text = map string_bytes c.args.words.now in
    let is : app_of c.in_ok-command.command ≡ pathmap = c.in_ok-command.ensures in
    let kinds : HasKind (fault_of pathmap words) c.in-Err.error =
    subst (λ (app : App). HasKind (fault_of app words) c.in-Err.error) is
    (c.in-Err.ensures.kinds (ap is_simple_and_free is ∙ pathmap_is_simple)) in
    subst (IsWordsFault (options_of c.args.words.now)) (sym c.fault_of.ensures)
    (why_refused (kind_of c.in-Err.error) words kinds)
