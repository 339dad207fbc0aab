-- Step by step the command gets what its definition has.
use Rattle.std.proofs.Common.{rules, ◌≡◌, ◌∙◌, true, codes, ap, ap₂}
use Rattle.std.proofs.lemmas.Result.{IfOk-weaker}
use Rattle.clap.specs.Words.{App, app_of, new_app, rule_of, with_rule}
use Rattle.clap.specs.Simple.{Shape, app_of_fields, on_top}
use Rattle.pc_run.specs.Words.{pathmap, tree_option, shape_flag, summary_flag, made_option}
use Rattle.pc_run.proofs.words.command.Goals as goal

abbrev without_help : App → App
without_help = on_top (λ (s : Shape). record s { disable_help_flag = true })

pub returns : goal.returns
unfolding pathmap
returns c =
    let tree : rule_of c.default_value-tree.result ≡ tree_option = search rules in
    let shape : rule_of c.action-shape.result ≡ shape_flag = search rules in
    let summary : rule_of c.action-summary.result ≡ summary_flag = search rules in
    let made : rule_of c.long-made.result ≡ made_option = search rules in
    let no_help : app_of c.disable_help_flag.result ≡ without_help (app_of c.new-5.result) =
    ap app_of_fields c.disable_help_flag.ensures in
    let start : app_of c.disable_help_flag.result ≡ without_help (new_app (codes "pathmap")) =
    no_help ∙ ap without_help c.new-5.ensures.app in
    let with_tree = c.in_ok-arg.ensures.shape (search rules) ∙ ap₂ with_rule start tree in
    let with_shape = c.in_ok-arg-2.ensures.shape (search rules) ∙ ap₂ with_rule with_tree shape in
    let with_summary = c.in_ok-arg-3.ensures.shape (search rules) ∙ ap₂ with_rule with_shape summary in
    IfOk-weaker c.arg-4.result _ _ (λ command adds. adds.shape (search rules) ∙ ap₂ with_rule with_summary made)
    c.arg-4.ensures
