-- The text that the getter gives is that of the row of matches.
use Rattle.std.proofs.Common.{◌∙◌, ap}
use Rattle.std.specs.Prelude.{option_and_then}
use Rattle.clap.specs.Words.{found_of}
use Rattle.clap.proofs.WalkLemmas.{first_value-rows}
use Rattle.pc_run.specs.Words.{tree_named}
use Rattle.pc_run.proofs.words.tree_in.Goals as goal

pub returns-in-Some : goal.returns-in-Some
returns-in-Some c = c.tree_named.ensures
    ∙ ap (option_and_then tree_named) (c.in-Some.ensures ∙ first_value-rows (found_of c.args.matches.now) _)

pub returns-in-None : goal.returns-in-None
returns-in-None c =
    ap (option_and_then tree_named) (c.in-None.ensures ∙ first_value-rows (found_of c.args.matches.now) _)
