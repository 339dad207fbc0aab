-- The text that the getter gives is that of the row of matches.
use Rattle.std.proofs.Common.{◌∙◌, Option, Some, None, ap, ℕ}
use Rattle.std.specs.Prelude.{option_map}
use Rattle.std.specs.Option.{option_map_or}
use Rattle.clap.specs.Words.{Text, found_of}
use Rattle.clap.proofs.WalkLemmas.{first_value-rows}
use Rattle.pc_text.specs.ScriptWords.{number_of}
use Rattle.pc_run.proofs.words.made_in.Goals as goal

abbrev seed_at : Option Text → Option (Option ℕ)
seed_at found = option_map_or (λ text. option_map Some (number_of text)) found (Some None)

pub returns-in-Some-clause-made : goal.returns-in-Some-clause-made
returns-in-Some-clause-made c = c.seed_of.ensures.made
    ∙ ap seed_at (c.in-Some.ensures ∙ first_value-rows (found_of c.args.matches.now) _)

pub returns-in-None-clause-made : goal.returns-in-None-clause-made
returns-in-None-clause-made c = ap seed_at (c.in-None.ensures ∙ first_value-rows (found_of c.args.matches.now) _)
