-- The pass is where it was, and has added the words up to this turn.
use Rattle.pc_rule.specs.Passes.{IsSeatedAs}
use Rattle.path_race.specs.Racing.{HasAdded}
use Rattle.path_race.proofs.listing.add_words.Given as goal

abbrev pub invariant-loop-place : goal.invariant-loop-place
invariant-loop-place l = record {
  seated : IsSeatedAs l.fn.pass l.pass;
  added : HasAdded l.board l.pass l.place;
}
