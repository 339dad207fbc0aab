-- The pass is where it was, and has listed the words up to this turn.
use Rattle.pc_rule.specs.Passes.{view, knows, listed, board_size, IsSeatedAs}
use Rattle.exchange_race.specs.Racing.{MayRace, AreOfRace}
use Rattle.exchange_race.proofs.listing.list_words.Given as goal

abbrev pub invariant-loop-place : goal.invariant-loop-place
invariant-loop-place l = record {
  seated : IsSeatedAs l.fn.pass l.pass;
  may : MayRace (view l.pass);
  listed : AreOfRace (board_size l.board) (knows l.pass) (listed l.pass) l.place;
}
