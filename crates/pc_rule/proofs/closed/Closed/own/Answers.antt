use Rattle.std.proofs.Common.{refl, slice_index, ap, ◌∙◌, arith}
use Rattle.std.proofs.lemmas.Nat.{mul-add-lt}
use Rattle.pc_rule_law.specs.Board.{Size, stride}
use Rattle.pc_rule.specs.Closed.{closed_size}
use Rattle.pc_rule.specs.Left.{words_left}
use Rattle.pc_rule.proofs.closed.Closed.own.Goals as goal

pub word-requires-after_bounds : goal.word-requires-after_bounds
word-requires-after_bounds g c κs within = let z : Size = closed_size c.args.self.now in
    let row = mul-add-lt c.args.seat (stride z) c.args.offset z.seats c.requires.0 c.requires.1 in rw (c.own_place.ensures z refl) (omega arith)

pub returns : goal.returns
returns g c = let z : Size = closed_size c.args.self.now in c.word.ensures ∙ ap (slice_index (words_left c.args.self.now)) (c.own_place.ensures z refl)
