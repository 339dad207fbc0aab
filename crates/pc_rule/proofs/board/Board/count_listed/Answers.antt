-- The words are few, as the slots are.
use Rattle.std.proofs.Common.{◌≡◌, ◌≤◌, ◌+◌, length, ap, subst, arith, rules}
use Rattle.pc_rule.specs.Passes.{view, listed, board_size}
use Rattle.pc_rule.proofs.BoardSizes.{few_slots}
use Rattle.pc_rule.proofs.board.Board.count_listed.Goals as goal

pub returns-clause-count : goal.returns-clause-count
returns-clause-count g c = let few = c.args.pass.now.listing.few in let slots = few_slots c.args.self.now in
    let same : (view c.args.pass.now).size.slots ≡ (board_size c.args.self.now).slots = ap (λ z. z.slots) c.requires.1 in grind (arith, rules)
