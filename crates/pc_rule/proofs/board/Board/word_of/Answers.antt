-- A pass's words begin where those of its seat do on the board.
use Rattle.std.proofs.Common.{◌≡◌, ℕ, ◌+◌, ◌*◌, sym, ap, ◌∙◌, arith}
use Rattle.pc_rule_law.specs.Board.{Size, owns_begin, stride}
use Rattle.pc_rule.specs.Passes.{view, board_size}
use Rattle.pc_rule.proofs.OwnWords.{begin_still}
use Rattle.pc_rule.proofs.board.Board.word_of.Goals as goal

pub returns : goal.returns
returns g c = let p = c.args.pass.now in let z : Size = board_size c.args.self.now in
    let at : p.begin ≡ owns_begin z + p.index * stride z = begin_still _ _ _ _ (sym c.requires.pass.1) p.placed in
    let here : p.begin ≡ owns_begin z + (view p).seat * stride z = at ∙ ap (λ (i : ℕ). owns_begin z + i * stride z) (sym p.numbered) in
    omega arith
