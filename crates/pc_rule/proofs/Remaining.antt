-- What is left of a board has its size.
use Rattle.std.proofs.Common.{◌≡◌, ℕ, List, sym, ap, ◌∙◌, subst}
use Rattle.pc_model.specs.Forms.{Form}
use Rattle.pc_rule_law.specs.declared.opening.Starts.{Starts}
use Rattle.pc_rule_law.specs.declared.share.Share.{Share}
use Rattle.pc_rule_law.specs.Board.{Size}
use Rattle.pc_exchange_law.specs.WholeSeats.{IsWholeClosed}
use Rattle.pc_exchange_law.specs.Wholes.{Whole}
use Rattle.pc_rule.specs.declared.board.Board.{Board}
use Rattle.pc_rule.specs.Passes.{board_size}
use Rattle.pc_rule.specs.Sizes.{size_from, IsOfClosed}

module _ {H : Type 0} (b : Board H) where
  pub same_size : (shares : List Share) → shares ≡ b.shares.items → size_from b.seats b.slots shares b.starts ≡ board_size b
  same_size shares same = let key = b.table.shared.key in ap (λ (n : ℕ). size_from n b.slots shares b.starts) b.sized.0
      ∙ (ap (λ (n : ℕ). size_from key.seats n shares b.starts) b.sized.1
      ∙ (ap (λ (l : List Share). size_from key.seats key.slots l b.starts) (same ∙ b.sized.2)
      ∙ ap (λ (s : Starts). size_from key.seats key.slots key.shares.items s) b.started))

  pub closed_stands : (form : Form) (x : Whole) (words : List ℕ) → IsWholeClosed form (board_size b) x words → (shares : List Share)
      → shares ≡ b.shares.items → IsOfClosed form (size_from b.seats b.slots shares b.starts) words
  closed_stands form x words c shares same = (x, subst (λ (z : Size). IsWholeClosed form z x words) (sym (same_size shares same)) c)
