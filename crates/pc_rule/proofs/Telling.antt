-- What a step tells at the place that it is made at.
use Rattle.std.proofs.Common.{◌≡◌, ℕ, sym, ◌∙◌, ap, subst}
use Rattle.pc_rule_law.specs.Board.{Size, Place, address, Inside}
use Rattle.pc_rule_law.specs.Views.{View}
use Rattle.pc_rule_law.specs.Plays.{Told}

pub told_at : (v : View) (z : Size) (word : ℕ) (T : Place → Type 0) (p : Place) → v.size ≡ z → Told v word T → Inside z p → word ≡ address z p → T p
told_at v z word T p sized told inside at = told p (subst (λ (y : Size). Inside y p) (sym sized) inside) (at ∙ ap (λ (y : Size). address y p) (sym sized))
