-- Where nothing is owed, a balanced tree is in full balance.
use Rattle.std.proofs.Common.{sym, ◌∙◌}
use Rattle.std.proofs.lemmas.Bool.{OnFalse_at}
use Rattle.pc_locked.proofs.payment.settle.Goals as goal

pub returns-then-not-pay-clause-balanced : goal.returns-then-not-pay-clause-balanced
returns-then-not-pay-clause-balanced g c = λ avl.
    OnFalse_at c.if-not-pay.true c.pay.ensures.balanced (sym c.pay.ensures.same.kind ∙ avl)
