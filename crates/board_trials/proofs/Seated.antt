-- The passes of a board after calls of each, which may also have listed other words.
use Rattle.std.proofs.Common.{◌≡◌, ℕ, ◌<◌, ◌≤◌, List, length, get_or, vec_capacity, sym, ◌∙◌, subst, arith}
use mathlib.Core.Option.{some}
use lib.ListN.{get_elem?}
use Rattle.pc_model.specs.declared.shape.Shape.{Ghosts}
use Rattle.pc_rule_law.proofs.Lists.{below_length, element_at}
use Rattle.pc_rule.specs.declared.board.Board.{Board}
use Rattle.pc_rule.specs.declared.board.Pass.{Pass}
use Rattle.pc_rule.specs.Calls.{AreFree}
use Rattle.pc_rule.specs.Passes.{IsSeatedAs}
use Rattle.pc_rule.specs.Recorded.{calls_of}
use Rattle.pc_rule.specs.Shares.{AreAll}
use Rattle.pc_rule.proofs.Calls.{read_at, pass_stays}

module _ {H : Type 0} {S : Ghosts H} (b : Board H) (old new : List (Pass H S))
    (each : (i : ℕ) (d : Pass H S) → i < length old → IsSeatedAs (get_or old i d) (get_or new i d)) where
  seated_at : (i : ℕ) (p q : Pass H S) → get_elem? old i ≡ some p → get_elem? new i ≡ some q → IsSeatedAs p q
  seated_at i p q at_p at_q = subst (λ (r : Pass H S). IsSeatedAs r q) (read_at old i p p at_p)
      (subst (λ (r : Pass H S). IsSeatedAs (get_or old i p) r) (read_at new i q p at_q) (each i p (below_length old i p at_p)))

  pub all_seated : AreAll b old → length new ≡ length old → AreFree new → AreAll b new
  unfolding seated_at
  all_seated all n free = record {
    some = all.some;
    count = n ∙ all.count;
    shared = all.shared;
    order = λ i q at. let lt = below_length new i q at in let p = element_at old i (omega arith) in
        let before = all.order i p.0 p.1 in let s = seated_at i p.0 q p.1 at in
        (pass_stays b p.0 q before.0 s, s.2 ∙ before.1, free i q at);
    last = λ i q at e. let lt = below_length new i q at in let p = element_at old i (omega arith) in
        let l = all.last i p.0 p.1 e in let s = seated_at i p.0 q p.1 at in
        (s.3 ∙ l.0, s.4 ∙ l.1, subst (λ r. calls_of b.shares.items ≤ vec_capacity r.entries) (sym s.7) l.2);
  }
