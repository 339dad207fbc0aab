use Rattle.std.proofs.Common.{◌≡◌, sym, ap, ◌∙◌, arith}
use mathlib.Core.Option.{some-injective}
use Rattle.pc_rule_law.specs.declared.share.Share.{Share as Part}
use Rattle.pc_rule.proofs.Rooms.{one_of_all}
use Rattle.pc_rule.proofs.Starting.{element}
use Rattle.pc_rule.proofs.recorded.calls_at.Goals as goal

pub returns-clause-own : goal.returns-clause-own
returns-clause-own c = λ s at. let le = one_of_all c.args.shares.now c.args.seat s at in let e = c.all_calls.ensures in omega arith

pub returns-then-seat-shares-clause-own : goal.returns-then-seat-shares-clause-own
returns-then-seat-shares-clause-own c = λ s at. let d : Part = record { slots = 0; calls = 0 } in
    let e : s.calls ≡ _ = ap (λ (x : Part). x.calls) (some-injective s _ (sym at ∙ element c.args.shares.now c.args.seat d c.requires.seat)) in omega arith
