-- The status can't say that the exchange is undecided.
use Rattle.std.proofs.Common.{ap, sym, subst}
use Rattle.pc_rule.specs.declared.refs.Ref.{Ref}
use Rattle.pc_rule.specs.Passes.{whole, view, listed}
use Rattle.pc_dcss.specs.Installs.{IsDecided}
use Rattle.pc_kcas.proofs.Ended.{why_ended, ended_after, decided_settled}
use Rattle.pc_kcas.proofs.ending.end_decided.Goals as goal

pub conclude-requires-clause-why : goal.conclude-requires-clause-why
conclude-requires-clause-why g c = λ _ _. let p = c.args.pass.now in let q = c.load_status-status.new.pass in let e = c.load_status-status.ensures in
    let o = c.own_ref-op.ensures in let r = c.own_ref-op.result in let s = c.load_status-status.result in
    why_ended (whole p) (whole q) (listed p) r.seat r.number s (ap (λ (x : Ref). x.seat) o) (ap (λ (x : Ref). x.number) o)
    c.requires.published.0 c.requires.published.1 p.one_attempt e.learnt
    (decided_settled (whole p) (whole q) r.seat r.number s e.stands (subst (λ (x : Ref). IsDecided (view p) x.seat x.number) (sym o) c.requires.decided) e.still_decided) e.failure

pub returns-clause-ended : goal.returns-clause-ended
returns-clause-ended g c = ended_after (whole c.args.pass.now) (whole c.load_status-status.new.pass) (whole c.conclude.new.pass) c.load_status-status.ensures.learnt c.conclude.ensures.ended
