-- The call is dropped, and then the visits.
use Rattle.std.proofs.Common.{◌≤◌, length, vec_capacity, sym, ap, ◌∙◌, subst}
use Rattle.pc_exchange_law.specs.Paths.{dropped}
use Rattle.pc_rule.specs.Passes.{share_of, recorded}
use Rattle.pc_rule.specs.Walking.{path_with}
use Rattle.pc_path.proofs.concluding.give_up.Goals as goal

pub returns-clause-only : goal.returns-clause-only
returns-clause-only g c = let t = c.drop_carried.ensures.only in let d = c.drop_visits.ensures.only in
    (d.0 ∙ t.0, d.1 ∙ t.1, d.3 ∙ t.3, ap (λ r. vec_capacity r.entries) d.2 ∙ ap (λ v. vec_capacity v) t.2)

pub returns-clause-few : goal.returns-clause-few
returns-clause-few g c = λ le. let t = c.drop_carried.ensures.only in let d = c.drop_visits.ensures.only in
    subst (λ r. length r.entries.items ≤ (share_of c.drop_visits.new.self).calls) (sym d.2)
    (subst (λ v. length v.items ≤ (share_of c.drop_visits.new.self).calls) (sym t.2)
    (subst (λ s. length (recorded c.args.pass.now) ≤ s.calls) (sym (d.1 ∙ t.1)) le))

pub returns-clause-recorded : goal.returns-clause-recorded
returns-clause-recorded g c = ap (λ r. r.entries.items) c.drop_visits.ensures.only.2 ∙ ap (λ v. v.items) c.drop_carried.ensures.only.2

pub returns-clause-carried : goal.returns-clause-carried
returns-clause-carried g c = ap (λ r. r.carried) c.drop_visits.ensures.only.2 ∙ c.drop_carried.ensures.none

pub returns-clause-path : goal.returns-clause-path
returns-clause-path g c = let t = c.drop_carried.ensures.only in c.drop_visits.ensures.path ∙ ap dropped (λ i. path_with ((t.4 i).items) ((t.0 i).me.0.path))
