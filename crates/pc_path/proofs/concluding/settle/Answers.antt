-- The call is recorded, and then the visits are dropped.
use Rattle.std.proofs.Common.{◌≤◌, length, vec_capacity, sym, ap, ◌∙◌, subst}
use Rattle.pc_exchange_law.specs.Paths.{dropped}
use Rattle.pc_rule.specs.Passes.{share_of, recorded}
use Rattle.pc_rule.specs.Walking.{path_with}
use Rattle.pc_path.proofs.concluding.settle.Goals as goal

pub returns-clause-only : goal.returns-clause-only
returns-clause-only g c = let t = c.take_down.ensures.only in let d = c.drop_visits.ensures.only in
    (d.0 ∙ t.0, d.1 ∙ t.1, d.3 ∙ t.3, ap (λ r. vec_capacity r.entries) d.2 ∙ t.2)

pub returns-clause-few : goal.returns-clause-few
returns-clause-few g c = λ le. let d = c.drop_visits.ensures.only in
    subst (λ r. length r.entries.items ≤ (share_of c.drop_visits.new.self).calls) (sym d.2)
    (subst (λ s. length (recorded c.take_down.new.self) ≤ s.calls) (sym d.1) (c.take_down.ensures.few le))

pub returns-clause-recorded : goal.returns-clause-recorded
returns-clause-recorded g c = ap (λ r. r.entries.items) c.drop_visits.ensures.only.2 ∙ c.take_down.ensures.recorded

pub returns-clause-carried : goal.returns-clause-carried
returns-clause-carried g c = ap (λ r. r.carried) c.drop_visits.ensures.only.2 ∙ c.take_down.ensures.none

pub returns-clause-path : goal.returns-clause-path
returns-clause-path g c = let t = c.take_down.ensures.only in c.drop_visits.ensures.path ∙ ap dropped (λ i. path_with ((t.4 i).items) ((t.0 i).me.0.path))
