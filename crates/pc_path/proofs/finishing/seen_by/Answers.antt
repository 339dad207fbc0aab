-- The least version that was visited or listed; there is one.
use Rattle.std.proofs.Common.{◌≡◌, ◌⊎◌, ◌≤◌, ℕ, List, Option, Some, None, IfSome, IfNone, ⊎_elim, sym, subst}
use Rattle.pc_model.specs.declared.cell.Field.TheVariants.{Version}
use Rattle.pc_rule_law.specs.Past.{Has}
use Rattle.pc_rule.specs.declared.opening.Place.{Place}
use Rattle.pc_rule.specs.declared.visit.Visit.{Visit}
use Rattle.pc_rule.specs.Passes.{visits, listed}
use Rattle.pc_rule.specs.Walking.{VersionsRise}
use Rattle.pc_kcas.specs.Verdicts.{IfChanged as IfNodeChanged}
use Rattle.pc_path.specs.Exchanges.{IsListedFrom, IsCovered, WasSeen}
use Rattle.pc_path.specs.Losses.{IsFirstVisit}
use Rattle.pc_path.proofs.Seeing.{was_seen, once_listed, no_visit, no_word}
use Rattle.pc_path.proofs.finishing.seen_by.Goals as goal

pub unreachable-requires : goal.unreachable-requires
unreachable-requires g c = let p = c.args.pass.now in let n = c.in-Changed.node in
    let covered : IsCovered (visits p) (listed p) n = subst (λ v. IfNodeChanged v (IsCovered (visits p) (listed p))) c.in-Changed.is c.requires.covered in
    ⊎_elim
    (λ visit. no_visit (visits p) n c.first_visit-visited.result c.in-None.ensures.none.0
    (subst (λ l. IfNone c.first_visit-visited.result ((v : Visit) → Has l v → v.node ≡ n → ⊥)) c.visits.ensures.visits c.first_visit-visited.ensures.none) visit.0 visit.1 visit.2)
    (λ word. no_word (listed p) n c.listed_from.result c.in-None.ensures.none.1
    (subst (λ l. IfNone c.listed_from.result ((q : Place) → Has l q → q.node ≡ n → q.field ≡ Version → ⊥)) c.listed.ensures c.listed_from.ensures.none) word.0 word.1)
    covered

pub returns : goal.returns
returns g c = let p = c.args.pass.now in let n = c.in-Changed.node in let old = c.listed_from.result in let visited = c.first_visit-visited.result in
    let rise : VersionsRise (visits p) = c.visits.ensures.rising in
    subst (λ v. IfNodeChanged v (λ m. WasSeen (visits p) (listed p) m c.in-Some.version)) (sym c.in-Changed.is)
    (was_seen (visits p) (listed p) n rise (once_listed p n) visited old c.in-Some.version
    (subst (λ l. IfSome visited (IsFirstVisit l n)) c.visits.ensures.visits c.first_visit-visited.ensures.found)
    (subst (λ l. IfNone visited ((v : Visit) → Has l v → v.node ≡ n → ⊥)) c.visits.ensures.visits c.first_visit-visited.ensures.none)
    (subst (λ l. IfSome old (IsListedFrom l n)) c.listed.ensures c.listed_from.ensures.found)
    (subst (λ l. IfNone old ((q : Place) → Has l q → q.node ≡ n → q.field ≡ Version → ⊥)) c.listed.ensures c.listed_from.ensures.none)
    c.in-Some.ensures.one c.in-Some.ensures.below)
