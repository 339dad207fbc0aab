-- Where it was lost nothing changed, and where all seats are taken that was read.
use Rattle.std.proofs.Common.{rules, ◌≡◌, ◌+◌, ◌≤◌, ℕ, ap, ◌∙◌, inl}
use Rattle.pc_rule_law.specs.Past.{Has}
use Rattle.pc_protocol.specs.Notes.{in_run}
use Rattle.pc_exchange_law.specs.Paths.{read_of}
use Rattle.pc_rule.specs.Passes.{whole, view, knows, path}
use Rattle.pc_path.specs.Exchanges.{HasNoEffect}
use Rattle.examples.specs.Ferry.{HasCounted}
use Rattle.examples.proofs.Ferries.{ok_through, err_through, on_err, full_by, no_effect_since}
use Rattle.examples.proofs.ferry.boarded.Goals as goal

pub returns-in_err-stamp-clause-missed : goal.returns-in_err-stamp-clause-missed
returns-in_err-stamp-clause-missed c = on_err (HasNoEffect (view c.args.pass.now) (whole c.validate.new.pass)) c.from_residual-in_err-stamp.result
    (inl (ap (λ a. a.number) c.validate.ensures.goes_on.attempt.0 ∙ c.counted.ensures.number))

pub returns-then-saturating_add-ge-SEATS-clause-full : goal.returns-then-saturating_add-ge-SEATS-clause-full
returns-then-saturating_add-ge-SEATS-clause-full c = let q = c.counted.new.pass in let count = c.in_ok-count.count in let told = (knows c.validate.new.pass).told in
    let r : HasCounted c.args.board.now q count = c.in_ok-count.ensures.counted in
    full_by told (path q) count c.in_ok-stamp.stamp r.path_is (search rules)
    (ok_through _ (λ s. Has told (in_run s (read_of (path q)))) c.in_ok-stamp.stamp c.validate.result c.map_err.result c.map_err.ensures.cases c.in_ok-stamp.was c.validate.ensures.read)

pub returns-in_err-stamp-2-clause-missed : goal.returns-in_err-stamp-2-clause-missed
returns-in_err-stamp-2-clause-missed c = let q = c.counted.new.pass in let y = whole c.seated.new.pass in
    on_err (HasNoEffect (view c.args.pass.now) y) c.from_residual-in_err-stamp-2.result
    (no_effect_since (view q) (view c.args.pass.now) y c.counted.ensures.number
    (err_through _ (HasNoEffect (view q) y) c.in_err-stamp-2.field-0.0 c.seated.result c.map_err-2.result c.map_err-2.ensures.cases c.in_err-stamp-2.was c.seated.ensures.lost))
