-- The exchange has ended, and the list is dropped.
use Rattle.std.proofs.Common.{List, ◌+◌, ◌-◌, ◌≤◌, length, ap, ◌∙◌, subst, sym}
use Rattle.pc_exchange_law.specs.Wholes.{Whole}
use Rattle.pc_rule_law.specs.Conditions.{IsFree, CanWrite}
use Rattle.pc_rule.specs.Passes.{whole, view, listed, visits, board_size}
use Rattle.pc_rule.proofs.Calls.{only_listed, pass_stays}
use Rattle.pc_kcas.specs.Bounds.{most_in_end}
use Rattle.pc_kcas.specs.Exchanges.{own_exchange}
use Rattle.pc_kcas.specs.Verdicts.{KeepsAll, KnowsWon, KnowsLost, KnowsChanged, KnowsRival, KnewBetween, IsBlocked, IsAtLast, IfWon, IfChanged, IfLocked, IfBlocked, IfNumbers}
use Rattle.pc_kcas.proofs.Finished.{seated_then}
use Rattle.pc_path.specs.Exchanges.{WasSeen, IsCovered}
use Rattle.pc_path.proofs.Seeing.{covered_if}
use Rattle.pc_rule.specs.declared.opening.Place.{Place}
use Rattle.pc_rule.specs.declared.visit.Visit.{Visit}
use Rattle.pc_path.proofs.finishing.finished.Goals as goal

pub returns-clause-seated : goal.returns-clause-seated
returns-clause-seated g c = let b = c.args.board.now in let p = c.args.pass.now in let r = c.finish_listed-verdict.new.pass in let same = c.finish_listed-verdict.ensures.seated in
    seated_then p r c.drop_listed.new.self same (only_listed b r c.drop_listed.new.self (pass_stays b p r c.requires.pass same) c.drop_listed.ensures.only)

pub returns-clause-path : goal.returns-clause-path
returns-clause-path g c = let e = c.finish_listed-verdict.ensures.path in let d = c.drop_listed.ensures.only in (ap (λ t. t.me.0.path) d.0 ∙ e.0, d.3 ∙ e.1)

pub returns-clause-open : goal.returns-clause-open
returns-clause-open g c = subst (λ (y : Whole). CanWrite y.view) (sym (ap (λ t. t.me.0) c.drop_listed.ensures.only.0)) c.finish_listed-verdict.ensures.open

pub returns-clause-number : goal.returns-clause-number
returns-clause-number g c = ap (λ t. t.me.0.view.attempt.number) c.drop_listed.ensures.only.0 ∙ c.finish_listed-verdict.ensures.number

pub returns-clause-free : goal.returns-clause-free
returns-clause-free g c = subst (λ (y : Whole). IsFree y.view) (sym (ap (λ t. t.me.0) c.drop_listed.ensures.only.0)) c.finish_listed-verdict.ensures.free

pub returns-clause-kept : goal.returns-clause-kept
returns-clause-kept g c = subst (λ (y : Whole). KeepsAll (whole c.args.pass.now) y) (sym (ap (λ t. t.me.0) c.drop_listed.ensures.only.0)) c.finish_listed-verdict.ensures.kept

pub returns-clause-won : goal.returns-clause-won
returns-clause-won g c = subst (λ (y : Whole). IfWon c.finish_listed-verdict.result (KnowsWon y y.view.attempt.number)) (sym (ap (λ t. t.me.0) c.drop_listed.ensures.only.0)) c.finish_listed-verdict.ensures.won

pub returns-clause-lost : goal.returns-clause-lost
returns-clause-lost g c = subst (λ (y : Whole). KnowsLost y y.view.attempt.number c.finish_listed-verdict.result) (sym (ap (λ t. t.me.0) c.drop_listed.ensures.only.0)) c.finish_listed-verdict.ensures.lost

pub returns-clause-changed : goal.returns-clause-changed
returns-clause-changed g c = subst (λ (y : Whole). IfChanged c.finish_listed-verdict.result (KnowsChanged y y.view.attempt.number)) (sym (ap (λ t. t.me.0) c.drop_listed.ensures.only.0)) c.finish_listed-verdict.ensures.changed

pub returns-clause-locked : goal.returns-clause-locked
returns-clause-locked g c = subst (λ (y : Whole). IfLocked c.finish_listed-verdict.result (λ n by. (1 ≤ by) × KnowsRival y y.view.attempt.number n (by - 1)))
    (sym (ap (λ t. t.me.0) c.drop_listed.ensures.only.0)) c.finish_listed-verdict.ensures.locked

pub returns-clause-numbers : goal.returns-clause-numbers
returns-clause-numbers g c = subst (λ (y : Whole). IfNumbers c.finish_listed-verdict.result (IsAtLast y)) (sym (ap (λ t. t.me.0) c.drop_listed.ensures.only.0)) c.finish_listed-verdict.ensures.numbers

pub returns-clause-blocked : goal.returns-clause-blocked
returns-clause-blocked g c = let p = c.args.pass.now in let z = (board_size c.args.board.now).seats in
    subst (λ (y : Whole). IfBlocked c.finish_listed-verdict.result (λ first second. KnewBetween (whole p) y (λ u. IsBlocked z (view p) u (own_exchange p) first second)))
    (sym (ap (λ t. t.me.0) c.drop_listed.ensures.only.0)) c.finish_listed-verdict.ensures.blocked

pub seen_by-seen-requires-clause-covered : goal.seen_by-seen-requires-clause-covered
seen_by-seen-requires-clause-covered g c = λ _ _. let p = c.args.pass.now in let q = c.finish_listed-verdict.new.pass in let e = c.finish_listed-verdict.ensures in
    subst (λ (l : List Visit). IfChanged c.finish_listed-verdict.result (IsCovered l (listed q))) (sym (ap (λ v. v.items) e.path.1))
    (subst (λ (l : List Place). IfChanged c.finish_listed-verdict.result (IsCovered (visits p) l)) (sym (ap (λ v. v.items) e.same))
    (covered_if p c.finish_listed-verdict.result c.requires.published e.covered))

pub returns-clause-seen : goal.returns-clause-seen
returns-clause-seen g c = let p = c.args.pass.now in let q = c.finish_listed-verdict.new.pass in let e = c.finish_listed-verdict.ensures in
    subst (λ (l : List Visit). IfChanged c.finish_listed-verdict.result (λ n. WasSeen l (listed p) n c.seen_by-seen.result)) (ap (λ v. v.items) e.path.1)
    (subst (λ (l : List Place). IfChanged c.finish_listed-verdict.result (λ n. WasSeen (visits q) l n c.seen_by-seen.result)) (ap (λ v. v.items) e.same) c.seen_by-seen.ensures)

pub returns-clause-bounded : goal.returns-clause-bounded
returns-clause-bounded g c = let p = c.args.pass.now in
    subst (λ (y : Whole). y.view.install.number ≤ (view p).install.number + most_in_end (board_size c.args.board.now) (length (listed p)))
    (sym (ap (λ t. t.me.0) c.drop_listed.ensures.only.0)) c.finish_listed-verdict.ensures.bounded
