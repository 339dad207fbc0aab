-- What was held and met, and the end.
use Rattle.std.proofs.Common.{◌≡◌, ◌<◌, ap, ◌∙◌, subst, sym, refl}
use Rattle.pc_rule_law.specs.Views.{View, OwnAttempt, word_in}
use Rattle.pc_rule.specs.Passes.{whole, view, board_size}
use Rattle.pc_kcas.specs.Exchanges.{visit_count, own_exchange}
use Rattle.pc_kcas.specs.Verdicts.{IfLocked, WereBlockedBy, KnewBetween, IsBlocked}
use Rattle.pc_kcas.proofs.Counted.{same_after}
use Rattle.pc_kcas.proofs.Finished.{ended_free, kept_ended, so_won, so_lost, so_changed, so_covered, so_locked, so_visits, so_blocked, so_numbers, covers_before, seated_then, why_stopped, blocked_ended, clean_listed}
use Rattle.pc_kcas.proofs.finishing.finish_listed.Goals as goal

pub end_at-requires-clause-why : goal.end_at-requires-clause-why
end_at-requires-clause-why g c = λ _ _. why_stopped (board_size c.args.board.now).seats c.args.pass.now c.hold_listed-stopped.new.pass c.hold_listed-stopped.result c.hold_listed-stopped.ensures.met

pub returns-clause-seated : goal.returns-clause-seated
returns-clause-seated g c = seated_then c.args.pass.now c.hold_listed-stopped.new.pass c.end_at.new.pass c.hold_listed-stopped.ensures.pass.0 c.end_at.ensures.pass.0

pub returns-clause-path : goal.returns-clause-path
returns-clause-path g c = let h = c.hold_listed-stopped.ensures.pass.2 in let e = c.end_at.ensures.pass.2 in (e.0 ∙ h.0, e.1 ∙ h.1)

pub returns-clause-free : goal.returns-clause-free
returns-clause-free g c = ended_free (whole c.hold_listed-stopped.new.pass) (whole c.end_at.new.pass) c.end_at.ensures.ended c.hold_listed-stopped.ensures.free

pub returns-clause-kept : goal.returns-clause-kept
returns-clause-kept g c = kept_ended (whole c.args.pass.now) (whole c.hold_listed-stopped.new.pass) (whole c.end_at.new.pass) c.hold_listed-stopped.ensures.goes_on c.end_at.ensures.ended

pub returns-clause-clean : goal.returns-clause-clean
returns-clause-clean g c = λ i x at. let h = c.hold_listed-stopped.ensures in let e = c.end_at.ensures in
    clean_listed c.args.pass.now c.hold_listed-stopped.new.pass c.end_at.new.pass h.pass h.goes_on e.pass e.ended e.clean i x at

pub returns-clause-won : goal.returns-clause-won
returns-clause-won g c = let q = c.hold_listed-stopped.new.pass in let r = c.end_at.new.pass in
    so_won (whole r) (view r).attempt.number (WereBlockedBy c.hold_listed-stopped.result (whole q) (whole r) (own_exchange q)) c.end_at.result c.end_at.ensures.so

pub returns-clause-lost : goal.returns-clause-lost
returns-clause-lost g c = let q = c.hold_listed-stopped.new.pass in let r = c.end_at.new.pass in
    so_lost (whole r) (view r).attempt.number (WereBlockedBy c.hold_listed-stopped.result (whole q) (whole r) (own_exchange q)) c.end_at.result c.end_at.ensures.so

pub returns-clause-changed : goal.returns-clause-changed
returns-clause-changed g c = let q = c.hold_listed-stopped.new.pass in let r = c.end_at.new.pass in
    so_changed (whole r) (view r).attempt.number (WereBlockedBy c.hold_listed-stopped.result (whole q) (whole r) (own_exchange q)) c.end_at.result c.end_at.ensures.so

pub returns-clause-covered : goal.returns-clause-covered
returns-clause-covered g c = let q = c.hold_listed-stopped.new.pass in let r = c.end_at.new.pass in let h = c.hold_listed-stopped.ensures in
    covers_before (view c.args.pass.now) (view q) (whole r) c.end_at.result h.goes_on.attempt.0 h.pass.0.1 c.end_at.ensures.ended.view
    (so_covered (whole r) (view r).attempt.number (WereBlockedBy c.hold_listed-stopped.result (whole q) (whole r) (own_exchange q)) c.end_at.result c.end_at.ensures.so)

pub returns-clause-locked : goal.returns-clause-locked
returns-clause-locked g c = let q = c.hold_listed-stopped.new.pass in let r = c.end_at.new.pass in
    so_locked (whole r) (view r).attempt.number (WereBlockedBy c.hold_listed-stopped.result (whole q) (whole r) (own_exchange q)) c.end_at.result c.end_at.ensures.so

pub returns-clause-visits : goal.returns-clause-visits
returns-clause-visits g c = let p = c.args.pass.now in let q = c.hold_listed-stopped.new.pass in let r = c.end_at.new.pass in let by = WereBlockedBy c.hold_listed-stopped.result (whole q) (whole r) (own_exchange q) in
    let same : visit_count (view r) ≡ visit_count (view p) = ap visit_count c.end_at.ensures.ended.view ∙ ap (λ (a : OwnAttempt). word_in a.words 2) c.hold_listed-stopped.ensures.goes_on.attempt.0 in
    subst (λ k. IfLocked c.end_at.result (λ n by. 0 < k)) same (so_visits (whole r) (view r).attempt.number by c.end_at.result c.end_at.ensures.so)

pub returns-clause-numbers : goal.returns-clause-numbers
returns-clause-numbers g c = let q = c.hold_listed-stopped.new.pass in let r = c.end_at.new.pass in
    so_numbers (whole r) (view r).attempt.number (WereBlockedBy c.hold_listed-stopped.result (whole q) (whole r) (own_exchange q)) c.end_at.result c.end_at.ensures.so

pub returns-clause-blocked : goal.returns-clause-blocked
returns-clause-blocked g c = let p = c.args.pass.now in let q = c.hold_listed-stopped.new.pass in let r = c.end_at.new.pass in let z = (board_size c.args.board.now).seats in
    let h = c.hold_listed-stopped.ensures in let e = c.end_at.ensures in let t = c.hold_listed-stopped.result in
    so_blocked (whole r) (view r).attempt.number (WereBlockedBy t (whole q) (whole r) (own_exchange q)) c.end_at.result
    (λ first second. KnewBetween (whole p) (whole r) (λ u. IsBlocked z (view p) u (own_exchange p) first second))
    (λ first second by. blocked_ended z p q (whole r) t h.pass h.goes_on e.ended h.published h.index h.met h.before first second by) e.so

pub returns-clause-bounded : goal.returns-clause-bounded
returns-clause-bounded g c = let q = c.hold_listed-stopped.new.pass in let r = c.end_at.new.pass in
    same_after (view c.args.pass.now) (view q) (view r) (view r) _ c.hold_listed-stopped.ensures.bounded (ap (λ (v : View). v.install.number) c.end_at.ensures.ended.view) refl
