-- The exchange is published, and then ended.
use Rattle.std.proofs.Common.{◌+◌, ◌<◌, ◌≤◌, List, length, IfErr, sym, ap, ◌∙◌, subst, inl, arith}
use Rattle.std.proofs.lemmas.List.Sorted.{length_permutation}
use Rattle.pc_exchange_law.specs.Paths.{dropped}
use Rattle.pc_rule.specs.declared.visit.Visit.{Visit}
use Rattle.pc_rule.specs.Passes.{whole, view, knows, path, listed, visits, board_size}
use Rattle.pc_kcas.specs.Bounds.{most_in_end}
use Rattle.pc_kcas.specs.Exchanges.{exchange_by}
use Rattle.pc_path.specs.Exchanges.{IsPast}
use Rattle.pc_path.specs.Tries.{HasTried}
use Rattle.pc_path.specs.Losses.{IfChanged, IfLocked}
use Rattle.pc_path.proofs.Counted.{none_before, none_only}
use Rattle.pc_path.proofs.Endings.{sits_then, recorded_ok, recorded_err}
use Rattle.pc_kcas.specs.Locks.{words_by}
use Rattle.pc_path.proofs.Seeing.{changed_again}
use Rattle.pc_path.proofs.Exchanged.{kept_then, exchanged_ok, no_effect_err, numbers_then, blocked_then}
use Rattle.pc_path.proofs.Tried.{tried_err, exchange_kept}
use Rattle.pc_path.proofs.Paths.{path_kept, visits_kept}
use Rattle.pc_path.proofs.exchanging.exchanged.Goals as goal

pub returns-in-Ok-clause-seated : goal.returns-in-Ok-clause-seated
returns-in-Ok-clause-seated g c = (sits_then c.args.pass.now c.begun.new.pass c.ended.new.pass c.begun.ensures.seated.0 c.ended.ensures.seated.0, c.ended.ensures.seated.1)

pub returns-in-Ok-clause-kept : goal.returns-in-Ok-clause-kept
returns-in-Ok-clause-kept g c = kept_then (whole c.args.pass.now) (whole c.begun.new.pass) (whole c.ended.new.pass) c.begun.ensures.kept c.ended.ensures.kept

pub returns-in-Ok-clause-path : goal.returns-in-Ok-clause-path
returns-in-Ok-clause-path g c = c.ended.ensures.path ∙ ap dropped (path_kept c.args.pass.now c.begun.new.pass c.in-Ok.ensures.same.1)

pub returns-in-Ok-clause-recorded : goal.returns-in-Ok-clause-recorded
returns-in-Ok-clause-recorded g c = recorded_ok c.args.pass.now c.begun.new.pass c.ended.new.pass c.ended.result c.in-Ok.ensures.same.0 c.ended.ensures.recorded

pub returns-in-Ok-clause-not_recorded : goal.returns-in-Ok-clause-not_recorded
returns-in-Ok-clause-not_recorded g c = recorded_err c.args.pass.now c.begun.new.pass c.ended.new.pass c.ended.result c.in-Ok.ensures.same.0 c.ended.ensures.not_recorded

pub returns-in-Ok-clause-done : goal.returns-in-Ok-clause-done
returns-in-Ok-clause-done g c = let p = c.args.pass.now in let q = c.begun.new.pass in
    exchanged_ok (knows p).told (whole c.ended.new.pass) c.args.mode (path p) (listed p) (listed q) c.ended.result c.in-Ok.ensures.each
    (c.ended.ensures.done (knows p).told (exchange_by c.args.mode (path p) (listed q)) c.in-Ok.ensures.noted)

pub returns-in-Ok-clause-lost : goal.returns-in-Ok-clause-lost
returns-in-Ok-clause-lost g c = no_effect_err (view c.args.pass.now) (whole c.ended.new.pass) c.ended.result c.ended.ensures.lost

pub returns-in-Ok-clause-tried : goal.returns-in-Ok-clause-tried
returns-in-Ok-clause-tried g c = let p = c.args.pass.now in let q = c.begun.new.pass in let r = c.ended.new.pass in
    let e = exchange_by c.args.mode (path p) (listed q) in
    tried_err (HasTried c.args.mode (path p) (listed p) (view p) (whole r)) c.ended.result record {
      one = c.ended.ensures.number ∙ c.in-Ok.ensures.once;
      ordered = listed q;
      each = c.in-Ok.ensures.each;
      noted = exchange_kept (knows p).told (whole q) (whole r) e c.ended.ensures.seated.0.2 c.ended.ensures.number c.ended.ensures.kept c.in-Ok.ensures.noted;
    }

pub returns-in-Ok-clause-changed : goal.returns-in-Ok-clause-changed
returns-in-Ok-clause-changed g c = let p = c.args.pass.now in let q = c.begun.new.pass in
    changed_again (whole c.ended.new.pass) (visits p) (words_by c.args.mode (path p) (listed p)) (listed q) c.ended.result c.in-Ok.ensures.each
    (subst (λ (l : List Visit). IfErr c.ended.result (λ e. IfChanged e (IsPast l (listed q) (whole c.ended.new.pass)))) (visits_kept p q c.in-Ok.ensures.same.1) c.ended.ensures.changed)

pub returns-in-Ok-clause-blocked : goal.returns-in-Ok-clause-blocked
returns-in-Ok-clause-blocked g c = let p = c.args.pass.now in let q = c.begun.new.pass in
    blocked_then (board_size c.args.board.now).seats (view p) (view q) (whole c.ended.new.pass) c.ended.result c.begun.ensures.kept.notes c.ended.ensures.blocked

pub returns-in-Ok-clause-walked : goal.returns-in-Ok-clause-walked
returns-in-Ok-clause-walked g c = subst (λ k. IfErr c.ended.result (λ e. IfLocked e (λ n by. 0 < k))) c.in-Ok.ensures.counted c.ended.ensures.walked

pub returns-in-Ok-clause-numbers : goal.returns-in-Ok-clause-numbers
returns-in-Ok-clause-numbers g c = numbers_then (view c.args.pass.now) (whole c.ended.new.pass) c.ended.result c.ended.ensures.numbers

pub returns-in-Err-clause-lost : goal.returns-in-Err-clause-lost
returns-in-Err-clause-lost g c = inl (ap (λ v. v.attempt.number) c.in-Err.ensures.nothing)

pub returns-in-Err-clause-numbers : goal.returns-in-Err-clause-numbers
returns-in-Err-clause-numbers g c = inl c.in-Err.ensures.refused

pub returns-in-Ok-clause-attempts : goal.returns-in-Ok-clause-attempts
returns-in-Ok-clause-attempts g c = subst (λ n. n ≤ (view c.args.pass.now).attempt.number + 1) (sym c.ended.ensures.number) c.begun.ensures.attempts

pub returns-in-Ok-clause-bounded : goal.returns-in-Ok-clause-bounded
returns-in-Ok-clause-bounded g c = let z = board_size c.args.board.now in let p = c.args.pass.now in let q = c.begun.new.pass in let r = c.ended.new.pass in
    let words = words_by c.args.mode (path p) (listed p) in
    subst (λ n. (view r).install.number ≤ (view p).install.number + most_in_end z n) (length_permutation words (listed q) c.in-Ok.ensures.each)
    (none_before (view p) (view q) (view r) (most_in_end z (length (listed q))) c.begun.ensures.no_install c.ended.ensures.bounded)

pub returns-in-Err-clause-bounded : goal.returns-in-Err-clause-bounded
returns-in-Err-clause-bounded g c = let p = c.args.pass.now in
    none_only (view p) (view c.begun.new.pass) (most_in_end (board_size c.args.board.now) (length (words_by c.args.mode (path p) (listed p)))) c.begun.ensures.no_install
