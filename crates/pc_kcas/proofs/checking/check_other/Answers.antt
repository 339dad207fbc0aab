-- The look, or the one after the completion.
use Rattle.std.proofs.Common.{◌∙◌}
use Rattle.pc_model.specs.declared.cell.Field.TheVariants.{Version}
use Rattle.pc_rule_law.specs.Views.{placed}
use Rattle.pc_rule.specs.Passes.{whole, view}
use Rattle.pc_dcss.proofs.Staying.{is_noted}
use Rattle.pc_kcas.specs.Settling.{HasLearnt}
use Rattle.pc_kcas.proofs.Learning.{learnt_by, learnt_then}
use Rattle.pc_kcas.proofs.TakeWords.{free_later}
use Rattle.pc_kcas.proofs.VisitChecks.{visit_still, leaves_still, two_stood}
use Rattle.pc_kcas.proofs.checking.check_other.Goals as goal

pub complete-requires-clause-met : goal.complete-requires-clause-met
complete-requires-clause-met g c = λ _ _. let r = c.in-Err.first in
    (c.args.visit.node, Version, is_noted (view c.args.pass.now) (view c.look.new.pass) (placed r.seat r.number c.args.visit.node Version) c.in-Err.ensures.install.found)

pub look-requires-in-Err-clause-free : goal.look-requires-in-Err-clause-free
look-requires-in-Err-clause-free g c = λ _ _. free_later (view c.look.new.pass) (view c.complete.new.pass) c.complete.ensures.later
    (free_later (view c.args.pass.now) (view c.look.new.pass) c.look.ensures.learnt.view c.requires.free)

pub look-requires-in-Err-clause-visited : goal.look-requires-in-Err-clause-visited
look-requires-in-Err-clause-visited g c = λ _ _. let x = whole c.args.pass.now in let a = whole c.look.new.pass in let b = whole c.complete.new.pass in
    let l : HasLearnt x b = learnt_then x a b c.look.ensures.learnt (learnt_by a b c.complete.ensures.later c.complete.ensures.learns) in
    let v = c.requires.visited in (v.0, visit_still x b l c.args.op v.0 c.args.visit.node c.args.visit.version v.1)

pub look-requires-in-Err-clause-leaves : goal.look-requires-in-Err-clause-leaves
look-requires-in-Err-clause-leaves g c = λ _ _. let x = whole c.args.pass.now in let a = whole c.look.new.pass in let b = whole c.complete.new.pass in
    let l : HasLearnt x b = learnt_then x a b c.look.ensures.learnt (learnt_by a b c.complete.ensures.later c.complete.ensures.learns) in
    leaves_still x b l c.args.op c.args.visit.node c.requires.leaves

pub returns-in-Ok-look-clause-learnt : goal.returns-in-Ok-look-clause-learnt
returns-in-Ok-look-clause-learnt g c = let x = whole c.args.pass.now in let a = whole c.look.new.pass in let b = whole c.complete.new.pass in
    learnt_then x b (whole c.look-in-Err.new.pass) (learnt_then x a b c.look.ensures.learnt (learnt_by a b c.complete.ensures.later c.complete.ensures.learns)) c.look-in-Err.ensures.learnt

pub returns-in-Err-look-clause-learnt : goal.returns-in-Err-look-clause-learnt
returns-in-Err-look-clause-learnt g c = let x = whole c.args.pass.now in let a = whole c.look.new.pass in let b = whole c.complete.new.pass in
    learnt_then x b (whole c.look-in-Err.new.pass) (learnt_then x a b c.look.ensures.learnt (learnt_by a b c.complete.ensures.later c.complete.ensures.learns)) c.look-in-Err.ensures.learnt

pub returns-in-Err-look-clause-stuck : goal.returns-in-Err-look-clause-stuck
returns-in-Err-look-clause-stuck g c = λ left.
    let x = whole c.args.pass.now in let a = whole c.look.new.pass in let b = whole c.complete.new.pass in let d = whole c.look-in-Err.new.pass in
    let l : HasLearnt x d = learnt_then x b d (learnt_then x a b c.look.ensures.learnt (learnt_by a b c.complete.ensures.later c.complete.ensures.learns)) c.look-in-Err.ensures.learnt in
    let v = c.requires.visited in let seat_a = c.look.ensures.pass.0.2 in let seat_b = c.complete.ensures.pass.0.2 ∙ seat_a in
    let seat_d = c.look-in-Err.ensures.pass.0.2 ∙ seat_b in
    let s = two_stood x a b d c.args.op v.0 c.args.visit.node c.args.visit.version c.in-Err.first c.in-Err-look.second c.requires.exchange c.complete.ensures.later.adds
    seat_a seat_b seat_d c.in-Err.ensures.install c.in-Err-look.ensures.install c.complete.ensures.removed
    (visit_still x d l c.args.op v.0 c.args.visit.node c.args.visit.version v.1) in (s.0, tt)

pub returns-in-Err-look-clause-at : goal.returns-in-Err-look-clause-at
returns-in-Err-look-clause-at g c =
    let x = whole c.args.pass.now in let a = whole c.look.new.pass in let b = whole c.complete.new.pass in let d = whole c.look-in-Err.new.pass in
    let l : HasLearnt x d = learnt_then x b d (learnt_then x a b c.look.ensures.learnt (learnt_by a b c.complete.ensures.later c.complete.ensures.learns)) c.look-in-Err.ensures.learnt in
    let v = c.requires.visited in let seat_a = c.look.ensures.pass.0.2 in let seat_b = c.complete.ensures.pass.0.2 ∙ seat_a in
    let seat_d = c.look-in-Err.ensures.pass.0.2 ∙ seat_b in
    two_stood x a b d c.args.op v.0 c.args.visit.node c.args.visit.version c.in-Err.first c.in-Err-look.second c.requires.exchange c.complete.ensures.later.adds
    seat_a seat_b seat_d c.in-Err.ensures.install c.in-Err-look.ensures.install c.complete.ensures.removed
    (visit_still x d l c.args.op v.0 c.args.visit.node c.args.visit.version v.1)
