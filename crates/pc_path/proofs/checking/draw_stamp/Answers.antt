-- The clock, and then the draw.
use Rattle.std.proofs.Common.{ap, ◌∙◌}
use Rattle.pc_rule_law.specs.Views.{View}
use Rattle.pc_rule.specs.Passes.{whole}
use Rattle.pc_kcas.proofs.Counted.{none_installed}
use Rattle.pc_kcas.proofs.Learning.{clock_learnt}
use Rattle.pc_kcas.proofs.Evidence.{goes_then}
use Rattle.pc_path.proofs.Drawing.{clock_goes, clock_free, draw_goes, draw_free, above_before}
use Rattle.pc_path.proofs.checking.draw_stamp.Goals as goal

pub returns-then-clock-ge-LAST_STAMP-clause-goes_on : goal.returns-then-clock-ge-LAST_STAMP-clause-goes_on
returns-then-clock-ge-LAST_STAMP-clause-goes_on g c = let e = c.step_9-clock.ensures in
    clock_goes (whole c.args.pass.now) (whole c.step_9-clock.new.pass) c.step_9-clock.result e.told e.learnt

pub returns-then-clock-ge-LAST_STAMP-clause-free : goal.returns-then-clock-ge-LAST_STAMP-clause-free
returns-then-clock-ge-LAST_STAMP-clause-free g c = let e = c.step_9-clock.ensures in
    clock_free (whole c.args.pass.now) (whole c.step_9-clock.new.pass) c.step_9-clock.result e.told e.learnt c.requires.free

pub returns-then-stamp-ge-LAST_STAMP-clause-goes_on : goal.returns-then-stamp-ge-LAST_STAMP-clause-goes_on
returns-then-stamp-ge-LAST_STAMP-clause-goes_on g c = let e = c.step_9-clock.ensures in
    let x = whole c.args.pass.now in let y = whole c.step_9-clock.new.pass in let z = whole c.step_20-stamp.new.pass in
    goes_then x y z (clock_goes x y c.step_9-clock.result e.told e.learnt) (draw_goes y z c.step_20-stamp.result c.step_20-stamp.ensures.told).goes

pub returns-then-stamp-ge-LAST_STAMP-clause-free : goal.returns-then-stamp-ge-LAST_STAMP-clause-free
returns-then-stamp-ge-LAST_STAMP-clause-free g c = let e = c.step_9-clock.ensures in
    let x = whole c.args.pass.now in let y = whole c.step_9-clock.new.pass in let z = whole c.step_20-stamp.new.pass in
    draw_free y z c.step_20-stamp.result c.step_20-stamp.ensures.told (clock_free x y c.step_9-clock.result e.told e.learnt c.requires.free)

pub returns-clause-goes_on : goal.returns-clause-goes_on
returns-clause-goes_on g c = let e = c.step_9-clock.ensures in
    let x = whole c.args.pass.now in let y = whole c.step_9-clock.new.pass in let z = whole c.step_20-stamp.new.pass in
    goes_then x y z (clock_goes x y c.step_9-clock.result e.told e.learnt) (draw_goes y z c.step_20-stamp.result c.step_20-stamp.ensures.told).goes

pub returns-clause-free : goal.returns-clause-free
returns-clause-free g c = let e = c.step_9-clock.ensures in
    let x = whole c.args.pass.now in let y = whole c.step_9-clock.new.pass in let z = whole c.step_20-stamp.new.pass in
    draw_free y z c.step_20-stamp.result c.step_20-stamp.ensures.told (clock_free x y c.step_9-clock.result e.told e.learnt c.requires.free)

pub returns-clause-above : goal.returns-clause-above
returns-clause-above g c = let e = c.step_9-clock.ensures in let x = whole c.args.pass.now in let y = whole c.step_9-clock.new.pass in
    above_before x y c.step_20-stamp.result (clock_goes x y c.step_9-clock.result e.told e.learnt) c.step_20-stamp.ensures.told.above

pub returns-then-clock-ge-LAST_STAMP-clause-no_install : goal.returns-then-clock-ge-LAST_STAMP-clause-no_install
returns-then-clock-ge-LAST_STAMP-clause-no_install g c = let x = whole c.args.pass.now in let y = whole c.step_9-clock.new.pass in let e = c.step_9-clock.ensures in
    none_installed x.view y.view (clock_learnt x y c.step_9-clock.result e.told e.learnt).view

pub returns-then-stamp-ge-LAST_STAMP-clause-no_install : goal.returns-then-stamp-ge-LAST_STAMP-clause-no_install
returns-then-stamp-ge-LAST_STAMP-clause-no_install g c = let e = c.step_9-clock.ensures in let x = whole c.args.pass.now in let y = whole c.step_9-clock.new.pass in let z = whole c.step_20-stamp.new.pass in
    ap (λ (v : View). v.install.number) (draw_goes y z c.step_20-stamp.result c.step_20-stamp.ensures.told).same
    ∙ none_installed x.view y.view (clock_learnt x y c.step_9-clock.result e.told e.learnt).view

pub returns-clause-no_install : goal.returns-clause-no_install
returns-clause-no_install g c = let e = c.step_9-clock.ensures in let x = whole c.args.pass.now in let y = whole c.step_9-clock.new.pass in let z = whole c.step_20-stamp.new.pass in
    ap (λ (v : View). v.install.number) (draw_goes y z c.step_20-stamp.result c.step_20-stamp.ensures.told).same
    ∙ none_installed x.view y.view (clock_learnt x y c.step_9-clock.result e.told e.learnt).view
