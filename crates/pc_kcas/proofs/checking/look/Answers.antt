-- By the word that stands there.
use Rattle.std.proofs.Common.{◌<◌, ◌∙◌, sym, refl, arith}
use Rattle.pc_model.specs.declared.cell.Field.TheVariants.{Version}
use Rattle.pc_rule_law.specs.Views.{held}
use Rattle.pc_rule.specs.Passes.{whole}
use Rattle.pc_rule.proofs.BoardSizes.{few_seats}
use Rattle.pc_rule.proofs.Calls.{pass_stays}
use Rattle.pc_dcss.proofs.Staying.{notes_ranged}
use Rattle.pc_kcas.proofs.VisitChecks.{draws_visit, look_passes, look_fails, look_locked, reference_noted, look_gone, look_stands}
use Rattle.pc_kcas.proofs.checking.look.Goals as goal

pub step_17-found-requires-clause-visited : goal.step_17-found-requires-clause-visited
step_17-found-requires-clause-visited g c = λ _ _. let v = c.requires.visited in
    draws_visit (whole c.args.pass.now) c.args.op c.args.stamp v.0 c.args.visit.node c.args.visit.version c.requires.small c.requires.drawn v.1

pub returns-then-version-visit-clause-checked : goal.returns-then-version-visit-clause-checked
returns-then-version-visit-clause-checked g c = let v = c.requires.visited in let e = c.step_17-found.ensures in
    look_fails (whole c.args.pass.now) (whole c.step_17-found.new.pass) c.args.op c.args.visit.node c.step_17-found.result c.args.stamp e.told e.looked c.requires.drawn
    v.0 c.args.visit.version c.in-Plain.version c.requires.small v.1 (sym c.kind_of.ensures.kind ∙ c.in-Plain.is) c.if-version-visit.true

pub returns-else-version-visit-clause-checked : goal.returns-else-version-visit-clause-checked
returns-else-version-visit-clause-checked g c = let e = c.step_17-found.ensures in
    look_passes (whole c.args.pass.now) (whole c.step_17-found.new.pass) c.args.op c.args.visit.node c.step_17-found.result c.args.stamp e.told e.looked c.requires.drawn
    c.args.visit.version c.in-Plain.version (sym c.kind_of.ensures.kind ∙ c.in-Plain.is) c.if-version-visit.false

pub returns-then-seat-op-clause-checked : goal.returns-then-seat-op-clause-checked
returns-then-seat-op-clause-checked g c = let e = c.step_17-found.ensures in
    look_gone (whole c.args.pass.now) (whole c.step_17-found.new.pass) c.args.op c.args.visit.node c.step_17-found.result c.args.stamp e.told e.looked c.requires.drawn
    c.args.visit.version c.in-Exchange.seat c.in-Exchange.number c.requires.small c.requires.leaves (sym c.kind_of.ensures.kind ∙ c.in-Exchange.is) c.if-seat-op.true

pub returns-else-seat-op-clause-checked : goal.returns-else-seat-op-clause-checked
returns-else-seat-op-clause-checked g c =
    let b = c.args.board.now in let q = c.step_17-found.new.pass in let e = c.step_17-found.ensures in
    let x = whole c.args.pass.now in let y = whole q in let n = c.args.visit.node in let r = c.step_17-found.result in
    let of_q = pass_stays b c.args.pass.now q c.requires.pass e.pass.0 in
    let is = sym c.kind_of.ensures.kind ∙ c.in-Exchange.is in
    let noted = reference_noted x y c.args.op n r c.args.stamp e.told e.looked c.requires.drawn c.in-Exchange.seat c.in-Exchange.number is in
    let ranged = (notes_ranged b q of_q (held c.in-Exchange.seat c.in-Exchange.number n Version) noted).0.0 in let few = few_seats b in
    let small : c.in-Exchange.seat < 32 = omega arith in
    look_locked x y c.args.op n r c.args.stamp e.told e.looked c.requires.drawn c.args.visit.version c.in-Exchange.seat c.in-Exchange.number is small c.if-seat-op.false

pub returns-in-Install-clause-install : goal.returns-in-Install-clause-install
returns-in-Install-clause-install g c = let e = c.step_17-found.ensures in
    look_stands (whole c.args.pass.now) (whole c.step_17-found.new.pass) c.args.op c.args.visit.node c.step_17-found.result c.args.stamp e.told e.looked c.requires.drawn
    c.in-Install.seat c.in-Install.number _ c.requires.free (sym c.kind_of.ensures.kind ∙ c.in-Install.is) refl
