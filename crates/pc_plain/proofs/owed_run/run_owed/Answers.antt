use Rattle.std.proofs.Common.{◌≡◌, sym, ap, ◌∙◌, subst}
use Rattle.pc_model.specs.Debts.{settled, taken_up}
use Rattle.pc_plain.specs.PlainRuns.{HoldsPairs}
use Rattle.pc_plain.proofs.RunRight.{comes_to_make}
use Rattle.pc_plain.proofs.OwedRight.{answer_owes, answer_answers, made_right, made_sound, change_owes, change_answers}
use Rattle.pc_plain.proofs.owed_run.run_owed.Given.{Over}
use Rattle.pc_plain.proofs.owed_run.run_owed.Goals as goal
use Rattle.pc_plain.proofs.owed_run.run_owed.Goals.{After-settle, After-take_up}

pub make-requires : goal.make-requires
make-requires g c =
    comes_to_make g.P.Plan.start g.P.Plan.moves g.P.Plan.can_call g.P.Plan.terms g.P.Plan.form g.met.P.Plan.laws
    c.cells.inside.nodes c.end_of.ensures.few c.end_of.ensures.fit c.args.call c.requires.call
    c.end_of.new.change c.in-Exchange.ensures.comes
    (subst (HoldsPairs g.P.Plan.form) (sym c.cells.view_is) c.requires.sound)

-- what is owed where the plan answered
settles : (g : Over) (c : After-settle g)
    → c.settle.new.self ≡ settled ((g.P.Plan.terms c.args.call).settles c.in-Answer.reply) c.args.owed.now
settles g c = c.settle.ensures ∙ ap (λ s. settled s c.args.owed.now) c.settles.ensures

pub returns-in-Answer-clause-run : goal.returns-in-Answer-clause-run
returns-in-Answer-clause-run g c =
    answer_owes g.P.Plan.start g.P.Plan.moves g.P.Plan.can_call g.P.Plan.terms g.P.Plan.form g.met.P.Plan.laws
    c.cells.inside.nodes c.args.cells.now c.cells.view_is c.end_of.ensures.few c.end_of.ensures.fit c.args.call
    c.requires.call c.requires.sound
    c.in-Answer.reply c.in-Answer.ensures.comes c.args.owed.now c.settle.new.self (settles g c)

pub returns-in-Answer-clause-answers : goal.returns-in-Answer-clause-answers
returns-in-Answer-clause-answers g c =
    answer_answers g.P.Plan.start g.P.Plan.moves g.P.Plan.can_call g.P.Plan.terms g.P.Plan.form g.met.P.Plan.laws
    c.cells.inside.nodes c.args.cells.now c.cells.view_is c.end_of.ensures.few c.end_of.ensures.fit c.args.call
    c.requires.call c.requires.sound
    c.in-Answer.reply c.in-Answer.ensures.comes c.args.owed.now c.settle.new.self (settles g c)

-- what is owed where an exchange was made
takes_up : (g : Over) (c : After-take_up g)
    → c.take_up.new.owed ≡ taken_up ((g.P.Plan.terms c.args.call).settles c.in_ok-reply-in-Exchange.reply)
    c.end_of.new.change.charged c.args.owed.now
takes_up g c =
    c.take_up.ensures ∙ (λ i. taken_up (c.settles-in-Exchange.ensures i) (c.charged.ensures.keys i) c.args.owed.now)

pub returns-in_ok-reply-in-Exchange-clause-run : goal.returns-in_ok-reply-in-Exchange-clause-run
returns-in_ok-reply-in-Exchange-clause-run g c =
    change_owes g.P.Plan.start g.P.Plan.moves g.P.Plan.can_call g.P.Plan.terms g.P.Plan.form g.met.P.Plan.laws
    c.cells.inside.nodes c.args.cells.now c.cells.view_is c.end_of.ensures.few c.end_of.ensures.fit c.args.call
    c.requires.call c.requires.sound
    c.end_of.new.change c.in-Exchange.ensures.comes c.make.new.self c.make.ensures.size
    c.in_ok-reply-in-Exchange.ensures.made c.in_ok-reply-in-Exchange.reply c.in_ok-reply-in-Exchange.ensures.reply
    c.args.owed.now c.take_up.new.owed (takes_up g c)

pub returns-in_ok-reply-in-Exchange-clause-right : goal.returns-in_ok-reply-in-Exchange-clause-right
returns-in_ok-reply-in-Exchange-clause-right g c =
    made_right g.P.Plan.start g.P.Plan.moves g.P.Plan.can_call g.P.Plan.terms g.P.Plan.form g.met.P.Plan.laws
    c.cells.inside.nodes c.args.cells.now c.cells.view_is c.end_of.ensures.few c.end_of.ensures.fit c.args.call
    c.requires.call c.requires.sound
    c.end_of.new.change c.in-Exchange.ensures.comes c.make.new.self c.make.ensures.size
    c.in_ok-reply-in-Exchange.ensures.made c.in_ok-reply-in-Exchange.reply c.in_ok-reply-in-Exchange.ensures.reply

pub returns-in_ok-reply-in-Exchange-clause-sound : goal.returns-in_ok-reply-in-Exchange-clause-sound
returns-in_ok-reply-in-Exchange-clause-sound g c =
    made_sound g.P.Plan.start g.P.Plan.moves g.P.Plan.can_call g.P.Plan.terms g.P.Plan.form g.met.P.Plan.laws
    c.cells.inside.nodes c.args.cells.now c.cells.view_is c.end_of.ensures.few c.end_of.ensures.fit c.args.call
    c.requires.call c.requires.sound
    c.end_of.new.change c.in-Exchange.ensures.comes c.make.new.self c.make.ensures.size
    c.in_ok-reply-in-Exchange.ensures.made c.in_ok-reply-in-Exchange.reply c.in_ok-reply-in-Exchange.ensures.reply

pub returns-in_ok-reply-in-Exchange-clause-answers : goal.returns-in_ok-reply-in-Exchange-clause-answers
returns-in_ok-reply-in-Exchange-clause-answers g c =
    change_answers g.P.Plan.start g.P.Plan.moves g.P.Plan.can_call g.P.Plan.terms g.P.Plan.form g.met.P.Plan.laws
    c.cells.inside.nodes c.args.cells.now c.cells.view_is c.end_of.ensures.few c.end_of.ensures.fit c.args.call
    c.requires.call c.requires.sound
    c.end_of.new.change c.in-Exchange.ensures.comes c.make.new.self c.make.ensures.size
    c.in_ok-reply-in-Exchange.ensures.made c.in_ok-reply-in-Exchange.reply c.in_ok-reply-in-Exchange.ensures.reply
    c.args.owed.now c.take_up.new.owed (takes_up g c)
