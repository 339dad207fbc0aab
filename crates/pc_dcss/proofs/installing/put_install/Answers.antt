-- The placing, by what stood in the word.
use Rattle.std.proofs.Common.{◌<◌, ◌^◌, ap, subst, arith}
use Rattle.pc_rule_law.specs.Views.{View}
use Rattle.pc_words.specs.Words.{kind}
use Rattle.pc_rule_law.specs.Plays.{own_notes, found}
use Rattle.pc_rule.specs.Passes.{view, board_size}
use Rattle.pc_dcss.proofs.Staying.{notes_ranged}
use Rattle.pc_dcss.proofs.Puts.{install_again, keeps_with_more, place_ranged, entry_known, placed_by_hit, held_now, met_now, differs_now, not_old}
use Rattle.pc_dcss.proofs.installing.put_install.Goals as goal
use Rattle.pc_rule.specs.Passes.{whole, knows}
use Rattle.pc_dcss.proofs.Puts.{new_now, come_now, outdated_now}
use Rattle.pc_dcss.proofs.Learnt.{learns_swapped}
use Rattle.pc_rule.proofs.BoardSizes.{few_seats}

pub plain-old-requires : goal.plain-old-requires
plain-old-requires g c = let b = c.args.board.now in let p = c.args.pass.now in
    (place_ranged (board_size b) (view p) c.requires.pass.1 (notes_ranged b p c.requires.pass) c.args.op c.args.place c.requires.ready.listed).2

pub step_6-found-requires-clause-inside : goal.step_6-found-requires-clause-inside
step_6-found-requires-clause-inside g c κs within = let b = c.args.board.now in let p = c.args.pass.now in
    (place_ranged (board_size b) (view p) c.requires.pass.1 (notes_ranged b p c.requires.pass) c.args.op c.args.place c.requires.ready.listed).1

pub step_6-found-requires-clause-may : goal.step_6-found-requires-clause-may
step_6-found-requires-clause-may g c κs within = let b = c.args.board.now in let p = c.args.pass.now in let v : View = view p in let ready = c.requires.ready in
    let r = place_ranged (board_size b) v c.requires.pass.1 (notes_ranged b p c.requires.pass) c.args.op c.args.place ready.listed in (
      c.args.place.old,
      c.args.op.seat,
      c.args.op.number,
      c.plain-old.ensures.raw,
      install_again c.args.own.seat c.args.own.number v.seat v.install.number c.install_ref-install.result ready.seat ready.number c.install_ref-install.ensures.raw,
      record {
        live = p.live;
        sized = c.requires.pass.1;
        fresh = ready.fresh;
        op = ready.op_word;
        place = ready.place_word;
        old = ready.old_word;
        small = (subst (λ x. x < 2 ^ 54) ready.number ready.small, r.2);
        attempt = r.0;
        listed = entry_known v c.args.op c.args.place ready.listed;
      },
    )

pub returns-then-found-old-clause-keeps : goal.returns-then-found-old-clause-keeps
returns-then-found-old-clause-keeps g c = let v : View = view c.args.pass.now in
    keeps_with_more v (view c.step_6-found.new.pass) (own_notes v c.args.place.node c.args.place.field) (ap (λ (u : View). u.notes) (c.step_6-found.ensures.told.hit c.if-found-old.true))

pub returns-then-found-old-clause-placed : goal.returns-then-found-old-clause-placed
returns-then-found-old-clause-placed g c = let b = c.args.board.now in let p = c.args.pass.now in
    placed_by_hit (board_size b) (view p) (view c.step_6-found.new.pass) c.args.own c.args.op c.args.place c.requires.ready (c.step_6-found.ensures.told.hit c.if-found-old.true)
    c.requires.pass.1 c.requires.pass.2 (notes_ranged b p c.requires.pass)

pub returns-clause-keeps : goal.returns-clause-keeps
returns-clause-keeps g c = let v : View = view c.args.pass.now in
    keeps_with_more v (view c.step_6-found.new.pass) (found c.args.place.node c.args.place.field (kind c.step_6-found.result)) (ap (λ (u : View). u.notes) (c.step_6-found.ensures.told.miss c.if-found-old.false))

pub returns-clause-met : goal.returns-clause-met
returns-clause-met g c = met_now (view c.args.pass.now) (view c.step_6-found.new.pass) c.args.op c.args.place (kind c.step_6-found.result)
    (c.step_6-found.ensures.told.miss c.if-found-old.false) c.refusal.result c.refusal.ensures.met c.refusal.ensures.other c.step_6-found.ensures.told.other

pub returns-clause-differs : goal.returns-clause-differs
returns-clause-differs g c = differs_now (view c.args.pass.now) (view c.step_6-found.new.pass) c.args.op c.args.place (kind c.step_6-found.result)
    (c.step_6-found.ensures.told.miss c.if-found-old.false) c.refusal.result
    (not_old c.step_6-found.result c.plain-old.result c.args.place.old c.step_6-found.ensures.told.word c.plain-old.ensures.raw c.if-found-old.false) c.refusal.ensures.differs

pub returns-then-found-old-clause-adds : goal.returns-then-found-old-clause-adds
returns-then-found-old-clause-adds g c = let v : View = view c.args.pass.now in
    (own_notes v c.args.place.node c.args.place.field, ap (λ (u : View). u.notes) (c.step_6-found.ensures.told.hit c.if-found-old.true))

pub returns-clause-adds : goal.returns-clause-adds
returns-clause-adds g c = (found c.args.place.node c.args.place.field (kind c.step_6-found.result), ap (λ (u : View). u.notes) (c.step_6-found.ensures.told.miss c.if-found-old.false))

pub returns-clause-held : goal.returns-clause-held
returns-clause-held g c = held_now (view c.args.pass.now) (view c.step_6-found.new.pass) c.args.op c.args.place (kind c.step_6-found.result)
    (c.step_6-found.ensures.told.miss c.if-found-old.false) c.refusal.result c.refusal.ensures.held

pub returns-then-found-old-clause-learns : goal.returns-then-found-old-clause-learns
returns-then-found-old-clause-learns g c = let at = c.args.place in learns_swapped (whole c.args.pass.now) at.node at.field c.plain-old.result c.install_ref-install.result c.step_6-found.result (whole c.step_6-found.new.pass) c.step_6-found.ensures.learnt

pub returns-clause-learns : goal.returns-clause-learns
returns-clause-learns g c = let at = c.args.place in learns_swapped (whole c.args.pass.now) at.node at.field c.plain-old.result c.install_ref-install.result c.step_6-found.result (whole c.step_6-found.new.pass) c.step_6-found.ensures.learnt

pub returns-clause-fresh : goal.returns-clause-fresh
returns-clause-fresh g c = new_now (whole c.args.pass.now) c.args.place c.step_6-found.result c.refusal.result c.refusal.ensures.met c.step_6-found.ensures.told.present c.step_6-found.ensures.told.unclean
    c.step_6-found.ensures.present

pub returns-clause-came : goal.returns-clause-came
returns-clause-came g c = come_now (knows c.step_6-found.new.pass) (kind c.step_6-found.result) c.refusal.result c.refusal.ensures.met (c.step_6-found.ensures.learnt.miss c.if-found-old.false).came

pub returns-clause-outdated : goal.returns-clause-outdated
returns-clause-outdated g c = let z = board_size c.args.board.now in let p = c.args.pass.now in
    let small = (place_ranged z (view p) c.requires.pass.1 (notes_ranged c.args.board.now p c.requires.pass) c.args.op c.args.place c.requires.ready.listed).0 in
    outdated_now (whole p) c.args.op c.args.place c.step_6-found.result c.plain-old.result (whole c.step_6-found.new.pass) c.refusal.result
    (let lt = small.0 in let few = few_seats c.args.board.now in omega arith) c.requires.ready.op_word c.step_6-found.ensures.outdated c.if-found-old.false c.refusal.ensures.differs
