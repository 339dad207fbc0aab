-- What is known of the exchange bounds its numbers, and a descriptor's words are no notes.
use Rattle.std.proofs.Common.{rules, ◌+◌, refl, sym, ap, subst, arith}
use Rattle.pc_rule_law.specs.Past.{Has}
use Rattle.pc_words.specs.declared.word.WordKind.TheVariants.{Exchange as ExchangeWord}
use Rattle.pc_words.specs.Words.{raw}
use Rattle.pc_rule_law.specs.Board.{place_number}
use Rattle.pc_rule_law.specs.Views.{View, held}
use Rattle.pc_rule_law.specs.Plays.{AddsNotes, IsNotedSince}
use Rattle.std.specs.Prelude.{IfErr}
use Rattle.std.proofs.lemmas.Result.{IfErr-weaker}
use Rattle.pc_dcss.specs.Installs.{described, IsReady, IsMet, IsDifferent, OnHeld, IfMet, IfDiffers}
use Rattle.pc_rule.specs.declared.refs.Ref.{Ref}
use Rattle.pc_rule.specs.declared.refs.RefKind.TheVariants.{Install as AnInstall}
use Rattle.pc_rule.specs.Passes.{view, board_size}
use Rattle.pc_rule.proofs.BoardSizes.{few_seats}
use Rattle.pc_dcss.proofs.Staying.{notes_ranged}
use Rattle.pc_dcss.proofs.Puts.{place_ranged, place_still, news_before}
use Rattle.pc_dcss.proofs.installing.place_install.Goals as goal
use Rattle.pc_rule.specs.Passes.{whole, knows}
use Rattle.pc_dcss.specs.Installs.{IsNews}
use Rattle.pc_dcss.proofs.Learnt.{learns_then}

pub describe-requires-clause-op : goal.describe-requires-clause-op
describe-requires-clause-op g c κs within = let b = c.args.board.now in let p = c.args.pass.now in let few = few_seats b in
    let r = (place_ranged (board_size b) (view p) c.requires.pass.1 (notes_ranged b p c.requires.pass) c.args.op c.args.place c.requires.place).0 in
    ((let s = r.0 in omega arith), r.1)

pub returns-clause-keeps : goal.returns-clause-keeps
returns-clause-keeps g c x h = c.put_install.ensures.keeps x (subst (λ (u : View). Has u.notes x) (sym c.describe.ensures.told) h)

pub returns-clause-met : goal.returns-clause-met
returns-clause-met g c = subst (λ (u : View). IfErr c.put_install.result (λ i. IfMet i (λ r. IsMet u (view c.put_install.new.pass) c.args.op c.args.place r)))
    c.describe.ensures.told c.put_install.ensures.met

pub returns-clause-differs : goal.returns-clause-differs
returns-clause-differs g c = subst (λ (u : View). IfErr c.put_install.result (λ i. IfDiffers i (IsDifferent u (view c.put_install.new.pass) c.args.place)))
    c.describe.ensures.told c.put_install.ensures.differs

pub returns-clause-adds : goal.returns-clause-adds
returns-clause-adds g c = subst (λ (u : View). AddsNotes u (view c.put_install.new.pass)) c.describe.ensures.told c.put_install.ensures.adds

pub returns-clause-held : goal.returns-clause-held
returns-clause-held g c = subst (λ (u : View). IfErr c.put_install.result (λ i. OnHeld i (IsNotedSince u (view c.put_install.new.pass) (held c.args.op.seat c.args.op.number c.args.place.node c.args.place.field))))
    c.describe.ensures.told c.put_install.ensures.held

pub put_install-requires-clause-ready : goal.put_install-requires-clause-ready
put_install-requires-clause-ready g c = λ _ _. let own : Ref = record { kind = AnInstall; seat = c.seat_of.result; number = c.installs-last.result + 1 } in
    let v : View = view c.args.pass.now in
    let w : View = described v (c.installs-last.result + 1) (raw (ExchangeWord c.args.op.seat c.args.op.number)) (place_number c.args.place.node c.args.place.field) c.args.place.old in
    subst (λ (u : View). IsReady u own c.args.op c.args.place) (sym c.describe.ensures.told) record {
      kind = refl;
      seat = search rules;
      number = refl;
      small = search rules;
      fresh = refl;
      op_word = refl;
      place_word = refl;
      old_word = refl;
      listed = place_still v w record { notes = λ x h. h; seat = refl; size = refl; attempt = refl; posted = refl } c.args.op c.args.place c.requires.place;
    }

pub returns-clause-learns : goal.returns-clause-learns
returns-clause-learns g c = learns_then (knows c.args.pass.now) (knows c.describe.new.pass) (knows c.put_install.new.pass) c.describe.ensures.learns c.put_install.ensures.learns

pub returns-clause-fresh : goal.returns-clause-fresh
returns-clause-fresh g c = let p = c.args.pass.now in let q = c.describe.new.pass in
    IfErr-weaker c.put_install.result (λ i. IfMet i (IsNews (whole q) c.args.place)) (λ i. IfMet i (IsNews (whole p) c.args.place))
    (λ i. news_before (whole p) (whole q) (λ x h. subst (λ (u : View). Has u.notes x) (sym c.describe.ensures.told) h) c.describe.ensures.learns
    (ap (λ (u : View). u.seat) c.describe.ensures.told) c.args.place i)
    c.put_install.ensures.fresh
