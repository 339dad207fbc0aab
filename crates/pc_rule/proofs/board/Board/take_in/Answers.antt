use Rattle.std.proofs.Common.{◌≡◌, ◌<◌, [], ◌∷◌, sym, ap, ◌∙◌, subst}
use Rattle.pc_rule_law.specs.Board.{Size, at_clock}
use Rattle.pc_rule_law.specs.Plays.{IsWell}
use Rattle.pc_rule_law.specs.Seats.{joined_by}
use Rattle.pc_rule_law.specs.Views.{View}
use Rattle.pc_rule.specs.Passes.{whole, view, board_size}
use Rattle.pc_rule.proofs.Rooms.{in_parts}
use Rattle.pc_exchange_law.specs.Wholes.{slots_at, all_slots_at}
use Rattle.pc_rule_law.specs.Tables.{size_of}
use Rattle.pc_rule_law.proofs.Places.{within}
use Rattle.pc_exchange_law.proofs.WholeSeats.{whole_joins}
use Rattle.pc_rule.proofs.board.Board.take_in.Goals as goal

pub join_seat-requires : goal.join_seat-requires
join_seat-requires g c = let key = c.args.self.now.table.shared.key in let z : Size = size_of key in (
  c.requires.passes.0.0,
  c.requires.passes.1.0,
  c.args.other.holds_none,
  rw (c.args.self.now.wide.0) (within z at_clock tt),
  whole_joins g.H.Shape.form z _ c.args.last.now.seat.me.0 _ c.args.other.seat.me.0 c.args.last.now.live c.args.other.live c.requires.rest c.requires.free,
)

pub returns-clause-told : goal.returns-clause-told
returns-clause-told g c = ap (λ m. m.0.knows.told) c.join_seat.ensures.2

pub returns-clause-pass : goal.returns-clause-pass
returns-clause-pass g c = let e = c.join_seat.ensures in let r = c.requires.passes.0 in
    let is : c.join_seat.new.seat.me.0.view ≡ joined_by (view c.args.last.now) (view c.args.other) = ap (λ m. m.0.view) e.2 in (
      (e.0 ∙ r.0, ap (λ (v : View). v.size) is ∙ r.1, subst (λ (v : View). v.seat < (board_size c.args.self.now).seats) (sym is) r.2, subst IsWell (sym is) r.3),
      is,
    )

pub returns-clause-slots : goal.returns-clause-slots
returns-clause-slots g c =
    ap (λ m. all_slots_at m.0) c.join_seat.ensures.2 ∙ in_parts (all_slots_at (whole c.args.other)) (whole c.args.last.now).taken (slots_at (whole c.args.last.now) ∷ [])
