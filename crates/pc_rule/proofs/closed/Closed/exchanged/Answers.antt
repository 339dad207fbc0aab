use Rattle.std.proofs.Common.{ℕ, ◌+◌, ◌*◌, ◌<◌, ◌≤◌, ◌≢◌, sym, subst, arith}
use Rattle.pc_words.specs.Statuses.{IsStatus}
use Rattle.pc_rule_law.specs.Board.{Size, Board}
use Rattle.pc_rule_law.proofs.ReadingBack.{Refers}
use Rattle.pc_rule.specs.Closed.{closed_size}
use Rattle.pc_rule.specs.Left.{words_left, board_left}
use Rattle.pc_rule.proofs.Left.{refers_left, status_stored}
use Rattle.pc_rule.proofs.closed.Closed.exchanged.Goals as goal

pub own-requires-after_bounds : goal.own-requires-after_bounds
own-requires-after_bounds g c κs within = let left = c.args.self.now in let b : Board = board_left left in
    ((refers_left left c.args.node c.args.field c.requires.inside c.args.seat (b.status c.args.seat).number c.requires.held).owner, omega arith)

pub unpack-status-requires : goal.unpack-status-requires
unpack-status-requires g c = let left = c.args.self.now in let b : Board = board_left left in
    subst IsStatus (sym c.own.ensures) (status_stored left c.args.node c.args.field c.requires.inside c.args.seat (b.status c.args.seat).number c.requires.held)

pub entry_of-entry-requires-clause-seat : goal.entry_of-entry-requires-clause-seat
entry_of-entry-requires-clause-seat g c κs within = let left = c.args.self.now in let b : Board = board_left left in
    (refers_left left c.args.node c.args.field c.requires.inside c.args.seat (b.status c.args.seat).number c.requires.held).owner

pub entry_of-entry-requires-clause-room : goal.entry_of-entry-requires-clause-room
entry_of-entry-requires-clause-room g c κs within = let left = c.args.self.now in let b : Board = board_left left in
    (refers_left left c.args.node c.args.field c.requires.inside c.args.seat (b.status c.args.seat).number c.requires.held).few

pub entry_of-entry-requires-clause-listed : goal.entry_of-entry-requires-clause-listed
entry_of-entry-requires-clause-listed g c κs within = let left = c.args.self.now in let b : Board = board_left left in
    subst (λ (word : ℕ). ((i : ℕ) → i < b.word c.args.seat 1 → b.word c.args.seat (3 + 3 * i) ≢ word) → ⊥) (sym c.cell_place.ensures)
    (refers_left left c.args.node c.args.field c.requires.inside c.args.seat (b.status c.args.seat).number c.requires.held).listed

pub described-old-requires-after_bounds : goal.described-old-requires-after_bounds
described-old-requires-after_bounds g c κs within = let left = c.args.self.now in let b : Board = board_left left in let z : Size = closed_size left in
    let r : Refers z (words_left left) c.args.node c.args.field c.args.seat (b.status c.args.seat).number = refers_left left c.args.node c.args.field c.requires.inside c.args.seat (b.status c.args.seat).number c.requires.held in
    let few : b.word c.args.seat 1 ≤ 25 + z.slots = r.few in let lt : c.entry_of-entry.result < b.word c.args.seat 1 = c.entry_of-entry.ensures.0 in (r.owner, omega arith)

pub described-new-requires-after_bounds : goal.described-new-requires-after_bounds
described-new-requires-after_bounds g c κs within = let left = c.args.self.now in let b : Board = board_left left in let z : Size = closed_size left in
    let r : Refers z (words_left left) c.args.node c.args.field c.args.seat (b.status c.args.seat).number = refers_left left c.args.node c.args.field c.requires.inside c.args.seat (b.status c.args.seat).number c.requires.held in
    let few : b.word c.args.seat 1 ≤ 25 + z.slots = r.few in let lt : c.entry_of-entry.result < b.word c.args.seat 1 = c.entry_of-entry.ensures.0 in (r.owner, omega arith)
