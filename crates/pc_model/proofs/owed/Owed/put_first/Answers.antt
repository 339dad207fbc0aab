use Rattle.std.proofs.Common.{◌≡◌, ◌∙◌, sym, arith, true, false}
use Rattle.pc_model.specs.Debts.{has}
use Rattle.pc_model.proofs.DebtLists.{length-without_key, has-without_key, has-with_room}
use Rattle.pc_model.proofs.owed.Owed.put_first.Goals as goal
use Rattle.pc_model.proofs.owed.Owed.put_first.Goals.{then-contains, else-contains}

pub push_front-requires-clause-room : goal.push_front-requires-clause-room
push_front-requires-clause-room c = elim c.if-contains.branch [
  | then-contains w ↦ let there : has c.args.key c.args.self.now.keys ≡ true = sym c.contains.ensures.there
      ∙ w.if-contains.true in
      rw (w.self-is, w.release.ensures)
      (omega (arith, length-without_key c.args.key c.args.self.now.keys there, c.contains.ensures.few))
  | else-contains w ↦ rw w.self-is w.make_room.ensures.room
]

pub push_front-requires-clause-another : goal.push_front-requires-clause-another
push_front-requires-clause-another c = elim c.if-contains.branch [
  | then-contains w ↦ rw (w.self-is, w.release.ensures) (has-without_key c.args.key c.args.self.now.keys)
  | else-contains w ↦ let absent : has c.args.key c.args.self.now.keys ≡ false = sym c.contains.ensures.there
      ∙ w.if-contains.false in
      rw (w.self-is, w.make_room.ensures.made) (has-with_room c.args.key c.args.self.now absent)
]
