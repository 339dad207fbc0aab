use Rattle.std.proofs.Common.{◌∙◌, sym, length, subst, ◌<◌, arith}
use Rattle.pc_model.specs.Debts.{Debts}
use Rattle.pc_model.proofs.DebtLists.{room_made, different_made, few_made}
use Rattle.pc_model.proofs.owed.Owed.make_room.Goals as goal

pub invariant_of-self : goal.invariant_of-self
invariant_of-self c = (
  omega arith,
  different_made c.self.inside.keys c.rotate_right.new.self c.self.inside.front c.self.told c.if-self-gt0.false
      c.self.invariant.1 c.rotate_right.ensures.after,
)

pub returns : goal.returns
returns c = record {
  made = c.lower.ensures
      ∙ room_made c.self.inside.keys c.rotate_right.new.self c.self.inside.front c.self.inside.from c.args.self.now
      c.self.told c.if-self-gt0.false c.self.view_is c.rotate_right.ensures.after;
  room = subst (λ (d : Debts). length d.keys < 64) (sym c.lower.ensures)
      (few_made c.self.inside.keys c.rotate_right.new.self c.self.told c.rotate_right.ensures.after);
}
