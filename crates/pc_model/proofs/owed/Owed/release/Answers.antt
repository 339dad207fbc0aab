use Rattle.std.proofs.Common.{◌≡◌, ◌==◌, ◌+◌, ◌-◌, ℕ, List, drop, position, ◌∙◌, sym, ap, subst, arith}
use borrow.Rule.Slice.PartMut.{put_mid}
use Rattle.pc_model.specs.Debts.{Debts, AreDifferent, without_key, released}
use Rattle.pc_model.proofs.DebtLists.{has_front, released_list, absent_from_position, without_key-absent, different_without_key}
use Rattle.pc_model.proofs.owed.Owed.release.Goals as goal

pub returns-in_default : goal.returns-in_default
returns-in_default c =
    let with_keys : List ℕ → Debts = λ keys. record { keys = keys; from = c.args.self.now.from } in
    ap with_keys (sym (without_key-absent c.args.key c.args.self.now.keys
    (absent_from_position c.args.key c.args.self.now.keys (sym c.in_default.ensures))))

-- the keys that are left
left : (c : goal.After-self-1)
    → drop (c.self.inside.front + 1) (put_mid c.self.inside.front
    (c.self.inside.front + c.in-Some.place + 1 - c.self.inside.front) c.self.inside.keys c.rotate_right.new.self)
    ≡ without_key c.args.key (drop c.self.inside.front c.self.inside.keys)
left c =
    released_list c.self.inside.keys c.rotate_right.new.self c.self.inside.front c.in-Some.place
    (c.self.inside.front + c.in-Some.place + 1 - c.self.inside.front) c.args.key
    c.self.told c.self.invariant.0
    (ap (λ (d : Debts). position (λ x. x == c.args.key) d.keys) c.self.view_is
    ∙ sym c.in-Some.ensures) c.self.invariant.1 (omega arith) c.rotate_right.ensures.after

pub invariant_of-self : goal.invariant_of-self
invariant_of-self c = (
  omega (
    arith,
    has_front c.self.inside.keys c.self.inside.front c.in-Some.place c.args.key c.self.told
        (ap (λ (d : Debts). position (λ x. x == c.args.key) d.keys) c.self.view_is ∙ sym c.in-Some.ensures),
  ),
  subst AreDifferent (sym (left c))
      (different_without_key c.args.key (drop c.self.inside.front c.self.inside.keys) c.self.invariant.1),
)

pub returns : goal.returns
returns c =
    let with_keys : List ℕ → Debts = λ keys. record { keys = keys; from = c.self.inside.from } in
    ap with_keys (left c) ∙ ap (released c.args.key) c.self.view_is
