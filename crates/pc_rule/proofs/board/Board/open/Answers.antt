use Rattle.std.proofs.Common.{rules, ◌≡◌, ℕ, ◌+◌, ◌<◌, ◌≤◌, [], length, vec_capacity, sym, ap, ◌∙◌, subst, arith}
use Rattle.pc_rule_law.specs.Board.{Size}
use Rattle.pc_exchange_law.specs.OwnSlots.{first_slots}
use Rattle.pc_exchange_law.specs.Wholes.{Whole}
use Rattle.pc_exchange_law.specs.WholeSeats.{whole_maker, whole_made}
use Rattle.pc_rule_law.proofs.Lists.{each_snoc, below_length}
use Rattle.pc_rule.specs.Opened.{last_whole, IsLastMade}
use Rattle.pc_rule.specs.Passes.{whole, board_size, listed, IsBlank, IsPassOf}
use Rattle.pc_rule.specs.Recorded.{calls_of}
use Rattle.pc_rule.proofs.Starting.{element}
use Rattle.pc_rule.proofs.board.Board.open.Goals as goal

pub another-next-requires-clause-share : goal.another-next-requires-clause-share
another-next-requires-clause-share g c = λ _ _. let inv = c.loop-made.invariant in let n = c.requires.shares.0 in let lt = c.loop-made-test.true in
    rw inv.shares (element c.args.shares.now (c.loop-made.made + 1) (record { slots = 0; calls = 0 }) (omega arith))

pub another-next-requires-clause-room : goal.another-next-requires-clause-room
another-next-requires-clause-room g c = λ _ _. let n = c.requires.shares.0 in let lt = c.loop-made-test.true in (
  c.in_ok-entries.ensures.none,
  c.in_ok-entries.ensures.own _ (element c.args.shares.now (c.loop-made.made + 1) (record { slots = 0; calls = 0 }) (omega arith)),
)

pub another-next-requires-clause-slots : goal.another-next-requires-clause-slots
another-next-requires-clause-slots g c = λ _ _. let inv = c.loop-made.invariant in let last = c.loop-made.last in let b = c.in_ok-board.board in
    ap (λ (x : Whole). x.knows.slots) inv.last.1 ∙ ap (λ (z : Size). first_slots z c.loop-made.made) (sym inv.sized)
    ∙ ap (λ (i : ℕ). first_slots (board_size b) i) (sym (ap (λ (x : Whole). x.view.seat) inv.last.1))

pub loop-made-preserved : goal.loop-made-preserved
loop-made-preserved g c = let inv = c.loop-made.invariant in let o = c.args.opening.now in let b = c.in_ok-board.board in let a = c.another-next.ensures in let passes = c.loop-made.passes.items in let last = c.another-next.new.last in
    record {
      sized = inv.sized;
      count = search rules;
      room = search rules;
      shares = inv.shares;
      last = (
        a.made.0,
        a.made.1 ∙ ap whole_made inv.last.1,
        a.room.0,
        λ e. rw inv.shares (let n = c.requires.shares.0 in let all : calls_of c.args.shares.now ≤ vec_capacity c.in_ok-entries.entries = c.in_ok-entries.ensures.all (e ∙ sym n) in let same = a.room.1 in omega arith),
        a.list,
      );
      made = rw c.push_reserved.ensures.items (each_snoc passes last (λ i p. IsPassOf b p × (whole p ≡ whole_maker (last_whole o i)) × IsBlank p × (listed p ≡ [])) inv.made
          (subst (λ (i : ℕ). IsPassOf b last × (whole last ≡ whole_maker (last_whole o i)) × IsBlank last × (listed last ≡ [])) (sym inv.count) (a.pass.0, a.pass.1 ∙ ap whole_maker inv.last.1, (ap (λ r. r.entries.items) a.kept.0 ∙ inv.last.2.0, ap (λ r. r.carried) a.kept.0 ∙ inv.last.2.1), a.kept.1 ∙ inv.last.4)));
    }

pub returns : goal.returns
returns g c = let inv = c.loop-made.invariant in let o = c.args.opening.now in let b = c.in_ok-board.board in let passes = c.loop-made.passes.items in let last = c.loop-made.last in
    let count : length passes ≡ c.loop-made.made = inv.count in
    let all : c.loop-made.made + 1 ≡ o.seats = (let lt = inv.room.1 in let ge = c.loop-made-test.false in omega arith) in (
      inv.sized,
      inv.shares,
      (
        (search rules),
        rw c.push_reserved-2.ensures.items (each_snoc passes last (λ i p. (i + 1 < o.seats → IsPassOf b p × (whole p ≡ whole_maker (last_whole o i)) × IsBlank p × (listed p ≡ [])) × (i + 1 ≡ o.seats → IsLastMade b o i p))
            (λ i p at. let q = inv.made i p at in let lt = below_length passes i p at in ((λ _. q), λ e. absurd (omega arith)))
            (subst (λ (i : ℕ). (i + 1 < o.seats → IsPassOf b last × (whole last ≡ whole_maker (last_whole o i)) × IsBlank last × (listed last ≡ [])) × (i + 1 ≡ o.seats → IsLastMade b o i last)) (sym count) ((λ lt. absurd (omega arith)), λ _. inv.last))),
      ),
    )
