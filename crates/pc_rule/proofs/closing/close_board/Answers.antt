use Rattle.std.proofs.Common.{rules, ◌≡◌, ◌+◌, true, List, length, refl, sym, ap, ◌∙◌, subst}
use Rattle.pc_rule_law.specs.Board.{words_of}
use Rattle.pc_rule_law.specs.Conditions.{IsFree}
use Rattle.pc_rule_law.specs.Views.{View}
use Rattle.std.specs.List.Sorted.{IsPermutation}
use Rattle.std.proofs.lemmas.List.Sorted.{IsPermutation-trans, IsNonDecreasingBy-from_sort_by_key}
use Rattle.pc_model.specs.declared.call.Entry.{Entry}
use Rattle.pc_rule.specs.Passes.{view, board_size, recorded, IsPassOf}
use Rattle.pc_rule.specs.Recorded.{recorded_by, HasRoomFor}
use Rattle.pc_rule.proofs.Rooms.{recorded_last}
use Rattle.pc_rule.proofs.Remaining.{same_size, closed_stands}
use Rattle.pc_rule.proofs.Ends.{each_front, each_last}
use Rattle.pc_rule.specs.Left.{told_by, slots_by}
use Rattle.pc_rule.proofs.Noted.{told_last, slots_last}
use Rattle.pc_rule.proofs.Left.{run_left, none_stand}
use Rattle.pc_rule.proofs.closing.close_board.Goals as goal

pub take_all-requires-clause-last : goal.take_all-requires-clause-last
take_all-requires-clause-last g c = λ _ _. let all = c.requires.passes in let b = c.args.board in let front = c.pop.new.self.items in let items = c.in-Some.ensures.items in let w = c.in-Some.last in
    let n : length c.args.passes.items ≡ length front + 1 = search rules in (
      (each_last c.args.passes.items front w (λ i p. IsPassOf b p × ((view p).seat ≡ i) × IsFree (view p)) items all.order).0,
      (each_last c.args.passes.items front w (λ i p. IsPassOf b p × ((view p).seat ≡ i) × IsFree (view p)) items all.order).1,
      (each_last c.args.passes.items front w (λ i p. i + 1 ≡ (board_size b).seats → ((view p).last ≡ true) × ((view p).rest ≡ i) × HasRoomFor b.shares.items p) items all.last (sym n ∙ all.count)).1,
    )

pub take_all-requires-clause-room : goal.take_all-requires-clause-room
take_all-requires-clause-room g c = λ _ _. let all = c.requires.passes in let b = c.args.board in let front = c.pop.new.self.items in let items = c.in-Some.ensures.items in let w = c.in-Some.last in
    let n : length c.args.passes.items ≡ length front + 1 = search rules in
    (each_last c.args.passes.items front w (λ i p. i + 1 ≡ (board_size b).seats → ((view p).last ≡ true) × ((view p).rest ≡ i) × HasRoomFor b.shares.items p) items all.last (sym n ∙ all.count)).2

pub take_all-requires-clause-others : goal.take_all-requires-clause-others
take_all-requires-clause-others g c = λ _ _. let b = c.args.board in let all = c.requires.passes in
    let n : length c.args.passes.items ≡ length c.pop.new.self.items + 1 = search rules in (
      each_front c.args.passes.items c.pop.new.self.items c.in-Some.last (λ i p. IsPassOf b p × ((view p).seat ≡ i) × IsFree (view p)) c.in-Some.ensures.items all.order,
      sym n ∙ (all.count ∙ sym all.shared),
    )

pub end-table-requires-clause-pass : goal.end-table-requires-clause-pass
end-table-requires-clause-pass g c = λ _ _. let all = c.requires.passes in let b = c.args.board in let front = c.pop.new.self.items in let items = c.in-Some.ensures.items in let took = c.take_all.ensures.pass in
    let n : length c.args.passes.items ≡ length front + 1 = search rules in (
      took.0,
      ap (λ (v : View). v.last) took.1 ∙ (each_last c.args.passes.items front c.in-Some.last (λ i p. i + 1 ≡ (board_size b).seats → ((view p).last ≡ true) × ((view p).rest ≡ i) × HasRoomFor b.shares.items p) items all.last (sym n ∙ all.count)).0,
      ap (λ (v : View). v.rest) took.1,
    )

pub end-table-requires-clause-free : goal.end-table-requires-clause-free
end-table-requires-clause-free g c = λ _ _. let b = c.args.board in
    subst IsFree (sym c.take_all.ensures.pass.1) (each_last c.args.passes.items c.pop.new.self.items c.in-Some.last (λ i p. IsPassOf b p × ((view p).seat ≡ i) × IsFree (view p)) c.in-Some.ensures.items c.requires.passes.order).2

pub returns-clause-installs : goal.returns-clause-installs
returns-clause-installs g c = none_stand c.args.board g.H.Shape.form _ _ c.end-table.ensures.closed _ (ap (λ v. v.items) c.end-table.ensures.shares)

pub returns-clause-cells : goal.returns-clause-cells
returns-clause-cells g c = let front = c.pop.new.self.items in run_left _ c.args.board _ _ refl (same_size c.args.board _ (ap (λ v. v.items) c.end-table.ensures.shares)) c.end-table.ensures.closed c.args.passes.items
    (ap told_by c.in-Some.ensures.items ∙ (told_last front c.in-Some.last ∙ sym c.take_all.ensures.told))
    (ap slots_by c.in-Some.ensures.items ∙ (slots_last front c.in-Some.last ∙ sym c.take_all.ensures.slots))

pub invariant_of-result : goal.invariant_of-result
invariant_of-result g c = let e = c.end-table.ensures in let b = c.args.board in record {
  small = b.small;
  laid = (e.laid.0, e.laid.1 ∙ ap words_of (sym (same_size b _ (ap (λ v. v.items) e.shares))), e.laid.2);
  closed = ∣ closed_stands b g.H.Shape.form _ _ e.closed _ (ap (λ v. v.items) e.shares) ∣₁;
}

pub returns-clause-history : goal.returns-clause-history
returns-clause-history g c = let e = c.end-table.ensures.entries in let took = c.take_all.ensures.entries in record {
  each = IsPermutation-trans (recorded_by c.args.passes.items) (recorded c.take_all.new.last) c.sort_unstable_by_key.new.self.items
      (subst (λ (l : List Entry). IsPermutation l (recorded c.take_all.new.last)) (sym (ap recorded_by c.in-Some.ensures.items ∙ recorded_last c.pop.new.self.items c.in-Some.last)) took)
      (subst (λ (l : List Entry). IsPermutation l c.sort_unstable_by_key.new.self.items) e c.sort_unstable_by_key.ensures.permutation);
  rising = IsNonDecreasingBy-from_sort_by_key (λ x. x.stamp) _ c.sort_unstable_by_key.ensures.sorted (λ a r q k. search rules);
}
