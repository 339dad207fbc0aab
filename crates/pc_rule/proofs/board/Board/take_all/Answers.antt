use Rattle.std.proofs.Common.{rules, ◌≡◌, ℕ, suc, ◌++◌, ◌+◌, ◌≤◌, length, vec_capacity, refl, sym, ap, ◌∙◌, subst, arith}
use Rattle.std.proofs.lemmas.List.Sorted.{IsPermutation-refl}
use mathlib.Core.Option.{some}
use lib.ListN.{get_elem?}
use Rattle.pc_rule_law.specs.Conditions.{IsFree}
use Rattle.pc_rule_law.specs.Seats.{joined_by}
use Rattle.pc_rule_law.specs.Views.{View}
use Rattle.pc_exchange_law.specs.Wholes.{all_slots_at}
use Rattle.pc_rule.proofs.Noted.{told_taken, slots_taken_in}
use Rattle.pc_rule.specs.Passes.{whole, view, knows, share_of, recorded, IsPassOf}
use Rattle.pc_rule.specs.Recorded.{calls_of, recorded_by}
use Rattle.pc_rule.proofs.Ends.{each_front, each_last}
use Rattle.pc_rule.proofs.Rooms.{one_taken, all_taken, fits_now, fits_then, taken_in}
use Rattle.pc_rule.proofs.board.Board.take_all.Goals as goal

pub loop-other-init : goal.loop-other-init
loop-other-init g c = let r = c.requires in let last = c.args.last.now in let shares = c.args.self.now.shares.items in record {
  last = ((r.last.0.0, r.last.0.1, r.last.0.2, r.last.0.3), ap (λ (k : ℕ). record (view last) { rest = k }) r.last.2);
  others = r.others.0;
  entries = IsPermutation-refl (recorded_by c.args.others.items ++ recorded last);
  told = refl;
  slots = refl;
  room = (let n : length c.args.others.items + 1 ≡ length shares = r.others.1 in
      let at : get_elem? shares (length c.args.others.items) ≡ some (share_of last) = subst (λ (k : ℕ). get_elem? shares k ≡ some (share_of last)) r.last.1 r.last.0.4 in
      let taken = one_taken shares (length c.args.others.items) (share_of last) at in
      let all = all_taken shares (suc (length c.args.others.items)) (omega arith) in let few = r.last.0.5 in let fits : calls_of shares ≤ vec_capacity last.records.entries = r.room in omega arith);
}

pub take_in-requires-clause-passes : goal.take_in-requires-clause-passes
take_in-requires-clause-passes g c = λ _ _. let inv = c.loop-other.invariant in let b = c.args.self.now in
    let of = (each_last c.loop-other.others.items c.pop.new.self.items c.in-Some.other (λ i p. IsPassOf b p × ((view p).seat ≡ i) × IsFree (view p)) c.in-Some.ensures.items inv.others).0 in
    (inv.last.0, (of.0, of.1, of.2, of.3))

pub take_in-requires-clause-rest : goal.take_in-requires-clause-rest
take_in-requires-clause-rest g c = λ _ _. let inv = c.loop-other.invariant in let b = c.args.self.now in
    let seat = (each_last c.loop-other.others.items c.pop.new.self.items c.in-Some.other (λ i p. IsPassOf b p × ((view p).seat ≡ i) × IsFree (view p)) c.in-Some.ensures.items inv.others).1 in
    let n : length c.loop-other.others.items ≡ length c.pop.new.self.items + 1 = search rules in
    ap (λ (v : View). v.rest) inv.last.1 ∙ (n ∙ ap (λ (k : ℕ). k + 1) (sym seat))

pub take_in-requires-clause-free : goal.take_in-requires-clause-free
take_in-requires-clause-free g c = λ _ _. let inv = c.loop-other.invariant in let b = c.args.self.now in
    (each_last c.loop-other.others.items c.pop.new.self.items c.in-Some.other (λ i p. IsPassOf b p × ((view p).seat ≡ i) × IsFree (view p)) c.in-Some.ensures.items inv.others).2

pub take_in-requires-clause-room : goal.take_in-requires-clause-room
take_in-requires-clause-room g c = λ _ _. let inv = c.loop-other.invariant in let b = c.args.self.now in
    let is = each_last c.loop-other.others.items c.pop.new.self.items c.in-Some.other (λ i p. IsPassOf b p × ((view p).seat ≡ i) × IsFree (view p)) c.in-Some.ensures.items inv.others in
    fits_now b.shares.items c.loop-other.others.items c.pop.new.self.items c.loop-other.last c.in-Some.other (vec_capacity c.loop-other.last.records.entries) c.in-Some.ensures.items
    (subst (λ (k : ℕ). get_elem? b.shares.items k ≡ some (share_of c.in-Some.other)) is.1 is.0.4) is.0.5 inv.room

pub loop-other-preserved : goal.loop-other-preserved
loop-other-preserved g c = let inv = c.loop-other.invariant in let b = c.args.self.now in let took = c.take_in.ensures in
    let is = each_last c.loop-other.others.items c.pop.new.self.items c.in-Some.other (λ i p. IsPassOf b p × ((view p).seat ≡ i) × IsFree (view p)) c.in-Some.ensures.items inv.others in
    let seat : (view c.in-Some.other).seat ≡ length c.pop.new.self.items = is.1 in
    record {
      last = (took.pass.0, took.pass.1 ∙ (ap (λ (v : View). joined_by v (view c.in-Some.other)) inv.last.1 ∙ ap (λ (k : ℕ). record (view c.args.last.now) { rest = k }) seat));
      others = each_front c.loop-other.others.items c.pop.new.self.items c.in-Some.other (λ i p. IsPassOf b p × ((view p).seat ≡ i) × IsFree (view p)) c.in-Some.ensures.items inv.others;
      entries = taken_in (recorded_by c.args.others.items ++ recorded c.args.last.now) c.loop-other.others.items c.pop.new.self.items c.in-Some.other (recorded c.loop-other.last) (recorded c.take_in.new.last) c.in-Some.ensures.items took.entries inv.entries;
      told = inv.told ∙ told_taken c.loop-other.others.items c.pop.new.self.items c.in-Some.other (knows c.loop-other.last).told (knows c.take_in.new.last).told c.in-Some.ensures.items took.told;
      slots = inv.slots ∙ slots_taken_in c.loop-other.others.items c.pop.new.self.items c.in-Some.other (all_slots_at (whole c.loop-other.last)) (all_slots_at (whole c.take_in.new.last)) c.in-Some.ensures.items took.slots;
      room = (fits_then b.shares.items c.loop-other.others.items c.pop.new.self.items c.loop-other.last c.take_in.new.last c.in-Some.other (vec_capacity c.loop-other.last.records.entries) (vec_capacity c.take_in.new.last.records.entries) c.in-Some.ensures.items
          (subst (λ (k : ℕ). get_elem? b.shares.items k ≡ some (share_of c.in-Some.other)) is.1 is.0.4) is.0.5 inv.room took.entries took.capacity);
    }
