use Rattle.std.proofs.Common.{◌≡◌, sym, ap, ◌∙◌, arith, ℕ, ◌+◌, ◌<◌, ◌≤◌, ◌^◌, refl, map, subst}
use Rattle.pc_rule_law.specs.declared.opening.Starts.{Starts}
use mathlib.Core.Option.{some}
use lib.ListN.{get_elem?}
use Rattle.pc_model.specs.declared.shape.Shape.{Ghosts}
use Rattle.pc_rule_law.specs.declared.share.Share.{Share}
use Rattle.pc_rule_law.specs.Board.{Size, at_clock, start_of}
use Rattle.pc_rule_law.specs.Tables.{size_of, slots_in}
use Rattle.pc_rule_law.proofs.Places.{within}
use Rattle.pc_exchange_law.specs.Wholes.{Whole}
use Rattle.pc_exchange_law.specs.WholeSeats.{whole_made}
use Rattle.pc_exchange_law.proofs.WholeSeats.{whole_splits}
use Rattle.pc_exchange_law.specs.OwnSlots.{OwnSlots, first_slots}
use Rattle.pc_rule.specs.declared.board.Board.{Board}
use Rattle.pc_rule.specs.declared.board.Pass.{Pass}
use Rattle.pc_rule.specs.HeldSlots.{new_slots, HoldsSlots}
use Rattle.pc_rule.proofs.HeldSlots.{next_begins, slots_new}
use Rattle.pc_rule.specs.Passes.{whole, view, slots, board_size}
use Rattle.pc_rule.specs.Stored.{install_of}
use Rattle.pc_rule.proofs.Listing.{none_listed}
use Rattle.pc_rule.proofs.OwnWords.{begins, begin_still, words_still, opening_words}
use Rattle.pc_rule.proofs.board.Board.another.Goals as goal

pub split_seat-seat-requires : goal.split_seat-seat-requires
split_seat-seat-requires g c = let key = c.args.self.now.table.shared.key in let z : Size = size_of key in (
  c.requires.pass.0.0,
  rw (c.args.self.now.wide.0) (within z at_clock tt),
  whole_splits g.H.Shape.form z _ c.args.last.now.seat.me.0 c.args.last.now.live c.requires.pass.1 (let i = c.requires.index.0 in let lt = c.requires.index.1 in omega arith),
)

pub invariant_of-result-clause-listing : goal.invariant_of-result-clause-listing
invariant_of-result-clause-listing g c = none_listed _ _ c.requires.list.0

pub invariant_of-result-clause-counted : goal.invariant_of-result-clause-counted
invariant_of-result-clause-counted g c = let is : c.split_seat-seat.result.me.0 ≡ whole_made (whole c.args.last.now) = ap (λ m. m.0) c.split_seat-seat.ensures.4 in
    let number = ap (λ (s : Starts). s.install) c.args.self.now.started ∙ sym (ap (λ (z : Size). z.starts.install) c.requires.pass.0.1) in
    ap (λ (x : Whole). x.view.install) is ∙ (opening_words (view c.args.last.now).size c.args.self.now.starts.install number ∙ ap install_of (sym c.install_start.ensures))

pub invariant_of-result-clause-written : goal.invariant_of-result-clause-written
invariant_of-result-clause-written g c = let is : c.split_seat-seat.result.me.0 ≡ whole_made (whole c.args.last.now) = ap (λ m. m.0) c.split_seat-seat.ensures.4 in
    words_still _ _ _ (ap (λ (x : Whole). x.view.attempt.words) is) c.requires.words

pub invariant_of-result-clause-placed : goal.invariant_of-result-clause-placed
invariant_of-result-clause-placed g c = let is : c.split_seat-seat.result.me.0 ≡ whole_made (whole c.args.last.now) = ap (λ m. m.0) c.split_seat-seat.ensures.4 in
    let z : Size = (view c.args.last.now).size in let sized : z ≡ board_size c.args.self.now = c.requires.pass.0.1 in
    begin_still _ _ _ _ (ap (λ (x : Whole). x.view.size) is)
    (begins z c.own_place.result c.args.index (c.own_place.ensures z (ap (λ (y : Size). y.slots) sized ∙ sym c.args.self.now.sized.1)))

-- its share begins where that of its maker ends, and ends within the slots of all
module _ {H : Type 0} {S : Ghosts H} (b : Board H) (last : Pass H S) (index : ℕ) (share : Share) (sized : (view last).size ≡ board_size b)
    (next : (view last).seat + 1 ≡ index) (at : get_elem? b.shares.items index ≡ some share)
    (new : (slots last) ≡ first_slots (board_size b) (view last).seat) where
  abbrev seat : ℕ
  seat = (view last).seat + 1

  abbrev z : Size
  z = (view last).size

  begins_here : start_of z seat ≡ last.slots.until
  begins_here = ap (λ (y : Size). start_of y seat) sized ∙ sym (ap (λ (o : OwnSlots). o.until) new) ∙ last.holding.until

  ends_there : start_of z (seat + 1) ≡ last.slots.until + share.slots
  unfolding begins_here
  ends_there = next_begins z b.shares.items (ap (λ (y : Size). y.shares) sized ∙ ap (map slots_in) (sym b.sized.2)) seat share
      (subst (λ (i : ℕ). get_elem? b.shares.items i ≡ some share) (sym next) at) ∙ ap (λ (n : ℕ). n + share.slots) begins_here

  is_within : start_of z (seat + 1) ≤ z.slots + 2
  is_within = subst (λ (y : Size). start_of y (seat + 1) ≤ y.slots + 2) (sym sized)
      (subst (λ (n : ℕ). start_of (board_size b) (seat + 1) ≤ n + 2) b.sized.1 (b.shared (seat + 1)))

  made_holds : HoldsSlots (whole_made (whole last)) (new_slots last.slots.until share.slots)
  unfolding begins_here ends_there is_within
  made_holds = slots_new (whole_made (whole last)) seat last.slots.until share.slots refl begins_here ends_there is_within

  small_end : last.slots.until + share.slots < 2 ^ 32
  unfolding ends_there is_within
  small_end = let e = ends_there in let w = is_within in let few = b.small.1 in let n = ap (λ (y : Size). y.slots) sized in let m = b.sized.1 in omega arith

pub new-requires : goal.new-requires
unfolding small_end
new-requires g c = small_end c.args.self.now c.args.last.now c.args.index c.args.share c.requires.pass.0.1 c.requires.index.0 c.requires.share c.requires.slots

pub invariant_of-result-clause-holding : goal.invariant_of-result-clause-holding
unfolding made_holds
invariant_of-result-clause-holding g c = let is : c.split_seat-seat.result.me.0 ≡ whole_made (whole c.args.last.now) = ap (λ m. m.0) c.split_seat-seat.ensures.4 in
    subst (HoldsSlots c.split_seat-seat.result.me.0) (sym c.new.ensures)
    (subst (λ (x : Whole). HoldsSlots x (new_slots c.args.last.now.slots.until c.args.share.slots)) (sym is)
    (made_holds c.args.self.now c.args.last.now c.args.index c.args.share c.requires.pass.0.1 c.requires.index.0 c.requires.share c.requires.slots))
