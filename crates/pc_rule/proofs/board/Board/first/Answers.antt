use Rattle.std.proofs.Common.{rules, ◌≡◌, ℕ, ◌+◌, ◌<◌, ◌≤◌, List, [], length, vec_capacity, refl, sym, ap, ◌∙◌, subst, arith, map}
use mathlib.Core.Option.{some, some-ne-none}
use lib.ListN.{get_elem?, get_or}
use Rattle.pc_rule_law.specs.declared.opening.Opening.{Opening}
use Rattle.pc_rule_law.specs.Board.{Size, Represents, start_of}
use Rattle.pc_rule_law.specs.Plays.{IsWell}
use Rattle.pc_rule_law.specs.Tables.{size_of, slots_in}
use Rattle.pc_exchange_law.specs.Wholes.{Whole}
use Rattle.pc_exchange_law.specs.WholeSeats.{first_whole}
use Rattle.pc_exchange_law.proofs.WholeOpenings.{whole_opening_holds}
use Rattle.pc_rule_law.specs.declared.share.Share.{Share}
use Rattle.pc_rule.specs.HeldSlots.{new_slots, HoldsSlots}
use Rattle.pc_rule.proofs.HeldSlots.{begins_within, first_begins, next_begins, slots_new}
use Rattle.pc_rule.proofs.Listing.{none_listed}
use Rattle.pc_rule.proofs.Starting.{element}
use Rattle.pc_rule.proofs.Walking.{new_holds}
use Rattle.pc_rule.proofs.OwnWords.{begins, begin_still, words_still}
use Rattle.pc_rule.specs.Starting.{starting_board}
use Rattle.pc_rule.specs.Stored.{install_of}
use Rattle.pc_rule.proofs.board.Board.first.Goals as goal

pub of_words-requires : goal.of_words-requires
of_words-requires g c = let o = c.args.opening.now in let z : Size = size_of o in
    let represents : Represents z c.as_slice.result.now (starting_board o) = subst (λ (l : List ℕ). Represents z l (starting_board o)) (sym c.as_slice.ensures.value) c.in_ok-words.ensures in
    whole_opening_holds g.H.Shape.form z c.as_slice.result.now (λ slots cells sound. g.H.Shape.laws.linked slots cells sound) c.requires.may c.requires.early represents

pub returns-clause-opened : goal.returns-clause-opened
returns-clause-opened g c = let o = c.args.opening.now in let z : Size = size_of o in
    let made = c.in_ok-table.ensures in let key = made.5 in
    let kept : c.in_ok-kept.kept.items ≡ c.args.shares.now = c.in_ok-kept.ensures in
    let is : c.in_ok-table.seat.me.0 ≡ first_whole z = ap (λ m. m.0) made.4 in
    let seat : c.in_ok-table.seat.me.0.view.seat ≡ 0 = ap (λ (x : Whole). x.view.seat) is in
    let well : IsWell (first_whole z).view = λ _ x has. absurd (some-ne-none x (sym has.1)) in (
      ap size_of key,
      kept,
      (
        made.2,
        ap (λ (x : Whole). x.view.size) is ∙ ap size_of (sym key),
        subst (λ (i : ℕ × ℕ). i.0 < i.1) (λ t. (sym seat t, sym (ap (λ (k : Opening). k.seats) key) t)) c.requires.may.seats.0,
        subst (λ (x : Whole). IsWell x.view) (sym is) well,
        subst (λ (n : ℕ). get_elem? c.in_ok-kept.kept.items n ≡ some (get_or c.args.shares.now 0 (record { slots = 0; calls = 0 }))) (sym seat)
            (subst (λ (l : List Share). get_elem? l 0 ≡ some (get_or c.args.shares.now 0 (record { slots = 0; calls = 0 }))) (sym kept) (element c.args.shares.now 0 (record { slots = 0; calls = 0 }) (let one = c.requires.shares.1 in omega arith))),
        (let none : c.in_ok-entries.entries.items ≡ [] = c.in_ok-entries.ensures.none in let n : length c.in_ok-entries.entries.items ≡ 0 = ap length none in omega arith),
      ),
      is,
    )

pub returns-clause-room : goal.returns-clause-room
returns-clause-room g c = ((c.in_ok-entries.ensures.none, refl), λ e. c.in_ok-entries.ensures.all e)

pub invariant_of-pass-clause-roomy : goal.invariant_of-pass-clause-roomy
invariant_of-pass-clause-roomy g c = c.in_ok-entries.ensures.own _ (element c.args.shares.now 0 (record { slots = 0; calls = 0 }) (let one = c.requires.shares.1 in omega arith))

pub invariant_of-pass-clause-listing : goal.invariant_of-pass-clause-listing
invariant_of-pass-clause-listing g c = none_listed _ _ c.in_ok-listed.ensures.none

pub invariant_of-pass-clause-walking : goal.invariant_of-pass-clause-walking
invariant_of-pass-clause-walking g c = let made = c.in_ok-table.ensures in
    let is : c.in_ok-table.seat.me.0 ≡ first_whole (size_of c.args.opening.now) = ap (λ m. m.0) made.4 in
    new_holds _ _ _ c.in_ok-visits.ensures.none (ap (λ (x : Whole). x.path.begun) is)
    (let room = c.in_ok-visits.ensures.room in subst (λ (z : Size). z.slots + 1 ≤ vec_capacity c.in_ok-visits.visits) (sym (ap (λ (x : Whole). x.view.size) is)) room)

pub invariant_of-pass-clause-counted : goal.invariant_of-pass-clause-counted
invariant_of-pass-clause-counted g c = let made = c.in_ok-table.ensures in
    let is : c.in_ok-table.seat.me.0 ≡ first_whole (size_of c.args.opening.now) = ap (λ m. m.0) made.4 in
    ap (λ (x : Whole). x.view.install) is ∙ ap install_of (sym c.install_start.ensures)

pub invariant_of-pass-clause-written : goal.invariant_of-pass-clause-written
invariant_of-pass-clause-written g c = let made = c.in_ok-table.ensures in
    let is : c.in_ok-table.seat.me.0 ≡ first_whole (size_of c.args.opening.now) = ap (λ m. m.0) made.4 in
    words_still _ _ _ (ap (λ (x : Whole). x.view.attempt.words) is) c.in_ok-stored.ensures

pub invariant_of-pass-clause-placed : goal.invariant_of-pass-clause-placed
invariant_of-pass-clause-placed g c = let made = c.in_ok-table.ensures in let z : Size = size_of c.args.opening.now in
    let is : c.in_ok-table.seat.me.0 ≡ first_whole z = ap (λ m. m.0) made.4 in
    begin_still _ _ _ _ (ap (λ (x : Whole). x.view.size) is) (begins z c.own_place.result 0 (c.own_place.ensures z refl))

-- where shares begin
pub invariant_of-board-clause-shared : goal.invariant_of-board-clause-shared
invariant_of-board-clause-shared g c = let o = c.args.opening.now in λ j. subst (λ (k : Opening). start_of (size_of k) j ≤ o.slots + 2) (sym c.in_ok-table.ensures.5)
    (begins_within (size_of o) c.args.shares.now (ap (map slots_in) c.requires.kept) c.requires.slots j)

pub invariant_of-pass-clause-holding : goal.invariant_of-pass-clause-holding
invariant_of-pass-clause-holding g c = let z : Size = size_of c.args.opening.now in let shares = c.args.shares.now in
    let own : Share = get_or shares 0 (record { slots = 0; calls = 0 }) in
    let is : c.in_ok-table.seat.me.0 ≡ first_whole z = ap (λ m. m.0) c.in_ok-table.ensures.4 in
    let same : z.shares ≡ map slots_in shares = ap (map slots_in) c.requires.kept in
    let at = element shares 0 (record { slots = 0; calls = 0 }) (let one = c.requires.shares.1 in omega arith) in
    subst (HoldsSlots c.in_ok-table.seat.me.0) (sym c.new.ensures)
    (subst (λ (x : Whole). HoldsSlots x (new_slots 2 own.slots)) (sym is)
    (slots_new (first_whole z) 0 2 own.slots refl (first_begins z) (next_begins z shares same 0 own at ∙ ap (λ (n : ℕ). n + own.slots) (first_begins z))
    (begins_within z shares same c.requires.slots 1)))
