-- The conditions of a publication and of an install of the own exchange on a worked view: a pass of a board that has opened
-- stores the words of one change, publishes, and knows then what an install asks for. So they can be met.
use Rattle.std.proofs.Common.{◌≡◌, ℕ, zero, suc, ◌+◌, ◌*◌, ◌<◌, ◌≤◌, ◌^◌, inl, inr, true, false, [], ◌∷◌, None, refl, sym, ap, subst, arith}
use mathlib.Core.Option.{some, some-injective, some-ne-none}
use lib.ListN.{get_elem?}
use Rattle.pc_model.specs.declared.cell.Field.TheVariants.{Version}
use Rattle.pc_model.specs.Exchanges.{Changed}
use Rattle.pc_words.specs.declared.status.Stage.TheVariants.{Undecided}
use Rattle.pc_words.specs.Statuses.{packed}
use Rattle.pc_rule_law.specs.Board.{Size, place_number}
use Rattle.pc_rule_law.specs.Past.{Attempt, change, Describes, IsFormed}
use Rattle.pc_rule_law.specs.Plays.{after_write, after_publish}
use Rattle.pc_rule_law.specs.Seats.{new_view}
use Rattle.pc_rule_law.specs.Views.{View, word_in}
use Rattle.pc_rule_law.proofs.Lists.{all_one, none_has}
use Rattle.pc_model.specs.Forms.{Form, Fits}
use Rattle.pc_history.specs.Footprints.{IsAmong, RaisesVersionOf}
use Rattle.pc_model.specs.Cells.{IsOdd}
use Rattle.pc_protocol.specs.Links.{MarksAlone}
use Rattle.pc_protocol.specs.Notes.{clock_was}
use Rattle.pc_protocol.specs.Seeing.{ChangesVersion}
use Rattle.pc_exchange_law.proofs.SeenStamps.{none_above, above_more}
use Rattle.pc_exchange_law.specs.ExchangeConditions.{KnowsOld, was_opened, KnowsBasis}
use Rattle.pc_exchange_law.specs.OwnSlots.{first_slots}
use Rattle.pc_exchange_law.specs.Passes.{PassKnows}
use Rattle.pc_exchange_law.specs.Slots.{IsHeld}
use Rattle.pc_exchange_law.specs.Paths.{new_path}
use Rattle.pc_exchange_law.specs.Ties.{exchange_of}
use Rattle.pc_rule.specs.Conditions.{MayPublish}
use Rattle.pc_rule.proofs.Attempts.{describes_too}
use Rattle.pc_rule.specs.declared.opening.Place.{Place}
use Rattle.pc_rule.specs.declared.refs.Ref.{Ref}
use Rattle.pc_rule.specs.declared.refs.RefKind.TheVariants.{Exchange}
use Rattle.pc_dcss.specs.Installs.{KnowsPlace}

abbrev two : Size
two = record { seats = 2; slots = 1; shares = 1 ∷ 0 ∷ []; starts = record { attempt = 3; install = 0; stamp = 5; epoch = 1; version = 0 } }

abbrev raise : Changed
raise = change 1 Version 0 2

abbrev to_raise : Attempt
to_raise = record { mode = 0; changes = raise ∷ []; visits = []; reads = []; fresh = None }

the_change : (i : ℕ) (x : Changed) → get_elem? to_raise.changes i ≡ some x → i ≡ 0
the_change zero x at = refl
the_change (suc i) x at = absurd (some-ne-none x (sym at))

formed : IsFormed 1 to_raise
formed = record {
  few = omega arith;
  few_visits = omega arith;
  visited = λ x has. absurd (none_has x has);
  inside = all_one (λ x. ((1 ≤ x.node) × (x.node ≤ 2)) × (x.old < 2 ^ 62) × (x.new < 2 ^ 62)) raise
      ((omega arith, omega arith), omega arith, omega arith);
  apart = λ i j x y at_i at_j _ _. let e = the_change i x at_i in let d = the_change j y at_j in omega arith;
}

-- the pass at seat 0, and its view after it has stored the number of changes, the word and the new value
abbrev opened : View
opened = new_view two 0 false []

abbrev stored : View
stored = after_write (after_write (after_write opened 1 1) 3 8) 5 2

described : Describes 1 to_raise (word_in stored.attempt.words)
described = record {
  mode = refl;
  changes = refl;
  visits = refl;
  each_change = entry;
  each_visit = λ i x at. absurd (some-ne-none x (sym at));
}
  where
    entry : (i : ℕ) (x : Changed) → get_elem? to_raise.changes i ≡ some x
        → (word_in stored.attempt.words (3 + 3 * i) ≡ place_number x.node x.field)
        × (word_in stored.attempt.words (4 + 3 * i) ≡ x.old) × (word_in stored.attempt.words (5 + 3 * i) ≡ x.new)
    entry zero x at = subst (λ (y : Changed). (8 ≡ place_number y.node y.field) × (0 ≡ y.old) × (2 ≡ y.new))
        (some-injective raise x at) (refl, refl, refl)
    entry (suc i) x at = absurd (some-ne-none x (sym at))

-- what it knows beside: the same of its attempt, and a clock
abbrev knowing : PassKnows
knowing = record {
  own = record { number = 3; busy = false; withdrew = false; words = stored.attempt.words };
  ready = true;
  slots = first_slots two 0;
  noted = [];
  told = clock_was 5 ∷ [];
}

raising : (a : Changed) → IsAmong a to_raise.changes → RaisesVersionOf (exchange_of to_raise) a.node
raising a (inl is) = subst (RaisesVersionOf (exchange_of to_raise)) (sym (ap (λ (x : Changed). x.node) is)) record {
  change = raise;
  among = inl refl;
  is_of = (refl, refl);
  rises = inl (omega arith);
}
raising a (inr none) = absurd none

-- no node is marked, and the one that is changed is the sentinel
marking : MarksAlone (exchange_of to_raise)
marking a b (inl is) among field odd = absurd (let two_is_odd : IsOdd 2 = subst (λ (x : Changed). IsOdd x.new) is odd in
    let clash : 0 ≡ 1 = two_is_odd in cc)
marking a b (inr none) among field odd = absurd none

touching : (a : Changed) → IsAmong a to_raise.changes → IsHeld knowing a.node
touching a (inl is) = inl (ap (λ (x : Changed). x.node) is)
touching a (inr none) = absurd none

-- the board opened with the version that it changes
basing : KnowsBasis two knowing to_raise
basing a (inl is) = subst
    (λ (x : Changed). (v : ℕ) × ChangesVersion (exchange_of to_raise) x.node v × KnowsOld two knowing x.node v x.field x.old) (sym is)
    (0, record { change = raise; among = inl refl; is_of = (refl, refl); old = refl }, was_opened refl refl)
basing a (inr none) = absurd none

-- where the exchange fits, the pass may publish it as attempt 4
may_publish : (form : Form) → Fits form 1 (exchange_of to_raise) [] → MayPublish form two (record { view = stored; knows = knowing; aim = (0, 0); path = new_path; taken = [] }) (packed (record { number = 4; stage = Undecided }))
may_publish form fits = (
  to_raise,
  5,
  [],
  refl,
  refl,
  record {
    rests = refl;
    room = omega arith;
    clock = (0, refl);
    above = above_more (clock_was 5) [] 5 (omega arith) (none_above 5);
    formed = formed;
    raises = raising;
    marks = marking;
    touches = λ a among. inl (touching a among);
    makes = tt;
    seen = inl (refl, (refl, refl));
    described = describes_too 1 to_raise stored.attempt.words described;
    fits = fits;
    based = basing;
  },
)

-- and then put the reference of its exchange into the word
abbrev op : Ref
op = record { kind = Exchange; seat = 0; number = 4 }

abbrev place : Place
place = record { node = 1; field = Version; old = 0; new = 2 }

knows_place : KnowsPlace (after_publish stored) op place
knows_place = inr (
  ((omega arith, omega arith), (omega arith, omega arith), omega arith, omega arith),
  0,
  record {
    count = 1;
    below = omega arith;
    known_count = inr (refl, refl, refl, refl, omega arith, refl);
    known_place = inr (refl, refl, refl, refl, omega arith, refl);
    known_old = inr (refl, refl, refl, refl, omega arith, refl);
    known_new = inr (refl, refl, refl, refl, omega arith, refl);
  },
)
