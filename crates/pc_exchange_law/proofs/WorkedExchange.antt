-- The definitions on a worked board of two passes: the pass at seat 1 publishes an exchange of two words, puts an
-- install into one of them and its reference into both, draws a stamp, succeeds, takes its references away and goes
-- idle. In each state the rule of the protocol holds and the board is tied; other boards are not tied.
use Rattle.std.proofs.Common.{◌≡◌, ◌≢◌, ℕ, zero, suc, ◌^◌, ◌<◌, ◌≤◌, ◌⊎◌, inl, inr, ⊎_elim, [], ◌∷◌, Some, None, refl, sym, ap, ◌∙◌, subst, arith, false}
use Rattle.std.proofs.lemmas.Bool.{cases_eq}
use Rattle.std.proofs.lemmas.Bool.Decides.{nat_tests}
use mathlib.Core.Option.{some, some-injective, some-ne-none}
use lib.ListN.{get_elem?}
use Rattle.pc_model.specs.declared.cell.Field.{Field}
use Rattle.pc_model.specs.declared.cell.Field.TheVariants.{Version, Value}
use Rattle.pc_model.specs.Cells.{Cells, IsOdd}
use Rattle.pc_model.specs.Exchanges.{Changed, Exchange as PathExchange}
use Rattle.pc_model.specs.Linked.{opening_cells}
use Rattle.pc_words.specs.declared.word.WordKind.TheVariants.{Plain, Install, Exchange}
use Rattle.pc_words.specs.declared.status.Stage.TheVariants.{Idle, Undecided, Succeeded}
use Rattle.pc_history.specs.Footprints.{IsAmong, RaisesVersionOf}
use Rattle.pc_history.proofs.Updates.{updated_here, updated_other, from_updated}
use Rattle.pc_history.specs.WorldRuns.{cells_after}
use Rattle.pc_rule_law.specs.Board.{Size, Board, put2}
use Rattle.pc_rule_law.specs.Past.{Has, Attempt, Past, change, IsFormed}
use Rattle.pc_rule_law.specs.Stages.{IsOpen, IsUndecided as IsUndecidedAttempt}
use Rattle.pc_rule_law.specs.Rule.{Holding}
use Rattle.pc_rule_law.specs.Openings.{opening_board, opening_attempt, opening_words}
use Rattle.pc_rule_law.specs.Seats.{opening_past}
use Rattle.pc_rule_law.proofs.Lists.{all_more, all_none, none_has}
use Rattle.pc_rule_law.proofs.WordKinds.{plain_not_exchange, install_not_exchange, seat_of, number_of}
use Rattle.pc_protocol.specs.Histories.{for_exchange, undecided, committed, History, moments, cells_now, IsPublished, IsUsed}
use Rattle.pc_protocol.specs.Seeing.{Saw}
use Rattle.pc_protocol.specs.Steps.{draw, publish, commit, refer}
use Rattle.pc_protocol.proofs.Stages.{none_not_some, undecided_not_committed}
use Rattle.pc_exchange_law.specs.Ties.{code, seat_in, number_in, exchange_of, IsTied}
use Rattle.pc_exchange_law.specs.Changes.{with_word, with_status, with_next_stamp, with_values}
use Rattle.pc_exchange_law.specs.Changes.{Leads, RaisesNodes}
use Rattle.pc_exchange_law.specs.Slots.{ChangesUsed}
use Rattle.pc_exchange_law.specs.TieLaws.{opening_history, MayMake, StepsStayTied, WordsServe, HasOpened, run_up_to}
use Rattle.pc_exchange_law.proofs.Ties.{steps_stay_tied, words_serve}
use Rattle.pc_exchange_law.proofs.TieDraws.{nothing_changes}
use Rattle.pc_exchange_law.proofs.TieOpenings.{openings_are_tied}

-- numbers of attempts
code_of_four : code 1 4 ≡ 257
code_of_four = refl

seat_of_it : seat_in 257 ≡ 1
seat_of_it = refl

number_of_it : number_in 257 ≡ 4
number_of_it = refl

abbrev two : Size
two = record { seats = 2; slots = 1; shares = 1 ∷ 0 ∷ []; starts = record { attempt = 3; install = 0; stamp = 5; epoch = 1; version = 0 } }

abbrev zeros : Cells
zeros = opening_cells 0

marked : (n : ℕ) → n ≢ 1 → IsOdd (zeros n Version)
marked n ne = grind (arith, nat_tests)

abbrev raise : Changed
raise = change 1 Version 0 2

abbrev put_value : Changed
put_value = change 1 Value 0 50

abbrev to_put : Attempt
to_put = record { mode = 0; changes = raise ∷ put_value ∷ []; visits = []; reads = []; fresh = None }

each_change : (P : Changed → Type 0) → P raise → P put_value → (x : Changed) → Has to_put.changes x → P x
each_change P of_raise of_value = all_more P raise (put_value ∷ []) of_raise
    (all_more P put_value [] of_value (all_none P))

raises : RaisesNodes to_put
raises a among = ⊎_elim (λ e. raised (ap (λ (x : Changed). x.node) e))
    (λ later. ⊎_elim (λ e. raised (ap (λ (x : Changed). x.node) e)) (λ none'. absurd none') later) among
  where
    raised : {n : ℕ} → n ≡ 1 → RaisesVersionOf (exchange_of to_put) n
    raised e = record { change = raise; among = inl refl; is_of = (sym e, refl); rises = inl (omega arith) }

-- its changes are these two
place_of : (i : ℕ) (x : Changed) → get_elem? to_put.changes i ≡ some x
    → ((i ≡ 0) × (x ≡ raise)) ⊎ ((i ≡ 1) × (x ≡ put_value))
place_of zero x at = inl (refl, sym (some-injective raise x at))
place_of (suc zero) x at = inr (refl, sym (some-injective put_value x at))
place_of (suc (suc i)) x at = absurd (some-ne-none x (sym at))

two_fields : (x y : Changed) → x ≡ raise → y ≡ put_value → x.field ≡ y.field → ⊥
two_fields x y is_x is_y same = let clash : ◌≡◌ {A = Field} Version Value = sym (ap (λ (u : Changed). u.field) is_x)
    ∙ (same ∙ ap (λ (u : Changed). u.field) is_y) in cc

formed : IsFormed 1 to_put
formed = record {
  few = omega arith;
  few_visits = omega arith;
  inside = each_change (λ x. ((1 ≤ x.node) × (x.node ≤ 2)) × (x.old < 2 ^ 62) × (x.new < 2 ^ 62))
      ((omega arith, omega arith), omega arith, omega arith) ((omega arith, omega arith), omega arith, omega arith);
  visited = λ x has. absurd (none_has x has);
  apart = λ i j x y at_i at_j node field. ⊎_elim
      (λ l. ⊎_elim (λ r. l.0 ∙ sym r.0) (λ r. absurd (two_fields x y l.1 r.1 field)) (place_of j y at_j))
      (λ l. ⊎_elim (λ r. absurd (two_fields y x r.1 l.1 (sym field))) (λ r. l.0 ∙ sym r.0) (place_of j y at_j))
      (place_of i x at_i);
}

nothing_seen : (at : ℕ → Cells) → Saw at 5 (exchange_of to_put)
nothing_seen at = record { visits = λ v among. absurd among; reads = λ r among. absurd among }

-- what follows from a state to which a step leads
steps : (h : History) (b' : Board) (t' : Past) (h' : History) → Leads h b' t' h' → ChangesUsed h' → StepsStayTied two b' t' h'
steps h b' t' h' led changed = steps_stay_tied two b' t' h' (omega arith) led.keeps.rule led.tied changed

serve : (h : History) (b' : Board) (t' : Past) (h' : History) → Leads h b' t' h' → ChangesUsed h' → WordsServe two b' t' h'
serve h b' t' h' led changed = words_serve two b' t' h' (omega arith) led.keeps.rule led.tied changed

-- ---- the board opens

abbrev b0 : Board
b0 = opening_board two zeros []

abbrev t0 : Past
t0 = opening_past zeros (opening_attempt []) (opening_words []) false

abbrev h0 : History
h0 = opening_history zeros 5

led0 : Leads h0 b0 t0 h0
led0 = let has : HasOpened b0 t0 zeros = openings_are_tied.usual two zeros marked in
    record { keeps = nothing_changes h0 has.rule; tied = has.tied }

-- ---- the exchange is published, as attempt 4 of the pass at seat 1

abbrev b1 : Board
b1 = with_status b0 1 (record { number = 4; stage = Undecided })

abbrev t1 : Past
t1 = with_values t0 zeros zeros (put2 t0.attempt 1 4 to_put) (put2 t0.words 1 4 (b0.word 1))

abbrev h1 : History
h1 = publish h0 257 (exchange_of to_put) 5

none_published : ChangesUsed h0
none_published x a published among = absurd published

makes_none : MayMake h0 (exchange_of to_put)
makes_none = record {
  ready = λ g is. absurd (none_not_some g is);
  apart = λ y g k u is is_k. absurd (none_not_some g is);
  unchanged = λ y g among is. absurd (none_not_some g is);
}

-- its words are of the sentinel, which is in use
touched : ChangesUsed h1
touched x a published among = ⊎_elim
    (λ here. of_first a (subst (λ (e : PathExchange). IsAmong a e.changes) (updated_here h0.op 257 (exchange_of to_put) x here) among))
    (λ other. absurd (subst IsPublished (updated_other h0.stage 257 undecided x other) published))
    (cases_eq x 257)
  where
    of_first : (a : Changed) → IsAmong a to_put.changes → IsUsed (h0.slot a.node)
    of_first a among = ⊎_elim
        (λ e. subst (λ (y : Changed). IsUsed (h0.slot y.node)) (sym e) tt)
        (λ later. ⊎_elim (λ e. subst (λ (y : Changed). IsUsed (h0.slot y.node)) (sym e) tt) (λ none'. absurd none') later) among

led1 : Leads h0 b1 t1 h1
led1 = (steps h0 b0 t0 h0 led0 none_published).publishes 1 5 to_put (omega arith) (λ o. o)
    ((serve h0 b0 t0 h0 led0 none_published).publish 1 5 to_put (omega arith) (omega arith) formed raises (nothing_seen (moments (opening_history zeros 5))) makes_none)

-- ---- an install is placed in its first word, and then its references are put

holds : (x : Changed) → Has to_put.changes x → x.old ≡ 0 → Holding 2 b1.status t1.attempt 0 x.node x.field 1 4
holds x has zero_old = record {
  owner = omega arith;
  present = refl;
  uncleared = λ i. i;
  listed = (x.old, x.new, has, zero_old, λ _. omega (arith, zero_old));
}

abbrev b2 : Board
b2 = with_word b1 1 Version (Install 0 9)

abbrev b3 : Board
b3 = with_word b2 1 Version (Exchange 1 4)

abbrev b4 : Board
b4 = with_word b3 1 Value (Exchange 1 4)

abbrev h2 : History
h2 = refer h1 1 Version None

abbrev h3 : History
h3 = refer h2 1 Version (Some 257)

abbrev h4 : History
h4 = refer h3 1 Value (Some 257)

led2 : Leads h1 b2 t1 h2
led2 = (steps h0 b1 t1 h1 led1 touched).words 1 Version (Install 0 9) t1.placing t1.course (record {
  holds = λ p a is. absurd (install_not_exchange 0 9 p a is);
  decided = λ p a is. absurd (plain_not_exchange 0 p a is);
})

-- a reference that comes is that of the attempt
comes : (n : ℕ) (f : Field) → Holding 2 b1.status t1.attempt 0 n f 1 4 → (p a : ℕ) → Exchange 1 4 ≡ Exchange p a
    → Holding 2 b1.status t1.attempt 0 n f p a
comes n f ho p a is = subst (λ (i : ℕ × ℕ). Holding 2 b1.status t1.attempt 0 n f i.0 i.1)
    (λ i. (seat_of 1 4 p a is i, number_of 1 4 p a is i)) ho

led3 : Leads h2 b3 t1 h3
led3 = (steps h1 b2 t1 h2 led2 touched).words 1 Version (Exchange 1 4) t1.placing t1.course (record {
  holds = comes 1 Version (holds raise (0, refl) refl);
  decided = λ p a is. absurd (install_not_exchange 0 9 p a is);
})

led4 : Leads h3 b4 t1 h4
led4 = (steps h2 b3 t1 h3 led3 touched).words 1 Value (Exchange 1 4) t1.placing t1.course (record {
  holds = comes 1 Value (holds put_value (1, refl) refl);
  decided = λ p a is. absurd (plain_not_exchange 0 p a is);
})

-- ---- a stamp is drawn, and the exchange succeeds

abbrev b5 : Board
b5 = with_next_stamp b4

abbrev h5 : History
h5 = draw h4 (for_exchange 257)

led5 : Leads h4 b5 t1 h5
led5 = (steps h3 b4 t1 h4 led4 touched).draws 257 ((serve h3 b4 t1 h4 led4 touched).draw 1 4 (omega arith) tt
    (λ x has _. each_change (λ y. b4.cell y.node y.field ≡ Exchange 1 4) refl refl x has))

abbrev h6 : History
h6 = commit h5 257 5

abbrev b6 : Board
b6 = with_status b5 1 (record { number = 4; stage = Succeeded 5 })

abbrev t6 : Past
t6 = with_values t1 (cells_now h6) h6.plain t1.attempt t1.words

led6 : Leads h5 b6 t6 h6
led6 = (steps h4 b5 t1 h5 led5 touched).succeeds 1 5 (cells_now h6) h6.plain (omega arith)
    ((serve h4 b5 t1 h5 led5 touched).commit 1 4 5 (omega arith) (refl, tt) (omega arith, refl) (λ v has. absurd (none_has v has))) (λ n f. refl) (λ n f. refl)

touched_then : ChangesUsed h6
touched_then x a published among = touched x a (⊎_elim
    (λ here. subst (λ (i : ℕ). IsPublished (h1.stage i)) (sym here.0) tt) (λ other. other.1)
    (from_updated h5.stage 257 (committed 5) IsPublished x published)) among

-- ---- its references are taken away, and it is cleared

abbrev b7 : Board
b7 = with_word b6 1 Version (Plain 2)

abbrev b8 : Board
b8 = with_word b7 1 Value (Plain 50)

abbrev b9 : Board
b9 = with_status b8 1 (record { number = 4; stage = Idle })

abbrev h7 : History
h7 = refer h6 1 Version None

abbrev h8 : History
h8 = refer h7 1 Value None

is_decided : (p a : ℕ) → Exchange 1 4 ≡ Exchange p a → IsUndecidedAttempt b6.status p a → ⊥
is_decided p a is u = subst (λ (i : ℕ). IsOpen (b6.status i).stage) (sym (seat_of 1 4 p a is)) u.1

led7 : Leads h6 b7 t6 h7
led7 = (steps h5 b6 t6 h6 led6 touched_then).words 1 Version (Plain 2) t1.placing t1.course (record {
  holds = λ p a is. absurd (plain_not_exchange 2 p a is);
  decided = is_decided;
})

led8 : Leads h7 b8 t6 h8
led8 = (steps h6 b7 t6 h7 led7 touched_then).words 1 Value (Plain 50) t1.placing t1.course (record {
  holds = λ p a is. absurd (plain_not_exchange 50 p a is);
  decided = is_decided;
})

led9 : Leads h8 b9 t6 h8
led9 = (steps h7 b8 t6 h8 led8 touched_then).clears 1 (λ o. o)

-- ---- what is left

the_run : run_up_to h8 ≡ record { stamp = 5; what = exchange_of to_put } ∷ []
the_run = refl

value_left : cells_after zeros (run_up_to h8) 1 Value ≡ 50
value_left = refl

plain_left : t6.plain 1 Version ≡ 2
plain_left = refl

-- by then the pass knows for ever that it succeeded, and the rule holds
in_the_end : (h8.stage 257 ≡ committed 5) × IsTied b9 t6 h8
in_the_end = (refl, led9.tied)

-- ---- boards that aren't tied

-- the reference is lost while the exchange is undecided
lost_reference : IsTied (with_word b4 1 Version (Plain 0)) t1 h4 → ⊥
lost_reference tied = none_not_some 257 (sym (tied.references 1 Version))

-- a status says success, and the history doesn't
early_success : IsTied (with_status b5 1 (record { number = 4; stage = Succeeded 5 })) t1 h5 → ⊥
early_success tied = undecided_not_committed 5 ((tied.stages 1 4 (omega arith)).present refl)

-- it is idle before it is decided
early_idle : IsTied (with_status b5 1 (record { number = 4; stage = Idle })) t1 h5 → ⊥
early_idle tied = (tied.stages 1 4 (omega arith)).present refl tt

-- a plain value isn't the one of the run
wrong_value : IsTied b6 (with_values t1 zeros zeros t1.attempt t1.words) h6 → ⊥
wrong_value tied = absurd (let fifty : 50 ≡ 0 = tied.plain 1 Value in omega arith)
