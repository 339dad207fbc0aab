-- The law of the steps of an exchange on the worked board of WorkedOpening: the exchange that was published puts its
-- reference, draws, succeeds, takes its reference away and is cleared, each time from what the pass knows. So the
-- conditions can be met.
use Rattle.std.proofs.Common.{◌≡◌, ℕ, zero, suc, ◌+◌, ◌*◌, ◌<◌, inl, inr, Bool, [], ◌∷◌, Some, None, refl, sym, subst, arith}
use Rattle.pc_model.specs.declared.cell.Field.{Field}
use Rattle.pc_model.specs.declared.cell.Field.TheVariants.{Version}
use Rattle.pc_words.specs.declared.word.WordKind.TheVariants.{Plain, Exchange}
use Rattle.pc_words.specs.declared.status.Stage.TheVariants.{Idle, Succeeded, Withdrawn}
use Rattle.pc_rule_law.specs.Board.{Board, place_number}
use Rattle.pc_rule_law.specs.Past.{Has, Past}
use Rattle.pc_rule_law.specs.Stages.{DecidedBelow}
use Rattle.pc_rule_law.specs.Views.{held, clean, View, NoteHolds, AllNotes}
use Rattle.pc_rule_law.proofs.Lists.{all_one, all_none}
use Rattle.pc_rule_law.proofs.WordKinds.{plain_not_exchange, seat_of, number_of}
use Rattle.pc_rule_law.proofs.WordMoves.{WordMoves}
use Rattle.pc_protocol.specs.Histories.{for_exchange, withdrawn, committed, aborted, History, cells_now}
use Rattle.pc_protocol.proofs.Owned.{steps_keep_owned}
use Rattle.pc_protocol.specs.Steps.{draw, commit, abort, refer}
use Rattle.pc_exchange_law.specs.Ties.{exchange_of}
use Rattle.pc_exchange_law.specs.Changes.{with_word, with_status, with_next_stamp, with_values}
use Rattle.pc_exchange_law.specs.TieLaws.{run_up_to}
use Rattle.pc_exchange_law.specs.Attempts.{KnowsWord, KnowsEntry}
use Rattle.pc_exchange_law.specs.Paths.{new_path}
use Rattle.pc_exchange_law.specs.Passes.{PassKnows}
use Rattle.pc_exchange_law.specs.Knowing.{after_draw, after_decision, after_withdrawal, after_clearing}
use Rattle.pc_exchange_law.specs.ExchangeConditions.{KnowsCleared}
use Rattle.pc_exchange_law.specs.ExchangeLaws.{Comes}
use Rattle.pc_exchange_law.proofs.ExchangeLaws.{comes}
use Rattle.pc_exchange_law.proofs.OwnSlots.{same_slots}
use Rattle.pc_exchange_law.proofs.KnowingSteps.{unchanged_known}
use Rattle.pc_exchange_law.proofs.Worlds.{Goes, word_goes}
use Rattle.pc_exchange_law.proofs.WorkedForms.{bare_form}
use Rattle.pc_exchange_law.proofs.WorkedOpening.{two, to_raise, none_late, v0, own0, steps, owns, b4, t4, w4, h4, k4, step4}

-- ---- its reference comes into the word

abbrev pub b5 : Board
b5 = with_word b4 1 Version (Exchange 0 4)

abbrev pub h5 : History
h5 = refer h4 1 Version (Some 256)

comes_in : WordMoves two b4 t4 0 1 Version (Exchange 0 4) t4.placing t4.course
comes_in = record {
  in_range = (omega arith, omega arith);
  here = record {
    owner = omega arith;
    present = refl;
    uncleared = λ i. i;
    listed = (0, 2, (0, refl), refl, λ _. omega arith);
  };
  each = λ q i. inl (refl, refl, λ one. absurd (let no : 0 ≡ 1 = one in omega arith));
  decided = λ p a is. absurd (plain_not_exchange 0 p a is);
  unclean = λ p a is over _. (subst (λ (i : ℕ × ℕ). DecidedBelow b4.status i.0 (i.1 + 1))
      (λ i. (sym (seat_of 0 4 p a is) i, sym (number_of 0 4 p a is) i)) over).1 refl tt;
}

step5 : Comes bare_form two 0 b4 t4 w4 h4 none_late b5 t4 w4 h5 none_late k4
step5 =
    let goes : Goes bare_form two 0 b4 t4 w4 h4 none_late b5 t4 w4 h5 none_late = word_goes bare_form two 0 b4 t4 w4 h4
    none_late (omega arith) step4.shared step4.world 1 Version (Exchange 0 4) t4.placing t4.course tt comes_in in
    comes bare_form two 0 b4 t4 w4 h4 none_late b5 t4 w4 h5 none_late k4 (
      goes,
      unchanged_known bare_form two 0 b4 t4 w4 h4 none_late k4 step4.known (omega arith) b5 t4 h5 (λ p. refl)
          (λ p place. refl) (λ x. refl) goes,
    ) (let kept = (steps_keep_owned h4 step4.world.rule).refers 1 Version (Some 256) in
    same_slots two h4 h5 0 k4.own k4.slots step4.owned kept.spares kept.filled refl refl refl refl)

-- ---- here it might be withdrawn as well

step6' : Comes bare_form two 0 b5 t4 w4 h5 none_late (with_status b5 0 (record { number = 4; stage = Withdrawn })) t4 w4
    (abort h5 256 withdrawn) none_late (after_withdrawal k4 256 (aborted withdrawn))
step6' = (steps b4 t4 w4 h4 none_late b5 t4 w4 h5 none_late k4 v0 step5 own0 (all_none (NoteHolds two b5 t4))).withdraws tt

-- ---- a stamp is drawn: each word is known, and noted as held

place_at : (i : ℕ) → i < 1 → (n : ℕ) × (f : Field) × KnowsWord [] 0 k4.own 0 4 (3 + 3 * i) (place_number n f)
place_at zero lt = (1, Version, inr (refl, refl, refl, refl))
place_at (suc i) lt = absurd (omega arith)

abbrev v5 : View
v5 = record v0 { notes = held 0 4 1 Version ∷ [] }

noted5 : AllNotes (NoteHolds two b5 t4) v5.notes
noted5 = all_one (NoteHolds two b5 t4) (held 0 4 1 Version) (
  (omega arith, (λ _. refl), (0, 2, (0, refl), λ _. omega arith)),
  ((omega arith, omega arith), (omega arith, omega arith)),
)

abbrev pub b6 : Board
b6 = with_next_stamp b5

abbrev pub h6 : History
h6 = draw h5 (for_exchange 256)

abbrev pub k6 : PassKnows
k6 = after_draw k4 256 5

pub step6 : (late' : ℕ → Bool) × Comes bare_form two 0 b5 t4 w4 h5 none_late b6 t4 w4 h6 late' k6
unfolding place_at
step6 = (steps b4 t4 w4 h4 none_late b5 t4 w4 h5 none_late k4 v5 step5 (owns v5 refl) noted5).draws 0 4 (record {
  ready = refl;
  met = (1, Version, (0, refl));
  places = record { count = 1; counted = inr (refl, refl, refl, refl); each = place_at };
  each = held_at;
})
  where
    held_at : (i : ℕ) (below : i < 1) → Has v5.notes (held 0 4 (place_at i below).0 (place_at i below).1)
    held_at zero below = (0, refl)
    held_at (suc i) below = absurd (omega arith)

-- ---- it succeeds

abbrev pub h7 : History
h7 = commit h6 256 5

abbrev pub b7 : Board
b7 = with_status b6 0 (record { number = 4; stage = Succeeded 5 })

abbrev pub t7 : Past
t7 = with_values t4 (cells_now h7) h7.plain t4.attempt t4.words

abbrev pub k7 : PassKnows
k7 = after_decision k6 256 (committed 5)

step7 : Comes bare_form two 0 b6 t4 w4 h6 step6.0 b7 t7 w4 h7 step6.0 k7
step7 = (steps b5 t4 w4 h5 none_late b6 t4 w4 h6 step6.0 k6 v0 step6.1 own0 (all_none (NoteHolds two b6 t4))).succeeds 0 5
    (omega arith) tt (record { drawn = (0, refl); low = omega arith; checked = record { count = 0; counted = inr (refl, refl, refl, refl); each = λ i lt. absurd (omega arith) } })

-- ---- the new number takes the place of the reference

abbrev pub b8 : Board
b8 = with_word b7 1 Version (Plain 2)

abbrev pub h8 : History
h8 = refer h7 1 Version None

own_entry : KnowsEntry [] 0 k7.own 0 4 0 1 Version 0 2
own_entry = record {
  count = 1;
  counted = inr (refl, refl, refl, refl);
  below = omega arith;
  place = inr (refl, refl, refl, refl);
  old_word = inr (refl, refl, refl, refl);
  new_word = inr (refl, refl, refl, refl);
}

pub step8 : Comes bare_form two 0 b7 t7 w4 h7 step6.0 b8 t7 w4 h8 step6.0 k7
step8 = (steps b6 t4 w4 h6 step6.0 b7 t7 w4 h7 step6.0 k7 v0 step7 own0 (all_none (NoteHolds two b7 t7))).takes 0 4 1 Version 2
    refl (omega arith) (record {
      entry = 0;
      old = 0;
      new = 2;
      stage = committed 5;
      known = own_entry;
      decided = (0, refl);
      worth = refl;
    })

-- ---- and it is cleared

abbrev pub b9 : Board
b9 = with_status b8 0 (record { number = 4; stage = Idle })

abbrev pub k9 : PassKnows
k9 = after_clearing k7 (committed 5)

abbrev v8 : View
v8 = record v0 { notes = clean 0 4 1 Version ∷ [] }

noted8 : AllNotes (NoteHolds two b8 t7) v8.notes
noted8 = all_one (NoteHolds two b8 t7) (clean 0 4 1 Version) (
  ((omega arith, (λ _ o. o)), tt),
  ((omega arith, omega arith), (omega arith, omega arith)),
)

clean_at : (i : ℕ) (below : i < 1) → Has v8.notes (clean 0 4 (place_at i below).0 (place_at i below).1)
unfolding place_at
clean_at zero below = (0, refl)
clean_at (suc i) below = absurd (omega arith)

-- the pass knows by now that it is gone from all words
gone_by_now : KnowsCleared (record { view = v8; knows = k7; aim = (0, 4); path = new_path; taken = [] }) 0 4
gone_by_now = record {
  places = record { count = 1; counted = inr (refl, refl, refl, refl); each = place_at };
  each = clean_at;
}

pub step9 : Comes bare_form two 0 b8 t7 w4 h8 step6.0 b9 t7 w4 h8 step6.0 k9
unfolding place_at
step9 = (steps b7 t7 w4 h7 step6.0 b8 t7 w4 h8 step6.0 k7 v8 step8 (owns v8 refl) noted8).clears (committed 5) (0, refl) (record {
  stage = committed 5;
  decided = (0, refl);
  places = record { count = 1; counted = inr (refl, refl, refl, refl); each = place_at };
  each = clean_at;
})

the_run : run_up_to h8 ≡ record { stamp = 5; what = exchange_of to_raise } ∷ []
the_run = refl

version_left : t7.plain 1 Version ≡ 2
version_left = refl
