-- A failure on the worked board of WorkedSteps: the pass publishes the same exchange again, which rests on the version that
-- the first one raised. So the attempt is outdated at once, and where the pass knows it, it may fail as changed.
use Rattle.std.proofs.Common.{◌≡◌, ℕ, inl, [], ◌∷◌, refl, arith}
use Rattle.pc_words.specs.declared.status.Stage.TheVariants.{Undecided, Changed as ChangedNode}
use Rattle.pc_rule_law.specs.Board.{Board, put2}
use Rattle.pc_rule_law.specs.Past.{Past}
use Rattle.pc_rule_law.specs.Views.{NoteHolds}
use Rattle.pc_rule_law.proofs.Lists.{all_none, all_one}
use Rattle.pc_protocol.specs.Histories.{changed, committed, aborted, History}
use Rattle.pc_protocol.specs.Notes.{clock_was, saw, published, drew, verdict, outdated, IsTrueNote}
use Rattle.pc_protocol.specs.Steps.{publish, abort}
use Rattle.pc_exchange_law.specs.ExchangeConditions.{was_told}
use Rattle.pc_exchange_law.specs.Ties.{exchange_of}
use Rattle.pc_exchange_law.specs.Changes.{with_status, with_values}
use Rattle.pc_exchange_law.specs.Attempts.{Scripts, IsTrueAttemptNote}
use Rattle.pc_exchange_law.specs.AttemptSteps.{with_script}
use Rattle.pc_exchange_law.specs.Passes.{PassKnows, IsKnown}
use Rattle.pc_exchange_law.specs.Paths.{read_of, new_path}
use Rattle.pc_exchange_law.specs.Knowing.{with_more, after_publication, after_decision}
use Rattle.pc_exchange_law.specs.ExchangeLaws.{Comes}
use Rattle.pc_exchange_law.proofs.ExchangeLaws.{exchange_steps_go_on}
use Rattle.pc_exchange_law.proofs.Knowing.{more_known}
use Rattle.pc_exchange_law.proofs.TieTelling.{board_tells}
use Rattle.pc_exchange_law.proofs.WorkedForms.{bare_form}
use Rattle.pc_exchange_law.proofs.WorkedOpening.{two, raise, to_raise, formed, raises, marks, touches, fits, basis, described, v0, own0, k3, k4, w4}
use Rattle.pc_exchange_law.proofs.SeenStamps.{none_above, above_more}
use Rattle.pc_exchange_law.proofs.WorkedSteps.{k6, step6, t7, h8, b9, k9, step9}

-- ---- the clock is loaded again

abbrev k9' : PassKnows
k9' = with_more k9 [] (clock_was 6 ∷ [])

known9 : IsKnown b9 t7 w4 h8 step6.0 0 k9'
known9 = more_known 1 b9 t7 w4 h8 step6.0 0 k9 step9.known [] (clock_was 6 ∷ []) (all_none (IsTrueAttemptNote b9 t7 w4))
    (all_one (IsTrueNote h8) (clock_was 6) (omega arith))

-- ---- the same exchange is published again, as attempt 5

abbrev b10 : Board
b10 = with_status b9 0 (record { number = 5; stage = Undecided })

abbrev t10 : Past
t10 = with_values t7 t7.cells t7.plain (put2 t7.attempt 0 5 to_raise) (put2 t7.words 0 5 (b9.word 0))

abbrev w10 : Scripts
w10 = with_script w4 0 5 (b9.word 0)

abbrev h10 : History
h10 = publish h8 320 (exchange_of to_raise) 6

abbrev k10 : PassKnows
k10 = after_publication k9' 320 (exchange_of to_raise) 6

step10 : Comes bare_form two 0 b9 t7 w4 h8 step6.0 b10 t10 w10 h10 step6.0 k10
step10 = (exchange_steps_go_on bare_form two 0 b9 t7 w4 h8 step6.0 v0 k9' (omega arith) step9.shared step9.world own0
    (all_none (NoteHolds two b9 t7)) known9 step9.owned).publishes new_path to_raise 6 [] (λ y among. absurd among) (record {
      rests = refl;
      room = omega arith;
      clock = (0, refl);
      above = above_more (clock_was 6) k9.told 6 (omega arith) (above_more (verdict 256 (committed 5)) k6.told 6 (omega arith)
          (above_more (drew 256 5) k4.told 6 (omega arith) (above_more (published 256 (exchange_of to_raise) 5) k3.told 6 tt
          (above_more (clock_was 5) (saw 5 (read_of new_path) ∷ []) 6 (omega arith)
          (above_more (saw 5 (read_of new_path)) [] 6 tt (none_above 6))))));
      formed = formed;
      raises = raises;
      marks = marks;
      touches = λ a among. inl (touches k9' a among);
      makes = tt;
      seen = inl (refl, (refl, refl));
      described = described;
      fits = fits;
      based = basis k9';
    })

-- ---- it is outdated, since the version isn't the old number any more

is_outdated : IsTrueNote h10 (outdated 320 1)
is_outdated = (board_tells b10 t10 h10 step10.world.rule step10.world.tied).outdates 0 5 raise (omega arith) (omega arith)
    (0, refl) (step10.world.based 320 tt) (λ s. s)
    (λ same. let clash : ◌≡◌ {A = ℕ} 2 0 = same in absurd (omega (arith, clash)))

abbrev k11 : PassKnows
k11 = with_more k10 [] (outdated 320 1 ∷ [])

knows_it : IsKnown b10 t10 w10 h10 step6.0 0 k11
knows_it = more_known 1 b10 t10 w10 h10 step6.0 0 k10 step10.known [] (outdated 320 1 ∷ [])
    (all_none (IsTrueAttemptNote b10 t10 w10)) (all_one (IsTrueNote h10) (outdated 320 1) is_outdated)

-- ---- and it fails

step11 : Comes bare_form two 0 b10 t10 w10 h10 step6.0 (with_status b10 0 (record { number = 5; stage = ChangedNode 1 })) t10 w10
    (abort h10 320 (changed 1)) step6.0 (after_decision k11 320 (aborted (changed 1)))
step11 = (exchange_steps_go_on bare_form two 0 b10 t10 w10 h10 step6.0 v0 k11 (omega arith) step10.shared step10.world own0
    (all_none (NoteHolds two b10 t10)) knows_it step10.owned).fails 0 (changed 1) (omega arith) tt (omega arith) (was_told (0, refl))
