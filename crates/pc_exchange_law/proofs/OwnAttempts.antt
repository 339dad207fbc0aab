-- The descriptors stay those of the attempts at each step, and the own attempt is known after the own steps.
use Rattle.std.proofs.Common.{◌≡◌, ◌≢◌, ℕ, zero, suc, ◌+◌, ◌⊎◌, ⊎_elim, ◌==◌, if◌then◌else◌, true, false, [], ◌∷◌, refl, sym, ap, ◌∙◌, subst, arith}
use Rattle.std.proofs.lemmas.Bool.Decides.{nat_tests}
use mathlib.Core.Option.{some-ne-none}
use Rattle.pc_model.specs.Cells.{Cells}
use Rattle.pc_model.specs.Exchanges.{Exchange as PathExchange}
use Rattle.pc_words.specs.declared.status.Stage.{Stage as StatusStage}
use Rattle.pc_words.specs.declared.status.Stage.TheVariants.{Idle, Undecided, Withdrawn}
use Rattle.pc_words.specs.declared.status.Status.{Status}
use Rattle.pc_history.specs.Updates.{updated}
use Rattle.pc_history.proofs.Updates.{updated_here}
use Rattle.pc_rule_law.specs.Board.{Size, Board, put, put2}
use Rattle.pc_rule_law.specs.Past.{Attempt, Past, Describes}
use Rattle.pc_rule_law.specs.Stages.{IsIdle, IsOpen}
use Rattle.pc_rule_law.specs.Openings.{attempt_of, opening_attempt, descriptor_word}
use Rattle.pc_rule_law.proofs.Updates.{put-here, put2-here, put2-else, at_put, at_put2}
use Rattle.pc_rule_law.proofs.Stages.{open_not_idle}
use Rattle.pc_protocol.specs.Histories.{withdrawn, Stage, absent, undecided, aborted, History}
use Rattle.pc_protocol.specs.Steps.{publish}
use Rattle.pc_exchange_law.specs.Ties.{code}
use Rattle.pc_exchange_law.specs.Changes.{with_status, with_values, at_stage}
use Rattle.pc_exchange_law.specs.Attempts.{Scripts, AreScripts, OwnAttempt, OwnsAttempt}
use Rattle.pc_exchange_law.specs.AttemptSteps.{with_own_word, with_script, StepsKeepScripts, OwnStepsAreKnown}
use Rattle.pc_exchange_law.specs.AttemptSteps.{AttemptsOpen}

module _ (slots : ℕ) (b : Board) (t : Past) (w : Scripts) (scripts : AreScripts slots b t w) where
  look_scripts : (b' : Board) (t' : Past) → ((p : ℕ) → b'.status p ≡ b.status p)
      → ((p place : ℕ) → b'.word p place ≡ b.word p place) → ((p a : ℕ) → t'.attempt p a ≡ t.attempt p a)
      → AreScripts slots b' t' w
  look_scripts b' t' statuses words attempts = record {
    describe = λ p a. subst (λ (x : Attempt). Describes slots x (w p a)) (sym (attempts p a)) (scripts.describe p a);
    present = λ p busy place. words p place
        ∙ (scripts.present p (λ idle. busy (subst (λ (s : Status). IsIdle s.stage) (sym (statuses p)) idle)) place
        ∙ ap (λ (s : Status). w p s.number place) (sym (statuses p)));
  }

  store_scripts : (j place x : ℕ) → IsIdle (b.status j).stage → AreScripts slots (with_own_word b j place x) t w
  store_scripts j place x rests = record {
    describe = scripts.describe;
    present = λ p busy i. at_put2 b.word j place x
        (λ q l u. (IsIdle (b.status q).stage → ⊥) → u ≡ w q (b.status q).number l) p i
        (λ not_idle. absurd (not_idle rests))
        (λ _ not_idle. scripts.present p not_idle i)
        busy;
  }

  publish_scripts : (p : ℕ) (x : Attempt) → Describes slots x (b.word p)
      → AreScripts slots (with_status b p (record { number = (b.status p).number + 1; stage = Undecided }))
      (with_values t t.cells t.plain (put2 t.attempt p ((b.status p).number + 1) x) (put2 t.words p ((b.status p).number + 1) (b.word p)))
      (with_script w p ((b.status p).number + 1) (b.word p))
  publish_scripts p x describes = let a : ℕ = (b.status p).number + 1 in record {
    describe = λ q c. at_put2 t.attempt p a x (λ r i y. Describes slots y (put2 w p a (b.word p) r i)) q c
        (subst (Describes slots x) (sym (put2-here w p a (b.word p))) describes)
        (λ ne. subst (Describes slots (t.attempt q c)) (sym (put2-else w p a q c (b.word p) ne)) (scripts.describe q c));
    present = λ q busy place. at_put b.status p (record { number = a; stage = Undecided })
        (λ r s. (IsIdle s.stage → ⊥) → b.word r place ≡ put2 w p a (b.word p) r s.number place) q
        (λ _. sym (λ i. put2-here w p a (b.word p) i place))
        (λ ne not_idle. scripts.present q not_idle place
        ∙ sym (λ i. put2-else w p a q (b.status q).number (b.word p) (λ e _. ne e) i place))
        busy;
  }

  decide_scripts : (p : ℕ) (stage : StatusStage) (cells' plain' : Cells) → IsOpen (b.status p).stage ⊎ IsIdle stage
      → AreScripts slots (with_status b p (at_stage b p stage)) (with_values t cells' plain' t.attempt t.words) w
  decide_scripts p stage cells' plain' was = record {
    describe = scripts.describe;
    present = λ q busy place. at_put b.status p (at_stage b p stage)
        (λ r s. (IsIdle s.stage → ⊥) → b.word r place ≡ w r s.number place) q
        (λ not_idle. ⊎_elim (λ pending. scripts.present p (open_not_idle (b.status p).stage pending) place)
        (λ idle. absurd (not_idle idle)) was)
        (λ _ not_idle. scripts.present q not_idle place)
        busy;
  }

  pub steps_keep_scripts : StepsKeepScripts slots b t w
  steps_keep_scripts = record {
    looks = look_scripts;
    stores = store_scripts;
    publishes = publish_scripts;
    decides = decide_scripts;
  }

stored_word : (w : ℕ → ℕ → ℕ) (j place x l : ℕ) → put2 w j place x j l ≡ (if l == place then x else w j l)
stored_word w j place x l = grind (arith, nat_tests)

module _ (j : ℕ) (b : Board) (h : History) (o : OwnAttempt) (own : OwnsAttempt b h j o) where
  store_known : (place x : ℕ) → o.busy ≡ false
      → OwnsAttempt (with_own_word b j place x) h j (record o { words = (place, x) ∷ o.words })
  store_known place x rests = record {
    number = own.number;
    resting = own.resting;
    working = own.working;
    words = λ l. stored_word b.word j place x l
        ∙ ap (λ (u : ℕ). if l == place then x else u) (own.words l);
    kept = own.kept;
  }

  publish_known : (e : PathExchange) (c : ℕ)
      → OwnsAttempt (with_status b j (record { number = (b.status j).number + 1; stage = Undecided }))
      (publish h (code j ((b.status j).number + 1)) e c) j
      (record o { number = o.number + 1; busy = true; withdrew = false })
  publish_known e c = let a : ℕ = (b.status j).number + 1 in
      let next : Status = record { number = a; stage = Undecided } in
      let here : put b.status j next j ≡ next = put-here b.status j next in
      let same : a ≡ o.number + 1 = ap (λ (i : ℕ). i + 1) own.number in record {
        number = ap (λ (s : Status). s.number) here ∙ same;
        resting = λ no. absurd (cc);
        working = λ _ idle. subst (λ (s : Status). IsIdle s.stage) here idle;
        words = own.words;
        kept = λ _ is. absurd (let clash : undecided ≡ aborted withdrawn =
            sym (updated_here h.stage (code j a) undecided (code j (o.number + 1)) (ap (code j) (sym same))) ∙ is in cc);
      }

  decided_known : (stage : StatusStage) (st : Stage) (h' : History) → o.busy ≡ true → (IsIdle stage → ⊥)
      → ((x : ℕ) → h'.stage x ≡ updated h.stage (code j (b.status j).number) st x) → st ≢ aborted withdrawn
      → OwnsAttempt (with_status b j (at_stage b j stage)) h' j o
  decided_known stage st h' works not_idle stages not_own =
      let here : put b.status j (at_stage b j stage) j ≡ at_stage b j stage = put-here b.status j (at_stage b j stage) in
      record {
        number = ap (λ (s : Status). s.number) here ∙ own.number;
        resting = λ rests. absurd (let clash : true ≡ false = sym works ∙ rests in cc);
        working = λ _ idle. not_idle (subst (λ (s : Status). IsIdle s.stage) here idle);
        words = own.words;
        kept = λ _ is. not_own (sym (updated_here h.stage (code j (b.status j).number) st (code j o.number)
            (ap (code j) (sym own.number))) ∙ (sym (stages (code j o.number)) ∙ is));
      }

  withdrawn_known : (h' : History) → o.busy ≡ true
      → OwnsAttempt (with_status b j (at_stage b j Withdrawn)) h' j (record o { withdrew = true })
  withdrawn_known h' works =
      let here : put b.status j (at_stage b j Withdrawn) j ≡ at_stage b j Withdrawn = put-here b.status j
      (at_stage b j Withdrawn) in record {
        number = ap (λ (s : Status). s.number) here ∙ own.number;
        resting = λ rests. absurd (let clash : true ≡ false = sym works ∙ rests in cc);
        working = λ _ idle. subst (λ (s : Status). IsIdle s.stage) here idle;
        words = own.words;
        kept = λ no. absurd (cc);
      }

  cleared_known : OwnsAttempt (with_status b j (at_stage b j Idle)) h j (record o { busy = false })
  cleared_known = let here : put b.status j (at_stage b j Idle) j ≡ at_stage b j Idle = put-here b.status j
      (at_stage b j Idle) in record {
        number = ap (λ (s : Status). s.number) here ∙ own.number;
        resting = λ _. subst (λ (s : Status). IsIdle s.stage) (sym here) tt;
        working = λ no. absurd (cc);
        words = own.words;
        kept = own.kept;
      }

  pub own_steps_are_known : OwnStepsAreKnown j b h o
  own_steps_are_known = record {
    stores = store_known;
    publishes = publish_known;
    decides = decided_known;
    withdraws = withdrawn_known;
    clears = cleared_known;
  }

nothing_in : (slots : ℕ) → Describes slots (attempt_of []) (λ place. 0)
nothing_in slots = record {
  mode = refl;
  changes = refl;
  visits = refl;
  each_change = λ i x at. absurd (some-ne-none x (sym at));
  each_visit = λ i x at. absurd (some-ne-none x (sym at));
}

none_described : (slots p a : ℕ) → Describes slots (opening_attempt [] p a) (λ place. 0)
none_described slots p zero = nothing_in slots
none_described slots p (suc zero) = nothing_in slots
none_described slots p (suc (suc a)) = nothing_in slots

no_word : (place : ℕ) → descriptor_word [] place ≡ 0
no_word zero = refl
no_word (suc zero) = refl
no_word (suc (suc zero)) = refl
no_word (suc (suc (suc place))) = refl

pub attempts_open : (z : Size) (cells : Cells) → AttemptsOpen z cells
attempts_open z cells = record {
  scripts = record { describe = λ p a. none_described z.slots p a; present = λ p busy. absurd (busy tt) };
  own = λ j. record {
    number = refl;
    resting = λ _. tt;
    working = λ no. absurd (let clash : false ≡ true = no in cc);
    words = no_word;
    kept = λ _ is. absurd (let clash : absent ≡ aborted withdrawn = is in cc);
  };
}
