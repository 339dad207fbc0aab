-- Each kind of step takes nothing back of attempts, and leaves those of other passes.
use Rattle.std.proofs.Common.{◌≡◌, ◌≢◌, ℕ, ◌+◌, ◌<◌, ◌≤◌, ⊎_elim, refl, sym, ap, ◌∙◌, subst, arith}
use Rattle.pc_model.specs.declared.cell.Field.{Field}
use Rattle.pc_words.specs.declared.word.WordKind.{WordKind}
use Rattle.pc_words.specs.declared.word.WordKind.TheVariants.{Install}
use Rattle.pc_words.specs.declared.status.Stage.{Stage as StatusStage}
use Rattle.pc_words.specs.declared.status.Status.{Status}
use Rattle.pc_history.specs.Updates.{updated}
use Rattle.pc_history.proofs.Updates.{from_updated}
use Rattle.pc_rule_law.specs.Board.{Board}
use Rattle.pc_rule_law.specs.Past.{Placing, Past}
use Rattle.pc_rule_law.specs.Stages.{IsIdle, IsOpen, IsUndecided, DecidedBelow}
use Rattle.pc_rule_law.proofs.Updates.{put-else, at_put, at_put2, at_put_cell}
use Rattle.pc_rule_law.proofs.Stages.{open_not_idle, decided_not_undecided}
use Rattle.pc_protocol.specs.Histories.{withdrawn, Stage, aborted, History}
use Rattle.pc_exchange_law.specs.Ties.{code}
use Rattle.pc_exchange_law.specs.Changes.{with_word, with_status, with_installs, at_stage}
use Rattle.pc_exchange_law.specs.Attempts.{Scripts, IsEarlyFor}
use Rattle.pc_exchange_law.specs.AttemptLaws.{AttemptsGrow, LeavesAttempts}
use Rattle.pc_exchange_law.specs.AttemptSteps.{with_own_word, KeepsAttempts, BringsInstalls, MovesStatus}
use Rattle.pc_exchange_law.specs.AttemptSteps.{StepsKeepAttempts, StepsLeaveAttempts}

module _ (b : Board) (t : Past) (w : Scripts) where
  look_keeps : (b' : Board) (t' : Past) → KeepsAttempts b t b' t' → AttemptsGrow b t w b' t' w
  look_keeps b' t' keeps = record {
    numbers = λ p. let same : (b'.status p).number ≡ (b.status p).number = number_same p in omega arith;
    decisions = λ p m d. subst (λ (s : Status). (m ≤ s.number + 1) × (m ≡ s.number + 1 → IsOpen s.stage → ⊥))
        (sym (keeps.statuses p)) d;
    scripts = λ p a place le. refl;
    words = λ p same busy. (
      (λ idle. busy (subst (λ (s : Status). IsIdle s.stage) (sym (keeps.statuses p)) idle)),
      λ place. keeps.words p place,
    );
    calms = λ p a n f q k d is early. (
      sym (keeps.cells n f) ∙ is,
      subst (λ (x : Placing). IsEarlyFor x p a) (keeps.placings q k) early,
    );
  }
    where
      number_same : (p : ℕ) → (b'.status p).number ≡ (b.status p).number
      number_same p = ap (λ (s : Status). s.number) (keeps.statuses p)

  word_keeps : (n : ℕ) (f : Field) (c : WordKind) (placing' : ℕ → ℕ → Placing) (course' : ℕ → ℕ → ℕ)
      → BringsInstalls b t c placing'
      → AttemptsGrow b t w (with_word b n f c) (with_installs t placing' course') w
  word_keeps n f c placing' course' brings = record {
    numbers = λ p. omega arith;
    decisions = λ p m d. d;
    scripts = λ p a place le. refl;
    words = λ p same busy. (busy, λ place. refl);
    calms = λ p a m g q k d is early. at_put_cell b.cell n f c
        (λ i l u. u ≡ Install q k → (b.cell i l ≡ Install q k) × IsEarlyFor (t.placing q k) p a) m g
        (λ here. absurd (decided_not_undecided b.status p a (a + 1) d (omega arith)
        (subst (λ (i : ℕ × ℕ). IsUndecided b.status i.0 i.1) (λ i. (early.0 i, early.1 i))
        (brings.comes q k here early.2))))
        (λ _ there. (
          there,
          subst (λ (x : Placing). IsEarlyFor x p a) (brings.placings q k (brings.placed m g q k there)) early,
        ))
        is;
  }

  store_keeps : (id place x : ℕ) → IsIdle (b.status id).stage → AttemptsGrow b t w (with_own_word b id place x) t w
  store_keeps id place x rests = record {
    numbers = λ p. omega arith;
    decisions = λ p m d. d;
    scripts = λ p a i le. refl;
    words = λ p same busy. (
      busy,
      λ i. at_put2 b.word id place x
          (λ j l u. (IsIdle (b.status j).stage → ⊥) → u ≡ b.word j l) p i
          (λ not_idle. absurd (not_idle rests))
          (λ _ _. refl)
          busy,
    );
    calms = λ p a n f q k d is early. (is, early);
  }

  status_keeps : (p : ℕ) (s : Status) (t' : Past) (w' : Scripts) → MovesStatus b p s
      → ((q k : ℕ) → t'.placing q k ≡ t.placing q k)
      → ((q a place : ℕ) → a ≤ (b.status q).number → w' q a place ≡ w q a place)
      → AttemptsGrow b t w (with_status b p s) t' w'
  status_keeps p s t' w' moves placings scripts = record {
    numbers = λ q. at_put b.status p s (λ r u. (b.status r).number ≤ u.number) q moves.number (λ _. omega arith);
    decisions = λ q m. at_put b.status p s (λ r u. DecidedBelow b.status r m
        → (m ≤ u.number + 1) × (m ≡ u.number + 1 → IsOpen u.stage → ⊥)) q
        (λ d. let le = moves.number in let was = d.0 in (
          omega arith,
          λ e o. let same : s.number ≡ (b.status p).number = omega arith in d.1 (omega arith) (moves.once same o),
        ))
        (λ _ d. d);
    scripts = λ q a place le. scripts q a place le;
    words = λ q same busy. (
      at_put b.status p s (λ r u. u.number ≡ (b.status r).number → (IsIdle u.stage → ⊥)
          → IsIdle (b.status r).stage → ⊥) q moves.busy (λ _ _ not_idle. not_idle) same busy,
      λ place. refl,
    );
    calms = λ q a n f r k d is early. (is, subst (λ (x : Placing). IsEarlyFor x q a) (placings r k) early);
  }

module _ (id : ℕ) (b : Board) (h : History) where
  others_leave : (b' : Board) (h' : History) → ((p : ℕ) → b'.status p ≡ b.status p)
      → ((j place : ℕ) → j ≢ id → b'.word j place ≡ b.word j place) → ((x : ℕ) → h'.stage x ≡ h.stage x)
      → LeavesAttempts id b h b' h'
  others_leave b' h' statuses words stages = record {
    numbers = λ j ne. ap (λ (u : Status). u.number) (statuses j);
    resting = λ j ne idle. subst (λ (u : Status). IsIdle u.stage) (sym (statuses j)) idle;
    working = λ j ne idle. subst (λ (u : Status). IsIdle u.stage) (statuses j) idle;
    words = λ j place ne. words j place ne;
    kept = λ j small ne is. sym (stages (code j (b.status j).number)) ∙ is;
  }

  own_leaves : (s : Status) (h' : History)
      → ((j : ℕ) → j < 64 → j ≢ id → h'.stage (code j (b.status j).number) ≡ h.stage (code j (b.status j).number))
      → LeavesAttempts id b h (with_status b id s) h'
  own_leaves s h' stages = record {
    numbers = λ j ne. ap (λ (u : Status). u.number) (put-else b.status id j s ne);
    resting = λ j ne idle. subst (λ (u : Status). IsIdle u.stage) (sym (put-else b.status id j s ne)) idle;
    working = λ j ne idle. subst (λ (u : Status). IsIdle u.stage) (put-else b.status id j s ne) idle;
    words = λ j place ne. refl;
    kept = λ j small ne is. sym (stages j small ne) ∙ is;
  }

  decided_leaves : (p : ℕ) (stage : StatusStage) (st : Stage) (h' : History) → IsOpen (b.status p).stage
      → (IsIdle stage → ⊥) → st ≢ aborted withdrawn
      → ((x : ℕ) → h'.stage x ≡ updated h.stage (code p (b.status p).number) st x)
      → LeavesAttempts id b h (with_status b p (at_stage b p stage)) h'
  decided_leaves p stage st h' pending busy not_own stages = record {
    numbers = λ j ne. at_put b.status p (at_stage b p stage) (λ r u. u.number ≡ (b.status r).number) j refl (λ _. refl);
    resting = λ j ne. at_put b.status p (at_stage b p stage) (λ r u. IsIdle (b.status r).stage → IsIdle u.stage) j
        (λ idle. absurd (open_not_idle (b.status p).stage pending idle)) (λ _ idle. idle);
    working = λ j ne. at_put b.status p (at_stage b p stage) (λ r u. IsIdle u.stage → IsIdle (b.status r).stage) j
        (λ idle. absurd (busy idle)) (λ _ idle. idle);
    words = λ j place ne. refl;
    kept = λ j small ne is. ⊎_elim (λ here. absurd (not_own here.1)) (λ other. other.1)
        (from_updated h.stage (code p (b.status p).number) st (λ (u : Stage). u ≡ aborted withdrawn)
        (code j (b.status j).number) (sym (stages (code j (b.status j).number)) ∙ is));
  }

pub steps_keep_attempts : (b : Board) (t : Past) (w : Scripts) → StepsKeepAttempts b t w
steps_keep_attempts b t w = record {
  looks = look_keeps b t w;
  words = word_keeps b t w;
  stores = store_keeps b t w;
  statuses = status_keeps b t w;
}

pub steps_leave_attempts : (id : ℕ) (b : Board) (h : History) → StepsLeaveAttempts id b h
steps_leave_attempts id b h = record {
  others = others_leave id b h;
  own = own_leaves id b h;
  decided = decided_leaves id b h;
}
