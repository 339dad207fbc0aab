-- What a pass knows after its own steps other than loads is so.
use Rattle.std.proofs.Common.{◌≡◌, ◌≢◌, ℕ, suc, ◌+◌, ◌<◌, ⊎_elim, Bool, true, false, [], ◌∷◌, refl, sym, ◌∙◌, subst, arith}
use Rattle.std.proofs.lemmas.Bool.{cases_eq}
use Rattle.pc_model.specs.Exchanges.{Exchange as PathExchange}
use Rattle.pc_model.specs.Forms.{Form}
use Rattle.pc_words.specs.declared.status.Stage.{Stage as StatusStage}
use Rattle.pc_words.specs.declared.status.Stage.TheVariants.{Idle, Undecided, Withdrawn}
use Rattle.pc_history.specs.Updates.{updated}
use Rattle.pc_history.proofs.Updates.{updated_here, updated_other}
use Rattle.pc_rule_law.specs.Board.{Size, Board}
use Rattle.pc_rule_law.specs.Past.{Has, Past}
use Rattle.pc_rule_law.specs.Stages.{IsIdle}
use Rattle.pc_rule_law.proofs.Lists.{all_none, all_one, all_more, none_has}
use Rattle.pc_protocol.specs.Histories.{for_exchange, for_read, withdrawn, ended, changed, locked, Stage, absent, undecided, committed, aborted, History, IsPublished, IsDecided}
use Rattle.pc_protocol.specs.Notes.{Note, clock_was, published, drew, verdict, outdated, IsTrueNote}
use Rattle.pc_protocol.specs.Steps.{draw, publish}
use Rattle.pc_protocol.proofs.Loads.{loads_tell}
use Rattle.pc_exchange_law.specs.Ties.{code}
use Rattle.pc_exchange_law.specs.Changes.{with_status, with_next_stamp, at_stage}
use Rattle.pc_exchange_law.specs.Attempts.{Scripts, OwnAttempt, OwnsAttempt}
use Rattle.pc_exchange_law.specs.AttemptSteps.{with_own_word}
use Rattle.pc_exchange_law.specs.OwnSlots.{OwnSlots, makes_one, slots_cleared, made_by}
use Rattle.pc_exchange_law.specs.Passes.{PassKnows, IsKnown}
use Rattle.pc_exchange_law.specs.Knowing.{after_own_store, after_publication, after_draw, after_refusal}
use Rattle.pc_exchange_law.specs.Knowing.{outdated_by, after_decision, after_withdrawal, after_clearing}
use Rattle.pc_exchange_law.proofs.AttemptNotes.{attempt_stays}
use Rattle.pc_exchange_law.proofs.AttemptSteps.{steps_leave_attempts}
use Rattle.pc_exchange_law.proofs.Codes.{same_seat}
use Rattle.pc_exchange_law.proofs.Knowing.{more_known}
use Rattle.pc_exchange_law.proofs.OwnAttempts.{own_steps_are_known}
use Rattle.pc_exchange_law.proofs.Passes.{noted_still, told_still}
use Rattle.pc_exchange_law.proofs.Worlds.{Goes}

-- the own attempt where a step changes no status, no own word and no stage
pub own_same : (b : Board) (h : History) (j : ℕ) (o : OwnAttempt) (b' : Board) (h' : History) → j < 64
    → ((p : ℕ) → b'.status p ≡ b.status p) → ((p place : ℕ) → b'.word p place ≡ b.word p place)
    → ((x : ℕ) → h'.stage x ≡ h.stage x) → OwnsAttempt b h j o → OwnsAttempt b' h' j o
own_same b h j o b' h' small statuses words stages own = attempt_stays (suc j) j b h b' h' o
    ((steps_leave_attempts (suc j) b h).others b' h' statuses (λ p place _. words p place) stages) small
    (λ e. absurd (omega arith)) own

-- nothing of it is said of slots
on_slots : (b : Board) (t : Past) (w : Scripts) (h : History) (late : ℕ → Bool) (j : ℕ) (k : PassKnows) (o : OwnSlots)
    → IsKnown b t w h late j k → IsKnown b t w h late j (record k { slots = o })
on_slots b t w h late j k o known = record { own = known.own; ready = known.ready; noted = known.noted; told = known.told }

module _ (form : Form) (z : Size) (id : ℕ) (b : Board) (t : Past) (w : Scripts) (h : History) (late : ℕ → Bool)
    (k : PassKnows) (known : IsKnown b t w h late id k) (seated : id < 64) where
  -- all notes stay, with the own attempt as it is afterwards
  pub goes_on : (b' : Board) (t' : Past) (w' : Scripts) (h' : History) (late' : ℕ → Bool)
      → Goes form z id b t w h late b' t' w' h' late' → (o : OwnAttempt) (r : Bool) → OwnsAttempt b' h' id o
      → (r ≡ true → late' id ≡ false)
      → IsKnown b' t' w' h' late' id (record k { own = o; ready = r })
  goes_on b' t' w' h' late' goes o r own ready = record {
    own = own;
    ready = ready;
    noted = noted_still form z id b t w h late b' t' w' h' late' goes k known.noted;
    told = told_still form z id b t w h late b' t' w' h' late' goes k known.told;
  }

  -- a step on one word of a node, or a store to the own install
  pub unchanged_known : (b' : Board) (t' : Past) (h' : History) → ((p : ℕ) → b'.status p ≡ b.status p)
      → ((p place : ℕ) → b'.word p place ≡ b.word p place) → ((x : ℕ) → h'.stage x ≡ h.stage x)
      → Goes form z id b t w h late b' t' w h' late → IsKnown b' t' w h' late id k
  unchanged_known b' t' h' statuses words stages goes = goes_on b' t' w h' late goes k.own k.ready
      (own_same b h id k.own b' h' seated statuses words stages known.own) known.ready

  -- a store to the own descriptor
  pub store_known : (place x : ℕ) → k.own.busy ≡ false
      → Goes form z id b t w h late (with_own_word b id place x) t w h late
      → IsKnown (with_own_word b id place x) t w h late id (after_own_store k place x)
  store_known place x rests goes = goes_on (with_own_word b id place x) t w h late goes
      (record k.own { words = (place, x) ∷ k.own.words }) k.ready
      ((own_steps_are_known id b h k.own known.own).stores place x rests) known.ready

  -- a publication
  pub publication_known : (b' : Board) (t' : Past) (w' : Scripts) (e : PathExchange) (c : ℕ)
      → b' ≡ with_status b id (record { number = (b.status id).number + 1; stage = Undecided })
      → Goes form z id b t w h late b' t' w' (publish h (code id ((b.status id).number + 1)) e c) late
      → let y : ℕ = code id ((b.status id).number + 1) in
      IsKnown b' t' w' (publish h y e c) late id (after_publication k y e c)
  publication_known b' t' w' e c is goes =
      let y : ℕ = code id ((b.status id).number + 1) in let h' : History = publish h y e c in
      let own : OwnAttempt = record k.own { number = k.own.number + 1; busy = true; withdrew = false } in
      let before = goes_on b' t' w' h' late goes own k.ready
      (subst (λ (u : Board). OwnsAttempt u h' id own) (sym is) ((own_steps_are_known id b h k.own known.own).publishes e c))
      known.ready in
      more_known 0 b' t' w' h' late id (record k { own = own; slots = record k.slots { named = makes_one e.fresh } }) (on_slots b' t' w' h' late id (record k { own = own }) (record k.slots { named = makes_one e.fresh }) before) [] (published y e c ∷ [])
      (λ n has. absurd (none_has n has))
      (all_one (IsTrueNote h') (published y e c) (
        subst IsPublished (sym (updated_here h.stage y undecided y refl)) tt,
        updated_here h.op y e y refl,
        updated_here h.published_at y c y refl,
      ))

  -- a draw, and one that is refused
  drawn_own : (x : ℕ) → OwnsAttempt (with_next_stamp b) (draw h (for_exchange x)) id k.own
  drawn_own x = own_same b h id k.own (with_next_stamp b) (draw h (for_exchange x)) seated (λ p. refl)
      (λ p place. refl) (λ y. refl) known.own

  pub draw_known : (x : ℕ) (late' : ℕ → Bool)
      → Goes form z id b t w h late (with_next_stamp b) t w (draw h (for_exchange x)) late'
      → IsKnown (with_next_stamp b) t w (draw h (for_exchange x)) late' id (after_draw k x h.clock)
  draw_known x late' goes =
      let before = goes_on (with_next_stamp b) t w (draw h (for_exchange x)) late' goes k.own false (drawn_own x)
      (λ no. absurd (let clash : false ≡ true = no in cc)) in
      more_known 0 (with_next_stamp b) t w (draw h (for_exchange x)) late' id (record k { ready = false }) before []
      (drew x h.clock ∷ []) (λ n has. absurd (none_has n has))
      (all_one (IsTrueNote (draw h (for_exchange x))) (drew x h.clock)
      (omega arith, updated_here h.drawn_for h.clock (for_exchange x) h.clock refl))

  pub refusal_known : (p : ℕ) (late' : ℕ → Bool)
      → Goes form z id b t w h late (with_next_stamp b) t w (draw h (for_read p)) late'
      → IsKnown (with_next_stamp b) t w (draw h (for_read p)) late' id (after_refusal k h.clock)
  refusal_known p late' goes =
      let own = own_same b h id k.own (with_next_stamp b) (draw h (for_read p)) seated (λ q. refl)
      (λ q place. refl) (λ y. refl) known.own in
      let before = goes_on (with_next_stamp b) t w (draw h (for_read p)) late' goes k.own false own
      (λ no. absurd (let clash : false ≡ true = no in cc)) in
      more_known 0 (with_next_stamp b) t w (draw h (for_read p)) late' id (record k { ready = false }) before []
      (clock_was h.clock ∷ []) (λ n has. absurd (none_has n has))
      (all_one (IsTrueNote (draw h (for_read p))) (clock_was h.clock) (omega arith))

  -- a decision, of the own attempt, but not to withdraw it, or of another's
  module _ (p : ℕ) (small : p < 64) (stage : StatusStage) (st : Stage) (t' : Past) (h' : History)
      (not_idle : IsIdle stage → ⊥) (is_decided : IsDecided st)
      (stages : (x : ℕ) → h'.stage x ≡ updated h.stage (code p (b.status p).number) st x)
      (goes : Goes form z id b t w h late (with_status b p (at_stage b p stage)) t' w h' late) where
    abbrev b' : Board
    b' = with_status b p (at_stage b p stage)

    own_decided : (p ≡ id → (k.own.busy ≡ true) × (st ≢ aborted withdrawn)) → OwnsAttempt b' h' id k.own
    own_decided mine = ⊎_elim
        (λ e. subst (λ (i : ℕ). OwnsAttempt b' h' i k.own) e
        ((own_steps_are_known p b h k.own (subst (λ (i : ℕ). OwnsAttempt b h i k.own) (sym e) known.own)).decides stage st h'
        (mine e).0 not_idle stages (mine e).1))
        (λ ne. attempt_stays p id b h b' h' k.own
        ((steps_leave_attempts p b h).own (at_stage b p stage) h' (λ j low other. stages (code j (b.status j).number)
        ∙ updated_other h.stage (code p (b.status p).number) st (code j (b.status j).number)
        (λ e. other (same_seat j (b.status j).number p (b.status p).number low small e)))) seated
        (λ e. ne (sym e)) known.own)
        (cases_eq p id)

    verdict_true : IsTrueNote h' (verdict (code p (b.status p).number) st)
    verdict_true = (
      stages (code p (b.status p).number)
          ∙ updated_here h.stage (code p (b.status p).number) st (code p (b.status p).number) refl,
      is_decided,
    )

    -- where it failed since a node changed, it is outdated there
    outdated_true : (u : Stage) → h'.stage (code p (b.status p).number) ≡ u → (m : Note)
        → Has (outdated_by (code p (b.status p).number) u) m
        → IsTrueNote h' m
    outdated_true absent is = all_none (IsTrueNote h')
    outdated_true undecided is = all_none (IsTrueNote h')
    outdated_true (committed s) is = all_none (IsTrueNote h')
    outdated_true (aborted withdrawn) is = all_none (IsTrueNote h')
    outdated_true (aborted ended) is = all_none (IsTrueNote h')
    outdated_true (aborted (changed n)) is = all_one (IsTrueNote h') (outdated (code p (b.status p).number) n)
        ((loads_tell h' goes.world.rule).outdated_told n (code p (b.status p).number) is)
    outdated_true (aborted (locked n q)) is = all_none (IsTrueNote h')

    pub decision_known : (p ≡ id → (k.own.busy ≡ true) × (st ≢ aborted withdrawn))
        → IsKnown b' t' w h' late id (after_decision k (code p (b.status p).number) st)
    decision_known mine =
        let before = goes_on b' t' w h' late goes k.own k.ready (own_decided mine) known.ready in
        more_known 0 b' t' w h' late id k before [] (verdict (code p (b.status p).number) st ∷ outdated_by (code p (b.status p).number) st)
        (λ n has. absurd (none_has n has))
        (all_more (IsTrueNote h') (verdict (code p (b.status p).number) st) (outdated_by (code p (b.status p).number) st) verdict_true
        (outdated_true st verdict_true.0))

  -- the pass withdraws its own attempt
  pub withdrawal_known : (t' : Past) (h' : History) → k.own.busy ≡ true
      → ((x : ℕ) → h'.stage x ≡ updated h.stage (code id (b.status id).number) (aborted withdrawn) x)
      → Goes form z id b t w h late (with_status b id (at_stage b id Withdrawn)) t' w h' late
      → IsKnown (with_status b id (at_stage b id Withdrawn)) t' w h' late id
      (after_withdrawal k (code id (b.status id).number) (aborted withdrawn))
  withdrawal_known t' h' works stages goes =
      let after = with_status b id (at_stage b id Withdrawn) in
      let own : OwnAttempt = record k.own { withdrew = true } in
      let before = goes_on after t' w h' late goes own k.ready
      ((own_steps_are_known id b h k.own known.own).withdraws h' works) known.ready in
      more_known 0 after t' w h' late id (record k { own = own }) before []
      (verdict (code id (b.status id).number) (aborted withdrawn) ∷ []) (λ n has. absurd (none_has n has))
      (all_one (IsTrueNote h') (verdict (code id (b.status id).number) (aborted withdrawn)) (
        stages (code id (b.status id).number)
            ∙ updated_here h.stage (code id (b.status id).number) (aborted withdrawn) (code id (b.status id).number) refl,
        tt,
      ))

  -- the own attempt is cleared
  pub clearing_known : (st : Stage) → Goes form z id b t w h late (with_status b id (at_stage b id Idle)) t w h late
      → ((m : Note) → Has (made_by st k.slots.named k.slots.spare) m → IsTrueNote h m)
      → IsKnown (with_status b id (at_stage b id Idle)) t w h late id (after_clearing k st)
  clearing_known st goes made =
      let after = with_status b id (at_stage b id Idle) in
      let own : OwnAttempt = record k.own { busy = false } in
      let before = goes_on after t w h late goes own k.ready (own_steps_are_known id b h k.own known.own).clears known.ready in
      more_known 0 after t w h late id (record k { own = own; slots = slots_cleared k.slots st })
      (on_slots after t w h late id (record k { own = own }) (slots_cleared k.slots st) before) []
      (made_by st k.slots.named k.slots.spare) (λ n has. absurd (none_has n has)) made
