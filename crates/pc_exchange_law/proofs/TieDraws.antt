-- Looks and stores to words of the own change nothing of which the tie speaks; a draw raises the clock by one.
use Rattle.std.proofs.Common.{ℕ, suc, ◌<◌, ◌≤◌, le_refl, sym, ap, ◌∙◌, subst}
use Rattle.pc_model.specs.Exchanges.{Exchange as PathExchange}
use Rattle.pc_words.specs.declared.status.Status.{Status}
use Rattle.pc_history.specs.Footprints.{IsAmong}
use Rattle.pc_history.specs.Runs.{after}
use Rattle.pc_rule_law.specs.Board.{Board}
use Rattle.pc_rule_law.specs.Past.{Has, Attempt, Past}
use Rattle.pc_protocol.specs.Histories.{Purpose, for_exchange, for_read, History, cells_now, IsPublished}
use Rattle.pc_protocol.specs.Rules.{Rule}
use Rattle.pc_protocol.specs.Steps.{Keeps, draw, CanDraw}
use Rattle.pc_protocol.proofs.Draws.{draw_keeps, read_draw_keeps}
use Rattle.pc_exchange_law.specs.Ties.{code, reference_in, IsSeated, SaysOf, exchange_of, IsTied}
use Rattle.pc_exchange_law.specs.Changes.{with_next_stamp, Leads, ShowsSame, HoldsAll}
use Rattle.pc_exchange_law.proofs.ChangeLists.{among_has}
use Rattle.pc_exchange_law.proofs.Statuses.{undecided_on_board}

pub nothing_changes : (h : History) → Rule h → Keeps h h
nothing_changes h rule = record { rule = rule; notes = λ k true_note. true_note }

module _ (b : Board) (t : Past) (h : History) (tied : IsTied b t h) where
  same_tied : (b' : Board) (t' : Past) → ShowsSame b t b' t' → IsTied b' t' h
  same_tied b' t' same = record {
    clock = tied.clock ∙ sym same.clock;
    last = tied.last;
    owners = tied.owners;
    references = λ n f. tied.references n f ∙ ap reference_in (sym (same.words n f));
    seated = λ n f. subst IsSeated (sym (same.words n f)) (tied.seated n f);
    plain = λ n f. tied.plain n f ∙ sym (same.plain n f);
    cells = λ n f. same.cells n f ∙ tied.cells n f;
    stages = λ p a small. subst (λ (s : Status). SaysOf s a (h.stage (code p a))) (sym (same.statuses p))
        (tied.stages p a small);
    published = λ p a x small le has. tied.published p a x small
        (subst (λ (s : Status). a ≤ s.number) (same.statuses p) le)
        (subst (λ (y : Attempt). Has y.changes x) (same.attempts p a) has);
    exchanges = λ p a small published. tied.exchanges p a small published
        ∙ ap exchange_of (sym (same.attempts p a));
    uncleared = tied.uncleared;
  }

  pub look_leads : Rule h → (b' : Board) (t' : Past) → ShowsSame b t b' t' → Leads h b' t' h
  look_leads rule b' t' same = record { keeps = nothing_changes h rule; tied = same_tied b' t' same }

  drawn_tied : Rule h → (d : Purpose) → IsTied (with_next_stamp b) t (draw h d)
  drawn_tied rule d = record {
    clock = ap (λ (c : ℕ). suc c) tied.clock;
    last = tied.last;
    owners = tied.owners;
    references = tied.references;
    seated = tied.seated;
    plain = tied.plain;
    cells = λ n f. tied.cells n f
        ∙ sym (λ i. after (rule.run.late h.clock (le_refl h.clock) i) (cells_now h) n f);
    stages = tied.stages;
    published = tied.published;
    exchanges = tied.exchanges;
    uncleared = tied.uncleared;
  }

  pub draw_leads : Rule h → (x : ℕ) → CanDraw h x → Leads h (with_next_stamp b) t (draw h (for_exchange x))
  draw_leads rule x can = record { keeps = draw_keeps h rule x can; tied = drawn_tied rule (for_exchange x) }

  pub other_draw_leads : Rule h → (p : ℕ) → Leads h (with_next_stamp b) t (draw h (for_read p))
  other_draw_leads rule p = record { keeps = read_draw_keeps h rule p; tied = drawn_tied rule (for_read p) }

  -- where each word of an attempt holds its reference while it is undecided, a stamp may be drawn for it
  pub may_draw : (p a : ℕ) → p < 64 → IsPublished (h.stage (code p a)) → HoldsAll b t p a → CanDraw h (code p a)
  may_draw p a small published held = record {
    published = published;
    held = λ x u among. tied.references x.node x.field
        ∙ ap reference_in (held x (among_has (t.attempt p a).changes x
        (subst (λ (e : PathExchange). IsAmong x e.changes) (tied.exchanges p a small published) among))
        (undecided_on_board b t h tied p a small u));
  }
