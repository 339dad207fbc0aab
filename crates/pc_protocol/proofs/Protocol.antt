-- The laws of the protocol, from the rule and its steps.
use Rattle.std.proofs.Common.{◌≡◌, ℕ, inl, ⊎_elim, List, [], Some, None, refl, sym, ◌∙◌, subst}
use Rattle.std.proofs.lemmas.Bool.{cases_lt}
use Rattle.pc_model.specs.Cells.{Cells}
use Rattle.pc_model.specs.Exchanges.{Exchange, Stands}
use Rattle.pc_model.specs.Forms.{Form, IsSound, Fits}
use Rattle.pc_history.specs.Footprints.{IsWellFormed}
use Rattle.pc_history.proofs.Updates.{updated_here}
use Rattle.pc_history.proofs.Footprints.{with_changes_at, with_changes_left}
use Rattle.pc_history.proofs.SoundRuns.{runs_stay_sound}
use Rattle.pc_history.proofs.WorldRuns.{runs_are_world_runs}
use Rattle.pc_protocol.specs.Histories.{committed, History, moments}
use Rattle.pc_protocol.specs.Rules.{IsTaken, Rule}
use Rattle.pc_protocol.specs.Notes.{IsCleared}
use Rattle.pc_protocol.specs.Steps.{commit, CanCommit}
use Rattle.pc_protocol.specs.ProtocolLaws.{StepsKeepTheRule, StandsAtStamp, StandsInRun, CommitChanges, RuleTells}
use Rattle.pc_protocol.specs.ProtocolLaws.{CellsStaySound}
use Rattle.pc_protocol.proofs.Stages.{none_not_some, committed_is_published, undecided_is_published}
use Rattle.pc_protocol.proofs.Items.{on_item_map, at_item}
use Rattle.pc_protocol.proofs.Draws.{draw_keeps, read_draw_keeps}
use Rattle.pc_protocol.proofs.Publishing.{publish_keeps}
use Rattle.pc_protocol.proofs.Commits as Commits
use Rattle.pc_protocol.proofs.Commits.{commit_keeps}
use Rattle.pc_protocol.proofs.Drawn.{own_plain}
use Rattle.pc_protocol.proofs.Aborts.{abort_keeps}
use Rattle.pc_protocol.proofs.Reading.{read_keeps, changes_nothing}
use Rattle.pc_protocol.proofs.Words.{refer_keeps, fill_keeps, take_slot_keeps, clear_keeps}
use Rattle.pc_protocol.proofs.Loads.{loads_tell}
use Rattle.pc_protocol.proofs.Serving.{notes_serve}
use Rattle.pc_protocol.proofs.Bases.{bases_tell}

pub steps_keep_the_rule : (h : History) → Rule h → StepsKeepTheRule h
steps_keep_the_rule h rule = record {
  draws = draw_keeps h rule;
  read_draws = read_draw_keeps h rule;
  publishes = publish_keeps h rule;
  commits = commit_keeps h rule;
  aborts = abort_keeps h rule;
  reads = read_keeps h rule;
  refers = refer_keeps h rule;
  fills = fill_keeps h rule;
  takes_slots = take_slot_keeps h rule;
  clears = clear_keeps h rule;
}

committed_stands_at : (h : History) → Rule h → (x s : ℕ) → h.stage x ≡ committed s → StandsAtStamp h x s
committed_stands_at h rule x s is = record {
  drew = (rule.standing x s is).0;
  since = (rule.drawn x s (rule.standing x s is).0).1;
  item = (rule.standing x s is).1;
  stands = at_item (λ e. Stands e (moments h s)) (h.item s) (h.op x) (rule.standing x s is).1 (rule.run.stands s);
}

commit_changes_at : (h : History) → Rule h → (x s : ℕ) → CanCommit h x s → CommitChanges h x s
commit_changes_at h rule x s can =
    let well_formed : IsWellFormed (h.op x) = rule.well_formed x (undecided_is_published (h.stage x) can.undecided) in record {
      held = λ a among. rule.held x s a can.undecided can.drew among;
      old = own_plain h rule x s can.undecided can.drew;
      new = λ a among. with_changes_at (h.op x).changes a h.plain well_formed.once among;
      others = λ n f unchanged. with_changes_left (h.op x).changes h.plain n f unchanged;
      cells = Commits.same_now h rule x s can;
      stands = committed_stands_at (commit h x s) (commit_keeps h rule x s can).rule x s
          (updated_here h.stage x (committed s) x refl);
    }

item_stands_at : (h : History) → Rule h → (s : ℕ) (e : Exchange) → h.item s ≡ Some e → StandsInRun h s e
item_stands_at h rule s e is = record {
  below = ⊎_elim
      (λ below. below)
      (λ above. absurd (none_not_some e (sym (rule.run.late s above) ∙ is)))
      (cases_lt s h.clock);
  taken = at_item (IsTaken (h.drawn_for s) h.stage h.op s) (h.item s) e is (rule.taken s);
  stands = at_item (λ d. Stands d (moments h s)) (h.item s) e is (rule.run.stands s);
}

pub rule_tells : (h : History) → Rule h → RuleTells h
rule_tells h rule = record {
  world = runs_are_world_runs h.opening h.clock h.item rule.run;
  committed_stands = committed_stands_at h rule;
  item_stands = item_stands_at h rule;
  commit_changes = commit_changes_at h rule;
  cleared_words = λ x n f is_cleared is. subst IsCleared (rule.uncleared n f x is) is_cleared;
  cause = rule.caused;
  loads = loads_tell h rule;
  notes = notes_serve h rule;
  bases = bases_tell h rule;
}

-- a read fits any form, and charges nothing
read_fits : (form : Form) (slots : ℕ) (e : Exchange) → e.changes ≡ [] → e.fresh ≡ None → Fits form slots e []
read_fits form slots e changes fresh = record {
  leaves = λ c sound stands. subst (IsSound form slots) (sym (changes_nothing e changes fresh c)) sound;
  charges = λ c k sound stands debt. inl (subst (λ (d : Cells). form.in_debt slots d k)
      (changes_nothing e changes fresh c) debt);
}

pub cells_stay_sound : (form : Form) → CellsStaySound form
cells_stay_sound form slots h charged rule fits sound =
    runs_stay_sound form slots h.opening h.clock h.item rule.run
    (λ t. on_item_map (IsTaken (h.drawn_for t) h.stage h.op t)
    (λ e. (keys : List ℕ) × Fits form slots e keys) (h.item t)
    (λ e taken. ⊎_elim
    (λ read. ([], read_fits form slots e read.1 read.2))
    (λ drawn. (
      charged drawn.0,
      subst (λ (d : Exchange). Fits form slots d (charged drawn.0)) (sym drawn.3)
          (fits drawn.0 (committed_is_published (h.stage drawn.0) t drawn.2)),
    ))
    taken)
    (rule.taken t))
    sound
