-- A pass's attempt is decided: it takes effect at a stamp, or fails for a cause. And a decided one is cleared, which
-- is no step of the protocol.
use Rattle.std.proofs.Common.{◌≡◌, ◌≢◌, ℕ, ◌<◌, ◌≤◌, ◌⊎◌, ⊎_elim, refl, sym, ◌∙◌, subst, arith}
use Rattle.pc_model.specs.declared.cell.Field.{Field}
use Rattle.pc_model.specs.Cells.{Cells}
use Rattle.pc_model.specs.Exchanges.{Visited, Exchange as PathExchange}
use Rattle.pc_words.specs.declared.status.Stage.{Stage as StatusStage}
use Rattle.pc_words.specs.declared.status.Stage.TheVariants.{Idle, Succeeded}
use Rattle.pc_history.specs.Footprints.{IsAmong}
use Rattle.pc_history.specs.Updates.{updated}
use Rattle.pc_history.proofs.Updates.{from_updated}
use Rattle.pc_rule_law.specs.Board.{Board, put}
use Rattle.pc_rule_law.specs.Past.{Has, Past}
use Rattle.pc_rule_law.specs.Stages.{IsOpen, IsUndecided as IsUndecidedAttempt}
use Rattle.pc_rule_law.proofs.Updates.{at_put}
use Rattle.pc_protocol.specs.Histories.{Cause, withdrawn, ended, changed, locked, Stage, committed, aborted, History, cells_now}
use Rattle.pc_protocol.specs.Histories.{IsPublished, IsUndecided}
use Rattle.pc_protocol.specs.Rules.{Rule}
use Rattle.pc_protocol.specs.Notes.{visited, drew, rival, outdated, IsTrueNote}
use Rattle.pc_protocol.specs.Seeing.{Visits, ChangesVersion, Covers}
use Rattle.pc_protocol.specs.Serving.{HasPassedByNotes}
use Rattle.pc_protocol.specs.Steps.{commit, CanCommit, abort, CanAbort}
use Rattle.pc_protocol.proofs.Stages.{undecided_is_published}
use Rattle.pc_protocol.proofs.Commits.{commit_keeps}
use Rattle.pc_protocol.proofs.Aborts.{abort_keeps}
use Rattle.pc_protocol.proofs.Serving.{notes_serve}
use Rattle.pc_exchange_law.specs.Ties.{code, last_stamp, IsStageOf, SaysOf, exchange_of, IsTied}
use Rattle.pc_exchange_law.specs.Changes.{with_status, with_values, at_stage, stage_by, Leads}
use Rattle.pc_exchange_law.proofs.ChangeLists.{among_has}
use Rattle.pc_exchange_law.proofs.Codes.{of_code}
use Rattle.pc_exchange_law.proofs.TieDraws.{nothing_changes}
use Rattle.pc_exchange_law.proofs.Statuses.{undecided_in_history, undecided_is_open, stages_moved, still_published, others_say, says_now, cause_is_told}

module _ (b : Board) (t : Past) (h : History) (tied : IsTied b t h) (p : ℕ) (small : p < 64) where
  abbrev x : ℕ
  x = code p (b.status p).number

  -- what is published after the decision was so before
  pub published_before : (st : Stage) → IsUndecided (h.stage x) → (y : ℕ) → IsPublished (updated h.stage x st y)
      → IsPublished (h.stage y)
  published_before st u y published = ⊎_elim
      (λ here. subst (λ (i : ℕ). IsPublished (h.stage i)) (sym here.0) (undecided_is_published (h.stage x) u))
      (λ other. other.1)
      (from_updated h.stage x st IsPublished y published)

  decided_stages : (stage : StatusStage) (st : Stage) → IsStageOf stage st → (q c : ℕ) → q < 64
      → SaysOf (put b.status p (at_stage b p stage) q) c (updated h.stage x st (code q c))
  decided_stages stage st is = stages_moved b t h tied p (at_stage b p stage) st small
      (says_now (at_stage b p stage) st is) (others_say b t h tied p stage small)

  module _ (s : ℕ) (cells' plain' : Cells) (can : CanCommit h x s)
      (same : (n : ℕ) (f : Field) → plain' n f ≡ (commit h x s).plain n f)
      (now : (n : ℕ) (f : Field) → cells' n f ≡ cells_now (commit h x s) n f) where
    committed_tied : IsTied (with_status b p (at_stage b p (Succeeded s))) (with_values t cells' plain' t.attempt t.words)
        (commit h x s)
    committed_tied = record {
      clock = tied.clock;
      last = tied.last;
      owners = tied.owners;
      references = tied.references;
      seated = tied.seated;
      plain = λ n f. sym (same n f);
      cells = now;
      stages = decided_stages (Succeeded s) (committed s) refl;
      published = still_published b t h tied p (Succeeded s) (committed s) tt;
      exchanges = λ q c low published. tied.exchanges q c low
          (published_before (committed s) can.undecided (code q c) published);
      uncleared = tied.uncleared;
    }

    pub success_leads : Rule h → Leads h (with_status b p (at_stage b p (Succeeded s)))
        (with_values t cells' plain' t.attempt t.words) (commit h x s)
    success_leads rule = record { keeps = commit_keeps h rule x s can; tied = committed_tied }

  module _ (cause : Cause) (can : CanAbort h x cause) where
    aborted_tied : IsTied (with_status b p (at_stage b p (stage_by cause))) t (abort h x cause)
    aborted_tied = record {
      clock = tied.clock;
      last = tied.last;
      owners = tied.owners;
      references = tied.references;
      seated = tied.seated;
      plain = tied.plain;
      cells = tied.cells;
      stages = decided_stages (stage_by cause) (aborted cause) (cause_is_told cause);
      published = still_published b t h tied p (stage_by cause) (aborted cause) tt;
      exchanges = λ q c low published. tied.exchanges q c low
          (published_before (aborted cause) can.undecided (code q c) published);
      uncleared = tied.uncleared;
    }

    pub failure_leads : Rule h → Leads h (with_status b p (at_stage b p (stage_by cause))) t (abort h x cause)
    failure_leads rule = record { keeps = abort_keeps h rule x cause can; tied = aborted_tied }

-- a status that isn't undecided becomes idle
module _ (b : Board) (t : Past) (h : History) (tied : IsTied b t h) (p : ℕ) (closed : IsOpen (b.status p).stage → ⊥) where
  abbrev cleared_board : Board
  cleared_board = with_status b p (at_stage b p Idle)

  idle_stages : (q c : ℕ) → q < 64 → SaysOf (cleared_board.status q) c (h.stage (code q c))
  idle_stages q c low = at_put b.status p (at_stage b p Idle) (λ r s. r < 64 → SaysOf s c (h.stage (code r c))) q
      (λ small. let says = tied.stages p c small in record {
        before = says.before;
        present = λ e u. closed (undecided_is_open (b.status p).stage (h.stage (code p c)) (says.present e) u);
        later = says.later;
      })
      (λ _ small. tied.stages q c small)
      low

  cleared_tied : IsTied cleared_board t h
  cleared_tied = record {
    clock = tied.clock;
    last = tied.last;
    owners = tied.owners;
    references = tied.references;
    seated = tied.seated;
    plain = tied.plain;
    cells = tied.cells;
    stages = idle_stages;
    published = λ q c y low le has. tied.published q c y low (at_put b.status p (at_stage b p Idle)
        (λ r s. c ≤ s.number → c ≤ (b.status r).number) q (λ l. l) (λ _ l. l) le) has;
    exchanges = tied.exchanges;
    uncleared = tied.uncleared;
  }

  pub clearing_leads : Rule h → Leads h cleared_board t h
  clearing_leads rule = record { keeps = nothing_changes h rule; tied = cleared_tied }

-- What a decision owes
module _ (b : Board) (t : Past) (h : History) (tied : IsTied b t h) (p a : ℕ) (small : p < 64)
    (u : IsUndecidedAttempt b.status p a) where
  undecided_there : IsUndecided (h.stage (code p a))
  undecided_there = undecided_in_history b t h tied p a small u

  is_exchange : h.op (code p a) ≡ exchange_of (t.attempt p a)
  is_exchange = tied.exchanges p a small (undecided_is_published (h.stage (code p a)) undecided_there)

  -- each visit is of a version that the attempt changes, or passed the check for the stamp
  pub may_commit : Rule h → (s : ℕ) → IsTrueNote h (drew (code p a) s)
      → ((v : Visited) → Has (t.attempt p a).visits v
      → ChangesVersion (exchange_of (t.attempt p a)) v.node v.version ⊎ HasPassedByNotes h s v)
      → CanCommit h (code p a) s
  may_commit rule s drawn checked = (notes_serve h rule).commit (code p a) s undecided_there drawn
      (subst (λ (e : PathExchange). (v : Visited) → IsAmong v e.visits → ChangesVersion e v.node v.version ⊎ HasPassedByNotes h s v)
      (sym is_exchange) (λ v among. checked v (among_has (t.attempt p a).visits v among)))

  pub may_withdraw : CanAbort h (code p a) withdrawn
  may_withdraw = record { undecided = undecided_there; cause = tt }

  pub may_end : last_stamp ≤ b.clock → CanAbort h (code p a) ended
  may_end late = record {
    undecided = undecided_there;
    cause = let same : h.clock ≡ b.clock = tied.clock in let end : h.last ≡ last_stamp = tied.last in omega arith;
  }

  pub may_fail : (n : ℕ) → IsTrueNote h (outdated (code p a) n) → CanAbort h (code p a) (changed n)
  may_fail n noted = record { undecided = undecided_there; cause = noted.1 }

  -- a greater version of a node was seen than the one that it covers
  pub may_pass : Rule h → (n v w at : ℕ) → Covers (exchange_of (t.attempt p a)) n v → IsTrueNote h (visited n w at) → v < w
      → CanAbort h (code p a) (changed n)
  may_pass rule n v w at covers seen below = (notes_serve h rule).changed_node (code p a) n v w at undecided_there
      (subst (λ (e : PathExchange). Covers e n v) (sym is_exchange) covers) seen below

  -- another pass was a rival at one of its stamps
  pub may_lock : Rule h → (n v q s : ℕ) → Visits (exchange_of (t.attempt p a)) n v → q ≢ p → IsTrueNote h (drew (code p a) s)
      → IsTrueNote h (rival q n s)
      → CanAbort h (code p a) (locked n q)
  may_lock rule n v q s covers other drawn rivals = (notes_serve h rule).locked_node (code p a) n v q s undecided_there
      (subst (λ (e : PathExchange). Visits e n v) (sym is_exchange) covers)
      (λ same. other (same ∙ (tied.owners (code p a) ∙ of_code p a small))) drawn rivals
