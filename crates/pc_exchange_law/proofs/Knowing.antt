-- What a pass knows after each kind of step is so.
use Rattle.std.proofs.Common.{◌≡◌, ℕ, ◌+◌, ◌<◌, ◌≤◌, ⊎_elim, Bool, ◌==◌, true, List, [], ◌∷◌, ◌++◌, refl, sym, ◌∙◌, subst, arith}
use Rattle.std.proofs.lemmas.Bool.{cases_lt}
use Rattle.pc_model.specs.Exchanges.{Exchange as PathExchange}
use Rattle.pc_words.specs.declared.status.Stage.{Stage as StatusStage}
use Rattle.pc_words.specs.declared.status.Stage.TheVariants.{Idle, Undecided, Succeeded, Withdrawn, Changed as ChangedNode, Locked}
use Rattle.pc_words.specs.declared.status.Status.{Status}
use Rattle.pc_rule_law.specs.Board.{Board}
use Rattle.pc_rule_law.specs.Past.{Has, Past}
use Rattle.pc_rule_law.specs.Stages.{IsIdle, IsOpen, DecidedBelow}
use Rattle.pc_rule_law.proofs.Lists.{has_first, has_later, has_left, has_right, all_both, all_none, all_one, all_more}
use Rattle.pc_rule_law.proofs.Stages.{open_or_not}
use Rattle.pc_protocol.specs.Histories.{Stage, History, IsDecided}
use Rattle.pc_protocol.specs.Rules.{Rule}
use Rattle.pc_protocol.specs.Notes.{Note, clock_was, saw, published, verdict, rival, outdated, IsTrueNote}
use Rattle.pc_protocol.specs.Seeing.{Visits}
use Rattle.pc_protocol.specs.Telling.{IsNoted}
use Rattle.pc_protocol.proofs.Loads.{loads_tell}
use Rattle.pc_protocol.proofs.Stages.{absent_not_decided, decided_not_undecided}
use Rattle.pc_exchange_law.specs.Ties.{code, last_stamp, IsStageOf, IsTied}
use Rattle.pc_exchange_law.specs.Attempts.{Scripts, AreScripts, AttemptNote, came_to, loaded_word, listed_word, calm, calm_but}
use Rattle.pc_exchange_law.specs.Attempts.{IsTrueAttemptNote}
use Rattle.pc_exchange_law.specs.ClockEnds.{ClockIsBounded}
use Rattle.pc_exchange_law.specs.Passes.{PassKnows, IsKnown}
use Rattle.pc_exchange_law.specs.Knowing.{with_more, Learns, DescriptorLoaded, StatusSeen, after_clock}
use Rattle.pc_exchange_law.proofs.ClockEnds.{clock_ends}
use Rattle.pc_exchange_law.proofs.NoteLists.{learnt, has_learnt, all_learnt, only_if, has_if_same, all_if_same, only_both, has_both_same, all_both_same}
use Rattle.pc_exchange_law.proofs.Statuses.{undecided_in_history, idle_or_not}
use Rattle.pc_exchange_law.proofs.TieTelling.{board_tells}

-- an attempt whose verdict is noted is decided by its status
pub decided_on_board : (b : Board) (t : Past) (h : History) → IsTied b t h → (p a : ℕ) (st : Stage) → p < 64
    → IsTrueNote h (verdict (code p a) st) → DecidedBelow b.status p (a + 1)
decided_on_board b t h tied p a st small noted =
    let decided : IsDecided (h.stage (code p a)) = subst IsDecided (sym noted.0) noted.1 in
    let le : a ≤ (b.status p).number = ⊎_elim
    (λ lt. absurd (absent_not_decided (h.stage (code p a)) ((tied.stages p a small).later lt) decided))
    (λ le. le)
    (cases_lt (b.status p).number a) in (
      omega arith,
      λ e o. let same : (b.status p).number ≡ a = omega arith in
          decided_not_undecided (h.stage (code p a)) decided (undecided_in_history b t h tied p a small (same, o)),
    )

module _ (slots : ℕ) (b : Board) (t : Past) (w : Scripts) (h : History) (late : ℕ → Bool) (id : ℕ) (k : PassKnows)
    (known : IsKnown b t w h late id k) where
  -- more is noted, which is true
  pub more_known : (noted : List AttemptNote) (told : List Note)
      → ((n : AttemptNote) → Has noted n → IsTrueAttemptNote b t w n) → ((n : Note) → Has told n → IsTrueNote h n)
      → IsKnown b t w h late id (with_more k noted told)
  more_known noted told true_noted true_told = record {
    own = known.own;
    ready = known.ready;
    noted = all_both (IsTrueAttemptNote b t w) noted k.noted true_noted known.noted;
    told = all_both (IsTrueNote h) told k.told true_told known.told;
  }

  pub more_learns : (noted : List AttemptNote) (told : List Note) → Learns k (with_more k noted told)
  more_learns noted told = record {
    own = refl;
    ready = refl;
    slots = refl;
    noted = λ n has. has_right noted k.noted n has;
    told = λ n has. has_right told k.told n has;
  }

  -- ---- a word of a descriptor
  loaded_by : ℕ → ℕ → ℕ → AttemptNote → List AttemptNote
  loaded_by p place x (came_to q a) = only_if (q == p) (loaded_word p a place x)
  loaded_by p place x (loaded_word q a i y) = []
  loaded_by p place x (listed_word q a i y) = []
  loaded_by p place x (calm q a n f) = []
  loaded_by p place x (calm_but q a n f r i) = []

  loaded_true : (p place : ℕ) (n : AttemptNote) → IsTrueAttemptNote b t w n → (m : AttemptNote)
      → Has (loaded_by p place (b.word p place) n) m → IsTrueAttemptNote b t w m
  unfolding loaded_by
  loaded_true p place (came_to q a) is = all_if_same (IsTrueAttemptNote b t w) q p (loaded_word p a place (b.word p place))
      (λ same. (subst (λ (r : ℕ). a ≤ (b.status r).number) same is, λ _ _. refl))
  loaded_true p place (loaded_word q a i y) is = all_none (IsTrueAttemptNote b t w)
  loaded_true p place (listed_word q a i y) is = all_none (IsTrueAttemptNote b t w)
  loaded_true p place (calm q a n f) is = all_none (IsTrueAttemptNote b t w)
  loaded_true p place (calm_but q a n f r i) is = all_none (IsTrueAttemptNote b t w)

  pub descriptor_loaded : (p place : ℕ)
      → (k' : PassKnows) × DescriptorLoaded k p place (b.word p place) k' × IsKnown b t w h late id k'
  unfolding loaded_by
  descriptor_loaded p place = let more = learnt (loaded_by p place (b.word p place)) k.noted in (
    with_more k more [],
    record {
      learns = more_learns more [];
      loads = λ a has. has_left more k.noted (loaded_word p a place (b.word p place))
          (has_learnt (loaded_by p place (b.word p place)) k.noted (came_to p a) (loaded_word p a place (b.word p place))
          has (has_if_same p p (loaded_word p a place (b.word p place)) refl));
    },
    more_known more []
        (all_learnt (IsTrueAttemptNote b t w) (loaded_by p place (b.word p place)) k.noted
        (λ n has. loaded_true p place n (known.noted n has)))
        (all_none (IsTrueNote h)),
  )

  -- ---- a status
  module _ (scripts : AreScripts slots b t w) (rule : Rule h) (tied : IsTied b t h) (p : ℕ) (small : p < 64) where
    abbrev s : Status
    s = b.status p

    settled_by : AttemptNote → List AttemptNote
    settled_by (came_to q c) = []
    settled_by (loaded_word q c place x) = only_both (q == p) (c == s.number) (listed_word p s.number place x)
    settled_by (listed_word q c i y) = []
    settled_by (calm q c n f) = []
    settled_by (calm_but q c n f r i) = []

    settled_true : (IsIdle s.stage → ⊥) → (n : AttemptNote) → IsTrueAttemptNote b t w n → (m : AttemptNote)
        → Has (settled_by n) m
        → IsTrueAttemptNote b t w m
    unfolding settled_by
    settled_true busy (came_to q c) is = all_none (IsTrueAttemptNote b t w)
    settled_true busy (loaded_word q c place x) is = all_both_same (IsTrueAttemptNote b t w) q p c s.number
        (listed_word p s.number place x)
        (λ seat number. (
          omega arith,
          sym (scripts.present p busy place) ∙ (subst (λ (i : ℕ × ℕ). (b.status i.0).number ≡ i.1
              → (IsIdle (b.status i.0).stage → ⊥) → b.word i.0 place ≡ x) (λ i. (seat i, number i)) is.1) refl busy,
        ))
    settled_true busy (listed_word q c i y) is = all_none (IsTrueAttemptNote b t w)
    settled_true busy (calm q c n f) is = all_none (IsTrueAttemptNote b t w)
    settled_true busy (calm_but q c n f r i) is = all_none (IsTrueAttemptNote b t w)

    came_here : IsTrueAttemptNote b t w (came_to p s.number)
    came_here = omega arith

    settles_here : (place x : ℕ) → Has k.noted (loaded_word p s.number place x)
        → Has (learnt settled_by k.noted) (listed_word p s.number place x)
    unfolding settled_by
    settles_here place x has = has_learnt settled_by k.noted (loaded_word p s.number place x)
        (listed_word p s.number place x) has
        (has_both_same p p s.number s.number (listed_word p s.number place x) refl refl)

    abbrev Seen : Type 0
    Seen = (k' : PassKnows) × StatusSeen k p s k' × IsKnown b t w h late id k'

    seen_idle : IsIdle s.stage → Seen
    seen_idle idle = (
      with_more k (came_to p s.number ∷ []) [],
      record {
        learns = more_learns (came_to p s.number ∷ []) [];
        came = has_first (came_to p s.number) k.noted;
        settles = λ busy. absurd (busy idle);
        decided = λ busy. absurd (busy idle);
        outdated = λ n is. absurd (subst IsIdle is idle);
        locked = λ n q is. absurd (subst IsIdle is idle);
      },
      more_known (came_to p s.number ∷ []) [] (all_one (IsTrueAttemptNote b t w) (came_to p s.number) came_here)
          (all_none (IsTrueNote h)),
    )

    seen_open : (IsIdle s.stage → ⊥) → IsOpen s.stage → Seen
    seen_open busy pending = let settled = learnt settled_by k.noted in let more = came_to p s.number ∷ settled in (
      with_more k more [],
      record {
        learns = more_learns more [];
        came = has_first (came_to p s.number) (settled ++ k.noted);
        settles = λ _ place x has. has_later (came_to p s.number) (settled ++ k.noted) (listed_word p s.number place x)
            (has_left settled k.noted (listed_word p s.number place x) (settles_here place x has));
        decided = λ _ closed. absurd (closed pending);
        outdated = λ n is. absurd (subst IsOpen is pending);
        locked = λ n q is. absurd (subst IsOpen is pending);
      },
      more_known more [] (all_more (IsTrueAttemptNote b t w) (came_to p s.number) settled came_here
          (all_learnt (IsTrueAttemptNote b t w) settled_by k.noted (λ n has. settled_true busy n (known.noted n has))))
          (all_none (IsTrueNote h)),
    )

    -- one that says which node changed, or is locked
    causes_by : StatusStage → List Note
    causes_by Idle = []
    causes_by Undecided = []
    causes_by (Succeeded i) = []
    causes_by Withdrawn = []
    causes_by (ChangedNode n) = outdated (code p s.number) n ∷ []
    causes_by (Locked n q) = rival q n (h.published_at (code p s.number)) ∷ []

    causes_true : (u : StatusStage) (st : Stage) → IsStageOf u st → IsTrueNote h (verdict (code p s.number) st) → (m : Note)
        → Has (causes_by u) m
        → IsTrueNote h m
    unfolding causes_by
    causes_true Idle st is noted = all_none (IsTrueNote h)
    causes_true Undecided st is noted = all_none (IsTrueNote h)
    causes_true (Succeeded i) st is noted = all_none (IsTrueNote h)
    causes_true Withdrawn st is noted = all_none (IsTrueNote h)
    causes_true (ChangedNode n) st is noted = all_one (IsTrueNote h) (outdated (code p s.number) n)
        ((board_tells b t h rule tied).was_outdated (code p s.number) n
        (subst (λ (u : Stage). IsTrueNote h (verdict (code p s.number) u)) is noted))
    causes_true (Locked n q) st is noted = all_one (IsTrueNote h) (rival q n (h.published_at (code p s.number)))
        ((board_tells b t h rule tied).was_locked p s.number n q small
        (subst (λ (u : Stage). IsTrueNote h (verdict (code p s.number) u)) is noted)).0

    has_outdated : (n : ℕ) → s.stage ≡ ChangedNode n → Has (causes_by s.stage) (outdated (code p s.number) n)
    unfolding causes_by
    has_outdated n is = subst (λ (u : StatusStage). Has (causes_by u) (outdated (code p s.number) n)) (sym is)
        (has_first (outdated (code p s.number) n) [])

    has_rival : (n q : ℕ) → s.stage ≡ Locked n q → Has (causes_by s.stage) (rival q n (h.published_at (code p s.number)))
    unfolding causes_by
    has_rival n q is = subst (λ (u : StatusStage). Has (causes_by u) (rival q n (h.published_at (code p s.number)))) (sym is)
        (has_first (rival q n (h.published_at (code p s.number))) [])

    seen_closed : (IsIdle s.stage → ⊥) → (IsOpen s.stage → ⊥) → Seen
    seen_closed busy closed = let settled = learnt settled_by k.noted in let more = came_to p s.number ∷ settled in
        let d = (board_tells b t h rule tied).decided p small busy closed in
        let causes = causes_by s.stage in let told = verdict (code p s.number) d.0 ∷ causes in (
          with_more k more told,
          record {
            learns = more_learns more told;
            came = has_first (came_to p s.number) (settled ++ k.noted);
            settles = λ _ place x has. has_later (came_to p s.number) (settled ++ k.noted) (listed_word p s.number place x)
                (has_left settled k.noted (listed_word p s.number place x) (settles_here place x has));
            decided = λ _ _. (d.0, d.1, has_first (verdict (code p s.number) d.0) (causes ++ k.told));
            outdated = λ n is. has_later (verdict (code p s.number) d.0) (causes ++ k.told) (outdated (code p s.number) n)
                (has_left causes k.told (outdated (code p s.number) n) (has_outdated n is));
            locked = λ n q is. let c : ℕ = h.published_at (code p s.number) in
                let cause = (board_tells b t h rule tied).was_locked p s.number n q small (subst (λ (u : Stage). IsTrueNote h (verdict (code p s.number) u))
                (subst (λ (u : StatusStage). IsStageOf u d.0) is d.1) d.2) in record {
                  other = cause.1;
                  clock = c;
                  rival = has_later (verdict (code p s.number) d.0) (causes ++ k.told) (rival q n c)
                      (has_left causes k.told (rival q n c) (has_rival n q is));
                  of = λ e b' has. let at = known.told (published (code p s.number) e b') has in
                      (sym at.2, (cause.2.0, subst (λ (o : PathExchange). Visits o n cause.2.0) at.1 cause.2.1));
                };
          },
          more_known more told (all_more (IsTrueAttemptNote b t w) (came_to p s.number) settled came_here
              (all_learnt (IsTrueAttemptNote b t w) settled_by k.noted (λ n has. settled_true busy n (known.noted n has))))
              (all_more (IsTrueNote h) (verdict (code p s.number) d.0) causes d.2 (causes_true s.stage d.0 d.1 d.2)),
        )

    pub status_seen : Seen
    status_seen = ⊎_elim seen_idle
        (λ busy. ⊎_elim (seen_open busy) (seen_closed busy) (open_or_not s.stage))
        (idle_or_not s.stage)

  -- ---- the clock
  pub clock_seen : (seats : ℕ) → ClockIsBounded seats b.clock late → Rule h → IsTied b t h → (e : PathExchange) (early : Bool)
      → IsNoted h e → (early ≡ true → b.clock < last_stamp) → IsKnown b t w h late id (after_clock k b.clock e early)
  clock_seen seats bounded rule tied e early is_noted is = record {
    own = known.own;
    ready = λ says. clock_ends.ready seats b.clock late bounded (is says) id;
    noted = known.noted;
    told = all_more (IsTrueNote h) (clock_was b.clock) (saw b.clock e ∷ k.told) (board_tells b t h rule tied).clock
        (all_more (IsTrueNote h) (saw b.clock e) k.told
        (subst (λ (c : ℕ). IsTrueNote h (saw c e)) tied.clock ((loads_tell h rule).clock e is_noted)) known.told);
  }
