-- The run of a tied board: its list, and that it leaves the cells, which are sound where each exchange fits.
use Rattle.std.proofs.Common.{◌≡◌, ℕ, ◌<◌, inl, inr, ⊎_elim, [], None, Some, refl, sym, ap, ◌∙◌, subst, arith}
use Rattle.pc_model.specs.declared.cell.Field.{Field}
use Rattle.pc_model.specs.Exchanges.{Exchange as PathExchange}
use Rattle.pc_model.specs.Forms.{Form, IsSound, Fits}
use Rattle.pc_words.specs.declared.status.Stage.{Stage as StatusStage}
use Rattle.pc_history.specs.Footprints.{IsAmong}
use Rattle.pc_history.specs.WorldRuns.{Stamped, cells_after, IsListOf}
use Rattle.pc_rule_law.specs.Board.{Size, Board}
use Rattle.pc_rule_law.specs.Past.{Past}
use Rattle.pc_rule_law.specs.Values.{IsPlainValue}
use Rattle.pc_rule_law.proofs.Values.{plain_value}
use Rattle.pc_protocol.specs.Histories.{committed, History, cells_now, IsPublished, IsSpare}
use Rattle.pc_protocol.specs.Rules.{Rule}
use Rattle.pc_protocol.specs.ProtocolLaws.{StandsInRun}
use Rattle.pc_protocol.proofs.Protocol.{rule_tells, cells_stay_sound}
use Rattle.pc_protocol.proofs.Stages.{none_not_some, some_same, committed_is_published}
use Rattle.pc_exchange_law.specs.Ties.{code, seat_in, number_in, IsStageOf, exchange_of, CellsAreSound, IsTied}
use Rattle.pc_exchange_law.specs.TieLaws.{run_up_to, IsOfRun, maker_of, RunTells, RunIsShown, RunLeavesSound}
use Rattle.pc_exchange_law.proofs.Codes.{seat_is_small, code_of}

module _ (b : Board) (t : Past) (h : History) (rule : Rule h) (tied : IsTied b t h) where
  is_list : IsListOf h.opening h.item h.clock (run_up_to h)
  is_list = (rule_tells h rule).world h.clock

  -- the plain values are the cells that the run leaves, but for spares
  pub plain_is_now : (n : ℕ) (f : Field) → (IsSpare (h.slot n) → ⊥) → t.plain n f ≡ cells_now h n f
  plain_is_now n f no_spare = sym (tied.plain n f) ∙ rule.plain_is n f no_spare

  leaves_cells : (n : ℕ) (f : Field) → cells_after h.opening (run_up_to h) n f ≡ t.cells n f
  leaves_cells n f = (λ i. is_list.leaves i n f) ∙ sym (tied.cells n f)

  shown_cells : (n : ℕ) (f : Field) → (IsSpare (h.slot n) → ⊥) → t.cells n f ≡ t.plain n f
  shown_cells n f no_spare = tied.cells n f ∙ sym (plain_is_now n f no_spare)

  stands_at : (p a s : ℕ) → p < 64 → h.stage (code p a) ≡ committed s
      → IsAmong (record { stamp = s; what = exchange_of (t.attempt p a) }) (run_up_to h)
  stands_at p a s small is =
      let stands = (rule_tells h rule).committed_stands (code p a) s is in
      let same : h.op (code p a) ≡ exchange_of (t.attempt p a) = tied.exchanges p a small
      (committed_is_published (h.stage (code p a)) s is) in
      is_list.all s (exchange_of (t.attempt p a)) stands.drew.0 (stands.item ∙ ap Some same)

  -- whatever took effect is an attempt of some pass
  of_number : (x : Stamped) (y : ℕ) → h.stage y ≡ committed x.stamp → x.what ≡ h.op y
      → (p : ℕ) × (a : ℕ) × (p < 64) × (h.stage (code p a) ≡ committed x.stamp) × (x.what ≡ exchange_of (t.attempt p a))
  of_number x y is what =
      let p : ℕ = seat_in y in let a : ℕ = number_in y in
      let there : h.stage (code p a) ≡ committed x.stamp = ap h.stage (code_of y) ∙ is in (
        p,
        a,
        seat_is_small y,
        there,
        what ∙ (ap h.op (sym (code_of y))
            ∙ tied.exchanges p a (seat_is_small y) (committed_is_published (h.stage (code p a)) x.stamp there)),
      )

  of_run : (x : Stamped) → IsAmong x (run_up_to h) → IsOfRun t h x
  of_run x among =
      let item : h.item x.stamp ≡ Some x.what = (is_list.only x among).1 in
      let stands : StandsInRun h x.stamp x.what = (rule_tells h rule).item_stands x.stamp x.what item in
      ⊎_elim
      (λ read. inl (read.1, read.2))
      (λ drawn. inr (of_number x drawn.0 drawn.2 drawn.3))
      stands.taken

  -- what stands at a stamp is of the exchange for which that was drawn
  made_at : (x : Stamped) (y : ℕ) → IsAmong x (run_up_to h) → maker_of (h.drawn_for x.stamp) ≡ Some y → h.stage y ≡ committed x.stamp
  made_at x y among is =
      let stands : StandsInRun h x.stamp x.what = (rule_tells h rule).item_stands x.stamp x.what (is_list.only x among).1 in
      ⊎_elim
      (λ read. absurd (none_not_some y (ap maker_of (sym read.0.1) ∙ is)))
      (λ drawn. subst (λ (z : ℕ). h.stage z ≡ committed x.stamp) (some_same drawn.0 y (ap maker_of (sym drawn.1) ∙ is)) drawn.2)
      stands.taken

  unmade_at : (x : Stamped) → IsAmong x (run_up_to h) → maker_of (h.drawn_for x.stamp) ≡ None
      → (x.what.changes ≡ []) × (x.what.fresh ≡ None)
  unmade_at x among is =
      let stands : StandsInRun h x.stamp x.what = (rule_tells h rule).item_stands x.stamp x.what (is_list.only x among).1 in
      ⊎_elim
      (λ read. (read.1, read.2))
      (λ drawn. absurd (none_not_some drawn.0 (sym is ∙ ap maker_of drawn.1)))
      stands.taken

  pub run_tells : RunTells b t h
  run_tells = record {
    world = is_list.world;
    below = λ x among. subst (λ (c : ℕ). x.stamp < c) tied.clock (is_list.only x among).0;
    before = λ x among. is_list.before x.stamp (let below = (is_list.only x among).0 in omega arith);
    each = of_run;
    made = made_at;
    unmade = unmade_at;
    maker = λ y s is. ap maker_of (rule.standing y s is).0.1;
    since = λ y s is. (rule.drawn y s (rule.standing y s is).0).1;
    leaves = leaves_cells;
    shown = shown_cells;
    item_stands = λ s e item. is_list.all s e ((rule_tells h rule).item_stands s e item).below item;
    committed_stands = stands_at;
    succeeded_stands = λ p s small is. stands_at p (b.status p).number s small
        (subst (λ (u : StatusStage). IsStageOf u (h.stage (code p (b.status p).number))) is
        ((tied.stages p (b.status p).number small).present refl));
  }

  pub run_is_shown : (form : Form) (z : Size) → RunIsShown form z b t h
  run_is_shown form z shared n f no_spare = subst (IsPlainValue b n f (b.cell n f))
      (sym (shown_cells n f no_spare) ∙ sym (leaves_cells n f)) (plain_value (CellsAreSound form) z b t shared n f)

pub run_leaves_sound : (form : Form) → RunLeavesSound form
run_leaves_sound form slots b t h charged rule tied fits sound =
    let each : (x : ℕ) → IsPublished (h.stage x) → Fits form slots (h.op x) (charged (seat_in x) (number_in x)) = λ x published.
    let back : code (seat_in x) (number_in x) ≡ x = code_of x in
    let there : IsPublished (h.stage (code (seat_in x) (number_in x))) = subst (λ (y : ℕ). IsPublished (h.stage y)) (sym back) published in
    subst (λ (e : PathExchange). Fits form slots e (charged (seat_in x) (number_in x)))
    (sym (tied.exchanges (seat_in x) (number_in x) (seat_is_small x) there) ∙ ap h.op back)
    (fits (seat_in x) (number_in x) (seat_is_small x) there) in
    subst (IsSound form slots) (λ i n f. sym (tied.cells n f) i)
    (cells_stay_sound form slots h (λ x. charged (seat_in x) (number_in x)) rule each sound h.clock)
