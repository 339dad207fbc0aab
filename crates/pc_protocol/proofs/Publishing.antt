-- A publication keeps the rule and every note: no stamp was drawn for the exchange yet, and no word refers to it.
use Rattle.std.proofs.Common.{◌≡◌, ◌≢◌, ℕ, ◌<◌, ◌≤◌, inl, inr, ⊎_elim, Some, None, refl, sym, ap, ◌∙◌, subst}
use Rattle.std.proofs.Common.{le_refl}
use Rattle.std.proofs.lemmas.Bool.{cases_eq}
use Rattle.pc_model.specs.declared.cell.Field.TheVariants.{Version}
use Rattle.pc_model.specs.Exchanges.{Changed, FreshNode, Exchange}
use Rattle.pc_history.specs.Footprints.{IsAmong, WritesMiss, IsWellFormed}
use Rattle.pc_history.specs.Runs.{OnItem}
use Rattle.pc_history.proofs.Moments.{versions_never_fall}
use Rattle.pc_history.proofs.Updates.{updated_here, updated_other, on_updated, from_updated}
use Rattle.pc_protocol.specs.Histories.{Cause, Stage, undecided, committed, aborted, History, moments, cells_now}
use Rattle.pc_protocol.specs.Histories.{IsPublished}
use Rattle.pc_protocol.specs.Histories.{IsUndecided, IsDecided, value_by, Drew}
use Rattle.pc_protocol.specs.Seeing.{Saw}
use Rattle.pc_protocol.specs.Rules.{IsTaken, IsReady, IsCause, Rule}
use Rattle.pc_protocol.specs.Steps.{Keeps, publish, CanPublish}
use Rattle.pc_protocol.proofs.Stages.{absent_not_published, absent_not_decided, committed_is_published, decided_is_published}
use Rattle.pc_protocol.proofs.Stages.{aborted_is_published}
use Rattle.pc_protocol.proofs.Items.{on_item_map, refers_stays}
use Rattle.pc_protocol.proofs.Notes.{Grows, cause_stays, notes_stay, looked_stays}

module _ (h : History) (rule : Rule h) (x : ℕ) (e : Exchange) (b : ℕ) (can : CanPublish h x e b) where
  abbrev h' : History
  h' = publish h x e b

  is_other : (y : ℕ) → IsPublished (h.stage y) → y ≢ x
  is_other y p same = absent_not_published (h.stage x) can.is_new (subst (λ (z : ℕ). IsPublished (h.stage z)) same p)

  stage_other : (y : ℕ) → y ≢ x → h'.stage y ≡ h.stage y
  stage_other y ne = updated_other h.stage x undecided y ne

  op_other : (y : ℕ) → y ≢ x → h'.op y ≡ h.op y
  op_other y ne = updated_other h.op x e y ne

  op_here : (y : ℕ) → y ≡ x → h'.op y ≡ e
  op_here y same = updated_here h.op x e y same

  time_other : (y : ℕ) → y ≢ x → h'.published_at y ≡ h.published_at y
  time_other y ne = updated_other h.published_at x b y ne

  still_published : (y : ℕ) → IsPublished (h.stage y) → IsPublished (h'.stage y)
  still_published y p = subst IsPublished (sym (stage_other y (is_other y p))) p

  same_op : (y : ℕ) → IsPublished (h.stage y) → h'.op y ≡ h.op y
  same_op y p = op_other y (is_other y p)

  was_undecided : (y : ℕ) → y ≢ x → IsUndecided (h'.stage y) → IsUndecided (h.stage y)
  was_undecided y ne u = subst IsUndecided (stage_other y ne) u

  was_published : (y : ℕ) → y ≢ x → IsPublished (h'.stage y) → IsPublished (h.stage y)
  was_published y ne p = subst IsPublished (stage_other y ne) p

  same_value : (y old new : ℕ) → IsPublished (h.stage y) → value_by (h'.stage y) old new ≡ value_by (h.stage y) old new
  same_value y old new p = ap (λ (st : Stage). value_by st old new) (stage_other y (is_other y p))

  taken_still : (t : ℕ) (d : Exchange) → IsTaken (h.drawn_for t) h.stage h.op t d
      → IsTaken (h.drawn_for t) h'.stage h'.op t d
  taken_still t d taken = ⊎_elim
      (λ read. inl read)
      (λ drawn. let p : IsPublished (h.stage drawn.0) = committed_is_published (h.stage drawn.0) t drawn.2 in
      inr (drawn.0, drawn.1, stage_other drawn.0 (is_other drawn.0 p) ∙ drawn.2, drawn.3 ∙ sym (same_op drawn.0 p)))
      taken

  standing_still : (y t : ℕ) → h'.stage y ≡ committed t
      → Drew h.clock h.drawn_for t y × (h.item t ≡ Some (h'.op y))
  standing_still y t is = ⊎_elim
      (λ here. absurd (let clash : undecided ≡ committed t = here.1 in cc))
      (λ other. ((rule.standing y t other.1).0, (rule.standing y t other.1).1 ∙ ap Some (sym (op_other y other.0))))
      (from_updated h.stage x undecided (λ (st : Stage). st ≡ committed t) y is)

  past_still : (y : ℕ) → IsPublished (h'.stage y) → h'.published_at y ≤ h.clock
  past_still y p = on_updated h.published_at x b (λ (t : ℕ). t ≤ h.clock) y
      (λ same. can.past)
      (λ ne. rule.past y (was_published y ne p))

  drawn_still : (y t : ℕ) → Drew h.clock h.drawn_for t y → IsPublished (h'.stage y) × (h'.published_at y ≤ t)
  drawn_still y t drew =
      let was : IsPublished (h.stage y) × (h.published_at y ≤ t) = rule.drawn y t drew in (
        still_published y was.0,
        subst (λ (c : ℕ). c ≤ t) (sym (time_other y (is_other y was.0))) was.1,
      )

  held_still : (y t : ℕ) (a : Changed) → IsUndecided (h'.stage y) → Drew h.clock h.drawn_for t y
      → IsAmong a (h'.op y).changes → h.reference a.node a.field ≡ Some y
  held_still y t a u drew among =
      let p : IsPublished (h.stage y) = (rule.drawn y t drew).0 in
      rule.held y t a (was_undecided y (is_other y p) u) drew
      (subst (λ (d : Exchange). IsAmong a d.changes) (same_op y p) among)

  misses_still : (y t v : ℕ) → IsUndecided (h'.stage y) → Drew h.clock h.drawn_for t y → t < v
      → OnItem (WritesMiss (h'.op y)) (h.item v)
  misses_still y t v u drew lt =
      let p : IsPublished (h.stage y) = (rule.drawn y t drew).0 in
      subst (λ (d : Exchange). OnItem (WritesMiss d) (h.item v)) (sym (same_op y p))
      (rule.misses y t v (was_undecided y (is_other y p) u) drew lt)

  well_formed_still : (y : ℕ) → IsPublished (h'.stage y) → IsWellFormed (h'.op y)
  well_formed_still y p = on_updated h.op x e IsWellFormed y
      (λ same. can.well_formed)
      (λ ne. rule.well_formed y (was_published y ne p))

  fresh_still : (y : ℕ) (g : FreshNode) → IsUndecided (h'.stage y) → (h'.op y).fresh ≡ Some g
      → IsReady (cells_now h) h.plain h.slot g
  fresh_still y g u is = ⊎_elim
      (λ here. can.fresh g here.1)
      (λ other. rule.fresh y g (was_undecided y other.0 u) other.1)
      (from_updated h.op x e (λ (d : Exchange). d.fresh ≡ Some g) y is)

  apart_still : (y z : ℕ) (g k : FreshNode) → y ≢ z → IsUndecided (h'.stage y) → IsUndecided (h'.stage z)
      → (h'.op y).fresh ≡ Some g → (h'.op z).fresh ≡ Some k → g.node ≢ k.node
  apart_still y z g k ne u v is_g is_k = ⊎_elim
      (λ here_y. ⊎_elim
      (λ here_z. absurd (ne (here_y.0 ∙ sym here_z.0)))
      (λ other_z. can.apart z g k (was_undecided z other_z.0 v) here_y.1 other_z.1)
      (from_updated h.op x e (λ (d : Exchange). d.fresh ≡ Some k) z is_k))
      (λ other_y. ⊎_elim
      (λ here_z. λ same. can.apart y k g (was_undecided y other_y.0 u) here_z.1 other_y.1 (sym same))
      (λ other_z. rule.apart y z g k ne (was_undecided y other_y.0 u) (was_undecided z other_z.0 v) other_y.1
      other_z.1)
      (from_updated h.op x e (λ (d : Exchange). d.fresh ≡ Some k) z is_k))
      (from_updated h.op x e (λ (d : Exchange). d.fresh ≡ Some g) y is_g)

  saw_still : (y : ℕ) → IsUndecided (h'.stage y) → Saw (moments h) (h'.published_at y) (h'.op y)
  saw_still y u = ⊎_elim
      (λ same. subst (λ (t : ℕ). Saw (moments h) t (h'.op y)) (sym (updated_here h.published_at x b y same))
      (subst (Saw (moments h) b) (sym (op_here y same)) can.saw))
      (λ ne. subst (λ (t : ℕ). Saw (moments h) t (h'.op y)) (sym (time_other y ne))
      (subst (Saw (moments h) (h.published_at y)) (sym (op_other y ne)) (rule.saw y (was_undecided y ne u))))
      (cases_eq y x)

  grows : Grows h h'
  grows = record {
    clock = le_refl h.clock;
    rose = λ t n. inr (λ f. refl);
    published = λ y p. (still_published y p, same_op y p);
    undecided = λ y p u. was_undecided y (is_other y p) u;
    decided = λ y d. stage_other y (λ same. absent_not_decided (h.stage x) can.is_new
        (subst (λ (z : ℕ). IsDecided (h.stage z)) same d));
    draws = λ t y drew. drew;
    held = λ y n f u is. is;
    in_use = λ n is. is;
    looked = looked_stays h h' (λ t n. refl) (λ y p. (still_published y p, same_op y p))
        (λ y p u. was_undecided y (is_other y p) u) same_value (λ t y drew. (rule.drawn y t drew).0)
        (λ t y lt drew. drew);
    last = refl;
    owner = λ y. refl;
    times = λ y p. time_other y (is_other y p);
    cleared = λ y c le is. is;
    now = λ n. le_refl (cells_now h n Version);
    clears = λ y is. is;
    items = λ t d is. is;
  }

  caused_still : (y : ℕ) (w : Cause) → h'.stage y ≡ aborted w → IsCause h' y w
  caused_still y w is = ⊎_elim
      (λ here. absurd (let clash : undecided ≡ aborted w = here.1 in cc))
      (λ other. cause_stays h h' grows y w (aborted_is_published (h.stage y) w other.1) (rule.caused y w other.1))
      (from_updated h.stage x undecided (λ (st : Stage). st ≡ aborted w) y is)

  running_still : (y : ℕ) → (IsDecided (h'.stage y) → ⊥) → h.cleared_at y ≡ None
  running_still y not_decided = rule.running y (λ d. not_decided (subst IsDecided
      (sym (stage_other y (is_other y (decided_is_published (h.stage y) d)))) d))

  rule_kept : Rule h'
  rule_kept = record {
    run = rule.run;
    taken = λ t. on_item_map (IsTaken (h.drawn_for t) h.stage h.op t) (IsTaken (h.drawn_for t) h'.stage h'.op t)
        (h.item t) (taken_still t) (rule.taken t);
    standing = standing_still;
    past = past_still;
    drawn = drawn_still;
    held = held_still;
    misses = misses_still;
    plain_is = rule.plain_is;
    refers = λ n f y is. let p : IsPublished (h.stage y) = (rule.refers n f y is).published in
        refers_stays h.stage h'.stage h.op h'.op h.plain h.plain h.slot h.slot n f y (still_published y p)
        (same_op y p) (λ old new. same_value y old new p) refl (λ used. used) (rule.refers n f y is);
    unused = rule.unused;
    well_formed = well_formed_still;
    fresh = fresh_still;
    apart = apart_still;
    saw = saw_still;
    caused = caused_still;
    uncleared = rule.uncleared;
    running = running_still;
  }

  publishes_keep : Keeps h h'
  publishes_keep = record {
    rule = rule_kept;
    notes = notes_stay h h' (versions_never_fall h.opening h.clock h.item rule.run) grows;
  }

pub publish_keeps : (h : History) → Rule h → (x : ℕ) (e : Exchange) (b : ℕ) → CanPublish h x e b
    → Keeps h (publish h x e b)
publish_keeps h rule x e b can = publishes_keep h rule x e b can
