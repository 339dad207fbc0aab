-- What holds of the slots of nodes on a board is kept by each step.
use Rattle.std.proofs.Common.{◌≡◌, ◌≢◌, ℕ, ◌<◌, ◌≤◌, ◌⊎◌, inl, inr, ⊎_elim, Option, Some, sym, ap, ◌∙◌, subst}
use Rattle.std.proofs.lemmas.Bool.{cases_eq}
use Rattle.pc_model.specs.declared.cell.Field.{Field}
use Rattle.pc_model.specs.Cells.{IsNode}
use Rattle.pc_model.specs.Exchanges.{Visited, Changed, FreshNode, Exchange as PathExchange}
use Rattle.pc_model.specs.Linked.{IsLinked}
use Rattle.pc_words.specs.declared.word.WordKind.{WordKind}
use Rattle.pc_words.specs.declared.word.WordKind.TheVariants.{Plain}
use Rattle.pc_history.specs.Footprints.{IsAmong}
use Rattle.pc_history.specs.Updates.{updated}
use Rattle.pc_history.proofs.Updates.{updated_here, updated_other, from_updated}
use Rattle.pc_rule_law.specs.Board.{Size, Board}
use Rattle.pc_rule_law.specs.Past.{Has, Past}
use Rattle.pc_rule_law.proofs.Updates.{at_put_cell}
use Rattle.pc_protocol.specs.Histories.{for_exchange, for_read, Cause, Stage, undecided, committed, aborted, Slot, free, spare, used, History, cells_now, IsPublished, IsUndecided, IsFree, IsUsed}
use Rattle.pc_protocol.specs.Links.{MarksAlone, StepsKeepLinks}
use Rattle.pc_protocol.specs.Notes.{in_use}
use Rattle.pc_protocol.specs.Rules.{Rule}
use Rattle.pc_protocol.specs.Steps.{draw, CanDraw, publish, CanPublish, commit, CanCommit, abort, CanAbort, take_read, CanRead, refer, CanRefer, fill, CanFill, take_slot}
use Rattle.pc_protocol.proofs.LinkSteps.{links_law}
use Rattle.pc_protocol.proofs.Slots.{slots_with-used}
use Rattle.pc_protocol.proofs.Stages.{undecided_is_published, free_not_used}
use Rattle.pc_exchange_law.specs.Changes.{with_word}
use Rattle.pc_exchange_law.specs.OwnSlots.{IsOfShare}
use Rattle.pc_exchange_law.specs.Passes.{PassKnows}
use Rattle.pc_exchange_law.specs.Slots.{IsPlainWord, ChangesUsed, SlotsKept, IsHeld}
use Rattle.pc_exchange_law.specs.Ties.{code, seat_in, IsTied}
use Rattle.pc_exchange_law.proofs.ChangeLists.{has_among}

pub used_or_not : (s : Slot) → IsUsed s ⊎ (IsUsed s → ⊥)
used_or_not free = inr (λ u. u)
used_or_not spare = inr (λ u. u)
used_or_not used = inl tt

-- a word of an attempt up to the present one is of a node in use
pub entry_used : (b : Board) (t : Past) (h : History) → IsTied b t h → ChangesUsed h → (p a : ℕ) (x : Changed) → p < 64
    → a ≤ (b.status p).number → Has (t.attempt p a).changes x → IsUsed (h.slot x.node)
entry_used b t h tied changed p a x small le has =
    let published = tied.published p a x small le has in
    changed (code p a) x published (subst (λ (e : PathExchange). IsAmong x e.changes) (sym (tied.exchanges p a small published))
    (has_among (t.attempt p a).changes x has))

-- a node that is held is in use
pub held_is_used : (z : Size) (b : Board) (h : History) → SlotsKept z b h → (k : PassKnows) (n : ℕ)
    → ((m : ℕ) → Has k.told (in_use m) → IsUsed (h.slot m)) → IsHeld k n → IsUsed (h.slot n)
held_is_used z b h slots k n told held = ⊎_elim
    (λ first. subst (λ (m : ℕ). IsUsed (h.slot m)) (sym first) slots.sentinel)
    (λ has. told n has)
    held

module _ (z : Size) (b : Board) (h : History) (rule : Rule h) (slots : SlotsKept z b h)
    (linked : IsLinked z.slots (cells_now h)) where
  steps : StepsKeepLinks z.slots h
  steps = links_law.steps z.slots h rule slots.links linked

  -- a link of a node in use
  pub link_leads : (n : ℕ) (f : Field) → IsUsed (h.slot n) → Rattle.pc_model.specs.Linked.IsLinkField f → cells_now h n f ≢ 0
      → IsUsed (h.slot (cells_now h n f))
  link_leads n f u link ne = links_law.in_use z.slots h rule slots.links linked n f u link ne

  -- where the words of nodes stay
  pub look_slots : (b' : Board) → ((n : ℕ) (f : Field) → b'.cell n f ≡ b.cell n f) → SlotsKept z b' h
  look_slots b' same = record {
    links = slots.links;
    sentinel = slots.sentinel;
    changed = slots.changed;
    visited = slots.visited;
    plain = λ n f no. subst IsPlainWord (sym (same n f)) (slots.plain n f no);
    made = slots.made;
  }

  -- one word of a node in use
  pub word_slots : (n : ℕ) (f : Field) (c : WordKind) (r : Option ℕ) → IsUsed (h.slot n) → CanRefer h n f r
      → SlotsKept z (with_word b n f c) (refer h n f r)
  word_slots n f c r u can = record {
    links = steps.refers n f r can;
    sentinel = slots.sentinel;
    changed = slots.changed;
    visited = slots.visited;
    plain = λ m g no. at_put_cell b.cell n f c (λ i l w. (IsUsed (h.slot i) → ⊥) → IsPlainWord w) m g
        (λ not_used. absurd (not_used u)) (λ _ not_used. slots.plain m g not_used) no;
    made = slots.made;
  }

  -- draws, for boards with the same words
  pub draw_slots : (b' : Board) → ((n : ℕ) (f : Field) → b'.cell n f ≡ b.cell n f) → (x : ℕ) → CanDraw h x
      → SlotsKept z b' (draw h (for_exchange x))
  draw_slots b' same x can = record {
    links = steps.draws x can;
    sentinel = slots.sentinel;
    changed = slots.changed;
    visited = slots.visited;
    plain = λ n f no. subst IsPlainWord (sym (same n f)) (slots.plain n f no);
    made = slots.made;
  }

  pub read_draw_slots : (b' : Board) → ((n : ℕ) (f : Field) → b'.cell n f ≡ b.cell n f) → (p : ℕ)
      → SlotsKept z b' (draw h (for_read p))
  read_draw_slots b' same p = record {
    links = steps.read_draws p;
    sentinel = slots.sentinel;
    changed = slots.changed;
    visited = slots.visited;
    plain = λ n f no. subst IsPlainWord (sym (same n f)) (slots.plain n f no);
    made = slots.made;
  }

  -- a read takes effect
  pub take_read_slots : (p s : ℕ) (e : PathExchange) → CanRead h p s e → SlotsKept z b (take_read h s e)
  take_read_slots p s e can = record {
    links = steps.reads p s e can;
    sentinel = slots.sentinel;
    changed = slots.changed;
    visited = slots.visited;
    plain = slots.plain;
    made = slots.made;
  }

  -- a free slot is taken as a spare
  pub take_kept : (n : ℕ) → IsFree (h.slot n) → IsNode z.slots n → SlotsKept z b (take_slot h n)
  take_kept n is_free node =
      let still : (m : ℕ) → IsUsed (h.slot m) → IsUsed (updated h.slot n spare m)
      = λ m u. subst IsUsed (sym (updated_other h.slot n spare m
      (λ same. free_not_used (h.slot n) is_free (subst (λ (i : ℕ). IsUsed (h.slot i)) same u)))) u in record {
        links = steps.takes_slots n is_free node;
        sentinel = still 1 slots.sentinel;
        changed = λ y a published among. still a.node (slots.changed y a published among);
        visited = λ y v published among. still v.node (slots.visited y v published among);
        plain = λ m f no. slots.plain m f (λ u. no (still m u));
        made = slots.made;
      }

  -- a number is filled into a word of a spare
  pub fill_kept : (n : ℕ) (f : Field) (v : ℕ) → CanFill h n → SlotsKept z (with_word b n f (Plain v)) (fill h n f v)
  fill_kept n f v can = record {
    links = steps.fills n f v can;
    sentinel = slots.sentinel;
    changed = slots.changed;
    visited = slots.visited;
    plain = λ m g no. at_put_cell b.cell n f (Plain v) (λ i l w. (IsUsed (h.slot i) → ⊥) → IsPlainWord w) m g
        (λ _. tt) (λ _. slots.plain m g) no;
    made = slots.made;
  }

  -- an exchange is published, whose nodes are in use, and which makes a node of its pass's share
  pub publish_kept : (b' : Board) → ((n : ℕ) (f : Field) → b'.cell n f ≡ b.cell n f) → (x : ℕ) (e : PathExchange) (c : ℕ)
      → CanPublish h x e c → MarksAlone e → ((a : Changed) → IsAmong a e.changes → IsUsed (h.slot a.node))
      → ((v : Visited) → IsAmong v e.visits → IsUsed (h.slot v.node))
      → ((g : FreshNode) → e.fresh ≡ Some g → IsOfShare z (seat_in x) g.node)
      → SlotsKept z b' (publish h x e c)
  publish_kept b' same x e c can marks touches visits makes = record {
    links = steps.publishes x e c can marks;
    sentinel = slots.sentinel;
    changed = λ y a published among. ⊎_elim
        (λ here. touches a (subst (λ (u : PathExchange). IsAmong a u.changes) (updated_here h.op x e y here) among))
        (λ other. slots.changed y a (subst IsPublished (updated_other h.stage x undecided y other) published)
        (subst (λ (u : PathExchange). IsAmong a u.changes) (updated_other h.op x e y other) among))
        (cases_eq y x);
    visited = λ y v published among. ⊎_elim
        (λ here. visits v (subst (λ (u : PathExchange). IsAmong v u.visits) (updated_here h.op x e y here) among))
        (λ other. slots.visited y v (subst IsPublished (updated_other h.stage x undecided y other) published)
        (subst (λ (u : PathExchange). IsAmong v u.visits) (updated_other h.op x e y other) among))
        (cases_eq y x);
    plain = λ n f no. subst IsPlainWord (sym (same n f)) (slots.plain n f no);
    made = λ y g u is. ⊎_elim
        (λ here. subst (λ (i : ℕ). IsOfShare z (seat_in i) g.node) (sym here)
        (makes g (ap (λ (v : PathExchange). v.fresh) (sym (updated_here h.op x e y here)) ∙ is)))
        (λ other. slots.made y g (subst IsUndecided (updated_other h.stage x undecided y other) u)
        (ap (λ (v : PathExchange). v.fresh) (sym (updated_other h.op x e y other)) ∙ is))
        (cases_eq y x);
  }

  -- what is published after a decision was so before
  decided_before : (x : ℕ) (st : Stage) → IsUndecided (h.stage x) → (y : ℕ) → IsPublished (Rattle.pc_history.specs.Updates.updated h.stage x st y)
      → IsPublished (h.stage y)
  decided_before x st u y published = ⊎_elim
      (λ here. subst (λ (i : ℕ). IsPublished (h.stage i)) (sym here.0) (undecided_is_published (h.stage x) u))
      (λ other. other.1)
      (from_updated h.stage x st IsPublished y published)

  -- an exchange takes effect
  pub commit_kept : (b' : Board) → ((n : ℕ) (f : Field) → b'.cell n f ≡ b.cell n f) → (x s : ℕ) → CanCommit h x s
      → SlotsKept z b' (commit h x s)
  commit_kept b' same x s can = let still = slots_with-used (h.op x).fresh h.slot in record {
    links = steps.commits x s can;
    sentinel = still 1 slots.sentinel;
    changed = λ y a published among. still a.node
        (slots.changed y a (decided_before x (committed s) can.undecided y published) among);
    visited = λ y v published among. still v.node
        (slots.visited y v (decided_before x (committed s) can.undecided y published) among);
    plain = λ n f no. subst IsPlainWord (sym (same n f)) (slots.plain n f (λ u. no (still n u)));
    made = λ y g u is. slots.made y g (⊎_elim (λ here. absurd here.1) (λ other. other.1)
        (from_updated h.stage x (committed s) IsUndecided y u)) is;
  }

  -- an exchange fails
  pub abort_kept : (b' : Board) → ((n : ℕ) (f : Field) → b'.cell n f ≡ b.cell n f) → (x : ℕ) (cause : Cause)
      → CanAbort h x cause → SlotsKept z b' (abort h x cause)
  abort_kept b' same x cause can = record {
    links = steps.aborts x cause can;
    sentinel = slots.sentinel;
    changed = λ y a published among. slots.changed y a (decided_before x (aborted cause) can.undecided y published) among;
    visited = λ y v published among. slots.visited y v (decided_before x (aborted cause) can.undecided y published) among;
    plain = λ n f no. subst IsPlainWord (sym (same n f)) (slots.plain n f no);
    made = λ y g u is. slots.made y g (⊎_elim (λ here. absurd here.1) (λ other. other.1)
        (from_updated h.stage x (aborted cause) IsUndecided y u)) is;
  }
