-- What published exchanges visit and read was so before they were published, and stays so; and what an exchange of a pass's path
-- visits and reads is.
use Rattle.std.proofs.Common.{ℕ, ⊎_elim, refl, sym, subst}
use Rattle.pc_model.specs.Exchanges.{Visited, Exchange}
use Rattle.pc_history.specs.Footprints.{IsAmong}
use Rattle.pc_history.proofs.Updates.{updated_here, from_updated}
use Rattle.pc_rule_law.specs.Past.{Attempt}
use Rattle.pc_protocol.specs.Histories.{undecided, History, moments, IsPublished}
use Rattle.pc_protocol.specs.Notes.{saw, published, IsTrueNote}
use Rattle.pc_protocol.specs.Seeing.{Covers, Saw}
use Rattle.pc_protocol.specs.Steps.{Keeps, publish}
use Rattle.pc_exchange_law.specs.ExchangeConditions.{VisitsNothing, VisitsPath, GoesByPath}
use Rattle.pc_exchange_law.specs.Passes.{PassKnows}
use Rattle.pc_exchange_law.specs.Paths.{Path, read_of}
use Rattle.pc_exchange_law.specs.Ties.{exchange_of}
use Rattle.pc_exchange_law.specs.WholePlays.{CountsReads}
use Rattle.pc_exchange_law.specs.Worlds.{HasSeen}

-- what one has seen stays so
one_seen : (h h' : History) (x : ℕ) → Keeps h h' → IsPublished (h.stage x) → HasSeen h x → HasSeen h' x
one_seen h h' x keeps is_published seen =
    let same : IsTrueNote h' (published x (h.op x) (h.published_at x)) =
    keeps.notes (published x (h.op x) (h.published_at x)) (is_published, refl, refl) in
    subst (λ (i : ℕ × Exchange). IsTrueNote h' (saw i.0 i.1)) (λ i. (sym same.2 i, sym same.1 i))
    (keeps.notes (saw (h.published_at x) (h.op x)) seen)

-- at a step that publishes none
pub paths_still : (h h' : History) → Keeps h h' → ((x : ℕ) → IsPublished (h'.stage x) → IsPublished (h.stage x))
    → ((x : ℕ) → IsPublished (h.stage x) → HasSeen h x)
    → (x : ℕ) → IsPublished (h'.stage x) → HasSeen h' x
paths_still h h' keeps before seen x is_published = one_seen h h' x keeps (before x is_published) (seen x (before x is_published))

-- and at one that publishes one which has seen all of it
pub paths_with : (h : History) (x : ℕ) (e : Exchange) (c : ℕ) → Keeps h (publish h x e c) → IsTrueNote h (saw c e)
    → ((y : ℕ) → IsPublished (h.stage y) → HasSeen h y)
    → (y : ℕ) → IsPublished ((publish h x e c).stage y) → HasSeen (publish h x e c) y
paths_with h x e c keeps saw_it seen y is_published = ⊎_elim
    (λ here. subst (λ (i : ℕ × Exchange). IsTrueNote (publish h x e c) (saw i.0 i.1))
    (λ i. (sym (updated_here h.published_at x c y here.0) i, sym (updated_here h.op x e y here.0) i)) (keeps.notes (saw c e) saw_it))
    (λ other. one_seen h (publish h x e c) y keeps other.1 (seen y other.1))
    (from_updated h.stage x undecided IsPublished y is_published)

-- ---- the exchange of a path

module _ (h : History) (k : PassKnows) (path : Path) (c : ℕ) (x : Attempt) where
  -- where nothing is visited and read, all of it was seen
  nothing_seen : VisitsNothing x → Saw (moments h) c (exchange_of x)
  nothing_seen none' = record {
    visits = λ v among. absurd (subst (IsAmong v) none'.0 among);
    reads = λ r among. absurd (subst (IsAmong r) none'.1 among);
  }

  module _ (of : VisitsPath k path c x) (seen : IsTrueNote h (saw c (read_of path))) where
    covers_too : (n v : ℕ) → Covers (read_of path) n v → Covers (exchange_of x) n v
    covers_too n v covers = ⊎_elim
        (λ visit. subst (λ (i : ℕ × ℕ). Covers (exchange_of x) i.0 i.1) (λ i. (visit.node i, visit.version i))
        (of.covered visit.visit visit.among))
        (λ change. absurd change.among)
        covers

    path_seen : Saw (moments h) c (exchange_of x)
    path_seen = record {
      visits = λ v among. seen.1.visits v (of.visits v among);
      reads = λ r among. let was = seen.1.reads r (subst (IsAmong r) of.reads among) in
          (was.0, covers_too r.node was.0 was.1, was.2);
    }

  -- what it visits and reads was seen, as the pass knows
  pub visits_seen : GoesByPath k path c x → (VisitsPath k path c x → IsTrueNote h (saw c (read_of path)))
      → Saw (moments h) c (exchange_of x)
  visits_seen how told = ⊎_elim (λ words. nothing_seen words.1) (λ of. path_seen of.1 (told of.1)) how

-- what it visits was visited on the path
pub visits_of_path : (k : PassKnows) (path : Path) (c : ℕ) (x : Attempt) → GoesByPath k path c x → (v : Visited)
    → IsAmong v x.visits → IsAmong v path.visits
visits_of_path k path c x how v among = ⊎_elim
    (λ words. absurd (subst (IsAmong v) words.1.0 among))
    (λ of. of.1.visits v among)
    how

-- and by its mode it has no visits and reads, or the reads of the path
pub counts_reads : (k : PassKnows) (path : Path) (c : ℕ) (x : Attempt) → GoesByPath k path c x → CountsReads path x
counts_reads k path c x how = ⊎_elim
    (λ words. record { none = λ _. words.1; all = λ other. absurd (other words.0) })
    (λ of. record { none = λ is. absurd (of.0 is); all = λ _. of.1.reads })
    how
