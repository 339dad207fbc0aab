-- What each kind of step of an exchange tells the pass that makes it: what it notes of what it found, and what it has
-- of its own attempt afterwards.
use Rattle.std.specs.Prelude.{◌≡◌, ◌≢◌, ℕ, ◌+◌, ◌<◌, ◌≤◌, ◌⊎◌, Bool, true, false, List, [], ◌∷◌, ◌++◌}
use Rattle.pc_model.specs.declared.cell.Field.{Field}
use Rattle.pc_model.specs.declared.cell.Field.TheVariants.{Version}
use Rattle.pc_model.specs.Exchanges.{Exchange as PathExchange}
use Rattle.pc_words.specs.declared.word.WordKind.{WordKind}
use Rattle.pc_words.specs.declared.word.WordKind.TheVariants.{Plain, Install, Exchange}
use Rattle.pc_words.specs.declared.status.Stage.TheVariants.{Changed as ChangedNode, Locked}
use Rattle.pc_words.specs.declared.status.Status.{Status}
use Rattle.pc_rule_law.specs.Board.{Board}
use Rattle.pc_rule_law.specs.Past.{Has, Past}
use Rattle.pc_rule_law.specs.Stages.{IsIdle, IsOpen}
use Rattle.pc_protocol.specs.Histories.{withdrawn, ended, changed, locked, Stage, absent, undecided, committed, aborted, History, IsSpare}
use Rattle.pc_protocol.specs.Notes.{Note, clock_was, visited, read_word, saw, published, held, drew, verdict, rival, in_run, outdated}
use Rattle.pc_protocol.specs.Seeing.{Visits}
use Rattle.pc_protocol.specs.Telling.{IsNoted}
use Rattle.pc_exchange_law.specs.Ties.{code, last_stamp, IsStageOf}
use Rattle.pc_exchange_law.specs.Attempts.{Scripts, AttemptNote, came_to, loaded_word, listed_word, calm, calm_but}
use Rattle.pc_exchange_law.specs.OwnSlots.{makes_one, slots_cleared, made_by}
use Rattle.pc_exchange_law.specs.Passes.{PassKnows, IsKnown}

abbrev pub with_more : PassKnows → List AttemptNote → List Note → PassKnows
with_more k noted told = record k { noted = noted ++ k.noted; told = told ++ k.told }

-- ---- loads

-- the pass has learnt, and is otherwise as it was
pub record Learns (k k' : PassKnows) : Type 0 where
  pub own : k'.own ≡ k.own
  pub ready : k'.ready ≡ k.ready
  pub slots : k'.slots ≡ k.slots
  pub noted : (n : AttemptNote) → Has k.noted n → Has k'.noted n
  pub told : (n : Note) → Has k.told n → Has k'.told n

-- a word of the descriptor of pass p: it is noted for each attempt that the pass was seen to have come to
pub record DescriptorLoaded (k : PassKnows) (p place x : ℕ) (k' : PassKnows) : Type 0 where
  pub learns : Learns k k'
  pub loads : (a : ℕ) → Has k.noted (came_to p a) → Has k'.noted (loaded_word p a place x)

-- why the attempt failed that a lock stopped: pass q, another one, is a rival for a node that the attempt visits, by the clock before its
-- publication
pub record LockSeen (k : PassKnows) (p a n q : ℕ) (k' : PassKnows) : Type 0 where
  pub other : q ≢ p
  pub clock : ℕ
  pub rival : Has k'.told (rival q n clock)
  pub of : (e : PathExchange) (d : ℕ) → Has k.told (published (code p a) e d) → (d ≡ clock) × ((v : ℕ) × Visits e n v)

-- a status of pass p: one that isn't idle settles what was loaded of its attempt, and tells how that was decided; and one
-- that says which node changed tells that the attempt is outdated there
pub record StatusSeen (k : PassKnows) (p : ℕ) (s : Status) (k' : PassKnows) : Type 0 where
  pub learns : Learns k k'
  pub came : Has k'.noted (came_to p s.number)
  pub settles : (IsIdle s.stage → ⊥) → (place x : ℕ) → Has k.noted (loaded_word p s.number place x)
      → Has k'.noted (listed_word p s.number place x)
  pub decided : (IsIdle s.stage → ⊥) → (IsOpen s.stage → ⊥)
      → (st : Stage) × IsStageOf s.stage st × Has k'.told (verdict (code p s.number) st)
  pub outdated : (n : ℕ) → s.stage ≡ ChangedNode n → Has k'.told (outdated (code p s.number) n)
  -- one that says that the attempt failed since a node is locked tells of the rival
  pub locked : (n q : ℕ) → s.stage ≡ Locked n q → LockSeen k p s.number n q k'

-- A word of a node. A reference is held, and its pass has come to that attempt. A plain version is a bound; and
-- another plain number is what the word has, at each version of the node that was visited. The word is calm of each
-- attempt that is known to be decided, but for an install that is found. Nobody computes the moments, and all that is
-- said of them is that the notes are true.
pub record WordSeen (k : PassKnows) (n : ℕ) (f : Field) (c : WordKind) (k' : PassKnows) : Type 0 where
  pub learns : Learns k k'
  pub came : (p a : ℕ) → c ≡ Exchange p a → Has k'.noted (came_to p a)
  pub holds : (p a : ℕ) → c ≡ Exchange p a → Has k'.told (held (code p a) n f)
  pub version : (x : ℕ) → f ≡ Version → c ≡ Plain x → (at : ℕ) × Has k'.told (visited n x at)
  pub number : (x v was : ℕ) → c ≡ Plain x → Has k.told (visited n v was)
      → (at : ℕ) × Has k'.told (read_word n v f x at)
  pub reference : (p a q e : ℕ) (st : Stage) → p < 64 → c ≡ Exchange q e → Has k.told (verdict (code p a) st)
      → Has k'.noted (calm p a n f)
  pub install : (p a q i : ℕ) (st : Stage) → p < 64 → c ≡ Install q i → Has k.told (verdict (code p a) st)
      → Has k'.noted (calm_but p a n f q i)

-- the clock: the pass may draw where it is below the last stamp, and what it visited and read was so by then
abbrev pub after_clock : PassKnows → ℕ → PathExchange → Bool → PassKnows
after_clock k c e early = record (with_more k [] (clock_was c ∷ saw c e ∷ [])) { ready = early }

-- ---- the other steps

abbrev pub after_own_store : PassKnows → ℕ → ℕ → PassKnows
after_own_store k place x = record k { own = record k.own { words = (place, x) ∷ k.own.words } }

-- a publication of exchange x, which is this one, with the clock that was read before
abbrev pub after_publication : PassKnows → ℕ → PathExchange → ℕ → PassKnows
after_publication k x e c = record (with_more k [] (published x e c ∷ [])) { own = record k.own { number = k.own.number + 1; busy = true; withdrew = false }; slots = record k.slots { named = makes_one e.fresh } }

-- a draw for exchange x at a stamp; and, below, one that is refused at this clock
abbrev pub after_draw : PassKnows → ℕ → ℕ → PassKnows
after_draw k x s = record (with_more k [] (drew x s ∷ [])) { ready = false }

-- with these notes a pass has seen this stamp: it drew it for an exchange, or an exchange or a read took effect at it. One that
-- it drew for a read is below what the clock has come to
abbrev pub HasSeenStamp : List Note → ℕ → Type 0
HasSeenStamp told s = ((x : ℕ) × Has told (drew x s)) ⊎ (((x : ℕ) × Has told (verdict x (committed s))) ⊎ ((e : PathExchange) × Has told (in_run s e)))

-- a stamp isn't below what the clock was seen to have come to, it is above each stamp that was seen, and isn't below the moment since
-- which a word is known by a read
pub record IsAboveSeen (told : List Note) (s : ℕ) : Type 0 where
  pub clock : (c : ℕ) → Has told (clock_was c) → c ≤ s
  pub stamps : (t : ℕ) → HasSeenStamp told t → t < s
  pub reads : (n v x b : ℕ) (f : Field) → Has told (read_word n v f x b) → b ≤ s

-- a draw for a read: the clock has come above the stamp
abbrev pub after_read_draw : PassKnows → ℕ → PassKnows
after_read_draw k s = record (with_more k [] (clock_was (s + 1) ∷ [])) { ready = false }

abbrev pub after_refusal : PassKnows → ℕ → PassKnows
after_refusal k c = record (with_more k [] (clock_was c ∷ [])) { ready = false }

-- a decision of exchange x; and one by which the pass withdraws its own
-- one that failed since a node changed is outdated there
abbrev pub outdated_by : ℕ → Stage → List Note
outdated_by x absent = []
outdated_by x undecided = []
outdated_by x (committed s) = []
outdated_by x (aborted withdrawn) = []
outdated_by x (aborted ended) = []
outdated_by x (aborted (changed n)) = outdated x n ∷ []
outdated_by x (aborted (locked n q)) = []

abbrev pub after_decision : PassKnows → ℕ → Stage → PassKnows
after_decision k x st = with_more k [] (verdict x st ∷ outdated_by x st)

abbrev pub after_withdrawal : PassKnows → ℕ → Stage → PassKnows
after_withdrawal k x st = record (with_more k [] (verdict x st ∷ [])) { own = record k.own { withdrew = true } }

-- the own attempt, which was decided so, is cleared: a node that it made is in use then
abbrev pub after_clearing : PassKnows → Stage → PassKnows
after_clearing k st = record (with_more k [] (made_by st k.slots.named k.slots.spare)) { own = record k.own { busy = false }; slots = slots_cleared k.slots st }

-- ---- each load tells what is so

pub record LoadsTellPasses (b : Board) (t : Past) (w : Scripts) (h : History) (late : ℕ → Bool) (id : ℕ)
    (k : PassKnows) : Type 0 where
  pub descriptor : (p place : ℕ)
      → (k' : PassKnows) × DescriptorLoaded k p place (b.word p place) k' × IsKnown b t w h late id k'
  pub status : (p : ℕ) → p < 64 → (k' : PassKnows) × StatusSeen k p (b.status p) k' × IsKnown b t w h late id k'
  -- a word of a node that is no spare; a plain word has the plain value
  pub word : (n : ℕ) (f : Field) → (IsSpare (h.slot n) → ⊥) → ((x : ℕ) → b.cell n f ≡ Plain x → t.plain n f ≡ x)
      → (k' : PassKnows) × WordSeen k n f (b.cell n f) k' × IsKnown b t w h late id k'
  pub clock : (e : PathExchange) (early : Bool) → IsNoted h e → (early ≡ true → b.clock < last_stamp)
      → IsKnown b t w h late id (after_clock k b.clock e early)
