-- What no step takes back of attempts, and what a step leaves to the passes of other seats; so notes of attempts stay
-- true. What they serve for.
use Rattle.std.specs.Prelude.{◌≡◌, ◌≢◌, ℕ, ◌+◌, ◌≤◌, ◌<◌, List, length}
use mathlib.Core.Option.{some}
use lib.ListN.{get_elem?}
use Rattle.pc_model.specs.declared.cell.Field.{Field}
use Rattle.pc_model.specs.Exchanges.{Changed}
use Rattle.pc_words.specs.declared.word.WordKind.TheVariants.{Install, Exchange}
use Rattle.pc_rule_law.specs.Board.{Board}
use Rattle.pc_rule_law.specs.Past.{Has, Past, change}
use Rattle.pc_rule_law.specs.Stages.{IsIdle, DecidedBelow}
use Rattle.pc_rule_law.specs.Views.{IsClean}
use Rattle.pc_protocol.specs.Histories.{withdrawn, aborted, History}
use Rattle.pc_exchange_law.specs.Ties.{code}
use Rattle.pc_exchange_law.specs.Attempts.{Scripts, OwnAttempt, OwnsAttempt, AttemptNote, listed_word, loaded_word, calm, calm_but}
use Rattle.pc_exchange_law.specs.Attempts.{IsEarlyFor, IsTrueAttemptNote, KnowsWord, KnowsEntry, KnowsVisit, KnowsPlaces}

-- what no step takes back
pub record AttemptsGrow (b : Board) (t : Past) (w : Scripts) (b' : Board) (t' : Past) (w' : Scripts) : Type 0 where
  pub numbers : (p : ℕ) → (b.status p).number ≤ (b'.status p).number
  pub decisions : (p m : ℕ) → DecidedBelow b.status p m → DecidedBelow b'.status p m
  -- the descriptor of an attempt that was published stays; and while it isn't cleared, so do the words of its pass
  pub scripts : (p a place : ℕ) → a ≤ (b.status p).number → w' p a place ≡ w p a place
  pub words : (p : ℕ) → (b'.status p).number ≡ (b.status p).number → (IsIdle (b'.status p).stage → ⊥)
      → (IsIdle (b.status p).stage → ⊥) × ((place : ℕ) → b'.word p place ≡ b.word p place)
  -- no early install of an attempt that is decided comes into a word
  pub calms : (p a n : ℕ) (f : Field) (q k : ℕ) → DecidedBelow b.status p (a + 1) → b'.cell n f ≡ Install q k
      → IsEarlyFor (t'.placing q k) p a
      → (b.cell n f ≡ Install q k) × IsEarlyFor (t.placing q k) p a

-- what a step of the pass at seat id leaves to the others
pub record LeavesAttempts (id : ℕ) (b : Board) (h : History) (b' : Board) (h' : History) : Type 0 where
  pub numbers : (j : ℕ) → j ≢ id → (b'.status j).number ≡ (b.status j).number
  pub resting : (j : ℕ) → j ≢ id → IsIdle (b.status j).stage → IsIdle (b'.status j).stage
  pub working : (j : ℕ) → j ≢ id → IsIdle (b'.status j).stage → IsIdle (b.status j).stage
  pub words : (j place : ℕ) → j ≢ id → b'.word j place ≡ b.word j place
  pub kept : (j : ℕ) → j < 64 → j ≢ id → h'.stage (code j (b.status j).number) ≡ aborted withdrawn
      → h.stage (code j (b.status j).number) ≡ aborted withdrawn

pub record AttemptNotesStay : Type 0 where
  pub notes : (b : Board) (t : Past) (w : Scripts) (b' : Board) (t' : Past) (w' : Scripts)
      → AttemptsGrow b t w b' t' w'
      → (k : AttemptNote) → IsTrueAttemptNote b t w k → IsTrueAttemptNote b' t' w' k
  pub owned : (id j : ℕ) (b : Board) (h : History) (b' : Board) (h' : History) (o : OwnAttempt)
      → LeavesAttempts id b h b' h' → j < 64 → j ≢ id → OwnsAttempt b h j o → OwnsAttempt b' h' j o

-- what notes of attempts serve for, on a board with its descriptors, for a pass with such notes and such an attempt
pub record AttemptsAreKnown (slots : ℕ) (b : Board) (t : Past) (w : Scripts) (h : History) (seat : ℕ) (o : OwnAttempt)
    (notes : List AttemptNote) : Type 0 where
  -- what is known of a descriptor is so
  pub word : (p a place x : ℕ) → KnowsWord notes seat o p a place x → (a ≤ (b.status p).number) × (w p a place ≡ x)
  pub entry : (p a i n : ℕ) (f : Field) (old new : ℕ) → KnowsEntry notes seat o p a i n f old new
      → (a ≤ (b.status p).number) × Has (t.attempt p a).changes (change n f old new)
  pub visit : (p a i n v : ℕ) → KnowsVisit slots notes seat o p a i n v
      → (a ≤ (b.status p).number) × (get_elem? (t.attempt p a).visits i ≡ some (record { node = n; version = v }))
  pub visits : (p a c : ℕ) → KnowsWord notes seat o p a 2 c → length (t.attempt p a).visits ≡ c
  pub places : (p a : ℕ) (k : KnowsPlaces notes seat o p a) (x : Changed) → Has (t.attempt p a).changes x
      → (i : ℕ) × (below : i < k.count) × ((k.each i below).0 ≡ x.node) × ((k.each i below).1 ≡ x.field)
  -- a word that was loaded is the attempt's, where its status is seen to have that number and not to be idle
  pub settles : (p place x : ℕ) → IsTrueAttemptNote b t w (loaded_word p (b.status p).number place x)
      → (IsIdle (b.status p).stage → ⊥)
      → IsTrueAttemptNote b t w (listed_word p (b.status p).number place x)

-- how a word comes to be clean of an attempt that is decided
pub record CalmsServe (b : Board) (t : Past) (w : Scripts) (p a n : ℕ) (f : Field) : Type 0 where
  -- one in which a reference is found is calm, and one in which an install is found is so but for that
  pub reference : (q c : ℕ) → DecidedBelow b.status p (a + 1) → b.cell n f ≡ Exchange q c
      → IsTrueAttemptNote b t w (calm p a n f)
  pub install : (q k : ℕ) → DecidedBelow b.status p (a + 1) → b.cell n f ≡ Install q k
      → IsTrueAttemptNote b t w (calm_but p a n f q k)
  -- where that one doesn't stand any more it is calm
  pub gone : (q k : ℕ) → IsTrueAttemptNote b t w (calm_but p a n f q k) → b.cell n f ≢ Install q k
      → IsTrueAttemptNote b t w (calm p a n f)
  -- and a calm one without the reference is clean
  pub clean : IsTrueAttemptNote b t w (calm p a n f) → b.cell n f ≢ Exchange p a → IsClean t.placing p a (b.cell n f)
