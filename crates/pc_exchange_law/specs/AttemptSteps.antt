-- How each kind of step changes what is said of attempts: what it takes back, which is nothing, what it leaves to other
-- passes, and the own attempt afterwards.
use Rattle.std.specs.Prelude.{◌≡◌, ◌≢◌, ℕ, ◌+◌, ◌<◌, ◌≤◌, ◌⊎◌, true, false, [], ◌∷◌}
use Rattle.pc_model.specs.declared.cell.Field.{Field}
use Rattle.pc_model.specs.Cells.{Cells}
use Rattle.pc_model.specs.Exchanges.{Exchange as PathExchange}
use Rattle.pc_words.specs.declared.word.WordKind.{WordKind}
use Rattle.pc_words.specs.declared.word.WordKind.TheVariants.{Install}
use Rattle.pc_words.specs.declared.status.Stage.{Stage as StatusStage}
use Rattle.pc_words.specs.declared.status.Stage.TheVariants.{Idle, Undecided, Withdrawn}
use Rattle.pc_words.specs.declared.status.Status.{Status}
use Rattle.pc_history.specs.Updates.{updated}
use Rattle.pc_rule_law.specs.Board.{Size, Board, put2}
use Rattle.pc_rule_law.specs.Past.{Attempt, Placing, Past, Describes}
use Rattle.pc_rule_law.specs.Stages.{IsIdle, IsOpen, IsUndecided}
use Rattle.pc_rule_law.specs.Openings.{opening_board, opening_attempt, opening_words}
use Rattle.pc_rule_law.specs.Seats.{opening_past}
use Rattle.pc_protocol.specs.Histories.{withdrawn, Stage, aborted, History}
use Rattle.pc_protocol.specs.Steps.{publish}
use Rattle.pc_exchange_law.specs.Ties.{code}
use Rattle.pc_exchange_law.specs.Changes.{with_word, with_status, with_installs, with_values, at_stage}
use Rattle.pc_exchange_law.specs.TieLaws.{opening_history}
use Rattle.pc_exchange_law.specs.Attempts.{Scripts, AreScripts, OwnAttempt, OwnsAttempt}
use Rattle.pc_exchange_law.specs.AttemptLaws.{AttemptsGrow, LeavesAttempts}

-- a word of the own descriptor, and the words of an attempt that is published
abbrev pub with_own_word : Board → ℕ → ℕ → ℕ → Board
with_own_word b j place x = record b { word = put2 b.word j place x }

abbrev pub with_script : Scripts → ℕ → ℕ → (ℕ → ℕ) → Scripts
with_script w p a words = put2 w p a words

-- the statuses, the descriptors, the words of the nodes and what installs were placed for stay
pub record KeepsAttempts (b : Board) (t : Past) (b' : Board) (t' : Past) : Type 0 where
  pub statuses : (p : ℕ) → b'.status p ≡ b.status p
  pub words : (p place : ℕ) → b'.word p place ≡ b.word p place
  pub cells : (n : ℕ) (f : Field) → b'.cell n f ≡ b.cell n f
  pub placings : (q k : ℕ) → t'.placing q k ≡ t.placing q k

-- An install that was placed stays what it was placed for, and those that stand were placed; and an early one comes
-- into a word only while its attempt is undecided.
pub record BringsInstalls (b : Board) (t : Past) (c : WordKind) (placing' : ℕ → ℕ → Placing) : Type 0 where
  pub placings : (q k : ℕ) → 1 ≤ t.course q k → placing' q k ≡ t.placing q k
  pub placed : (n : ℕ) (f : Field) (q k : ℕ) → b.cell n f ≡ Install q k → 1 ≤ t.course q k
  pub comes : (q k : ℕ) → c ≡ Install q k → (placing' q k).early ≡ true
      → IsUndecided b.status (placing' q k).seat (placing' q k).number

-- a step of one status: its number doesn't fall, an attempt is undecided once, and one that was cleared isn't so again
pub record MovesStatus (b : Board) (p : ℕ) (s : Status) : Type 0 where
  pub number : (b.status p).number ≤ s.number
  pub once : s.number ≡ (b.status p).number → IsOpen s.stage → IsOpen (b.status p).stage
  pub busy : s.number ≡ (b.status p).number → (IsIdle s.stage → ⊥) → IsIdle (b.status p).stage → ⊥

-- Each kind of step takes nothing back of attempts
pub record StepsKeepAttempts (b : Board) (t : Past) (w : Scripts) : Type 0 where
  pub looks : (b' : Board) (t' : Past) → KeepsAttempts b t b' t' → AttemptsGrow b t w b' t' w
  pub words : (n : ℕ) (f : Field) (c : WordKind) (placing' : ℕ → ℕ → Placing) (course' : ℕ → ℕ → ℕ)
      → BringsInstalls b t c placing'
      → AttemptsGrow b t w (with_word b n f c) (with_installs t placing' course') w
  pub stores : (j place x : ℕ) → IsIdle (b.status j).stage → AttemptsGrow b t w (with_own_word b j place x) t w
  pub statuses : (p : ℕ) (s : Status) (t' : Past) (w' : Scripts) → MovesStatus b p s
      → ((q k : ℕ) → t'.placing q k ≡ t.placing q k)
      → ((q a place : ℕ) → a ≤ (b.status q).number → w' q a place ≡ w q a place)
      → AttemptsGrow b t w (with_status b p s) t' w'

-- and leaves the attempts of other passes: one that changes no status; one of the own status; and one that decides
-- another's attempt, but doesn't withdraw it
pub record StepsLeaveAttempts (id : ℕ) (b : Board) (h : History) : Type 0 where
  pub others : (b' : Board) (h' : History) → ((p : ℕ) → b'.status p ≡ b.status p)
      → ((j place : ℕ) → j ≢ id → b'.word j place ≡ b.word j place)
      → ((x : ℕ) → h'.stage x ≡ h.stage x)
      → LeavesAttempts id b h b' h'
  pub own : (s : Status) (h' : History)
      → ((j : ℕ) → j < 64 → j ≢ id → h'.stage (code j (b.status j).number) ≡ h.stage (code j (b.status j).number))
      → LeavesAttempts id b h (with_status b id s) h'
  pub decided : (p : ℕ) (stage : StatusStage) (st : Stage) (h' : History) → IsOpen (b.status p).stage
      → (IsIdle stage → ⊥)
      → st ≢ aborted withdrawn
      → ((x : ℕ) → h'.stage x ≡ updated h.stage (code p (b.status p).number) st x)
      → LeavesAttempts id b h (with_status b p (at_stage b p stage)) h'

-- and the descriptors are those of the attempts
pub record StepsKeepScripts (slots : ℕ) (b : Board) (t : Past) (w : Scripts) : Type 0 where
  pub looks : (b' : Board) (t' : Past) → ((p : ℕ) → b'.status p ≡ b.status p)
      → ((p place : ℕ) → b'.word p place ≡ b.word p place) → ((p a : ℕ) → t'.attempt p a ≡ t.attempt p a)
      → AreScripts slots b' t' w
  pub stores : (j place x : ℕ) → IsIdle (b.status j).stage → AreScripts slots (with_own_word b j place x) t w
  pub publishes : (p : ℕ) (x : Attempt) → Describes slots x (b.word p)
      → AreScripts slots (with_status b p (record { number = (b.status p).number + 1; stage = Undecided }))
      (with_values t t.cells t.plain (put2 t.attempt p ((b.status p).number + 1) x) (put2 t.words p ((b.status p).number + 1) (b.word p)))
      (with_script w p ((b.status p).number + 1) (b.word p))
  pub decides : (p : ℕ) (stage : StatusStage) (cells' plain' : Cells) → IsOpen (b.status p).stage ⊎ IsIdle stage
      → AreScripts slots (with_status b p (at_stage b p stage)) (with_values t cells' plain' t.attempt t.words) w

-- the own attempt after the own steps
pub record OwnStepsAreKnown (j : ℕ) (b : Board) (h : History) (o : OwnAttempt) : Type 0 where
  pub stores : (place x : ℕ) → o.busy ≡ false
      → OwnsAttempt (with_own_word b j place x) h j (record o { words = (place, x) ∷ o.words })
  pub publishes : (e : PathExchange) (c : ℕ)
      → OwnsAttempt (with_status b j (record { number = (b.status j).number + 1; stage = Undecided }))
      (publish h (code j ((b.status j).number + 1)) e c) j
      (record o { number = o.number + 1; busy = true; withdrew = false })
  pub decides : (stage : StatusStage) (st : Stage) (h' : History) → o.busy ≡ true → (IsIdle stage → ⊥)
      → ((x : ℕ) → h'.stage x ≡ updated h.stage (code j (b.status j).number) st x) → st ≢ aborted withdrawn
      → OwnsAttempt (with_status b j (at_stage b j stage)) h' j o
  pub withdraws : (h' : History) → o.busy ≡ true
      → OwnsAttempt (with_status b j (at_stage b j Withdrawn)) h' j (record o { withdrew = true })
  pub clears : OwnsAttempt (with_status b j (at_stage b j Idle)) h j (record o { busy = false })

-- the attempt of a pass that published nothing yet, and the words of attempts where nobody did
abbrev pub first_attempt : ℕ → OwnAttempt
first_attempt start = record { number = start; busy = false; withdrew = false; words = [] }

abbrev pub no_scripts : Scripts
no_scripts p a place = 0

pub record AttemptsOpen (z : Size) (cells : Cells) : Type 0 where
  pub scripts : AreScripts z.slots (opening_board z cells []) (opening_past cells (opening_attempt []) (opening_words []) false) no_scripts
  pub own : (j : ℕ)
      → OwnsAttempt (opening_board z cells []) (opening_history cells z.starts.stamp) j (first_attempt z.starts.attempt)
