-- The law that no step of an exchange takes back what any pass noted in its view for installs.
use Rattle.std.specs.Prelude.{◌≡◌, ℕ, ◌+◌, ◌<◌, true, List}
use Rattle.pc_model.specs.declared.cell.Field.{Field}
use Rattle.pc_model.specs.Exchanges.{Visited}
use Rattle.pc_model.specs.Forms.{Form}
use Rattle.pc_history.specs.Footprints.{IsAmong}
use Rattle.pc_words.specs.declared.word.WordKind.TheVariants.{Plain, Exchange}
use Rattle.pc_words.specs.declared.status.Stage.TheVariants.{Idle, Undecided, Succeeded, Withdrawn}
use Rattle.pc_words.specs.Statuses.{StageInRange}
use Rattle.pc_rule_law.specs.Board.{Size, Board, put2}
use Rattle.pc_rule_law.specs.Past.{Has, Attempt, Past}
use Rattle.pc_rule_law.specs.Stages.{IsOpen}
use Rattle.pc_rule_law.specs.Views.{Note, View, NoteHolds}
use Rattle.pc_protocol.specs.Histories.{Cause, Stage, History, cells_now, IsUsed}
use Rattle.pc_protocol.specs.Notes.{verdict}
use Rattle.pc_protocol.specs.Steps.{commit}
use Rattle.pc_exchange_law.specs.Ties.{code}
use Rattle.pc_exchange_law.specs.Changes.{with_word, with_status, with_next_stamp, with_values, at_stage, stage_by}
use Rattle.pc_exchange_law.specs.AttemptSteps.{with_own_word}
use Rattle.pc_exchange_law.specs.Passes.{PassKnows}
use Rattle.pc_exchange_law.specs.Paths.{Path}
use Rattle.pc_exchange_law.specs.ExchangeConditions.{MayStoreOwn, MayPublish, MayDrawFor, MaySucceed, MayFail}
use Rattle.pc_exchange_law.specs.ExchangeConditions.{MayTakeReference, MayClear}

-- every note of a view that held before holds afterwards
abbrev pub KeepsViewNotes : Size → Board → Past → Board → Past → Type 0
KeepsViewNotes z b t b' t' = (x : Note) → NoteHolds z b t x → NoteHolds z b' t' x

-- each kind of step of the pass at seat id, from what it knows, keeps them, whosever they are
pub record ViewNotesStay (form : Form) (z : Size) (id : ℕ) (b : Board) (t : Past) (h : History) (v : View) (k : PassKnows)
    : Type 0 where
  pub stores : (place x : ℕ) → MayStoreOwn k → KeepsViewNotes z b t (with_own_word b id place x) t
  pub publishes : (path : Path) (x : Attempt) (c : ℕ) (keys : List ℕ)
      → ((y : Visited) → IsAmong y path.visits → IsUsed (h.slot y.node)) → MayPublish form z k path x c keys
      → let a : ℕ = (b.status id).number + 1 in
      KeepsViewNotes z b t (with_status b id (record { number = a; stage = Undecided }))
      (with_values t t.cells t.plain (put2 t.attempt id a x) (put2 t.words id a (b.word id)))
  pub draws : (p a : ℕ) → MayDrawFor v k p a → KeepsViewNotes z b t (with_next_stamp b) t
  pub refuses : k.ready ≡ true → KeepsViewNotes z b t (with_next_stamp b) t
  pub succeeds : (p s : ℕ) → p < 64 → IsOpen (b.status p).stage → MaySucceed v k p (b.status p).number s
      → let h' = commit h (code p (b.status p).number) s in
      KeepsViewNotes z b t (with_status b p (at_stage b p (Succeeded s))) (with_values t (cells_now h') h'.plain t.attempt t.words)
  pub fails : (p : ℕ) (cause : Cause) → p < 64 → IsOpen (b.status p).stage → StageInRange (stage_by cause)
      → MayFail v k p (b.status p).number cause
      → KeepsViewNotes z b t (with_status b p (at_stage b p (stage_by cause))) t
  pub withdraws : IsOpen (b.status id).stage → KeepsViewNotes z b t (with_status b id (at_stage b id Withdrawn)) t
  pub takes : (p a n : ℕ) (f : Field) (x : ℕ) → b.cell n f ≡ Exchange p a → p < 64 → MayTakeReference v k p a n f x
      → KeepsViewNotes z b t (with_word b n f (Plain x)) t
  pub clears : (st : Stage) → Has k.told (verdict (code v.seat k.own.number) st) → MayClear v k → KeepsViewNotes z b t (with_status b id (at_stage b id Idle)) t
