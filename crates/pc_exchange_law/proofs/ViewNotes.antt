-- No step of an exchange takes back what passes noted in their views.
use Rattle.std.proofs.Common.{ℕ, ◌≤◌, Bool}
use Rattle.pc_model.specs.Forms.{Form}
use Rattle.pc_rule_law.specs.Board.{Size, Board}
use Rattle.pc_rule_law.specs.Past.{Past}
use Rattle.pc_rule_law.specs.Views.{View, NoteHolds, AllNotes}
use Rattle.pc_rule_law.specs.Rule.{Own, Shared}
use Rattle.pc_rule_law.proofs.Keeping.{Grows, note_stays}
use Rattle.pc_protocol.specs.Histories.{History}
use Rattle.pc_exchange_law.specs.Ties.{CellsAreSound}
use Rattle.pc_exchange_law.specs.Attempts.{Scripts}
use Rattle.pc_exchange_law.specs.Passes.{PassKnows, IsKnown}
use Rattle.pc_exchange_law.specs.OwnSlots.{OwnsSlots}
use Rattle.pc_exchange_law.specs.ViewNotes.{KeepsViewNotes, ViewNotesStay}
use Rattle.pc_exchange_law.specs.Worlds.{World}
use Rattle.pc_exchange_law.proofs.ExchangeSteps.{store_step, publish_step, draw_step, refuse_step, success_step}
use Rattle.pc_exchange_law.proofs.ExchangeSteps.{failure_step, withdraw_step, take_step, clear_step}

keeps_notes : (z : Size) (b : Board) (t : Past) (b' : Board) (t' : Past) → Grows b t b' t' → KeepsViewNotes z b t b' t'
keeps_notes z b t b' t' grows x holds = (note_stays b b' t t' grows x holds.0, holds.1)

pub view_notes_stay : (form : Form) (z : Size) (id : ℕ) (b : Board) (t : Past) (w : Scripts) (h : History)
    (late : ℕ → Bool) (v : View) (k : PassKnows) → z.seats ≤ 32 → Shared (CellsAreSound form) z b t
    → World form z b t w h late
    → Own z b.install t.course id v
    → AllNotes (NoteHolds z b t) v.notes → IsKnown b t w h late id k → OwnsSlots z h id k.own k.slots → ViewNotesStay form z id b t h v k
view_notes_stay form z id b t w h late v k few shared world own noted known owned = record {
  stores = λ place x may. keeps_notes z b t _ _
      (store_step form z few id b t w h late shared world v own noted k known owned place x may).0.grows;
  publishes = λ path x c keys used_path may. keeps_notes z b t _ _
      (publish_step form z few id b t w h late shared world v own noted k known owned path x c keys used_path may).0.grows;
  draws = λ p a may. keeps_notes z b t _ _
      (draw_step form z few id b t w h late shared world v own noted k known owned p a may).1.0.grows;
  refuses = λ ready. keeps_notes z b t _ _
      (refuse_step form z few id b t w h late shared world v own noted k known owned ready).1.0.grows;
  succeeds = λ p s small pending may. keeps_notes z b t _ _
      (success_step form z few id b t w h late shared world v own noted k known owned p s small pending may).0.grows;
  fails = λ p cause small pending in_range may. keeps_notes z b t _ _
      (failure_step form z few id b t w h late shared world v own noted k known owned p cause small pending in_range may).0.grows;
  withdraws = λ pending. keeps_notes z b t _ _
      (withdraw_step form z few id b t w h late shared world v own noted k known owned pending).0.grows;
  takes = λ p a n f x is small may. keeps_notes z b t _ _
      (take_step form z few id b t w h late shared world v own noted k known owned p a n f x is small may).0.grows;
  clears = λ st decided may. keeps_notes z b t _ _
      (clear_step form z few id b t w h late shared world v own noted k known owned st decided may).0.grows;
}
