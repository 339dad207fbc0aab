-- All that holds of a board and of what is remembered, beside the rule of the board as it stands: the history with the
-- protocol's rule, its tie, the descriptors, the clock, that the exchanges keep cells sound, and what they rest on.
use Rattle.std.specs.Prelude.{◌≡◌, ℕ, ◌<◌, Bool, List}
use Rattle.pc_model.specs.declared.cell.Field.{Field}
use Rattle.pc_model.specs.Forms.{Form, IsSound, Fits}
use Rattle.pc_model.specs.Linked.{opening_cells}
use Rattle.pc_rule_law.specs.Board.{Size, Board}
use Rattle.pc_rule_law.specs.Past.{Past}
use Rattle.pc_protocol.specs.Histories.{History, IsPublished}
use Rattle.pc_protocol.specs.Notes.{saw, IsTrueNote}
use Rattle.pc_protocol.specs.Rules.{Rule}
use Rattle.pc_protocol.specs.Bases.{IsBased}
use Rattle.pc_exchange_law.specs.Ties.{code, exchange_of, IsTied}
use Rattle.pc_exchange_law.specs.Attempts.{Scripts, AreScripts}
use Rattle.pc_exchange_law.specs.ClockEnds.{ClockIsBounded}
use Rattle.pc_exchange_law.specs.Slots.{SoundIsLinked, SlotsKept}

-- all that the exchange visits and reads was seen to be so before it was published
abbrev pub HasSeen : History → ℕ → Type 0
HasSeen h x = IsTrueNote h (saw (h.published_at x) (h.op x))

pub record World (form : Form) (z : Size) (b : Board) (t : Past) (w : Scripts) (h : History) (late : ℕ → Bool)
    : Type 0 where
  pub rule : Rule h
  pub tied : IsTied b t h
  pub scripts : AreScripts z.slots b t w
  pub clock : ClockIsBounded z.seats b.clock late
  -- the run begins with the cells of the opening, which are sound; and each exchange fits with the keys that it charges
  pub opened : (n : ℕ) (f : Field) → h.opening n f ≡ opening_cells z.starts.version n f
  pub opening : IsSound form z.slots h.opening
  pub charged : ℕ → ℕ → List ℕ
  pub fits : (p a : ℕ) → p < 64 → IsPublished (h.stage (code p a))
      → Fits form z.slots (exchange_of (t.attempt p a)) (charged p a)
  -- the words of each exchange had their old numbers at the versions that it covers
  pub based : (x : ℕ) → IsPublished (h.stage x) → IsBased h x
  -- and what it visits and reads was so before it was published
  pub seen : (x : ℕ) → IsPublished (h.stage x) → HasSeen h x
  -- the slots of nodes, and that sound cells are linked
  pub slots : SlotsKept z b h
  pub lawful : SoundIsLinked form
