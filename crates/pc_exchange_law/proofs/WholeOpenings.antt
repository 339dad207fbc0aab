-- A board that opens keeps the whole rule, with its first pass.
use Rattle.std.proofs.Common.{◌≡◌, ℕ, zero, suc, ◌≤◌, true, false, List, [], ◌∷◌, refl, sym, subst}
use Rattle.atomic_table.specs.Table.{opening}
use Rattle.pc_model.specs.Cells.{Cells}
use Rattle.pc_model.specs.Forms.{Form, IsSound}
use Rattle.pc_model.specs.Linked.{opening_cells}
use Rattle.pc_rule_law.specs.Board.{Size, Board, Represents}
use Rattle.pc_rule_law.specs.Openings.{MayOpen, opening_board, opening_attempt, opening_words}
use Rattle.pc_rule_law.specs.Past.{Has, Past}
use Rattle.pc_rule_law.specs.Seats.{opening_past}
use Rattle.pc_rule_law.proofs.Openings.{no_words, may_open}
use Rattle.pc_rule_law.proofs.Lists.{all_none, each_one}
use Rattle.pc_rule_law.proofs.Seats.{opens}
use Rattle.pc_protocol.specs.Histories.{History}
use Rattle.pc_exchange_law.specs.AttemptSteps.{no_scripts}
use Rattle.pc_exchange_law.specs.Attempts.{Scripts}
use Rattle.pc_exchange_law.specs.Passes.{IsKnown}
use Rattle.pc_exchange_law.specs.Paths.{IsPathOf}
use Rattle.pc_exchange_law.specs.Ties.{last_stamp, CellsAreSound}
use Rattle.pc_exchange_law.specs.TieLaws.{opening_history}
use Rattle.pc_exchange_law.specs.WholeSeats.{first_whole}
use Rattle.pc_exchange_law.specs.Wholes.{SlotsAt, IsTakenIn, knows_nothing, WholeKept, WholeHolds}
use Rattle.pc_exchange_law.specs.OwnSlots.{OwnsSlots}
use Rattle.pc_exchange_law.specs.Slots.{SoundIsLinked}
use Rattle.pc_exchange_law.proofs.OwnSlots.{slots_open}
use Rattle.pc_exchange_law.specs.Worlds.{World}
use Rattle.pc_exchange_law.proofs.Passes.{world_opens, known_at_opening}
use Rattle.pc_exchange_law.proofs.Paths.{empty_path}

-- where no exchange is given, no word of a descriptor was written
none_written : (p a place : ℕ) → opening_words [] p a place ≡ 0
none_written p zero place = no_words place
none_written p (suc zero) place = no_words place
none_written p (suc (suc a)) place = no_words place

module _ (form : Form) (z : Size) where
  abbrev cells : Cells
  cells = opening_cells z.starts.version

  abbrev b0 : Board
  b0 = opening_board z cells []

  abbrev t0 : Past
  t0 = opening_past cells (opening_attempt []) (opening_words []) false

  abbrev h0 : History
  h0 = opening_history cells z.starts.stamp

  scripts_open : no_scripts ≡ opening_words []
  scripts_open = λ i p a place. sym (none_written p a place) i

  known0 : (j : ℕ) → IsKnown b0 t0 t0.words h0 (λ i. false) j (knows_nothing z j)
  known0 j = subst (λ (w : Scripts). IsKnown b0 t0 w h0 (λ i. false) j (knows_nothing z j)) scripts_open
      (known_at_opening form z cells j)

  pub whole_opens : SoundIsLinked form → MayOpen (IsSound form) z cells false [] → z.starts.stamp ≤ last_stamp
      → WholeKept form z b0 t0 h0 (λ i. false) (first_whole z ∷ [])
  whole_opens lawful may early = record {
    kept = opens (CellsAreSound form) z b0 cells (opening_attempt []) (opening_words []) false []
        (may_open (CellsAreSound form) z cells false [] may);
    world = subst (λ (w : Scripts). World form z b0 t0 w h0 (λ i. false)) scripts_open
        (world_opens form z cells (λ n f. refl) may.sound_cells early lawful);
    known = each_one (first_whole z) (λ j u. u.view.live ≡ true → IsKnown b0 t0 t0.words h0 (λ i. false) j u.knows)
        (λ _. known0 0);
    paths = each_one (first_whole z) (λ j u. u.view.live ≡ true → IsPathOf h0 j u.path) (λ _. empty_path h0 0 false);
    owned = each_one (first_whole z) (λ j u. u.view.live ≡ true → OwnsSlots z h0 j u.knows.own u.knows.slots)
        (λ _. slots_open z cells z.starts.stamp 0);
    taken = each_one (first_whole z) (λ j u. u.view.live ≡ true → (s : SlotsAt) → Has u.taken s → IsTakenIn z t0 h0 s)
        (λ _. all_none (IsTakenIn z t0 h0));
    unmade = λ j _ _. known0 j;
    unowned = λ j _ _. slots_open z cells z.starts.stamp j;
    none_given = refl;
  }

  -- the words of the opening's board, with one pass
  pub whole_opening_holds : (ws : List ℕ) → SoundIsLinked form → MayOpen (IsSound form) z cells false [] → z.starts.stamp ≤ last_stamp
      → Represents z ws b0
      → WholeHolds form z (opening ws [] (first_whole z))
  whole_opening_holds ws lawful may early represents = record {
    board = b0;
    past = t0;
    history = h0;
    late = λ i. false;
    represents = represents;
    kept = whole_opens lawful may early;
  }
