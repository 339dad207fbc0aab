-- A step leaves what the other passes know, and the notes of the one that steps. And a board opens so.
use Rattle.std.proofs.Common.{◌≡◌, ◌≢◌, ℕ, ◌<◌, ◌≤◌, Bool, false, [], refl, sym, ◌∙◌, subst, arith}
use Rattle.std.proofs.lemmas.Bool.Decides.{nat_tests}
use Rattle.pc_model.specs.declared.cell.Field.{Field}
use Rattle.pc_model.specs.declared.cell.Field.TheVariants.{Version}
use Rattle.pc_model.specs.Cells.{Cells, IsEven, IsOdd}
use Rattle.pc_model.specs.Forms.{Form, IsSound}
use Rattle.pc_model.specs.Linked.{opening_cells}
use Rattle.pc_rule_law.specs.Board.{Size, Board}
use Rattle.pc_rule_law.specs.Past.{Has, Past}
use Rattle.pc_rule_law.specs.Openings.{opening_board, opening_attempt, opening_words}
use Rattle.pc_rule_law.specs.Seats.{opening_past}
use Rattle.pc_rule_law.proofs.Lists.{none_has}
use Rattle.pc_protocol.specs.Histories.{History}
use Rattle.pc_protocol.specs.Links.{LinksRule}
use Rattle.pc_protocol.specs.Notes.{Note, IsTrueNote}
use Rattle.pc_protocol.proofs.LinkSteps.{links_law}
use Rattle.pc_exchange_law.specs.Slots.{SoundIsLinked}
use Rattle.pc_exchange_law.specs.Ties.{seat_in, last_stamp}
use Rattle.pc_exchange_law.specs.TieLaws.{opening_history, HasOpened}
use Rattle.pc_exchange_law.specs.Attempts.{Scripts, AttemptNote, IsTrueAttemptNote}
use Rattle.pc_exchange_law.specs.AttemptSteps.{no_scripts}
use Rattle.pc_exchange_law.specs.Passes.{PassKnows, IsKnown}
use Rattle.pc_exchange_law.specs.Wholes.{knows_nothing}
use Rattle.pc_exchange_law.specs.Worlds.{World}
use Rattle.pc_exchange_law.proofs.AttemptNotes.{attempt_note_stays, attempt_stays}
use Rattle.pc_exchange_law.proofs.ClockEnds.{clock_ends}
use Rattle.pc_exchange_law.proofs.OwnAttempts.{attempts_open}
use Rattle.pc_exchange_law.proofs.TieOpenings.{openings_are_tied}
use Rattle.pc_exchange_law.proofs.Worlds.{Goes}

module _ (form : Form) (z : Size) (id : ℕ) (b : Board) (t : Past) (w : Scripts) (h : History) (late : ℕ → Bool) (b' : Board)
    (t' : Past) (w' : Scripts) (h' : History) (late' : ℕ → Bool)
    (goes : Goes form z id b t w h late b' t' w' h' late') where
  pub noted_still : (k : PassKnows) → ((n : AttemptNote) → Has k.noted n → IsTrueAttemptNote b t w n)
      → (n : AttemptNote) → Has k.noted n → IsTrueAttemptNote b' t' w' n
  noted_still k noted n has = attempt_note_stays b t w b' t' w' goes.attempts n (noted n has)

  pub told_still : (k : PassKnows) → ((n : Note) → Has k.told n → IsTrueNote h n) → (n : Note) → Has k.told n
      → IsTrueNote h' n
  told_still k told n has = goes.keeps.notes n (told n has)

  -- of another pass all stays
  pub known_still : (j : ℕ) (k : PassKnows) → j < 64 → j ≢ id → IsKnown b t w h late j k → IsKnown b' t' w' h' late' j k
  known_still j k small ne known = record {
    own = attempt_stays id j b h b' h' k.own goes.leaves_attempts small ne known.own;
    ready = λ is. goes.leaves_late j ne ∙ known.ready is;
    noted = noted_still k known.noted;
    told = told_still k known.told;
  }

-- a pass that is made knows what its maker has noted; its seat is as at the opening until then
pub made_known : (b : Board) (t : Past) (w : Scripts) (h : History) (late : ℕ → Bool) (i j seat : ℕ) (z : Size) (k : PassKnows)
    → IsKnown b t w h late i k → IsKnown b t w h late j (knows_nothing z seat)
    → IsKnown b t w h late j (record (knows_nothing z seat) { noted = k.noted; told = k.told })
made_known b t w h late i j seat z k maker blank = record {
  own = blank.own;
  ready = blank.ready;
  noted = maker.noted;
  told = maker.told;
}

-- each slot of the opening is marked
slot_is_odd : (version n : ℕ) → IsEven version → n ≢ 1 → IsOdd (opening_cells version n Version)
slot_is_odd version n even ne = grind (arith, nat_tests)

module _ (form : Form) (z : Size) (cells : Cells) where
  abbrev b0 : Board
  b0 = opening_board z cells []

  abbrev t0 : Past
  t0 = opening_past cells (opening_attempt []) (opening_words []) false

  abbrev h0 : History
  h0 = opening_history cells z.starts.stamp

  pub world_opens : ((n : ℕ) (f : Field) → cells n f ≡ opening_cells z.starts.version n f) → IsSound form z.slots cells
      → z.starts.stamp ≤ last_stamp → SoundIsLinked form
      → World form z b0 t0 no_scripts h0 (λ j. false)
  world_opens usual sound early lawful =
      let first : IsEven z.starts.version = subst IsEven (usual 1 Version) (lawful z.slots cells sound).sentinel in
      let marked : (n : ℕ) → n ≢ 1 → IsOdd (cells n Version) = λ n ne. subst IsOdd (sym (usual n Version)) (slot_is_odd z.starts.version n first ne) in
      let opened : HasOpened b0 t0 cells = openings_are_tied.usual z cells marked in record {
        rule = opened.rule;
        tied = opened.tied;
        scripts = (attempts_open z cells).scripts;
        clock = clock_ends.opening z.seats z.starts.stamp early;
        opened = usual;
        opening = sound;
        charged = λ p a. [];
        fits = λ p a small published. absurd published;
        based = λ x published. absurd published;
        seen = λ x published. absurd published;
        slots = record {
          links = subst (λ (c : Cells). LinksRule z.slots (opening_history c z.starts.stamp)) (λ i n f. sym (usual n f) i)
              (links_law.opening z.slots z.starts.version z.starts.stamp last_stamp seat_in first);
          sentinel = tt;
          changed = λ x a published. absurd published;
          visited = λ x v published. absurd published;
          plain = λ n f no. tt;
          made = λ x g u. absurd u;
        };
        lawful = lawful;
      }

  pub known_at_opening : (j : ℕ) → IsKnown b0 t0 no_scripts h0 (λ j. false) j (knows_nothing z j)
  known_at_opening j = record {
    own = (attempts_open z cells).own j;
    ready = λ _. refl;
    noted = λ n has. absurd (none_has n has);
    told = λ n has. absurd (none_has n has);
  }
