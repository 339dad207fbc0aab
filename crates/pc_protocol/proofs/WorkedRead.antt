-- A worked read, after an exchange took effect: a stamp is drawn for it, the version that it visited is looked at, and it
-- takes effect; nothing but the run changes.
use Rattle.std.proofs.Common.{◌≡◌, ℕ, ◌%◌, inl, ⊎_elim, [], ◌∷◌, None, refl, sym, subst, arith}
use Rattle.pc_model.specs.declared.cell.Field.TheVariants.{Left}
use Rattle.pc_model.specs.Exchanges.{Visited, Seen, Exchange}
use Rattle.pc_history.specs.WorldRuns.{run_of}
use Rattle.pc_protocol.specs.Histories.{for_read, History, cells_now}
use Rattle.pc_protocol.specs.Seeing.{Covers}
use Rattle.pc_protocol.specs.Notes.{value, visited, read_word, saw, looked, IsTrueNote}
use Rattle.pc_protocol.specs.Steps.{Keeps, draw, take_read, CanRead}
use Rattle.pc_protocol.specs.Telling.{IsNoted}
use Rattle.pc_protocol.specs.Serving.{HasPassedByNotes}
use Rattle.pc_protocol.specs.ProtocolLaws.{StandsInRun}
use Rattle.pc_protocol.proofs.Draws.{read_draw_keeps}
use Rattle.pc_protocol.proofs.Reading.{read_keeps}
use Rattle.pc_protocol.proofs.Owned.{steps_keep_owned}
use Rattle.pc_protocol.proofs.Protocol.{rule_tells}
use Rattle.pc_protocol.proofs.Worked.{hang, cleared, cleared_rule}

-- the sentinel was visited at its version, and its left link read
abbrev read_link : Exchange
read_link = record {
  visits = record { node = 1; version = 2 } ∷ [];
  reads = record { node = 1; field = Left; number = 2 } ∷ [];
  changes = [];
  fresh = None;
}

abbrev reading : History
reading = draw cleared (for_read 0)

abbrev read_done : History
read_done = take_read reading 2 read_link

-- what the walk noted
visit_note : IsTrueNote cleared (visited 1 2 2)
visit_note = (rule_tells cleared cleared_rule).loads.version 1 (λ spare. spare)

word_note : IsTrueNote cleared (read_word 1 2 Left 2 2)
word_note = (rule_tells cleared cleared_rule).loads.word 1 2 2 Left (λ spare. spare) visit_note

noted : IsNoted cleared read_link
noted = record {
  visits = λ v among. ⊎_elim
      (λ e. subst (λ (w : Visited). (w.version % 2 ≡ 0) × ((b : ℕ) × IsTrueNote cleared (visited w.node w.version b)))
      (sym e) (refl, (2, visit_note)))
      (λ none'. absurd none') among;
  reads = λ r among. ⊎_elim
      (λ e. subst (λ (q : Seen). (v : ℕ) × Covers read_link q.node v
      × ((b : ℕ) × IsTrueNote cleared (read_word q.node v q.field q.number b))) (sym e) (
        2,
        inl (record { visit = record { node = 1; version = 2 }; among = inl refl; node = refl; version = refl }),
        (2, word_note),
      ))
      (λ none'. absurd none') among;
}

reading_keeps : Keeps cleared reading
reading_keeps = read_draw_keeps cleared cleared_rule 0

saw_note : IsTrueNote reading (saw 2 read_link)
saw_note = reading_keeps.notes (saw 2 read_link) ((rule_tells cleared cleared_rule).loads.clock read_link noted)

look_note : IsTrueNote reading (looked 2 1 (value 2))
look_note = (rule_tells reading reading_keeps.rule).loads.look 2 1 (omega arith) (λ spare. spare)

may_read : CanRead reading 0 2 read_link
may_read = (rule_tells reading reading_keeps.rule).notes.read 0 2 2 read_link
    ((steps_keep_owned cleared cleared_rule).begins_read 0) refl refl (omega arith) saw_note
    (λ v among. ⊎_elim
    (λ e. subst (HasPassedByNotes reading 2) (sym e) (value 2, look_note, omega arith))
    (λ none'. absurd none') among)

read_keeps_all : Keeps reading read_done
read_keeps_all = read_keeps reading reading_keeps.rule 0 2 read_link may_read

the_run : run_of read_done.item read_done.clock
    ≡ record { stamp = 1; what = hang } ∷ record { stamp = 2; what = read_link } ∷ []
the_run = refl

it_stands : StandsInRun read_done 2 read_link
it_stands = (rule_tells read_done read_keeps_all.rule).item_stands 2 read_link refl

link_still : cells_now read_done 1 Left ≡ 2
link_still = refl
