-- A draw of a stamp for a read.
use Rattle.std.proofs.Common.{◌≡◌, ℕ, ◌+◌, ◌≤◌, [], inl, inr, ⊎_elim, refl, sym, subst}
use Rattle.std.proofs.lemmas.Bool.{cases_lt}
use Rattle.pc_rule_law.specs.Conditions.{IsFree}
use Rattle.pc_rule_law.specs.Past.{Has}
use Rattle.pc_rule_law.specs.Plays.{ClockLoaded}
use Rattle.pc_rule_law.proofs.Lists.{has_later}
use Rattle.pc_protocol.specs.Histories.{committed}
use Rattle.pc_protocol.specs.Notes.{clock_was, read_word, drew, verdict, in_run}
use Rattle.pc_exchange_law.specs.Knowing.{IsAboveSeen}
use Rattle.pc_exchange_law.specs.Ties.{last_stamp}
use Rattle.pc_exchange_law.specs.Wholes.{Whole}
use Rattle.pc_exchange_law.specs.WholePlays.{ClockSeen, ReadDrawn}
use Rattle.pc_kcas.specs.Obstacles.{GoesOn}
use Rattle.pc_kcas.proofs.Going.{goes_learnt}
use Rattle.pc_kcas.proofs.Learning.{clock_learnt}
use Rattle.pc_kcas.proofs.TakeWords.{free_later}

pub clock_goes : (x y : Whole) (r : ℕ) → ClockLoaded x.view r y.view → ClockSeen x.path x.knows r y.knows → GoesOn x y
clock_goes x y r told seen = goes_learnt x y (clock_learnt x y r told seen)

pub clock_free : (x y : Whole) (r : ℕ) → ClockLoaded x.view r y.view → ClockSeen x.path x.knows r y.knows → IsFree x.view → IsFree y.view
clock_free x y r told seen free = free_later x.view y.view (clock_learnt x y r told seen).view free

-- the pass goes on, with the same view
pub record Drawn (x y : Whole) : Type 0 where
  pub goes : GoesOn x y
  pub same : y.view ≡ x.view

pub draw_goes : (x y : Whole) (r : ℕ) → ReadDrawn x r y → Drawn x y
draw_goes x y r d = ⊎_elim
    (λ early. subst (Drawn x) (sym (d.stamped early)) record {
      goes = record { adds = ([], refl); size = refl; attempt = (refl, refl); noted = λ n h. h; told = λ n h. has_later (clock_was (r + 1)) x.knows.told n h; own = refl };
      same = refl;
    })
    (λ late. subst (Drawn x) (sym (d.refused late)) record {
      goes = record { adds = ([], refl); size = refl; attempt = (refl, refl); noted = λ n h. h; told = λ n h. has_later (clock_was r) x.knows.told n h; own = refl };
      same = refl;
    })
    (cases_lt r last_stamp)

pub draw_free : (x y : Whole) (r : ℕ) → ReadDrawn x r y → IsFree x.view → IsFree y.view
draw_free x y r d free = subst IsFree (sym (draw_goes x y r d).same) free

-- a draw that is refused tells the clock
pub refused_told : (x y : Whole) (r : ℕ) → ReadDrawn x r y → last_stamp ≤ r → Has y.knows.told (clock_was r)
refused_told x y r d late = subst (λ (u : Whole). Has u.knows.told (clock_was r)) (sym (d.refused late)) (0, refl)

-- a stamp that is above all that a pass has seen is above what it had seen before
pub above_before : (x y : Whole) (s : ℕ) → GoesOn x y → IsAboveSeen y.knows.told s → IsAboveSeen x.knows.told s
above_before x y s goes above = record {
  clock = λ c has. above.clock c (goes.told (clock_was c) has);
  stamps = λ t seen. above.stamps t (⊎_elim (λ drawn. inl (drawn.0, goes.told (drew drawn.0 t) drawn.1))
      (⊎_elim (λ won. inr (inl (won.0, goes.told (verdict won.0 (committed t)) won.1)))
      (λ read. inr (inr (read.0, goes.told (in_run t read.0) read.1)))) seen);
  reads = λ n v x b f has. above.reads n v x b f (goes.told (read_word n v f x b) has);
}
