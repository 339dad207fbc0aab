-- A board that opens with nothing published is tied to the history that opens with its cells, in which the sentinel is used, and
-- every slot is free and marked.
use Rattle.std.proofs.Common.{◌≡◌, ℕ, zero, suc, [], refl, sym, ap, ◌∙◌, subst, false}
use Rattle.pc_model.specs.declared.cell.Field.{Field}
use Rattle.pc_model.specs.Cells.{Cells}
use Rattle.pc_model.specs.Exchanges.{Changed}
use Rattle.pc_rule_law.specs.Board.{Board}
use Rattle.pc_rule_law.specs.Past.{Has, Past}
use Rattle.pc_rule_law.specs.Openings.{opening_board, opening_attempt, opening_words}
use Rattle.pc_rule_law.specs.Seats.{opening_past}
use Rattle.pc_rule_law.proofs.Lists.{none_has}
use Rattle.pc_protocol.specs.Histories.{cells_now, IsUsed}
use Rattle.pc_protocol.specs.Openings.{opening_slots}
use Rattle.pc_protocol.proofs.Openings.{rule_at_opening}
use Rattle.pc_exchange_law.specs.Ties.{seat_in, last_stamp, reference_in, IsSeated}
use Rattle.pc_exchange_law.specs.TieLaws.{opening_history, OpensIdle, HasOpened, OpeningsAreTied}
use Rattle.pc_exchange_law.proofs.Statuses.{idle_before}

-- nothing has happened yet
at_start : (cells : Cells) (start n : ℕ) (f : Field) → cells_now (opening_history cells start) n f ≡ cells n f
at_start cells zero n f = refl
at_start cells (suc start) n f = at_start cells start n f

pub opening_tied : (b : Board) (t : Past) (cells : Cells) → OpensIdle b t cells → HasOpened b t cells
opening_tied b t cells opens = record {
  rule = rule_at_opening cells b.clock last_stamp seat_in opening_slots
      (λ n not_used. opens.marked n (λ first. not_used (subst (λ (i : ℕ). IsUsed (opening_slots i)) (sym first) tt)));
  tied = record {
    clock = refl;
    last = refl;
    owners = λ x. refl;
    references = λ n f. ap reference_in (sym (opens.words n f));
    seated = λ n f. subst IsSeated (sym (opens.words n f)) tt;
    plain = λ n f. sym (opens.plain n f);
    cells = λ n f. opens.cells_are n f ∙ sym (at_start cells b.clock n f);
    stages = λ p a small. record {
      before = λ lt u. u;
      present = λ e. idle_before (b.status p).stage (opens.idle p);
      later = λ lt. refl;
    };
    published = λ p a x small le has. absurd (opens.attempts p a x le has);
    exchanges = λ p a small published. absurd published;
    uncleared = λ x. refl;
  };
}

no_changes : (p a : ℕ) (x : Changed) → Has (opening_attempt [] p a).changes x → ⊥
no_changes p zero x has = none_has x has
no_changes p (suc zero) x has = none_has x has
no_changes p (suc (suc a)) x has = none_has x has

pub openings_are_tied : OpeningsAreTied
openings_are_tied = record {
  any = opening_tied;
  usual = λ z cells marked. opening_tied (opening_board z cells []) (opening_past cells (opening_attempt []) (opening_words []) false) cells
      (record {
        words = λ n f. refl;
        idle = λ p. tt;
        plain = λ n f. refl;
        cells_are = λ n f. refl;
        marked = marked;
        attempts = λ p a x le has. no_changes p a x has;
      });
}
