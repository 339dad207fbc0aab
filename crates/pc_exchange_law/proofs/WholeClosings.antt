-- A board that closes under the whole rule has the cells that its run leaves.
use Rattle.std.proofs.Common.{◌≡◌, ℕ, Bool, true, List, [], ◌∷◌, sym, ap, ◌∙◌, subst}
use mathlib.Core.Option.{some}
use lib.ListN.{get_elem?}
use Rattle.atomic_table.specs.Table.{Final, Seen}
use Rattle.pc_model.specs.declared.cell.Field.TheVariants.{Version}
use Rattle.pc_model.specs.Cells.{Cells, IsEven, IsOdd}
use Rattle.pc_model.specs.Forms.{Form}
use Rattle.pc_rule_law.specs.Board.{Size, Board, Represents}
use Rattle.pc_rule_law.specs.Conditions.{IsFree}
use Rattle.pc_rule_law.specs.Past.{Has, Past}
use Rattle.pc_rule_law.proofs.Closings.{closed_by}
use Rattle.pc_rule_law.proofs.Lists.{all_both, all_one}
use Rattle.pc_protocol.specs.Histories.{History, cells_now, IsSpare}
use Rattle.pc_protocol.specs.Rules.{Rule}
use Rattle.pc_protocol.proofs.Stages.{spare_not_used}
use Rattle.pc_exchange_law.specs.Ties.{CellsAreSound}
use Rattle.pc_exchange_law.specs.Attempts.{AreScripts, AttemptNote, IsTrueAttemptNote}
use Rattle.pc_exchange_law.specs.OwnSlots.{OwnsSlots}
use Rattle.pc_exchange_law.specs.TieLaws.{RunTells}
use Rattle.pc_exchange_law.specs.WholeSeats.{IsWholeClosed}
use Rattle.pc_exchange_law.specs.Wholes.{SlotsAt, Whole, slots_at, views_of, WholeKept, WholeHolds}
use Rattle.pc_exchange_law.proofs.TieRuns.{run_tells}
use Rattle.pc_exchange_law.proofs.WholeKeeping.{at_view, own_here, known_here, owned_here}

-- a node that is unmarked in the cells is no spare
unmarked_no_spare : (h : History) → Rule h → (n : ℕ) → IsEven (cells_now h n Version) → IsSpare (h.slot n) → ⊥
unmarked_no_spare h rule n even is_spare =
    let odd : IsOdd (cells_now h n Version) = rule.unused n (λ u. spare_not_used (h.slot n) is_spare u) in
    absurd (let clash : 0 ≡ 1 = sym even ∙ odd in cc)

module _ (form : Form) (z : Size) where
  pub whole_closed : (b : Board) (t : Past) (h : History) (late : ℕ → Bool) (views : List Whole)
      → WholeKept form z b t h late views → (id : ℕ) (x : Whole) → get_elem? views id ≡ some x → x.view.live ≡ true
      → x.view.last ≡ true → x.view.rest ≡ 0 → IsFree x.view → (ws : List ℕ) → Represents z ws b
      → IsWholeClosed form z x ws
  whole_closed b t h late views k id x at live last all free ws represents =
      let c = closed_by (CellsAreSound form) z b t (views_of views) id x.view ws k.kept
      (at_view form z b t h late views k id x at live) live last all free represents in
      let known = known_here form z b t h late views k id x at live in
      let run : RunTells b t h = run_tells b t h k.world.rule k.world.tied in record {
        closed = c.0;
        past = t;
        history = h;
        begins = k.world.opened;
        run = subst (λ (u : Board). RunTells u t h) (sym c.1) run;
        exchanges = k.world.tied.exchanges;
        scripts = subst (λ (u : Board). AreScripts z.slots u t t.words) (sym c.1) k.world.scripts;
        noted = subst (λ (u : Board). (n : AttemptNote) → Has x.knows.noted n → IsTrueAttemptNote u t t.words n) (sym c.1) known.noted;
        told = known.told;
        owned = all_both (λ (s : SlotsAt). OwnsSlots z h s.seat s.own s.slots) x.taken (slots_at x ∷ [])
            (λ s has. (k.taken id x at live s has).owned)
            (all_one (λ (s : SlotsAt). OwnsSlots z h s.seat s.own s.slots) (slots_at x)
            (subst (λ (j : ℕ). OwnsSlots z h j x.knows.own x.knows.slots) (sym (own_here form z b t h late views k id x at live).seated.0)
            (owned_here form z b t h late views k id x at live)));
        leaves = λ n f. run.leaves n f ∙ ap (λ (u : Cells). u n f) (sym c.2);
        shown = λ n f even. let here : c.0.cells ≡ t.cells = c.2 in let values : c.0.values ≡ t.plain = c.3 in
            ap (λ (u : Cells). u n f) values
            ∙ (sym (run.shown n f (unmarked_no_spare h k.world.rule n
            (subst IsEven (ap (λ (u : Cells). u n Version) here ∙ k.world.tied.cells n Version) even)))
            ∙ ap (λ (u : Cells). u n f) (sym here));
      }

  -- where the last pass has taken in all others and is free
  pub whole_closes : (id : ℕ) (x : Whole) (ws : List ℕ) (xs : List Bool) → Final (Seen (WholeHolds form z) id x) ws xs
      → x.view.live ≡ true → x.view.last ≡ true → x.view.rest ≡ 0 → IsFree x.view → IsWholeClosed form z x ws
  whole_closes id x ws xs final live last all free = let s = final.0 in let held = final.1.0 in
      whole_closed held.board held.past held.history held.late s.views held.kept id x final.1.1 live last all free ws
      (subst (λ (l : List ℕ). Represents z l held.board) final.2 held.represents)
