-- Loads by which a pass visits and reads under the whole rule, and by which an operation begins and ends.
use Rattle.std.proofs.Common.{◌≡◌, ℕ, true, false, [], refl, sym, ◌∙◌, subst}
use mathlib.Core.Option.{none}
use Rattle.atomic_table.specs.Table.{step, Allows}
use Rattle.pc_model.specs.declared.cell.Field.{Field}
use Rattle.pc_model.specs.declared.cell.Field.TheVariants.{Version}
use Rattle.pc_model.specs.Forms.{Form}
use Rattle.pc_words.specs.declared.word.WordKind.{WordKind}
use Rattle.pc_words.specs.Words.{raw, kind}
use Rattle.pc_words.proofs.Words.{kind_raw}
use Rattle.pc_rule_law.specs.Board.{Size, at_epoch, at_cell, address, Inside}
use Rattle.pc_rule_law.specs.Plays.{SameSeat}
use Rattle.pc_rule_law.specs.Views.{NoteHolds}
use Rattle.pc_rule_law.proofs.Keeping.{noted_more}
use Rattle.pc_rule_law.proofs.Lists.{all_none}
use Rattle.pc_protocol.specs.Histories.{History}
use Rattle.pc_protocol.specs.Notes.{visited, read_word, IsTrueNote}
use Rattle.pc_exchange_law.specs.Ties.{CellsAreSound}
use Rattle.pc_exchange_law.specs.Paths.{Path, IsPathOf, dropped, begun_path, ended_path, with_visit, with_read}
use Rattle.pc_exchange_law.specs.Wholes.{Whole, views_of, WholeHolds}
use Rattle.pc_exchange_law.specs.WholePlays.{WholeMine, SeesRead, SeesVisit, BeginsPath, EndsPath}
use Rattle.pc_exchange_law.specs.WholeSteps.{whole_reads, whole_visits, whole_visits_first, whole_begins_path, whole_ends_path}
use Rattle.pc_exchange_law.specs.Slots.{IsHeld}
use Rattle.pc_protocol.proofs.Stages.{used_not_spare}
use Rattle.pc_exchange_law.proofs.Paths.{empty_path, visit_is_path, read_is_path}
use Rattle.pc_exchange_law.proofs.TieTelling.{board_tells}
use Rattle.pc_exchange_law.proofs.WholeCells.{held_here, cell_looks_on}
use Rattle.pc_exchange_law.proofs.WholeKeeping.{at_view, known_here, path_here, whole_looked}
use Rattle.pc_exchange_law.proofs.WholeLooks.{plain_there}
use Rattle.pc_exchange_law.proofs.WholeSteps.{WholeLooks, whole_looked_at}

module _ (form : Form) (z : Size) where
  -- a word that counts as a read
  whole_read_looks : (id : ℕ) (x : Whole) (n : ℕ) (f : Field) → x.view.live ≡ true → IsHeld x.knows n → Inside z (at_cell n f)
      → WholeLooks form z id x (at_cell n f) (λ r y. SameSeat x.view y.view × SeesRead x r y (at_cell n f))
  whole_read_looks id x n f live held in_p b t h late views k at =
      let is_used = held_here form z b t h late views k id x at live n held in
      let w : WordKind = kind (raw (b.cell n f)) in
      let same : w ≡ b.cell n f = kind_raw (b.cell n f) (k.kept.shared.ranges n f) in
      let path : IsPathOf h id (with_read x.path n f w) = read_is_path h id x.path
      (path_here form z b t h late views k id x at live) n f w
      (λ v u c is was. (
        b.clock,
        subst (λ (i : ℕ). IsTrueNote h (read_word n u f i b.clock))
            (plain_there form z b t k.kept.shared n f v (sym same ∙ is))
            ((board_tells b t h k.world.rule k.world.tied).word n u c f (used_not_spare (h.slot n) is_used) was),
      )) in
      let g = cell_looks_on form z id x n f live in_p b t h late views k at is_used [] (all_none (NoteHolds z b t))
      (with_read x.path n f w) path in (g.0, g.1, (g.2.0, (g.2.1, g.2.3)))

  -- a load of a word of a node that counts as a read
  pub whole_read : (slots id : ℕ) (me : WholeMine) (n : ℕ) (f : Field) → me.0.view.size ≡ z → me.0.view.live ≡ true
      → IsHeld me.0.knows n → Inside z (at_cell n f)
      → Allows (WholeHolds form z) slots id me (address z (at_cell n f)) (λ r. r)
      (whole_reads (step slots (address z (at_cell n f)) 0 0 none) me)
  whole_read slots id me n f sized live held in_p = whole_looked_at form z slots id me (at_cell n f) (SeesRead me.0) in_p sized
      (whole_read_looks id me.0 n f live held in_p)

  -- a version that counts as a visit, of a path that is so where the pass's own is
  whole_visit_looks : (id : ℕ) (x : Whole) (q : Path) (n : ℕ) → ((h : History) → IsPathOf h id x.path → IsPathOf h id q)
      → x.view.live ≡ true → IsHeld x.knows n → Inside z (at_cell n Version)
      → WholeLooks form z id x (at_cell n Version) (λ r y. SameSeat x.view y.view × SeesVisit q x r y (at_cell n Version))
  whole_visit_looks id x q n is_path live held in_p b t h late views k at =
      let is_used = held_here form z b t h late views k id x at live n held in
      let w : WordKind = kind (raw (b.cell n Version)) in
      let same : w ≡ b.cell n Version = kind_raw (b.cell n Version) (k.kept.shared.ranges n Version) in
      let path : IsPathOf h id (with_visit q n w) = visit_is_path h id q
      (is_path h (path_here form z b t h late views k id x at live)) n w is_used
      (λ v is. (
        b.clock,
        subst (λ (i : ℕ). IsTrueNote h (visited n i b.clock))
            (plain_there form z b t k.kept.shared n Version v (sym same ∙ is))
            ((board_tells b t h k.world.rule k.world.tied).version n (used_not_spare (h.slot n) is_used)),
      )) in
      let g = cell_looks_on form z id x n Version live in_p b t h late views k at is_used [] (all_none (NoteHolds z b t))
      (with_visit q n w) path in (g.0, g.1, (g.2.0, (g.2.1, g.2.3)))

  -- a load of a version that counts as a visit: one more of the path
  pub whole_visit : (slots id : ℕ) (me : WholeMine) (n : ℕ) → me.0.view.size ≡ z → me.0.view.live ≡ true
      → me.0.path.begun ≡ true → IsHeld me.0.knows n → Inside z (at_cell n Version)
      → Allows (WholeHolds form z) slots id me (address z (at_cell n Version)) (λ r. r)
      (whole_visits (step slots (address z (at_cell n Version)) 0 0 none) me)
  whole_visit slots id me n sized live begun held in_p = whole_looked_at form z slots id me (at_cell n Version)
      (SeesVisit me.0.path me.0) in_p sized (whole_visit_looks id me.0 me.0.path n (λ h is. is) live held in_p)

  -- the first one of a path that begins anew
  pub whole_first_visit : (slots id : ℕ) (me : WholeMine) (n : ℕ) → me.0.view.size ≡ z → me.0.view.live ≡ true
      → me.0.path.begun ≡ true → IsHeld me.0.knows n → Inside z (at_cell n Version)
      → Allows (WholeHolds form z) slots id me (address z (at_cell n Version)) (λ r. r)
      (whole_visits_first (step slots (address z (at_cell n Version)) 0 0 none) me)
  whole_first_visit slots id me n sized live begun held in_p = whole_looked_at form z slots id me (at_cell n Version)
      (SeesVisit (dropped me.0.path) me.0) in_p sized
      (whole_visit_looks id me.0 (dropped me.0.path) n (λ h _. empty_path h id me.0.path.begun) live held in_p)

  -- a look at the epoch, of which nothing is told, after which the pass has this path
  whole_epoch_looks : (id : ℕ) (x : Whole) (p : Path) → ((h : History) → IsPathOf h id p) → x.view.live ≡ true
      → WholeLooks form z id x at_epoch (λ _ y. SameSeat x.view y.view × (y ≡ record x { path = p }))
  whole_epoch_looks id x p is_path live b t h late views k at = let y : Whole = record x { path = p } in (
    y,
    whole_looked form z b t h late views k id x at live y
        (noted_more (CellsAreSound form) z b t (views_of views) id x.view [] k.kept (at_view form z b t h late views k id x at live)
        live (all_none (NoteHolds z b t))) (known_here form z b t h late views k id x at live) (refl, refl, refl) (is_path h),
    ((refl, refl, refl, refl, refl), refl),
  )

  -- a load of the epoch with which an operation begins, and one with which it ends
  pub whole_begin_path : (slots id : ℕ) (me : WholeMine) → me.0.view.size ≡ z → me.0.view.live ≡ true
      → Allows (WholeHolds form z) slots id me (address z at_epoch) (λ r. r)
      (whole_begins_path (step slots (address z at_epoch) 0 0 none) me)
  whole_begin_path slots id me sized live = whole_looked_at form z slots id me at_epoch (λ _. BeginsPath me.0) tt sized
      (whole_epoch_looks id me.0 begun_path (λ h. empty_path h id true) live)

  pub whole_end_path : (slots id : ℕ) (me : WholeMine) → me.0.view.size ≡ z → me.0.view.live ≡ true
      → Allows (WholeHolds form z) slots id me (address z at_epoch) (λ r. r)
      (whole_ends_path (step slots (address z at_epoch) 0 0 none) me)
  whole_end_path slots id me sized live = whole_looked_at form z slots id me at_epoch (λ _. EndsPath me.0) tt sized
      (whole_epoch_looks id me.0 ended_path (λ h. empty_path h id false) live)
