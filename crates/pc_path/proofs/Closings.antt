-- Each word that a pass read at the version from which its exchange changes the node has that number in front of the exchange.
use Rattle.std.proofs.Common.{◌≡◌, ℕ, ◌<◌, ◌≤◌, List, Some, sym, ◌∙◌, arith}
use mathlib.Core.Option.{some}
use lib.ListN.{get_elem?}
use Rattle.pc_model.specs.declared.cell.Field.{Field}
use Rattle.pc_model.specs.declared.cell.Field.TheVariants.{Version}
use Rattle.pc_model.specs.declared.shape.Shape.{Ghosts}
use Rattle.pc_model.specs.Cells.{Cells}
use Rattle.pc_model.specs.Exchanges.{Exchange, Stands}
use Rattle.pc_history.specs.Footprints.{IsAmong}
use Rattle.pc_history.specs.WorldRuns.{Stamped, cells_before}
use Rattle.pc_history.proofs.Footprints.{change_stands}
use Rattle.pc_history.proofs.WorldRuns.{stands_before}
use Rattle.pc_protocol.specs.Histories.{committed}
use Rattle.pc_protocol.specs.Notes.{Note, published, verdict, read_word}
use Rattle.pc_protocol.specs.Seeing.{ChangesVersion}
use Rattle.pc_rule_law.specs.Past.{Has}
use Rattle.pc_exchange_law.specs.Ties.{code}
use Rattle.pc_rule.specs.declared.board.Pass.{Pass}
use Rattle.pc_rule.specs.declared.closed.Closed.{Closed}
use Rattle.pc_rule.specs.Left.{told_by, IsLeftByRun}
use Rattle.pc_rule.specs.Passes.{whole, view, knows}
use Rattle.pc_rule.proofs.Noted.{told_among}
use Rattle.pc_path.specs.Closings.{StillHas, ReadsCount}
use Rattle.pc_path.specs.Exchanges.{HasTakenPlace}

module _ {H : Type 0} {S : Ghosts H} (c : Closed H S) (opening : Cells) (passes : List (Pass H S)) (left : IsLeftByRun c opening passes)
    (i : ℕ) (p : Pass H S) (at : get_elem? passes i ≡ some p) (small : (view p).seat < 64) (seen : List Note) (still : StillHas p seen) where
  module _ (e : Exchange) (s : ℕ) (taken : HasTakenPlace seen (whole p) e s) where
    among : (n : Note) → Has (knows p).told n → Has (told_by passes) n
    among n has = told_among passes i p at n has

    won : IsAmong (record { stamp = s; what = e }) left.run × (left.maker s ≡ Some (code (view p).seat taken.attempt)) × (taken.clock ≤ s)
    won = left.won (view p).seat taken.attempt s taken.clock e small
        (among (published (code (view p).seat taken.attempt) e taken.clock) taken.noted)
        (among (verdict (code (view p).seat taken.attempt) (committed s)) taken.won)

    stands : Stands e (cells_before left.begin left.run s)
    stands = stands_before left.begin 0 left.run left.stands (record { stamp = s; what = e }) won.0

    has_version : (n v : ℕ) → ChangesVersion e n v → cells_before left.begin left.run s n Version ≡ v
    has_version n v changes = let at_change = change_stands (cells_before left.begin left.run s) e.changes changes.change stands.changes changes.among in
        sym (λ j. cells_before left.begin left.run s (changes.is_of.0 j) (changes.is_of.1 j)) ∙ at_change ∙ changes.old

    pub read_counts : (n v k b : ℕ) (f : Field) → Has seen (read_word n v f k b) → ChangesVersion e n v
        → cells_before left.begin left.run s n f ≡ k
    read_counts n v k b f has changes = left.reads_stand n v k b f (among (read_word n v f k b) (still (read_word n v f k b) has))
        (record { stamp = s; what = e }) won.0
        (let before : b ≤ taken.clock = taken.above.reads n v k b f has in let since : taken.clock ≤ s = won.2 in omega arith)
        (has_version n v changes)
