-- What the words of a closed board say: by what stands when it closes, and later by what its type keeps. The type's fact is
-- truncated, so each of these is a proposition.
use Rattle.std.proofs.Common.{◌≡◌, ◌≢◌, ◌+◌, ◌≤◌, ℕ, zero, suc, List, [], ◌∷◌, sym, ap, ◌∙◌, subst, slice_index}
use mathlib.Core.Option.{some, some-injective, some-ne-none}
use lib.ListN.{get_elem?}
use Rattle.std.proofs.Math.Logic.{∥∥₁_elim}
use Rattle.std.proofs.Props.{props}
use Rattle.pc_model.specs.declared.cell.Field.{Field}
use Rattle.pc_model.specs.declared.shape.Shape.{Ghosts}
use Rattle.pc_model.specs.declared.cell.Field.TheVariants.{Version}
use Rattle.pc_model.specs.Cells.{Cells, IsEven, IsNode}
use Rattle.pc_model.specs.Forms.{Form, IsSound}
use Rattle.pc_model.specs.Exchanges.{Exchange as Exchanged}
use Rattle.pc_history.specs.Footprints.{IsAmong}
use Rattle.pc_history.specs.WorldRuns.{cells_after}
use Rattle.pc_protocol.specs.Histories.{Stage as Course, committed, Cause, aborted}
use Rattle.pc_protocol.specs.Notes.{Note, read_word, published, verdict, in_run, IsTrueNote}
use Rattle.pc_model.specs.Linked.{opening_cells}
use Rattle.pc_words.specs.declared.word.WordKind.{WordKind}
use Rattle.pc_words.specs.declared.word.WordKind.TheVariants.{Install, Exchange}
use Rattle.pc_words.specs.declared.status.Stage.{Stage}
use Rattle.pc_words.specs.declared.status.Stage.TheVariants.{Idle, Undecided, Succeeded, Withdrawn, Changed, Locked}
use Rattle.pc_words.specs.declared.status.Status.{Status}
use Rattle.pc_words.specs.Words.{kind, IsWord}
use Rattle.pc_words.specs.Statuses.{unpacked, StageInRange, StatusInRange, IsStatus}
use Rattle.pc_words.proofs.Statuses.{packed_unpacked, unpacked_in_range}
use Rattle.pc_exchange_law.specs.SlotCounts.{count_of, nodes_made}
use Rattle.pc_exchange_law.specs.Wholes.{SlotsAt, Whole, slots_at, all_slots_at}
use Rattle.pc_exchange_law.proofs.ShareCounts.{counts_resting}
use Rattle.pc_protocol.proofs.Stages.{same_stamp}
use Rattle.pc_exchange_law.specs.TieLaws.{run_up_to, maker_of}
use Rattle.pc_exchange_law.specs.Ties.{code, CellsAreSound}
use Rattle.pc_exchange_law.specs.WholeSeats.{IsWholeClosed}
use Rattle.pc_rule_law.specs.declared.share.Share.{Share}
use Rattle.pc_rule_law.specs.Past.{Has}
use Rattle.pc_rule_law.specs.Board.{Size, board_in, own_status, at_own, at_cell, place_number, address, start_of}
use Rattle.pc_rule_law.specs.Values.{IsPlainValue, HasPlainValue}
use Rattle.pc_rule_law.proofs.ReadingBack.{Refers, word_is_stored, is_no_install, status_is_stored, refers, left_has}
use Rattle.pc_rule.specs.declared.board.Board.{Board}
use Rattle.pc_rule.specs.declared.board.Pass.{Pass}
use Rattle.pc_rule.specs.declared.closed.Closed.{Closed}
use Rattle.pc_rule.specs.Closed.{closed_size}
use Rattle.pc_rule.specs.Left.{words_left, board_left, told_by, slots_by, IsLeftByRun}
use Rattle.pc_rule.specs.Passes.{whole, view, knows, board_size}
use Rattle.pc_rule.specs.Sizes.{size_from, IsOfClosed}
use Rattle.pc_rule.proofs.Noted.{slots_among}
use Rattle.pc_rule.proofs.Remaining.{closed_stands}

-- what stands at an index
pub index_at : (l : List ℕ) (i x : ℕ) → get_elem? l i ≡ some x → x ≡ slice_index l i
index_at [] i x at = absurd (some-ne-none x (sym at))
index_at (y ∷ ys) zero x at = sym (some-injective y x at)
index_at (y ∷ ys) (suc i) x at = index_at ys i x at

stage_prop : (s : Stage) → IsProp (StageInRange s)
stage_prop Idle = hlevel props
stage_prop Undecided = hlevel props
stage_prop (Succeeded t) = hlevel props
stage_prop Withdrawn = hlevel props
stage_prop (Changed n) = hlevel props
stage_prop (Locked n p) = hlevel props

status_prop : (s : Status) → IsProp (StatusInRange s)
status_prop s = hlevel (props, stage_prop s.stage)

module _ {H : Type 0} {S : Ghosts H} (c : Closed H S) (n : ℕ) (f : Field) (node : IsNode (closed_size c).slots n) where
  pub word_stored : IsWord (slice_index (words_left c) (address (closed_size c) (at_cell n f)))
  word_stored = ∥∥₁_elim c.closed (hlevel props) (λ k. word_is_stored (CellsAreSound S.form) (closed_size c) (words_left c) k.1.closed n f node)

  -- the kind of the word that was read at a cell's address is that of the cell
  pub cell_read : (k : WordKind) (r at : ℕ) → k ≡ kind r → r ≡ slice_index (words_left c) at → at ≡ place_number n f → k ≡ (board_left c).cell n f
  cell_read k r at kind_is read place = kind_is ∙ ap kind (read ∙ ap (slice_index (words_left c)) place)

  pub no_install_left : (q k : ℕ) → (board_left c).cell n f ≢ Install q k
  no_install_left q k is = ∥∥₁_elim c.closed (hlevel props) (λ k'. is_no_install (CellsAreSound S.form) (closed_size c) (words_left c) k'.1.closed n f node q k is)

  pub refers_left : (p a : ℕ) → (board_left c).cell n f ≡ Exchange p a → Refers (closed_size c) (words_left c) n f p a
  refers_left p a is = ∥∥₁_elim c.closed (hlevel props) (λ k. refers (CellsAreSound S.form) (closed_size c) (words_left c) k.1.closed n f node p a is)

  pub status_stored : (p a : ℕ) → (board_left c).cell n f ≡ Exchange p a → IsStatus (slice_index (words_left c) (address (closed_size c) (at_own p own_status)))
  status_stored p a is = let r : ℕ = slice_index (words_left c) (address (closed_size c) (at_own p own_status)) in
      let stored : IsOfClosed S.form (closed_size c) (words_left c) → IsStatus r = λ k. status_is_stored (CellsAreSound S.form) (closed_size c) (words_left c) k.1.closed n f node p a is in
      (unpacked r, ∥∥₁_elim c.closed (status_prop (unpacked r)) (λ k. unpacked_in_range r (stored k)), ∥∥₁_elim c.closed (hlevel props) (λ k. packed_unpacked r (stored k)))

  -- so what the words say of a cell is its one plain value
  pub only_left : (x : ℕ) → IsPlainValue (board_left c) n f ((board_left c).cell n f) x → HasPlainValue (board_left c) n f x
  only_left x is = record {
    says = is;
    no_other = λ y so. ∥∥₁_elim c.closed (hlevel props) (λ k. let left = left_has (CellsAreSound S.form) (closed_size c) (words_left c) k.1.closed n f node in left.no_other y so ∙ sym (left.no_other x is));
  }

never_both : (s : ℕ) (cause : Cause) → committed s ≡ aborted cause → ⊥
never_both s cause e = cc

-- the words that a board leaves say the cells that its run leaves
pub run_left : {H : Type 0} {S : Ghosts H} (c : Closed H S) (b : Board H) (x : Whole) (words : List ℕ) → words_left c ≡ words
    → closed_size c ≡ board_size b → IsWholeClosed S.form (board_size b) x words
    → (passes : List (Pass H S)) → told_by passes ≡ x.knows.told → slots_by passes ≡ all_slots_at x
    → IsLeftByRun c (opening_cells (board_size b).starts.version) passes
run_left {S = S} c b x words left sized w passes told slots = record {
  begin = w.history.opening;
  begins = w.begins;
  run = run_up_to w.history;
  stands = w.run.world;
  leaves = subst (λ (l : List ℕ). (n : ℕ) (f : Field) → IsNode (closed_size c).slots n → IsEven (cells_after w.history.opening (run_up_to w.history) n Version) → HasPlainValue (board_in (closed_size c) l) n f (cells_after w.history.opening (run_up_to w.history) n f)) (sym left)
      (subst (λ (z : Size). (n : ℕ) (f : Field) → IsNode z.slots n → IsEven (cells_after w.history.opening (run_up_to w.history) n Version) → HasPlainValue (board_in z words) n f (cells_after w.history.opening (run_up_to w.history) n f)) (sym sized)
      (λ n f node even. subst (λ (x : ℕ). HasPlainValue (board_in (board_size b) words) n f x)
      (w.shown n f (subst IsEven (w.leaves n Version) even) ∙ sym (w.leaves n f))
      (left_has (CellsAreSound S.form) (board_size b) words w.closed n f node)));
  maker = λ s. maker_of (w.history.drawn_for s);
  once = λ x y i x_in y_in of_x of_y. same_stamp x.stamp y.stamp (sym (w.run.made x i x_in of_x) ∙ w.run.made y i y_in of_y);
  unmade = w.run.unmade;
  sound = subst (λ (n : ℕ). IsSound S.form n (cells_after w.history.opening (run_up_to w.history))) (sym (ap (λ (z : Size). z.slots) sized))
      (subst (IsSound S.form (board_size b).slots) (λ i n f. sym (w.leaves n f) i) w.closed.sound_cells);
  won = λ p a s before e few is done. let true_of : (x : Note) → Has (told_by passes) x → IsTrueNote w.history x = λ x has. w.told x (subst (λ (l : List Note). Has l x) told has) in
      let known = true_of (published (code p a) e before) is in
      let won : w.history.stage (code p a) ≡ committed s = (true_of (verdict (code p a) (committed s)) done).0 in (
        subst (λ (y : Exchanged). IsAmong (record { stamp = s; what = y }) (run_up_to w.history)) (sym (w.exchanges p a few known.0) ∙ known.1)
            (w.run.committed_stands p a s few won),
        w.run.maker (code p a) s won,
        subst (λ (i : ℕ). i ≤ s) known.2 (w.run.since (code p a) s won),
      );
  lost = λ x p a cause is among made. never_both x.stamp cause (sym (w.run.made x (code p a) among made) ∙ (w.told (verdict (code p a) (aborted cause)) (subst (λ (l : List Note). Has l (verdict (code p a) (aborted cause))) told is)).0);
  read = λ s e has. w.run.item_stands s e (w.told (in_run s e) (subst (λ (l : List Note). Has l (in_run s e)) told has));
  reads_stand = λ n v k b f has one among late is. let saw = w.told (read_word n v f k b) (subst (λ (l : List Note). Has l (read_word n v f k b)) told has) in
      let here = w.run.before one among in
      ap (λ (d : Cells). d n f) here ∙ saw.1.1 one.stamp late (sym (ap (λ (d : Cells). d n Version) here) ∙ is);
  counted = λ i p at rests. subst (λ (z : Size). (knows p).slots.next ≡ start_of z (view p).seat + (count_of (knows p).slots.spare + nodes_made z (view p).seat (run_up_to w.history))) (sym sized)
      (counts_resting (board_size b) w.history (view p).seat (knows p).own (knows p).slots
      (w.owned (slots_at (whole p)) (subst (λ (l : List SlotsAt). Has l (slots_at (whole p))) slots (slots_among passes i p at))) (p.one_attempt.busy ∙ rests));
}

-- and no install stands in them
pub none_stand : {H : Type 0} (b : Board H) (form : Form) (x : Whole) (words : List ℕ) → IsWholeClosed form (board_size b) x words → (shares : List Share) → shares ≡ b.shares.items
    → let z = size_from b.seats b.slots shares b.starts in
    (n : ℕ) (f : Field) → IsNode z.slots n → (q k : ℕ) → (board_in z words).cell n f ≢ Install q k
none_stand b form x words c shares same = is_no_install (CellsAreSound form) (size_from b.seats b.slots shares b.starts) words (closed_stands b form x words c shares same).1.closed
