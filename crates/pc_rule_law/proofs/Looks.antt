-- A load changes nothing but what the pass knows. What is found in a word of a node, and the load of such a word.
use Rattle.std.proofs.Common.{◌≡◌, ℕ, true, refl, sym, ap, ◌∙◌, subst, arith}
use mathlib.Core.Option.{none}
use Rattle.atomic_table.specs.Table.{step, Allows}
use Rattle.pc_model.specs.declared.cell.Field.{Field}
use Rattle.pc_model.specs.declared.cell.Field.TheVariants.{Version, Key, Value, Left, Right, Parent, Height, Spare}
use Rattle.pc_model.specs.Cells.{Cells, IsNode}
use Rattle.pc_model.specs.Linked.{opening_cells}
use Rattle.pc_words.specs.declared.word.WordKind.{WordKind}
use Rattle.pc_words.specs.declared.word.WordKind.TheVariants.{Plain, Install, Exchange}
use Rattle.pc_words.specs.Words.{raw, kind, InRange}
use Rattle.pc_words.proofs.Words.{kind_raw, raw_is_word}
use Rattle.pc_rule_law.specs.Board.{Size, at_cell, address, Inside, Board}
use Rattle.pc_rule_law.specs.Past.{Past}
use Rattle.pc_rule_law.specs.Views.{View, version, placed, held, had, IsNoted, NoteInRange, NoteHolds, AllNotes, with_notes}
use Rattle.pc_rule_law.specs.Rule.{Standing, CellOk, Placed, Shared, Holds}
use Rattle.pc_rule_law.specs.Plays.{Mine, SameSeat, found, IsOpeningWord, CellFound, LoadedCell, loads_cell}
use Rattle.pc_rule_law.specs.Tables.{KeepsOpening}
use Rattle.pc_rule_law.proofs.Lists.{all_one}
use Rattle.pc_rule_law.proofs.Keeping.{noted_more}
use Rattle.pc_rule_law.proofs.Steps.{Looks, looked}

module _ (sound : ℕ → Cells → Cells → Type 0) (z : Size) (b : Board) (h : Past) (s : Shared sound z b h) where
  -- an install that stands is one of those that were placed
  pub placed_here : (n : ℕ) (f : Field) (q k : ℕ) → Standing h.placing h.course (h.plain n f) n f q k
      → Placed z b.status b.cell b.install h.attempt (h.course q k) q k (h.placing q k)
  placed_here n f q k st = s.installs q k (let e : h.course q k ≡ 1 = st.stands in omega arith)

  -- what is noted of a word is true
  found_noted : (n : ℕ) (f : Field) (w : WordKind) → b.cell n f ≡ w
      → CellOk z.seats b.status h.attempt h.placing h.course (h.plain n f) n f w
      → AllNotes (IsNoted b h) (found n f w)
  found_noted n Version (Plain x) is ok = all_one (IsNoted b h) (version n x)
      (let e : x ≡ h.plain n Version = ok in omega arith)
  found_noted n Key (Plain x) is ok = all_one (IsNoted b h) (had n Key x) tt
  found_noted n Value (Plain x) is ok = all_one (IsNoted b h) (had n Value x) tt
  found_noted n Left (Plain x) is ok = all_one (IsNoted b h) (had n Left x) tt
  found_noted n Right (Plain x) is ok = all_one (IsNoted b h) (had n Right x) tt
  found_noted n Parent (Plain x) is ok = all_one (IsNoted b h) (had n Parent x) tt
  found_noted n Height (Plain x) is ok = all_one (IsNoted b h) (had n Height x) tt
  found_noted n Spare (Plain x) is ok = all_one (IsNoted b h) (had n Spare x) tt
  found_noted n f (Install q k) is ok = all_one (IsNoted b h) (placed q k n f) (
    (let e : h.course q k ≡ 1 = ok.stands in omega arith),
    ok.at_node,
    ok.at_field,
    λ v. let e : (h.placing q k).old ≡ h.plain n f = ok.old in omega arith,
  )
  found_noted n f (Exchange p a) is ok = let l = ok.listed in all_one (IsNoted b h) (held p a n f) (
    (let e : (b.status p).number ≡ a = ok.present in omega arith),
    λ _. is,
    (l.0, l.1, l.2, l.4),
  )

  -- and its numbers are those of the board
  found_ranged : (n : ℕ) (f : Field) (w : WordKind) → IsNode z.slots n → InRange w
      → CellOk z.seats b.status h.attempt h.placing h.course (h.plain n f) n f w
      → AllNotes (NoteInRange z) (found n f w)
  found_ranged n Version (Plain x) in_n small ok = all_one (NoteInRange z) (version n x) (in_n, small)
  found_ranged n Key (Plain x) in_n small ok = all_one (NoteInRange z) (had n Key x) (in_n, small)
  found_ranged n Value (Plain x) in_n small ok = all_one (NoteInRange z) (had n Value x) (in_n, small)
  found_ranged n Left (Plain x) in_n small ok = all_one (NoteInRange z) (had n Left x) (in_n, small)
  found_ranged n Right (Plain x) in_n small ok = all_one (NoteInRange z) (had n Right x) (in_n, small)
  found_ranged n Parent (Plain x) in_n small ok = all_one (NoteInRange z) (had n Parent x) (in_n, small)
  found_ranged n Height (Plain x) in_n small ok = all_one (NoteInRange z) (had n Height x) (in_n, small)
  found_ranged n Spare (Plain x) in_n small ok = all_one (NoteInRange z) (had n Spare x) (in_n, small)
  found_ranged n f (Install q k) in_n small ok = all_one (NoteInRange z) (placed q k n f)
      (((placed_here n f q k ok).owner, small.1), in_n)
  found_ranged n f (Exchange p a) in_n small ok = all_one (NoteInRange z) (held p a n f) ((ok.owner, small.1), in_n)

  pub found_holds : (n : ℕ) (f : Field) (w : WordKind) → b.cell n f ≡ w → IsNode z.slots n → InRange w
      → CellOk z.seats b.status h.attempt h.placing h.course (h.plain n f) n f w
      → AllNotes (NoteHolds z b h) (found n f w)
  found_holds n f w is in_n small ok x has = (found_noted n f w is ok x has, found_ranged n f w in_n small ok x has)

-- the word of a node, which is in range, is told from its number
pub told_kind : (w : WordKind) → InRange w → (r : ℕ) → r ≡ raw w → kind r ≡ w
told_kind w small r is = ap kind is ∙ kind_raw w small

module _ (sound : ℕ → Cells → Cells → Type 0) (z : Size) where
  -- a plain word has the value that the board opened with, where sound cells are those of the opening
  pub plain_at_opening : KeepsOpening sound z → (b : Board) (h : Past) → Shared sound z b h → (v : View) → v.size ≡ z → (n : ℕ) (f : Field) (r : ℕ)
      → r ≡ raw (b.cell n f) → IsOpeningWord v n f r
  plain_at_opening keeps b h s v sized n f r at x e = let is : b.cell n f ≡ Plain x = sym (told_kind (b.cell n f) (s.ranges n f) r at) ∙ e in
      subst (CellOk z.seats b.status h.attempt h.placing h.course (h.plain n f) n f) is (s.each_cell n f)
      ∙ (keeps h.cells h.plain s.sound_now n f ∙ ap (λ (y : Size). opening_cells y.starts.version n f) (sym sized))

  -- of a word of a node is told what stands in it
  pub cell_looks : (id : ℕ) (v : View) (n : ℕ) (f : Field) → v.live ≡ true → Inside z (at_cell n f)
      → Looks sound z id v (at_cell n f) (λ r w. SameSeat v w × CellFound v n f r w)
  cell_looks id v n f live in_p b h views k at = let w = b.cell n f in let s = k.shared in let small = s.ranges n f in (
    with_notes v (found n f w),
    noted_more sound z b h views id v (found n f w) k at live
        (found_holds sound z b h s n f w refl in_p small (s.each_cell n f)),
    (
      (refl, refl, refl, refl, refl),
      (raw_is_word w small, ap (λ (u : WordKind). with_notes v (found n f u)) (sym (kind_raw w small))),
    ),
  )

  -- a load of a word of a node
  pub load_cell : KeepsOpening sound z → (slots id : ℕ) (me : Mine) (n : ℕ) (f : Field) → me.0.size ≡ z → me.0.live ≡ true
      → Inside z (at_cell n f)
      → Allows (Holds sound z) slots id me (address z (at_cell n f)) (λ r. r)
      (loads_cell (step slots (address z (at_cell n f)) 0 0 none) me)
  load_cell keeps slots id me n f sized live in_p = looked sound z slots id me (at_cell n f)
      (LoadedCell me.0) in_p sized
      (λ b h views k at. let g = cell_looks id me.0 n f live in_p b h views k at in (
        g.0,
        g.1,
        (g.2.0, (g.2.1.0, g.2.1.1, plain_at_opening keeps b h k.shared me.0 sized n f (raw (b.cell n f)) refl)),
      ))
