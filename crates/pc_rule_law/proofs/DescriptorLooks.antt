-- A load of a word of a descriptor: of each attempt of that pass that was met, the word while that attempt is the present one
-- and isn't cleared.
use Rattle.std.proofs.Common.{◌≡◌, ℕ, ◌<◌, true, ◌==◌, List, [], refl, subst}
use mathlib.Core.Option.{none}
use Rattle.atomic_table.specs.Table.{step, Allows}
use Rattle.pc_model.specs.Cells.{Cells}
use Rattle.pc_rule_law.specs.Board.{Size, Board, own_word, at_own, address, Inside, descriptor_words}
use Rattle.pc_rule_law.specs.Past.{Past}
use Rattle.pc_rule_law.specs.Views.{Note, held, word_loaded, View, NoteHolds, AllNotes, with_notes}
use Rattle.pc_rule_law.specs.Rule.{Holds}
use Rattle.pc_rule_law.specs.Plays.{Mine, SameSeat, DescriptorLoaded, LoadedWord, loads_word}
use Rattle.pc_rule_law.proofs.Lists.{all_none, has_left}
use Rattle.pc_rule_law.proofs.Keeping.{noted_more}
use Rattle.pc_rule_law.proofs.Learning.{learnt, has_learnt, all_learnt, only_if, has_if_same, all_if_same, later_more}
use Rattle.pc_rule_law.proofs.Steps.{Looks, looked}

-- of each attempt of pass p that was met, that this word of the descriptor is x
abbrev learn_word : ℕ → ℕ → ℕ → Note → List Note
learn_word p place x (held q a n f) = only_if (q == p) (word_loaded p a place x)
learn_word p place x _ = []

module _ (z : Size) (b : Board) (h : Past) (p place : ℕ) (lt : place < descriptor_words z.slots) where
  word_learnt : (x : Note) → NoteHolds z b h x → AllNotes (NoteHolds z b h) (learn_word p place (b.word p place) x)
  word_learnt (held q a n f) g = all_if_same (NoteHolds z b h) q p (word_loaded p a place (b.word p place)) (λ e.
      subst (λ (r : ℕ). NoteHolds z b h (word_loaded r a place (b.word r place))) e ((g.0.0, λ _ _. refl), (g.1.0, lt)))
  word_learnt _ g = all_none (NoteHolds z b h)

module _ (sound : ℕ → Cells → Cells → Type 0) (z : Size) where
  pub word_looks : (id : ℕ) (v : View) (p place : ℕ) → v.live ≡ true → Inside z (at_own p (own_word place))
      → Looks sound z id v (at_own p (own_word place)) (λ r w. SameSeat v w × DescriptorLoaded v p place r w)
  word_looks id v p place live in_p b h views k at = let mine = k.each_view id v at in let x : ℕ = b.word p place in
      let more = learnt (learn_word p place x) v.notes in (
        with_notes v more,
        noted_more sound z b h views id v more k at live (all_learnt (NoteHolds z b h) (learn_word p place x) v.notes
            (λ y has. word_learnt z b h p place in_p.1 y (mine.noted y has))),
        (
          (refl, refl, refl, refl, refl),
          record {
            later = later_more v more;
            loads = λ a n f has. has_left more v.notes (word_loaded p a place x)
                (has_learnt (learn_word p place x) v.notes (held p a n f) (word_loaded p a place x) has
                (has_if_same p p (word_loaded p a place x) refl));
          },
        ),
      )

  -- a load of a word of the descriptor of pass p
  pub load_word : (slots id : ℕ) (me : Mine) (p place : ℕ) → me.0.size ≡ z → me.0.live ≡ true
      → Inside z (at_own p (own_word place))
      → Allows (Holds sound z) slots id me (address z (at_own p (own_word place))) (λ r. r)
      (loads_word (step slots (address z (at_own p (own_word place))) 0 0 none) me)
  load_word slots id me p place sized live in_p = looked sound z slots id me (at_own p (own_word place))
      (LoadedWord me.0) in_p sized (word_looks id me.0 p place live in_p)
