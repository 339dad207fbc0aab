-- A board whose words are in range is read back from the words that represent it. So the words of a closed board say by
-- themselves what each plain value is, and what has to be known to look it up.
use Rattle.std.proofs.Common.{◌≡◌, ◌≢◌, ℕ, ◌+◌, ◌*◌, ◌<◌, ◌≤◌, List, slice_index, refl, sym, ap, ap₂, ◌∙◌, subst, arith}
use Rattle.pc_model.specs.declared.cell.Field.{Field}
use Rattle.pc_model.specs.Cells.{Cells, IsNode}
use Rattle.pc_words.specs.declared.word.WordKind.{WordKind}
use Rattle.pc_words.specs.declared.word.WordKind.TheVariants.{Plain, Install, Exchange}
use Rattle.pc_words.specs.declared.status.Status.{Status}
use Rattle.pc_words.specs.Words.{kind, IsWord, InRange}
use Rattle.pc_words.specs.Statuses.{unpacked, StatusInRange, IsStatus}
use Rattle.pc_words.proofs.Words.{kind_raw, raw_is_word}
use Rattle.pc_words.proofs.Statuses.{unpacked_packed}
use Rattle.pc_rule_law.specs.Board.{Size, own_status, own_word, at_own, at_cell, descriptor_words, place_number, address, Board, Represents, board_in}
use Rattle.pc_rule_law.specs.Stages.{value_by}
use Rattle.pc_rule_law.specs.Values.{IsPlainValue, HasPlainValue}
use Rattle.pc_rule_law.specs.Closings.{IsClosed}

module _ (z : Size) (ws : List ℕ) (b : Board) (rep : Represents z ws b) where
  pub cell_back : (n : ℕ) (f : Field) → IsNode z.slots n → InRange (b.cell n f)
      → (board_in z ws).cell n f ≡ b.cell n f
  cell_back n f node ok = ap kind (rep.each (at_cell n f) node) ∙ kind_raw (b.cell n f) ok

  pub status_back : (p : ℕ) → p < z.seats → StatusInRange (b.status p) → (board_in z ws).status p ≡ b.status p
  status_back p lt ok = ap unpacked (rep.each (at_own p own_status) (lt, tt)) ∙ unpacked_packed (b.status p) ok

  pub word_back : (p k : ℕ) → p < z.seats → k < descriptor_words z.slots → (board_in z ws).word p k ≡ b.word p k
  word_back p k lt less = rep.each (at_own p (own_word k)) (lt, less)

-- two boards have the same status and the same descriptor of a pass
pub record SamePass (slots : ℕ) (b c : Board) (p : ℕ) : Type 0 where
  pub status : b.status p ≡ c.status p
  pub words : (k : ℕ) → k < descriptor_words slots → b.word p k ≡ c.word p k
  pub few : b.word p 1 ≤ 25 + slots

same_entry : (slots : ℕ) (b c : Board) (n : ℕ) (f : Field) (p a v : ℕ) → SamePass slots b c p
    → IsPlainValue b n f (Exchange p a) v → IsPlainValue c n f (Exchange p a) v
same_entry slots b c n f p a v same t = let i : ℕ = t.1 in let lt : i < b.word p 1 = t.2 in let few = same.few in
    let word : b.word p (3 + 3 * i) ≡ c.word p (3 + 3 * i) = same.words (3 + 3 * i) (omega arith) in
    let old : b.word p (4 + 3 * i) ≡ c.word p (4 + 3 * i) = same.words (4 + 3 * i) (omega arith) in
    let new : b.word p (5 + 3 * i) ≡ c.word p (5 + 3 * i) = same.words (5 + 3 * i) (omega arith) in
    let value : value_by (b.status p).stage (b.word p (4 + 3 * i)) (b.word p (5 + 3 * i))
    ≡ value_by (c.status p).stage (c.word p (4 + 3 * i)) (c.word p (5 + 3 * i)) = ap₂
    (value_by (b.status p).stage) old new
    ∙ ap (λ (s : Status). value_by s.stage (c.word p (4 + 3 * i)) (c.word p (5 + 3 * i))) same.status in (
      sym (ap (λ (s : Status). s.number) same.status) ∙ t.0,
      i,
      subst (λ (m : ℕ). i < m) (same.words 1 (omega arith)) lt,
      sym word ∙ t.3,
      sym value ∙ t.4,
    )

-- so a word that is no install says the same plain value on both
pub same_value : (slots : ℕ) (b c : Board) (n : ℕ) (f : Field) (w : WordKind) (v : ℕ)
    → ((q k : ℕ) → w ≢ Install q k) → ((p a : ℕ) → w ≡ Exchange p a → SamePass slots b c p)
    → IsPlainValue b n f w v → IsPlainValue c n f w v
same_value slots b c n f (Plain x) v none' same t = t
same_value slots b c n f (Install q k) v none' same t = absurd (none' q k refl)
same_value slots b c n f (Exchange p a) v none' same t = same_entry slots b c n f p a v (same p a refl) t

-- a reference to an attempt of a pass, as the words alone say it: the pass is one of the board's and at that attempt, its
-- descriptor has room for the changes that it counts, and one of them is of this word
pub record Refers (z : Size) (ws : List ℕ) (n : ℕ) (f : Field) (p a : ℕ) : Type 0 where
  pub owner : p < z.seats
  pub present : ((board_in z ws).status p).number ≡ a
  pub few : (board_in z ws).word p 1 ≤ 25 + z.slots
  pub listed : ((i : ℕ) → i < (board_in z ws).word p 1 → (board_in z ws).word p (3 + 3 * i) ≢ place_number n f) → ⊥

module _ (sound : ℕ → Cells → Cells → Type 0) (z : Size) (ws : List ℕ) (c : IsClosed sound z ws) (n : ℕ) (f : Field)
    (node : IsNode z.slots n) where
  same_cell : (board_in z ws).cell n f ≡ c.board.cell n f
  same_cell = cell_back z ws c.board c.represents n f node (c.ranges n f)

  pub word_is_stored : IsWord (slice_index ws (address z (at_cell n f)))
  word_is_stored = subst IsWord (sym (c.represents.each (at_cell n f) node))
      (raw_is_word (c.board.cell n f) (c.ranges n f))

  pub is_no_install : (q k : ℕ) → (board_in z ws).cell n f ≢ Install q k
  is_no_install q k is = c.no_install n f q k (sym same_cell ∙ is)

  pub status_is_stored : (p a : ℕ) → (board_in z ws).cell n f ≡ Exchange p a
      → IsStatus (slice_index ws (address z (at_own p own_status)))
  status_is_stored p a is = let lt = (c.referred n f p a (sym same_cell ∙ is)).0 in
      (c.board.status p, c.statuses p, sym (c.represents.each (at_own p own_status) (lt, tt)))

  same_pass : (p a : ℕ) → c.board.cell n f ≡ Exchange p a → SamePass z.slots c.board (board_in z ws) p
  same_pass p a is = let here = c.referred n f p a is in record {
    status = sym (status_back z ws c.board c.represents p here.0 (c.statuses p));
    words = λ k less. sym (word_back z ws c.board c.represents p k here.0 less);
    few = here.1;
  }

  pass_back : (p a : ℕ) → c.board.cell n f ≡ Exchange p a → SamePass z.slots (board_in z ws) c.board p
  pass_back p a is = let same = same_pass p a is in record {
    status = sym same.status;
    words = λ k less. sym (same.words k less);
    few = subst (λ (m : ℕ). m ≤ 25 + z.slots) (same.words 1 (omega arith)) same.few;
  }

  value_left : (v : ℕ) → IsPlainValue c.board n f (c.board.cell n f) v
      → IsPlainValue (board_in z ws) n f ((board_in z ws).cell n f) v
  value_left v t = subst (λ (w : WordKind). IsPlainValue (board_in z ws) n f w v) (sym same_cell)
      (same_value z.slots c.board (board_in z ws) n f (c.board.cell n f) v (c.no_install n f) same_pass t)

  value_back : (v : ℕ) → IsPlainValue (board_in z ws) n f ((board_in z ws).cell n f) v
      → IsPlainValue c.board n f (c.board.cell n f) v
  value_back v t = same_value z.slots (board_in z ws) c.board n f (c.board.cell n f) v (c.no_install n f) pass_back
      (subst (λ (w : WordKind). IsPlainValue (board_in z ws) n f w v) same_cell t)

  -- the words that are left say the cells of the closed board
  pub left_has : HasPlainValue (board_in z ws) n f (c.values n f)
  left_has = record {
    says = value_left (c.values n f) (c.plain n f);
    no_other = λ x t. c.one n f x (value_back x t);
  }

  listed : (p a : ℕ) → IsPlainValue (board_in z ws) n f (Exchange p a) (c.values n f)
      → ((i : ℕ) → i < (board_in z ws).word p 1 → (board_in z ws).word p (3 + 3 * i) ≢ place_number n f) → ⊥
  listed p a t none' = none' t.1 t.2 t.3

  pub refers : (p a : ℕ) → (board_in z ws).cell n f ≡ Exchange p a → Refers z ws n f p a
  refers p a is = let at : c.board.cell n f ≡ Exchange p a = sym same_cell ∙ is in
      let t : IsPlainValue (board_in z ws) n f (Exchange p a) (c.values n f) = subst
      (λ (w : WordKind). IsPlainValue (board_in z ws) n f w (c.values n f)) is left_has.says in record {
        owner = (c.referred n f p a at).0;
        present = t.0;
        few = (pass_back p a at).few;
        listed = listed p a t;
      }
