-- The words of an install's descriptor, from the ranges of the notes that tell them.
use Rattle.std.proofs.Common.{◌≡◌, ℕ, ◌<◌, ◌≤◌, ◌^◌, sym, ap, ◌∙◌, subst, arith}
use Rattle.pc_model.specs.declared.cell.Field.{Field}
use Rattle.pc_model.specs.Cells.{IsNode}
use Rattle.pc_words.specs.declared.word.WordKind.{WordKind}
use Rattle.pc_words.specs.declared.word.WordKind.TheVariants.{Plain, Install, Exchange}
use Rattle.pc_words.specs.Words.{raw, kind, IsWord}
use Rattle.pc_words.proofs.Words.{kind_raw, raw_is_word}
use Rattle.pc_rule_law.specs.Board.{Size, place_number}
use Rattle.pc_rule_law.specs.Past.{Has}
use Rattle.pc_rule_law.specs.Views.{View, placed, install_word, NoteInRange, AllNotes, IsAttempt}
use Rattle.pc_rule_law.proofs.Places.{field_number-below}
use Rattle.pc_dcss.specs.Installs.{HasMet, KnowsWords, KnowsNumbers}

seat_of : ℕ → WordKind → ℕ
seat_of d (Plain x) = d
seat_of d (Install q k) = d
seat_of d (Exchange p a) = p

number_of : ℕ → WordKind → ℕ
number_of d (Plain x) = d
number_of d (Install q k) = d
number_of d (Exchange p a) = a

pub same_seat : (p a q b : ℕ) → Exchange p a ≡ Exchange q b → p ≡ q
unfolding seat_of
same_seat p a q b e = ap (seat_of 0) e

pub same_number : (p a q b : ℕ) → Exchange p a ≡ Exchange q b → a ≡ b
unfolding number_of
same_number p a q b e = ap (number_of 0) e

-- a number that refers to an attempt
pub record Refers (z : Size) (op : ℕ) : Type 0 where
  pub seat : ℕ
  pub number : ℕ
  pub attempt : IsAttempt z seat number
  pub as_raw : op ≡ raw (Exchange seat number)
  pub as_kind : kind op ≡ Exchange seat number
  pub word : IsWord op

module _ (z : Size) (v : View) (few : z.seats ≤ 32) (ranged : AllNotes (NoteInRange z) v.notes) where
  -- an install that was met is one of a pass of the board
  pub met_seat : (q k : ℕ) → HasMet v q k → q < z.seats
  met_seat q k met = (ranged (placed q k met.0 met.1) met.2).0.0

  pub refers : (q k op : ℕ) → Has v.notes (install_word q k 1 op) → Refers z op
  refers q k op has = let r = (ranged (install_word q k 1 op) has).1 in
      let small : (r.0 < 256) × (r.1 < 2 ^ 28) = ((let s = r.3 in omega (arith, few, s)), r.4) in record {
        seat = r.0;
        number = r.1;
        attempt = (r.3, r.4);
        as_raw = r.2;
        as_kind = ap kind r.2 ∙ kind_raw (Exchange r.0 r.1) small;
        word = subst IsWord (sym r.2) (raw_is_word (Exchange r.0 r.1) small);
      }

  pub place_small : (q k place : ℕ) → z.slots ≤ 61000 → Has v.notes (install_word q k 2 place) → place < 2 ^ 32
  place_small q k place slots has = let r = (ranged (install_word q k 2 place) has).1 in
      let f = field_number-below r.1 in let n = r.3 in let e = r.2 in omega arith

  pub knows_words : (q k p a n : ℕ) (f : Field) (op place old : ℕ) → KnowsNumbers v q k op place old
      → kind op ≡ Exchange p a → place_number n f ≡ place → KnowsWords z v q k p a n f old
  knows_words q k p a n f op place old known is at = let r : Refers z op = refers q k op known.0 in
      let m = (ranged (install_word q k 2 place) known.1).1 in
      let o = ranged (install_word q k 3 old) known.2 in
      let e : Exchange p a ≡ Exchange r.seat r.number = sym is ∙ r.as_kind in
      let s : p ≡ r.seat = same_seat p a r.seat r.number e in
      let t : a ≡ r.number = same_number p a r.seat r.number e in
      let here : n ≡ m.0 = (let x = field_number-below f in let y = field_number-below m.1 in let w = m.2 in omega arith) in record {
        install = o.0;
        attempt = (subst (λ x. x < z.seats) (sym s) r.attempt.0, subst (λ x. x < 2 ^ 28) (sym t) r.attempt.1);
        node = subst (λ x. IsNode z.slots x) (sym here) m.3;
        small = o.1.1;
        op = subst (λ w. Has v.notes (install_word q k 1 w)) (r.as_raw ∙ ap raw (sym e)) known.0;
        place = subst (λ w. Has v.notes (install_word q k 2 w)) (sym at) known.1;
        old = known.2;
      }
