-- A store to a word of the own descriptor, while nothing is published: its status is idle, so no note and no topic speaks of
-- the words that stand there.
use Rattle.std.proofs.Common.{◌≡◌, ◌≢◌, ℕ, ◌<◌, true, false, List, [], ◌∷◌, refl, sym, ap, ◌∙◌, subst, arith}
use mathlib.Core.Option.{none}
use mathlib.Core.Logic.{dite}
use native.Mathlib.Decide.{ℕ_discrete}
use Rattle.atomic_table.specs.Table.{step, Allows}
use Rattle.pc_model.specs.Cells.{Cells}
use Rattle.pc_rule_law.specs.Board.{Size, own_word, at_own, address, Inside, descriptor_words, Board, Only, put, put2}
use Rattle.pc_rule_law.specs.Past.{Past}
use Rattle.pc_rule_law.specs.Stages.{IsIdle}
use Rattle.pc_rule_law.specs.Views.{word_in, View, NoteHolds}
use Rattle.pc_rule_law.specs.Rule.{Own, OwnTries, Shared, Holds}
use Rattle.pc_rule_law.specs.Conditions.{CanWrite}
use Rattle.pc_rule_law.specs.Plays.{Mine, SameSeat, after_write, Wrote, writes}
use Rattle.pc_rule_law.proofs.Lists.{all_none}
use Rattle.pc_rule_law.proofs.Updates.{put-here, put-else, put2-here, put2-else}
use Rattle.pc_rule_law.proofs.Frames.{only_word}
use Rattle.pc_rule_law.proofs.Keeping.{Moves, kept_after}
use Rattle.pc_rule_law.proofs.Steps.{StoresWord, Owes, allowed}

-- the words that were stored, with one more
pub word_stored : (slots : ℕ) (b : Board) (id : ℕ) (words : List (ℕ × ℕ))
    → ((j : ℕ) → j < descriptor_words slots → b.word id j ≡ word_in words j) → (place x j : ℕ) → j < descriptor_words slots
    → put2 b.word id place x id j ≡ word_in ((place, x) ∷ words) j
word_stored slots b id words were place x j lt = dite (ℕ_discrete j place)
    (λ e. subst (λ (k : ℕ). put2 b.word id place x id k ≡ put (word_in words) place x k) (sym e)
    (put2-here b.word id place x ∙ sym (put-here (word_in words) place x)))
    (λ ne. put2-else b.word id place id j x (λ _. ne) ∙ (were j lt ∙ sym (put-else (word_in words) place j x ne)))

module _ (sound : ℕ → Cells → Cells → Type 0) (z : Size) (b : Board) (h : Past) (id : ℕ) (v : View) (s : Shared sound z b h)
    (own : Own z b.install h.course id v) (tries : OwnTries z.slots b id v.attempt) (known : h.posted ≡ false) (can : CanWrite v)
    (place x : ℕ) where
  abbrev word' : ℕ → ℕ → ℕ
  word' = put2 b.word id place x

  abbrev b' : Board
  b' = record b { word = word' }

  -- a pass that isn't idle is another one, and its words stay
  others : (q : ℕ) → q ≢ id → (j : ℕ) → word' q j ≡ b.word q j
  others q ne j = put2-else b.word id place q j x (λ e _. ne e)

  busy_other : (q : ℕ) → (IsIdle (b.status q).stage → ⊥) → q ≢ id
  busy_other q busy e = busy (subst (λ (r : ℕ). IsIdle (b.status r).stage) (sym e) (tries.resting can.1))

  stored : (j : ℕ) → j < descriptor_words z.slots → word' id j ≡ word_in (after_write v place x).attempt.words j
  stored = word_stored z.slots b id v.attempt.words tries.words place x

  moves : Moves sound z b h id v b' h (after_write v place x) []
  moves = record {
    same = (refl, refl, refl, refl);
    notes = refl;
    grows = record {
      versions = λ n. omega arith;
      numbers = λ p. omega arith;
      attempts = λ p a le. refl;
      decisions = λ p m d. d;
      references = λ p a n f u e. e;
      cleans = λ p a n f d c. c;
      courses = λ q k. omega arith;
      placings = λ q k c. refl;
      descriptors = λ q k c e. (e, λ j. refl);
      clock = omega arith;
      words = λ p a le j. refl;
      written = λ p a le e busy. (e, busy, λ j. others p (busy_other p busy) j);
    };
    leaves = record {
      count = refl;
      lives = λ j. refl;
      install = λ j ne i. refl;
      unplaced = λ j ne k e. e;
      absent = λ j ne k e. e;
      posted = refl;
      tries = λ j ne. record { number = refl; idle = λ i. i; busy = λ i. i; words = λ i. others j ne i };
    };
    shared = let written : (p : ℕ) → (IsIdle (b.status p).stage → ⊥) → (j : ℕ) → j < descriptor_words z.slots
        → word' p j ≡ h.words p (b.status p).number j = λ p busy j lt. others p (busy_other p busy) j ∙ s.written p busy j lt in
        assumption (written, s);
    own = record { sized = own.sized; seated = own.seated; known = own.known; ahead = own.ahead; unplaced = own.unplaced };
    tries = λ _. (known, record { number = tries.number; resting = tries.resting; running = tries.running; words = stored });
    noted = all_none (NoteHolds z b' h);
  }

module _ (sound : ℕ → Cells → Cells → Type 0) (z : Size) where
  pub word_owes : (id : ℕ) (v : View) (place x : ℕ) → v.live ≡ true → CanWrite v → Inside z (at_own v.seat (own_word place))
      → Owes sound z (StoresWord id place x) id v (at_own v.seat (own_word place)) (λ _. x)
      (λ _ w. SameSeat v w × Wrote v x w (at_own v.seat (own_word place)))
  word_owes id v place x live can in_p b h views kept at =
      let s = kept.shared in let mine = kept.each_view id v at in let own = mine.own live in
      let tries = mine.tries live can.0 in
      let b' : Board = record b { word = put2 b.word id place x } in
      let w : View = after_write v place x in
      record {
        view = w;
        board = b';
        past = h;
        only = subst (λ (i : ℕ). Only (at_own i (own_word place)) b b') (sym own.seated.0) (only_word b id place x);
        is = ap (λ (i : ℕ). put2 b.word id place x i place) own.seated.0 ∙ put2-here b.word id place x;
        kept = kept_after sound z b h views id v b' h w [] kept at live
            (moves sound z b h id v s own tries.1 tries.0 can place x);
        happens = (refl, refl);
        told = ((refl, refl, refl, refl, refl), λ _. refl);
      }

  -- a store of x to this word of the own descriptor
  pub store_word : (slots id : ℕ) (me : Mine) (place x : ℕ) → me.0.size ≡ z → me.0.live ≡ true → CanWrite me.0
      → Inside z (at_own me.0.seat (own_word place))
      → Allows (Holds sound z) slots id me (address z (at_own me.0.seat (own_word place))) (λ _. x)
      (λ _. writes (step slots (address z (at_own me.0.seat (own_word place))) x 0 none) me x)
  store_word slots id me place x sized live can in_p = let v = me.0 in
      allowed sound z (StoresWord id place x) slots id me (at_own v.seat (own_word place)) (λ _. x) (λ _. Wrote v x) in_p sized
      (word_owes id v place x live can in_p)
