-- A change of one component of the board at one place changes what that place shows, and nothing else.
use Rattle.std.proofs.Common.{ℕ, refl, ap, ap₂}
use Rattle.pc_model.specs.declared.cell.Field.{Field}
use Rattle.pc_words.specs.declared.word.WordKind.{WordKind}
use Rattle.pc_words.specs.declared.status.Status.{Status}
use Rattle.pc_words.specs.Words.{raw}
use Rattle.pc_words.specs.Statuses.{packed}
use Rattle.pc_rule_law.specs.Board.{own_status, own_epoch, own_install, own_word, at_clock, at_epoch, at_own, at_cell, Board, Only, put, put2, put_cell}
use Rattle.pc_rule_law.proofs.Updates.{put-else, put2-else, put_cell-else}

pub only_clock : (b : Board) (t : ℕ) → Only at_clock b (record b { clock = t })
only_clock b t at_clock ne = absurd (ne refl)
only_clock b t at_epoch ne = refl
only_clock b t (at_own i o) ne = refl
only_clock b t (at_cell m g) ne = refl

pub only_status : (b : Board) (j : ℕ) (s : Status)
    → Only (at_own j own_status) b (record b { status = put b.status j s })
only_status b j s at_clock ne = refl
only_status b j s at_epoch ne = refl
only_status b j s (at_own i own_status) ne = ap packed
    (put-else b.status j i s (λ e. ne (ap (λ (k : ℕ). at_own k own_status) e)))
only_status b j s (at_own i own_epoch) ne = refl
only_status b j s (at_own i (own_install k)) ne = refl
only_status b j s (at_own i (own_word k)) ne = refl
only_status b j s (at_cell m g) ne = refl

pub only_install : (b : Board) (j k x : ℕ)
    → Only (at_own j (own_install k)) b (record b { install = put2 b.install j k x })
only_install b j k x at_clock ne = refl
only_install b j k x at_epoch ne = refl
only_install b j k x (at_own i own_status) ne = refl
only_install b j k x (at_own i own_epoch) ne = refl
only_install b j k x (at_own i (own_install l)) ne = put2-else b.install j k i l x
    (λ e d. ne (ap₂ (λ (u v : ℕ). at_own u (own_install v)) e d))
only_install b j k x (at_own i (own_word l)) ne = refl
only_install b j k x (at_cell m g) ne = refl

pub only_word : (b : Board) (j k x : ℕ) → Only (at_own j (own_word k)) b (record b { word = put2 b.word j k x })
only_word b j k x at_clock ne = refl
only_word b j k x at_epoch ne = refl
only_word b j k x (at_own i own_status) ne = refl
only_word b j k x (at_own i own_epoch) ne = refl
only_word b j k x (at_own i (own_install l)) ne = refl
only_word b j k x (at_own i (own_word l)) ne = put2-else b.word j k i l x
    (λ e d. ne (ap₂ (λ (u v : ℕ). at_own u (own_word v)) e d))
only_word b j k x (at_cell m g) ne = refl

pub only_cell : (b : Board) (n : ℕ) (f : Field) (w : WordKind)
    → Only (at_cell n f) b (record b { cell = put_cell b.cell n f w })
only_cell b n f w at_clock ne = refl
only_cell b n f w at_epoch ne = refl
only_cell b n f w (at_own i own_status) ne = refl
only_cell b n f w (at_own i own_epoch) ne = refl
only_cell b n f w (at_own i (own_install k)) ne = refl
only_cell b n f w (at_own i (own_word k)) ne = refl
only_cell b n f w (at_cell m g) ne = ap raw (put_cell-else b.cell n f m g w (λ e d. ne (ap₂ at_cell e d)))
