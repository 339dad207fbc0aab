-- How a pass goes on with its operation, and what it knows of the words that it added.
use Rattle.std.proofs.Common.{◌≡◌, ℕ, ◌+◌, ◌<◌, true, List, [], ◌∷◌, ◌++◌, refl, sym, ap, ◌∙◌, subst, arith}
use Rattle.pc_model.specs.declared.cell.Field.{Field}
use Rattle.pc_model.specs.declared.cell.Field.TheVariants.{Version}
use Rattle.pc_model.specs.declared.shape.Shape.{Ghosts}
use Rattle.pc_model.specs.Cells.{IsEven}
use Rattle.pc_protocol.specs.Notes.{Note, visited}
use Rattle.pc_rule_law.specs.Board.{Size}
use Rattle.pc_rule_law.specs.Conditions.{IsFree}
use Rattle.pc_rule_law.specs.Past.{Has}
use Rattle.pc_rule_law.specs.Views.{OwnAttempt}
use Rattle.pc_exchange_law.specs.Passes.{PassKnows}
use Rattle.pc_exchange_law.specs.Paths.{Path}
use Rattle.pc_exchange_law.specs.Wholes.{Whole}
use Rattle.pc_rule.specs.declared.board.Board.{Board}
use Rattle.pc_rule.specs.declared.board.Pass.{Pass}
use Rattle.pc_rule.specs.declared.opening.Place.{Place}
use Rattle.pc_rule.specs.declared.visit.Visit.{Visit}
use Rattle.pc_rule.specs.Passes.{whole, view, knows, path, listed, visits, board_size, IsPassOf, IsSeatedAs, OnlyListed, OnlyCarried}
use Rattle.pc_rule.proofs.Calls.{only_listed, pass_stays}
use Rattle.pc_kcas.specs.Obstacles.{GoesOn}
use Rattle.pc_kcas.proofs.Finished.{seated_then}
use Rattle.pc_path.specs.Adds.{IsLastVisit}
use Rattle.pc_path.specs.Finds.{HasFound}
use Rattle.pc_path.proofs.Known.{version_told, same_path}
use Rattle.path_race.specs.Racing.{turn, MayRace, HasBegun, IsOfRace, AreOfRace, HasAdded}
use Rattle.path_race.proofs.RaceWords.{race_first, race_more}

-- a list of words that is known, with the last visit of their node
abbrev KnownWords : Size → ℕ → PassKnows → List Place → List Visit → Type 0
KnownWords z n k places visits = (w : AreOfRace z k places n) × IsLastVisit visits 1 w.version.old

same_words : (z : Size) (n : ℕ) (k k' : PassKnows) (l l' : List Place) (v v' : List Visit) → k' ≡ k → l' ≡ l → v' ≡ v → KnownWords z n k l v → KnownWords z n k' l' v'
same_words z n k k' l l' v v' same places held w = subst (λ (a : PassKnows). KnownWords z n a l' v') (sym same)
    (subst (λ (a : List Place). KnownWords z n k a v') (sym places) (subst (KnownWords z n k l) (sym held) w))

module _ {H : Type 0} {S : Ghosts H} where
  -- it goes on over looks, and over an add
  pub begun_goes : (b : Board H) (p q : Pass H S) → HasBegun b p → IsSeatedAs p q → GoesOn (whole p) (whole q) → IsFree (view q) → (path q).begun ≡ true → HasBegun b q
  begun_goes b p q begun seated goes free still = record {
    of = pass_stays b p q begun.of seated;
    may = ((goes.attempt.1 ∙ begun.may.0.0, ap (λ (a : OwnAttempt). a.published) goes.attempt.0 ∙ begun.may.0.1), free);
    begun = still;
  }

  pub begun_listed : (b : Board H) (p q : Pass H S) → HasBegun b p → OnlyListed p q → HasBegun b q
  begun_listed b p q begun only = record {
    of = pass_stays b p q begun.of (only_listed b p q begun.of only);
    may = subst MayRace (sym (ap (λ s. s.me.0.view) only.0)) begun.may;
    begun = ap (λ (u : Path). u.begun) (same_path p q only.0 only.3) ∙ begun.begun;
  }

  pub seated_listed : (b : Board H) (p q r : Pass H S) → HasBegun b q → IsSeatedAs p q → OnlyListed q r → IsSeatedAs p r
  seated_listed b p q r begun seated only = seated_then p q r seated (only_listed b q r begun.of only)

  -- the version of the sentinel was added after its visit
  pub added_first : (b : Board H) (p : Whole) (q r : Pass H S) (v : ℕ) → HasBegun b r → r.seat ≡ q.seat
      → listed r ≡ record { node = 1; field = Version; old = v; new = v + 2 } ∷ [] → IsEven v → HasFound p (whole q) 1 Version v → IsLastVisit (visits r) 1 v
      → HasAdded b r 1
  added_first b p q r v begun seat are even found last = let told = version_told p (whole q) 1 v found in
      let w = race_first (board_size b) (knows r) (record { node = 1; field = Version; old = v; new = v + 2 }) (listed r) are (refl, refl, refl) (omega arith)
      (told.0, subst (λ (k : PassKnows). Has k.told (visited 1 v told.0)) (sym (ap (λ s. s.me.0.knows) seat)) told.1) in record {
        begun = begun;
        words = w.0;
        visit = subst (IsLastVisit (visits r) 1) (sym w.1) last;
      }

  -- and a field after that
  pub added_more : (b : Board H) (p q r : Pass H S) (n : ℕ) (x : Place) → (a : HasAdded b p n) → HasBegun b r → GoesOn (whole p) (whole q) → r.seat ≡ q.seat → visits r ≡ visits p
      → listed r ≡ listed p ++ x ∷ [] → turn x.field ≡ n → IsOfRace (board_size b) (knows q) a.words.version.old x → HasAdded b r (n + 1)
  added_more b p q r n x a begun goes seat held are turned of = let same : knows r ≡ knows q = ap (λ s. s.me.0.knows) seat in
      let w = race_more (board_size b) (knows p) (knows r) (listed p) (listed r) n a.words
      (λ m has. subst (λ (k : PassKnows). Has k.told m) (sym same) (goes.told m has)) x are turned
      (subst (λ (k : PassKnows). IsOfRace (board_size b) k a.words.version.old x) (sym same) of) in record {
        begun = begun;
        words = w.0;
        visit = subst (IsLastVisit (visits r) 1) (sym w.1) (subst (λ (l : List Visit). IsLastVisit l 1 a.words.version.old) (sym held) a.visit);
      }

  -- they are still added where it took a call along
  pub added_carried : (b : Board H) (p q : Pass H S) (n : ℕ) → HasAdded b p n → OnlyCarried p q → HasBegun b q → HasAdded b q n
  unfolding same_words
  added_carried b p q n a only begun =
      let w = same_words (board_size b) n (knows p) (knows q) (listed p) (listed q) (visits p) (visits q) (ap (λ s. s.me.0.knows) only.0) (ap (λ l. l.items) only.3)
      (ap (λ l. l.items) only.4) (a.words, a.visit) in record { begun = begun; words = w.0; visit = w.1 }
