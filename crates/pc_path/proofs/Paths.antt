-- What becomes of a path where a reference is found in a word, and where a pass keeps it.
use Rattle.std.proofs.Common.{◌≡◌, ℕ, List, ◌++◌, refl, ap, ◌∙◌, append-nil}
use Rattle.pc_model.specs.declared.cell.Field.{Field}
use Rattle.pc_model.specs.declared.shape.Shape.{Ghosts}
use Rattle.pc_words.specs.declared.word.WordKind.{WordKind}
use Rattle.pc_exchange_law.specs.Paths.{Path, with_read, with_visit}
use Rattle.pc_rule.specs.declared.board.Pass.{Pass}
use Rattle.pc_rule.specs.declared.refs.RefKind.{RefKind}
use Rattle.pc_rule.specs.declared.refs.RefKind.TheVariants.{Install as AnInstall, Exchange as AnExchange}
use Rattle.pc_rule.specs.declared.visit.Visit.{Visit}
use Rattle.pc_rule.specs.Passes.{visits, path, KeepsPath}
use Rattle.pc_rule.specs.Walking.{path_with, visits_in}
use Rattle.pc_dcss.specs.Installs.{word_of}

none_read : (p : Path) (n : ℕ) (f : Field) (k : RefKind) (s m : ℕ) → with_read p n f (word_of k s m) ≡ p
none_read p n f AnInstall s m = refl
none_read p n f AnExchange s m = refl

-- a reference counts as no read, and as no visit
pub reference_read : (p : Path) (n : ℕ) (f : Field) (c : WordKind) (k : RefKind) (s m : ℕ) → c ≡ word_of k s m → with_read p n f c ≡ p
reference_read p n f c k s m is = ap (with_read p n f) is ∙ none_read p n f k s m

none_visited : (p : Path) (n : ℕ) (k : RefKind) (s m : ℕ) → with_visit p n (word_of k s m) ≡ p
none_visited p n AnInstall s m = refl
none_visited p n AnExchange s m = refl

pub reference_visited : (p : Path) (n : ℕ) (c : WordKind) (k : RefKind) (s m : ℕ) → c ≡ word_of k s m → with_visit p n c ≡ p
reference_visited p n c k s m is = ap (with_visit p n) is ∙ none_visited p n k s m

none_visits : (held : List Visit) (n : ℕ) (k : RefKind) (s m : ℕ) → held ++ visits_in n (word_of k s m) ≡ held
none_visits held n AnInstall s m = append-nil held
none_visits held n AnExchange s m = append-nil held

pub reference_visits : (held : List Visit) (n : ℕ) (c : WordKind) (k : RefKind) (s m : ℕ) → c ≡ word_of k s m → held ++ visits_in n c ≡ held
reference_visits held n c k s m is = ap (λ (d : WordKind). held ++ visits_in n d) is ∙ none_visits held n k s m

module _ {H : Type 0} {S : Ghosts H} where
  pub path_kept : (p q : Pass H S) → KeepsPath p q → path q ≡ path p
  path_kept p q keeps = λ i. path_with ((keeps.1 i).items) (keeps.0 i)

  pub visits_kept : (p q : Pass H S) → KeepsPath p q → visits q ≡ visits p
  visits_kept p q keeps = ap (λ v. v.items) keeps.1
