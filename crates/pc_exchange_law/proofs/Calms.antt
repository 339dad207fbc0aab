-- How a word comes to be clean of an attempt that is decided: by what was found in it.
use Rattle.std.proofs.Common.{◌≢◌, ℕ, refl, sym, ap₂, subst}
use Rattle.pc_model.specs.declared.cell.Field.{Field}
use Rattle.pc_words.specs.declared.word.WordKind.{WordKind}
use Rattle.pc_words.specs.declared.word.WordKind.TheVariants.{Plain, Install, Exchange}
use Rattle.pc_rule_law.specs.Board.{Board}
use Rattle.pc_rule_law.specs.Past.{Placing, Past}
use Rattle.pc_rule_law.specs.Views.{IsClean}
use Rattle.pc_exchange_law.specs.Attempts.{Scripts, IsCalm, IsCalmBut}
use Rattle.pc_exchange_law.specs.AttemptLaws.{CalmsServe}

module _ (placing : ℕ → ℕ → Placing) (p a : ℕ) where
  calm_without : (q k : ℕ) (c : WordKind) → IsCalmBut placing p a q k c → c ≢ Install q k → IsCalm placing p a c
  calm_without q k (Plain x) was ne = tt
  calm_without q k (Install r i) was ne = λ early. let is = was early in ne (ap₂ Install is.0 is.1)
  calm_without q k (Exchange r i) was ne = tt

  clean_without : (c : WordKind) → IsCalm placing p a c → c ≢ Exchange p a → IsClean placing p a c
  clean_without (Plain x) was ne = tt
  clean_without (Install r i) was ne = λ seat number early. was (seat, number, early)
  clean_without (Exchange r i) was ne = λ seat number. ne (ap₂ Exchange seat number)

pub calms_serve : (b : Board) (t : Past) (w : Scripts) (p a n : ℕ) (f : Field) → CalmsServe b t w p a n f
calms_serve b t w p a n f = record {
  reference = λ q c decided is. (decided, subst (IsCalm t.placing p a) (sym is) tt);
  install = λ q k decided is. (
    decided,
    subst (IsCalmBut t.placing p a q k) (sym is) (λ _. (refl, refl)),
  );
  gone = λ q k calm ne. (calm.0, calm_without t.placing p a q k (b.cell n f) calm.1 ne);
  clean = λ calm ne. clean_without t.placing p a (b.cell n f) calm.1 ne;
}
