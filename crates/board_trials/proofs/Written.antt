-- What a pass knows of words that its own exchange wrote.
use Rattle.std.proofs.Common.{◌≡◌, ℕ, zero, suc, List, [], ◌∷◌, map, refl, sym, ◌∙◌, subst, ap, ap₂, arith}
use Rattle.std.specs.List.{All}
use Rattle.std.specs.List.Sorted.{IsPermutation}
use Rattle.std.proofs.lemmas.List.Sorted.{All-permutation, IsPermutation-sym}
use Rattle.pc_model.specs.declared.cell.Field.{Field}
use Rattle.pc_model.specs.declared.cell.Field.TheVariants.{Version}
use Rattle.pc_model.specs.Exchanges.{Changed, Visited, Seen}
use Rattle.pc_history.specs.Footprints.{IsAmong}
use Rattle.pc_rule_law.specs.Board.{Size}
use Rattle.pc_rule_law.specs.Past.{Has, change}
use Rattle.pc_protocol.specs.Histories.{committed}
use Rattle.pc_protocol.specs.Notes.{published, verdict}
use Rattle.pc_exchange_law.specs.ExchangeConditions.{KnowsOld, was_written}
use Rattle.pc_exchange_law.specs.Passes.{PassKnows}
use Rattle.pc_exchange_law.specs.Slots.{IsHeld}
use Rattle.pc_exchange_law.specs.Ties.{exchange_of}
use Rattle.pc_exchange_law.proofs.ChangeLists.{has_among}
use Rattle.pc_rule.specs.declared.opening.Place.{Place}
use Rattle.pc_rule.specs.Starting.{change_of}
use Rattle.pc_rule.proofs.Starting.{element}
use Rattle.pc_kcas.specs.Exchanges.{KnowsOldValues, attempt_with}
use Rattle.pc_kcas.proofs.Attempts.{listed_as}

-- both words are among the changes of the exchange that lists them in some order
module _ (one two : Place) (listed : List Place) (same : IsPermutation (one ∷ two ∷ []) listed) where
  are_listed : All (Has listed) (one ∷ two ∷ [])
  are_listed = All-permutation (Has listed) listed (one ∷ two ∷ []) (IsPermutation-sym (one ∷ two ∷ []) listed same) (λ k d lt. (k, element listed k d lt))

  among_one : IsAmong (change_of one) (map change_of listed)
  unfolding are_listed
  among_one = let h = are_listed 0 one (omega arith) in has_among (map change_of listed) (change_of one) (h.0, listed_as listed h.0 one h.1)

  among_two : IsAmong (change_of two) (map change_of listed)
  unfolding are_listed
  among_two = let h = are_listed 1 two (omega arith) in has_among (map change_of listed) (change_of two) (h.0, listed_as listed h.0 two h.1)

as_change : (p : Place) (n : ℕ) (f : Field) (x : ℕ) → n ≡ p.node → f ≡ p.field → x ≡ p.new → change_of p ≡ change n f p.old x
as_change p n f x at of new = ap₂ (λ (a : ℕ) (g : Field). change a g p.old p.new) (sym at) (sym of) ∙ ap (λ (w : ℕ). change n f p.old w) (sym new)

-- the second of two exchanges changes the same words from what the first changed them to
pub record IsNext (one two first second : Place) : Type 0 where
  pub version : (one.field ≡ Version) × (first.node ≡ one.node) × (first.field ≡ Version) × (first.old ≡ one.new)
  pub other : (two.node ≡ one.node) × (second.node ≡ two.node) × (second.field ≡ two.field) × (second.old ≡ two.new)

-- where the first took effect, their old values are known: it wrote them
module _ (z : Size) (k : PassKnows) (y s c : ℕ) (visits : List Visited) (reads : List Seen) (listed : List Place) (one two first second : Place) (won : Has k.told (verdict y (committed s)))
    (there : Has k.told (published y (exchange_of (attempt_with 0 visits reads (map change_of listed))) c)) (same : IsPermutation (one ∷ two ∷ []) listed) (next : IsNext one two first second) (held : IsHeld k first.node) where
  wrote_version : (n : ℕ) → n ≡ one.node → IsAmong (change n Version one.old first.old) (map change_of listed)
  unfolding among_one as_change
  wrote_version n at = subst (λ (x : Changed). IsAmong x (map change_of listed)) (as_change one n Version first.old at (sym next.version.0) next.version.3) (among_one one two listed same)

  wrote_first : KnowsOld z k first.node first.old first.field first.old
  unfolding wrote_version
  wrote_first = let w = wrote_version first.node next.version.1 in was_written y s c one.old one.old (exchange_of (attempt_with 0 visits reads (map change_of listed))) won there w
      (subst (λ (f : Field). IsAmong (change first.node f one.old first.old) (map change_of listed)) (sym next.version.2) w)

  wrote_second : KnowsOld z k second.node first.old second.field second.old
  unfolding wrote_version among_two as_change
  wrote_second = was_written y s c one.old two.old (exchange_of (attempt_with 0 visits reads (map change_of listed))) won there (wrote_version second.node (next.other.1 ∙ next.other.0))
      (subst (λ (x : Changed). IsAmong x (map change_of listed)) (as_change two second.node second.field second.old next.other.1 next.other.2 next.other.3) (among_two one two listed same))

  pub next_values : KnowsOldValues z k (first ∷ second ∷ [])
  unfolding wrote_first wrote_second
  next_values zero d lt = (first, (zero, refl), refl, next.version.2, wrote_first, held)
  next_values (suc zero) d lt = (first, (zero, refl), next.version.1 ∙ sym (next.other.1 ∙ next.other.0), next.version.2, wrote_second, subst (IsHeld k) (next.version.1 ∙ sym (next.other.1 ∙ next.other.0)) held)
  next_values (suc (suc n)) d lt = absurd (omega arith)
