-- What an exchange rests on stays, and tells that a version is past.
use Rattle.std.proofs.Common.{◌≡◌, ◌≢◌, ℕ, ◌<◌, ◌≤◌, inr, ⊎_elim, refl, sym, ◌∙◌, subst, arith}
use Rattle.std.proofs.lemmas.Bool.{cases_lt}
use Rattle.pc_model.specs.declared.cell.Field.TheVariants.{Version}
use Rattle.pc_model.specs.Exchanges.{Changed, Exchange}
use Rattle.pc_history.specs.Footprints.{IsAmong}
use Rattle.pc_history.proofs.Updates.{updated_here, from_updated}
use Rattle.pc_history.proofs.Moments.{versions_never_fall}
use Rattle.pc_protocol.specs.Histories.{undecided, History, moments, cells_now, IsPublished, IsSpare}
use Rattle.pc_protocol.specs.Rules.{Rule}
use Rattle.pc_protocol.specs.Notes.{read_word, published, outdated, IsTrueNote}
use Rattle.pc_protocol.specs.Steps.{Keeps, publish}
use Rattle.pc_protocol.specs.Bases.{HasBasis, IsBased, BasesTell}

-- a published exchange is the same after a step
pub same_exchange : (h h' : History) (x : ℕ) → Keeps h h' → IsPublished (h.stage x) → h'.op x ≡ h.op x
same_exchange h h' x keeps is_published =
    let after : IsTrueNote h' (published x (h.op x) (h.published_at x)) =
    keeps.notes (published x (h.op x) (h.published_at x)) (is_published, refl, refl) in
    after.1

pub basis_still : (h h' : History) (e : Exchange) → Keeps h h' → HasBasis h e → HasBasis h' e
basis_still h h' e keeps basis a among = let there = basis a among in
    (there.0, there.1, there.2, keeps.notes (read_word a.node there.0 a.field a.old there.2) there.3)

pub based_still : (h h' : History) (x : ℕ) → Keeps h h' → IsPublished (h.stage x) → IsBased h x → IsBased h' x
based_still h h' x keeps is_published based = subst (HasBasis h') (sym (same_exchange h h' x keeps is_published))
    (basis_still h h' (h.op x) keeps based)

-- all that are published stay based, at a step that publishes none
pub bases_still : (h h' : History) → Keeps h h' → ((x : ℕ) → IsPublished (h'.stage x) → IsPublished (h.stage x))
    → ((x : ℕ) → IsPublished (h.stage x) → IsBased h x)
    → (x : ℕ) → IsPublished (h'.stage x) → IsBased h' x
bases_still h h' keeps before based x is_published = based_still h h' x keeps (before x is_published)
    (based x (before x is_published))

-- an exchange that is published with a basis is based
pub based_here : (h : History) (x : ℕ) (e : Exchange) (c y : ℕ) → Keeps h (publish h x e c) → HasBasis h e → y ≡ x
    → IsBased (publish h x e c) y
based_here h x e c y keeps basis same = subst (HasBasis (publish h x e c)) (sym (updated_here h.op x e y same))
    (basis_still h (publish h x e c) e keeps basis)

-- and so all are after that
pub bases_with : (h : History) (x : ℕ) (e : Exchange) (c : ℕ) → Keeps h (publish h x e c) → HasBasis h e
    → ((y : ℕ) → IsPublished (h.stage y) → IsBased h y)
    → (y : ℕ) → IsPublished ((publish h x e c).stage y) → IsBased (publish h x e c) y
bases_with h x e c keeps basis based y is_published = ⊎_elim
    (λ here. based_here h x e c y keeps basis here.0)
    (λ other. based_still h (publish h x e c) y keeps other.1 (based y other.1))
    (from_updated h.stage x undecided IsPublished y is_published)

module _ (h : History) (rule : Rule h) where
  other_number_tells : (x : ℕ) (a : Changed) → IsPublished (h.stage x) → IsBased h x → IsAmong a (h.op x).changes
      → (IsSpare (h.slot a.node) → ⊥) → h.plain a.node a.field ≢ a.old
      → IsTrueNote h (outdated x a.node)
  other_number_tells x a is_published based among not_spare other =
      let n : ℕ = a.node in let there = based a among in let v : ℕ = there.0 in
      let seen : IsTrueNote h (read_word n v a.field a.old there.2) = there.3 in
      let least : moments h there.2 n Version ≤ cells_now h n Version =
      versions_never_fall h.opening h.clock h.item rule.run there.2 h.clock n seen.0 in
      let known : v ≤ moments h there.2 n Version = seen.1.0 in
      let not_now : cells_now h n Version ≡ v → ⊥ = λ same. other (rule.plain_is n a.field not_spare
      ∙ seen.1.1 h.clock seen.0 same) in
      let past : v < cells_now h n Version = ⊎_elim (λ lt. lt) (λ le. absurd (not_now (omega arith)))
      (cases_lt v (cells_now h n Version)) in
      (is_published, (v, inr there.1, past))

  pub bases_tell : BasesTell h
  bases_tell = record {
    begins = λ x e c keeps basis. based_here h x e c x keeps basis refl;
    stays = based_still h;
    other_number = other_number_tells;
  }
