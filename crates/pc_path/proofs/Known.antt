-- What a pass knows of what it visited and read, as it needs it for its adds.
use Rattle.std.proofs.Common.{◌≡◌, ℕ, ◌+◌, ◌<◌, List, [], ◌∷◌, ◌++◌, length, refl, ap, ap₂, ◌∙◌, arith}
use Rattle.std.proofs.lemmas.List.{length_push}
use mathlib.Core.Option.{some}
use lib.ListN.{get_elem?}
use Rattle.pc_model.specs.declared.cell.Field.{Field}
use Rattle.pc_model.specs.declared.cell.Field.TheVariants.{Version}
use Rattle.pc_model.specs.declared.shape.Shape.{Ghosts}
use Rattle.pc_protocol.specs.Notes.{visited}
use Rattle.pc_rule_law.specs.Board.{Size}
use Rattle.pc_rule_law.specs.Past.{Has}
use Rattle.pc_rule_law.proofs.Lists.{below_length}
use Rattle.pc_exchange_law.specs.ExchangeConditions.{KnowsOld, was_read, is_version}
use Rattle.pc_exchange_law.specs.Wholes.{Whole}
use Rattle.pc_rule.specs.declared.board.Pass.{Pass}
use Rattle.pc_rule.specs.declared.visit.Visit.{Visit}
use Rattle.pc_rule.specs.Passes.{path}
use Rattle.pc_rule.specs.Walking.{path_with}
use Rattle.pc_kcas.specs.Obstacles.{GoesOn}
use Rattle.pc_path.specs.Adds.{IsLastVisit}
use Rattle.pc_path.specs.Finds.{HasFound}

last_at : (old : List Visit) (v : Visit) → get_elem? (old ++ v ∷ []) (length old) ≡ some v
last_at [] v = refl
last_at (x ∷ xs) v = last_at xs v

-- a visit that was made last is the last one of its node
pub last_visit : (now old : List Visit) (n v : ℕ) → now ≡ old ++ record { node = n; version = v } ∷ [] → IsLastVisit now n v
unfolding last_at
last_visit now old n v is = record {
  place = length old;
  at = ap (λ (l : List Visit). get_elem? l (length old)) is ∙ last_at old (record { node = n; version = v });
  after = λ i u lt at. let below = below_length now i u at in
      let count : length now ≡ length old + 1 = ap (λ (l : List Visit). length l) is ∙ length_push old (record { node = n; version = v }) in absurd (omega arith);
}

-- what was found in the version was told of
pub version_told : (x y : Whole) (n v : ℕ) → HasFound x y n Version v → (c : ℕ) × Has y.knows.told (visited n v c)
version_told x y n v found = found.seen.seen.version v refl found.plain

-- the version that was found is known
pub knows_version : (z : Size) (x y w : Whole) (n v : ℕ) → HasFound x y n Version v → GoesOn y w → KnowsOld z w.knows n v Version v
unfolding version_told
knows_version z x y w n v found goes = let t = version_told x y n v found in is_version t.0 refl refl (goes.told (visited n v t.0) t.1)

-- a version is known as soon as it was found
pub found_version : (z : Size) (x y : Whole) (n v : ℕ) → HasFound x y n Version v → KnowsOld z y.knows n v Version v
unfolding version_told
found_version z x y n v found = let t = version_told x y n v found in is_version t.0 refl refl t.1

-- a number that was found after a version was told of is known to have stood there with it
pub knows_number : (z : Size) (y w : Whole) (n v c : ℕ) (f : Field) (number : ℕ) → Has y.knows.told (visited n v c) → HasFound y w n f number → KnowsOld z w.knows n v f number
knows_number z y w n v c f number told found =
    let r = found.seen.seen.number number v c found.plain (found.since.told (visited n v c) told) in was_read r.0 r.1

module _ {H : Type 0} {S : Ghosts H} where
  -- a pass at the same step, with the same visits, has the same path
  pub same_path : (p q : Pass H S) → q.seat ≡ p.seat → q.visits ≡ p.visits → path q ≡ path p
  same_path p q seat held = ap₂ (λ s v. path_with v.items s.me.0.path) seat held
