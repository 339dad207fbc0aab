-- The visits of a node whose word is added.
use Rattle.std.specs.Prelude.{◌≡◌, ◌≢◌, ℕ, ◌<◌, List}
use mathlib.Core.Option.{some}
use lib.ListN.{get_elem?}
use Rattle.pc_model.specs.declared.cell.Field.TheVariants.{Version}
use Rattle.pc_rule_law.specs.Past.{Has}
use Rattle.pc_rule.specs.declared.opening.Place.{Place}
use Rattle.pc_rule.specs.declared.visit.Visit.{Visit}

-- the last of these visits of this node gave this version
pub record IsLastVisit (visits : List Visit) (n version : ℕ) : Type 0 where
  pub place : ℕ
  pub at : get_elem? visits place ≡ some (record { node = n; version = version })
  pub after : (i : ℕ) (v : Visit) → place < i → get_elem? visits i ≡ some v → v.node ≢ n

-- each version among these words changes from one that a visit of its node gave
abbrev pub AreFromVisits : List Visit → List Place → Type 0
AreFromVisits visits places = (p : Place) → Has places p → p.field ≡ Version → (v : Visit) × Has visits v × (v.node ≡ p.node) × (v.version ≡ p.old)

-- no node was visited at two versions
abbrev pub AreAtOneVersion : List Visit → Type 0
AreAtOneVersion visits = (u v : Visit) → Has visits u → Has visits v → u.node ≡ v.node → u.version ≡ v.version
