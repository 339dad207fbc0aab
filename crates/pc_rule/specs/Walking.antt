-- What a pass holds of the nodes that it visited, and what that says of its path.
use Rattle.std.specs.Prelude.{◌≡◌, ℕ, ◌+◌, ◌<◌, ◌≤◌, if◌then◌else◌, Bool, List, [], ◌∷◌, length, map, Option, Some, None}
use Rattle.std.specs.List.{All, AllPairs}
use Rattle.pc_model.specs.Cells.{IsNode}
use Rattle.pc_model.specs.Exchanges.{Visited}
use Rattle.pc_words.specs.declared.word.WordKind.{WordKind}
use Rattle.pc_words.specs.declared.word.WordKind.TheVariants.{Plain, Install, Exchange}
use Rattle.pc_exchange_law.specs.Paths.{Path, dropped, begun_path, ended_path, last_version, is_visitable}
use Rattle.pc_exchange_law.specs.Wholes.{Whole}
use Rattle.pc_rule.specs.declared.visit.Visit.{Visit}

abbrev pub visited_of : Visit → Visited
visited_of v = record { node = v.node; version = v.version }

-- A pass that holds no visits any more has dropped its path, which then begins anew with its next visit.
abbrev pub path_with : List Visit → Path → Path
path_with [] p = dropped p
path_with (v ∷ visits) p = p

-- the visit is of a node of a board with so many slots, at a version below the last one
abbrev pub FitsVisit : ℕ → Visit → Type 0
FitsVisit slots v = IsNode slots v.node × (v.version < last_version)

-- where a node was visited again, its version wasn't smaller than before
abbrev pub VersionsRise : List Visit → Type 0
VersionsRise visits = AllPairs (λ u v. u.node ≡ v.node → u.version ≤ v.version) visits

-- the pass holds the visits of its path, at most as many as there are nodes, and has room for so many
pub record HoldsPath (x : Whole) (has_begun : Bool) (held : List Visit) (room : ℕ) : Type 0 where
  pub begun : x.path.begun ≡ has_begun
  pub visits : (path_with held x.path).visits ≡ map visited_of held
  pub fit : All (FitsVisit x.view.size.slots) held
  pub rising : VersionsRise held
  pub few : length held ≤ x.view.size.slots + 1
  pub ample : x.view.size.slots + 1 ≤ room

-- the visit of a node in whose version word this was found, where that counts as one
abbrev pub visits_in : ℕ → WordKind → List Visit
visits_in n (Plain x) = if is_visitable x then record { node = n; version = x } ∷ [] else []
visits_in n (Install q k) = []
visits_in n (Exchange p a) = []

abbrev pub visit_list : Option Visit → List Visit
visit_list None = []
visit_list (Some v) = v ∷ []

-- an operation ends where one has begun, and else begins
abbrev pub turned : Path → Path
turned p = if p.begun then ended_path else begun_path
