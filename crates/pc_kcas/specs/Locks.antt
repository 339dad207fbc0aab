-- The locks of a path: the version of each visited node that an exchange doesn't change otherwise, changed to what it is. So the node
-- is the exchange's own while its words hold its reference, and no visit has to be checked.
use Rattle.std.specs.Prelude.{◌≡◌, ℕ, ◌<◌, ◌≤◌, ◌⊎◌, ◌==◌, ◌||◌, if◌then◌else◌, Bool, true, false, List, [], ◌∷◌, ◌++◌, length}
use Rattle.pc_model.specs.declared.cell.Field.TheVariants.{Version}
use Rattle.pc_model.specs.Exchanges.{Visited}
use Rattle.pc_rule_law.specs.Board.{place_number}
use Rattle.pc_rule_law.specs.Past.{Has}
use Rattle.pc_exchange_law.specs.Paths.{Path}
use Rattle.pc_rule.specs.declared.opening.Place.{Place}
use Rattle.pc_rule.specs.declared.visit.Visit.{Visit}
use Rattle.pc_rule.specs.Listed.{word_number}
use Rattle.pc_kcas.specs.declared.mode.Mode.{Mode}
use Rattle.pc_kcas.specs.declared.mode.Mode.TheVariants.{Words, Path as OfPath, LockedPath as OfLockedPath}

-- the lock of a visited node
abbrev pub lock_of : Visited → Place
lock_of u = record { node = u.node; field = Version; old = u.version; new = u.version }

-- whether the version of this node is among these words
abbrev pub lists_version : ℕ → List Place → Bool
lists_version n [] = false
lists_version n (p ∷ places) = (word_number p == place_number n Version) || lists_version n places

-- these words, and a lock where the version of the visited node isn't among them; and so for one visit after the other
abbrev pub with_lock : List Place → Visited → List Place
with_lock places u = if lists_version u.node places then places else places ++ lock_of u ∷ []

abbrev pub with_locks : List Place → List Visited → List Place
with_locks places [] = places
with_locks places (u ∷ visits) = with_locks (with_lock places u) visits

-- the words of an exchange of this mode, for which these were listed
abbrev pub words_by : Mode → Path → List Place → List Place
words_by Words p places = places
words_by OfPath p places = places
words_by OfLockedPath p places = with_locks places p.visits

-- X holds where the mode locks the path
abbrev pub WhereLocked : Mode → Type 0 → Type 0
WhereLocked Words X = Unit {0}
WhereLocked OfPath X = Unit {0}
WhereLocked OfLockedPath X = X

-- The visits can be locked beside these words: there are at most 24 words, no node was visited at two versions, and where the version of
-- a visited node is among the words, it changes from the one visited.
pub record CanLock (visits : List Visit) (places : List Place) : Type 0 where
  pub few : length places ≤ 24
  pub listed : (v : Visit) (p : Place) → Has visits v → Has places p → p.node ≡ v.node → p.field ≡ Version → p.old ≡ v.version
  pub once : (u v : Visit) → Has visits u → Has visits v → u.node ≡ v.node → u.version ≡ v.version
