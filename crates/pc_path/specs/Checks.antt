-- How far the visits of a path are checked for the stamp that was drawn for its read.
use Rattle.std.specs.Prelude.{◌≡◌, ℕ, ◌<◌, ◌≤◌, List, length, map, drop}
use Rattle.pc_words.specs.declared.word.WordKind.TheVariants.{Plain}
use Rattle.pc_words.specs.Words.{kind}
use Rattle.pc_rule_law.specs.Past.{Has}
use Rattle.pc_protocol.specs.Notes.{in_run}
use Rattle.pc_exchange_law.specs.Passes.{PassKnows}
use Rattle.pc_exchange_law.specs.Paths.{Path, read_of, with_stamp, with_left}
use Rattle.pc_exchange_law.specs.WholePlays.{PathChecked}
use Rattle.pc_rule.specs.declared.visit.Visit.{Visit}
use Rattle.pc_rule.specs.Walking.{visited_of}

-- a load that found this version checked the next visit of the path
abbrev pub IsCheckedBy : Path → ℕ → Path → PassKnows → Type 0
IsCheckedBy p w q k = (r : ℕ) × (kind r ≡ Plain w) × PathChecked p r q k

-- no visit of this node had a greater version than this one
abbrev pub IsAfterVisits : List Visit → ℕ → ℕ → Type 0
IsAfterVisits visits n w = (v : Visit) → Has visits v → v.node ≡ n → v.version ≤ w

-- The visits below i passed their checks for stamp s, which was drawn for the read of path p, and the others are still to be
-- checked. Where all of them passed, that read took effect at the stamp.
pub record IsCheckedTo (p : Path) (s : ℕ) (visits : List Visit) (i : ℕ) (q : Path) (k : PassKnows) : Type 0 where
  pub more : i < length visits → q ≡ with_left (with_stamp p s) (map visited_of (drop i visits))
  pub done : length visits ≤ i → Has k.told (in_run s (read_of p))
