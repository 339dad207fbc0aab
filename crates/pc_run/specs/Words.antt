-- The words of the command line: the command that takes them, and what they ask for.
use Rattle.std.specs.Prelude.{⊤, ℕ, ◌≤◌, Bool, true, false, not, ◌&&◌, List, [], ◌∷◌, map, Option, Some, None, IsSome, IfSome}
use Rattle.std.specs.Prelude.{IsNone, String}
use Rattle.std.specs.Prelude.{string_bytes, codes, if◌then◌else◌, option_map, option_and_then}
use Rattle.std.specs.Option.{option_map_or}
use Rattle.std.specs.Str.{bytes_eq}
use Rattle.clap.specs.Words.{App, Row, Rule, Text, new_app, new_rule, with_rule, fault_of, first_of, matches_of}
use Rattle.clap.specs.Simple.{on_top}
use Rattle.clap.specs.Walk.{is_empty}
use Rattle.clap.specs.declared.builder.action.ArgAction.TheVariants.{SetTrue}
use Rattle.clap.specs.declared.error.kind.ErrorKind.{ErrorKind}
use Rattle.clap.specs.declared.error.kind.ErrorKind.TheVariants.{OutOfMemory}
use Rattle.pc_text.specs.declared.fault.Fault.{Fault}
use Rattle.pc_text.specs.declared.fault.Fault.TheVariants.{Usage, Memory}
use Rattle.pc_text.specs.declared.limits.TheConstants.{GREATEST_NUMBER}
use Rattle.pc_text.specs.ScriptWords.{number_of}
use Rattle.pc_avl.specs.declared.tree_kind.TreeKind.{TreeKind}
use Rattle.pc_avl.specs.declared.tree_kind.TreeKind.TheVariants.{Bst, Avl}
use Rattle.pc_run.specs.declared.words.Options.{Options}

-- `--tree`, which takes the name of a kind of tree
abbrev pub tree_option : Rule
tree_option = record (new_rule (codes "tree")) { long = Some (codes "tree"); defaults = codes "bst" ∷ [] }

-- `--shape`, which takes no value
abbrev pub shape_flag : Rule
shape_flag = record (new_rule (codes "shape")) { long = Some (codes "shape"); action = Some SetTrue }

-- `--summary`, which takes no value
abbrev pub summary_flag : Rule
summary_flag = record (new_rule (codes "summary")) { long = Some (codes "summary"); action = Some SetTrue }

-- `--made`, which takes a seed
abbrev pub made_option : Rule
made_option = record (new_rule (codes "made")) { long = Some (codes "made") }

-- the command of the program: these options and nothing else, not even one for help
unfoldable pub pathmap : App
pathmap = with_rule (with_rule (with_rule (with_rule
    (on_top (λ s. record s { disable_help_flag = true }) (new_app (codes "pathmap")))
    tree_option) shape_flag) summary_flag) made_option

-- the kind of tree with this name
abbrev pub tree_named : Text → Option TreeKind
tree_named name = if bytes_eq name (codes "bst") then Some Bst
    else (if bytes_eq name (codes "avl") then Some Avl else None)

-- the kind of tree that an option names
abbrev pub tree_in : List Row → Option TreeKind
tree_in matches = option_and_then tree_named (first_of (codes "tree") matches)

-- a flag was given: it has the value `true` then
abbrev pub has_flag : Text → List Row → Bool
has_flag id matches = option_map_or (λ text. bytes_eq text (codes "true")) (first_of id matches) false

-- the seed that an option names, where the option was given: a number as a script writes one
abbrev pub made_in : List Row → Option (Option ℕ)
made_in matches = option_map_or (λ text. option_map Some (number_of text)) (first_of (codes "made") matches) (Some None)

-- what matches with this tree and this seed, if any, ask for: the shape where its flag was given and no summary is
-- wanted
abbrev pub options_with : List Row → TreeKind → Option ℕ → Options
options_with matches tree made = record {
  tree = tree;
  shape = has_flag (codes "shape") matches && not (has_flag (codes "summary") matches);
  summary = has_flag (codes "summary") matches;
  made = made;
}

-- what the command's matches ask for, where they name a tree, and a seed or none
abbrev pub options_in : List Row → Option Options
options_in matches =
    option_and_then (λ tree. option_map (options_with matches tree) (made_in matches)) (tree_in matches)

-- what words ask for, the program's name first, where the command takes them and they name a tree
abbrev pub asked_by : List Text → Option Options
asked_by words = if is_empty (fault_of pathmap words) then options_in (matches_of pathmap words) else None

module _ {Z : Type 0} where
  -- the same of strings
  abbrev pub options_of : List (String Z) → Option Options
  options_of words = asked_by (map string_bytes words)

-- a seed is a number of a script
abbrev pub HasSeedInRange : Options → Type 0
HasSeedInRange options = IfSome options.made (λ seed. seed ≤ GREATEST_NUMBER)

-- the words are taken, and ask for the script of the source
abbrev pub ReadsSource : Option Options → Type 0
ReadsSource (Some options) = IsNone options.made
ReadsSource None = ⊥

-- the words aren't taken, or they name a seed, whose script is run
abbrev pub LeavesSource : Option Options → Type 0
LeavesSource (Some options) = IsSome options.made
LeavesSource None = ⊤

-- the fault at an error of each kind
abbrev pub fault_of_kind : ErrorKind → Fault
fault_of_kind OutOfMemory = Memory
fault_of_kind _ = Usage

-- why there are no options: the words aren't taken, or memory was wanting
abbrev pub IsWordsFault : Option Options → Fault → Type 0
IsWordsFault asked Usage = IsNone asked
IsWordsFault asked Memory = ⊤
IsWordsFault asked _ = ⊥
