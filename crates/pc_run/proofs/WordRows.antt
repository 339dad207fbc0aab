-- Worked rows of what words ask for: each one computes.
use Rattle.std.proofs.Common.{◌≡◌, Bool, List, [], ◌∷◌, Some, None, refl, true, false, codes}
use Rattle.clap.specs.Words.{Text}
use Rattle.pc_avl.specs.declared.tree_kind.TreeKind.TheVariants.{Bst, Avl}
use Rattle.clap.proofs.OnLiterals.{clap_on_literals}
use Rattle.pc_avl.specs.declared.tree_kind.TreeKind.{TreeKind}
use Rattle.pc_run.specs.declared.words.Options.{Options}
use Rattle.pc_run.specs.Words.{pathmap, asked_by}

-- these words behind the program's name
abbrev behind : List Text → List Text
behind words = codes "pathmap" ∷ words

abbrev plainly : TreeKind → Bool → Options
plainly tree shape = record { tree = tree; shape = shape; summary = false; made = None }

plain : asked_by (behind []) ≡ Some (plainly Bst false)
unfolding pathmap clap_on_literals
plain = refl

shaped : asked_by (behind (codes "--shape" ∷ [])) ≡ Some (plainly Bst true)
unfolding pathmap clap_on_literals
shaped = refl

-- a name is no option, and no name is none
name_alone : asked_by (codes "--shape" ∷ []) ≡ Some (plainly Bst false)
unfolding pathmap clap_on_literals
name_alone = refl

no_words : asked_by [] ≡ Some (plainly Bst false)
unfolding pathmap clap_on_literals
no_words = refl

ended : asked_by (behind (codes "--shape" ∷ codes "--" ∷ [])) ≡ Some (plainly Bst true)
unfolding pathmap clap_on_literals
ended = refl

behind_the_end : asked_by (behind (codes "--" ∷ codes "--shape" ∷ [])) ≡ None
unfolding pathmap clap_on_literals
behind_the_end = refl

with_value : asked_by (behind (codes "--shape=x" ∷ [])) ≡ None
unfolding pathmap clap_on_literals
with_value = refl

twice : asked_by (behind (codes "--shape" ∷ codes "--shape" ∷ [])) ≡ None
unfolding pathmap clap_on_literals
twice = refl

loose_word : asked_by (behind (codes "shape" ∷ [])) ≡ None
unfolding pathmap clap_on_literals
loose_word = refl

cut_short : asked_by (behind (codes "--sha" ∷ [])) ≡ None
unfolding pathmap clap_on_literals
cut_short = refl

short_form : asked_by (behind (codes "-s" ∷ [])) ≡ None
unfolding pathmap clap_on_literals
short_form = refl

help : asked_by (behind (codes "--help" ∷ [])) ≡ None
unfolding pathmap clap_on_literals
help = refl

-- ---- the kind of tree

tree : asked_by (behind (codes "--tree" ∷ codes "avl" ∷ [])) ≡ Some (plainly Avl false)
unfolding pathmap clap_on_literals
tree = refl

attached : asked_by (behind (codes "--tree=avl" ∷ [])) ≡ Some (plainly Avl false)
unfolding pathmap clap_on_literals
attached = refl

plain_tree : asked_by (behind (codes "--tree" ∷ codes "bst" ∷ [])) ≡ Some (plainly Bst false)
unfolding pathmap clap_on_literals
plain_tree = refl

tree_first : asked_by (behind (codes "--tree" ∷ codes "avl" ∷ codes "--shape" ∷ []))
    ≡ Some (plainly Avl true)
unfolding pathmap clap_on_literals
tree_first = refl

tree_last : asked_by (behind (codes "--shape" ∷ codes "--tree=avl" ∷ codes "--" ∷ []))
    ≡ Some (plainly Avl true)
unfolding pathmap clap_on_literals
tree_last = refl

no_such_tree : asked_by (behind (codes "--tree" ∷ codes "red" ∷ [])) ≡ None
unfolding pathmap clap_on_literals
no_such_tree = refl

great_letters : asked_by (behind (codes "--tree=BST" ∷ [])) ≡ None
unfolding pathmap clap_on_literals
great_letters = refl

no_value : asked_by (behind (codes "--tree" ∷ [])) ≡ None
unfolding pathmap clap_on_literals
no_value = refl

empty_value : asked_by (behind (codes "--tree=" ∷ [])) ≡ None
unfolding pathmap clap_on_literals
empty_value = refl

-- a word that looks like an option is no value
option_as_value : asked_by (behind (codes "--tree" ∷ codes "--shape" ∷ [])) ≡ None
unfolding pathmap clap_on_literals
option_as_value = refl

ended_without_value : asked_by (behind (codes "--tree" ∷ codes "--" ∷ codes "bst" ∷ [])) ≡ None
unfolding pathmap clap_on_literals
ended_without_value = refl

two_values : asked_by (behind (codes "--tree" ∷ codes "bst" ∷ codes "bst" ∷ [])) ≡ None
unfolding pathmap clap_on_literals
two_values = refl

two_trees : asked_by (behind (codes "--tree=bst" ∷ codes "--tree=bst" ∷ [])) ≡ None
unfolding pathmap clap_on_literals
two_trees = refl

-- ---- the summary and the seed

summary : asked_by (behind (codes "--summary" ∷ []))
    ≡ Some (record { tree = Bst; shape = false; summary = true; made = None })
unfolding pathmap clap_on_literals
summary = refl

-- where a summary is wanted no shape is
summary_and_shape : asked_by (behind (codes "--shape" ∷ codes "--summary" ∷ []))
    ≡ Some (record { tree = Bst; shape = false; summary = true; made = None })
unfolding pathmap clap_on_literals
summary_and_shape = refl

made : asked_by (behind (codes "--made" ∷ codes "7" ∷ codes "--tree" ∷ codes "avl" ∷ codes "--summary" ∷ []))
    ≡ Some (record { tree = Avl; shape = false; summary = true; made = Some 7 })
unfolding pathmap clap_on_literals
made = refl

seed_with_zeros : asked_by (behind (codes "--made=007" ∷ []))
    ≡ Some (record { tree = Bst; shape = false; summary = false; made = Some 7 })
unfolding pathmap clap_on_literals
seed_with_zeros = refl

greatest_seed : asked_by (behind (codes "--made=999999999999999999" ∷ []))
    ≡ Some (record { tree = Bst; shape = false; summary = false; made = Some 999999999999999999 })
unfolding pathmap clap_on_literals
greatest_seed = refl

seed_too_great : asked_by (behind (codes "--made=1000000000000000000" ∷ [])) ≡ None
unfolding pathmap clap_on_literals
seed_too_great = refl

signed_seed : asked_by (behind (codes "--made=+1" ∷ [])) ≡ None
unfolding pathmap clap_on_literals
signed_seed = refl

empty_seed : asked_by (behind (codes "--made=" ∷ [])) ≡ None
unfolding pathmap clap_on_literals
empty_seed = refl

no_seed : asked_by (behind (codes "--made" ∷ [])) ≡ None
unfolding pathmap clap_on_literals
no_seed = refl

two_seeds : asked_by (behind (codes "--made=1" ∷ codes "--made=1" ∷ [])) ≡ None
unfolding pathmap clap_on_literals
two_seeds = refl

two_summaries : asked_by (behind (codes "--summary" ∷ codes "--summary" ∷ [])) ≡ None
unfolding pathmap clap_on_literals
two_summaries = refl
