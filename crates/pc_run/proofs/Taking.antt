-- What clap's clauses say of the words: taken, they ask for what its matches have; refused, for nothing.
use Rattle.std.proofs.Common.{◌≡◌, ◌⊎◌, List, [], ◌∷◌, Option, Some, None, is_some, refl, ap, true, false}
use Rattle.std.proofs.Common.{inl, inr, arith, ne_eqb}
use Rattle.std.specs.Prelude.{IsNone, IfSome, IfOk, IfErr, ok_or}
use Rattle.clap.specs.Words.{Kinds, IsAmong, Row, Text, fault_of, matches_of, is_simple_and_free, is_simple}
use Rattle.clap.specs.Walk.{is_empty}
use Rattle.clap.specs.declared.error.kind.ErrorKind.{ErrorKind}
use Rattle.clap.specs.declared.error.kind.ErrorKind.TheVariants.{OutOfMemory}
use Rattle.clap.proofs.OnLiterals.{clap_on_literals}
use Rattle.pc_text.specs.declared.fault.Fault.TheVariants.{Usage}
use Rattle.pc_run.specs.Words.{pathmap, asked_by, options_in, fault_of_kind, HasSeedInRange, IsWordsFault}
use Rattle.pc_run.specs.declared.words.Options.{Options}

pub pathmap_is_simple : is_simple_and_free pathmap ≡ true
unfolding pathmap clap_on_literals
pathmap_is_simple = refl

pub pathmap_has_matches : is_simple pathmap ≡ true
unfolding pathmap clap_on_literals
pathmap_has_matches = refl

-- words without a fault ask for what the command's matches have
pub asked_where_taken : (words : List Text) (rows : List Row) → fault_of pathmap words ≡ []
    → rows ≡ matches_of pathmap words → asked_by words ≡ options_in rows
asked_where_taken words rows taken is = rw (taken, is) refl

-- where a kind of error may come, there is a fault
some_kind : (k : ErrorKind) (kinds : Kinds) → IsAmong k kinds → is_empty kinds ≡ false
some_kind k [] among = absurd among
some_kind k (x ∷ xs) among = ne_eqb _ _ (λ e. omega arith)

-- words that aren't taken explain each fault of an error
refused_for : (k : ErrorKind) (asked : Option Options) → IsNone asked → IsWordsFault asked (fault_of_kind k)
refused_for OutOfMemory asked none = tt
refused_for _ asked none = none

-- an error of the parse has its cause
pub why_refused : (k : ErrorKind) (words : List Text) → (k ≡ OutOfMemory) ⊎ IsAmong k (fault_of pathmap words)
    → IsWordsFault (asked_by words) (fault_of_kind k)
why_refused k words (inl memory) = rw memory tt
why_refused k words (inr among) =
    refused_for k (asked_by words) (rw (some_kind k (fault_of pathmap words) among) refl)

-- options that may be missing, as a result that is faulty then
pub options_or_usage : (asked found : Option Options) → asked ≡ found
    → IfOk (ok_or found Usage) (λ options. asked ≡ Some options) × IfErr (ok_or found Usage) (IsWordsFault asked)
options_or_usage asked None is = (tt, ap is_some is)
options_or_usage asked (Some options) is = (is, tt)

-- the seed that is found is in range
pub ok_or_in_range : (found : Option Options) → IfSome found HasSeedInRange → IfOk (ok_or found Usage) HasSeedInRange
ok_or_in_range None seed = tt
ok_or_in_range (Some options) seed = seed
