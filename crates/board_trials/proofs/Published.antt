-- What is known of a pass that publishes two words, and of an install that it met.
use Rattle.std.proofs.Common.{◌≡◌, ℕ, suc, List, [], ◌∷◌, ◌++◌, refl, sym, ap, subst, arith}
use Rattle.std.specs.Prelude.{OnOk, OnErr}
use Rattle.std.specs.List.{All}
use Rattle.std.specs.List.Sorted.{IsPermutation}
use Rattle.std.specs.declared.result.Result.{Result}
use Rattle.std.specs.declared.result.Result.TheVariants.{Ok, Err}
use Rattle.std.proofs.lemmas.List.Sorted.{All-permutation, IsPermutation-sym}
use mathlib.Core.Option.{some}
use lib.ListN.{get_elem?}
use Rattle.pc_model.specs.declared.shape.Shape.{Ghosts}
use Rattle.pc_model.specs.declared.numbers.Numbers.{Numbers}
use Rattle.pc_rule_law.specs.Conditions.{IsFree, CanWrite}
use Rattle.pc_rule_law.specs.Past.{Has}
use Rattle.pc_rule_law.specs.Views.{Note, View, OwnAttempt, held}
use Rattle.pc_exchange_law.specs.Wholes.{Whole}
use Rattle.pc_rule.specs.Passes.{view, listed}
use Rattle.pc_rule.specs.Shares.{NoneTried}
use Rattle.pc_rule.specs.declared.board.Pass.{Pass}
use Rattle.pc_rule.specs.declared.opening.Place.{Place}
use Rattle.pc_rule.specs.declared.refs.Ref.{Ref}
use Rattle.pc_rule.specs.declared.refs.RefKind.{RefKind}
use Rattle.pc_rule.specs.declared.refs.RefKind.TheVariants.{Install, Exchange}
use Rattle.pc_dcss.specs.declared.installed.Installed.{Installed}
use Rattle.pc_dcss.specs.declared.installed.Installed.TheVariants.{Held, Decided, Differs, Met, Numbers as OutOfNumbers}
use Rattle.pc_dcss.specs.Installs.{HasMet, IsMet, HasCome, met_note, IfDiffers, IfMet}
use Rattle.pc_dcss.proofs.Meeting.{met_install}
use Rattle.pc_kcas.specs.Exchanges.{OnlyPublished}
use Rattle.pc_kcas.specs.Readings.{HasComeTo}
use Rattle.pc_kcas.proofs.Attempts.{free_published}

all_holds : (P : Place → Type 0) (fore rest : List Place) (p : Place) → All P (fore ++ (p ∷ rest)) → P p
all_holds P [] rest p all = all 0 p (omega arith)
all_holds P (x ∷ xs) rest p all = all_holds P xs rest p (λ k d lt. all (suc k) d (omega arith))

pub free_after : (v w : View) (X : Type 0) (r : Result (Unit {0}) Numbers) → OnOk r (OnlyPublished v w) → OnErr r ((w ≡ v) × X) → IsFree v → IsFree w
free_after v w X (Ok _) only same free = free_published v w only free
free_after v w X (Err e) only same free = subst IsFree (sym same.0) free

-- what is known of each listed word in another order is known of each
pub known_listed : (P : Place → Type 0) (old new fore rest : List Place) (p : Place) (r : Result (Unit {0}) Numbers) → old ≡ fore ++ (p ∷ rest) → OnOk r (IsPermutation old new)
    → OnOk r (All P new) → OnOk r (P p)
known_listed P old new fore rest p (Ok _) is same all = all_holds P fore rest p
    (All-permutation P new (fore ++ (p ∷ rest)) (IsPermutation-sym (fore ++ (p ∷ rest)) new (subst (λ (l : List Place). IsPermutation l new) is same)) all)
known_listed P old new fore rest p (Err e) is same all = tt

pub met_known : (v w : View) (op : Ref) (place : Place) (i : Installed) → IfMet i (IsMet v w op place) → IfMet i (λ r. r.kind ≡ Install → HasMet w r.seat r.number)
met_known v w op place Held met = tt
met_known v w op place Decided met = tt
met_known v w op place (Differs x) met = tt
met_known v w op place (Met r) met = λ kind. met_install v w op r place met kind
met_known v w op place (OutOfNumbers n) met = tt

-- an exchange that was met may be helped
pub come_met : (v : View) (y : Whole) (op : Ref) (place : Place) (i : Installed) (r : Ref) → i ≡ Met r → r.kind ≡ Exchange
    → IfMet i (IsMet v y.view op place) → IfMet i (HasCome y.knows) → HasComeTo y r
come_met v y op place i r is kind met came =
    let m : IsMet v y.view op place r = subst (λ (a : Installed). IfMet a (IsMet v y.view op place)) is met in
    let c : HasCome y.knows r = subst (λ (a : Installed). IfMet a (HasCome y.knows)) is came in
    let told : y.view.notes ≡ held r.seat r.number place.node place.field ∷ v.notes =
    subst (λ (k : RefKind). y.view.notes ≡ met_note k r.seat r.number place.node place.field ∷ v.notes) kind m.0 in (
      (
        place.node,
        place.field,
        subst (λ (l : List Note). Has l (held r.seat r.number place.node place.field)) (sym told) (0, refl),
      ),
      c kind,
    )

-- what is known where a word differs may be another fact
pub differs_so : (X Y : Type 0) (i : Installed) → (X → Y) → IfDiffers i (λ x. X) → IfDiffers i (λ x. Y)
differs_so X Y Held more h = tt
differs_so X Y Decided more h = tt
differs_so X Y (Differs x) more h = more h
differs_so X Y (Met r) more h = tt
differs_so X Y (OutOfNumbers n) more h = tt

-- a pass of a board that opened may list and publish
pub may_list : {H : Type 0} {S : Ghosts H} (passes : List (Pass H S)) → NoneTried passes → (i : ℕ) (p : Pass H S) → get_elem? passes i ≡ some p
    → CanWrite (view p) × (listed p ≡ [])
may_list passes tried i p at = let o = tried i p at in ((o.0, ap (λ (a : OwnAttempt). a.published) o.1), o.2)
