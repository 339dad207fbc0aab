-- What is known of a lawful exchange in plain cells that agree with what its plan was told: it writes words of
-- nodes that fit, it marks a slot in use, and each slot is out of use after it where it should be.
use Rattle.std.proofs.Common.{◌≡◌, ◌≢◌, ℕ, ◌+◌, ◌%◌, ◌==◌, ⊎_elim, if◌then◌else◌, Bool, true, false, List, [], ◌∷◌}
use Rattle.std.proofs.Common.{Option, Some, None, IfSome, refl, sym, ap, ◌∙◌, subst, arith}
use Rattle.std.specs.Prelude.{IsSome}
use Rattle.std.proofs.lemmas.Bool.{cases_Bool, cases_eq, eq-eqb, ne_eqb, eqb-true, cond-true, cond-false}
use Rattle.pc_model.specs.declared.cell.Field.TheVariants.{Version}
use Rattle.pc_model.specs.Cells.{Cells, IsEven, IsOdd, IsNode, IsSlot}
use Rattle.pc_model.specs.Exchanges.{with_fresh}
use Rattle.pc_plan.specs.declared.change.To.{To}
use Rattle.pc_plan.specs.declared.change.To.TheVariants.{Number}
use Rattle.pc_plan.specs.declared.change.Add.{Add}
use Rattle.pc_plan.specs.declared.change.Fresh.{Fresh}
use Rattle.pc_plan.specs.Planned.{Planned}
use Rattle.pc_plan.specs.SlotsAfter.{is_node, taken_by, parity_after}
use Rattle.pc_plan.specs.Traces.{Event, version_seen}
use Rattle.pc_plan.specs.Runs.{number_at, fresh_at, Takes}
use Rattle.pc_plan.specs.Lawful.{rise_of, IsToldFresh, IsToldWord, AreToldWords, AreFitting, Adds, MarksAlone}
use Rattle.pc_plan.specs.Lawful.{IsLawfulChange}
use Rattle.pc_plan.proofs.Courses.{PastHolds}
use Rattle.pc_plan.proofs.WrittenWords.{AddsTo, added_or_not, words_at, words_else}
use Rattle.pc_plain.specs.PlainWriting.{changed_cells, AreWordsOf, FreshFits, IsFitting}
use Rattle.pc_plain.proofs.AgreeingTraces.{AreNodes, IsSeenNode, seen_node}

value_of : (o : Option ℕ) → IsSome o → (v : ℕ) × (o ≡ Some v)
value_of None some = absurd (cc)
value_of (Some v) some = (v, refl)

-- a version that is added was told, and rises
told_version : (past : List Event) (mark : Option ℕ) (n : ℕ) (to : To) (adds : List Add) → AreToldWords past mark adds
    → AddsTo n Version to adds → (v : ℕ) × (version_seen n past ≡ Some v) × (to ≡ Number (v + rise_of mark n))
told_version past mark n to [] told added = absurd added
told_version past mark n to (a ∷ adds) told added = ⊎_elim
    (λ here. ⊎_elim
    (λ is. (
      a.old,
      subst (λ (m : ℕ). version_seen m past ≡ Some a.old) here.0 is.1,
      sym here.2 ∙ is.2 ∙ ap (λ (m : ℕ). Number (a.old + rise_of mark m)) here.0,
    ))
    (λ is. absurd (is.0 here.1))
    told.0)
    (λ later. told_version past mark n to adds told.1 later)
    added

marked_added : (mark : Option ℕ) (adds : List Add) (n : ℕ) → MarksAlone mark adds → is_node mark n ≡ true
    → Adds n Version adds
marked_added None adds n alone is = absurd (cc)
marked_added (Some m) adds n alone is = subst (λ (k : ℕ). Adds k Version adds) (eqb-true m n is) alone.0

-- what a fresh node leaves of a version
parity_of_fresh : (slots slot n : ℕ) (c : Cells) (fresh : Option Fresh)
    → IfSome fresh (λ _. IsSlot slots slot × IsOdd (c slot Version))
    → with_fresh (fresh_at slot (c slot Version) fresh) c n Version % 2
    ≡ (if is_node (taken_by fresh slot) n then 0 else c n Version % 2)
parity_of_fresh slots slot n c None takes = refl
parity_of_fresh slots slot n c (Some f) takes = ⊎_elim
    (λ same.
    let odd : c slot Version % 2 ≡ 1 = takes.1 in
    let left : with_fresh (fresh_at slot (c slot Version) (Some f)) c n Version ≡ c slot Version + 1
    = cond-true (n == slot) (c slot Version + 1) (c n Version) (eq-eqb n slot (sym same)) in
    let right : (if slot == n then 0 else c n Version % 2) ≡ 0
    = cond-true (slot == n) 0 (c n Version % 2) (eq-eqb slot n same) in
    let even : (c slot Version + 1) % 2 ≡ 0 = omega arith in
    ap (λ (x : ℕ). x % 2) left ∙ even ∙ sym right)
    (λ other.
    let left : with_fresh (fresh_at slot (c slot Version) (Some f)) c n Version ≡ c n Version
    = cond-false (n == slot) (c slot Version + 1) (c n Version) (ne_eqb n slot (λ e. other (sym e))) in
    let right : (if slot == n then 0 else c n Version % 2) ≡ c n Version % 2
    = cond-false (slot == n) 0 (c n Version % 2) (ne_eqb slot n other) in
    ap (λ (x : ℕ). x % 2) left ∙ sym right)
    (cases_eq slot n)

if_same : (b : Bool) (x : ℕ) → (if b then x else x) ≡ x
if_same true x = refl
if_same false x = refl

-- the fresh node's numbers fit
fresh_fits : (past : List Event) (fresh : Option Fresh) → IfSome fresh (IsToldFresh past) → IfSome fresh FreshFits
fresh_fits past None told = tt
fresh_fits past (Some f) told = record { key = told.key; value = told.value; height = told.height }

module _ (slots : ℕ) (c : Cells) (past : List Event) (nodes : AreNodes slots past) (holds : PastHolds c past)
    (p : Planned) (lawful : IsLawfulChange past p) where
  node_of_word : (a : Add) → IsToldWord past p.mark a → IsNode slots a.node
  node_of_word a told = ⊎_elim
      (λ is. (seen_node slots c past a.node a.old nodes holds is.1).0)
      (λ is. let some : (v : ℕ) × (version_seen a.node past ≡ Some v) = value_of (version_seen a.node past) is.1 in
      (seen_node slots c past a.node some.0 nodes holds some.1).0)
      told

  words_of_nodes : (adds : List Add) → AreToldWords past p.mark adds → AreFitting adds → AreWordsOf slots adds
  words_of_nodes [] told fit = tt
  words_of_nodes (a ∷ adds) told fit = ((node_of_word a told.0, fit.0), words_of_nodes adds told.1 fit.1)

  seen_of_mark : (n : ℕ) → Adds n Version p.adds → IsNode slots n × IsEven (c n Version)
  seen_of_mark n adds = ⊎_elim
      (λ added.
      let told : (v : ℕ) × (version_seen n past ≡ Some v) × (added.0 ≡ Number (v + rise_of p.mark n))
      = told_version past p.mark n added.0 p.adds lawful.told added.1 in
      let seen : IsSeenNode slots c n told.0 = seen_node slots c past n told.0 nodes holds told.1 in
      (seen.0, subst IsEven (sym seen.1) seen.2))
      (λ out. absurd (out adds))
      (added_or_not n Version p.adds)

  module _ (slot : ℕ) (takes : Takes slots c p slot) where
    abbrev before : Cells
    before = with_fresh (fresh_at slot (c slot Version) p.fresh) c

    -- after the exchange a version has the parity that it should have
    pub parity_left : (n : ℕ) → changed_cells p slot c n Version % 2 ≡ parity_after p slot c n
    parity_left n =
        let x : ℕ = changed_cells p slot c n Version in
        let taken : Bool = is_node (taken_by p.fresh slot) n in
        let unmarked : ℕ = if taken then 0 else c n Version % 2 in
        ⊎_elim
        (λ added.
        let told : (v : ℕ) × (version_seen n past ≡ Some v) × (added.0 ≡ Number (v + rise_of p.mark n))
        = told_version past p.mark n added.0 p.adds lawful.told added.1 in
        let seen : IsSeenNode slots c n told.0 = seen_node slots c past n told.0 nodes holds told.1 in
        let v : ℕ = told.0 in
        let even : v % 2 ≡ 0 = seen.2 in
        let is : x ≡ v + rise_of p.mark n
        = words_at slot p.adds before n Version added.0 lawful.once added.1 ∙ ap (number_at slot) told.2 in
        ⊎_elim
        (λ m. let rise : rise_of p.mark n ≡ 1 = cond-true (is_node p.mark n) 1 2 m in
        let odd : x % 2 ≡ 1 = omega arith in
        odd ∙ sym (cond-true (is_node p.mark n) 1 unmarked m))
        (λ m. let rise : rise_of p.mark n ≡ 2 = cond-false (is_node p.mark n) 1 2 m in
        let stays : x % 2 ≡ 0 = omega arith in
        let was : c n Version % 2 ≡ 0 = ap (λ (y : ℕ). y % 2) seen.1 ∙ even in
        let zero : unmarked ≡ 0 = ap (λ (y : ℕ). if taken then 0 else y) was ∙ if_same taken 0 in
        stays ∙ sym zero ∙ sym (cond-false (is_node p.mark n) 1 unmarked m))
        (cases_Bool (is_node p.mark n)))
        (λ out.
        let m : is_node p.mark n ≡ false = ⊎_elim
        (λ is. absurd (out (marked_added p.mark p.adds n lawful.mark is))) (λ is. is)
        (cases_Bool (is_node p.mark n)) in
        ap (λ (y : ℕ). y % 2) (words_else slot p.adds before n Version out)
        ∙ parity_of_fresh slots slot n c p.fresh takes
        ∙ sym (cond-false (is_node p.mark n) 1 unmarked m))
        (added_or_not n Version p.adds)

    module _ (sentinel : IsEven (changed_cells p slot c 1 Version)) where
      -- the marked node is a slot in use, since the sentinel stays unmarked
      marked_slot : (mark : Option ℕ) → p.mark ≡ mark → IfSome mark (λ n. IsSlot slots n × IsEven (c n Version))
      marked_slot None is = tt
      marked_slot (Some n) is =
          let alone : MarksAlone (Some n) p.adds
          = subst (λ (mark : Option ℕ). MarksAlone mark p.adds) is lawful.mark in
          let seen : IsNode slots n × IsEven (c n Version) = seen_of_mark n alone.0 in
          let not_1 : n ≢ 1 = λ e.
          (let m : is_node p.mark 1 ≡ true = ap (λ (mark : Option ℕ). is_node mark 1) is ∙ eq-eqb n 1 e in
          let odd : changed_cells p slot c 1 Version % 2 ≡ 1
          = parity_left 1 ∙ cond-true (is_node p.mark 1) 1
          (if is_node (taken_by p.fresh slot) 1 then 0 else c 1 Version % 2) m in
          let even : changed_cells p slot c 1 Version % 2 ≡ 0 = sentinel in
          absurd (omega arith)) in
          let low : IsNode slots n = seen.0 in
          ((omega arith, low.1), seen.1)

      -- so the exchange can be made in these cells
      pub lawful_fits : IsFitting slots c p slot
      lawful_fits = record {
        parity = λ n _. parity_left n;
        marked = marked_slot p.mark refl;
        words = words_of_nodes p.adds lawful.told lawful.fit;
        fresh = fresh_fits past p.fresh lawful.fresh;
      }
