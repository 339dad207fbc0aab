-- The way of a walk down cells that stand still: each node that is passed at once is passed by three turns.
use Rattle.std.proofs.Common.{◌≡◌, ℕ, zero, suc, ◌==◌, Bool, true, false, if◌then◌else◌, [], ◌∷◌, Option, Some, None}
use Rattle.std.proofs.Common.{refl, sym, subst, arith}
use Rattle.std.proofs.lemmas.Bool.Decides.{nat_tests}
use Rattle.pc_model.specs.declared.cell.Field.{Field}
use Rattle.pc_model.specs.declared.cell.Field.TheVariants.{Version as VersionField, Key as KeyField, Left as LeftLink}
use Rattle.pc_model.specs.declared.cell.Field.TheVariants.{Right as RightLink}
use Rattle.pc_model.specs.declared.cell.Side.{Side}
use Rattle.pc_model.specs.declared.cell.Side.TheVariants.{Left, Right}
use Rattle.pc_model.specs.Sides.{link_of}
use Rattle.pc_model.specs.Cells.{Cells, IsNode, node_at}
use Rattle.pc_model.specs.Debts.{has}
use Rattle.pc_plan.specs.declared.descent.Descent.{Descent}
use Rattle.pc_plan.specs.declared.plan.Ask.{Ask}
use Rattle.pc_plan.specs.declared.plan.Ask.TheVariants.{Visit as AskVisit, Read as AskRead}
use Rattle.pc_plan.specs.declared.plan.Told.{Told}
use Rattle.pc_plan.specs.declared.plan.Told.TheVariants.{Begin, Version, Number}
use Rattle.pc_plan.specs.declared.walk.Awaited.{Awaited}
use Rattle.pc_plan.specs.declared.walk.Awaited.TheVariants.{Begin as ToBegin, Version as AVersion, Key as AKey, Choice}
use Rattle.pc_plan.specs.declared.walk.Awaited.TheVariants.{Link}
use Rattle.pc_plan.specs.declared.walk.Step.{Step}
use Rattle.pc_plan.specs.declared.walk.Step.TheVariants.{Visit, Read, Here}
use Rattle.pc_plan.specs.declared.walk.Walk.{Walk}
use Rattle.pc_plan.specs.Descents.{on_side, entered, entering, passed, passing, passing_to, way_down, way_down_at, Passes}
use Rattle.pc_plan.specs.Descents.{HasDescended, DescendsByNodes}
use Rattle.pc_plan.specs.Turns.{CanGoOn, CanBeTold, GoesOn}
use Rattle.pc_plan.specs.Walks.{at_version, awaiting, on_way, way, walk_step}
use Rattle.pc_plan.proofs.TurnSteps.{goes_at_first, goes_fewer, goes_further, can_further, can_be_told, goes_by}

-- the root is visited where there is one
pub enters : (c : Cells) (w : Walk) (x n : ℕ) → node_at (c 1 LeftLink) ≡ Some n → has n (1 ∷ 1 ∷ []) ≡ false
    → entering c w x (node_at (c 1 LeftLink)) ≡ Some (entered c w x n)
enters c w x n is onward = rw is (rw onward refl)

-- a walk that is told to begin at the sentinel
pub begins_down : (c : Cells) (w : Walk) (x : ℕ) (t : Told) → w.awaited ≡ ToBegin → t ≡ Begin → w.node ≡ 1
    → way_down c w x t ≡ entering c w x (node_at (c 1 LeftLink))
begins_down c w x t waits is node = rw (waits, is, node) refl

-- a node is passed where that has another key and its link leads on
pub record IsPassed (c : Cells) (d e : Descent) (n : ℕ) : Type 0 where
  pub other : (c d.walk.node KeyField == d.walk.key) ≡ false
  pub link : node_at (c d.walk.node (way d.walk (c d.walk.node KeyField))) ≡ Some n
  pub onward : has n (d.walk.node ∷ 1 ∷ []) ≡ false
  pub same : e ≡ passed c d n

pub passes_to : (c : Cells) (d : Descent) (n : ℕ) → (c d.walk.node KeyField == d.walk.key) ≡ false
    → node_at (c d.walk.node (way d.walk (c d.walk.node KeyField))) ≡ Some n
    → has n (d.walk.node ∷ 1 ∷ []) ≡ false → passing c d ≡ Some (passed c d n)
passes_to c d n other is onward = rw (other, is, onward) refl

passed_some : (c : Cells) (d e : Descent) (n : ℕ) (b : Bool) → has n (d.walk.node ∷ 1 ∷ []) ≡ b
    → (if b then None else Some (passed c d n)) ≡ Some e
    → (has n (d.walk.node ∷ 1 ∷ []) ≡ false) × (e ≡ passed c d n)
passed_some c d e n true back h = absurd (cc)
passed_some c d e n false onward h = (onward, cc)

passed_by : (c : Cells) (d e : Descent) (b : Bool) (o : Option ℕ)
    → (c d.walk.node KeyField == d.walk.key) ≡ b
    → node_at (c d.walk.node (way d.walk (c d.walk.node KeyField))) ≡ o
    → (if b then None else passing_to c d o) ≡ Some e → (n : ℕ) × IsPassed c d e n
passed_by c d e true o other link h = absurd (cc)
passed_by c d e false None other link h = absurd (cc)
passed_by c d e false (Some n) other link h =
    let found = passed_some c d e n (has n (d.walk.node ∷ 1 ∷ [])) refl h in
    (n, record { other = other; link = link; onward = found.0; same = found.1 })

is_passed : (c : Cells) (d e : Descent) → passing c d ≡ Some e → (n : ℕ) × IsPassed c d e n
is_passed c d e h = passed_by c d e (c d.walk.node KeyField == d.walk.key)
    (node_at (c d.walk.node (way d.walk (c d.walk.node KeyField)))) refl refl h

-- the link on a side is one of the two
pub on_side_is : (c : Cells) (n : ℕ) (s : Side) → on_side s (c n LeftLink) (c n RightLink) ≡ c n (link_of s)
on_side_is c n Left = refl
on_side_is c n Right = refl

-- on its way down a walk visits another node than the sentinel
pub record IsOnWay (d : Descent) : Type 0 where
  pub waits : d.walk.awaited ≡ AVersion
  pub inside : (d.walk.node == 1) ≡ false

-- A plan that is on its walk asks as the walk does, and goes on from a node with another key.
pub record Follows {P : Type 0} (moves : P → Told → P × Ask) (at : Walk → ℕ → P) : Type 0 where
  pub visits : (w w' : Walk) (x n : ℕ) (t : Told) → ◌≡◌ {A = Walk × Step} (walk_step w t) (w', Visit n)
      → ◌≡◌ {A = P × Ask} (moves (at w x) t) (at w' x, AskVisit n)
  pub reads : (w w' : Walk) (x n : ℕ) (f : Field) (t : Told) → ◌≡◌ {A = Walk × Step} (walk_step w t) (w', Read n f)
      → ◌≡◌ {A = P × Ask} (moves (at w x) t) (at w' x, AskRead n f)
  pub passes : (w w' : Walk) (x k : ℕ) (t : Told) → ◌≡◌ {A = Walk × Step} (walk_step w t) (w', Here k)
      → (k == w'.key) ≡ false
      → ◌≡◌ {A = P × Ask} (moves (at w x) t) (at (on_way w' k) k, AskRead w'.node (way w' k))

-- the first turn of a walk at a node, which asks for the key
arrives : (d : Descent) → IsOnWay d → ◌≡◌ {A = Walk × Step} (walk_step d.walk (Version d.version))
    (at_version d.walk d.version AKey, Read d.walk.node KeyField)
arrives d on = rw (on.waits, on.inside) refl

-- the last turn, which visits the node below
goes_below : (c : Cells) (d e : Descent) (n : ℕ) → IsPassed c d e n
    → ◌≡◌ {A = Walk × Step} (walk_step (on_way (awaiting (at_version d.walk d.version AKey) Choice)
    (c d.walk.node KeyField)) (Number (c d.walk.node (way d.walk (c d.walk.node KeyField)))))
    ((passed c d n).walk, Visit n)
goes_below c d e n is = rw (is.link, is.onward) refl

-- a walk at the sentinel
abbrev at_sentinel : Walk → Awaited → Walk
at_sentinel w a = record { key = w.key; node = 1; awaited = a; version = w.version; above = w.above }

visits_sentinel : (w : Walk) → w.awaited ≡ ToBegin → w.node ≡ 1
    → ◌≡◌ {A = Walk × Step} (walk_step w Begin) (at_sentinel w AVersion, Visit 1)
visits_sentinel w waits node = rw (waits, node) refl

visits_below_sentinel : (c : Cells) (w : Walk) (x n : ℕ) → node_at (c 1 LeftLink) ≡ Some n
    → has n (1 ∷ 1 ∷ []) ≡ false
    → ◌≡◌ {A = Walk × Step} (walk_step (at_version (at_sentinel w AVersion) (c 1 VersionField) (Link Left))
    (Number (c 1 LeftLink))) ((entered c w x n).walk, Visit n)
visits_below_sentinel c w x n link onward = rw (link, onward) refl

entered_some : (c : Cells) (w : Walk) (x : ℕ) (b : Descent) (n : ℕ) (back : Bool) → has n (1 ∷ 1 ∷ []) ≡ back
    → (if back then None else Some (entered c w x n)) ≡ Some b
    → (has n (1 ∷ 1 ∷ []) ≡ false) × (b ≡ entered c w x n)
entered_some c w x b n true back h = absurd (cc)
entered_some c w x b n false onward h = (onward, cc)

below_inside : (w n : ℕ) → has n (w ∷ 1 ∷ []) ≡ false → (n == 1) ≡ false
below_inside w n onward = grind (arith, nat_tests)

module _ {P : Type 0} (moves : P → Told → P × Ask) (at : Walk → ℕ → P) (follows : Follows moves at) (slots : ℕ)
    (c : Cells) where
  -- a plan at a descent is about to be told the version of the node that it visits
  abbrev pub told_at : Descent → P × Ask
  told_at d = moves (at d.walk d.above_key) (Version d.version)

  -- so it goes on to this descent
  abbrev pub Reaches : P × Ask → ℕ → Descent → Type 0
  Reaches s turns d = GoesOn moves c s turns (at d.walk d.above_key) (Version d.version)

  asks_key : (d : Descent) → IsOnWay d
      → ◌≡◌ {A = P × Ask} (told_at d) (at (at_version d.walk d.version AKey) d.above_key, AskRead d.walk.node KeyField)
  asks_key d on = follows.reads d.walk (at_version d.walk d.version AKey) d.above_key d.walk.node KeyField
      (Version d.version) (arrives d on)

  pub visits_node : (d : Descent) → IsOnWay d → CanGoOn moves slots c (told_at d) → IsNode slots d.walk.node
  visits_node d on can =
      can_be_told moves c (told_at d) [] tt (at (at_version d.walk d.version AKey) d.above_key)
      (AskRead d.walk.node KeyField) (sym (asks_key d on)) slots can

  module _ (d e : Descent) (on : IsOnWay d) (n : ℕ) (is : IsPassed c d e n)
      (can : CanGoOn moves slots c (told_at d)) where
    -- three turns pass a node.
    pub three_turns : Reaches (told_at d) 3 (passed c d n)
    three_turns =
        let k : ℕ = c d.walk.node KeyField in
        let l : ℕ = c d.walk.node (way d.walk k) in
        let w : Walk = at_version d.walk d.version AKey in
        let w' : Walk = on_way (awaiting w Choice) k in
        let asks_link : ◌≡◌ {A = P × Ask} (moves (at w d.above_key) (Number k)) (at w' k, AskRead d.walk.node (way d.walk k))
        = follows.passes w (awaiting w Choice) d.above_key k (Number k) refl is.other in
        let visits_below : ◌≡◌ {A = P × Ask} (moves (at w' k) (Number l)) (at (passed c d n).walk k, AskVisit n)
        = follows.visits w' (passed c d n).walk k n (Number l) (goes_below c d e n is) in
        let first : GoesOn moves c (told_at d) 1 (at w d.above_key) (Number k)
        = goes_by moves c (told_at d) [] tt (at w d.above_key) (AskRead d.walk.node KeyField) (sym (asks_key d on))
        (Number k) refl in
        let second : GoesOn moves c (moves (at w d.above_key) (Number k)) 1 (at w' k) (Number l)
        = goes_by moves c (moves (at w d.above_key) (Number k)) [] tt (at w' k) (AskRead d.walk.node (way d.walk k))
        (sym asks_link) (Number l) refl in
        let two : GoesOn moves c (told_at d) 2 (at w' k) (Number l)
        = goes_further moves c (told_at d) 1 (at w d.above_key) (Number k) first 1 (at w' k) (Number l) second in
        let visit : CanBeTold slots c (AskVisit n)
        = can_be_told moves c (moves (at w' k) (Number l)) [] tt (at (passed c d n).walk k) (AskVisit n) (sym visits_below) slots
        (can_further moves c (told_at d) 2 (at w' k) (Number l) two slots can) in
        let third : GoesOn moves c (moves (at w' k) (Number l)) 1 (at (passed c d n).walk k) (Version (c n VersionField))
        = goes_by moves c (moves (at w' k) (Number l)) [] tt (at (passed c d n).walk k) (AskVisit n) (sym visits_below)
        (Version (c n VersionField)) (refl, visit.1) in
        goes_further moves c (told_at d) 2 (at w' k) (Number l) two 1 (at (passed c d n).walk k)
        (Version (c n VersionField)) third

  pass_reaches : (d e : Descent) → IsOnWay d → passing c d ≡ Some e → CanGoOn moves slots c (told_at d)
      → Reaches (told_at d) 3 e × IsOnWay e
  pass_reaches d e on h can =
      let found = is_passed c d e h in
      let there : Reaches (told_at d) 3 (passed c d found.0) × IsOnWay (passed c d found.0) = (
        three_turns d e on found.0 found.1 can,
        record { waits = refl; inside = below_inside d.walk.node found.0 found.1.onward },
      ) in
      subst (λ (b : Descent). Reaches (told_at d) 3 b × IsOnWay b) (sym found.1.same) there

  -- the first turns of a walk
  entry_turns : (w : Walk) (x n : ℕ) → w.awaited ≡ ToBegin → w.node ≡ 1 → node_at (c 1 LeftLink) ≡ Some n
      → has n (1 ∷ 1 ∷ []) ≡ false → CanGoOn moves slots c (moves (at w x) Begin)
      → Reaches (moves (at w x) Begin) 0 (entered c w x n)
  entry_turns w x n waits node link onward can =
      let v : ℕ = c 1 VersionField in
      let l : ℕ = c 1 LeftLink in
      let s : P × Ask = moves (at w x) Begin in
      let asks : ◌≡◌ {A = P × Ask} s (at (at_sentinel w AVersion) x, AskVisit 1)
      = follows.visits w (at_sentinel w AVersion) x 1 Begin (visits_sentinel w waits node) in
      let told : CanBeTold slots c (AskVisit 1)
      = can_be_told moves c s [] tt (at (at_sentinel w AVersion) x) (AskVisit 1) (sym asks) slots can in
      let first : GoesOn moves c s 1 (at (at_sentinel w AVersion) x) (Version v)
      = goes_by moves c s [] tt (at (at_sentinel w AVersion) x) (AskVisit 1) (sym asks) (Version v) (refl, told.1) in
      let w' : Walk = at_version (at_sentinel w AVersion) v (Link Left) in
      let asks_link : ◌≡◌ {A = P × Ask} (moves (at (at_sentinel w AVersion) x) (Version v)) (at w' x, AskRead 1 LeftLink)
      = follows.reads (at_sentinel w AVersion) w' x 1 LeftLink (Version v) refl in
      let second : GoesOn moves c (moves (at (at_sentinel w AVersion) x) (Version v)) 1 (at w' x) (Number l)
      = goes_by moves c (moves (at (at_sentinel w AVersion) x) (Version v)) [] tt (at w' x) (AskRead 1 LeftLink)
      (sym asks_link) (Number l) refl in
      let two : GoesOn moves c s 2 (at w' x) (Number l)
      = goes_further moves c s 1 (at (at_sentinel w AVersion) x) (Version v) first 1 (at w' x) (Number l) second in
      let visits_root : ◌≡◌ {A = P × Ask} (moves (at w' x) (Number l)) (at (entered c w x n).walk x, AskVisit n)
      = follows.visits w' (entered c w x n).walk x n (Number l) (visits_below_sentinel c w x n link onward) in
      let visit : CanBeTold slots c (AskVisit n)
      = can_be_told moves c (moves (at w' x) (Number l)) [] tt (at (entered c w x n).walk x) (AskVisit n)
      (sym visits_root) slots (can_further moves c s 2 (at w' x) (Number l) two slots can) in
      let third : GoesOn moves c (moves (at w' x) (Number l)) 1 (at (entered c w x n).walk x) (Version (c n VersionField))
      = goes_by moves c (moves (at w' x) (Number l)) [] tt (at (entered c w x n).walk x) (AskVisit n) (sym visits_root)
      (Version (c n VersionField)) (refl, visit.1) in
      goes_fewer moves c s 3 0 (at (entered c w x n).walk x) (Version (c n VersionField))
      (goes_further moves c s 2 (at w' x) (Number l) two 1 (at (entered c w x n).walk x) (Version (c n VersionField))
      third) (omega arith)

  pub passes_reach : (m : ℕ) (s : P × Ask) (d e : Descent) → CanGoOn moves slots c s → Reaches s 0 d → IsOnWay d
      → Passes c d m e → Reaches s 0 e × IsOnWay e
  passes_reach zero s d e can reaches on same =
      subst (λ (b : Descent). Reaches s 0 b × IsOnWay b) same (reaches, on)
  passes_reach (suc m) s d e can reaches on (b, before, last) =
      let there : Reaches s 0 b × IsOnWay b = passes_reach m s d b can reaches on before in
      let next : Reaches (told_at b) 3 e × IsOnWay e
      = pass_reaches b e there.1 last
      (can_further moves c s 0 (at b.walk b.above_key) (Version b.version) there.0 slots can) in (
        goes_fewer moves c s 3 0 (at e.walk e.above_key) (Version e.version)
            (goes_further moves c s 0 (at b.walk b.above_key) (Version b.version) there.0 3 (at e.walk e.above_key)
            (Version e.version) next.0) (omega arith),
        next.1,
      )

  enters_reach : (w : Walk) (x : ℕ) (b : Descent) (o : Option ℕ) → w.awaited ≡ ToBegin → w.node ≡ 1
      → node_at (c 1 LeftLink) ≡ o → entering c w x o ≡ Some b → CanGoOn moves slots c (moves (at w x) Begin)
      → Reaches (moves (at w x) Begin) 0 b × IsOnWay b
  enters_reach w x b None waits node link is can = absurd (cc)
  enters_reach w x b (Some n) waits node link is can =
      let found = entered_some c w x b n (has n (1 ∷ 1 ∷ [])) refl is in
      subst (λ (d : Descent). Reaches (moves (at w x) Begin) 0 d × IsOnWay d) (sym found.1) (
        entry_turns w x n waits node link found.0 can,
        record { waits = refl; inside = below_inside 1 n found.0 },
      )

  -- A walk that is told this is on its way down: at the root, or where it was.
  begun_at_sentinel : (w : Walk) (x : ℕ) (b : Descent) (there : Bool) → w.awaited ≡ ToBegin → (w.node == 1) ≡ there
      → (if there then entering c w x (node_at (c 1 LeftLink)) else None) ≡ Some b
      → CanGoOn moves slots c (moves (at w x) Begin) → Reaches (moves (at w x) Begin) 0 b × IsOnWay b
  begun_at_sentinel w x b true waits node is can =
      enters_reach w x b (node_at (c 1 LeftLink)) waits (grind (arith, nat_tests)) refl is can
  begun_at_sentinel w x b false waits node is can = absurd (cc)

  begun_inside : (w : Walk) (x v : ℕ) (b : Descent) (there : Bool) → w.awaited ≡ AVersion → (w.node == 1) ≡ there
      → ◌≡◌ {A = Option Descent} (if there then None else Some (record { walk = w; version = v; above_key = x })) (Some b)
      → Reaches (moves (at w x) (Version v)) 0 b × IsOnWay b
  begun_inside w x v b true waits node is = absurd (cc)
  begun_inside w x v b false waits node is =
      let same : record { walk = w; version = v; above_key = x } ≡ b = cc in
      subst (λ (d : Descent). Reaches (moves (at w x) (Version v)) 0 d × IsOnWay d) same
      (goes_at_first moves c (at w x) (Version v), record { waits = waits; inside = node })

  begun_reaches : (w : Walk) (x : ℕ) (b : Descent) (a : Awaited) (t : Told) → w.awaited ≡ a
      → way_down_at c w x a t ≡ Some b → CanGoOn moves slots c (moves (at w x) t)
      → Reaches (moves (at w x) t) 0 b × IsOnWay b
  begun_reaches w x b ToBegin Begin waits is can = begun_at_sentinel w x b (w.node == 1) waits refl is can
  begun_reaches w x b ToBegin (Version v) waits is can = absurd (cc)
  begun_reaches w x b ToBegin (Number y) waits is can = absurd (cc)
  begun_reaches w x b AVersion Begin waits is can = absurd (cc)
  begun_reaches w x b AVersion (Version v) waits is can = begun_inside w x v b (w.node == 1) waits refl is
  begun_reaches w x b AVersion (Number y) waits is can = absurd (cc)
  begun_reaches w x b AKey Begin waits is can = absurd (cc)
  begun_reaches w x b AKey (Version v) waits is can = absurd (cc)
  begun_reaches w x b AKey (Number y) waits is can = absurd (cc)
  begun_reaches w x b Choice Begin waits is can = absurd (cc)
  begun_reaches w x b Choice (Version v) waits is can = absurd (cc)
  begun_reaches w x b Choice (Number y) waits is can = absurd (cc)
  begun_reaches w x b (Link s) Begin waits is can = absurd (cc)
  begun_reaches w x b (Link s) (Version v) waits is can = absurd (cc)
  begun_reaches w x b (Link s) (Number y) waits is can = absurd (cc)

  -- so a plan whose walk has descended goes on from there
  pub descends_to : (w : Walk) (x : ℕ) (t : Told) (d : Descent) → HasDescended c w x t d
      → CanGoOn moves slots c (moves (at w x) t) → Reaches (moves (at w x) t) 0 d × IsOnWay d
  descends_to w x t d (b, m, begun, passes) can =
      let there : Reaches (moves (at w x) t) 0 b × IsOnWay b = begun_reaches w x b w.awaited t refl begun can in
      passes_reach m (moves (at w x) t) b d can there.0 there.1 passes

  -- and it can read the node that it visits
  pub can_descend : (w : Walk) (x : ℕ) (t : Told) → CanGoOn moves slots c (moves (at w x) t)
      → DescendsByNodes slots c w x t
  can_descend w x t can d descended =
      let there : Reaches (moves (at w x) t) 0 d × IsOnWay d = descends_to w x t d descended can in
      visits_node d there.1 (can_further moves c (moves (at w x) t) 0 (at d.walk d.above_key) (Version d.version) there.0
      slots can)
