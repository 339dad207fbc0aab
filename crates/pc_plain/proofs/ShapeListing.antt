-- How the nodes of a tree are listed with a stack: what is listed, then each tree that waits, the last of the
-- stack first.
use Rattle.std.proofs.Common.{◌≡◌, ◌≢◌, ℕ, suc, ◌+◌, ◌<◌, ◌≤◌, ◌==◌, List, [], ◌∷◌, ◌++◌, length, map, reverse}
use Rattle.std.proofs.Common.{refl, sym, ap, ◌∙◌, subst, arith, length-append, append_assoc}
use Rattle.std.proofs.lemmas.List.{append-nil, reverse-append, reverse-reverse, length-reverse}
use Rattle.std.proofs.lemmas.Bool.{cond-true, cond-false, eq-eqb, ne_eqb}
use Rattle.pc_model.specs.declared.cell.Field.TheVariants.{Left, Right}
use Rattle.pc_model.specs.Map.{Pairs, IsRising}
use Rattle.pc_model.specs.Cells.{Cells, IsSlot}
use Rattle.pc_model.specs.Trees.{Tree, Empty, Fork, Kind, Spells, size_of, pairs_of, IsSearchTree}
use Rattle.pc_model.proofs.Counting.{size-le-slots}
use Rattle.pc_plain.specs.declared.tree_shape.Place.{Place}
use Rattle.pc_plain.specs.ShapePlaces.{places_of, places_at, ArePlaces}

-- trees that wait, each with the depth of its root, the next one first
abbrev Waiting : Type 0
Waiting = List (ℕ × Tree)

abbrev node_in : Tree → ℕ
node_in Empty = 0
node_in (Fork n l r) = n

abbrev root_of : ℕ × Tree → Place
root_of p = record { node = node_in p.1; depth = p.0 }

abbrev places_in : Waiting → List Place
places_in [] = []
places_in (p ∷ ps) = places_of p.0 p.1 ++ places_in ps

-- one tree more, if it has a node
abbrev hung : ℕ → Tree → Waiting → Waiting
hung depth Empty ps = ps
hung depth (Fork n l r) ps = (depth, Fork n l r) ∷ ps

-- the trees that wait are spelled, have nodes, and don't lie deep
abbrev AreWaiting : Kind → ℕ → Cells → ℕ → Waiting → Type 0
AreWaiting kind slots c reach [] = Unit {0}
AreWaiting kind slots c reach (p ∷ ps) = (p.0 ≤ reach) × (node_in p.1 ≢ 0)
    × ((above : ℕ) × Spells kind slots c p.1 above (node_in p.1)) × AreWaiting kind slots c reach ps

-- a walk over the search tree: these are listed, and these wait
pub record IsWalk (slots : ℕ) (c : Cells) (listed stack : List Place) : Type 0 where
  pub kind : Kind
  pub all : Pairs
  pub search : IsSearchTree kind slots c all
  pub waiting : Waiting
  pub sound : AreWaiting kind slots c (length listed + 1) waiting
  pub stack_of : stack ≡ reverse (map root_of waiting)
  pub whole : listed ++ places_in waiting ≡ places_of 1 search.tree

reverse_cons : (x : Place) (xs : List Place) → reverse (x ∷ xs) ≡ reverse xs ++ x ∷ []
reverse_cons x xs = reverse-append (x ∷ []) xs

hung_stack : (kind : Kind) (slots : ℕ) (c : Cells) (depth : ℕ) (t : Tree) (above link : ℕ) (ps : Waiting)
    → Spells kind slots c t above link
    → reverse (map root_of ps) ++ places_at link depth ≡ reverse (map root_of (hung depth t ps))
hung_stack kind slots c depth Empty above link ps s =
    ap (λ (x : List Place). reverse (map root_of ps) ++ x)
    (cond-true (link == 0) [] (record { node = link; depth = depth } ∷ []) (eq-eqb link 0 s))
    ∙ append-nil (reverse (map root_of ps))
hung_stack kind slots c depth (Fork n l r) above link ps s =
    let low : 2 ≤ n = s.1.slot.0 in
    let e : link ≡ n = s.0 in
    let ne : link ≢ 0 = λ z. omega (arith, z, e, low) in
    ap (λ (x : List Place). reverse (map root_of ps) ++ x)
    (cond-false (link == 0) [] (record { node = link; depth = depth } ∷ []) (ne_eqb link 0 ne)
    ∙ ap (λ (x : ℕ). record { node = x; depth = depth } ∷ []) e)
    ∙ sym (reverse_cons (root_of (depth, Fork n l r)) (map root_of ps))

hung_places : (depth : ℕ) (t : Tree) (ps : Waiting) → places_in (hung depth t ps) ≡ places_of depth t ++ places_in ps
hung_places depth Empty ps = refl
hung_places depth (Fork n l r) ps = refl

hung_sound : (kind : Kind) (slots : ℕ) (c : Cells) (reach depth : ℕ) (t : Tree) (above link : ℕ) (ps : Waiting)
    → Spells kind slots c t above link → depth ≤ reach → AreWaiting kind slots c reach ps
    → AreWaiting kind slots c reach (hung depth t ps)
hung_sound kind slots c reach depth Empty above link ps s near sound = sound
hung_sound kind slots c reach depth (Fork n l r) above link ps s near sound =
    let low : 2 ≤ n = s.1.slot.0 in
    (near, (λ z. omega (arith, z, low)), (above, (refl, s.1, s.2, s.3)), sound)

farther : (kind : Kind) (slots : ℕ) (c : Cells) (reach more : ℕ) (ps : Waiting) → reach ≤ more
    → AreWaiting kind slots c reach ps → AreWaiting kind slots c more ps
farther kind slots c reach more [] le sound = tt
farther kind slots c reach more (p ∷ ps) le sound =
    let near : p.0 ≤ reach = sound.0 in
    (omega arith, sound.1, sound.2, farther kind slots c reach more ps le sound.3)

pub walk_first : (kind : Kind) (slots : ℕ) (c : Cells) (all : Pairs) → IsSearchTree kind slots c all
    → IsWalk slots c [] (places_at (c 1 Left) 1)
walk_first kind slots c all search = record {
  kind = kind;
  all = all;
  search = search;
  waiting = hung 1 search.tree [];
  sound = hung_sound kind slots c 1 1 search.tree 1 (c 1 Left) [] search.spelled (omega arith) tt;
  stack_of = hung_stack kind slots c 1 search.tree 1 (c 1 Left) [] search.spelled;
  whole = hung_places 1 search.tree [] ∙ append-nil (places_of 1 search.tree);
}

-- the tree whose root is the last of the stack
pub record IsNext (kind : Kind) (slots : ℕ) (c : Cells) (reach : ℕ) (waiting : Waiting) (stack : List Place)
    (place : Place) : Type 0 where
  pub left : Tree
  pub right : Tree
  pub others : Waiting
  pub near : place.depth ≤ reach
  pub slot : IsSlot slots place.node
  pub spelled_left : Spells kind slots c left place.node (c place.node Left)
  pub spelled_right : Spells kind slots c right place.node (c place.node Right)
  pub sound : AreWaiting kind slots c reach others
  pub stack_of : stack ≡ reverse (map root_of others)
  pub places : places_in waiting ≡ place ∷
      ((places_of (place.depth + 1) left ++ places_of (place.depth + 1) right) ++ places_in others)

abbrev front_place : Place → List Place → Place
front_place d [] = d
front_place d (x ∷ xs) = x

abbrev other_places : List Place → List Place
other_places [] = []
other_places (x ∷ xs) = xs

next_fork : (kind : Kind) (slots : ℕ) (c : Cells) (reach depth : ℕ) (t : Tree) (ps : Waiting) (stack : List Place)
    (place : Place) → AreWaiting kind slots c reach ((depth, t) ∷ ps)
    → place ∷ reverse stack ≡ root_of (depth, t) ∷ map root_of ps
    → IsNext kind slots c reach ((depth, t) ∷ ps) stack place
next_fork kind slots c reach depth Empty ps stack place sound same = absurd (sound.1 refl)
next_fork kind slots c reach depth (Fork n l r) ps stack place sound same =
    let root : place ≡ root_of (depth, Fork n l r) = ap (front_place place) same in
    let others : reverse stack ≡ map root_of ps = ap other_places same in
    subst (λ (x : Place). IsNext kind slots c reach ((depth, Fork n l r) ∷ ps) stack x) (sym root) (record {
      left = l;
      right = r;
      others = ps;
      near = sound.0;
      slot = sound.2.1.1.slot;
      spelled_left = sound.2.1.2;
      spelled_right = sound.2.1.3;
      sound = sound.3;
      stack_of = sym (reverse-reverse stack) ∙ ap reverse others;
      places = refl;
    })

next_of : (kind : Kind) (slots : ℕ) (c : Cells) (reach : ℕ) (ps : Waiting) (stack : List Place) (place : Place)
    → AreWaiting kind slots c reach ps → place ∷ reverse stack ≡ map root_of ps
    → IsNext kind slots c reach ps stack place
next_of kind slots c reach [] stack place sound same =
    let e : suc (length (reverse stack)) ≡ 0 = ap (λ (x : List Place). length x) same in absurd (omega (arith, e))
next_of kind slots c reach (p ∷ ps) stack place sound same =
    next_fork kind slots c reach p.0 p.1 ps stack place sound same

module _ (slots : ℕ) (c : Cells) (listed stack : List Place) where
  pub walk_next : (place : Place) (at : IsWalk slots c listed (stack ++ place ∷ []))
      → IsNext at.kind slots c (length listed + 1) at.waiting stack place
  walk_next place at =
      let same : place ∷ reverse stack ≡ map root_of at.waiting
      = sym (reverse-append stack (place ∷ [])) ∙ ap reverse at.stack_of ∙ reverse-reverse (map root_of at.waiting) in
      next_of at.kind slots c (length listed + 1) at.waiting stack place at.sound same

  -- the last of the stack is listed, and its two sides wait
  pub walk_on : (place : Place) → IsWalk slots c listed (stack ++ place ∷ [])
      → IsWalk slots c (listed ++ place ∷ [])
      ((stack ++ places_at (c place.node Right) (place.depth + 1)) ++ places_at (c place.node Left) (place.depth + 1))
  walk_on place at =
      let next : IsNext at.kind slots c (length listed + 1) at.waiting stack place = walk_next place at in
      let deeper : ℕ = place.depth + 1 in
      let right : Waiting = hung deeper next.right next.others in
      let long : length (listed ++ place ∷ []) ≡ length listed + 1 = length-append listed (place ∷ []) in
      let reach : ℕ = length (listed ++ place ∷ []) + 1 in
      let near : place.depth ≤ length listed + 1 = next.near in
      let near' : deeper ≤ reach = omega (arith, long, near) in
      record {
        kind = at.kind;
        all = at.all;
        search = at.search;
        waiting = hung deeper next.left right;
        sound = hung_sound at.kind slots c reach deeper next.left place.node
            (c place.node Left) right next.spelled_left near'
            (hung_sound at.kind slots c reach deeper next.right place.node
            (c place.node Right) next.others next.spelled_right near'
            (farther at.kind slots c (length listed + 1) reach next.others (omega (arith, long)) next.sound));
        stack_of = ap (λ (x : List Place). (x ++ places_at (c place.node Right) deeper) ++ places_at
            (c place.node Left) deeper) next.stack_of
            ∙ ap (λ (x : List Place). x ++ places_at (c place.node Left) deeper)
            (hung_stack at.kind slots c deeper next.right place.node
            (c place.node Right) next.others next.spelled_right)
            ∙ hung_stack at.kind slots c deeper next.left place.node (c place.node Left) right next.spelled_left;
        whole = append_assoc listed (place ∷ []) (places_in (hung deeper next.left right))
            ∙ ap (λ (x : List Place). listed ++ place ∷ x)
            (hung_places deeper next.left right
            ∙ ap (λ (x : List Place). places_of deeper next.left ++ x) (hung_places deeper next.right next.others)
            ∙ sym (append_assoc (places_of deeper next.left) (places_of deeper next.right) (places_in next.others)))
            ∙ ap (λ (x : List Place). listed ++ x) (sym next.places) ∙ at.whole;
      }

-- a link leads to no node above the slots
pub link_low : (kind : Kind) (slots : ℕ) (c : Cells) (t : Tree) (above link : ℕ) → Spells kind slots c t above link
    → link ≤ slots + 1
link_low kind slots c Empty above link s = let z : link ≡ 0 = s in omega (arith, z)
link_low kind slots c (Fork n l r) above link s =
    let e : link ≡ n = s.0 in let high : n ≤ slots + 1 = s.1.slot.1 in omega (arith, e, high)

pub length-places_of : (depth : ℕ) (t : Tree) → length (places_of depth t) ≡ size_of t
length-places_of depth Empty = refl
length-places_of depth (Fork n l r) =
    let left : length (places_of (depth + 1) l) ≡ size_of l = length-places_of (depth + 1) l in
    let right : length (places_of (depth + 1) r) ≡ size_of r = length-places_of (depth + 1) r in
    let both : length (places_of (depth + 1) l ++ places_of (depth + 1) r)
    ≡ length (places_of (depth + 1) l) + length (places_of (depth + 1) r)
    = length-append (places_of (depth + 1) l) (places_of (depth + 1) r) in
    omega (arith, left, right, both)

-- a search tree has no more places than there are slots
pub places_few : (kind : Kind) (slots : ℕ) (c : Cells) (all : Pairs) (search : IsSearchTree kind slots c all)
    → length (places_of 1 search.tree) ≤ slots
places_few kind slots c all search =
    let rising : IsRising (pairs_of c search.tree) = subst IsRising (sym search.pairs) search.rising in
    let few : size_of search.tree ≤ slots =
    size-le-slots kind slots c search.tree 1 (c 1 Left) search.spelled rising in
    let long : length (places_of 1 search.tree) ≡ size_of search.tree = length-places_of 1 search.tree in
    omega (arith, few, long)

-- where a place waits, fewer are listed than there are slots
pub walk_few : (slots : ℕ) (c : Cells) (listed stack : List Place) (place : Place)
    → IsWalk slots c listed (stack ++ place ∷ []) → length listed < slots
walk_few slots c listed stack place at =
    let next : IsNext at.kind slots c (length listed + 1) at.waiting stack place
    = walk_next slots c listed stack place at in
    let few : length (places_of 1 at.search.tree) ≤ slots = places_few at.kind slots c at.all at.search in
    let parts : length (listed ++ places_in at.waiting) ≡ length listed + length (places_in at.waiting)
    = length-append listed (places_in at.waiting) in
    let whole : length (listed ++ places_in at.waiting) ≡ length (places_of 1 at.search.tree) = ap length at.whole in
    let some : length (places_in at.waiting) ≡ suc (length ((places_of (place.depth + 1) next.left
    ++ places_of (place.depth + 1) next.right) ++ places_in next.others)) = ap length next.places in
    omega (arith, few, parts, whole, some)

none_waits : (ps : Waiting) → [] ≡ reverse (map root_of ps) → places_in ps ≡ []
none_waits [] none = refl
none_waits (p ∷ ps) none =
    let e : 0 ≡ length (reverse (root_of p ∷ map root_of ps)) = ap (λ (x : List Place). length x) none in
    let long : length (reverse (root_of p ∷ map root_of ps)) ≡ suc (length (map root_of ps))
    = length-reverse (root_of p ∷ map root_of ps) in
    absurd (omega (arith, e, long))

-- at the end all places are listed
pub walk_done : (slots : ℕ) (c : Cells) (listed : List Place) → IsWalk slots c listed [] → ArePlaces slots c listed
walk_done slots c listed at = record {
  kind = at.kind;
  all = at.all;
  search = at.search;
  whole = sym (append-nil listed)
      ∙ ap (λ (x : List Place). listed ++ x) (sym (none_waits at.waiting at.stack_of)) ∙ at.whole;
}
