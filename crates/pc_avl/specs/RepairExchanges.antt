-- The exchanges of a repair are lawful where the nodes that they change were told of, and are different.
use Rattle.std.proofs.Common.{◌≡◌, ◌≢◌, ℕ, ◌+◌, ◌<◌, ◌≤◌, ◌==◌, ◌⊎◌, inl, inr, ⊎_elim, false, List, [], ◌∷◌, ◌++◌}
use Rattle.std.proofs.Common.{length, None, refl, sym, ap, subst, arith}
use Rattle.std.specs.Prelude.{nat_le}
use Rattle.std.proofs.lemmas.Bool.{eqb-false, leb-true, leb-false, and_cases, cond_both}
use Rattle.std.proofs.lemmas.List.{append-nil}
use Rattle.pc_model.specs.declared.cell.Field.TheVariants.{Parent as ParentField}
use Rattle.pc_model.specs.declared.cell.Side.{Side}
use Rattle.pc_model.specs.declared.cell.Side.TheVariants.{Left as OnLeft, Right as OnRight}
use Rattle.pc_model.specs.Debts.{has, AreDifferent}
use Rattle.pc_model.specs.Sides.{opposite}
use Rattle.pc_model.specs.TreeForms.{height_over}
use Rattle.pc_model.proofs.Reheighting.{height_over-small}
use Rattle.pc_plan.specs.declared.walk.Above.{Above}
use Rattle.pc_plan.specs.NodeChanges.{NodeChange, adds_of, planned_by}
use Rattle.pc_plan.specs.Traces.{Event}
use Rattle.pc_plan.specs.Lawful.{IsLawfulChange}
use Rattle.pc_plan.proofs.NodeWords.{nodes_in, AreFields, not_among, among_not}
use Rattle.pc_plan.proofs.LawfulNodes.{IsToldNode, AreToldNodes, lawful_by_nodes}
use Rattle.pc_plan.proofs.WalkLawful.{ToldAbove}
use Rattle.pc_bst.specs.Kinds.{key_unless_sentinel}
use Rattle.pc_bst.specs.PutEnds.{link_field}
use Rattle.pc_bst.specs.RemoveLawful.{Fits}
use Rattle.pc_bst.specs.Removes.{renumbered}
use Rattle.pc_avl.specs.declared.look.Looked.{Looked}
use Rattle.pc_avl.specs.declared.repair.Place.{Place}
use Rattle.pc_avl.specs.declared.repair.Place.TheVariants.{Node, Left as LeftPlace, Right as RightPlace, Inner, Near}
use Rattle.pc_avl.specs.declared.repair.Place.TheVariants.{Far}
use Rattle.pc_avl.specs.declared.repair.Repair.{Repair}
use Rattle.pc_avl.specs.Balances.{are_close, heavier_side}
use Rattle.pc_avl.specs.RepairChanges.{reheighted, rehung, relinked, turned, turned_whole, reheighting, lower_height}
use Rattle.pc_avl.specs.RepairChanges.{rotating, rotating_twice}
use Rattle.pc_avl.specs.Repairs.{at_place, child_on}
use Rattle.pc_avl.specs.RepairTold.{IsTold, IsMissingOrTold, link_told, parent_told, height_told, places, AreMet}
use Rattle.pc_avl.specs.RepairTold.{told_number, told_at}

-- The changed nodes, one by one

module _ (past : List Event) where
  relinked_told : (a : Above) (old new : ℕ) → ToldAbove past a old → Fits new
      → IsToldNode past None (relinked a old new)
  relinked_told a old new h fits = record {
    seen = h.seen;
    small = h.small;
    told = ((h.link, fits, λ e. absurd (cc)), tt);
    fields = (link_field a.side, tt);
  }

  reheighted_told : (l : Looked) (height : ℕ) → IsTold past l → Fits height
      → IsToldNode past None (reheighted l height)
  reheighted_told l height h fits = record {
    seen = h.visited.0;
    small = h.visited.1;
    told = ((height_told past l h, fits, λ e. absurd (cc)), tt);
    fields = (refl, tt);
  }

  rehung_told : (l : Looked) (above : ℕ) → IsTold past l → Fits above → IsToldNode past None (record {
    node = l.node;
    version = l.version;
    fields = renumbered ParentField l.parent above ∷ [];
  })
  rehung_told l above h fits = record {
    seen = h.visited.0;
    small = h.visited.1;
    told = ((parent_told past l h, fits, λ e. absurd (cc)), tt);
    fields = (refl, tt);
  }

  turned_fields : (l : Looked) (s : Side) (link parent height : ℕ) → AreFields (turned l s link parent height).fields
  turned_fields l OnLeft link parent height = (refl, (refl, (refl, tt)))
  turned_fields l OnRight link parent height = (refl, (refl, (refl, tt)))

  turned_told : (l : Looked) (s : Side) (link parent height : ℕ) → IsTold past l → Fits link → Fits parent
      → Fits height → IsToldNode past None (turned l s link parent height)
  turned_told l s link parent height h fits_link fits_parent fits_height = record {
    seen = h.visited.0;
    small = h.visited.1;
    told = (
      ((link_told past l s h).0, fits_link, λ e. absurd (cc)),
      (
        (parent_told past l h, fits_parent, λ e. absurd (cc)),
        ((height_told past l h, fits_height, λ e. absurd (cc)), tt),
      ),
    );
    fields = turned_fields l s link parent height;
  }

  whole_fields : (l : Looked) (s : Side) (near far parent height : ℕ)
      → AreFields (turned_whole l s near far parent height).fields
  whole_fields l OnLeft near far parent height = (refl, (refl, (refl, (refl, tt))))
  whole_fields l OnRight near far parent height = (refl, (refl, (refl, (refl, tt))))

  whole_told : (l : Looked) (s : Side) (near far parent height : ℕ) → IsTold past l → Fits near → Fits far
      → Fits parent → Fits height → IsToldNode past None (turned_whole l s near far parent height)
  whole_told l s near far parent height h fits_near fits_far fits_parent fits_height = record {
    seen = h.visited.0;
    small = h.visited.1;
    told = (
      ((link_told past l s h).0, fits_near, λ e. absurd (cc)),
      (
        ((link_told past l (opposite s) h).0, fits_far, λ e. absurd (cc)),
        (
          (parent_told past l h, fits_parent, λ e. absurd (cc)),
          ((height_told past l h, fits_height, λ e. absurd (cc)), tt),
        ),
      ),
    );
    fields = whole_fields l s near far parent height;
  }

-- The nodes that come to hang below others

-- these nodes don't change
abbrev AreOut : List ℕ → List NodeChange → Type 0
AreOut [] ws = Unit {0}
AreOut (n ∷ ns) ws = (has n (nodes_in ws None) ≡ false) × AreOut ns ws

out_of_more : (ns : List ℕ) (w : NodeChange) (ws : List NodeChange) → has w.node ns ≡ false → AreOut ns ws
    → AreOut ns (w ∷ ws)
out_of_more [] w ws new h = tt
out_of_more (n ∷ ns) w ws new h =
    let parts : (w.node ≢ n) × (has w.node ns ≡ false) = among_not w.node n ns new in
    (not_among n w.node (nodes_in ws None) (λ e. parts.0 (sym e)) h.0, out_of_more ns w ws parts.1 h.1)

-- they were told of, are different and none of these, and have so many words at most
record MayHang (past : List Event) (ns : List ℕ) (ws : List NodeChange) (words : ℕ) : Type 0 where
  told : AreToldNodes past None ws
  different : AreDifferent (nodes_in ws None)
  out : AreOut ns ws
  few : length (adds_of ws None) ≤ words

out_of_none : (ns : List ℕ) → AreOut ns []
out_of_none [] = tt
out_of_none (n ∷ ns) = (refl, out_of_none ns)

none_hangs : (past : List Event) (ns : List ℕ) → MayHang past ns [] 0
none_hangs past ns = record { told = tt; different = tt; out = out_of_none ns; few = omega arith }

fits_number : (past : List Event) (l : Looked) → IsMissingOrTold past l → Fits l.node
fits_number past l h = ⊎_elim (λ none. subst (λ (x : Looked). Fits x.node) (sym none) (omega arith))
    (λ told. told.number.fits) h

one_hangs : (past : List Event) (ns : List ℕ) (ws : List NodeChange) (words above : ℕ) (l : Looked)
    → IsMissingOrTold past l → Fits above → (l.node ≢ 0 → has l.node ns ≡ false) → MayHang past (l.node ∷ ns) ws words
    → MayHang past ns (rehung above l ++ ws) (words + 2)
one_hangs past ns ws words above l h fits new others =
    let few : length (adds_of ws None) ≤ words = others.few in
    let w : NodeChange = record {
      node = l.node;
      version = l.version;
      fields = renumbered ParentField l.parent above ∷ [];
    } in
    cond_both (l.node == 0) [] (w ∷ []) (λ (xs : List NodeChange). MayHang past ns (xs ++ ws) (words + 2))
    (λ none. record { told = others.told; different = others.different; out = others.out.1; few = omega arith })
    (λ some. let not_0 : l.node ≢ 0 = eqb-false l.node 0 some in
    record {
      told = (rehung_told past l above (told_number past l not_0 h) fits, others.told);
      different = (others.out.0, others.different);
      out = out_of_more ns w ws (new not_0) others.out.1;
      few = omega arith;
    })

alone_hangs : (past : List Event) (ns : List ℕ) (above : ℕ) (l : Looked) → IsMissingOrTold past l → Fits above
    → (l.node ≢ 0 → has l.node ns ≡ false) → MayHang past ns (rehung above l) 2
alone_hangs past ns above l h fits new = subst (λ (ws : List NodeChange). MayHang past ns ws 2)
    (append-nil (rehung above l)) (one_hangs past ns [] 0 above l h fits new (none_hangs past (l.node ∷ ns)))

out_of_both : (n : ℕ) (ns : List ℕ) (ws : List NodeChange) → has n ns ≡ false → has n (nodes_in ws None) ≡ false
    → has n (ns ++ nodes_in ws None) ≡ false
out_of_both n [] ws out behind = behind
out_of_both n (m ∷ ns) ws out behind =
    let parts : (n ≢ m) × (has n ns ≡ false) = among_not n m ns out in
    not_among n m (ns ++ nodes_in ws None) parts.0 (out_of_both n ns ws parts.1 behind)

-- behind the nodes that they come to hang below they are different
different_behind : (ns : List ℕ) (ws : List NodeChange) → AreDifferent ns → AreOut ns ws
    → AreDifferent (nodes_in ws None) → AreDifferent (ns ++ nodes_in ws None)
different_behind [] ws front out behind = behind
different_behind (n ∷ ns) ws front out behind =
    (out_of_both n ns ws front.0 out.0, different_behind ns ws front.1 out.1 behind)

-- The exchanges, of nodes that were told of and are different

few_charges : (n key : ℕ) → length (key_unless_sentinel n key) ≤ 1
few_charges n key = cond_both (n == 1) [] (key ∷ []) (λ (keys : List ℕ). length keys ≤ 1) (λ _. omega arith)
    (λ _. omega arith)

module _ (past : List Event) (a : Above) (above_key : ℕ) (x : Looked) (above : ToldAbove past a x.node)
    (fits : Fits a.node) (told_x : IsTold past x) where
  pub reheighting_lawful : (height : ℕ) → Fits height
      → IsLawfulChange past (planned_by (reheighting a above_key x height))
  reheighting_lawful height small =
      let one : length (key_unless_sentinel a.node above_key) ≤ 1 = few_charges a.node above_key in
      lawful_by_nodes past (reheighting a above_key x height) (record {
        some = λ e. absurd (cc);
        few = omega arith;
        nodes = (reheighted_told past x height told_x small, tt);
        mark = tt;
        different = (refl, tt);
        fresh = tt;
        few_charges = omega arith;
      })

  -- the child takes the node's place
  module _ (s : Side) (y sibling outer m : Looked) (told_y : IsTold past y) (told_m : IsMissingOrTold past m)
      (different : AreDifferent (a.node ∷ y.node ∷ x.node ∷ []))
      (new_m : m.node ≢ 0 → has m.node (a.node ∷ y.node ∷ x.node ∷ []) ≡ false) where
    pub rotating_lawful : IsLawfulChange past (planned_by (rotating s a above_key x y sibling outer m))
    rotating_lawful =
        let one : length (key_unless_sentinel a.node above_key) ≤ 1 = few_charges a.node above_key in
        let met : List ℕ = a.node ∷ y.node ∷ x.node ∷ [] in
        let hung : MayHang past met (rehung x.node m) 2 = alone_hangs past met x.node m told_m told_x.number.fits new_m
        in
        let few : length (adds_of (rehung x.node m) None) ≤ 2 = hung.few in
        let lower : ℕ = lower_height m sibling in
        lawful_by_nodes past (rotating s a above_key x y sibling outer m) (record {
          some = λ e. absurd (cc);
          few = omega arith;
          nodes = (
            relinked_told past a x.node y.node above told_y.number.fits,
            (
              turned_told past y (opposite s) x.node a.node (height_over outer.height lower) told_y told_x.number.fits
                  fits (height_over-small outer.height lower),
              (
                turned_told past x s m.node y.node lower told_x (fits_number past m told_m) told_y.number.fits
                    (height_over-small m.height sibling.height),
                hung.told,
              ),
            ),
          );
          mark = tt;
          different = different_behind met (rehung x.node m) different hung.out hung.different;
          fresh = tt;
          few_charges = omega arith;
        })

  -- the child's inner child does
  module _ (s : Side) (y g sibling outer near far : Looked) (told_y : IsTold past y) (told_g : IsTold past g)
      (told_near : IsMissingOrTold past near) (told_far : IsMissingOrTold past far)
      (different : AreDifferent (a.node ∷ g.node ∷ y.node ∷ x.node ∷ []))
      (new_near : near.node ≢ 0 → has near.node (a.node ∷ g.node ∷ y.node ∷ x.node ∷ []) ≡ false)
      (new_far : far.node ≢ 0 → has far.node (near.node ∷ a.node ∷ g.node ∷ y.node ∷ x.node ∷ []) ≡ false) where
    pub rotating_twice_lawful : IsLawfulChange past (planned_by (rotating_twice s a above_key x y g sibling outer near
        far))
    rotating_twice_lawful =
        let one : length (key_unless_sentinel a.node above_key) ≤ 1 = few_charges a.node above_key in
        let met : List ℕ = a.node ∷ g.node ∷ y.node ∷ x.node ∷ [] in
        let ends : List NodeChange = rehung y.node near ++ rehung x.node far in
        let hung : MayHang past met ends 4 = one_hangs past met (rehung x.node far) 2 y.node near told_near
        told_y.number.fits new_near (alone_hangs past (near.node ∷ met) x.node far told_far told_x.number.fits new_far)
        in
        let few : length (adds_of ends None) ≤ 4 = hung.few in
        let left_behind : ℕ = height_over outer.height near.height in
        let lower : ℕ = height_over far.height sibling.height in
        lawful_by_nodes past (rotating_twice s a above_key x y g sibling outer near far) (record {
          some = λ e. absurd (cc);
          few = omega arith;
          nodes = (
            relinked_told past a x.node g.node above told_g.number.fits,
            (
              whole_told past g s y.node x.node a.node (height_over left_behind lower) told_g told_y.number.fits
                  told_x.number.fits fits (height_over-small left_behind lower),
              (
                turned_told past y (opposite s) near.node g.node left_behind told_y (fits_number past near told_near)
                    told_g.number.fits (height_over-small outer.height near.height),
                (
                  turned_told past x s far.node g.node lower told_x (fits_number past far told_far)
                      told_g.number.fits (height_over-small far.height sibling.height),
                  hung.told,
                ),
              ),
            ),
          );
          mark = tt;
          different = different_behind met ends different hung.out hung.different;
          fresh = tt;
          few_charges = omega arith;
        })

-- The nodes at some places

abbrev nodes_at : Repair → List Place → List ℕ
nodes_at r [] = []
nodes_at r (p ∷ ps) = (at_place r p).node ∷ nodes_at r ps

abbrev NoneIs : Place → List Place → Type 0
NoneIs p [] = Unit {0}
NoneIs p (q ∷ qs) = (p ≢ q) × NoneIs p qs

-- no place stands twice, and there is a node at each
abbrev HaveNodes : Repair → List Place → Type 0
HaveNodes r [] = Unit {0}
HaveNodes r (p ∷ ps) = (NoneIs p ps × ((at_place r p).node ≢ 0)) × HaveNodes r ps

module _ (past : List Event) (a : Above) (r : Repair) (h : AreMet past a r) where
  new_at : (p : Place) (qs : List Place) → NoneIs p qs → (at_place r p).node ≢ 0
      → has (at_place r p).node (nodes_at r qs) ≡ false
  new_at p [] none not_0 = refl
  new_at p (q ∷ qs) none not_0 = not_among (at_place r p).node (at_place r q).node (nodes_at r qs)
      (h.apart p q none.0 not_0) (new_at p qs none.1 not_0)

  above_out : (ps : List Place) → HaveNodes r ps → has a.node (nodes_at r ps) ≡ false
  above_out [] nodes = refl
  above_out (p ∷ ps) nodes = not_among a.node (at_place r p).node (nodes_at r ps)
      (λ e. h.below p nodes.0.1 (sym e)) (above_out ps nodes.1)

  different_at : (ps : List Place) → HaveNodes r ps → AreDifferent (nodes_at r ps)
  different_at [] nodes = tt
  different_at (p ∷ ps) nodes = (new_at p ps nodes.0.0 nodes.0.1, different_at ps nodes.1)

  -- a node at another place is none of these, and not the one above
  new_below : (p : Place) (qs : List Place) → NoneIs p qs → (at_place r p).node ≢ 0
      → has (at_place r p).node (a.node ∷ nodes_at r qs) ≡ false
  new_below p qs none not_0 = not_among (at_place r p).node a.node (nodes_at r qs) (h.below p not_0)
      (new_at p qs none not_0)

-- The child on a side

abbrev child_place : Side → Place
child_place OnLeft = LeftPlace
child_place OnRight = RightPlace

abbrev pub HasChild : Repair → Side → Type 0
HasChild r OnLeft = r.left.node ≢ 0
HasChild r OnRight = r.right.node ≢ 0

child_at : (r : Repair) (s : Side) → child_on r s ≡ at_place (places r) (child_place s)
child_at r OnLeft = refl
child_at r OnRight = refl

child_node : (r : Repair) (s : Side) → HasChild r s → (at_place r (child_place s)).node ≢ 0
child_node r OnLeft h = h
child_node r OnRight h = h

-- the places of a node, its child and the child's inner child
abbrev upper_places : Side → List Place
upper_places s = child_place s ∷ Node ∷ []

abbrev turned_places : Side → List Place
turned_places s = Inner ∷ upper_places s

child_apart : (s : Side) → NoneIs (child_place s) (Node ∷ [])
child_apart OnLeft = (λ e. absurd (cc), tt)
child_apart OnRight = (λ e. absurd (cc), tt)

inner_apart : (s : Side) → NoneIs Inner (upper_places s)
inner_apart OnLeft = (λ e. absurd (cc), (λ e. absurd (cc), tt))
inner_apart OnRight = (λ e. absurd (cc), (λ e. absurd (cc), tt))

near_apart : (s : Side) → NoneIs Near (turned_places s)
near_apart OnLeft = (λ e. absurd (cc), (λ e. absurd (cc), (λ e. absurd (cc), tt)))
near_apart OnRight = (λ e. absurd (cc), (λ e. absurd (cc), (λ e. absurd (cc), tt)))

far_apart : (s : Side) → NoneIs Far (turned_places s)
far_apart OnLeft = (λ e. absurd (cc), (λ e. absurd (cc), (λ e. absurd (cc), tt)))
far_apart OnRight = (λ e. absurd (cc), (λ e. absurd (cc), (λ e. absurd (cc), tt)))

pub not_blank : (past : List Event) (l : Looked) → IsMissingOrTold past l → l.height ≢ 0 → l.node ≢ 0
not_blank past l h high = ⊎_elim (λ none. absurd (high (ap (λ (x : Looked). x.height) none)))
    (λ told. told.number.not_0) h

-- the higher one of two children that aren't close is a node
pub heavier_child : (past : List Event) (r : Repair) → IsMissingOrTold past r.left → IsMissingOrTold past r.right
    → are_close r.left.height r.right.height ≡ false → HasChild r (heavier_side r.left.height r.right.height)
heavier_child past r left right far =
    let a : ℕ = r.left.height in
    let b : ℕ = r.right.height in
    let apart : (b + 1 < a) ⊎ (a + 1 < b) = ⊎_elim (λ e. inl (leb-false a (b + 1) e))
    (λ e. inr (leb-false b (a + 1) e)) (and_cases (nat_le a (b + 1)) (nat_le b (a + 1)) far) in
    cond_both (nat_le a b) OnRight OnLeft (HasChild r)
    (λ up. let le : a ≤ b = leb-true a b up in not_blank past r.right right (λ z. ⊎_elim (λ x. absurd (omega arith))
    (λ x. absurd (omega arith)) apart))
    (λ down. let lt : b < a = leb-false a b down in not_blank past r.left left (λ z. absurd (omega arith)))

pub child_told : (past : List Event) (r : Repair) (s : Side) → AreMet past r.above.above (places r)
    → IsMissingOrTold past (child_on r s)
child_told past r OnLeft h = h.told LeftPlace
child_told past r OnRight h = h.told RightPlace

-- The exchanges of a repair

module _ (past : List Event) (r : Repair) (h : AreMet past r.above.above (places r))
    (has_node : r.node.node ≢ 0) where
  pub reheights : (height : ℕ) → Fits height
      → IsLawfulChange past (planned_by (reheighting r.above.above r.above.key r.node height))
  reheights height small = reheighting_lawful past r.above.above r.above.key r.node (h.above has_node) h.fits
      (told_at past r.above.above (places r) h Node has_node) height small

  module _ (s : Side) (has_child : HasChild (places r) s) where
    abbrev a : Above
    a = r.above.above

    abbrev k : Repair
    k = places r

    abbrev other : Looked
    other = child_on r (opposite s)

    child_is_node : (at_place k (child_place s)).node ≢ 0
    child_is_node = child_node k s has_child

    upper_nodes : HaveNodes k (upper_places s)
    upper_nodes = ((child_apart s, child_is_node), ((tt, has_node), tt))

    pub rotates : IsLawfulChange past (planned_by (rotating s a r.above.key r.node (child_on r s) other r.outer
        r.inner))
    rotates =
        let ps : List Place = upper_places s in
        subst (λ (y : Looked). IsLawfulChange past (planned_by (rotating s a r.above.key r.node y other r.outer
        r.inner))) (sym (child_at r s))
        (rotating_lawful past a r.above.key r.node (h.above has_node) h.fits (told_at past a k h Node has_node) s
        (at_place k (child_place s)) other r.outer r.inner (told_at past a k h (child_place s) child_is_node)
        (h.told Inner) (above_out past a k h ps upper_nodes, different_at past a k h ps upper_nodes)
        (new_below past a k h Inner ps (inner_apart s)))

    pub rotates_twice : r.inner.node ≢ 0 → IsLawfulChange past (planned_by (rotating_twice s a r.above.key r.node
        (child_on r s) r.inner other r.outer r.near r.far))
    rotates_twice has_inner =
        let ps : List Place = turned_places s in
        let nodes : HaveNodes k ps = ((inner_apart s, has_inner), upper_nodes) in
        subst (λ (y : Looked). IsLawfulChange past (planned_by (rotating_twice s a r.above.key r.node y r.inner other
        r.outer r.near r.far))) (sym (child_at r s))
        (rotating_twice_lawful past a r.above.key r.node (h.above has_node) h.fits
        (told_at past a k h Node has_node) s (at_place k (child_place s)) r.inner other r.outer r.near r.far
        (told_at past a k h (child_place s) child_is_node) (told_at past a k h Inner has_inner) (h.told Near)
        (h.told Far) (above_out past a k h ps nodes, different_at past a k h ps nodes)
        (new_below past a k h Near ps (near_apart s))
        (λ not_0. not_among r.far.node r.near.node (a.node ∷ nodes_at k ps)
        (h.apart Far Near (λ e. absurd (cc)) not_0) (new_below past a k h Far ps (far_apart s) not_0)))
