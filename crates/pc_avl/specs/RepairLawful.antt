-- What a repair keeps whatever it is told.
use Rattle.std.proofs.Common.{◌≡◌, ◌≢◌, ℕ, ◌<◌, ◌==◌, ◌⊎◌, inl, inr, ⊎_elim, if◌then◌else◌, List, [], ◌∷◌, Option}
use Rattle.std.proofs.Common.{Some, None, refl, sym, ap, ◌∙◌, subst, arith}
use Rattle.std.specs.Prelude.{nat_lt, nat_le}
use Rattle.std.proofs.lemmas.Bool.{eqb-false, leb-false, cond_both}
use Rattle.pc_model.specs.declared.cell.Field.TheVariants.{Key as KeyField}
use Rattle.pc_model.specs.declared.cell.Side.{Side}
use Rattle.pc_model.specs.declared.cell.Side.TheVariants.{Left as OnLeft, Right as OnRight}
use Rattle.pc_model.specs.declared.call.Reply.TheVariants.{Value, None as Nothing}
use Rattle.pc_model.specs.Cells.{node_at}
use Rattle.pc_model.specs.Debts.{has}
use Rattle.pc_model.specs.Sides.{opposite}
use Rattle.pc_model.specs.TreeForms.{height_over}
use Rattle.pc_model.proofs.Links.{node_at-some}
use Rattle.pc_model.proofs.Reheighting.{height_over-small}
use Rattle.pc_plan.specs.declared.plan.Ask.{Ask}
use Rattle.pc_plan.specs.declared.plan.Ask.TheVariants.{Visit as AskVisit}
use Rattle.pc_plan.specs.declared.plan.Told.{Told}
use Rattle.pc_plan.specs.declared.plan.Told.TheVariants.{Begin, Version as VersionTold, Number}
use Rattle.pc_plan.specs.declared.walk.Above.{Above}
use Rattle.pc_plan.specs.declared.walk.Awaited.{Awaited}
use Rattle.pc_plan.specs.declared.walk.Awaited.TheVariants.{Begin as ToBegin, Version as AVersion, Key as AKey, Link}
use Rattle.pc_plan.specs.declared.walk.Walk.{Walk}
use Rattle.pc_plan.specs.declared.walk.Step.{Step}
use Rattle.pc_plan.specs.declared.walk.Step.TheVariants.{Visit, Read, Here, Missing, Astray}
use Rattle.pc_plan.specs.Traces.{Event, learned, learned_along, reads_since_visit}
use Rattle.pc_plan.specs.Runs.{reached}
use Rattle.pc_plan.specs.Lawful.{WasToldOf, IsWord, IsLawfulAsk, IsLawful}
use Rattle.pc_plan.specs.Walks.{at_version, reading_link, descending, following, step_at, walk_step}
use Rattle.pc_plan.proofs.Learning.{kept_along}
use Rattle.pc_plan.proofs.WalkLawful.{ToldAbove, StepStands, Waits, walk_stands, waits_lawful, goes_on}
use Rattle.pc_plan.proofs.WalkNodes.{HasSmallNodes, walk_keeps_small}
use Rattle.pc_bst.specs.RemoveLawful.{Fits}
use Rattle.pc_avl.specs.declared.look.Look.{Look}
use Rattle.pc_avl.specs.declared.look.Looked.{Looked}
use Rattle.pc_avl.specs.declared.look.LookStep.{LookStep}
use Rattle.pc_avl.specs.declared.look.LookStep.TheVariants.{Read as LookRead, Done, Astray as LookAstray}
use Rattle.pc_avl.specs.declared.repair.Aim.{Aim}
use Rattle.pc_avl.specs.declared.repair.Aim.TheVariants.{Exact, Nearest}
use Rattle.pc_avl.specs.declared.repair.Place.{Place}
use Rattle.pc_avl.specs.declared.repair.Place.TheVariants.{Node, Left, Right, Outer, Inner, Near, Far}
use Rattle.pc_avl.specs.declared.repair.Repair.{Repair}
use Rattle.pc_avl.specs.declared.repair.RepairPhase.{RepairPhase}
use Rattle.pc_avl.specs.declared.repair.RepairPhase.TheVariants.{Walking, Beginning, Searching, Looking, Ended}
use Rattle.pc_avl.specs.declared.repair.Sought.{Sought}
use Rattle.pc_avl.specs.declared.repair.Sought.TheVariants.{Known, Away, Back}
use Rattle.pc_avl.specs.Balances.{are_close, is_in_balance}
use Rattle.pc_avl.specs.Looks.{missing, link_at, look_for, look_step}
use Rattle.pc_avl.specs.RepairChanges.{reheighting, rotating, rotating_twice}
use Rattle.pc_avl.specs.Repairs.{repair_of, in_phase, answers, ends, at_place, placed, met, looks, sought_at}
use Rattle.pc_avl.specs.Repairs.{going_on, seeks, child, sibling, turns_twice, seeks_far, seeks_near, turns}
use Rattle.pc_avl.specs.Repairs.{seeks_inner, seeks_outer, leans, balanced_reply, weighs, seeks_right, seeks_left}
use Rattle.pc_avl.specs.Repairs.{after_look, looked, upper, going_down, going_to, finds, keeps_below, passes}
use Rattle.pc_avl.specs.Repairs.{searched, walks_on, arrives, walked, repair_told, repair_moves}
use Rattle.pc_avl.specs.RepairTold.{IsNumber, IsTold, link_told, IsToldLink, links_told, KeepsOthers, above_kept}
use Rattle.pc_avl.specs.RepairTold.{IsLooking, LookStands, look_stands, look_stays, look_keeps, look_lawful, places}
use Rattle.pc_avl.specs.RepairTold.{at_each, IsNew, AreMet, IsEmpty, none_met, met_kept, placed_met, new_among}
use Rattle.pc_avl.specs.RepairTold.{same_number}
use Rattle.pc_avl.specs.RepairExchanges.{HasChild, reheights, rotates, rotates_twice, not_blank, heavier_child}
use Rattle.pc_avl.specs.RepairExchanges.{child_told}

-- What it knows in each phase

-- it comes to a node that is none of those that it has met
record IsAt (past : List Event) (a : Above) (r : Repair) (n : ℕ) : Type 0 where
  number : IsNumber n
  new : IsNew a r n
  met : AreMet past a r

-- there is a node, its child and that one's inner child, as far as a look for a place needs them
abbrev Stage : Place → Repair → Side → Type 0
Stage Node r s = Unit {0}
Stage Left r s = r.node.node ≢ 0
Stage Right r s = r.node.node ≢ 0
Stage Outer r s = (r.node.node ≢ 0) × HasChild r s
Stage Inner r s = (r.node.node ≢ 0) × HasChild r s
Stage Near r s = (r.node.node ≢ 0) × HasChild r s × (r.inner.node ≢ 0)
Stage Far r s = (r.node.node ≢ 0) × HasChild r s × (r.inner.node ≢ 0)

abbrev LooksAt : List Event → Above → Repair → Side → Place → ℕ → Type 0
LooksAt past a r s p n = IsAt past a r n × Stage p r s × (p ≡ Node → ToldAbove past a n)

-- a search puts nodes at the other places alone
abbrev HasFew : Repair → Type 0
HasFew r = (r.right ≡ missing) × (r.outer ≡ missing) × (r.near ≡ missing)

-- a search comes to the sentinel, or to a node by the link by which it left the last one
abbrev SearchesAt : List Event → Above → Above → Repair → ℕ → Type 0
SearchesAt past a last r n = IsAt past a r n × HasFew r × Fits last.node × ((n ≡ 1) ⊎ ToldAbove past last n)

abbrev RepairStands : List Event → Repair → Ask → RepairPhase → Type 0
RepairStands past r a Walking = Waits past r.walk a × HasSmallNodes r.walk × (r.walk.node ≢ 0) × IsEmpty (places r)
RepairStands past r a Beginning = ⊥
RepairStands past r a Searching = IsLooking past a r.look r.look.unread
    × SearchesAt past r.above.above r.last.above (places r) r.look.seen.node
RepairStands past r a (Looking p) = IsLooking past a r.look r.look.unread
    × LooksAt past r.above.above (places r) r.side p r.look.seen.node
RepairStands past r a Ended = IsLawfulAsk past a

abbrev RepairKeeps : List Event → Repair × Ask → Type 0
RepairKeeps past s = RepairStands past s.0 s.1 s.0.phase

-- A place is filled, or found without a node

abbrev Stands : Place → List Event → Repair → Type 0
Stands p past r = AreMet past r.above.above (places r) × Stage p (places r) r.side

stands_placed : (past : List Event) (r : Repair) (p : Place) (l : Looked)
    → AreMet past r.above.above (placed (places r) p l) → Stage p (places r) r.side → Stands p past (placed r p l)
stands_placed past r Node l h stage = (h, stage)
stands_placed past r Left l h stage = (h, stage)
stands_placed past r Right l h stage = (h, stage)
stands_placed past r Outer l h stage = (h, stage)
stands_placed past r Inner l h stage = (h, stage)
stands_placed past r Near l h stage = (h, stage)
stands_placed past r Far l h stage = (h, stage)

stands_missing : (past : List Event) (r : Repair) (p : Place) → Stands p past r → Stands p past (placed r p missing)
stands_missing past r p h = stands_placed past r p missing
    (placed_met past r.above.above (places r) p missing h.0 (inl refl) (λ not_0. absurd (not_0 refl))
    (λ e not_0. absurd (not_0 refl))) h.1

module _ (past : List Event) (next : Repair → Repair × Ask) (p : Place) (below : p ≢ Node)
    (goes : (r : Repair) → Stands p past r → RepairKeeps past (next r)) where
  sought_keeps : (r : Repair) (o : Option ℕ) → Stands p past r
      → ((n : ℕ) → o ≡ Some n → IsNumber n × IsLawfulAsk past (AskVisit n))
      → RepairKeeps past (going_on next (sought_at r p o).0 (sought_at r p o).1)
  sought_keeps r None h told = goes (placed r p missing) (stands_missing past r p h)
  sought_keeps r (Some n) h told =
      let Goes : Repair × Sought → Type 0 = λ z. RepairKeeps past (going_on next z.0 z.1) in
      let back : Repair × Sought = (r, Back) in
      let away : Repair × Sought = (looks r p n, Away n) in
      cond_both ((at_place r p).node == n) (r, Known) (if has n (met r) then back else away) Goes (λ same. goes r h)
      (λ other. cond_both (has n (met r)) back away Goes (λ leads_back. tt)
      (λ new. (
        (refl, (told n refl).1),
        (
          record { number = (told n refl).0; new = (new_among r n new).1; met = h.0 },
          h.1,
          λ e. absurd (below e),
        ),
      )))

  seeks_keeps : (r : Repair) (link : ℕ) → Stands p past r → IsToldLink past link
      → RepairKeeps past (seeks next r p link)
  seeks_keeps r link h told = sought_keeps r (node_at link) h
      (λ n named. ((told n named).0, inr ((told n named).0.not_0, (told n named).1)))

-- The cases, from the last to the first

module _ (past : List Event) where
  turns_twice_keeps : (r : Repair) → Stands Far past r → RepairKeeps past (turns_twice r)
  turns_twice_keeps r h = cond_both (is_in_balance r.near.height r.far.height r.inner.height)
      (ends r (rotating_twice r.side r.above.above r.above.key r.node (child r) r.inner (sibling r) r.outer r.near
      r.far)) (answers r (Value r.inner.key)) (RepairKeeps past)
      (λ balanced. rotates_twice past r h.0 h.1.0 r.side h.1.1 h.1.2) (λ out. tt)

  seeks_far_keeps : (r : Repair) → Stands Far past r → RepairKeeps past (seeks_far r)
  seeks_far_keeps r h = seeks_keeps past turns_twice Far (λ e. absurd (cc)) turns_twice_keeps r
      (link_at r.inner (opposite r.side)) h (links_told past r.inner (opposite r.side) (h.0.told Inner))

  seeks_near_keeps : (r : Repair) → Stands Near past r → RepairKeeps past (seeks_near r)
  seeks_near_keeps r h = seeks_keeps past seeks_far Near (λ e. absurd (cc)) seeks_far_keeps r
      (link_at r.inner r.side) h (links_told past r.inner r.side (h.0.told Inner))

  turns_keeps : (r : Repair) → Stands Inner past r → RepairKeeps past (turns r)
  turns_keeps r h =
      let rotated : Repair × Ask = ends r (rotating r.side r.above.above r.above.key r.node (child r) (sibling r)
      r.outer r.inner) in
      cond_both (is_in_balance r.outer.height r.inner.height (child r).height)
      (if nat_le r.inner.height r.outer.height then rotated else seeks_near r) (answers r (Value (child r).key))
      (RepairKeeps past)
      (λ balanced. cond_both (nat_le r.inner.height r.outer.height) rotated (seeks_near r) (RepairKeeps past)
      (λ lower. rotates past r h.0 h.1.0 r.side h.1.1)
      (λ higher. let lt : r.outer.height < r.inner.height = leb-false r.inner.height r.outer.height higher in
      seeks_near_keeps r (h.0, (h.1.0, h.1.1, not_blank past r.inner (h.0.told Inner) (λ z. absurd (omega arith))))))
      (λ out. tt)

  seeks_inner_keeps : (r : Repair) → Stands Inner past r → RepairKeeps past (seeks_inner r)
  seeks_inner_keeps r h = seeks_keeps past turns Inner (λ e. absurd (cc)) turns_keeps r
      (link_at (child r) (opposite r.side)) h
      (links_told past (child r) (opposite r.side) (child_told past r r.side h.0))

  seeks_outer_keeps : (r : Repair) → Stands Outer past r → RepairKeeps past (seeks_outer r)
  seeks_outer_keeps r h = seeks_keeps past seeks_inner Outer (λ e. absurd (cc)) seeks_inner_keeps r
      (link_at (child r) r.side) h (links_told past (child r) r.side (child_told past r r.side h.0))

  weighs_keeps : (r : Repair) → Stands Right past r → RepairKeeps past (weighs r)
  weighs_keeps r h =
      let height : ℕ = height_over r.left.height r.right.height in
      let right : Repair × Ask = answers r (balanced_reply r.aim r.node.key) in
      let reheighted : Repair × Ask = ends r (reheighting r.above.above r.above.key r.node height) in
      cond_both (are_close r.left.height r.right.height) (if r.node.height == height then right else reheighted)
      (seeks_outer (leans r)) (RepairKeeps past)
      (λ close. cond_both (r.node.height == height) right reheighted (RepairKeeps past) (λ same. tt)
      (λ other. reheights past r h.0 h.1 height (height_over-small r.left.height r.right.height)))
      (λ far. let leaning : HasChild (places r) (leans r).side = heavier_child past (places r) (h.0.told Left)
      (h.0.told Right) far in
      seeks_outer_keeps (leans r) (h.0, (h.1, leaning)))

  seeks_right_keeps : (r : Repair) → Stands Right past r → RepairKeeps past (seeks_right r)
  seeks_right_keeps r h = seeks_keeps past weighs Right (λ e. absurd (cc)) weighs_keeps r r.node.right h
      (links_told past r.node OnRight (h.0.told Node))

  seeks_left_keeps : (r : Repair) → Stands Left past r → RepairKeeps past (seeks_left r)
  seeks_left_keeps r h = seeks_keeps past seeks_right Left (λ e. absurd (cc)) seeks_right_keeps r r.node.left h
      (links_told past r.node OnLeft (h.0.told Node))

  -- what comes after the look for a place
  goes_on_after : (r : Repair) (p : Place) (l : Looked) → l.node ≢ 0
      → AreMet past r.above.above (placed (places r) p l) → Stage p (places r) r.side
      → RepairKeeps past (after_look p (placed r p l))
  goes_on_after r Node l not_0 h stage = seeks_left_keeps (placed r Node l) (h, not_0)
  goes_on_after r Left l not_0 h stage = seeks_right_keeps (placed r Left l) (h, stage)
  goes_on_after r Right l not_0 h stage = weighs_keeps (placed r Right l) (h, stage)
  goes_on_after r Outer l not_0 h stage = seeks_inner_keeps (placed r Outer l) (h, stage)
  goes_on_after r Inner l not_0 h stage = turns_keeps (placed r Inner l) (h, stage)
  goes_on_after r Near l not_0 h stage = seeks_far_keeps (placed r Near l) (h, stage)
  goes_on_after r Far l not_0 h stage = turns_twice_keeps (placed r Far l) (h, stage)

  after_keeps : (r : Repair) (p : Place) (l : Looked) → IsTold past l → LooksAt past r.above.above (places r) r.side p
      l.node → RepairKeeps past (after_look p (placed r p l))
  after_keeps r p l told h =
      let filled : AreMet past r.above.above (placed (places r) p l) = placed_met past r.above.above (places r) p l
      h.0.met (inr told) (λ not_0. h.0.new) (λ e not_0. h.2 e) in
      goes_on_after r p l told.number.not_0 filled h.1

told_seen : (past : List Event) (l : Look) → LookStands past l Done → IsNumber l.seen.node → IsTold past l.seen
told_seen past l h number = record { number = number; visited = h.0; read = h.1 }

looked_keeps : (past : List Event) (r : Repair) (p : Place) (l : Look) (s : LookStep) → LookStands past l s
    → LooksAt past r.above.above (places r) r.side p l.seen.node
    → RepairKeeps past (looked (in_phase r (Looking p)) p l s)
looked_keeps past r p l (LookRead f) h at = (h, at)
looked_keeps past r p l Done h at = after_keeps past (record (in_phase r (Looking p)) { look = l }) p l.seen
    (told_seen past l h at.0.number) at
looked_keeps past r p l LookAstray h at = tt

-- The search

goes_to_keeps : (past : List Event) (r : Repair) (l : Looked) (s : Side) (o : Option ℕ) → node_at (link_at l s) ≡ o
    → IsTold past l → AreMet past r.above.above (places r) → HasFew (places r)
    → RepairKeeps past (going_down (record (in_phase r Searching) { last = upper l s }) o)
goes_to_keeps past r l s None named told met few =
    let left : Repair = record (in_phase r Searching) { last = upper l s } in
    cond_both (r.node.node == 0) (answers left Nothing) (seeks_left left) (RepairKeeps past) (λ none. tt)
    (λ some. seeks_left_keeps past left (met, eqb-false r.node.node 0 some))
goes_to_keeps past r l s (Some n) named told h few =
    let left : Repair = record (in_phase r Searching) { last = upper l s } in
    let link : IsNumber n × WasToldOf n past = links_told past l s (inr told) n named in
    cond_both (has n (met left)) (answers left Nothing) (record left { look = look_for n }, AskVisit n)
    (RepairKeeps past) (λ back. tt)
    (λ out. let new : (n ≢ l.node) × IsNew r.above.above (places r) n = new_among left n out in (
      (refl, inr (link.0.not_0, link.1)),
      (
        record { number = link.0; new = new.1; met = h },
        few,
        told.number.fits,
        inr (record {
          seen = told.visited.0;
          small = told.visited.1;
          link = (link_told past l s told).0 ∙ ap Some (node_at-some (link_at l s) n named).0;
          apart = new.0;
        }),
      ),
    ))

goes_keeps : (past : List Event) (r : Repair) (l : Looked) (s : Side) → IsTold past l
    → AreMet past r.above.above (places r) → HasFew (places r)
    → RepairKeeps past (going_to (in_phase r Searching) l s)
goes_keeps past r l s = goes_to_keeps past r l s (node_at (link_at l s)) refl

-- the node that it finds is the only one that it still knows, with the one above
found_met : (past : List Event) (r : Repair) (l : Looked) → IsTold past l → ToldAbove past r.last.above l.node
    → Fits r.last.above.node → HasFew (places r) → AreMet past r.last.above (places (finds r l))
found_met past r l told above fits few =
    let none : Repair = record (places r) { node = missing; left = missing; inner = missing; far = missing } in
    let empty : IsEmpty none = at_each none (λ (x : Looked). x ≡ missing)
    (refl, refl, few.0, few.1, refl, few.2, refl) in
    placed_met past r.last.above none Node l (none_met past r.last.above none empty fits) (inr told)
    (λ not_0. (above.apart, λ p e. not_0 (e ∙ same_number (empty p)))) (λ e not_0. above)

keeps_below_keeps : (past : List Event) (r : Repair) (l : Looked) → IsTold past l
    → SearchesAt past r.above.above r.last.above (places r) l.node
    → RepairKeeps past (going_to (keeps_below (in_phase r Searching) l) l OnRight)
keeps_below_keeps past r l told h =
    let at : Repair = in_phase r Searching in
    let far : Repair = if r.far.node == 0 then record at { far = l } else at in
    let inner : Repair = if r.inner.node == 0 then record at { inner = l } else far in
    let left : Repair = if r.left.node == 0 then record at { left = l } else inner in
    let Goes : Repair → Type 0 = λ x. RepairKeeps past (going_to x l OnRight) in
    let same : Goes at = goes_keeps past r l OnRight told h.0.met h.1 in
    let filled : (p : Place) → p ≢ Node → AreMet past r.above.above (placed (places r) p l) = λ p ne. placed_met past
    r.above.above (places r) p l h.0.met (inr told) (λ not_0. h.0.new) (λ e not_0. absurd (ne e)) in
    cond_both (r.node.node == 0) at left Goes (λ _. same)
    (λ _. cond_both (r.left.node == 0) (record at { left = l }) inner Goes
    (λ _. goes_keeps past (record r { left = l }) l OnRight told (filled Left (λ e. absurd (cc))) h.1)
    (λ _. cond_both (r.inner.node == 0) (record at { inner = l }) far Goes
    (λ _. goes_keeps past (record r { inner = l }) l OnRight told (filled Inner (λ e. absurd (cc))) h.1)
    (λ _. cond_both (r.far.node == 0) (record at { far = l }) at Goes
    (λ _. goes_keeps past (record r { far = l }) l OnRight told (filled Far (λ e. absurd (cc))) h.1) (λ _. same))))

passes_keeps : (past : List Event) (r : Repair) (l : Looked) → IsTold past l
    → SearchesAt past r.above.above r.last.above (places r) l.node → RepairKeeps past (passes (in_phase r Searching) l)
passes_keeps past r l told h =
    let at : Repair = in_phase r Searching in
    let reached : Repair × Ask = seeks_left (finds at l) in
    let found : Repair × Ask = going_to (finds at l) l OnLeft in
    let passed : Repair × Ask = going_to (keeps_below at l) l OnRight in
    cond_both (l.node == 1) (going_to at l OnLeft)
    (if r.walk.key == l.key then reached else if nat_lt r.walk.key l.key then found else passed)
    (RepairKeeps past) (λ root. goes_keeps past r l OnLeft told h.0.met h.1)
    (λ below. let above : ToldAbove past r.last.above l.node = ⊎_elim (λ one. absurd (eqb-false l.node 1 below one))
    (λ told. told) h.3 in
    let new : AreMet past r.last.above (places (finds r l)) = found_met past r l told above h.2 h.1 in
    cond_both (r.walk.key == l.key) reached (if nat_lt r.walk.key l.key then found else passed) (RepairKeeps past)
    (λ same. seeks_left_keeps past (finds at l) (new, told.number.not_0))
    (λ other. cond_both (nat_lt r.walk.key l.key) found passed (RepairKeeps past)
    (λ beyond. goes_keeps past (finds r l) l OnLeft told new h.1)
    (λ not_yet. keeps_below_keeps past r l told h)))

searched_keeps : (past : List Event) (r : Repair) (l : Look) (s : LookStep) → LookStands past l s
    → SearchesAt past r.above.above r.last.above (places r) l.seen.node
    → RepairKeeps past (searched (in_phase r Searching) l s)
searched_keeps past r l (LookRead f) h at = (h, at)
searched_keeps past r l Done h at = passes_keeps past (record r { look = l }) l.seen
    (told_seen past l h at.0.number) at
searched_keeps past r l LookAstray h at = tt

-- The walk

-- it is at a node's number
abbrev IsAtNode : Walk × Step → Type 0
IsAtNode s = s.0.node ≢ 0

followed_node : (w : Walk) (s : Side) (x : ℕ) (o : Option ℕ) → node_at x ≡ o → w.node ≢ 0
    → IsAtNode (following w s x o)
followed_node w s x None named h = h
followed_node w s x (Some n) named h = cond_both (has n (w.node ∷ 1 ∷ [])) (w, Astray) (descending w s n)
    IsAtNode (λ _. h) (λ _. (node_at-some x n named).1)

step_node : (w : Walk) (a : Awaited) (t : Told) → w.node ≢ 0 → IsAtNode (step_at w a t)
step_node w ToBegin Begin h = h
step_node w AVersion (VersionTold v) h = cond_both (w.node == 1) (reading_link (at_version w v w.awaited) OnLeft)
    (at_version w v AKey, Read w.node KeyField) IsAtNode (λ _. h) (λ _. h)
step_node w AKey (Number x) h = h
step_node w (Link s) (Number x) h = followed_node w s x (node_at x) refl h
step_node w a t h = h

walked_keeps : (past : List Event) (r : Repair) (w : Walk) (s : Step) → StepStands past w s → HasSmallNodes w
    → w.node ≢ 0 → IsEmpty (places r) → RepairKeeps past (walked (in_phase r Walking) w s)
walked_keeps past r w (Visit n) h small not_0 empty = (h, small, not_0, empty)
walked_keeps past r w (Read n f) h small not_0 empty = (h, small, not_0, empty)
walked_keeps past r w (Here x) h small not_0 empty =
    let at : Repair = in_phase r Walking in
    let one : reads_since_visit past ≡ 1 = h.2 in
    cond_both (x == w.key) (arrives at w x) (walks_on at w x) (RepairKeeps past)
    (λ same. (
      ((refl, one), (h.0.come.seen, h.0.come.small), tt),
      (
        record {
          number = record { not_0 = not_0; fits = small.node };
          new = (h.0.above.apart, λ p e. not_0 (e ∙ same_number (empty p)));
          met = none_met past w.above (places r) empty small.above;
        },
        tt,
        λ _. h.0.above,
      ),
    ))
    (λ other. (
      goes_on past w x h.0.come (omega arith),
      record { node = small.node; above = small.above },
      not_0,
      empty,
    ))
walked_keeps past r w (Missing s link) h small not_0 empty = tt
walked_keeps past r w Astray h small not_0 empty = tt

-- The steps

at_kept : (n : ℕ) (past now : List Event) (a : Above) (r : Repair) → KeepsOthers n past now → IsAt past a r n
    → IsAt now a r n
at_kept n past now a r k h = record { number = h.number; new = h.new; met = met_kept n past now a r k h.new h.met }

-- told something of the node that it looks at
module _ (past : List Event) (r : Repair) (a : Ask) (t : Told) (word : IsWord t)
    (looking : IsLooking past a r.look r.look.unread) where
  abbrev now : List Event
  now = learned a t past

  keeps : KeepsOthers r.look.seen.node past now
  keeps = look_keeps past a r.look r.look.unread t looking

  search_step : SearchesAt past r.above.above r.last.above (places r) r.look.seen.node
      → RepairKeeps now (repair_told (in_phase r Searching) Searching t)
  search_step h =
      let n : ℕ = r.look.seen.node in
      let last : Above = r.last.above in
      let below : (n ≡ 1) ⊎ ToldAbove now last n = ⊎_elim (λ one. inl one)
      (λ told. inr (above_kept n past now keeps last n told.apart told)) h.3 in
      searched_keeps now r (look_step r.look t).0 (look_step r.look t).1
      (look_stands past a r.look r.look.unread t word looking)
      (subst (SearchesAt now r.above.above last (places r)) (sym (look_stays r.look r.look.unread t))
      (at_kept n past now r.above.above (places r) keeps h.0, h.1, h.2, below))

  look_step_keeps : (p : Place) → LooksAt past r.above.above (places r) r.side p r.look.seen.node
      → RepairKeeps now (repair_told (in_phase r (Looking p)) (Looking p) t)
  look_step_keeps p h =
      let n : ℕ = r.look.seen.node in
      looked_keeps now r p (look_step r.look t).0 (look_step r.look t).1
      (look_stands past a r.look r.look.unread t word looking)
      (subst (LooksAt now r.above.above (places r) r.side p) (sym (look_stays r.look r.look.unread t)) (
        at_kept n past now r.above.above (places r) keeps h.0,
        h.1,
        λ e. above_kept n past now keeps r.above.above n
            h.0.new.0 (h.2 e),
      ))

step_keeps : (past : List Event) (r : Repair) (a : Ask) (phase : RepairPhase) (t : Told) → IsWord t
    → RepairStands past r a phase → RepairKeeps (learned a t past) (repair_told (in_phase r phase) phase t)
step_keeps past r a Walking t word h = walked_keeps (learned a t past) r (walk_step r.walk t).0 (walk_step r.walk t).1
    (walk_stands past r.walk a t word h.0) (walk_keeps_small r.walk t word h.1) (step_node r.walk r.walk.awaited t h.2)
    h.3
step_keeps past r a Beginning t word h = absurd h
step_keeps past r a Searching t word h = search_step past r a t word h.0 h.1
step_keeps past r a (Looking p) t word h = look_step_keeps past r a t word h.0 p h.1
step_keeps past r a Ended t word h = tt

repair_keeps : (past : List Event) (s : Repair × Ask) (t : Told) → IsWord t → RepairKeeps past s
    → RepairKeeps (learned s.1 t past) (repair_moves s.0 t)
repair_keeps past s t word h = step_keeps past s.0 s.1 s.0.phase t word h

-- What it asks is lawful.

repair_stands : (past : List Event) (r : Repair) (a : Ask) (phase : RepairPhase) → RepairStands past r a phase
    → IsLawfulAsk past a
repair_stands past r a Walking h = waits_lawful past r.walk a h.0
repair_stands past r a Beginning h = absurd h
repair_stands past r a Searching h = look_lawful past a r.look r.look.unread h.0
repair_stands past r a (Looking p) h = look_lawful past a r.look r.look.unread h.0
repair_stands past r a Ended h = h

-- Where it begins

nothing_placed : (aim : Aim) (k : ℕ) → IsEmpty (places (repair_of aim k))
nothing_placed aim k = at_each (places (repair_of aim k)) (λ (x : Looked). x ≡ missing)
    (refl, refl, refl, refl, refl, refl, refl)

sentinel_number : IsNumber 1
sentinel_number = record { not_0 = λ e. absurd (omega arith); fits = omega arith }

begins_keeping : (aim : Aim) (k : ℕ) → RepairKeeps [] (repair_moves (repair_of aim k) Begin)
begins_keeping Exact k = (
  (refl, refl, inl refl),
  record { node = omega arith; above = omega arith },
  sentinel_number.not_0,
  nothing_placed Exact k,
)
begins_keeping Nearest k =
    let r : Repair = repair_of Nearest k in
    let empty : IsEmpty (places r) = nothing_placed Nearest k in (
      (refl, inl refl),
      (
        record {
          number = sentinel_number;
          new = (sentinel_number.not_0, λ p e. sentinel_number.not_0 (e ∙ same_number (empty p)));
          met = none_met [] r.above.above (places r) empty (omega arith);
        },
        (refl, refl, refl),
        omega arith,
        inl refl,
      ),
    )

first_visit : (aim : Aim) (k : ℕ) → (repair_moves (repair_of aim k) Begin).1 ≡ AskVisit 1
first_visit Exact k = refl
first_visit Nearest k = refl

pub repair_lawful : (aim : Aim) → IsLawful (repair_of aim) repair_moves (λ (k : ℕ). Unit {0})
repair_lawful aim = record {
  first = λ k can. first_visit aim k;
  asks = λ k ts can words.
      let first : Repair × Ask = repair_moves (repair_of aim k) Begin in
      let s : Repair × Ask = reached (repair_of aim) repair_moves k ts in
      repair_stands (learned_along repair_moves [] first ts) s.0 s.1 s.0.phase
      (kept_along repair_moves RepairKeeps repair_keeps ts [] first words (begins_keeping aim k));
}
