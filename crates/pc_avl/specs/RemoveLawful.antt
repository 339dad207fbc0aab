-- What a remove keeps whatever it is told.
use Rattle.std.proofs.Common.{◌≡◌, ◌≢◌, ℕ, ◌^◌, ◌<◌, ◌≤◌, ◌==◌, inl, inr, false, List}
use Rattle.std.proofs.Common.{[], ◌∷◌, ◌++◌, length, Option, Some, None, refl, sym, ap, ◌∙◌, subst, arith}
use Rattle.std.proofs.lemmas.Bool.{eqb-true, eqb-false, cond_both}
use Rattle.pc_model.specs.declared.cell.Field.{Field}
use Rattle.pc_model.specs.declared.cell.Field.TheVariants.{Key as KeyField, Value as ValueField, Left as LeftLink}
use Rattle.pc_model.specs.declared.cell.Field.TheVariants.{Right as RightLink, Parent}
use Rattle.pc_model.specs.declared.cell.Side.TheVariants.{Left, Right}
use Rattle.pc_model.specs.Map.{IsKey}
use Rattle.pc_model.specs.Cells.{field_number, node_at}
use Rattle.pc_model.specs.Debts.{has}
use Rattle.pc_model.specs.Exchanges.{Visited}
use Rattle.pc_model.specs.Sides.{link_of}
use Rattle.pc_model.proofs.Links.{node_at-some}
use Rattle.pc_plan.specs.declared.plan.Ask.{Ask}
use Rattle.pc_plan.specs.declared.plan.Ask.TheVariants.{Visit as AskVisit, Read as AskRead}
use Rattle.pc_plan.specs.declared.plan.Told.{Told}
use Rattle.pc_plan.specs.declared.plan.Told.TheVariants.{Begin, Version, Number}
use Rattle.pc_plan.specs.declared.walk.Above.{Above}
use Rattle.pc_plan.specs.declared.walk.Walk.{Walk}
use Rattle.pc_plan.specs.declared.walk.Step.{Step}
use Rattle.pc_plan.specs.declared.walk.Step.TheVariants.{Visit, Read, Here, Missing, Astray}
use Rattle.pc_plan.specs.NodeChanges.{NodeChange, adds_of, planned_by}
use Rattle.pc_plan.specs.Traces.{Event, visited, found, learned, learned_along, version_seen, number_seen}
use Rattle.pc_plan.specs.Traces.{reads_since_visit}
use Rattle.pc_plan.specs.Runs.{reached}
use Rattle.pc_plan.specs.Lawful.{IsLink, WasToldOf, IsWord, IsLawfulAsk, IsLawfulChange, IsLawful}
use Rattle.pc_plan.specs.Walks.{walk_step}
use Rattle.pc_plan.proofs.Learning.{kept_along, version_seen-here, version_seen-else, number_seen-here}
use Rattle.pc_plan.proofs.Learning.{number_seen-other, side_is_link, was_told-seen}
use Rattle.pc_plan.proofs.NodeWords.{not_among, among_not}
use Rattle.pc_plan.proofs.LawfulNodes.{AreToldNodes, lawful_by_nodes}
use Rattle.pc_plan.proofs.WalkLawful.{HasComeBelow, ToldAbove, StepStands, Waits, walk_stands, waits_lawful}
use Rattle.pc_plan.proofs.WalkLawful.{goes_on, above_visit, above_read, come_read}
use Rattle.pc_plan.proofs.WalkNodes.{HasSmallNodes, named_small, walk_keeps_small}
use Rattle.pc_bst.specs.Kinds.{key_unless_sentinel}
use Rattle.pc_bst.specs.PutEnds.{link_field}
use Rattle.pc_bst.specs.RemoveEnds.{lifted_fields_differ}
use Rattle.pc_bst.specs.RemoveLawful.{IsAtKey, IsToldTarget, IsToldNext, Fits, WaitsFor, at_key_read, target_read}
use Rattle.pc_bst.specs.RemoveLawful.{target_visit, next_read, waits_lawfully}
use Rattle.pc_avl.specs.declared.remove.Leaving.{Leaving}
use Rattle.pc_avl.specs.declared.remove.Leaving.TheVariants.{Target, Next as Successor}
use Rattle.pc_avl.specs.declared.remove.Heir.{Heir}
use Rattle.pc_avl.specs.declared.remove.RemovePhase.{RemovePhase}
use Rattle.pc_avl.specs.declared.remove.RemovePhase.TheVariants.{Walking, ReadingLeft, ReadingRight, ReadingValue}
use Rattle.pc_avl.specs.declared.remove.RemovePhase.TheVariants.{Visiting, ReadingNextKey, ReadingNext}
use Rattle.pc_avl.specs.declared.remove.RemovePhase.TheVariants.{ReadingNextValue, ReadingNextRight, VisitingHeir}
use Rattle.pc_avl.specs.declared.remove.RemovePhase.TheVariants.{ReadingParent, Ended}
use Rattle.pc_avl.specs.declared.remove.Next.{Next}
use Rattle.pc_avl.specs.declared.remove.AvlRemove.{AvlRemove}
use Rattle.pc_avl.specs.Removes.{remove_of, in_phase, with_walk, remove_reads, remove_gives_up, remove_passes}
use Rattle.pc_avl.specs.Removes.{heir_link, heir_nodes, unlinked, lifted_fields, relinked, lifted_charges}
use Rattle.pc_avl.specs.Removes.{lifted, removal, visiting_below, going_below, visiting_heir, unlinking, chosen}
use Rattle.pc_avl.specs.Removes.{lifting, following, remove_walked, remove_told, remove_moves}
use Rattle.pc_avl.specs.RemoveEnds.{IsNoHeir, heir_out, heir_different}

-- the number of a link was told, and fits
record IsToldLink (past : List Event) (n : ℕ) (f : Field) (x : ℕ) : Type 0 where
  seen : number_seen n f past ≡ Some x
  small : Fits x

-- what it keeps of the node with the key and of a node on the way to the successor
record IsOnWay (past : List Event) (w : Walk) (value node version : ℕ) (above : Above) : Type 0 where
  target : IsToldTarget past w value
  next : IsToldNext past w.node node version above
  small : Fits node
  small_above : Fits above.node

abbrev NextStands : List Event → Walk → ℕ → Next → Type 0
NextStands past w value x = IsOnWay past w value x.node x.version x.above

-- what it was told of the nodes that change where this one leaves
abbrev MayLeave : List Event → Walk → ℕ → Next → Leaving → Type 0
MayLeave past w value x Target = HasComeBelow past w × Fits w.above.node
MayLeave past w value x Successor = NextStands past w value x × Fits x.key × Fits x.value

-- the node is none of those
abbrev IsOther : Walk → Next → Leaving → ℕ → Type 0
IsOther w x Target n = (n ≢ w.node) × (n ≢ w.above.node)
IsOther w x Successor n = (n ≢ w.node) × (n ≢ x.node) × (n ≢ x.above.node)

abbrev RemoveStands : List Event → AvlRemove → Ask → RemovePhase → Type 0
RemoveStands past r a Walking = Waits past r.walk a × HasSmallNodes r.walk
RemoveStands past r a ReadingLeft = WaitsFor past a r.walk.node LeftLink 1 × IsAtKey past r.walk × HasSmallNodes r.walk
RemoveStands past r a ReadingRight = WaitsFor past a r.walk.node RightLink 2 × IsAtKey past r.walk
    × HasSmallNodes r.walk × IsToldLink past r.walk.node LeftLink r.left
RemoveStands past r a ReadingValue = WaitsFor past a r.walk.node ValueField 3 × IsAtKey past r.walk
    × HasSmallNodes r.walk × IsToldLink past r.walk.node LeftLink r.left
    × IsToldLink past r.walk.node RightLink r.right
RemoveStands past r a Visiting = (a ≡ AskVisit r.next.node) × IsToldTarget past r.walk r.value × ToldAbove past
    r.next.above r.next.node
    × (r.next.node ≢ r.walk.node) × (r.next.node ≢ 0) × Fits r.next.node × Fits r.next.above.node
RemoveStands past r a ReadingNextKey = WaitsFor past a r.next.node KeyField 0 × NextStands past r.walk r.value r.next
RemoveStands past r a ReadingNext = WaitsFor past a r.next.node LeftLink 1 × NextStands past r.walk r.value r.next
    × Fits r.next.key
RemoveStands past r a ReadingNextValue = WaitsFor past a r.next.node ValueField 2
    × NextStands past r.walk r.value r.next × Fits r.next.key
RemoveStands past r a ReadingNextRight = WaitsFor past a r.next.node RightLink 3
    × NextStands past r.walk r.value r.next × Fits r.next.key × Fits r.next.value
RemoveStands past r a (VisitingHeir leaving n) = (a ≡ AskVisit n) × MayLeave past r.walk r.value r.next leaving
    × IsOther r.walk r.next leaving n × (n ≢ 0) × WasToldOf n past × Fits n
RemoveStands past r a (ReadingParent leaving n v) = WaitsFor past a n Parent 0
    × MayLeave past r.walk r.value r.next leaving
    × IsOther r.walk r.next leaving n × (version_seen n past ≡ Some v) × (v < 2 ^ 60) × Fits n
RemoveStands past r a Ended = IsLawfulAsk past a

abbrev RemoveKeeps : List Event → AvlRemove × Ask → Type 0
RemoveKeeps past s = RemoveStands past s.0 s.1 s.0.phase

-- What stays told

stands_read : (past : List Event) (w : Walk) (value : ℕ) (x : Next) (f : Field) (y : ℕ) → NextStands past w value x
    → NextStands (found x.node f y ∷ past) w value x
stands_read past w value x f y h = record {
  target = target_read past w value x.node f y h.next.other h.target;
  next = next_read past w.node x.node x.version x.above f y h.next;
  small = h.small;
  small_above = h.small_above;
}

-- where a node other than those that change is visited or read
may_leave_visit : (past : List Event) (w : Walk) (value : ℕ) (x : Next) (leaving : Leaving) (n v : ℕ)
    → IsOther w x leaving n → MayLeave past w value x leaving → MayLeave (visited n v ∷ past) w value x leaving
may_leave_visit past w value x Target n v other h = (
  record {
    come = record {
      seen = version_seen-else w.node n v past other.0 ∙ h.0.come.seen;
      small = h.0.come.small;
    };
    above = above_visit past w.above w.node n v other.1 h.0.above;
  },
  h.1,
)
may_leave_visit past w value x Successor n v other h = (
  record {
    target = target_visit past w value n v other.0 h.0.target;
    next = record {
      by_link = above_visit past x.above x.node n v other.2 h.0.next.by_link;
      seen = version_seen-else x.node n v past other.1 ∙ h.0.next.seen;
      small = h.0.next.small;
      other = h.0.next.other;
    };
    small = h.0.small;
    small_above = h.0.small_above;
  },
  h.1,
  h.2,
)

may_leave_read : (past : List Event) (w : Walk) (value : ℕ) (x : Next) (leaving : Leaving) (n : ℕ) (f : Field) (y : ℕ)
    → IsOther w x leaving n → MayLeave past w value x leaving → MayLeave (found n f y ∷ past) w value x leaving
may_leave_read past w value x Target n f y other h = (
  record {
    come = come_read past w n f y h.0.come;
    above = above_read past w.above w.node n f y other.1 h.0.above;
  },
  h.1,
)
may_leave_read past w value x Successor n f y other h = (
  record {
    target = target_read past w value n f y other.0 h.0.target;
    next = record {
      by_link = above_read past x.above x.node n f y other.2 h.0.next.by_link;
      seen = h.0.next.seen;
      small = h.0.next.small;
      other = h.0.next.other;
    };
    small = h.0.small;
    small_above = h.0.small_above;
  },
  h.1,
  h.2,
)

-- The exchanges

-- an heir is another node than those that change, and was visited and its parent read
abbrev IsToldHeir : List Event → Walk → Next → Leaving → Option Heir → Type 0
IsToldHeir past w x leaving None = Unit {0}
IsToldHeir past w x leaving (Some h) = IsOther w x leaving h.node × Fits h.node
    × (version_seen h.node past ≡ Some h.version) × (h.version < 2 ^ 60)
    × (number_seen h.node Parent past ≡ Some h.parent)

target_heir : (past : List Event) (w : Walk) (x : Next) (heir : Option Heir) → IsToldHeir past w x Target heir
    → IsNoHeir heir w.node × IsNoHeir heir w.above.node
target_heir past w x None told = (tt, tt)
target_heir past w x (Some h) told = (λ e. told.0.0 (sym e), λ e. told.0.1 (sym e))

next_heir : (past : List Event) (w : Walk) (x : Next) (heir : Option Heir) → IsToldHeir past w x Successor heir
    → IsNoHeir heir w.node × IsNoHeir heir x.node × IsNoHeir heir x.above.node
next_heir past w x None told = (tt, tt, tt)
next_heir past w x (Some h) told = (λ e. told.0.0 (sym e), λ e. told.0.1 (sym e), λ e. told.0.2 (sym e))

heir_told : (past : List Event) (w : Walk) (x : Next) (leaving : Leaving) (above : ℕ) (heir : Option Heir)
    → IsToldHeir past w x leaving heir
    → Fits above → AreToldNodes past None (heir_nodes above heir)
heir_told past w x leaving above None told fits = tt
heir_told past w x leaving above (Some h) told fits = (
  record {
    seen = told.2;
    small = told.3;
    told = ((told.4, fits, λ e. absurd (cc)), tt);
    fields = (refl, tt);
  },
  tt,
)

heir_fits : (past : List Event) (w : Walk) (x : Next) (leaving : Leaving) (heir : Option Heir)
    → IsToldHeir past w x leaving heir → Fits (heir_link heir)
heir_fits past w x leaving None told = omega arith
heir_fits past w x leaving (Some h) told = told.1

few_heir_adds : (above : ℕ) (heir : Option Heir) (v : Visited)
    → length (adds_of (heir_nodes above heir) (Some v)) ≤ 3
few_heir_adds above None v = omega arith
few_heir_adds above (Some h) v = omega arith

few_charges : (n key : ℕ) → length (key_unless_sentinel n key) ≤ 4
few_charges n key = cond_both (n == 1) [] (key ∷ []) (λ (keys : List ℕ). length keys ≤ 4) (λ _. omega arith)
    (λ _. omega arith)

few_lifted_charges : (r : AvlRemove) → length (lifted_charges r) ≤ 4
few_lifted_charges r = cond_both (r.next.above.node == r.walk.node) [] (r.next.above_key ∷ [])
    (λ (keys : List ℕ). length (r.next.key ∷ keys) ≤ 4) (λ _. omega arith) (λ _. omega arith)

unlink_lawful : (past : List Event) (r : AvlRemove) (heir : Option Heir) → HasComeBelow past r.walk
    → Fits r.walk.above.node
    → IsToldHeir past r.walk r.next Target heir → IsLawfulChange past (planned_by (unlinked r heir))
unlink_lawful past r heir h fits told =
    let q : ℕ = r.walk.above.node in
    let v : Visited = record { node = r.walk.node; version = r.walk.version } in
    let few : length (adds_of (heir_nodes q heir) (Some v)) ≤ 3 = few_heir_adds q heir v in
    let others : IsNoHeir heir r.walk.node × IsNoHeir heir q = target_heir past r.walk r.next heir told in
    lawful_by_nodes past (unlinked r heir) (record {
      some = λ e. absurd (cc);
      few = omega arith;
      nodes = (
        record {
          seen = h.above.seen;
          small = h.above.small;
          told = ((h.above.link, heir_fits past r.walk r.next Target heir told, λ e. absurd (cc)), tt);
          fields = (link_field r.walk.above.side, tt);
        },
        heir_told past r.walk r.next Target q heir told fits,
      );
      mark = (h.come.seen, h.come.small);
      different = (heir_out q heir q v others.1 (λ e. h.above.apart (sym e)), heir_different q heir v others.0);
      fresh = tt;
      few_charges = few_charges q r.above_key;
    })

lift_lawful : (past : List Event) (r : AvlRemove) (heir : Option Heir) → NextStands past r.walk r.value r.next
    → Fits r.next.key → Fits r.next.value → IsToldHeir past r.walk r.next Successor heir
    → IsLawfulChange past (planned_by (lifted r heir))
lift_lawful past r heir h key value told =
    let t : ℕ = r.walk.node in
    let q : ℕ = r.next.above.node in
    let m : ℕ = r.next.node in
    let v : Visited = record { node = m; version = r.next.version } in
    let one : List NodeChange = record {
      node = t;
      version = r.walk.version;
      fields = lifted_fields r ++ relinked r heir;
    } ∷ heir_nodes q heir in
    let two : List NodeChange = record { node = t; version = r.walk.version; fields = lifted_fields r }
    ∷ record { node = q; version = r.next.above.version; fields = relinked r heir } ∷ heir_nodes q heir in
    let few : length (adds_of (heir_nodes q heir) (Some v)) ≤ 3 = few_heir_adds q heir v in
    let others : IsNoHeir heir t × IsNoHeir heir m × IsNoHeir heir q = next_heir past r.walk r.next heir told in
    let not_t : t ≢ m = λ e. h.next.other (sym e) in
    let fits : Fits (heir_link heir) = heir_fits past r.walk r.next Successor heir told in
    cond_both (q == t) one two
    (λ (nodes : List NodeChange). IsLawfulChange past (planned_by (record (lifted r heir) { nodes = nodes })))
    (λ same. let e : q ≡ t = eqb-true q t same in
    let link : number_seen t (link_of r.next.above.side) past ≡ Some m = subst (λ (x : ℕ). number_seen x
    (link_of r.next.above.side) past ≡ Some m) e h.next.by_link.link in
    lawful_by_nodes past (record (lifted r heir) { nodes = one }) (record {
      some = λ d. absurd (cc);
      few = omega arith;
      nodes = (
        record {
          seen = h.target.come.seen;
          small = h.target.come.small;
          told = (
            (h.target.key, key, λ d. absurd (cc)),
            (
              (h.target.old_value, value, λ d. absurd (cc)),
              ((link, fits, λ d. absurd (cc)), tt),
            ),
          );
          fields = lifted_fields_differ r.next.above.side r.walk.key r.next.key r.value r.next.value m
              (heir_link heir);
        },
        heir_told past r.walk r.next Successor q heir told h.small_above,
      );
      mark = (h.next.seen, h.next.small);
      different = (heir_out q heir t v others.0 not_t, heir_different q heir v others.1);
      fresh = tt;
      few_charges = few_lifted_charges r;
    }))
    (λ differs. let other : q ≢ t = eqb-false q t differs in
    lawful_by_nodes past (record (lifted r heir) { nodes = two }) (record {
      some = λ d. absurd (cc);
      few = omega arith;
      nodes = (
        record {
          seen = h.target.come.seen;
          small = h.target.come.small;
          told = ((h.target.key, key, λ d. absurd (cc)), ((h.target.old_value, value, λ d. absurd (cc)), tt));
          fields = (refl, (refl, tt));
        },
        (
          record {
            seen = h.next.by_link.seen;
            small = h.next.by_link.small;
            told = ((h.next.by_link.link, fits, λ d. absurd (cc)), tt);
            fields = (link_field r.next.above.side, tt);
          },
          heir_told past r.walk r.next Successor q heir told h.small_above,
        ),
      );
      mark = (h.next.seen, h.next.small);
      different = (
        not_among t q _ (λ d. other (sym d)) (heir_out q heir t v others.0 not_t),
        (
          heir_out q heir q v others.2 (λ d. h.next.by_link.apart (sym d)),
          heir_different q heir v others.1,
        ),
      );
      fresh = tt;
      few_charges = few_lifted_charges r;
    }))

removal_lawful : (past : List Event) (r : AvlRemove) (leaving : Leaving) (heir : Option Heir)
    → MayLeave past r.walk r.value r.next leaving → IsToldHeir past r.walk r.next leaving heir
    → IsLawfulChange past (planned_by (removal r leaving heir))
removal_lawful past r Target heir may told = unlink_lawful past r heir may.0 may.1 told
removal_lawful past r Successor heir may told = lift_lawful past r heir may.0 may.1 may.2 told

-- The steps

-- a visit below a node that was visited, by a link that it was told of
goes_below_keeps : (past : List Event) (r : AvlRemove) (a : Above) (x n : ℕ) → IsToldTarget past r.walk r.value
    → version_seen a.node past ≡ Some a.version → a.version < 2 ^ 60
    → number_seen a.node (link_of a.side) past ≡ Some n → n ≢ 0 → Fits n → Fits a.node
    → RemoveKeeps past (going_below r a x n)
goes_below_keeps past r a x n target seen small link not_0 fits fits_above =
    cond_both (has n (r.walk.node ∷ a.node ∷ [])) (remove_gives_up r) (visiting_below r a x n, AskVisit n)
    (RemoveKeeps past) (λ back. tt)
    (λ new. let other : (n ≢ r.walk.node) × (has n (a.node ∷ []) ≡ false) = among_not n r.walk.node (a.node ∷ [])
    new in
    let apart : n ≢ a.node = (among_not n a.node [] other.1).0 in (
      refl,
      target,
      record { seen = seen; small = small; link = link; apart = apart },
      other.0,
      not_0,
      fits,
      fits_above,
    ))

-- a visit of an heir by a link that it was told of
visits_heir_keeps : (past : List Event) (r : AvlRemove) (leaving : Leaving) (n : ℕ) (met : List ℕ)
    → (has n met ≡ false → IsOther r.walk r.next leaving n) → MayLeave past r.walk r.value r.next leaving → n ≢ 0
    → WasToldOf n past → Fits n → RemoveKeeps past (visiting_heir r leaving n met)
visits_heir_keeps past r leaving n met other may not_0 told fits =
    cond_both (has n met) (remove_gives_up r) (in_phase r (VisitingHeir leaving n), AskVisit n) (RemoveKeeps past)
    (λ back. tt) (λ new. (refl, may, other new, not_0, told, fits))

unlinking_keeps : (past : List Event) (r : AvlRemove) (f : Field) (x : ℕ) (o : Option ℕ) → node_at x ≡ o → IsLink f
    → IsToldLink past r.walk.node f x → HasComeBelow past r.walk → Fits r.walk.above.node
    → RemoveKeeps past (unlinking r o)
unlinking_keeps past r f x None named link told below fits = removal_lawful past r Target None (below, fits) tt
unlinking_keeps past r f x (Some n) named link told below fits =
    let parts : (x ≡ n) × (n ≢ 0) = node_at-some x n named in
    visits_heir_keeps past r Target n (r.walk.node ∷ r.walk.above.node ∷ [])
    (λ new. let rest : (n ≢ r.walk.node) × (has n (r.walk.above.node ∷ []) ≡ false) = among_not n r.walk.node
    (r.walk.above.node ∷ []) new in
    (rest.0, (among_not n r.walk.above.node [] rest.1).0))
    (below, fits) parts.1 (was_told-seen r.walk.node f n past link (told.seen ∙ ap Some parts.0))
    (named_small x n named told.small)

lifting_keeps : (past : List Event) (r : AvlRemove) (x : ℕ) (o : Option ℕ) → node_at x ≡ o
    → IsToldLink past r.next.node RightLink x → MayLeave past r.walk r.value r.next Successor
    → RemoveKeeps past (lifting r o)
lifting_keeps past r x None named told may = removal_lawful past r Successor None may tt
lifting_keeps past r x (Some n) named told may =
    let parts : (x ≡ n) × (n ≢ 0) = node_at-some x n named in
    let q : ℕ = r.next.above.node in
    visits_heir_keeps past r Successor n (r.walk.node ∷ r.next.node ∷ q ∷ [])
    (λ new. let rest : (n ≢ r.walk.node) × (has n (r.next.node ∷ q ∷ []) ≡ false) = among_not n r.walk.node
    (r.next.node ∷ q ∷ []) new in
    let last : (n ≢ r.next.node) × (has n (q ∷ []) ≡ false) = among_not n r.next.node (q ∷ []) rest.1 in
    (rest.0, last.0, (among_not n q [] last.1).0))
    may parts.1 (was_told-seen r.next.node RightLink n past (inr (inl refl)) (told.seen ∙ ap Some parts.0))
    (named_small x n named told.small)

chosen_keeps : (past : List Event) (r : AvlRemove) (left right : Option ℕ) → HasComeBelow past r.walk
    → HasSmallNodes r.walk
    → IsToldTarget past r.walk r.value → IsToldLink past r.walk.node LeftLink r.left
    → IsToldLink past r.walk.node RightLink r.right → node_at r.left ≡ left → node_at r.right ≡ right
    → RemoveKeeps past (chosen r left right)
chosen_keeps past r None right below small target told_l told_r named_l named_r =
    unlinking_keeps past r RightLink r.right right named_r (inr (inl refl)) told_r below small.above
chosen_keeps past r (Some l) None below small target told_l told_r named_l named_r =
    unlinking_keeps past r LeftLink r.left (Some l) named_l (inl refl) told_l below small.above
chosen_keeps past r (Some l) (Some n) below small target told_l told_r named_l named_r =
    let parts : (r.right ≡ n) × (n ≢ 0) = node_at-some r.right n named_r in
    goes_below_keeps past r (record { node = r.walk.node; side = Right; version = r.walk.version }) r.walk.key n target
    below.come.seen below.come.small (told_r.seen ∙ ap Some parts.0) parts.1
    (named_small r.right n named_r told_r.small) small.node

following_keeps : (past : List Event) (r : AvlRemove) (x : ℕ) (o : Option ℕ) → NextStands past r.walk r.value r.next
    → Fits r.next.key → reads_since_visit past ≡ 2 → IsToldLink past r.next.node LeftLink x
    → node_at x ≡ o → RemoveKeeps past (following r o)
following_keeps past r x None h key two told named = ((refl, two), h, key)
following_keeps past r x (Some n) h key two told named =
    let parts : (x ≡ n) × (n ≢ 0) = node_at-some x n named in
    goes_below_keeps past r (record { node = r.next.node; side = Left; version = r.next.version }) r.next.key n
    h.target h.next.seen
    h.next.small (told.seen ∙ ap Some parts.0) parts.1 (named_small x n named told.small) h.small

walked_keeps : (past : List Event) (r : AvlRemove) (w : Walk) (s : Step) → StepStands past w s → HasSmallNodes w
    → RemoveKeeps past (remove_walked (in_phase r Walking) w s)
walked_keeps past r w (Visit n) h small = (h, small)
walked_keeps past r w (Read n f) h small = (h, small)
walked_keeps past r w (Here x) h small =
    let at : AvlRemove = in_phase r Walking in
    let one : reads_since_visit past ≡ 1 = h.2 in
    cond_both (x == w.key) (remove_reads (with_walk at w) ReadingLeft w.node LeftLink) (remove_passes at w x)
    (RemoveKeeps past)
    (λ same. (
      (refl, one),
      record { below = h.0; key = h.1 ∙ ap Some (eqb-true x w.key same) },
      small,
    ))
    (λ other. (goes_on past w x h.0.come (omega arith), record { node = small.node; above = small.above }))
walked_keeps past r w (Missing s link) h small = tt
walked_keeps past r w Astray h small = tt

walk_keeps : (past : List Event) (r : AvlRemove) (a : Ask) (t : Told) → IsWord t → Waits past r.walk a
    → HasSmallNodes r.walk → RemoveKeeps (learned a t past) (remove_told (in_phase r Walking) Walking t)
walk_keeps past r a t word h small = walked_keeps (learned a t past) r (walk_step r.walk t).0 (walk_step r.walk t).1
    (walk_stands past r.walk a t word h) (walk_keeps_small r.walk t word small)

-- what is told for the ask that it waits by
told_for : (past : List Event) (r : AvlRemove) (a b : Ask) (phase : RemovePhase) (t : Told) → a ≡ b
    → RemoveKeeps (learned b t past) (remove_told (in_phase r phase) phase t)
    → RemoveKeeps (learned a t past) (remove_told (in_phase r phase) phase t)
told_for past r a b phase t e h = subst (λ (x : Ask). RemoveKeeps (learned x t past) (remove_told (in_phase r phase)
    phase t)) (sym e) h

-- a link that was told stays told where another field is read
link_read : (past : List Event) (n : ℕ) (f g : Field) (x y : ℕ) → field_number g ≢ field_number f
    → IsToldLink past n f x → IsToldLink (found n g y ∷ past) n f x
link_read past n f g x y ne h = record { seen = number_seen-other n f g y past ne ∙ h.seen; small = h.small }

number_keeps : (past : List Event) (r : AvlRemove) (a : Ask) (phase : RemovePhase) (x : ℕ) → x < 2 ^ 62
    → RemoveStands past r a phase
    → RemoveKeeps (learned a (Number x) past) (remove_told (in_phase r phase) phase (Number x))
number_keeps past r a Walking x word h = walk_keeps past r a (Number x) word h.0 h.1
number_keeps past r a ReadingLeft x word h =
    let n : ℕ = r.walk.node in let one : reads_since_visit past ≡ 1 = h.0.1 in
    told_for past r a (AskRead n LeftLink) ReadingLeft (Number x) h.0.0 (
      (refl, omega arith),
      at_key_read past r.walk LeftLink x (λ e. absurd (omega arith)) h.1,
      h.2,
      record { seen = number_seen-here n LeftLink x past; small = word },
    )
number_keeps past r a ReadingRight x word h =
    let n : ℕ = r.walk.node in let two : reads_since_visit past ≡ 2 = h.0.1 in
    told_for past r a (AskRead n RightLink) ReadingRight (Number x) h.0.0 (
      (refl, omega arith),
      at_key_read past r.walk RightLink x (λ e. absurd (omega arith)) h.1,
      h.2,
      link_read past n LeftLink RightLink r.left x (λ e. absurd (omega arith)) h.3,
      record { seen = number_seen-here n RightLink x past; small = word },
    )
number_keeps past r a ReadingValue x word h =
    let n : ℕ = r.walk.node in
    let past1 : List Event = found n ValueField x ∷ past in
    let at : IsAtKey past1 r.walk = at_key_read past r.walk ValueField x (λ e. absurd (omega arith)) h.1 in
    told_for past r a (AskRead n ValueField) ReadingValue (Number x) h.0.0
    (chosen_keeps past1 (record (in_phase r ReadingValue) { value = x }) (node_at r.left) (node_at r.right) at.below
    h.2
    (record { come = at.below.come; key = at.key; old_value = number_seen-here n ValueField x past })
    (link_read past n LeftLink ValueField r.left x (λ e. absurd (omega arith)) h.3)
    (link_read past n RightLink ValueField r.right x (λ e. absurd (omega arith)) h.4) refl refl)
number_keeps past r a Visiting x word h = tt
number_keeps past r a ReadingNextKey x word h =
    let n : ℕ = r.next.node in let none : reads_since_visit past ≡ 0 = h.0.1 in
    told_for past r a (AskRead n KeyField) ReadingNextKey (Number x) h.0.0 (
      (refl, omega arith),
      stands_read past r.walk r.value r.next KeyField x h.1,
      word,
    )
number_keeps past r a ReadingNext x word h =
    let n : ℕ = r.next.node in
    let one : reads_since_visit past ≡ 1 = h.0.1 in
    told_for past r a (AskRead n LeftLink) ReadingNext (Number x) h.0.0
    (following_keeps (found n LeftLink x ∷ past) (in_phase r ReadingNext) x (node_at x)
    (stands_read past r.walk r.value r.next LeftLink x h.1) h.2 (omega arith)
    (record { seen = number_seen-here n LeftLink x past; small = word }) refl)
number_keeps past r a ReadingNextValue x word h =
    let n : ℕ = r.next.node in let two : reads_since_visit past ≡ 2 = h.0.1 in
    told_for past r a (AskRead n ValueField) ReadingNextValue (Number x) h.0.0 (
      (refl, omega arith),
      stands_read past r.walk r.value r.next ValueField x h.1,
      h.2,
      word,
    )
number_keeps past r a ReadingNextRight x word h =
    let n : ℕ = r.next.node in
    told_for past r a (AskRead n RightLink) ReadingNextRight (Number x) h.0.0
    (lifting_keeps (found n RightLink x ∷ past) (in_phase r ReadingNextRight) x (node_at x) refl
    (record { seen = number_seen-here n RightLink x past; small = word })
    (stands_read past r.walk r.value r.next RightLink x h.1, h.2, h.3))
number_keeps past r a (VisitingHeir leaving n) x word h = tt
number_keeps past r a (ReadingParent leaving n v) x word h =
    told_for past r a (AskRead n Parent) (ReadingParent leaving n v) (Number x) h.0.0
    (removal_lawful (found n Parent x ∷ past) (in_phase r (ReadingParent leaving n v)) leaving
    (Some (record { node = n; version = v; parent = x }))
    (may_leave_read past r.walk r.value r.next leaving n Parent x h.2 h.1)
    (h.2, h.5, h.3, h.4, number_seen-here n Parent x past))
number_keeps past r a Ended x word h = tt

version_keeps : (past : List Event) (r : AvlRemove) (a : Ask) (phase : RemovePhase) (v : ℕ) → v < 2 ^ 60
    → RemoveStands past r a phase
    → RemoveKeeps (learned a (Version v) past) (remove_told (in_phase r phase) phase (Version v))
version_keeps past r a Walking v word h = walk_keeps past r a (Version v) word h.0 h.1
version_keeps past r a ReadingLeft v word h = tt
version_keeps past r a ReadingRight v word h = tt
version_keeps past r a ReadingValue v word h = tt
version_keeps past r a Visiting v word h =
    let n : ℕ = r.next.node in
    told_for past r a (AskVisit n) Visiting (Version v) h.0 (
      (refl, refl),
      record {
        target = target_visit past r.walk r.value n v h.3 h.1;
        next = record {
          by_link = above_visit past r.next.above n n v h.2.apart h.2;
          seen = version_seen-here n v past;
          small = word;
          other = h.3;
        };
        small = h.5;
        small_above = h.6;
      },
    )
version_keeps past r a ReadingNextKey v word h = tt
version_keeps past r a ReadingNext v word h = tt
version_keeps past r a ReadingNextValue v word h = tt
version_keeps past r a ReadingNextRight v word h = tt
version_keeps past r a (VisitingHeir leaving n) v word h =
    told_for past r a (AskVisit n) (VisitingHeir leaving n) (Version v) h.0 (
      (refl, refl),
      may_leave_visit past r.walk r.value r.next leaving n v h.2 h.1,
      h.2,
      version_seen-here n v past,
      word,
      h.5,
    )
version_keeps past r a (ReadingParent leaving n w) v word h = tt
version_keeps past r a Ended v word h = tt

begin_keeps : (past : List Event) (r : AvlRemove) (a : Ask) (phase : RemovePhase) → RemoveStands past r a phase
    → RemoveKeeps (learned a Begin past) (remove_told (in_phase r phase) phase Begin)
begin_keeps past r a Walking h = walk_keeps past r a Begin tt h.0 h.1
begin_keeps past r a ReadingLeft h = tt
begin_keeps past r a ReadingRight h = tt
begin_keeps past r a ReadingValue h = tt
begin_keeps past r a Visiting h = tt
begin_keeps past r a ReadingNextKey h = tt
begin_keeps past r a ReadingNext h = tt
begin_keeps past r a ReadingNextValue h = tt
begin_keeps past r a ReadingNextRight h = tt
begin_keeps past r a (VisitingHeir leaving n) h = tt
begin_keeps past r a (ReadingParent leaving n v) h = tt
begin_keeps past r a Ended h = tt

remove_keeps : (past : List Event) (s : AvlRemove × Ask) (t : Told) → IsWord t → RemoveKeeps past s
    → RemoveKeeps (learned s.1 t past) (remove_moves s.0 t)
remove_keeps past s Begin word h = begin_keeps past s.0 s.1 s.0.phase h
remove_keeps past s (Version v) word h = version_keeps past s.0 s.1 s.0.phase v word h
remove_keeps past s (Number x) word h = number_keeps past s.0 s.1 s.0.phase x word h

-- What it asks is lawful.

remove_stands : (past : List Event) (r : AvlRemove) (a : Ask) (phase : RemovePhase) → RemoveStands past r a phase
    → IsLawfulAsk past a
remove_stands past r a Walking h = waits_lawful past r.walk a h.0
remove_stands past r a ReadingLeft h = waits_lawfully past a r.walk.node LeftLink 1 r.walk.version h.0 (omega arith)
    h.1.below.come.seen
remove_stands past r a ReadingRight h = waits_lawfully past a r.walk.node RightLink 2 r.walk.version h.0 (omega arith)
    h.1.below.come.seen
remove_stands past r a ReadingValue h = waits_lawfully past a r.walk.node ValueField 3 r.walk.version h.0 (omega arith)
    h.1.below.come.seen
remove_stands past r a Visiting h =
    subst (IsLawfulAsk past) (sym h.0) (inr (
      h.4,
      was_told-seen r.next.above.node (link_of r.next.above.side)
          r.next.node past (side_is_link r.next.above.side) h.2.link,
    ))
remove_stands past r a ReadingNextKey h = waits_lawfully past a r.next.node KeyField 0 r.next.version h.0 (omega arith)
    h.1.next.seen
remove_stands past r a ReadingNext h = waits_lawfully past a r.next.node LeftLink 1 r.next.version h.0 (omega arith)
    h.1.next.seen
remove_stands past r a ReadingNextValue h = waits_lawfully past a r.next.node ValueField 2 r.next.version h.0
    (omega arith) h.1.next.seen
remove_stands past r a ReadingNextRight h = waits_lawfully past a r.next.node RightLink 3 r.next.version h.0
    (omega arith) h.1.next.seen
remove_stands past r a (VisitingHeir leaving n) h = subst (IsLawfulAsk past) (sym h.0) (inr (h.3, h.4))
remove_stands past r a (ReadingParent leaving n v) h = waits_lawfully past a n Parent 0 v h.0 (omega arith) h.3
remove_stands past r a Ended h = h

pub remove_lawful : IsLawful remove_of remove_moves IsKey
remove_lawful = record {
  first = λ k key. refl;
  asks = λ k ts key words.
      let s : AvlRemove × Ask = reached remove_of remove_moves k ts in
      remove_stands (learned_along remove_moves [] (remove_moves (remove_of k) Begin) ts) s.0 s.1 s.0.phase
      (kept_along remove_moves RemoveKeeps remove_keeps ts [] (remove_moves (remove_of k) Begin) words
      ((refl, refl, inl refl), record { node = omega arith; above = omega arith }));
}
