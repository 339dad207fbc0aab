-- What a remove keeps whatever it is told.
use Rattle.std.proofs.Common.{◌≡◌, ◌≢◌, ℕ, ◌^◌, ◌<◌, ◌==◌, inl, inr, false, List}
use Rattle.std.proofs.Common.{[], ◌∷◌, ◌++◌, Option, Some, None, refl, sym, ap, ◌∙◌, subst, arith}
use Rattle.std.proofs.lemmas.Bool.{eqb-true, eqb-false, cond_both}
use Rattle.pc_model.specs.declared.cell.Field.{Field}
use Rattle.pc_model.specs.declared.cell.Field.TheVariants.{Key as KeyField, Value as ValueField, Left as LeftLink}
use Rattle.pc_model.specs.declared.cell.Field.TheVariants.{Right as RightLink}
use Rattle.pc_model.specs.declared.cell.Side.TheVariants.{Left, Right}
use Rattle.pc_model.specs.Map.{IsKey}
use Rattle.pc_model.specs.Cells.{field_number, node_at}
use Rattle.pc_model.specs.Debts.{has}
use Rattle.pc_model.specs.Sides.{link_of}
use Rattle.pc_model.proofs.Links.{node_at-some}
use Rattle.pc_plan.specs.declared.plan.Ask.{Ask}
use Rattle.pc_plan.specs.declared.plan.Ask.TheVariants.{Visit as AskVisit, Read as AskRead}
use Rattle.pc_plan.specs.declared.plan.Told.{Told}
use Rattle.pc_plan.specs.declared.plan.Told.TheVariants.{Begin, Version, Number}
use Rattle.pc_plan.specs.declared.walk.Above.{Above}
use Rattle.pc_plan.specs.declared.walk.Walk.{Walk}
use Rattle.pc_plan.specs.declared.walk.Step.{Step}
use Rattle.pc_plan.specs.declared.walk.Step.TheVariants.{Visit, Read, Here, Missing, Astray}
use Rattle.pc_plan.specs.NodeChanges.{NodeChange, planned_by}
use Rattle.pc_plan.specs.Traces.{Event, visited, found, learned, learned_along, version_seen, number_seen}
use Rattle.pc_plan.specs.Traces.{reads_since_visit}
use Rattle.pc_plan.specs.Runs.{reached}
use Rattle.pc_plan.specs.Lawful.{IsWord, IsLawfulAsk, IsLawfulChange, IsLawful}
use Rattle.pc_plan.specs.Walks.{on_way, way, walk_step}
use Rattle.pc_plan.proofs.Learning.{kept_along, is_some-seen, version_seen-here, version_seen-else, number_seen-here}
use Rattle.pc_plan.proofs.Learning.{number_seen-visit, number_seen-else, number_seen-other, side_is_link}
use Rattle.pc_plan.proofs.Learning.{was_told-seen}
use Rattle.pc_plan.proofs.NodeWords.{not_among, among_not}
use Rattle.pc_plan.proofs.LawfulNodes.{lawful_by_nodes}
use Rattle.pc_plan.proofs.WalkLawful.{HasCome, HasComeBelow, ToldAbove, StepStands, Waits, walk_stands, waits_lawful}
use Rattle.pc_plan.proofs.WalkLawful.{goes_on, above_visit, above_read, come_read, below_read}
use Rattle.pc_bst.specs.declared.remove.RemovePhase.{RemovePhase}
use Rattle.pc_bst.specs.declared.remove.RemovePhase.TheVariants.{Walking, ReadingLeft, ReadingRight, ReadingValue}
use Rattle.pc_bst.specs.declared.remove.RemovePhase.TheVariants.{Visiting, ReadingNext, ReadingNextKey}
use Rattle.pc_bst.specs.declared.remove.RemovePhase.TheVariants.{ReadingNextValue, ReadingNextRight, Ended}
use Rattle.pc_bst.specs.declared.remove.BstRemove.{BstRemove}
use Rattle.pc_bst.specs.PutEnds.{link_field}
use Rattle.pc_bst.specs.RemoveEnds.{lifted_fields_differ}
use Rattle.pc_bst.specs.Removes.{remove_of, in_phase, with_walk, remove_reads, remove_gives_up, unlinked}
use Rattle.pc_bst.specs.Removes.{lifted_fields, relinked, lifted, visiting_below, going_below, chosen}
use Rattle.pc_bst.specs.Removes.{following, remove_walked, remove_told, remove_moves}

-- the walk is at the node with the key, and was told of it
pub record IsAtKey (past : List Event) (w : Walk) : Type 0 where
  pub below : HasComeBelow past w
  pub key : number_seen w.node KeyField past ≡ Some w.key

-- what a remove keeps of that node, with its value, once it looks for the successor
pub record IsToldTarget (past : List Event) (w : Walk) (value : ℕ) : Type 0 where
  pub come : HasCome past w
  pub key : number_seen w.node KeyField past ≡ Some w.key
  pub old_value : number_seen w.node ValueField past ≡ Some value

-- a node on the way from the target to the successor was visited, by a link of the node above it
pub record IsToldNext (past : List Event) (target node version : ℕ) (above : Above) : Type 0 where
  pub by_link : ToldAbove past above node
  pub seen : version_seen node past ≡ Some version
  pub small : version < 2 ^ 60
  pub other : node ≢ target

-- a number that fits
abbrev pub Fits : ℕ → Type 0
Fits x = x < 2 ^ 62

-- it waits for the answer to a read of a node, after so many reads of it
abbrev pub WaitsFor : List Event → Ask → ℕ → Field → ℕ → Type 0
WaitsFor past a n f reads = (a ≡ AskRead n f) × (reads_since_visit past ≡ reads)

abbrev NextStands : List Event → BstRemove → Type 0
NextStands past r = IsToldTarget past r.walk r.value × IsToldNext past r.walk.node r.next.node r.next.version
    r.next.above

abbrev RemoveStands : List Event → BstRemove → Ask → RemovePhase → Type 0
RemoveStands past r a Walking = Waits past r.walk a
RemoveStands past r a ReadingLeft = WaitsFor past a r.walk.node LeftLink 1 × IsAtKey past r.walk
RemoveStands past r a ReadingRight = WaitsFor past a r.walk.node RightLink 2 × IsAtKey past r.walk × Fits r.left
RemoveStands past r a ReadingValue = WaitsFor past a r.walk.node ValueField 3 × IsAtKey past r.walk × Fits r.left
    × Fits r.right
    × (number_seen r.walk.node RightLink past ≡ Some r.right)
RemoveStands past r a Visiting = (a ≡ AskVisit r.next.node) × IsToldTarget past r.walk r.value × ToldAbove past
    r.next.above r.next.node
    × (r.next.node ≢ r.walk.node) × (r.next.node ≢ 0)
RemoveStands past r a ReadingNext = WaitsFor past a r.next.node LeftLink 0 × NextStands past r
RemoveStands past r a ReadingNextKey = WaitsFor past a r.next.node KeyField 1 × NextStands past r
RemoveStands past r a ReadingNextValue = WaitsFor past a r.next.node ValueField 2 × NextStands past r × Fits r.next.key
RemoveStands past r a ReadingNextRight = WaitsFor past a r.next.node RightLink 3 × NextStands past r × Fits r.next.key
    × Fits r.next.value
RemoveStands past r a Ended = IsLawfulAsk past a

abbrev RemoveKeeps : List Event → BstRemove × Ask → Type 0
RemoveKeeps past s = RemoveStands past s.0 s.1 s.0.phase

-- What stays told

pub at_key_read : (past : List Event) (w : Walk) (f : Field) (x : ℕ) → field_number f ≢ 1 → IsAtKey past w
    → IsAtKey (found w.node f x ∷ past) w
at_key_read past w f x ne h = record {
  below = below_read past w f x h.below;
  key = number_seen-other w.node KeyField f
      x past ne ∙ h.key;
}

pub target_read : (past : List Event) (w : Walk) (value m : ℕ) (f : Field) (x : ℕ) → m ≢ w.node
    → IsToldTarget past w value → IsToldTarget (found m f x ∷ past) w value
target_read past w value m f x ne h = record {
  come = come_read past w m f x h.come;
  key = number_seen-else w.node KeyField m f x past ne ∙ h.key;
  old_value = number_seen-else w.node ValueField m f x past ne ∙ h.old_value;
}

pub target_visit : (past : List Event) (w : Walk) (value m v : ℕ) → m ≢ w.node → IsToldTarget past w value
    → IsToldTarget (visited m v ∷ past) w value
target_visit past w value m v ne h = record {
  come = record { seen = version_seen-else w.node m v past ne ∙ h.come.seen; small = h.come.small };
  key = number_seen-visit w.node KeyField m v past ne ∙ h.key;
  old_value = number_seen-visit w.node ValueField m v past ne ∙ h.old_value;
}

pub next_read : (past : List Event) (target node version : ℕ) (above : Above) (f : Field) (x : ℕ)
    → IsToldNext past target node version above
    → IsToldNext (found node f x ∷ past) target node version above
next_read past target node version above f x h = record {
  by_link = above_read past above node node f x h.by_link.apart h.by_link;
  seen = h.seen;
  small = h.small;
  other = h.other;
}

stands_read : (past : List Event) (r : BstRemove) (f : Field) (x : ℕ) → NextStands past r
    → NextStands (found r.next.node f x ∷ past) r
stands_read past r f x h = (
  target_read past r.walk r.value r.next.node f x h.1.other h.0,
  next_read past r.walk.node r.next.node
      r.next.version r.next.above f x h.1,
)

-- The two exchanges

unlink_lawful : (past : List Event) (r : BstRemove) (child : ℕ) → HasComeBelow past r.walk → Fits child
    → IsLawfulChange past (planned_by (unlinked r child))
unlink_lawful past r child h fits = lawful_by_nodes past (unlinked r child) (record {
  some = λ e. absurd (cc);
  few = omega arith;
  nodes = (
    record {
      seen = h.above.seen;
      small = h.above.small;
      told = ((h.above.link, fits, λ e. absurd (cc)), tt);
      fields = (link_field r.walk.above.side, tt);
    },
    tt,
  );
  mark = (h.come.seen, h.come.small);
  different = (not_among r.walk.above.node r.walk.node [] (λ e. h.above.apart (sym e)) refl, (refl, tt));
  fresh = tt;
  few_charges = omega arith;
})

lift_lawful : (past : List Event) (r : BstRemove) (right : ℕ) → NextStands past r → Fits r.next.key → Fits r.next.value
    → Fits right
    → IsLawfulChange past (planned_by (lifted r right))
lift_lawful past r right h key value fits =
    let t : ℕ = r.walk.node in
    let q : ℕ = r.next.above.node in
    let m : ℕ = r.next.node in
    let one : List NodeChange = record {
      node = t;
      version = r.walk.version;
      fields = lifted_fields r ++ relinked r
          right;
    } ∷ [] in
    let two : List NodeChange = record { node = t; version = r.walk.version; fields = lifted_fields r }
    ∷ record { node = q; version = r.next.above.version; fields = relinked r right } ∷ [] in
    let By : List NodeChange → Type 0 = λ nodes. IsLawfulChange past
    (planned_by (record (lifted r right) { nodes = nodes })) in
    let not_t : t ≢ m = λ e. h.1.other (sym e) in
    cond_both (q == t) one two By
    (λ same. let e : q ≡ t = eqb-true q t same in
    let link : number_seen t (link_of r.next.above.side) past ≡ Some m = subst (λ (x : ℕ). number_seen x
    (link_of r.next.above.side) past ≡ Some m) e h.1.by_link.link in
    lawful_by_nodes past (record (lifted r right) { nodes = one }) (record {
      some = λ e. absurd (cc);
      few = omega arith;
      nodes = (
        record {
          seen = h.0.come.seen;
          small = h.0.come.small;
          told = (
            (h.0.key, key, λ e. absurd (cc)),
            (
              (h.0.old_value, value, λ e. absurd (cc)),
              ((link, fits, λ e. absurd (cc)), tt),
            ),
          );
          fields = lifted_fields_differ r.next.above.side r.walk.key r.next.key r.value r.next.value m right;
        },
        tt,
      );
      mark = (h.1.seen, h.1.small);
      different = (not_among t m [] not_t refl, (refl, tt));
      fresh = tt;
      few_charges = omega arith;
    }))
    (λ differs. let other : q ≢ t = eqb-false q t differs in
    lawful_by_nodes past (record (lifted r right) { nodes = two }) (record {
      some = λ e. absurd (cc);
      few = omega arith;
      nodes = (
        record {
          seen = h.0.come.seen;
          small = h.0.come.small;
          told = ((h.0.key, key, λ e. absurd (cc)), ((h.0.old_value, value, λ e. absurd (cc)), tt));
          fields = (refl, (refl, tt));
        },
        (
          record {
            seen = h.1.by_link.seen;
            small = h.1.by_link.small;
            told = ((h.1.by_link.link, fits, λ e. absurd (cc)), tt);
            fields = (link_field r.next.above.side, tt);
          },
          tt,
        ),
      );
      mark = (h.1.seen, h.1.small);
      different = (
        not_among t q (m ∷ []) (λ e. other (sym e)) (not_among t m [] not_t refl),
        (
          not_among q m []
              (λ e. h.1.by_link.apart (sym e)) refl,
          (refl, tt),
        ),
      );
      fresh = tt;
      few_charges = omega arith;
    }))

-- The steps

-- a visit below a node that was visited, by a link that it was told of
goes_below_keeps : (past : List Event) (r : BstRemove) (a : Above) (n : ℕ) → IsToldTarget past r.walk r.value
    → version_seen a.node past ≡ Some a.version → a.version < 2 ^ 60
    → number_seen a.node (link_of a.side) past ≡ Some n → n ≢ 0 → RemoveKeeps past (going_below r a n)
goes_below_keeps past r a n target seen small link not_0 =
    cond_both (has n (r.walk.node ∷ a.node ∷ [])) (remove_gives_up r) (visiting_below r a n, AskVisit n)
    (RemoveKeeps past) (λ _. tt)
    (λ new. let other : (n ≢ r.walk.node) × (has n (a.node ∷ []) ≡ false) = among_not n r.walk.node (a.node ∷ [])
    new in
    let apart : n ≢ a.node = (among_not n a.node [] other.1).0 in
    (refl, target, record { seen = seen; small = small; link = link; apart = apart }, other.0, not_0))

chosen_keeps : (past : List Event) (r : BstRemove) (left right : Option ℕ) → HasComeBelow past r.walk
    → IsToldTarget past r.walk r.value → Fits r.left → Fits r.right
    → number_seen r.walk.node RightLink past ≡ Some r.right → node_at r.right ≡ right
    → RemoveKeeps past (chosen r left right)
chosen_keeps past r None right below target fits_l fits_r seen named = unlink_lawful past r r.right below fits_r
chosen_keeps past r (Some l) None below target fits_l fits_r seen named = unlink_lawful past r r.left below fits_l
chosen_keeps past r (Some l) (Some n) below target fits_l fits_r seen named =
    let parts : (r.right ≡ n) × (n ≢ 0) = node_at-some r.right n named in
    goes_below_keeps past r (record { node = r.walk.node; side = Right; version = r.walk.version }) n target
    below.come.seen below.come.small (seen ∙ ap Some parts.0) parts.1

following_keeps : (past : List Event) (r : BstRemove) (left : ℕ) (o : Option ℕ) → NextStands past r
    → reads_since_visit past ≡ 1 → number_seen r.next.node LeftLink past ≡ Some left
    → node_at left ≡ o → RemoveKeeps past (following r o)
following_keeps past r left None h one seen named = ((refl, one), h)
following_keeps past r left (Some n) h one seen named =
    let parts : (left ≡ n) × (n ≢ 0) = node_at-some left n named in
    goes_below_keeps past r (record { node = r.next.node; side = Left; version = r.next.version }) n h.0 h.1.seen
    h.1.small (seen ∙ ap Some parts.0) parts.1

walked_keeps : (past : List Event) (r : BstRemove) (w : Walk) (s : Step) → StepStands past w s
    → RemoveKeeps past (remove_walked (in_phase r Walking) w s)
walked_keeps past r w (Visit n) h = h
walked_keeps past r w (Read n f) h = h
walked_keeps past r w (Here x) h =
    let at : BstRemove = with_walk (in_phase r Walking) w in
    let reading : BstRemove × Ask = remove_reads at ReadingLeft w.node LeftLink in
    let going : BstRemove × Ask = (with_walk (in_phase r Walking) (on_way w x), AskRead w.node (way w x)) in
    let one : reads_since_visit past ≡ 1 = h.2 in
    cond_both (x == w.key) reading going (RemoveKeeps past)
    (λ same. ((refl, one), record { below = h.0; key = h.1 ∙ ap Some (eqb-true x w.key same) }))
    (λ _. goes_on past w x h.0.come (omega arith))
walked_keeps past r w (Missing s link) h = tt
walked_keeps past r w Astray h = tt

-- what is told for the ask that it waits by
told_for : (past : List Event) (r : BstRemove) (a b : Ask) (phase : RemovePhase) (t : Told) → a ≡ b
    → RemoveKeeps (learned b t past) (remove_told (in_phase r phase) phase t)
    → RemoveKeeps (learned a t past) (remove_told (in_phase r phase) phase t)
told_for past r a b phase t e h = subst (λ (x : Ask). RemoveKeeps (learned x t past) (remove_told (in_phase r phase)
    phase t)) (sym e) h

number_keeps : (past : List Event) (r : BstRemove) (a : Ask) (phase : RemovePhase) (x : ℕ) → x < 2 ^ 62
    → RemoveStands past r a phase
    → RemoveKeeps (learned a (Number x) past) (remove_told (in_phase r phase) phase (Number x))
number_keeps past r a Walking x word h = walked_keeps (learned a (Number x) past) r (walk_step r.walk (Number x)).0
    (walk_step r.walk (Number x)).1 (walk_stands past r.walk a (Number x) word h)
number_keeps past r a ReadingLeft x word h =
    let n : ℕ = r.walk.node in let one : reads_since_visit past ≡ 1 = h.0.1 in
    told_for past r a (AskRead n LeftLink) ReadingLeft (Number x) h.0.0
    ((refl, omega arith), at_key_read past r.walk LeftLink x (λ e. absurd (omega arith)) h.1, word)
number_keeps past r a ReadingRight x word h =
    let n : ℕ = r.walk.node in let two : reads_since_visit past ≡ 2 = h.0.1 in
    told_for past r a (AskRead n RightLink) ReadingRight (Number x) h.0.0 (
      (refl, omega arith),
      at_key_read past r.walk RightLink x (λ e. absurd (omega arith)) h.1,
      h.2,
      word,
      number_seen-here n RightLink x past,
    )
number_keeps past r a ReadingValue x word h =
    let n : ℕ = r.walk.node in
    let past1 : List Event = found n ValueField x ∷ past in
    let at : IsAtKey past1 r.walk = at_key_read past r.walk ValueField x (λ e. absurd (omega arith)) h.1 in
    told_for past r a (AskRead n ValueField) ReadingValue (Number x) h.0.0
    (chosen_keeps past1 (record (in_phase r ReadingValue) { value = x }) (node_at r.left) (node_at r.right) at.below
    (record { come = at.below.come; key = at.key; old_value = number_seen-here n ValueField x past }) h.2 h.3
    (number_seen-other n RightLink ValueField x past (λ e. absurd (omega arith)) ∙ h.4) refl)
number_keeps past r a Visiting x word h = tt
number_keeps past r a ReadingNext x word h =
    let n : ℕ = r.next.node in
    let past1 : List Event = found n LeftLink x ∷ past in
    let none : reads_since_visit past ≡ 0 = h.0.1 in
    told_for past r a (AskRead n LeftLink) ReadingNext (Number x) h.0.0
    (following_keeps past1 (in_phase r ReadingNext) x (node_at x) (stands_read past r LeftLink x h.1) (omega arith)
    (number_seen-here n LeftLink x past) refl)
number_keeps past r a ReadingNextKey x word h =
    let n : ℕ = r.next.node in let one : reads_since_visit past ≡ 1 = h.0.1 in
    told_for past r a (AskRead n KeyField) ReadingNextKey (Number x) h.0.0 (
      (refl, omega arith),
      stands_read past r
          KeyField x h.1,
      word,
    )
number_keeps past r a ReadingNextValue x word h =
    let n : ℕ = r.next.node in let two : reads_since_visit past ≡ 2 = h.0.1 in
    told_for past r a (AskRead n ValueField) ReadingNextValue (Number x) h.0.0 (
      (refl, omega arith),
      stands_read past r
          ValueField x h.1,
      h.2,
      word,
    )
number_keeps past r a ReadingNextRight x word h =
    let n : ℕ = r.next.node in
    told_for past r a (AskRead n RightLink) ReadingNextRight (Number x) h.0.0 (lift_lawful (found n RightLink x ∷ past)
    r x (stands_read past r RightLink x h.1) h.2 h.3 word)
number_keeps past r a Ended x word h = tt

version_keeps : (past : List Event) (r : BstRemove) (a : Ask) (phase : RemovePhase) (v : ℕ) → v < 2 ^ 60
    → RemoveStands past r a phase
    → RemoveKeeps (learned a (Version v) past) (remove_told (in_phase r phase) phase (Version v))
version_keeps past r a Walking v word h = walked_keeps (learned a (Version v) past) r (walk_step r.walk (Version v)).0
    (walk_step r.walk (Version v)).1 (walk_stands past r.walk a (Version v) word h)
version_keeps past r a ReadingLeft v word h = tt
version_keeps past r a ReadingRight v word h = tt
version_keeps past r a ReadingValue v word h = tt
version_keeps past r a Visiting v word h =
    let n : ℕ = r.next.node in
    told_for past r a (AskVisit n) Visiting (Version v) h.0 (
      (refl, refl),
      (
        target_visit past r.walk r.value n v h.3 h.1,
        record {
          by_link = above_visit past r.next.above n n v h.2.apart h.2;
          seen = version_seen-here n v past;
          small = word;
          other = h.3;
        },
      ),
    )
version_keeps past r a ReadingNext v word h = tt
version_keeps past r a ReadingNextKey v word h = tt
version_keeps past r a ReadingNextValue v word h = tt
version_keeps past r a ReadingNextRight v word h = tt
version_keeps past r a Ended v word h = tt

begin_keeps : (past : List Event) (r : BstRemove) (a : Ask) (phase : RemovePhase) → RemoveStands past r a phase
    → RemoveKeeps (learned a Begin past) (remove_told (in_phase r phase) phase Begin)
begin_keeps past r a Walking h = walked_keeps (learned a Begin past) r (walk_step r.walk Begin).0
    (walk_step r.walk Begin).1 (walk_stands past r.walk a Begin tt h)
begin_keeps past r a ReadingLeft h = tt
begin_keeps past r a ReadingRight h = tt
begin_keeps past r a ReadingValue h = tt
begin_keeps past r a Visiting h = tt
begin_keeps past r a ReadingNext h = tt
begin_keeps past r a ReadingNextKey h = tt
begin_keeps past r a ReadingNextValue h = tt
begin_keeps past r a ReadingNextRight h = tt
begin_keeps past r a Ended h = tt

remove_keeps : (past : List Event) (s : BstRemove × Ask) (t : Told) → IsWord t → RemoveKeeps past s
    → RemoveKeeps (learned s.1 t past) (remove_moves s.0 t)
remove_keeps past s Begin word h = begin_keeps past s.0 s.1 s.0.phase h
remove_keeps past s (Version v) word h = version_keeps past s.0 s.1 s.0.phase v word h
remove_keeps past s (Number x) word h = number_keeps past s.0 s.1 s.0.phase x word h

-- What it asks is lawful.

pub waits_lawfully : (past : List Event) (a : Ask) (n : ℕ) (f : Field) (reads v : ℕ) → WaitsFor past a n f reads
    → reads < 8 → version_seen n past ≡ Some v → IsLawfulAsk past a
waits_lawfully past a n f reads v waits few seen =
    let same : reads_since_visit past ≡ reads = waits.1 in
    subst (IsLawfulAsk past) (sym waits.0) (is_some-seen n v past seen, omega arith)

remove_stands : (past : List Event) (r : BstRemove) (a : Ask) (phase : RemovePhase) → RemoveStands past r a phase
    → IsLawfulAsk past a
remove_stands past r a Walking h = waits_lawful past r.walk a h
remove_stands past r a ReadingLeft h = waits_lawfully past a r.walk.node LeftLink 1 r.walk.version h.0 (omega arith)
    h.1.below.come.seen
remove_stands past r a ReadingRight h = waits_lawfully past a r.walk.node RightLink 2 r.walk.version h.0 (omega arith)
    h.1.below.come.seen
remove_stands past r a ReadingValue h = waits_lawfully past a r.walk.node ValueField 3 r.walk.version h.0 (omega arith)
    h.1.below.come.seen
remove_stands past r a Visiting h =
    subst (IsLawfulAsk past) (sym h.0) (inr (
      h.4,
      was_told-seen r.next.above.node (link_of r.next.above.side)
          r.next.node past (side_is_link r.next.above.side) h.2.link,
    ))
remove_stands past r a ReadingNext h = waits_lawfully past a r.next.node LeftLink 0 r.next.version h.0 (omega arith)
    h.1.1.seen
remove_stands past r a ReadingNextKey h = waits_lawfully past a r.next.node KeyField 1 r.next.version h.0 (omega arith)
    h.1.1.seen
remove_stands past r a ReadingNextValue h = waits_lawfully past a r.next.node ValueField 2 r.next.version h.0
    (omega arith) h.1.1.seen
remove_stands past r a ReadingNextRight h = waits_lawfully past a r.next.node RightLink 3 r.next.version h.0
    (omega arith) h.1.1.seen
remove_stands past r a Ended h = h

pub remove_lawful : IsLawful remove_of remove_moves IsKey
remove_lawful = record {
  first = λ k key. refl;
  asks = λ k ts key words.
      let s : BstRemove × Ask = reached remove_of remove_moves k ts in
      remove_stands (learned_along remove_moves [] (remove_moves (remove_of k) Begin) ts) s.0 s.1 s.0.phase
      (kept_along remove_moves RemoveKeeps remove_keeps ts [] (remove_moves (remove_of k) Begin) words
      (refl, refl, inl refl));
}
