-- What a repair knows whatever it is told: of the node that it looks at, and of the nodes that it has met,
-- each of them another node than the others. What it is told of one node leaves what it knows of the others.
use Rattle.std.proofs.Common.{◌≡◌, ◌≢◌, ℕ, suc, ◌^◌, ◌<◌, ◌⊎◌, inl, inr, ⊎_elim, false, List, [], ◌∷◌, Some, refl}
use Rattle.std.proofs.Common.{sym, ap, ◌∙◌, subst, arith}
use Rattle.pc_model.specs.declared.cell.Field.{Field}
use Rattle.pc_model.specs.declared.cell.Field.TheVariants.{Key as KeyField, Left as LeftLink, Right as RightLink}
use Rattle.pc_model.specs.declared.cell.Field.TheVariants.{Parent as ParentField, Height as HeightField}
use Rattle.pc_model.specs.declared.cell.Side.{Side}
use Rattle.pc_model.specs.declared.cell.Side.TheVariants.{Left as OnLeft, Right as OnRight}
use Rattle.pc_model.specs.Cells.{field_number, node_at}
use Rattle.pc_model.specs.Debts.{has}
use Rattle.pc_model.specs.Sides.{link_of}
use Rattle.pc_model.proofs.Links.{node_at-some}
use Rattle.pc_plan.specs.declared.plan.Ask.{Ask}
use Rattle.pc_plan.specs.declared.plan.Ask.TheVariants.{Visit as AskVisit, Read as AskRead}
use Rattle.pc_plan.specs.declared.plan.Told.{Told}
use Rattle.pc_plan.specs.declared.plan.Told.TheVariants.{Begin, Version as VersionTold, Number}
use Rattle.pc_plan.specs.declared.walk.Above.{Above}
use Rattle.pc_plan.specs.Traces.{Event, found, learned, version_seen, number_seen}
use Rattle.pc_plan.specs.Lawful.{WasToldOf, IsWord, IsLawfulAsk}
use Rattle.pc_plan.proofs.Learning.{version_seen-here, version_seen-else, number_seen-here, number_seen-visit}
use Rattle.pc_plan.proofs.Learning.{number_seen-else, number_seen-other, side_is_link, was_told-seen}
use Rattle.pc_plan.proofs.NodeWords.{among_not}
use Rattle.pc_plan.proofs.WalkLawful.{ToldAbove}
use Rattle.pc_plan.proofs.WalkNodes.{named_small}
use Rattle.pc_bst.specs.RemoveLawful.{Fits, WaitsFor, waits_lawfully}
use Rattle.pc_avl.specs.declared.look.Look.{Look}
use Rattle.pc_avl.specs.declared.look.Looked.{Looked}
use Rattle.pc_avl.specs.declared.look.LookStep.{LookStep}
use Rattle.pc_avl.specs.declared.look.LookStep.TheVariants.{Read, Done, Astray}
use Rattle.pc_avl.specs.declared.look.Unread.{Unread}
use Rattle.pc_avl.specs.declared.look.Unread.TheVariants.{Version, Key, Left, Right, Parent, Height}
use Rattle.pc_avl.specs.declared.repair.Aim.TheVariants.{Exact}
use Rattle.pc_avl.specs.declared.repair.Place.{Place}
use Rattle.pc_avl.specs.declared.repair.Place.TheVariants.{Node, Left as LeftPlace, Right as RightPlace, Outer, Inner}
use Rattle.pc_avl.specs.declared.repair.Place.TheVariants.{Near, Far}
use Rattle.pc_avl.specs.declared.repair.Repair.{Repair}
use Rattle.pc_avl.specs.Looks.{missing, link_at, look_told}
use Rattle.pc_avl.specs.Repairs.{repair_of, at_place, placed, met}

-- What was told of one node

pub same_number : {l m : Looked} → l ≡ m → l.node ≡ m.node
same_number e = ap (λ (x : Looked). x.node) e

-- a node's number
pub record IsNumber (n : ℕ) : Type 0 where
  pub not_0 : n ≢ 0
  pub fits : Fits n

abbrev pub IsVisited : List Event → Looked → Type 0
IsVisited past l = (version_seen l.node past ≡ Some l.version) × (l.version < 2 ^ 60)

-- these fields of a node were told, with numbers that fit
abbrev pub AreRead : List Event → ℕ → List (Field × ℕ) → Type 0
AreRead past n [] = Unit {0}
AreRead past n (x ∷ xs) = ((number_seen n x.0 past ≡ Some x.1) × Fits x.1) × AreRead past n xs

-- what a look was told before it waits for this
abbrev pub read_before : Unread → Looked → List (Field × ℕ)
read_before Version l = []
read_before Key l = []
read_before Left l = []
read_before Right l = (LeftLink, l.left) ∷ []
read_before Parent l = (RightLink, l.right) ∷ (LeftLink, l.left) ∷ []
read_before Height l = (ParentField, l.parent) ∷ (RightLink, l.right) ∷ (LeftLink, l.left) ∷ []

-- and in the end
abbrev pub all_read : Looked → List (Field × ℕ)
all_read l = (HeightField, l.height) ∷ (ParentField, l.parent) ∷ (RightLink, l.right) ∷ (LeftLink, l.left) ∷ []

pub record IsTold (past : List Event) (l : Looked) : Type 0 where
  pub number : IsNumber l.node
  pub visited : IsVisited past l
  pub read : AreRead past l.node (all_read l)

abbrev pub IsMissingOrTold : List Event → Looked → Type 0
IsMissingOrTold past l = (l ≡ missing) ⊎ IsTold past l

pub told_number : (past : List Event) (l : Looked) → l.node ≢ 0 → IsMissingOrTold past l → IsTold past l
told_number past l not_0 h = ⊎_elim (λ none. absurd (not_0 (same_number none))) (λ told. told) h

pub link_told : (past : List Event) (l : Looked) (s : Side) → IsTold past l
    → (number_seen l.node (link_of s) past ≡ Some (link_at l s)) × Fits (link_at l s)
link_told past l OnLeft h = h.read.1.1.1.0
link_told past l OnRight h = h.read.1.1.0

pub parent_told : (past : List Event) (l : Looked) → IsTold past l
    → number_seen l.node ParentField past ≡ Some l.parent
parent_told past l h = h.read.1.0.0

pub height_told : (past : List Event) (l : Looked) → IsTold past l
    → number_seen l.node HeightField past ≡ Some l.height
height_told past l h = h.read.0.0

-- where a number is a link it names a node that was told of
abbrev pub IsToldLink : List Event → ℕ → Type 0
IsToldLink past x = (n : ℕ) → node_at x ≡ Some n → IsNumber n × WasToldOf n past

no_link : (s : Side) (n : ℕ) → node_at (link_at missing s) ≡ Some n → ⊥
no_link OnLeft n e = absurd (cc)
no_link OnRight n e = absurd (cc)

pub links_told : (past : List Event) (l : Looked) (s : Side) → IsMissingOrTold past l → IsToldLink past (link_at l s)
links_told past l s h n named = ⊎_elim
    (λ none. absurd (no_link s n (subst (λ (x : Looked). node_at (link_at x s) ≡ Some n) none named)))
    (λ told. let link : (number_seen l.node (link_of s) past ≡ Some (link_at l s)) × Fits (link_at l s)
    = link_told past l s told in
    let parts : (link_at l s ≡ n) × (n ≢ 0) = node_at-some (link_at l s) n named in (
      record { not_0 = parts.1; fits = named_small (link_at l s) n named link.1 },
      was_told-seen l.node (link_of s) n past (side_is_link s) (link.0 ∙ ap Some parts.0),
    )) h

-- What is told of one node leaves what is known of the others.

pub record KeepsOthers (n : ℕ) (past now : List Event) : Type 0 where
  pub version : (m : ℕ) → n ≢ m → version_seen m now ≡ version_seen m past
  pub number : (m : ℕ) (f : Field) → n ≢ m → number_seen m f now ≡ number_seen m f past

nothing_new : (n : ℕ) (past : List Event) → KeepsOthers n past past
nothing_new n past = record { version = λ m ne. refl; number = λ m f ne. refl }

visit_keeps : (n : ℕ) (t : Told) (past : List Event) → KeepsOthers n past (learned (AskVisit n) t past)
visit_keeps n Begin past = nothing_new n past
visit_keeps n (VersionTold v) past = record {
  version = λ m ne. version_seen-else m n v past ne;
  number = λ m f ne. number_seen-visit m f n v past ne;
}
visit_keeps n (Number x) past = nothing_new n past

read_keeps : (n : ℕ) (g : Field) (t : Told) (past : List Event) → KeepsOthers n past (learned (AskRead n g) t past)
read_keeps n g Begin past = nothing_new n past
read_keeps n g (VersionTold v) past = nothing_new n past
read_keeps n g (Number x) past = record {
  version = λ m ne. refl;
  number = λ m f ne. number_seen-else m f n g x past ne;
}

module _ (n : ℕ) (past now : List Event) (k : KeepsOthers n past now) where
  numbers_kept : (m : ℕ) (xs : List (Field × ℕ)) → n ≢ m → AreRead past m xs → AreRead now m xs
  numbers_kept m [] ne h = tt
  numbers_kept m (x ∷ xs) ne h = ((k.number m x.0 ne ∙ h.0.0, h.0.1), numbers_kept m xs ne h.1)

  pub told_kept : (l : Looked) → n ≢ l.node → IsTold past l → IsTold now l
  told_kept l ne h = record {
    number = h.number;
    visited = (k.version l.node ne ∙ h.visited.0, h.visited.1);
    read = numbers_kept l.node (all_read l) ne h.read;
  }

  pub above_kept : (a : Above) (m : ℕ) → n ≢ a.node → ToldAbove past a m → ToldAbove now a m
  above_kept a m ne h = record {
    seen = k.version a.node ne ∙ h.seen;
    small = h.small;
    link = k.number a.node (link_of a.side) ne ∙ h.link;
    apart = h.apart;
  }

-- The look at a node

abbrev IsReading : List Event → Ask → Look → Unread → Field → ℕ → Type 0
IsReading past a l u f reads = WaitsFor past a l.seen.node f reads × IsVisited past l.seen
    × AreRead past l.seen.node (read_before u l.seen)

-- a look waits for the answer to this ask, and was told what comes before it
abbrev pub IsLooking : List Event → Ask → Look → Unread → Type 0
IsLooking past a l Version = (a ≡ AskVisit l.seen.node) × IsLawfulAsk past (AskVisit l.seen.node)
IsLooking past a l Key = IsReading past a l Key KeyField 0
IsLooking past a l Left = IsReading past a l Left LeftLink 1
IsLooking past a l Right = IsReading past a l Right RightLink 2
IsLooking past a l Parent = IsReading past a l Parent ParentField 3
IsLooking past a l Height = IsReading past a l Height HeightField 4

-- what holds where a look has made a step
abbrev pub LookStands : List Event → Look → LookStep → Type 0
LookStands past l (Read f) = IsLooking past (AskRead l.seen.node f) l l.unread
LookStands past l Done = IsVisited past l.seen × AreRead past l.seen.node (all_read l.seen)
LookStands past l Astray = Unit {0}

abbrev numbers_in : List (Field × ℕ) → List ℕ
numbers_in [] = []
numbers_in (x ∷ xs) = field_number x.0 ∷ numbers_in xs

-- what was read stays told where another field is read
others_stay : (past : List Event) (n : ℕ) (f : Field) (x : ℕ) (xs : List (Field × ℕ))
    → has (field_number f) (numbers_in xs) ≡ false → AreRead past n xs → AreRead (found n f x ∷ past) n xs
others_stay past n f x [] out h = tt
others_stay past n f x (y ∷ ys) out h =
    let parts : (field_number f ≢ field_number y.0) × (has (field_number f) (numbers_in ys) ≡ false) = among_not
    (field_number f) (field_number y.0) (numbers_in ys) out in
    ((number_seen-other n y.0 f x past parts.0 ∙ h.0.0, h.0.1), others_stay past n f x ys parts.1 h.1)

-- one field more is read
one_more : (past : List Event) (n : ℕ) (f : Field) (x : ℕ) (xs : List (Field × ℕ)) → Fits x
    → has (field_number f) (numbers_in xs) ≡ false → AreRead past n xs → AreRead (found n f x ∷ past) n ((f, x) ∷ xs)
one_more past n f x xs small out h = ((number_seen-here n f x past, small), others_stay past n f x xs out h)

-- told something, a look that waits makes a step that stands
pub look_stands : (past : List Event) (a : Ask) (l : Look) (u : Unread) (t : Told) → IsWord t → IsLooking past a l u
    → LookStands (learned a t past) (look_told l u t).0 (look_told l u t).1
look_stands past a l Version (VersionTold v) small h =
    let n : ℕ = l.seen.node in
    subst (λ (b : Ask). LookStands (learned b (VersionTold v) past) (look_told l Version (VersionTold v)).0 (Read
    KeyField)) (sym h.0) ((refl, refl), (version_seen-here n v past, small), tt)
look_stands past a l Key (Number x) small h =
    let n : ℕ = l.seen.node in
    subst (λ (b : Ask). LookStands (learned b (Number x) past) (look_told l Key (Number x)).0 (Read LeftLink))
    (sym h.0.0) ((refl, ap suc h.0.1), h.1, tt)
look_stands past a l Left (Number x) small h =
    let n : ℕ = l.seen.node in
    subst (λ (b : Ask). LookStands (learned b (Number x) past) (look_told l Left (Number x)).0 (Read RightLink))
    (sym h.0.0) ((refl, ap suc h.0.1), h.1, one_more past n LeftLink x [] small refl h.2)
look_stands past a l Right (Number x) small h =
    let n : ℕ = l.seen.node in
    subst (λ (b : Ask). LookStands (learned b (Number x) past) (look_told l Right (Number x)).0 (Read ParentField))
    (sym h.0.0) ((refl, ap suc h.0.1), h.1, one_more past n RightLink x (read_before Right l.seen) small refl h.2)
look_stands past a l Parent (Number x) small h =
    let n : ℕ = l.seen.node in
    subst (λ (b : Ask). LookStands (learned b (Number x) past) (look_told l Parent (Number x)).0 (Read HeightField))
    (sym h.0.0) ((refl, ap suc h.0.1), h.1, one_more past n ParentField x (read_before Parent l.seen) small refl h.2)
look_stands past a l Height (Number x) small h =
    let n : ℕ = l.seen.node in
    subst (λ (b : Ask). LookStands (learned b (Number x) past) (look_told l Height (Number x)).0 Done)
    (sym h.0.0) (h.1, one_more past n HeightField x (read_before Height l.seen) small refl h.2)
look_stands past a l u t small h = tt

-- it stays at its node, and is told of no other
pub look_stays : (l : Look) (u : Unread) (t : Told) → (look_told l u t).0.seen.node ≡ l.seen.node
look_stays l Version (VersionTold v) = refl
look_stays l Key (Number x) = refl
look_stays l Left (Number x) = refl
look_stays l Right (Number x) = refl
look_stays l Parent (Number x) = refl
look_stays l Height (Number x) = refl
look_stays l u t = refl

look_asks : (past : List Event) (a : Ask) (l : Look) (u : Unread) → IsLooking past a l u
    → (a ≡ AskVisit l.seen.node) ⊎ ((f : Field) × (a ≡ AskRead l.seen.node f))
look_asks past a l Version h = inl h.0
look_asks past a l Key h = inr (KeyField, h.0.0)
look_asks past a l Left h = inr (LeftLink, h.0.0)
look_asks past a l Right h = inr (RightLink, h.0.0)
look_asks past a l Parent h = inr (ParentField, h.0.0)
look_asks past a l Height h = inr (HeightField, h.0.0)

pub look_keeps : (past : List Event) (a : Ask) (l : Look) (u : Unread) (t : Told) → IsLooking past a l u
    → KeepsOthers l.seen.node past (learned a t past)
look_keeps past a l u t h =
    let n : ℕ = l.seen.node in
    let Keeps : Ask → Type 0 = λ b. KeepsOthers n past (learned b t past) in
    ⊎_elim (λ e. subst Keeps (sym e) (visit_keeps n t past)) (λ r. subst Keeps (sym r.1) (read_keeps n r.0 t past))
    (look_asks past a l u h)

pub look_lawful : (past : List Event) (a : Ask) (l : Look) (u : Unread) → IsLooking past a l u → IsLawfulAsk past a
look_lawful past a l Version h = subst (IsLawfulAsk past) (sym h.0) h.1
look_lawful past a l Key h = waits_lawfully past a l.seen.node KeyField 0 l.seen.version h.0 (omega arith) h.1.0
look_lawful past a l Left h = waits_lawfully past a l.seen.node LeftLink 1 l.seen.version h.0 (omega arith) h.1.0
look_lawful past a l Right h = waits_lawfully past a l.seen.node RightLink 2 l.seen.version h.0 (omega arith) h.1.0
look_lawful past a l Parent h = waits_lawfully past a l.seen.node ParentField 3 l.seen.version h.0 (omega arith) h.1.0
look_lawful past a l Height h = waits_lawfully past a l.seen.node HeightField 4 l.seen.version h.0 (omega arith) h.1.0

-- The nodes that were met

-- what stands at the places, and all else as at first
abbrev pub places : Repair → Repair
places r = record (repair_of Exact 0) {
  node = r.node;
  left = r.left;
  right = r.right;
  outer = r.outer;
  inner = r.inner;
  near = r.near;
  far = r.far;
}

-- what holds at each place
abbrev pub AtEach : Repair → (Looked → Type 0) → Type 0
AtEach r P = P r.node × P r.left × P r.right × P r.outer × P r.inner × P r.near × P r.far

pub at_each : (r : Repair) (P : Looked → Type 0) → AtEach r P → (p : Place) → P (at_place r p)
at_each r P h Node = h.0
at_each r P h LeftPlace = h.1
at_each r P h RightPlace = h.2
at_each r P h Outer = h.3
at_each r P h Inner = h.4
at_each r P h Near = h.5
at_each r P h Far = h.6

placed_at : (r : Repair) (p q : Place) (l : Looked) → ((p ≡ q) × (at_place (placed r p l) q ≡ l)) ⊎ ((p ≢ q)
    × (at_place (placed r p l) q ≡ at_place r q))
placed_at r Node Node l = inl (refl, refl)
placed_at r LeftPlace LeftPlace l = inl (refl, refl)
placed_at r RightPlace RightPlace l = inl (refl, refl)
placed_at r Outer Outer l = inl (refl, refl)
placed_at r Inner Inner l = inl (refl, refl)
placed_at r Near Near l = inl (refl, refl)
placed_at r Far Far l = inl (refl, refl)
placed_at r p q l = inr (λ e. absurd (cc), refl)

-- the node is none of those at the places, and not the one above
abbrev pub IsNew : Above → Repair → ℕ → Type 0
IsNew a r n = (n ≢ a.node) × ((p : Place) → n ≢ (at_place r p).node)

pub record AreMet (past : List Event) (a : Above) (r : Repair) : Type 0 where
  pub told : (p : Place) → IsMissingOrTold past (at_place r p)
  pub apart : (p q : Place) → p ≢ q → (at_place r p).node ≢ 0 → (at_place r p).node ≢ (at_place r q).node
  pub below : (p : Place) → (at_place r p).node ≢ 0 → (at_place r p).node ≢ a.node
  pub above : r.node.node ≢ 0 → ToldAbove past a r.node.node
  pub fits : Fits a.node

abbrev pub IsEmpty : Repair → Type 0
IsEmpty r = (p : Place) → at_place r p ≡ missing

pub none_met : (past : List Event) (a : Above) (r : Repair) → IsEmpty r → Fits a.node → AreMet past a r
none_met past a r empty fits =
    let none : (p : Place) → (at_place r p).node ≡ 0 = λ p. same_number (empty p) in
    record {
      told = λ p. inl (empty p);
      apart = λ p q ne not_0. absurd (not_0 (none p));
      below = λ p not_0. absurd (not_0 (none p));
      above = λ not_0. absurd (not_0 (none Node));
      fits = fits;
    }

pub told_at : (past : List Event) (a : Above) (r : Repair) → AreMet past a r → (p : Place)
    → (at_place r p).node ≢ 0 → IsTold past (at_place r p)
told_at past a r h p not_0 = told_number past (at_place r p) not_0 (h.told p)

pub met_kept : (n : ℕ) (past now : List Event) (a : Above) (r : Repair) → KeepsOthers n past now → IsNew a r n
    → AreMet past a r → AreMet now a r
met_kept n past now a r k new h = record {
  told = λ p. ⊎_elim (λ none. inl none) (λ told. inr (told_kept n past now k (at_place r p) (new.1 p) told))
      (h.told p);
  apart = h.apart;
  below = h.below;
  above = λ not_0. above_kept n past now k a r.node.node new.0 (h.above not_0);
  fits = h.fits;
}

-- a place comes to have another node, or none
module _ (past : List Event) (a : Above) (r : Repair) (p : Place) (l : Looked) (h : AreMet past a r)
    (told : IsMissingOrTold past l) (new : l.node ≢ 0 → IsNew a r l.node)
    (above : p ≡ Node → l.node ≢ 0 → ToldAbove past a l.node) where
  abbrev Here : Place → Type 0
  Here q = (p ≡ q) × (at_place (placed r p l) q ≡ l)

  abbrev Elsewhere : Place → Type 0
  Elsewhere q = (p ≢ q) × (at_place (placed r p l) q ≡ at_place r q)

  told_in : (q : Place) → IsMissingOrTold past (at_place (placed r p l) q)
  told_in q = ⊎_elim (λ here. subst (IsMissingOrTold past) (sym here.1) told)
      (λ other. subst (IsMissingOrTold past) (sym other.1) (h.told q)) (placed_at r p q l)

  apart_in : (q x : Place) → q ≢ x → Here q ⊎ Elsewhere q → Here x ⊎ Elsewhere x
      → (at_place (placed r p l) q).node ≢ 0 → (at_place (placed r p l) q).node ≢ (at_place (placed r p l) x).node
  apart_in q x ne at_q at_x not_0 same =
      ⊎_elim
      (λ q_here. let is : (at_place (placed r p l) q).node ≡ l.node = same_number q_here.1 in
      ⊎_elim (λ x_here. ne (sym q_here.0 ∙ x_here.0))
      (λ x_other. (new (λ z. not_0 (is ∙ z))).1 x (sym is ∙ same ∙ same_number x_other.1)) at_x)
      (λ q_other. let is : (at_place (placed r p l) q).node ≡ (at_place r q).node = ap (λ (y : Looked). y.node)
      q_other.1 in
      ⊎_elim
      (λ x_here. let also : (at_place r q).node ≡ l.node = sym is ∙ same ∙ same_number x_here.1 in
      (new (λ z. not_0 (is ∙ also ∙ z))).1 q (sym also))
      (λ x_other. h.apart q x ne (λ z. not_0 (is ∙ z)) (sym is ∙ same ∙ same_number x_other.1)) at_x)
      at_q

  below_in : (q : Place) → Here q ⊎ Elsewhere q → (at_place (placed r p l) q).node ≢ 0
      → (at_place (placed r p l) q).node ≢ a.node
  below_in q at_q not_0 same = ⊎_elim
      (λ here. let is : (at_place (placed r p l) q).node ≡ l.node = same_number here.1 in
      (new (λ z. not_0 (is ∙ z))).0 (sym is ∙ same))
      (λ other. let is : (at_place (placed r p l) q).node ≡ (at_place r q).node = same_number other.1 in
      h.below q (λ z. not_0 (is ∙ z)) (sym is ∙ same)) at_q

  above_in : (o : Looked) → Here Node ⊎ Elsewhere Node → o ≡ at_place (placed r p l) Node → o.node ≢ 0
      → ToldAbove past a o.node
  above_in o at_node e not_0 = ⊎_elim
      (λ here. let is : o.node ≡ l.node = same_number (e ∙ here.1) in
      subst (ToldAbove past a) (sym is) (above here.0 (λ z. not_0 (is ∙ z))))
      (λ other. let is : o.node ≡ r.node.node = same_number (e ∙ other.1) in
      subst (ToldAbove past a) (sym is) (h.above (λ z. not_0 (is ∙ z)))) at_node

  pub placed_met : AreMet past a (placed r p l)
  placed_met = record {
    told = told_in;
    apart = λ q x ne. apart_in q x ne (placed_at r p q l) (placed_at r p x l);
    below = λ q. below_in q (placed_at r p q l);
    above = above_in (placed r p l).node (placed_at r p Node l) refl;
    fits = h.fits;
  }

abbrev DiffersFrom : ℕ → List ℕ → Type 0
DiffersFrom n [] = Unit {0}
DiffersFrom n (x ∷ xs) = (n ≢ x) × DiffersFrom n xs

differs_from : (n : ℕ) (xs : List ℕ) → has n xs ≡ false → DiffersFrom n xs
differs_from n [] out = tt
differs_from n (x ∷ xs) out = let parts : (n ≢ x) × (has n xs ≡ false) = among_not n x xs out in
    (parts.0, differs_from n xs parts.1)

-- a node that is none of those that were met is new
pub new_among : (r : Repair) (n : ℕ) → has n (met r) ≡ false → (n ≢ r.last.above.node)
    × IsNew r.above.above (places r) n
new_among r n out =
    let all : DiffersFrom n (met r) = differs_from n (met r) out in
    let at : DiffersFrom n (r.node.node ∷ r.left.node ∷ r.right.node ∷ r.outer.node ∷ r.inner.node ∷ r.near.node
    ∷ r.far.node ∷ []) = all.1.1 in (
      all.0,
      (
        all.1.0,
        at_each (places r) (λ (l : Looked). n ≢ l.node)
            (at.0, at.1.0, at.1.1.0, at.1.1.1.0, at.1.1.1.1.0, at.1.1.1.1.1.0, at.1.1.1.1.1.1.0),
      ),
    )
