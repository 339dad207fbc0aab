-- What an exchange leaves, word by word: exchanges whose writes miss each other commute.
use Rattle.std.proofs.Common.{◌≡◌, ◌≢◌, ℕ, ◌+◌, ◌%◌, ◌<◌, ◌==◌, ◌⊎◌, inl, inr, ⊎_elim, List, [], ◌∷◌, Option, Some, None}
use Rattle.std.proofs.Common.{if◌then◌else◌, refl, sym, ap, ◌∙◌, subst, arith}
use Rattle.std.proofs.lemmas.Bool.{cases_eq}
use Rattle.pc_model.specs.declared.cell.Field.{Field}
use Rattle.pc_model.specs.declared.cell.Field.TheVariants.{Version}
use Rattle.pc_model.specs.Cells.{Cells, field_number, IsEven, written}
use Rattle.pc_model.specs.Exchanges.{Visited, Seen, Changed, FreshNode, Exchange, VisitsStand, ReadsStand}
use Rattle.pc_model.specs.Exchanges.{ChangesStand, FreshStands, Stands, with_changes, with_fresh, applied}
use Rattle.pc_model.proofs.Writes.{same_field, with_node-here, IsUnchanged}
use Rattle.pc_model.proofs.Writes.{IsNotFresh, with_changes-else, with_changes-here, applied-else}
use Rattle.pc_history.specs.Footprints.{IsAmong, IsOfWord, LeavesWord, Writes, WritesMiss, AreOnce}
use Rattle.pc_history.specs.Footprints.{RaisesVersionOf, IsWellFormed, RaisesVersions}

-- What stands, member by member

pub visit_stands : (c : Cells) (vs : List Visited) (v : Visited) → VisitsStand c vs → IsAmong v vs
    → (c v.node Version ≡ v.version) × IsEven v.version
visit_stands c [] v stands among = absurd among
visit_stands c (w ∷ vs) v stands among = ⊎_elim
    (λ e. subst (λ (x : Visited). (c x.node Version ≡ x.version) × IsEven x.version) (sym e) stands.0)
    (λ later. visit_stands c vs v stands.1 later) among

pub visits_stand : (c : Cells) (vs : List Visited)
    → ((v : Visited) → IsAmong v vs → (c v.node Version ≡ v.version) × IsEven v.version) → VisitsStand c vs
visits_stand c [] each = tt
visits_stand c (v ∷ vs) each = (each v (inl refl), visits_stand c vs (λ w among. each w (inr among)))

pub read_stands : (c : Cells) (rs : List Seen) (r : Seen) → ReadsStand c rs → IsAmong r rs
    → c r.node r.field ≡ r.number
read_stands c [] r stands among = absurd among
read_stands c (q ∷ rs) r stands among = ⊎_elim
    (λ e. subst (λ (x : Seen). c x.node x.field ≡ x.number) (sym e) stands.0)
    (λ later. read_stands c rs r stands.1 later) among

pub reads_stand : (c : Cells) (rs : List Seen) → ((r : Seen) → IsAmong r rs → c r.node r.field ≡ r.number)
    → ReadsStand c rs
reads_stand c [] each = tt
reads_stand c (r ∷ rs) each = (each r (inl refl), reads_stand c rs (λ q among. each q (inr among)))

pub change_stands : (c : Cells) (xs : List Changed) (a : Changed) → ChangesStand c xs → IsAmong a xs
    → c a.node a.field ≡ a.old
change_stands c [] a stands among = absurd among
change_stands c (b ∷ xs) a stands among = ⊎_elim
    (λ e. subst (λ (x : Changed). c x.node x.field ≡ x.old) (sym e) stands.0)
    (λ later. change_stands c xs a stands.1 later) among

pub changes_stand : (c : Cells) (xs : List Changed) → ((a : Changed) → IsAmong a xs → c a.node a.field ≡ a.old)
    → ChangesStand c xs
changes_stand c [] each = tt
changes_stand c (a ∷ xs) each = (each a (inl refl), changes_stand c xs (λ b among. each b (inr among)))

-- A word that isn't written

unchanged_by : (n : ℕ) (f : Field) (xs : List Changed) → ((a : Changed) → IsAmong a xs → IsOfWord n f a → ⊥)
    → IsUnchanged n f xs
unchanged_by n f [] none' = tt
unchanged_by n f (a ∷ xs) none' = (
  (λ node field. none' a (inl refl) (sym node, sym field)),
  unchanged_by n f xs (λ b among. none' b (inr among)),
)

not_fresh_in : (n : ℕ) (o : Option FreshNode) → ((g : FreshNode) → o ≡ Some g → n ≢ g.node) → IsNotFresh n o
not_fresh_in n None other = tt
not_fresh_in n (Some g) other = other g refl

pub applied_left : (e : Exchange) (c : Cells) (n : ℕ) (f : Field) → LeavesWord e n f → applied e c n f ≡ c n f
applied_left e c n f leaves =
    applied-else e c n f (unchanged_by n f e.changes leaves.unchanged) (not_fresh_in n e.fresh leaves.not_fresh)

-- Every word is written or left

of_word_or_not : (n : ℕ) (f : Field) (a : Changed) → IsOfWord n f a ⊎ (IsOfWord n f a → ⊥)
of_word_or_not n f a = ⊎_elim
    (λ node. ⊎_elim
    (λ number. inl (node, same_field a.field f number))
    (λ other. inr (λ is. other (ap field_number is.1)))
    (cases_eq (field_number a.field) (field_number f)))
    (λ other. inr (λ is. other is.0))
    (cases_eq a.node n)

changed_or_not : (n : ℕ) (f : Field) (xs : List Changed)
    → ((a : Changed) × IsAmong a xs × IsOfWord n f a) ⊎ ((a : Changed) → IsAmong a xs → IsOfWord n f a → ⊥)
changed_or_not n f [] = inr (λ a among is. among)
changed_or_not n f (a ∷ xs) = ⊎_elim
    (λ is. inl (a, inl refl, is))
    (λ not_this. ⊎_elim
    (λ found. inl (found.0, inr found.1, found.2))
    (λ none'. inr (λ b among is. ⊎_elim
    (λ e. not_this (subst (IsOfWord n f) e is))
    (λ later. none' b later is) among))
    (changed_or_not n f xs))
    (of_word_or_not n f a)

fresh_or_not : (n : ℕ) (o : Option FreshNode)
    → ((g : FreshNode) × (o ≡ Some g) × (n ≡ g.node)) ⊎ ((g : FreshNode) → o ≡ Some g → n ≢ g.node)
fresh_or_not n None = inr (λ g e. absurd (let x : None ≡ Some g = e in cc))
fresh_or_not n (Some k) = ⊎_elim
    (λ e. inl (k, refl, e))
    (λ other. inr (λ g e same. let this : g ≡ k = cc in other (same ∙ ap (λ (x : FreshNode). x.node) this)))
    (cases_eq n k.node)

pub writes_or_leaves : (e : Exchange) (n : ℕ) (f : Field) → Writes e n f ⊎ LeavesWord e n f
writes_or_leaves e n f = ⊎_elim
    (λ found. inl (inl (record { change = found.0; among = found.1; is_of = found.2 })))
    (λ unchanged. ⊎_elim
    (λ fresh. inl (inr fresh))
    (λ not_fresh. inr (record { unchanged = unchanged; not_fresh = not_fresh }))
    (fresh_or_not n e.fresh))
    (changed_or_not n f e.changes)

pub leaves_there : (e : Exchange) (n m : ℕ) (f g : Field) → n ≡ m → f ≡ g → LeavesWord e n f → LeavesWord e m g
leaves_there e n m f g node field leaves = subst (λ (x : ℕ). LeavesWord e x g) node
    (subst (LeavesWord e n) field leaves)

-- what e's writes miss leaves each word that e writes
pub misses_back : (e x : Exchange) → WritesMiss e x → (n : ℕ) (f : Field) → Writes e n f → LeavesWord x n f
misses_back e x misses n f writes = ⊎_elim
    (λ written. ⊎_elim
    (λ change. absurd (contradiction n f writes (leaves_there e change.change.node n change.change.field f
    change.is_of.0 change.is_of.1 (misses.changes change.change change.among))))
    (λ fresh. absurd (contradiction n f writes (leaves_there e fresh.0.node n f f (sym fresh.2) refl
    (misses.fresh fresh.0 f fresh.1))))
    written)
    (λ leaves. leaves)
    (writes_or_leaves x n f)
  where
    contradiction : (n : ℕ) (f : Field) → Writes e n f → LeavesWord e n f → ⊥
    contradiction n f writes leaves = ⊎_elim
        (λ change. leaves.unchanged change.change change.among change.is_of)
        (λ fresh. leaves.not_fresh fresh.0 fresh.1 fresh.2) writes

-- What a word is after an exchange depends on what it was alone

written_local : (m : ℕ) (g : Field) (v : ℕ) (c d : Cells) (n : ℕ) (f : Field) → c n f ≡ d n f
    → written m g v c n f ≡ written m g v d n f
written_local m g v c d n f same = λ i.
    if field_number f == field_number g then (if n == m then v else same i) else same i

pub with_changes_local : (xs : List Changed) (c d : Cells) (n : ℕ) (f : Field) → c n f ≡ d n f
    → with_changes xs c n f ≡ with_changes xs d n f
with_changes_local [] c d n f same = same
with_changes_local (a ∷ xs) c d n f same =
    with_changes_local xs (written a.node a.field a.new c) (written a.node a.field a.new d) n f
    (written_local a.node a.field a.new c d n f same)

with_fresh_local : (o : Option FreshNode) (c d : Cells) (n : ℕ) (f : Field) → c n f ≡ d n f
    → with_fresh o c n f ≡ with_fresh o d n f
with_fresh_local None c d n f same = same
with_fresh_local (Some g) c d n f same = λ i. if n == g.node then g.fields f else same i

pub applied_local : (e : Exchange) (c d : Cells) (n : ℕ) (f : Field) → c n f ≡ d n f
    → applied e c n f ≡ applied e d n f
applied_local e c d n f same = with_changes_local e.changes (with_fresh e.fresh c) (with_fresh e.fresh d) n f
    (with_fresh_local e.fresh c d n f same)

module _ (e x : Exchange) (misses : WritesMiss e x) (c : Cells) where
  commute_at : (n : ℕ) (f : Field) → applied x (applied e c) n f ≡ applied e (applied x c) n f
  commute_at n f = ⊎_elim
      (λ writes. let leaves : LeavesWord x n f = misses_back e x misses n f writes in
      applied_left x (applied e c) n f leaves
      ∙ applied_local e c (applied x c) n f (sym (applied_left x c n f leaves)))
      (λ leaves. applied_local x (applied e c) c n f (applied_left e c n f leaves)
      ∙ sym (applied_left e (applied x c) n f leaves))
      (writes_or_leaves e n f)

  pub exchanges_commute : applied x (applied e c) ≡ applied e (applied x c)
  exchanges_commute = λ i n f. commute_at n f i

  fresh_still : (o : Option FreshNode) → ((g : FreshNode) (f : Field) → o ≡ Some g → LeavesWord e g.node f)
      → FreshStands c o
      → FreshStands (applied e c) o
  fresh_still None leaves stands = tt
  fresh_still (Some g) leaves stands =
      let same : applied e c g.node Version ≡ c g.node Version =
      applied_left e c g.node Version (leaves g Version refl) in (
        ap (λ (v : ℕ). v % 2) same ∙ stands.0,
        stands.1 ∙ ap (λ (v : ℕ). v + 1) (sym same),
      )

  pub still_stands : Stands x c → Stands x (applied e c)
  still_stands stands = record {
    visits = visits_stand (applied e c) x.visits (λ v among. (
      applied_left e c v.node Version (misses.visits v among) ∙ (visit_stands c x.visits v stands.visits among).0,
      (visit_stands c x.visits v stands.visits among).1,
    ));
    reads = reads_stand (applied e c) x.reads (λ r among. applied_left e c r.node r.field (misses.reads r among)
        ∙ read_stands c x.reads r stands.reads among);
    changes = changes_stand (applied e c) x.changes (λ a among.
        applied_left e c a.node a.field (misses.changes a among)
        ∙ change_stands c x.changes a stands.changes among);
    fresh = fresh_still x.fresh misses.fresh stands.fresh;
  }

  -- the changes and the fresh node of e stand still after x, as they did before
  own_fresh_still : (o : Option FreshNode) → ((g : FreshNode) → o ≡ Some g → (f : Field) → LeavesWord x g.node f)
      → FreshStands c o → FreshStands (applied x c) o
  own_fresh_still None leaves stands = tt
  own_fresh_still (Some g) leaves stands =
      let same : applied x c g.node Version ≡ c g.node Version =
      applied_left x c g.node Version (leaves g refl Version) in (
        ap (λ (v : ℕ). v % 2) same ∙ stands.0,
        stands.1 ∙ ap (λ (v : ℕ). v + 1) (sym same),
      )

  pub own_changes_still : ChangesStand c e.changes → ChangesStand (applied x c) e.changes
  own_changes_still stands = changes_stand (applied x c) e.changes (λ a among.
      applied_left x c a.node a.field (misses_back e x misses a.node a.field
      (inl (record { change = a; among = among; is_of = (refl, refl) })))
      ∙ change_stands c e.changes a stands among)

  pub own_fresh_stands_still : FreshStands c e.fresh → FreshStands (applied x c) e.fresh
  own_fresh_stands_still = own_fresh_still e.fresh
      (λ g is f. misses_back e x misses g.node f (inr (g, is, refl)))

-- An exchange that has the form to be published

pub same_change : (xs : List Changed) (a b : Changed) → AreOnce xs → IsAmong a xs → IsAmong b xs
    → IsOfWord a.node a.field b → a ≡ b
same_change [] a b once in_a in_b is = absurd in_a
same_change (x ∷ xs) a b once in_a in_b is = ⊎_elim
    (λ first_a. ⊎_elim
    (λ first_b. first_a ∙ sym first_b)
    (λ later_b. absurd (once.0 b later_b (subst (λ (y : Changed). IsOfWord y.node y.field b) first_a is)))
    in_b)
    (λ later_a. ⊎_elim
    (λ first_b. absurd (once.0 a later_a (
      sym is.0 ∙ ap (λ (y : Changed). y.node) first_b,
      sym is.1 ∙ ap (λ (y : Changed). y.field) first_b,
    )))
    (λ later_b. same_change xs a b once.1 later_a later_b is)
    in_b)
    in_a

pub with_changes_at : (xs : List Changed) (a : Changed) (c : Cells) → AreOnce xs → IsAmong a xs
    → with_changes xs c a.node a.field ≡ a.new
with_changes_at [] a c once among = absurd among
with_changes_at (x ∷ xs) a c once among = ⊎_elim
    (λ e. subst (λ (y : Changed). with_changes (x ∷ xs) c y.node y.field ≡ y.new) (sym e)
    (with_changes-here x xs c (unchanged_by x.node x.field xs once.0)))
    (λ later. with_changes_at xs a (written x.node x.field x.new c) once.1 later) among

pub with_changes_left : (xs : List Changed) (c : Cells) (n : ℕ) (f : Field)
    → ((a : Changed) → IsAmong a xs → IsOfWord n f a → ⊥) → with_changes xs c n f ≡ c n f
with_changes_left xs c n f unchanged = with_changes-else xs c n f (unchanged_by n f xs unchanged)

module _ (e : Exchange) (well_formed : IsWellFormed e) where
  -- a changed word gets its new number
  pub applied_change : (c : Cells) (a : Changed) → IsAmong a e.changes → applied e c a.node a.field ≡ a.new
  applied_change c a among = with_changes_at e.changes a (with_fresh e.fresh c) well_formed.once among

  -- the fresh node gets its fields
  pub applied_fresh : (c : Cells) (g : FreshNode) (f : Field) → e.fresh ≡ Some g → applied e c g.node f ≡ g.fields f
  applied_fresh c g f is =
      with_changes_left e.changes (with_fresh e.fresh c) g.node f
      (λ a among of_word. well_formed.not_fresh a g among is of_word.0)
      ∙ ap (λ (o : Option FreshNode). with_fresh o c g.node f) is
      ∙ with_node-here g.node g.fields c f

  -- what leaves a node's version leaves the node
  pub leaves_node : (n : ℕ) → LeavesWord e n Version → (f : Field) → LeavesWord e n f
  leaves_node n leaves f = record {
    unchanged = λ a among is. let version : RaisesVersionOf e a.node = well_formed.raises a among in
        leaves.unchanged version.change version.among (version.is_of.0 ∙ is.0, version.is_of.1);
    not_fresh = leaves.not_fresh;
  }

  -- a node whose version is changed: it rises, or the node stays
  changed_node : (c : Cells) → ChangesStand c e.changes → (n : ℕ) → RaisesVersionOf e n
      → (c n Version < applied e c n Version) ⊎ ((f : Field) → applied e c n f ≡ c n f)
  changed_node c stands n v =
      let is_now : applied e c v.change.node v.change.field ≡ v.change.new = applied_change c v.change v.among in
      let now : applied e c n Version ≡ v.change.new =
      (λ i. applied e c (sym v.is_of.0 i) (sym v.is_of.1 i)) ∙ is_now in
      let was : c n Version ≡ v.change.old = (λ i. c (sym v.is_of.0 i) (sym v.is_of.1 i))
      ∙ change_stands c e.changes v.change stands v.among in
      ⊎_elim
      (λ rises. inl (subst (λ (x : ℕ). x < applied e c n Version) (sym was)
      (subst (λ (x : ℕ). v.change.old < x) (sym now) rises)))
      (λ stays. inr (λ f. ⊎_elim
      (λ writes. ⊎_elim
      (λ change. let field : change.change.field ≡ Version = stays.1 change.change change.among change.is_of.0 in
      let version : Version ≡ f = sym field ∙ change.is_of.1 in
      subst (λ (g : Field). applied e c n g ≡ c n g) version (now ∙ stays.0 ∙ sym was))
      (λ fresh. absurd (well_formed.not_fresh v.change fresh.0 v.among fresh.1 (v.is_of.0 ∙ fresh.2)))
      writes)
      (λ leaves. applied_left e c n f leaves)
      (writes_or_leaves e n f)))
      v.rises

  fresh_rises : (c : Cells) → FreshStands c e.fresh → (g : FreshNode) → e.fresh ≡ Some g
      → c g.node Version < applied e c g.node Version
  fresh_rises c stands g is =
      let there : FreshStands c (Some g) = subst (FreshStands c) is stands in
      let now : applied e c g.node Version ≡ c g.node Version + 1 = applied_fresh c g Version is ∙ there.1 in
      omega (arith, now)

  -- an exchange of this form raises the version of each node that it changes
  pub raises_versions : RaisesVersions e
  raises_versions c stands fresh n = ⊎_elim
      (λ writes. ⊎_elim
      (λ change. changed_node c stands n (subst (RaisesVersionOf e) change.is_of.0
      (well_formed.raises change.change change.among)))
      (λ made. inl (subst (λ (x : ℕ). c x Version < applied e c x Version) (sym made.2)
      (fresh_rises c fresh made.0 made.1)))
      writes)
      (λ leaves. inr (λ f. applied_left e c n f (leaves_node n leaves f)))
      (writes_or_leaves e n Version)
