-- An exchange by nodes is lawful where its nodes are different and its numbers were told, and what it
-- leaves is looked up node by node.
use Rattle.std.proofs.Common.{◌≡◌, ◌≢◌, ℕ, ◌+◌, ◌%◌, ◌^◌, ◌<◌, ◌≤◌, ◌==◌, ◌⊎◌, inl, inr, ⊎_elim, if◌then◌else◌, true}
use Rattle.std.proofs.Common.{false, List, [], ◌∷◌, ◌++◌, length, Option, Some, None, refl, sym, ap, ◌∙◌, subst, arith}
use Rattle.std.specs.Prelude.{IsSome, IfSome}
use Rattle.std.proofs.lemmas.Bool.{cases_eq, eq-eqb, eqb-false, ne_eqb, cond-true, cond-false}
use Rattle.pc_model.specs.declared.cell.Field.{Field}
use Rattle.pc_model.specs.declared.cell.Field.TheVariants.{Version}
use Rattle.pc_model.specs.Cells.{Cells, field_number}
use Rattle.pc_model.specs.Debts.{has, AreDifferent}
use Rattle.pc_model.specs.Exchanges.{Visited, with_fresh, applied}
use Rattle.pc_model.proofs.Writes.{with_node-here}
use Rattle.pc_plan.specs.declared.change.To.TheVariants.{Number, Fresh as FreshNumber}
use Rattle.pc_plan.specs.declared.change.Add.{Add}
use Rattle.pc_plan.specs.declared.change.Fresh.{Fresh}
use Rattle.pc_plan.specs.SlotsAfter.{is_node}
use Rattle.pc_plan.specs.Traces.{Event, version_seen, number_seen}
use Rattle.pc_plan.specs.Planned.{raised, removed}
use Rattle.pc_plan.specs.Runs.{number_at, fresh_fields, fresh_at, exchange_of}
use Rattle.pc_plan.specs.Lawful.{rise_of, FitsWord, AreFitting, IsToldFresh, IsToldWord, AreToldWords, Adds, AreOnce}
use Rattle.pc_plan.specs.Lawful.{AddsVersions, NamesFresh, MarksAlone, IsLawfulChange}
use Rattle.pc_plan.proofs.Learning.{is_some-seen}
use Rattle.pc_plan.proofs.WrittenWords.{with_words, fresh_other, words_else, adds_append, adds_behind}
use Rattle.pc_plan.specs.NodeChanges.{FieldChange, NodeChange, adds_at, adds_of, mark_of, ByNodes, planned_by}
use Rattle.pc_plan.proofs.NodeWords.{nodes_in, numbers_of, AreFields, among_not, true_and_false, adds_at-in, not_added}
use Rattle.pc_plan.proofs.NodeWords.{fields_not_version, looked_up, looked_up-none, not_among, field_after, IsAmong}
use Rattle.pc_plan.proofs.NodeWords.{HaveFields, words_of_node, words_of_mark, has_mark, mark_fields-in}

-- these fields of a node were told, and what they get fits
abbrev pub AreToldFields : List Event → Option Fresh → ℕ → List FieldChange → Type 0
AreToldFields past fresh n [] = Unit {0}
AreToldFields past fresh n (x ∷ xs) =
    ((number_seen n x.field past ≡ Some x.old) × FitsWord x.new × (x.new ≡ FreshNumber → IsSome fresh))
    × AreToldFields past fresh n xs

pub record IsToldNode (past : List Event) (fresh : Option Fresh) (w : NodeChange) : Type 0 where
  pub seen : version_seen w.node past ≡ Some w.version
  pub small : w.version < 2 ^ 60
  pub told : AreToldFields past fresh w.node w.fields
  pub fields : AreFields w.fields

abbrev pub AreToldNodes : List Event → Option Fresh → List NodeChange → Type 0
AreToldNodes past fresh [] = Unit {0}
AreToldNodes past fresh (w ∷ ws) = IsToldNode past fresh w × AreToldNodes past fresh ws

-- the marked node was visited at its version
abbrev pub IsToldMark : List Event → Option Visited → Type 0
IsToldMark past None = Unit {0}
IsToldMark past (Some v) = (version_seen v.node past ≡ Some v.version) × (v.version < 2 ^ 60)

pub record IsLawfulByNodes (past : List Event) (b : ByNodes) : Type 0 where
  pub some : adds_of b.nodes b.mark ≢ []
  pub few : length (adds_of b.nodes b.mark) ≤ 24
  pub nodes : AreToldNodes past b.fresh b.nodes
  pub mark : IsToldMark past b.mark
  pub different : AreDifferent (nodes_in b.nodes b.mark)
  pub fresh : IfSome b.fresh (IsToldFresh past)
  pub few_charges : length b.charged ≤ 4

pub have_fields : (past : List Event) (fresh : Option Fresh) (ws : List NodeChange) → AreToldNodes past fresh ws
    → HaveFields ws
have_fields past fresh [] told = tt
have_fields past fresh (w ∷ ws) told = (told.0.fields, have_fields past fresh ws told.1)

-- Lists of words, one behind the other

told_append : (past : List Event) (mark : Option ℕ) (xs ys : List Add) → AreToldWords past mark xs
    → AreToldWords past mark ys → AreToldWords past mark (xs ++ ys)
told_append past mark [] ys h k = k
told_append past mark (x ∷ xs) ys h k = (h.0, told_append past mark xs ys h.1 k)

fitting_append : (xs ys : List Add) → AreFitting xs → AreFitting ys → AreFitting (xs ++ ys)
fitting_append [] ys h k = k
fitting_append (x ∷ xs) ys h k = (h.0, fitting_append xs ys h.1 k)

names_append : (fresh : Option Fresh) (xs ys : List Add) → NamesFresh fresh xs → NamesFresh fresh ys
    → NamesFresh fresh (xs ++ ys)
names_append fresh [] ys h k = k
names_append fresh (x ∷ xs) ys h k = (h.0, names_append fresh xs ys h.1 k)

versions_append : (all xs ys : List Add) → AddsVersions all xs → AddsVersions all ys → AddsVersions all (xs ++ ys)
versions_append all [] ys h k = k
versions_append all (x ∷ xs) ys h k = (h.0, versions_append all xs ys h.1 k)

once_append : (xs ys : List Add) → AreOnce xs → AreOnce ys → ((m : ℕ) (f : Field) → Adds m f xs → Adds m f ys → ⊥)
    → AreOnce (xs ++ ys)
once_append [] ys h k apart = k
once_append (x ∷ xs) ys h k apart = (
  λ d. ⊎_elim h.0 (apart x.node x.field (inl (refl, refl))) (adds_append x.node x.field xs ys d),
  once_append xs ys h.1 k (λ m f a b. apart m f (inr a) b),
)

-- The words of one node

module _ (past : List Event) (fresh : Option Fresh) (mark : Option ℕ) (n version : ℕ)
    (seen : version_seen n past ≡ Some version) (small : version < 2 ^ 60) where
  raised_told : is_node mark n ≡ false → IsToldWord past mark (raised n version)
  raised_told other =
      let two : rise_of mark n ≡ 2 = cond-false (is_node mark n) 1 2 other in
      let e : (version + 2) % 2 ^ 64 ≡ version + rise_of mark n = rw two (omega arith) in
      inl (refl, seen, ap Number e)

  removed_told : mark ≡ Some n → IsToldWord past mark (removed n version)
  removed_told is =
      let same : is_node mark n ≡ true = ap (λ (x : Option ℕ). is_node x n) is ∙ eq-eqb n n refl in
      let one : rise_of mark n ≡ 1 = cond-true (is_node mark n) 1 2 same in
      let e : (version + 1) % 2 ^ 64 ≡ version + rise_of mark n = rw one (omega arith) in
      inl (refl, seen, ap Number e)

  fields_told : (xs : List FieldChange) → AreToldFields past fresh n xs → AreFields xs
      → AreToldWords past mark (adds_at n xs)
  fields_told [] told fields = tt
  fields_told (x ∷ xs) told fields =
      let ne : x.field ≢ Version = λ e. (among_not (field_number x.field) 0 (numbers_of xs) fields.0).0
      (ap field_number e) in
      (inr (ne, is_some-seen n version past seen, told.0.0), fields_told xs told.1 fields.1)

fields_fit : (past : List Event) (fresh : Option Fresh) (n : ℕ) (xs : List FieldChange) → AreToldFields past fresh n xs
    → AreFitting (adds_at n xs)
fields_fit past fresh n [] told = tt
fields_fit past fresh n (x ∷ xs) told = (told.0.1, fields_fit past fresh n xs told.1)

fields_named : (past : List Event) (fresh : Option Fresh) (n : ℕ) (xs : List FieldChange)
    → AreToldFields past fresh n xs → NamesFresh fresh (adds_at n xs)
fields_named past fresh n [] told = tt
fields_named past fresh n (x ∷ xs) told = (told.0.2, fields_named past fresh n xs told.1)

fields_once : (n : ℕ) (xs : List FieldChange) → AreFields xs → AreOnce (adds_at n xs)
fields_once n [] fields = tt
fields_once n (x ∷ xs) fields = (
  λ d. true_and_false (field_number x.field) (numbers_of xs) (adds_at-in n xs n x.field d).1
      (among_not (field_number x.field) 0 (numbers_of xs) fields.0).1,
  fields_once n xs fields.1,
)

fields_versions : (all : List Add) (n : ℕ) (xs : List FieldChange) → Adds n Version all
    → AddsVersions all (adds_at n xs)
fields_versions all n [] there = tt
fields_versions all n (x ∷ xs) there = (there, fields_versions all n xs there)

-- The words of all nodes

not_marked : (ws : List NodeChange) (mark : Option Visited) (n : ℕ) → has n (nodes_in ws mark) ≡ false
    → is_node (mark_of mark) n ≡ false
not_marked ws None n out = refl
not_marked ws (Some v) n out = ne_eqb v.node n (λ e. true_and_false n (nodes_in ws (Some v))
    (subst (λ (x : ℕ). has x (nodes_in ws (Some v)) ≡ true) e (has_mark ws v)) out)

module _ (past : List Event) (fresh : Option Fresh) where
  nodes_told : (ws : List NodeChange) (mark : Option Visited) → AreToldNodes past fresh ws → IsToldMark past mark
      → AreDifferent (nodes_in ws mark)
      → AreToldWords past (mark_of mark) (adds_of ws mark)
  nodes_told [] None told marked different = tt
  nodes_told [] (Some v) told marked different = (
    removed_told past fresh (Some v.node) v.node v.version marked.0
        marked.1 refl,
    tt,
  )
  nodes_told (w ∷ ws) mark told marked different = (
    raised_told past fresh (mark_of mark) w.node w.version told.0.seen told.0.small (not_marked ws mark w.node
        different.0),
    told_append past (mark_of mark) (adds_at w.node w.fields) (adds_of ws mark)
        (fields_told past fresh (mark_of mark) w.node w.version told.0.seen told.0.small w.fields told.0.told
        told.0.fields)
        (nodes_told ws mark told.1 marked different.1),
  )

  nodes_fit : (ws : List NodeChange) (mark : Option Visited) → AreToldNodes past fresh ws → IsToldMark past mark
      → AreFitting (adds_of ws mark)
  nodes_fit [] None told marked = tt
  nodes_fit [] (Some v) told marked = (let small : v.version < 2 ^ 60 = marked.1 in omega arith, tt)
  nodes_fit (w ∷ ws) mark told marked = (
    let small : w.version < 2 ^ 60 = told.0.small in omega arith,
    fitting_append (adds_at w.node w.fields) (adds_of ws mark) (fields_fit past fresh w.node w.fields told.0.told)
        (nodes_fit ws mark told.1 marked),
  )

  nodes_named : (ws : List NodeChange) (mark : Option Visited) → AreToldNodes past fresh ws
      → NamesFresh fresh (adds_of ws mark)
  nodes_named [] None told = tt
  nodes_named [] (Some v) told = (λ e. absurd (cc), tt)
  nodes_named (w ∷ ws) mark told = (
    λ e. absurd (cc),
    names_append fresh (adds_at w.node w.fields) (adds_of ws mark) (fields_named past fresh w.node w.fields
        told.0.told) (nodes_named ws mark told.1),
  )

nodes_once : (ws : List NodeChange) (mark : Option Visited) → HaveFields ws → AreDifferent (nodes_in ws mark)
    → AreOnce (adds_of ws mark)
nodes_once [] None fields different = tt
nodes_once [] (Some v) fields different = (λ d. d, tt)
nodes_once (w ∷ ws) mark fields different = (
  λ d. ⊎_elim
      (λ a. true_and_false 0 (numbers_of w.fields) (adds_at-in w.node w.fields w.node Version a).1
      (fields_not_version w.fields fields.0))
      (λ b. not_added ws mark w.node Version different.0 b) (adds_append w.node Version (adds_at w.node w.fields)
      (adds_of ws mark) d),
  once_append (adds_at w.node w.fields) (adds_of ws mark) (fields_once w.node w.fields fields.0)
      (nodes_once ws mark fields.1 different.1)
      (λ m f a b. not_added ws mark m f (subst (λ (x : ℕ). has x (nodes_in ws mark) ≡ false)
      (sym (adds_at-in w.node w.fields m f a).0) different.0) b),
)

mark_version : (ws : List NodeChange) (v : Visited) → Adds v.node Version (adds_of ws (Some v))
mark_version [] v = inl (refl, refl)
mark_version (w ∷ ws) v = inr (adds_behind v.node Version (adds_at w.node w.fields) (adds_of ws (Some v))
    (mark_version ws v))

-- with the words of some nodes and of the mark, all their versions are among the words
nodes_versions : (all : List Add) (ws : List NodeChange) (mark : Option Visited)
    → ((m : ℕ) → Adds m Version (adds_of ws mark) → Adds m Version all)
    → AddsVersions all (adds_of ws mark)
nodes_versions all [] None there = tt
nodes_versions all [] (Some v) there = (there v.node (inl (refl, refl)), tt)
nodes_versions all (w ∷ ws) mark there =
    let here : Adds w.node Version all = there w.node (inl (refl, refl)) in (
      here,
      versions_append all (adds_at w.node w.fields) (adds_of ws mark) (fields_versions all w.node w.fields here)
          (nodes_versions all ws mark (λ m d. there m (inr (adds_behind m Version (adds_at w.node w.fields)
          (adds_of ws mark) d)))),
    )

marks_alone : (ws : List NodeChange) (mark : Option Visited) → AreDifferent (nodes_in ws mark)
    → MarksAlone (mark_of mark) (adds_of ws mark)
marks_alone ws None different = tt
marks_alone ws (Some v) different = (mark_version ws v, λ f d. mark_fields-in ws v f different d)

pub lawful_by_nodes : (past : List Event) (b : ByNodes) → IsLawfulByNodes past b → IsLawfulChange past (planned_by b)
lawful_by_nodes past b h = record {
  some = h.some;
  few = h.few;
  told = nodes_told past b.fresh b.nodes b.mark h.nodes h.mark h.different;
  fit = nodes_fit past b.fresh b.nodes b.mark h.nodes h.mark;
  once = nodes_once b.nodes b.mark (have_fields past b.fresh b.nodes h.nodes) h.different;
  versions = nodes_versions (adds_of b.nodes b.mark) b.nodes b.mark (λ m d. d);
  names_fresh = nodes_named past b.fresh b.nodes b.mark h.nodes;
  fresh = h.fresh;
  mark = marks_alone b.nodes b.mark h.different;
  few_charges = h.few_charges;
}

-- What the exchange leaves, node by node

module _ (past : List Event) (b : ByNodes) (slot version : ℕ) (c : Cells) (different : AreDifferent
    (nodes_in b.nodes b.mark)) (fields : HaveFields b.nodes) where
  abbrev left : Cells
  left = applied (exchange_of past (planned_by b) slot version) c

  pub applied_node : (w : NodeChange) (f : Field) → IsAmong w b.nodes → (IsSome b.fresh → w.node ≢ slot)
      → left w.node f ≡ field_after slot w c f
  applied_node w f i other =
      words_of_node slot b.nodes b.mark (with_fresh (fresh_at slot version b.fresh) c) w f different fields i
      ∙ ap (λ (y : ℕ). looked_up slot f w.fields (if field_number f == 0 then (w.version + 2) % 2 ^ 64 else y))
      (fresh_other b.fresh slot version c w.node f other)

  -- a node with no word is as before
  pub applied_else : (m : ℕ) (f : Field) → has m (nodes_in b.nodes b.mark) ≡ false → (IsSome b.fresh → m ≢ slot)
      → left m f ≡ c m f
  applied_else m f out other =
      words_else slot (adds_of b.nodes b.mark) (with_fresh (fresh_at slot version b.fresh) c) m f
      (not_added b.nodes b.mark m f out)
      ∙ fresh_other b.fresh slot version c m f other

  pub applied_fresh : (x : Fresh) (f : Field) → b.fresh ≡ Some x → has slot (nodes_in b.nodes b.mark) ≡ false
      → left slot f ≡ fresh_fields version x f
  applied_fresh x f is out =
      words_else slot (adds_of b.nodes b.mark) (with_fresh (fresh_at slot version b.fresh) c) slot f
      (not_added b.nodes b.mark slot f out)
      ∙ ap (λ (y : Option Fresh). with_fresh (fresh_at slot version y) c slot f) is ∙ with_node-here slot
      (fresh_fields version x) c f

-- what a field gets that stands first
pub looked_up-here : (slot : ℕ) (x : FieldChange) (xs : List FieldChange) (old : ℕ)
    → looked_up slot x.field (x ∷ xs) old ≡ number_at slot x.new
looked_up-here slot x xs old = cond-true (field_number x.field == field_number x.field) (number_at slot x.new)
    (looked_up slot x.field xs old) (eq-eqb (field_number x.field) (field_number x.field) refl)

-- the versions of some nodes are those of the cells
abbrev pub HaveVersions : Cells → List NodeChange → Type 0
HaveVersions c [] = Unit {0}
HaveVersions c (w ∷ ws) = (c w.node Version ≡ w.version) × HaveVersions c ws

among_or_not : (m : ℕ) (ws : List NodeChange) (mark : Option Visited) → is_node (mark_of mark) m ≡ false
    → ((w : NodeChange) × IsAmong w ws × (w.node ≡ m)) ⊎ (has m (nodes_in ws mark) ≡ false)
among_or_not m [] None unmarked = inr refl
among_or_not m [] (Some v) unmarked = inr (not_among m v.node [] (λ e. eqb-false v.node m unmarked (sym e)) refl)
among_or_not m (w ∷ ws) mark unmarked = ⊎_elim
    (λ e. inl (w, inl refl, sym e))
    (λ ne. ⊎_elim (λ h. inl (h.0, inr h.1, h.2)) (λ out. inr (not_among m w.node (nodes_in ws mark) ne out))
    (among_or_not m ws mark unmarked))
    (cases_eq m w.node)

version_among : (c : Cells) (w : NodeChange) (ws : List NodeChange) → HaveVersions c ws → IsAmong w ws
    → c w.node Version ≡ w.version
version_among c w [] versions i = absurd i
version_among c w (x ∷ xs) versions i = ⊎_elim (λ e. subst (λ (y : NodeChange). c y.node Version ≡ y.version)
    (sym e) versions.0) (λ j. version_among c w xs versions.1 j) i

fields_among : (w : NodeChange) (ws : List NodeChange) → HaveFields ws → IsAmong w ws → AreFields w.fields
fields_among w [] fields i = absurd i
fields_among w (x ∷ xs) fields i = ⊎_elim (λ e. subst (λ (y : NodeChange). AreFields y.fields) (sym e) fields.0)
    (λ j. fields_among w xs fields.1 j) i

-- versions keep their parity, but for the marked node's and the fresh one's
pub parity_by_nodes : (past : List Event) (b : ByNodes) (slot version : ℕ) (c : Cells)
    → AreDifferent (nodes_in b.nodes b.mark) → HaveFields b.nodes → HaveVersions c b.nodes
    → (m : ℕ) → is_node (mark_of b.mark) m ≡ false → (IsSome b.fresh → m ≢ slot)
    → applied (exchange_of past (planned_by b) slot version) c m Version % 2 ≡ c m Version % 2
parity_by_nodes past b slot version c different fields versions m unmarked other = ⊎_elim
    (λ h. let w : NodeChange = h.0 in
    let e : w.node ≡ m = h.2 in
    let there : IsAmong w b.nodes = h.1 in
    let after : applied (exchange_of past (planned_by b) slot version) c w.node Version ≡ field_after slot w c Version
    = applied_node past b slot version c different fields w Version there (λ some. subst (λ (x : ℕ). x ≢ slot) (sym e)
    (other some)) in
    let none : looked_up slot Version w.fields ((w.version + 2) % 2 ^ 64) ≡ (w.version + 2) % 2 ^ 64
    = looked_up-none slot Version w.fields ((w.version + 2) % 2 ^ 64) (fields_not_version w.fields
    (fields_among w b.nodes fields there)) in
    let was : c w.node Version ≡ w.version = version_among c w b.nodes versions there in
    let up : (w.version + 2) % 2 ^ 64 % 2 ≡ w.version % 2 = omega arith in
    subst (λ (x : ℕ). applied (exchange_of past (planned_by b) slot version) c x Version % 2 ≡ c x Version % 2) e
    (ap (λ (x : ℕ). x % 2) (after ∙ none) ∙ up ∙ ap (λ (x : ℕ). x % 2) (sym was)))
    (λ out. ap (λ (x : ℕ). x % 2) (applied_else past b slot version c different fields m Version out other))
    (among_or_not m b.nodes b.mark unmarked)

-- the marked node has its next version, and its other fields are as before
pub applied_mark : (past : List Event) (ws : List NodeChange) (v : Visited) (fresh : Option Fresh) (b : ByNodes)
    (slot version : ℕ) (c : Cells) → b.nodes ≡ ws → b.mark ≡ Some v
    → AreDifferent (nodes_in ws (Some v)) → applied (exchange_of past (planned_by b) slot version) c v.node
    Version ≡ (v.version + 1) % 2 ^ 64
applied_mark past ws v fresh b slot version c nodes mark different =
    (λ i. with_words slot (adds_of (nodes i) (mark i)) (with_fresh (fresh_at slot version b.fresh) c) v.node Version)
    ∙ words_of_mark slot ws v (with_fresh (fresh_at slot version b.fresh) c) different

pub applied_mark_else : (past : List Event) (ws : List NodeChange) (v : Visited) (b : ByNodes) (slot version : ℕ)
    (c : Cells) (f : Field) → b.nodes ≡ ws → b.mark ≡ Some v
    → AreDifferent (nodes_in ws (Some v)) → f ≢ Version → (IsSome b.fresh → v.node ≢ slot)
    → applied (exchange_of past (planned_by b) slot version) c v.node f ≡ c v.node f
applied_mark_else past ws v b slot version c f nodes mark different ne other =
    (λ i. with_words slot (adds_of (nodes i) (mark i)) (with_fresh (fresh_at slot version b.fresh) c) v.node f)
    ∙ words_else slot (adds_of ws (Some v)) (with_fresh (fresh_at slot version b.fresh) c) v.node f
    (λ d. ne (mark_fields-in ws v f different d))
    ∙ fresh_other b.fresh slot version c v.node f other
