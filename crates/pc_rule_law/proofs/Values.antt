-- What the rule remembers as the plain values are the plain values, and there is one of each word. References in
-- words have the present numbers of their owners, and an install stands in one word at most.
use Rattle.std.proofs.Common.{◌≡◌, ℕ, ◌+◌, ◌*◌, ◌<◌, length, sym, ap, ap₂, ◌∙◌, subst, arith}
use Rattle.pc_model.specs.declared.cell.Field.{Field}
use Rattle.pc_model.specs.Cells.{Cells}
use Rattle.pc_words.specs.declared.word.WordKind.{WordKind}
use Rattle.pc_words.specs.declared.word.WordKind.TheVariants.{Plain, Install, Exchange}
use Rattle.pc_rule_law.specs.Board.{Size, Board, place_number}
use Rattle.pc_rule_law.specs.Past.{Past, change, Describes}
use Rattle.pc_rule_law.specs.Stages.{IsIdle, value_by}
use Rattle.pc_rule_law.specs.Rule.{Standing, Holding, CellOk, Shared}
use Rattle.pc_rule_law.specs.Values.{IsPlainValue}
use Rattle.pc_rule_law.proofs.Descriptors.{described_now}
use Rattle.pc_rule_law.proofs.Lists.{below_length, element_at}
use Rattle.pc_rule_law.proofs.Places.{one_word}

module _ (sound : ℕ → Cells → Cells → Type 0) (z : Size) (b : Board) (h : Past) (s : Shared sound z b h) where
  of_install : (n : ℕ) (f : Field) (q k : ℕ) → Standing h.placing h.course (h.plain n f) n f q k
      → IsPlainValue b n f (Install q k) (h.plain n f)
  of_install n f q k st = let y = s.installs q k (let e : h.course q k ≡ 1 = st.stands in omega arith) in
      let now = y.present st.stands in (
        now,
        y.described now 2 (omega arith)
            ∙ ap₂ place_number st.at_node st.at_field,
        y.described now 3 (omega arith) ∙ st.old,
      )

  of_exchange : (n : ℕ) (f : Field) (p a : ℕ) → Holding z.seats b.status h.attempt (h.plain n f) n f p a
      → IsPlainValue b n f (Exchange p a) (h.plain n f)
  of_exchange n f p a ho = let d : Describes z.slots (h.attempt p a) (b.word p) = subst
      (λ (c : ℕ). Describes z.slots (h.attempt p c) (b.word p)) ho.present (described_now sound z b h s p ho.uncleared) in
      let l = ho.listed in let x = change n f l.0 l.1 in let i = l.2.0 in let words = d.each_change i x l.2.1 in
      let below : i < length (h.attempt p a).changes = below_length (h.attempt p a).changes i x l.2.1 in (
        ho.present,
        i,
        subst (λ (c : ℕ). i < c) (sym d.changes) below,
        words.0,
        ap₂
            (value_by (b.status p).stage) words.1 words.2 ∙ l.3,
      )

  by_kind : (n : ℕ) (f : Field) (w : WordKind)
      → CellOk z.seats b.status h.attempt h.placing h.course (h.plain n f) n f w → IsPlainValue b n f w (h.plain n f)
  by_kind n f (Plain x) ok = ok
  by_kind n f (Install q k) ok = of_install n f q k ok
  by_kind n f (Exchange p a) ok = of_exchange n f p a ok

  -- the remembered value of a word is its plain value
  pub plain_value : (n : ℕ) (f : Field) → IsPlainValue b n f (b.cell n f) (h.plain n f)
  plain_value n f = by_kind n f (b.cell n f) (s.each_cell n f)

  -- a reference to an exchange has its owner's present number, and that attempt isn't cleared
  pub exchange_is_present : (n : ℕ) (f : Field) (p a : ℕ) → b.cell n f ≡ Exchange p a
      → (p < z.seats) × ((b.status p).number ≡ a) × (IsIdle (b.status p).stage → ⊥)
  exchange_is_present n f p a is = let ho : Holding z.seats b.status h.attempt (h.plain n f) n f p a = subst
      (CellOk z.seats b.status h.attempt h.placing h.course (h.plain n f) n f) is (s.each_cell n f) in
      (ho.owner, ho.present, ho.uncleared)

  -- a reference to an install has its installer's present number
  pub install_is_present : (n : ℕ) (f : Field) (q k : ℕ) → b.cell n f ≡ Install q k
      → (q < z.seats) × (b.install q 0 ≡ k)
  install_is_present n f q k is = let st : Standing h.placing h.course (h.plain n f) n f q k = subst
      (CellOk z.seats b.status h.attempt h.placing h.course (h.plain n f) n f) is (s.each_cell n f) in
      let y = s.installs q k (let e : h.course q k ≡ 1 = st.stands in omega arith) in (y.owner, y.present st.stands)

  -- and stands in no other word
  pub install_is_alone : (n m : ℕ) (f g : Field) (q k : ℕ) → b.cell n f ≡ Install q k → b.cell m g ≡ Install q k
      → (n ≡ m) × (f ≡ g)
  install_is_alone n m f g q k here there = let a : Standing h.placing h.course (h.plain n f) n f q k = subst
      (CellOk z.seats b.status h.attempt h.placing h.course (h.plain n f) n f) here (s.each_cell n f) in
      let c : Standing h.placing h.course (h.plain m g) m g q k = subst
      (CellOk z.seats b.status h.attempt h.placing h.course (h.plain m g) m g) there (s.each_cell m g) in
      (sym a.at_node ∙ c.at_node, sym a.at_field ∙ c.at_field)

  -- the entry of a word in a descriptor is one
  one_entry : (n : ℕ) (f : Field) (p a i j : ℕ) → Holding z.seats b.status h.attempt (h.plain n f) n f p a
      → i < b.word p 1 → j < b.word p 1 → b.word p (3 + 3 * i) ≡ place_number n f
      → b.word p (3 + 3 * j) ≡ place_number n f → i ≡ j
  one_entry n f p a i j ho below_i below_j at_i at_j = let d : Describes z.slots (h.attempt p a) (b.word p) = subst
      (λ (c : ℕ). Describes z.slots (h.attempt p c) (b.word p)) ho.present (described_now sound z b h s p ho.uncleared) in
      let es = (h.attempt p a).changes in
      let x = element_at es i (subst (λ (c : ℕ). i < c) d.changes below_i) in
      let y = element_at es j (subst (λ (c : ℕ). j < c) d.changes below_j) in
      let same = one_word x.0.node y.0.node x.0.field y.0.field
      (sym (d.each_change i x.0 x.1).0 ∙ (at_i ∙ (sym at_j ∙ (d.each_change j y.0 y.1).0))) in
      (s.formed p a).apart i j x.0 y.0 x.1 y.1 same.0 same.1

  one_by_kind : (n : ℕ) (f : Field) (w : WordKind) (u v : ℕ)
      → CellOk z.seats b.status h.attempt h.placing h.course (h.plain n f) n f w → IsPlainValue b n f w u
      → IsPlainValue b n f w v → u ≡ v
  one_by_kind n f (Plain x) u v ok a c = sym a ∙ c
  one_by_kind n f (Install q k) u v ok a c = sym a.2 ∙ c.2
  one_by_kind n f (Exchange p k) u v ok a c = let e : a.1 ≡ c.1 = one_entry n f p k a.1 c.1 ok a.2 c.2 a.3 c.3 in
      sym a.4 ∙ (ap (λ (i : ℕ). value_by (b.status p).stage (b.word p (4 + 3 * i)) (b.word p (5 + 3 * i))) e ∙ c.4)

  -- a word has one plain value
  pub one_plain_value : (n : ℕ) (f : Field) (u v : ℕ) → IsPlainValue b n f (b.cell n f) u
      → IsPlainValue b n f (b.cell n f) v → u ≡ v
  one_plain_value n f u v = one_by_kind n f (b.cell n f) u v (s.each_cell n f)
