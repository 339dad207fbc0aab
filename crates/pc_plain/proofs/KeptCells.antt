-- Cells whose great versions are set back: how that goes with writing a word and a node, and that what
-- is written so fits.
use Rattle.std.proofs.Common.{◌≡◌, ℕ, ◌+◌, ◌%◌, ◌<◌, ◌==◌, ⊎_elim, Bool, true, false, cond, List, [], ◌∷◌, map}
use Rattle.std.proofs.Common.{nat_lt, refl, sym, ap, ◌∙◌, subst, arith}
use Rattle.std.proofs.lemmas.Bool.{cases_Bool, cases_lt, eqb-true, lt-ltb, le-ltb, cond-true, cond-false, cond_both}
use Rattle.pc_model.specs.declared.cell.Field.{Field}
use Rattle.pc_model.specs.declared.cell.Field.TheVariants.{Version, Key, Value, Left, Right, Parent, Height, Spare}
use Rattle.pc_model.specs.Cells.{Cells, field_number, written, with_node}
use Rattle.pc_model.specs.Exchanges.{with_changes}
use Rattle.pc_model.proofs.Writes.{same_field}
use Rattle.pc_plan.specs.declared.change.To.{To}
use Rattle.pc_plan.specs.declared.change.To.TheVariants.{Number, Fresh as FreshNumber}
use Rattle.pc_plan.specs.declared.change.Add.{Add}
use Rattle.pc_plan.specs.declared.change.Fresh.{Fresh}
use Rattle.pc_plan.specs.Lawful.{FitsWord}
use Rattle.pc_plan.specs.Runs.{number_at, change_at, fresh_fields}
use Rattle.pc_plain.specs.PlainCells.{limit, AreBelowLimits, kept, kept_cells}
use Rattle.pc_plain.specs.PlainWriting.{with_adds, AreWordsOf, FreshFits}

pub kept_small : (x : ℕ) → kept Version x < 1152921504606846970
kept_small x = cond_both (nat_lt x 1152921504606846970) x (x % 2) (λ y. y < 1152921504606846970)
    (λ e. ltb-below x e) (λ e. omega arith)
  where
    ltb-below : (x : ℕ) → nat_lt x 1152921504606846970 ≡ true → x < 1152921504606846970
    ltb-below x e = ⊎_elim (λ h. h)
        (λ h. absurd (let t : nat_lt x 1152921504606846970 ≡ false = le-ltb x 1152921504606846970 h in
        let q : true ≡ false = sym e ∙ t in cc)) (cases_lt x 1152921504606846970)

-- what is below its limit is kept
pub kept_below : (f : Field) (x : ℕ) → x < limit f → kept f x ≡ x
kept_below Version x h = cond-true (nat_lt x 1152921504606846970) x (x % 2) (lt-ltb x 1152921504606846970 h)
kept_below Key x h = refl
kept_below Value x h = refl
kept_below Left x h = refl
kept_below Right x h = refl
kept_below Parent x h = refl
kept_below Height x h = refl
kept_below Spare x h = refl

-- a version keeps its parity
pub kept_parity : (x : ℕ) → kept Version x % 2 ≡ x % 2
kept_parity x = cond_both (nat_lt x 1152921504606846970) x (x % 2) (λ y. y % 2 ≡ x % 2) (λ _. refl) (λ _. omega arith)

pub kept_same : (c : Cells) → AreBelowLimits c → kept_cells c ≡ c
kept_same c below = λ i n f. kept_below f (c n f) (below n f) i

kept_cond : (f : Field) (b : Bool) (x y : ℕ) → kept f (cond b x y) ≡ cond b (kept f x) (kept f y)
kept_cond f true x y = refl
kept_cond f false x y = refl

kept_written_at : (n : ℕ) (f : Field) (v : ℕ) (c : Cells) (m : ℕ) (g : Field)
    → kept g (written n f v c m g) ≡ written n f (kept f v) (kept_cells c) m g
kept_written_at n f v c m g =
    let s : Bool = m == n in let t : Bool = field_number g == field_number f in
    kept_cond g t (cond s v (c m g)) (c m g) ∙ ⊎_elim
    (λ e. cond-true t (kept g (cond s v (c m g))) (kept g (c m g)) e ∙ kept_cond g s v (c m g)
    ∙ (let same : g ≡ f = same_field g f (eqb-true (field_number g) (field_number f) e) in
    ap (λ (h : Field). cond s (kept h v) (kept g (c m g))) same)
    ∙ sym (cond-true t (cond s (kept f v) (kept g (c m g))) (kept g (c m g)) e))
    (λ e. cond-false t (kept g (cond s v (c m g))) (kept g (c m g)) e
    ∙ sym (cond-false t (cond s (kept f v) (kept g (c m g))) (kept g (c m g)) e))
    (cases_Bool t)

pub kept_written : (n : ℕ) (f : Field) (v : ℕ) (c : Cells)
    → kept_cells (written n f v c) ≡ written n f (kept f v) (kept_cells c)
kept_written n f v c = λ i m g. kept_written_at n f v c m g i

pub kept_node : (slot : ℕ) (fields : Field → ℕ) (c : Cells)
    → kept_cells (with_node slot fields c) ≡ with_node slot (λ f. kept f (fields f)) (kept_cells c)
kept_node slot fields c = λ i m g. kept_cond g (m == slot) (fields g) (c m g) i

-- words written one after another as they are kept are the kept cells after all changes
pub kept_adds : (slot : ℕ) (adds : List Add) (c : Cells)
    → with_adds slot adds (kept_cells c) ≡ kept_cells (with_changes (map (change_at slot) adds) c)
kept_adds slot [] c = refl
kept_adds slot (a ∷ adds) c =
    let v : ℕ = number_at slot a.new in
    let here : written a.node a.field (kept a.field v) (kept_cells c) ≡ kept_cells (written a.node a.field v c)
    = sym (kept_written a.node a.field v c) in
    ap (λ (d : Cells). with_adds slot adds d) here ∙ kept_adds slot adds (written a.node a.field v c)

node_written_at : (c : Cells) (slot version : ℕ) (fresh : Fresh) (m : ℕ) (g : Field)
    → written slot Spare 0
    (written slot Height fresh.height
    (written slot Parent fresh.parent
    (written slot Right 0
    (written slot Left 0 (written slot Value fresh.value
    (written slot Key fresh.key (written slot Version (kept Version (version + 1)) c))))))) m g
    ≡ with_node slot (λ f. kept f (fresh_fields version fresh f)) c m g
node_written_at c slot version fresh m Version = refl
node_written_at c slot version fresh m Key = refl
node_written_at c slot version fresh m Value = refl
node_written_at c slot version fresh m Left = refl
node_written_at c slot version fresh m Right = refl
node_written_at c slot version fresh m Parent = refl
node_written_at c slot version fresh m Height = refl
node_written_at c slot version fresh m Spare = refl

-- the eight fields of a fresh node written one after another are the node written
pub node_written : (c : Cells) (slot version : ℕ) (fresh : Fresh)
    → written slot Spare 0
    (written slot Height fresh.height
    (written slot Parent fresh.parent
    (written slot Right 0
    (written slot Left 0 (written slot Value fresh.value
    (written slot Key fresh.key (written slot Version (kept Version (version + 1)) c)))))))
    ≡ with_node slot (λ f. kept f (fresh_fields version fresh f)) c
node_written c slot version fresh = λ i m g. node_written_at c slot version fresh m g i

below_cond : (b : Bool) (x y z : ℕ) → x < z → y < z → cond b x y < z
below_cond true x y z h k = h
below_cond false x y z h k = k

-- cells stay below their limits where what is written is
pub below_written : (n : ℕ) (f : Field) (v : ℕ) (c : Cells) → v < limit f → AreBelowLimits c
    → AreBelowLimits (written n f v c)
below_written n f v c small below m g = cond_both (field_number g == field_number f) (cond (m == n) v (c m g)) (c m g)
    (λ y. y < limit g)
    (λ e. let same : g ≡ f = same_field g f (eqb-true (field_number g) (field_number f) e) in
    below_cond (m == n) v (c m g) (limit g) (subst (λ (h : Field). v < limit h) (sym same) small) (below m g))
    (λ e. below m g)

pub below_node : (slot : ℕ) (fields : Field → ℕ) (c : Cells) → ((f : Field) → fields f < limit f) → AreBelowLimits c
    → AreBelowLimits (with_node slot fields c)
below_node slot fields c small below m g = below_cond (m == slot) (fields g) (c m g) (limit g) (small g) (below m g)

-- what a word of an exchange gets stays below its field's limit
word_below : (slot : ℕ) (f : Field) (to : To) → slot < 4294967296 → FitsWord to → kept f (number_at slot to) < limit f
word_below slot Version to small fits = kept_small (number_at slot to)
word_below slot Key (Number x) small fits = omega arith
word_below slot Key FreshNumber small fits = omega arith
word_below slot Value (Number x) small fits = omega arith
word_below slot Value FreshNumber small fits = omega arith
word_below slot Left (Number x) small fits = omega arith
word_below slot Left FreshNumber small fits = omega arith
word_below slot Right (Number x) small fits = omega arith
word_below slot Right FreshNumber small fits = omega arith
word_below slot Parent (Number x) small fits = omega arith
word_below slot Parent FreshNumber small fits = omega arith
word_below slot Height (Number x) small fits = omega arith
word_below slot Height FreshNumber small fits = omega arith
word_below slot Spare (Number x) small fits = omega arith
word_below slot Spare FreshNumber small fits = omega arith

pub below_adds : (slots slot : ℕ) (adds : List Add) (c : Cells) → slot < 4294967296 → AreWordsOf slots adds
    → AreBelowLimits c → AreBelowLimits (with_adds slot adds c)
below_adds slots slot [] c small words below = below
below_adds slots slot (a ∷ adds) c small words below =
    let x : ℕ = kept a.field (number_at slot a.new) in
    below_adds slots slot adds (written a.node a.field x c) small words.1
    (below_written a.node a.field x c (word_below slot a.field a.new small words.0.1) below)

pub fresh_below : (version : ℕ) (fresh : Fresh) → FreshFits fresh → fresh.parent < 4294967296 → (f : Field)
    → kept f (fresh_fields version fresh f) < limit f
fresh_below version fresh fits parent Version = kept_small (version + 1)
fresh_below version fresh fits parent Key = omega (arith, fits.key)
fresh_below version fresh fits parent Value = omega (arith, fits.value)
fresh_below version fresh fits parent Left = omega arith
fresh_below version fresh fits parent Right = omega arith
fresh_below version fresh fits parent Parent = omega arith
fresh_below version fresh fits parent Height = omega (arith, fits.height)
fresh_below version fresh fits parent Spare = omega arith
