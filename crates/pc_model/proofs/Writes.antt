-- What cells hold after a word or a whole node is written, and after an exchange.
use Rattle.std.proofs.Common.{◌≡◌, ◌≢◌, ℕ, zero, suc, ◌%◌, ◌==◌, ⊎_elim, if◌then◌else◌, Bool, true, false}
use Rattle.std.proofs.Common.{List, [], ◌∷◌, Option, Some, None, refl, sym, ap, ◌∙◌}
use Rattle.std.proofs.lemmas.Bool.{cases_eq, eq-eqb, ne_eqb, cond-true, cond-false}
use Rattle.pc_model.specs.declared.cell.Field.{Field}
use Rattle.pc_model.specs.declared.cell.Field.TheVariants.{Version, Key, Value, Left, Right, Parent, Height, Spare}
use Rattle.pc_model.specs.Cells.{Cells, field_number, written, with_node}
use Rattle.pc_model.specs.Exchanges.{Changed, FreshNode, Exchange, with_changes, with_fresh, applied}

-- the field with a number
abbrev field_at : ℕ → Field
field_at zero = Version
field_at (suc zero) = Key
field_at (suc (suc zero)) = Value
field_at (suc (suc (suc zero))) = Left
field_at (suc (suc (suc (suc zero)))) = Right
field_at (suc (suc (suc (suc (suc zero))))) = Parent
field_at (suc (suc (suc (suc (suc (suc zero)))))) = Height
field_at _ = Spare

field_at-number : (f : Field) → field_at (field_number f) ≡ f
field_at-number Version = refl
field_at-number Key = refl
field_at-number Value = refl
field_at-number Left = refl
field_at-number Right = refl
field_at-number Parent = refl
field_at-number Height = refl
field_at-number Spare = refl

-- fields of one number are one field
pub same_field : (f g : Field) → field_number f ≡ field_number g → f ≡ g
same_field f g e = sym (field_at-number f) ∙ ap field_at e ∙ field_at-number g

pub written-here : (n : ℕ) (f : Field) (v : ℕ) (c : Cells) → written n f v c n f ≡ v
written-here n f v c = cond-true (field_number f == field_number f) (if n == n then v else c n f) (c n f)
    (eq-eqb (field_number f) (field_number f) refl) ∙ cond-true (n == n) v (c n f) (eq-eqb n n refl)

both_the_same : {A : Type 0} (b : Bool) (x : A) → (if b then x else x) ≡ x
both_the_same true x = refl
both_the_same false x = refl

pub written-other_node : (n : ℕ) (f : Field) (v : ℕ) (c : Cells) (m : ℕ) (g : Field) → m ≢ n
    → written n f v c m g ≡ c m g
written-other_node n f v c m g ne =
    (λ i. if field_number g == field_number f then cond-false (m == n) v (c m g) (ne_eqb m n ne) i else c m g)
    ∙ both_the_same (field_number g == field_number f) (c m g)

pub written-other_field : (n : ℕ) (f : Field) (v : ℕ) (c : Cells) (m : ℕ) (g : Field) → field_number g ≢ field_number f
    → written n f v c m g ≡ c m g
written-other_field n f v c m g ne = cond-false (field_number g == field_number f) (if m == n then v else c m g)
    (c m g) (ne_eqb (field_number g) (field_number f) ne)

-- a word that isn't the written one
pub written-else : (n : ℕ) (f : Field) (v : ℕ) (c : Cells) (m : ℕ) (g : Field) → (m ≡ n → g ≢ f)
    → written n f v c m g ≡ c m g
written-else n f v c m g ne = ⊎_elim (λ e. written-other_field n f v c m g (λ d. ne e (same_field g f d)))
    (λ d. written-other_node n f v c m g d) (cases_eq m n)

pub with_node-here : (n : ℕ) (fields : Field → ℕ) (c : Cells) (g : Field) → with_node n fields c n g ≡ fields g
with_node-here n fields c g = cond-true (n == n) (fields g) (c n g) (eq-eqb n n refl)

pub with_node-other : (n : ℕ) (fields : Field → ℕ) (c : Cells) (m : ℕ) (g : Field) → m ≢ n
    → with_node n fields c m g ≡ c m g
with_node-other n fields c m g ne = cond-false (m == n) (fields g) (c m g) (ne_eqb m n ne)

-- After an exchange

-- none of the changes is of this word
abbrev pub IsUnchanged : ℕ → Field → List Changed → Type 0
IsUnchanged m f [] = Unit {0}
IsUnchanged m f (a ∷ changes) = (m ≡ a.node → f ≢ a.field) × IsUnchanged m f changes

-- the node isn't the fresh one
abbrev pub IsNotFresh : ℕ → Option FreshNode → Type 0
IsNotFresh m None = Unit {0}
IsNotFresh m (Some fresh) = m ≢ fresh.node

-- each change of the node's version is to the parity that it has in these cells
abbrev pub KeepsParity : Cells → ℕ → List Changed → Type 0
KeepsParity c m [] = Unit {0}
KeepsParity c m (a ∷ changes) = (m ≡ a.node → Version ≡ a.field → a.new % 2 ≡ c m Version % 2)
    × KeepsParity c m changes

pub with_changes-else : (changes : List Changed) (c : Cells) (m : ℕ) (f : Field) → IsUnchanged m f changes
    → with_changes changes c m f ≡ c m f
with_changes-else [] c m f un = refl
with_changes-else (a ∷ changes) c m f un = with_changes-else changes (written a.node a.field a.new c) m f un.1
    ∙ written-else a.node a.field a.new c m f un.0

-- the word of a change that no later one is of
pub with_changes-here : (a : Changed) (changes : List Changed) (c : Cells) → IsUnchanged a.node a.field changes
    → with_changes (a ∷ changes) c a.node a.field ≡ a.new
with_changes-here a changes c un = with_changes-else changes (written a.node a.field a.new c) a.node a.field un
    ∙ written-here a.node a.field a.new c

-- the word of a change, where the word is given by equations
written-there : (a : Changed) (d : Cells) (m : ℕ) (f : Field) → m ≡ a.node → f ≡ a.field
    → written a.node a.field a.new d m f ≡ a.new
written-there a d m f node field =
    (λ i. written a.node a.field a.new d (node i) (field i)) ∙ written-here a.node a.field a.new d

written-parity : (c : Cells) (m : ℕ) (a : Changed) (d : Cells)
    → (m ≡ a.node → Version ≡ a.field → a.new % 2 ≡ c m Version % 2)
    → d m Version % 2 ≡ c m Version % 2 → written a.node a.field a.new d m Version % 2 ≡ c m Version % 2
written-parity c m a d keeps same = ⊎_elim
    (λ node. ⊎_elim
    (λ number. let field : Version ≡ a.field = same_field Version a.field number in
    ap (λ (x : ℕ). x % 2) (written-there a d m Version node field) ∙ keeps node field)
    (λ number. ap (λ (x : ℕ). x % 2) (written-other_field a.node a.field a.new d m Version number) ∙ same)
    (cases_eq (field_number Version) (field_number a.field)))
    (λ node. ap (λ (x : ℕ). x % 2) (written-other_node a.node a.field a.new d m Version node) ∙ same)
    (cases_eq m a.node)

with_changes-parity : (c : Cells) (m : ℕ) (changes : List Changed) (d : Cells) → KeepsParity c m changes
    → d m Version % 2 ≡ c m Version % 2 → with_changes changes d m Version % 2 ≡ c m Version % 2
with_changes-parity c m [] d keeps same = same
with_changes-parity c m (a ∷ changes) d keeps same =
    with_changes-parity c m changes (written a.node a.field a.new d) keeps.1 (written-parity c m a d keeps.0 same)

with_fresh-other : (fresh : Option FreshNode) (c : Cells) (m : ℕ) (f : Field) → IsNotFresh m fresh
    → with_fresh fresh c m f ≡ c m f
with_fresh-other None c m f other = refl
with_fresh-other (Some fresh) c m f other = with_node-other fresh.node fresh.fields c m f other

module _ (e : Exchange) (c : Cells) (m : ℕ) where
  -- a word that the exchange doesn't change
  pub applied-else : (f : Field) → IsUnchanged m f e.changes → IsNotFresh m e.fresh → applied e c m f ≡ c m f
  applied-else f un other = with_changes-else e.changes (with_fresh e.fresh c) m f un
      ∙ with_fresh-other e.fresh c m f other

  -- a version whose parity the exchange keeps
  pub applied-parity : KeepsParity c m e.changes → IsNotFresh m e.fresh → applied e c m Version % 2 ≡ c m Version % 2
  applied-parity keeps other = with_changes-parity c m e.changes (with_fresh e.fresh c) keeps
      (ap (λ (x : ℕ). x % 2) (with_fresh-other e.fresh c m Version other))
