-- Links: the node that one names, and what the field of a link is not.
use Rattle.std.proofs.Common.{◌≡◌, ◌≢◌, ℕ, ◌≤◌, ◌==◌, ◌⊎◌, ⊎_elim, if◌then◌else◌, false, Some, None, sym, ◌∙◌, subst}
use Rattle.std.proofs.Common.{arith}
use Rattle.std.specs.Prelude.{nat_lt}
use Rattle.std.proofs.lemmas.Bool.{cases_Bool, eqb-false, ne_eqb, le-ltb, cond-true, cond-false}
use Rattle.pc_model.specs.declared.cell.Field.{Field}
use Rattle.pc_model.specs.declared.cell.Field.TheVariants.{Version, Key, Value, Left, Right, Parent, Height}
use Rattle.pc_model.specs.Cells.{node_at}

-- a link that names a node is its number, which isn't 0
pub node_at-some : (x m : ℕ) → node_at x ≡ Some m → (x ≡ m) × (m ≢ 0)
node_at-some x m e = ⊎_elim
    (λ zero_test. let none : node_at x ≡ None = cond-true (x == 0) None
    (if nat_lt 4294967295 x then None else Some x) zero_test in absurd (cc))
    (λ test. ⊎_elim
    (λ large. let none : node_at x ≡ None = cond-false (x == 0) None
    (if nat_lt 4294967295 x then None else Some x) test ∙ cond-true (nat_lt 4294967295 x) None (Some x) large in
    absurd (cc))
    (λ small. let some : node_at x ≡ Some x = cond-false (x == 0) None
    (if nat_lt 4294967295 x then None else Some x) test ∙ cond-false (nat_lt 4294967295 x) None (Some x) small in
    let same : x ≡ m = cc in let not_zero : x ≢ 0 = eqb-false x 0 test in (same, λ z. not_zero (same ∙ z)))
    (cases_Bool (nat_lt 4294967295 x)))
    (cases_Bool (x == 0))

-- the number of a node is a link to it
pub node_at-node : (n : ℕ) → 1 ≤ n → n ≤ 4294967295 → node_at n ≡ Some n
node_at-node n above below =
    let not_zero : (n == 0) ≡ false = ne_eqb n 0 (λ e. absurd (omega arith)) in
    let small : nat_lt 4294967295 n ≡ false = le-ltb 4294967295 n below in
    cond-false (n == 0) None (if nat_lt 4294967295 n then None else Some n) not_zero
    ∙ cond-false (nat_lt 4294967295 n) None (Some n) small

-- a link is none of the other fields of a node
pub record IsLinkAlone (side : Field) : Type 0 where
  pub version : Version ≢ side
  pub key : Key ≢ side
  pub value : Value ≢ side
  pub parent : Parent ≢ side
  pub height : Height ≢ side

left_alone : IsLinkAlone Left
left_alone = record { version = λ e. cc; key = λ e. cc; value = λ e. cc; parent = λ e. cc; height = λ e. cc }

right_alone : IsLinkAlone Right
right_alone = record { version = λ e. cc; key = λ e. cc; value = λ e. cc; parent = λ e. cc; height = λ e. cc }

pub link_alone : (side : Field) → (side ≡ Left) ⊎ (side ≡ Right) → IsLinkAlone side
link_alone side link = ⊎_elim (λ e. subst IsLinkAlone (sym e) left_alone)
    (λ e. subst IsLinkAlone (sym e) right_alone) link
