-- A word of the own install's descriptor that stands there already is as if it had been stored.
use Rattle.std.proofs.Common.{◌≡◌, ℕ, zero, suc, ◌≤◌, true, ap, arith}
use Rattle.pc_rule_law.specs.Conditions.{CanStore}
use Rattle.pc_rule_law.specs.Plays.{after_store}
use Rattle.pc_rule_law.specs.Views.{View, own_install_word}

pub can_store : (v : View) (place x : ℕ) → 1 ≤ place → v.fresh ≡ true → CanStore v place x
can_store v zero x le fresh = absurd (omega arith)
can_store v (suc place) x le fresh = fresh

pub stands_already : (v : View) (place x : ℕ) → 1 ≤ place → own_install_word v.install place ≡ x → v ≡ after_store v place x
stands_already v zero x le is = absurd (omega arith)
stands_already v (suc zero) x le is = ap (λ (y : ℕ). record v { install = record v.install { op = y } }) is
stands_already v (suc (suc zero)) x le is = ap (λ (y : ℕ). record v { install = record v.install { place = y } }) is
stands_already v (suc (suc (suc place))) x le is = ap (λ (y : ℕ). record v { install = record v.install { old = y } }) is
