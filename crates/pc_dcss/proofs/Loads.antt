-- What four loads of an install's descriptor tell, its number last.
use Rattle.std.proofs.Common.{◌≡◌, ◌≢◌, ℕ, ◌+◌, ◌-◌, sym, subst, refl, arith}
use Rattle.pc_rule_law.specs.Past.{Has}
use Rattle.pc_rule_law.specs.Views.{View, placed, loaded, removed}
use Rattle.pc_rule_law.specs.Plays.{InstallLoaded}
use Rattle.pc_dcss.specs.Installs.{HasMet, KnowsNumbers}

-- the pass whose number is one above a seat
pub of_seat : (q : ℕ) → (q + 1) - 1 ≡ q
of_seat q = omega arith

module _ (q k op place old number : ℕ) (v0 v1 v2 v3 v4 : View) (met : HasMet v0 q k)
    (one : InstallLoaded v0 q 1 op v1) (two : InstallLoaded v1 q 2 place v2) (three : InstallLoaded v2 q 3 old v3)
    (four : InstallLoaded v3 q 0 number v4) where
  met1 : Has v1.notes (placed q k met.0 met.1)
  met1 = one.later.more (placed q k met.0 met.1) met.2

  met2 : Has v2.notes (placed q k met.0 met.1)
  unfolding met1
  met2 = two.later.more (placed q k met.0 met.1) met1

  met3 : Has v3.notes (placed q k met.0 met.1)
  unfolding met2
  met3 = three.later.more (placed q k met.0 met.1) met2

  -- where the number is that of the install, the words are the install's
  pub loads_known : number ≡ k → KnowsNumbers v4 q k op place old
  unfolding met1 met2
  loads_known e = let told : InstallLoaded v3 q 0 k v4 = subst (λ r. InstallLoaded v3 q 0 r v4) e four in (
    told.settles refl 1 op (three.later.more (loaded q k 1 op) (two.later.more (loaded q k 1 op) (one.loads k met.0 met.1 met.2))),
    told.settles refl 2 place (three.later.more (loaded q k 2 place) (two.loads k met.0 met.1 met1)),
    told.settles refl 3 old (three.loads k met.0 met.1 met2),
  )

  -- and else it was taken away
  pub loads_gone : number ≢ k → Has v4.notes (removed q k)
  unfolding met3
  loads_gone ne = four.removes refl k met.0 met.1 met3 (λ e. ne (sym e))
