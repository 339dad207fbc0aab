-- The exchanges of every plan fit the form of its cells, and each settles only what it may.
use Rattle.std.proofs.Common.{◌≡◌, ℕ, ◌+◌, ◌≤◌, ◌⊎◌, inl, inr, ⊎_elim, true, false, List, [], Option, Some, None, refl}
use Rattle.std.proofs.Common.{sym, ap, ◌∙◌, subst, arith}
use Rattle.std.specs.Prelude.{map, IsTrue, IfSome}
use Rattle.std.proofs.lemmas.Bool.{cases_Bool}
use Rattle.pc_model.specs.declared.owed.Settle.{Settle}
use Rattle.pc_model.specs.declared.owed.Settle.TheVariants.{Nothing, Release, First, Raise}
use Rattle.pc_model.specs.declared.cell.Field.TheVariants.{Version as VersionField}
use Rattle.pc_model.specs.declared.call.Reply.{Reply}
use Rattle.pc_model.specs.Cells.{Cells, IsOdd, IsSlot}
use Rattle.pc_model.specs.Debts.{has}
use Rattle.pc_model.specs.Exchanges.{Exchange, FreshNode, Stands, FreshStands, applied}
use Rattle.pc_model.specs.Forms.{Form, IsSound, Fits, MaySettle}
use Rattle.pc_plan.specs.declared.change.Fresh.{Fresh}
use Rattle.pc_plan.specs.declared.plan.Ask.{Ask}
use Rattle.pc_plan.specs.declared.plan.Ask.TheVariants.{Change, Answer}
use Rattle.pc_plan.specs.declared.plan.Told.{Told}
use Rattle.pc_plan.specs.Planned.{Planned}
use Rattle.pc_plan.specs.Terms.{Terms}
use Rattle.pc_plan.specs.Traces.{Event, visits_in, reads_in}
use Rattle.pc_plan.specs.Runs.{change_at, fresh_at, exchange_of, SettlesIn, IsRightChange, IsRightAsk, Runs, reached}
use Rattle.pc_plan.specs.Runs.{past_of, AgreesWith}
use Rattle.pc_plan.specs.Fitting.{read_of, HasSlot, Asks, ExchangesFit}
use Rattle.pc_plan.proofs.Agreement.{standing_is_agreeing}

-- a key is charged, or the statement holds that needs to be shown only where it isn't
charged_or : (k : ℕ) (charged : List ℕ) {A : Type 0} → ((has k charged ≡ false) → A) → IsTrue (has k charged) ⊎ A
charged_or k charged f = ⊎_elim (λ e. inl e) (λ e. inr (f e)) (cases_Bool (has k charged))

not_charged : (k : ℕ) (charged : List ℕ) {A : Type 0} → has k charged ≡ false → IsTrue (has k charged) ⊎ A → A
not_charged k charged out h = ⊎_elim (λ e. absurd (let x : true ≡ false = sym e ∙ out in cc)) (λ a. a) h

-- what settles right in whatever sound cells an exchange leaves may be settled by it
may_settle : (form : Form) (slots : ℕ) (e : Exchange) (charged : List ℕ) (lower : ℕ) (s : Settle)
    → ((c : Cells) → IsSound form slots c → Stands e c → SettlesIn form slots (applied e c) charged lower s)
    → MaySettle form slots e charged lower s
may_settle form slots e charged lower Nothing h = tt
may_settle form slots e charged lower (First k) h = tt
may_settle form slots e charged lower (Release k) h = charged_or k charged (λ out c sound stands. not_charged k charged
    out (h c sound stands))
may_settle form slots e charged lower (Raise to) h = λ k from below. charged_or k charged
    (λ out c sound stands. not_charged k charged out (h c sound stands k from below))

-- the version at which a fresh node takes its slot is the slot's
same_fresh : (fresh : Option Fresh) (slot version : ℕ) (c : Cells) → FreshStands c (fresh_at slot version fresh)
    → fresh_at slot version fresh ≡ fresh_at slot (c slot VersionField) fresh
same_fresh None slot version c stands = refl
same_fresh (Some x) slot version c stands =
    let e : version + 1 ≡ c slot VersionField + 1 = stands.1 in
    let same : version ≡ c slot VersionField = omega (arith, e) in
    ap (λ (v : ℕ). fresh_at slot v (Some x)) same

same_exchange : (past : List Event) (p : Planned) (slot version : ℕ) (c : Cells)
    → Stands (exchange_of past p slot version) c
    → exchange_of past p slot version ≡ exchange_of past p slot (c slot VersionField)
same_exchange past p slot version c stands =
    ap (λ (f : Option FreshNode). record {
      visits = visits_in past;
      reads = reads_in past;
      changes = map
          (change_at slot) p.adds;
      fresh = f;
    })
    (same_fresh p.fresh slot version c stands.fresh)

takes_slot : (fresh : Option Fresh) (slots slot version : ℕ) (c : Cells) → IfSome fresh (λ _. IsSlot slots slot)
    → FreshStands c (fresh_at slot version fresh)
    → IfSome fresh (λ _. IsSlot slots slot × IsOdd (c slot VersionField))
takes_slot None slots slot version c has_slot stands = tt
takes_slot (Some x) slots slot version c has_slot stands = (has_slot, stands.0)

module _ {P C : Type 0} (start : C → P) (moves : P → Told → P × Ask) (can_call : C → Type 0) (terms : C
    → Terms) (form : Form) (runs : Runs start moves can_call terms form)
    (slots : ℕ) (call : C) (ts : List Told) (few : slots ≤ 61000) (can : can_call call) where
  abbrev past : List Event
  past = past_of start moves call ts

  right_ask : (c : Cells) (a : Ask) → (sound : IsSound form slots c) → AgreesWith start moves c call ts
      → (reached start moves call ts).1 ≡ a
      → IsRightAsk form slots c sound.0 (terms call) past a
  right_ask c a sound agrees is =
      subst (IsRightAsk form slots c sound.0 (terms call) past) is
      (runs.goes slots c sound.0 call ts (record { few = few; is_sound = sound.1 }) can agrees)

  module _ (p : Planned) (slot version : ℕ) (asks : Asks start moves call ts (Change p)) (has_slot : HasSlot slots p
      slot) where
    abbrev e : Exchange
    e = exchange_of past p slot version

    right_there : (c : Cells) → (sound : IsSound form slots c) → Stands e c
        → IsRightChange form slots c past ((terms call).step sound.0).pairs p slot × SettlesIn form slots (applied e c)
        p.charged (terms call).lower ((terms call).settles p.reply)
    right_there c sound stands =
        let agrees : AgreesWith start moves c call ts = (standing_is_agreeing start moves).change c call ts p slot
        version asks stands in
        let right : IsRightAsk form slots c sound.0 (terms call) past (Change p) = right_ask c (Change p) sound agrees
        asks.1 in
        let same : e ≡ exchange_of past p slot (c slot VersionField) = same_exchange past p slot version c stands in
        let at : IsRightChange form slots c past ((terms call).step sound.0).pairs p slot × SettlesIn form slots
        (applied (exchange_of past p slot (c slot VersionField)) c) p.charged (terms call).lower
        ((terms call).settles p.reply)
        = right.1 slot (takes_slot p.fresh slots slot version c has_slot stands.fresh) in (
          at.0,
          subst (λ (x : Exchange). SettlesIn form slots (applied x c) p.charged (terms call).lower
              ((terms call).settles p.reply)) (sym same) at.1,
        )

    fits_there : Fits form slots e p.charged
    fits_there = record {
      leaves = λ c sound stands.
          let same : e ≡ exchange_of past p slot (c slot VersionField) =
          same_exchange past p slot version c stands in (
            ((terms call).step sound.0).pairs,
            subst (λ (x : Exchange). form.sound slots (applied x c)
                ((terms call).step sound.0).pairs) (sym same) (right_there c sound stands).0.leaves,
          );
      charges = λ c k sound stands.
          let same : e ≡ exchange_of past p slot (c slot VersionField) = same_exchange past p slot version c stands in
          subst (λ (x : Exchange). form.in_debt slots (applied x c) k → form.in_debt slots c k ⊎ IsTrue
          (has k p.charged)) (sym same) ((right_there c sound stands).0.charges k);
    }

    settles_there : MaySettle form slots e p.charged (terms call).lower ((terms call).settles p.reply)
    settles_there = may_settle form slots e p.charged (terms call).lower ((terms call).settles p.reply)
        (λ c sound stands. (right_there c sound stands).1)

  read_settles_there : (r : Reply) → Asks start moves call ts (Answer r) → MaySettle form slots (read_of past) []
      (terms call).lower ((terms call).settles r)
  read_settles_there r asks = may_settle form slots (read_of past) [] (terms call).lower ((terms call).settles r)
      (λ c sound stands.
      let agrees : AgreesWith start moves c call ts = (standing_is_agreeing start moves).answer c call ts r asks
      stands in
      (right_ask c (Answer r) sound agrees asks.1).2)

pub exchanges_fit : {P C : Type 0} (start : C → P) (moves : P → Told → P × Ask) (can_call : C → Type 0) (terms : C
    → Terms) (form : Form) → Runs start moves can_call terms form
    → ExchangesFit start moves can_call terms form
exchanges_fit start moves can_call terms form runs = record {
  fits = λ slots call ts p slot version few can asks has_slot. fits_there start moves can_call terms form runs slots
      call ts few can p slot version asks has_slot;
  settles = λ slots call ts p slot version few can asks has_slot. settles_there start moves can_call terms form runs
      slots call ts few can p slot version asks has_slot;
  read_settles = λ slots call ts r few can asks. read_settles_there start moves can_call terms form runs slots call ts
      few can r asks;
}
