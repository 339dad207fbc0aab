-- The visits of an exchange, one after the other: which of its changes are of the version of a node, and which visits have passed.
use Rattle.std.proofs.Common.{◌≡◌, ◌≢◌, ℕ, ◌+◌, ◌*◌, ◌<◌, Option, Some, None, IfSome, IfNone, sym, subst, arith}
use mathlib.Core.Logic.{dite}
use native.Mathlib.Decide.{ℕ_discrete}
use Rattle.pc_model.specs.declared.cell.Field.{Field}
use Rattle.pc_model.specs.declared.cell.Field.TheVariants.{Version}
use Rattle.pc_rule_law.specs.Board.{place_number}
use Rattle.pc_rule_law.specs.Plays.{AddsNotes}
use Rattle.pc_rule_law.proofs.Places.{one_word}
use Rattle.pc_exchange_law.specs.Attempts.{KnowsEntry}
use Rattle.pc_exchange_law.specs.ExchangeConditions.{KnowsPassed}
use Rattle.pc_exchange_law.specs.Wholes.{Whole}
use Rattle.pc_rule.specs.declared.opening.Place.{Place}
use Rattle.pc_rule.specs.declared.refs.Ref.{Ref}
use Rattle.pc_kcas.specs.Checking.{KnowsWordOf, KnowsVisitOf, ChangesFrom, HasPassedAt, HasFailed}
use Rattle.pc_kcas.specs.Settling.{HasLearnt}
use Rattle.pc_kcas.specs.declared.checking.Failed.{Failed}
use Rattle.pc_kcas.proofs.Learning.{word_still}
use Rattle.pc_kcas.proofs.VisitChecks.{passed_at_still, failed_since}

-- a change whose word is the version of the node
pub changes_by : (y : Whole) (op : Ref) (i n : ℕ) (at : Place) → KnowsEntry y.knows.noted y.view.seat y.knows.own op.seat op.number i at.node at.field at.old at.new
    → place_number at.node at.field ≡ place_number n Version → ChangesFrom y op n (Some at.old)
changes_by y op i n at entry same = let w = one_word at.node n at.field Version same in (
  i,
  at.new,
  subst (λ (k : ℕ). KnowsEntry y.knows.noted y.view.seat y.knows.own op.seat op.number i k Version at.old at.new) w.0
      (subst (λ (f : Field). KnowsEntry y.knows.noted y.view.seat y.knows.own op.seat op.number i at.node f at.old at.new) w.1 entry),
)

-- the change at this index is of another word
abbrev pub IsOther : Whole → Ref → ℕ → ℕ → Type 0
IsOther y op n k = (place : ℕ) × KnowsWordOf y op (3 + 3 * k) place × (place ≢ place_number n Version)

pub others_more : (x y : Whole) → HasLearnt x y → (op : Ref) (n i : ℕ) → ((k : ℕ) → k < i → IsOther x op n k) → IsOther y op n i
    → (k : ℕ) → k < i + 1 → IsOther y op n k
others_more x y l op n i before last k lt = dite (ℕ_discrete k i)
    (λ (here : k ≡ i). subst (IsOther y op n) (sym here) last)
    (λ other. let e = before k (omega arith) in (e.0, word_still x y l op.seat op.number (3 + 3 * k) e.0 e.1, e.2))

pub passed_more : (x y : Whole) → HasLearnt x y → (op : Ref) (s i : ℕ) → ((k : ℕ) → k < i → HasPassedAt x op s k) → HasPassedAt y op s i
    → (k : ℕ) → k < i + 1 → HasPassedAt y op s k
passed_more x y l op s i before last k lt = dite (ℕ_discrete k i)
    (λ (here : k ≡ i). subst (HasPassedAt y op s) (sym here) last)
    (λ other. passed_at_still x y l op s k (before k (omega arith)))

-- what a check answers
pub passed_if : (y : Whole) (op : Ref) (s i n v : ℕ) (o : Option Failed) → KnowsVisitOf y op i n v
    → IfNone o (KnowsPassed y.view y.knows op.seat op.number s n v) → IfNone o (HasPassedAt y op s i)
passed_if y op s i n v (Some f) visit p = tt
passed_if y op s i n v None visit p = (n, v, visit, p)

pub failed_if : (o x y : Whole) (op : Ref) (s : ℕ) (f : Option Failed) → AddsNotes o.view x.view → IfSome f (HasFailed x y op s) → IfSome f (HasFailed o y op s)
failed_if o x y op s (Some f) adds h = failed_since o x y op s f adds h
failed_if o x y op s None adds h = tt
