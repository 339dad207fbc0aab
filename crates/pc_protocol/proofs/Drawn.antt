-- An exchange that isn't decided, at a stamp that was drawn for it: nothing stands there yet, its words have their old
-- numbers there and now, and no other exchange writes them.
use Rattle.std.proofs.Common.{◌≡◌, ◌≢◌, ℕ, ◌+◌, ◌%◌, ◌<◌, ◌≤◌, inl, inr, ⊎_elim, Option, Some, None, refl, sym, ap, ◌∙◌}
use Rattle.std.proofs.Common.{subst, arith, le_of_lt}
use Rattle.std.proofs.lemmas.Bool.{cases_eq}
use Rattle.pc_model.specs.declared.cell.Field.{Field}
use Rattle.pc_model.specs.declared.cell.Field.TheVariants.{Version}
use Rattle.pc_model.specs.Cells.{IsOdd}
use Rattle.pc_model.specs.Exchanges.{Visited, Changed, FreshNode, Exchange, FreshStands}
use Rattle.pc_history.specs.Footprints.{IsAmong, LeavesWord, Writes, WritesMiss, RaisesVersionOf, IsWellFormed}
use Rattle.pc_history.specs.Runs.{OnItem}
use Rattle.pc_history.proofs.Footprints.{misses_back, same_change}
use Rattle.pc_history.proofs.Moments.{word_stays}
use Rattle.pc_protocol.specs.Histories.{History, moments, cells_now}
use Rattle.pc_protocol.specs.Histories.{IsUndecided, IsUsed, Drew}
use Rattle.pc_protocol.specs.Rules.{IsTaken, Refers, IsReady, Rule}
use Rattle.pc_protocol.specs.Notes.{Found, value, by, IsBy, IsBoundedBy, Looked}
use Rattle.pc_protocol.specs.Steps.{IsSettled, HasPassed}
use Rattle.pc_protocol.proofs.Stages.{same_option, undecided_is_published, committed_not_undecided, undecided_value}
use Rattle.pc_protocol.proofs.Stages.{one_purpose, no_read, used_not_spare, spare_not_used}
use Rattle.pc_protocol.proofs.Items.{on_item_map}

-- a stamp that was drawn for an exchange that isn't decided is empty
module _ (h : History) (rule : Rule h) (x s : ℕ) (open' : IsUndecided (h.stage x))
    (drew : Drew h.clock h.drawn_for s x) where
  not_taken : (e : Exchange) → IsTaken (h.drawn_for s) h.stage h.op s e → ⊥
  not_taken e taken = ⊎_elim
      (λ read. no_read (h.drawn_for s) x read.0.0 drew.1 read.0.1)
      (λ other. let same : other.0 ≡ x = one_purpose (h.drawn_for s) other.0 x other.1 drew.1 in
      committed_not_undecided (h.stage x) s (ap h.stage (sym same) ∙ other.2) open')
      taken

  empty_by : (o : Option Exchange) → OnItem (IsTaken (h.drawn_for s) h.stage h.op s) o → o ≡ None
  empty_by None taken = refl
  empty_by (Some e) taken = absurd (not_taken e taken)

  pub is_empty : h.item s ≡ None
  is_empty = empty_by (h.item s) (rule.taken s)

  -- from the stamp on, what stands leaves each word that the exchange writes
  leaves_from : (n : ℕ) (f : Field) → Writes (h.op x) n f → (u : ℕ) → s ≤ u → u < h.clock
      → OnItem (λ e. LeavesWord e n f) (h.item u)
  leaves_from n f writes u le lt = ⊎_elim
      (λ same. subst (λ (o : Option Exchange). OnItem (λ e. LeavesWord e n f) o) (sym (ap h.item (sym same) ∙ is_empty))
      tt)
      (λ ne. on_item_map (WritesMiss (h.op x)) (λ e. LeavesWord e n f) (h.item u)
      (λ e misses. misses_back (h.op x) e misses n f writes)
      (rule.misses x s u open' drew (omega arith)))
      (cases_eq s u)

  pub own_word_stays : (n : ℕ) (f : Field) → Writes (h.op x) n f → cells_now h n f ≡ moments h s n f
  own_word_stays n f writes = word_stays h.opening h.item n f s h.clock (le_of_lt drew.0) (leaves_from n f writes)

  well_formed : IsWellFormed (h.op x)
  well_formed = rule.well_formed x (undecided_is_published (h.stage x) open')

  pub own_refers : (a : Changed) → IsAmong a (h.op x).changes
      → Refers h.stage h.op h.plain h.slot a.node a.field x
  own_refers a among = rule.refers a.node a.field x (rule.held x s a open' drew among)

  -- each changed word has its old number, in the words, in the cells now and in those at the stamp
  pub own_plain : (a : Changed) → IsAmong a (h.op x).changes → h.plain a.node a.field ≡ a.old
  own_plain a among =
      let there : Refers h.stage h.op h.plain h.slot a.node a.field x = own_refers a among in
      let same : a ≡ there.change = same_change (h.op x).changes a there.change well_formed.once among there.among
      there.is_of in
      sym there.value ∙ undecided_value (h.stage x) there.change.old there.change.new open'
      ∙ ap (λ (b : Changed). b.old) (sym same)

  pub own_now : (a : Changed) → IsAmong a (h.op x).changes → cells_now h a.node a.field ≡ a.old
  own_now a among = sym (rule.plain_is a.node a.field (used_not_spare (h.slot a.node) (own_refers a among).in_use))
      ∙ own_plain a among

  pub own_at : (a : Changed) → IsAmong a (h.op x).changes → moments h s a.node a.field ≡ a.old
  own_at a among = sym (own_word_stays a.node a.field
      (inl (record { change = a; among = among; is_of = (refl, refl) }))) ∙ own_now a among

  -- the fresh node's slot is as ready at the stamp as it is now
  fresh_at : (o : Option FreshNode) → (h.op x).fresh ≡ o → FreshStands (moments h s) o
  fresh_at None is = tt
  fresh_at (Some g) is =
      let ready : IsReady (cells_now h) h.plain h.slot g = rule.fresh x g open' is in
      let same : cells_now h g.node Version ≡ moments h s g.node Version =
      own_word_stays g.node Version (inr (g, is, refl)) in
      let odd : IsOdd (cells_now h g.node Version) = rule.unused g.node
      (spare_not_used (h.slot g.node) ready.is_spare) in (
        ap (λ (v : ℕ). v % 2) (sym same) ∙ odd,
        ready.version ∙ ap (λ (v : ℕ). v + 1) same,
      )

  pub own_fresh_stands : FreshStands (moments h s) (h.op x).fresh
  own_fresh_stands = fresh_at (h.op x).fresh refl

  -- another exchange that isn't decided and has a stamp writes none of its words
  pub other_leaves_own : (y t : ℕ) → y ≢ x → IsUndecided (h.stage y) → Drew h.clock h.drawn_for t y → (a : Changed)
      → IsAmong a (h.op x).changes → LeavesWord (h.op y) a.node a.field
  other_leaves_own y t ne u drew_y a among = record {
    unchanged = λ b in_y is.
        let by_y : h.reference a.node a.field ≡ Some y =
        (λ i. h.reference (sym is.0 i) (sym is.1 i)) ∙ rule.held y t b u drew_y in_y in
        ne (same_option (h.reference a.node a.field) y x by_y (rule.held x s a open' drew among));
    not_fresh = λ g is same.
        let in_use : IsUsed (h.slot a.node) = (own_refers a among).in_use in
        spare_not_used (h.slot g.node) (rule.fresh y g u is).is_spare
        (subst (λ (n : ℕ). IsUsed (h.slot n)) same in_use);
  }

-- an exchange that isn't decided and has a stamp writes no word of another's fresh node
pub leaves_fresh_of : (h : History) → Rule h → (y t : ℕ) → IsUndecided (h.stage y) → Drew h.clock h.drawn_for t y
    → (x : ℕ) → IsUndecided (h.stage x) → y ≢ x → (g : FreshNode) (f : Field) → (h.op x).fresh ≡ Some g
    → LeavesWord (h.op y) g.node f
leaves_fresh_of h rule y t u drew_y x open' ne g f is = record {
  unchanged = λ b in_y is_of.
      let there : Refers h.stage h.op h.plain h.slot b.node b.field y = rule.refers b.node b.field y
      (rule.held y t b u drew_y in_y) in
      spare_not_used (h.slot g.node) (rule.fresh x g open' is).is_spare
      (subst (λ (n : ℕ). IsUsed (h.slot n)) is_of.0 there.in_use);
  not_fresh = λ k is_k same. rule.apart x y g k (λ e. ne (sym e)) open' u is is_k same;
}

-- a version that an exchange changes is as great afterwards
pub changed_version_grows : (e : Exchange) → IsWellFormed e → (a : Changed) → IsAmong a e.changes → a.field ≡ Version
    → a.old ≤ a.new
changed_version_grows e well_formed a among field =
    let v : RaisesVersionOf e a.node = well_formed.raises a among in
    let same : a ≡ v.change = same_change e.changes a v.change well_formed.once among v.among
    (v.is_of.0, v.is_of.1 ∙ sym field) in
    subst (λ (b : Changed). b.old ≤ b.new) (sym same) (⊎_elim
    (λ rises. omega (arith, rises))
    (λ stays. omega (arith, stays.0))
    v.rises)

-- what a check that passed tells of a visited version at the stamp
module _ (h : History) (rule : Rule h) (s : ℕ) (v : Visited) (seen : v.version ≤ moments h s v.node Version)
    (passed : HasPassed h s v) where
  bounded : (f : Found) → Looked h s v.node f → IsSettled h.stage h.op v.node v.version f
      → moments h s v.node Version ≤ v.version
  bounded (value w) looked settled = omega (arith, looked.below, settled)
  bounded (by r) looked settled =
      let below : IsBoundedBy h.stage h.op v.node (moments h s v.node Version) r = looked.below in
      omega (arith, below.bound, settled.1 below.change below.among below.is_of)

  pub passed_version : moments h s v.node Version ≡ v.version
  passed_version =
      let below : moments h s v.node Version ≤ v.version = bounded passed.found passed.looked passed.settled in
      omega (arith, below, seen)

  not_found : (f : Found) → IsSettled h.stage h.op v.node v.version f → (y : ℕ) → IsUndecided (h.stage y) → IsBy f y
      → ⊥
  not_found (value w) settled y u is = is
  not_found (by r) settled y u is = settled.0 (subst (λ (z : ℕ). IsUndecided (h.stage z)) (sym is) u)

  -- no exchange that isn't decided and has a stamp below writes the version
  pub passed_others : (y t : ℕ) → IsUndecided (h.stage y) → Drew h.clock h.drawn_for t y → t < s
      → LeavesWord (h.op y) v.node Version
  passed_others y t u drew lt = passed.looked.others y t u drew lt (not_found passed.found passed.settled y u)
