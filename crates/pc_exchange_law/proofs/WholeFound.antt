-- What is found in a word of a node isn't what the pass knows to be gone from it; and its version is none below one that the pass
-- knows of.
use Rattle.std.proofs.Common.{◌≡◌, ◌≢◌, ℕ, zero, suc, inl, ◌≤◌, Bool, true, List, [], ◌∷◌, refl, sym, ◌∙◌, subst, arith}
use mathlib.Core.Option.{some}
use lib.ListN.{get_elem?}
use Rattle.pc_model.specs.declared.cell.Field.{Field}
use Rattle.pc_model.specs.declared.cell.Field.TheVariants.{Version, Key, Value, Left, Right, Parent, Height, Spare}
use Rattle.pc_model.specs.Cells.{IsEven}
use Rattle.pc_model.specs.Exchanges.{Visited}
use Rattle.pc_model.specs.Forms.{Form}
use Rattle.pc_model.specs.Linked.{IsLinkField}
use Rattle.pc_words.specs.declared.word.WordKind.{WordKind}
use Rattle.pc_words.specs.declared.word.WordKind.TheVariants.{Plain, Install, Exchange}
use Rattle.pc_words.specs.Words.{raw}
use Rattle.pc_words.proofs.Words.{kind_raw}
use Rattle.pc_history.specs.Footprints.{IsAmong}
use Rattle.pc_history.proofs.Moments.{versions_never_fall}
use Rattle.pc_rule_law.specs.Board.{Size, Board}
use Rattle.pc_rule_law.specs.Past.{Has, Past, change}
use Rattle.pc_rule_law.proofs.Lists.{has_first, all_none, all_one}
use Rattle.pc_rule_law.specs.Rule.{Holding, CellOk}
use Rattle.pc_rule_law.specs.Views.{clean, IsClean}
use Rattle.pc_protocol.specs.Histories.{History, moments, cells_now, IsUsed}
use Rattle.pc_protocol.specs.Notes.{Note, visited, in_use, IsTrueNote}
use Rattle.pc_protocol.proofs.Stages.{used_not_spare}
use Rattle.pc_exchange_law.specs.Attempts.{OwnsAttempt}
use Rattle.pc_exchange_law.specs.Wholes.{Whole, WholeKept}
use Rattle.pc_exchange_law.specs.WholePlays.{IsNotCleared}
use Rattle.pc_exchange_law.proofs.Serving.{notes_clear}
use Rattle.pc_exchange_law.proofs.WholeKeeping.{mine, own_here, known_here, path_here}
use Rattle.pc_exchange_law.proofs.Slots.{link_leads}
use Rattle.pc_exchange_law.proofs.WholeLooks.{plain_there}
use Rattle.pc_exchange_law.proofs.Worlds.{linked_now}

module _ (form : Form) (z : Size) where
  -- a word that holds a reference is one of its attempt's, so that isn't known to be gone from all words
  pub not_cleared : (id : ℕ) (x : Whole) → x.view.live ≡ true → (b : Board) (t : Past) (h : History) (late : ℕ → Bool)
      (views : List Whole) → WholeKept form z b t h late views → get_elem? views id ≡ some x → (n : ℕ) (f : Field)
      → IsNotCleared x (raw (b.cell n f))
  not_cleared id x live b t h late views k at n f p a is cleared =
      let s = k.kept.shared in let own = own_here form z b t h late views k id x at live in
      let known = known_here form z b t h late views k id x at live in
      let noted = (mine form z b t h late views k id x at live).noted in
      let here : b.cell n f ≡ Exchange p a = sym (kind_raw (b.cell n f) (s.ranges n f)) ∙ is in
      let held : Holding z.seats b.status t.attempt (t.plain n f) n f p a = subst
      (CellOk z.seats b.status t.attempt t.placing t.course (t.plain n f) n f) here (s.each_cell n f) in
      let l = held.listed in
      let clean_there : IsClean t.placing p a (b.cell n f) = notes_clear z.slots b t t.words h x.view.seat x.knows.own x.knows.noted
      k.world.scripts (subst (λ (i : ℕ). OwnsAttempt b h i x.knows.own) (sym own.seated.0) known.own) known.noted k.world.rule
      k.world.tied p a cleared.places
      (λ i below. (noted (clean p a (cleared.places.each i below).0 (cleared.places.each i below).1) (cleared.each i below)).0)
      (change n f l.0 l.1) l.2 in
      let other : p ≡ p → a ≢ a = subst (IsClean t.placing p a) here clean_there in other refl refl

  -- a plain version is at least each one that the node is known to have had, since versions never fall
  pub version_rises : (b : Board) (t : Past) (h : History) (late : ℕ → Bool) (views : List Whole)
      → WholeKept form z b t h late views → (n v at w : ℕ) → IsUsed (h.slot n) → b.cell n Version ≡ Plain w → IsTrueNote h (visited n v at) → v ≤ w
  version_rises b t h late views k n v at w is_used is seen =
      let tied = k.world.tied in let rule = k.world.rule in
      let least : moments h at n Version ≤ cells_now h n Version = versions_never_fall h.opening h.clock h.item rule.run at h.clock n seen.0 in
      let known : v ≤ moments h at n Version = seen.1 in
      let now : h.plain n Version ≡ cells_now h n Version = rule.plain_is n Version (used_not_spare (h.slot n) is_used) in
      let same : h.plain n Version ≡ t.plain n Version = tied.plain n Version in
      let plain : t.plain n Version ≡ w = plain_there form z b t k.kept.shared n Version w is in omega arith

  -- and at least each one at which the pass visited it
  pub visit_rises : (b : Board) (t : Past) (h : History) (late : ℕ → Bool) (views : List Whole)
      → WholeKept form z b t h late views → (id : ℕ) (x : Whole) → get_elem? views id ≡ some x → x.view.live ≡ true
      → (v : Visited) (n w : ℕ) → v.node ≡ n → IsAmong v x.path.visits → b.cell n Version ≡ Plain w → v.version ≤ w
  visit_rises b t h late views k id x at live v n w here among is =
      let was = (path_here form z b t h late views k id x at live).noted.visits v among in
      version_rises b t h late views k n v.version was.1.0 w (subst (λ (m : ℕ). IsUsed (h.slot m)) here
      ((path_here form z b t h late views k id x at live).used v (inl among))) is (subst (λ (m : ℕ). IsTrueNote h (visited m v.version was.1.0)) here was.1.1)

  -- a plain version of the sentinel is even
  pub sentinel_even : (b : Board) (t : Past) (h : History) (late : ℕ → Bool) (views : List Whole)
      → WholeKept form z b t h late views → (w : ℕ) → b.cell 1 Version ≡ Plain w → IsEven w
  sentinel_even b t h late views k w is =
      let s = k.kept.shared in let tied = k.world.tied in
      let now : t.cells 1 Version ≡ t.plain 1 Version = tied.cells 1 Version
      ∙ (sym (k.world.rule.plain_is 1 Version (used_not_spare (h.slot 1) k.world.slots.sentinel)) ∙ tied.plain 1 Version) in
      subst IsEven (now ∙ plain_there form z b t s 1 Version w is) (k.world.lawful z.slots t.cells s.sound_now).sentinel

  -- what is noted of a link: the node that it names is in use
  pub lead : ℕ → List Note
  lead zero = []
  lead (suc m) = in_use (suc m) ∷ []

  pub lead_of : Field → ℕ → List Note
  lead_of Version m = []
  lead_of Key m = []
  lead_of Value m = []
  lead_of Left m = lead m
  lead_of Right m = lead m
  lead_of Parent m = lead m
  lead_of Height m = []
  lead_of Spare m = []

  pub leads_by : Field → WordKind → List Note
  leads_by f (Plain m) = lead_of f m
  leads_by f (Install q i) = []
  leads_by f (Exchange q a) = []

  lead_has : (m : ℕ) → m ≢ 0 → Has (lead m) (in_use m)
  unfolding lead
  lead_has zero ne = absurd (ne refl)
  lead_has (suc m) ne = has_first (in_use (suc m)) []

  lead_of_has : (f : Field) (m : ℕ) → IsLinkField f → m ≢ 0 → Has (lead_of f m) (in_use m)
  unfolding lead_of
  lead_of_has Version m link ne = absurd link
  lead_of_has Key m link ne = absurd link
  lead_of_has Value m link ne = absurd link
  lead_of_has Left m link ne = lead_has m ne
  lead_of_has Right m link ne = lead_has m ne
  lead_of_has Parent m link ne = lead_has m ne
  lead_of_has Height m link ne = absurd link
  lead_of_has Spare m link ne = absurd link

  pub leads_has : (f : Field) (w : WordKind) (m : ℕ) → w ≡ Plain m → IsLinkField f → m ≢ 0 → Has (leads_by f w) (in_use m)
  unfolding leads_by
  leads_has f w m is link ne = subst (λ (u : WordKind). Has (leads_by f u) (in_use m)) (sym is) (lead_of_has f m link ne)

  lead_true : (h : History) (m : ℕ) → (m ≢ 0 → IsUsed (h.slot m)) → (x : Note) → Has (lead m) x → IsTrueNote h x
  unfolding lead
  lead_true h zero used = all_none (IsTrueNote h)
  lead_true h (suc m) used = all_one (IsTrueNote h) (in_use (suc m)) (used (λ e. absurd (let clash : suc m ≡ 0 = e in cc)))

  lead_of_true : (h : History) (f : Field) (m : ℕ) → (IsLinkField f → m ≢ 0 → IsUsed (h.slot m)) → (x : Note) → Has (lead_of f m) x
      → IsTrueNote h x
  unfolding lead_of
  lead_of_true h Version m used = all_none (IsTrueNote h)
  lead_of_true h Key m used = all_none (IsTrueNote h)
  lead_of_true h Value m used = all_none (IsTrueNote h)
  lead_of_true h Left m used = lead_true h m (used tt)
  lead_of_true h Right m used = lead_true h m (used tt)
  lead_of_true h Parent m used = lead_true h m (used tt)
  lead_of_true h Height m used = all_none (IsTrueNote h)
  lead_of_true h Spare m used = all_none (IsTrueNote h)

  pub leads_true : (b : Board) (t : Past) (h : History) (late : ℕ → Bool) (views : List Whole)
      → WholeKept form z b t h late views → (n : ℕ) (f : Field) → IsUsed (h.slot n) → (w : WordKind) → b.cell n f ≡ w
      → (x : Note) → Has (leads_by f w) x → IsTrueNote h x
  unfolding leads_by
  leads_true b t h late views k n f is_used (Plain m) is = lead_of_true h f m (λ link ne.
      let now : cells_now h n f ≡ m = sym (k.world.rule.plain_is n f (used_not_spare (h.slot n) is_used))
      ∙ (k.world.tied.plain n f ∙ plain_there form z b t k.kept.shared n f m is) in
      subst (λ (i : ℕ). IsUsed (h.slot i)) now (link_leads z b h k.world.rule k.world.slots
      (linked_now form z 0 b t t.words h late k.world) n f is_used link (λ none'. ne (sym now ∙ none'))))
  leads_true b t h late views k n f is_used (Install q i) is = all_none (IsTrueNote h)
  leads_true b t h late views k n f is_used (Exchange q a) is = all_none (IsTrueNote h)
