-- Where the last pass has taken in all others and is free, no install stands anywhere, and the words that are left
-- are those of a closed board.
use Rattle.std.proofs.Common.{◌≡◌, ◌≢◌, ℕ, ◌+◌, ◌<◌, ◌≤◌, Bool, true, List, length, refl, sym, ap, ◌∙◌, subst, arith}
use mathlib.Core.Option.{some}
use mathlib.Core.Logic.{dite}
use native.Mathlib.Decide.{ℕ_discrete, dec_le}
use lib.ListN.{get_elem?}
use Rattle.atomic_table.specs.Table.{Final, Seen}
use Rattle.pc_model.specs.declared.cell.Field.{Field}
use Rattle.pc_model.specs.Cells.{Cells}
use Rattle.pc_words.specs.declared.word.WordKind.TheVariants.{Exchange}
use Rattle.pc_rule_law.specs.Board.{Size, Board, Represents}
use Rattle.pc_rule_law.specs.Past.{Past, Describes}
use Rattle.pc_rule_law.specs.Views.{View}
use Rattle.pc_rule_law.specs.Rule.{Standing, CellOk, Shared, Kept, Holds}
use Rattle.pc_rule_law.specs.Conditions.{IsFree}
use Rattle.pc_rule_law.specs.Values.{IsPlainValue}
use Rattle.pc_rule_law.specs.Closings.{IsClosed}
use Rattle.pc_rule_law.proofs.Descriptors.{described_now}
use Rattle.pc_rule_law.proofs.InstallStores.{none_stands}
use Rattle.pc_rule_law.proofs.Values.{plain_value, one_plain_value, install_is_present, exchange_is_present}

module _ (sound : ℕ → Cells → Cells → Type 0) (z : Size) where
  -- no install of any pass stands
  pub nothing_stands : (b : Board) (h : Past) (views : List View) (id : ℕ) (v : View) → Kept sound z b h views
      → get_elem? views id ≡ some v → v.live ≡ true → v.last ≡ true → v.rest ≡ 0 → IsFree v
      → (q : ℕ) → q < z.seats → (k : ℕ) → h.course q k ≢ 1
  nothing_stands b h views id v kept at live last all free q lt k one = let mine = kept.each_view id v at in
      let own = mine.own live in
      dite (dec_le h.count q)
      (λ unmade. let none' : h.course q k ≡ 0 = (kept.blank q unmade lt).unplaced k in
      let e : h.course q k ≡ 1 = one in absurd (omega arith))
      (λ made. dite (ℕ_discrete q v.seat)
      (λ self. none_stands sound z b h id v kept.shared own mine.noted free k
      (ap (λ (j : ℕ). h.course j k) (sym (self ∙ own.seated.0)) ∙ one))
      (λ other. (mine.counted.taken live last q (omega arith) (omega arith) other).1 k one))

  -- a reference is to a pass of the board, whose descriptor has room for the changes of its attempt
  refers : (b : Board) (h : Past) → Shared sound z b h → (n : ℕ) (f : Field) (p a : ℕ) → b.cell n f ≡ Exchange p a
      → (p < z.seats) × (b.word p 1 ≤ 25 + z.slots)
  refers b h s n f p a is = let here = exchange_is_present sound z b h s n f p a is in
      let d : Describes z.slots (h.attempt p (b.status p).number) (b.word p) = described_now sound z b h s p here.2 in
      let few : length (h.attempt p (b.status p).number).changes ≤ 25 + z.slots = (s.formed p (b.status p).number).few in
      (here.0, subst (λ (c : ℕ). c ≤ 25 + z.slots) (sym d.changes) few)

  -- where no install stands any more, the words are those of a closed board, which is this one
  pub closed_by : (b : Board) (h : Past) (views : List View) (id : ℕ) (v : View) (ws : List ℕ) → Kept sound z b h views
      → get_elem? views id ≡ some v → v.live ≡ true → v.last ≡ true → v.rest ≡ 0 → IsFree v → Represents z ws b
      → (c : IsClosed sound z ws) × (c.board ≡ b) × (c.cells ≡ h.cells) × (c.values ≡ h.plain)
  closed_by b h views id v ws kept at live last all free represents = let shared = kept.shared in (
    record {
      board = b;
      cells = h.cells;
      values = h.plain;
      represents = represents;
      sound_cells = shared.sound_now;
      no_install = λ n f q k is. let st : Standing h.placing h.course (h.plain n f) n f q k = subst
          (CellOk z.seats b.status h.attempt h.placing h.course (h.plain n f) n f) is (shared.each_cell n f) in
          nothing_stands b h views id v kept at live last all free q
          (install_is_present sound z b h shared n f q k is).0 k st.stands;
      ranges = shared.ranges;
      statuses = shared.statuses;
      referred = refers b h shared;
      plain = plain_value sound z b h shared;
      one = λ n f x is. one_plain_value sound z b h shared n f x (h.plain n f) is (plain_value sound z b h shared n f);
    },
    refl,
    refl,
    refl,
  )

  pub closes : (id : ℕ) (v : View) (ws : List ℕ) (xs : List Bool) → Final (Seen (Holds sound z) id v) ws xs
      → v.live ≡ true → v.last ≡ true → v.rest ≡ 0 → IsFree v → IsClosed sound z ws
  closes id v ws xs final live last all free = let s = final.0 in let held = final.1.0 in let at = final.1.1 in
      (closed_by held.board held.past s.views id v ws held.kept at live last all free
      (subst (λ (l : List ℕ). Represents z l held.board) final.2 held.represents)).0
