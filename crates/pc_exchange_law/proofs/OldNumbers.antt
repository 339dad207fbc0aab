-- What a pass knows of the old numbers of an attempt's words is so.
use Rattle.std.proofs.Common.{◌≡◌, ◌≤◌, ℕ, suc, refl, sym, ◌∙◌, subst}
use Rattle.pc_model.specs.declared.cell.Field.{Field}
use Rattle.pc_model.specs.declared.cell.Field.TheVariants.{Version}
use Rattle.pc_model.specs.Exchanges.{Changed, Visited, Exchange as PathExchange}
use Rattle.pc_model.specs.Linked.{opening_cells}
use Rattle.pc_history.specs.Footprints.{IsAmong}
use Rattle.pc_rule_law.specs.Board.{Size}
use Rattle.pc_rule_law.specs.Past.{Has, Attempt, change}
use Rattle.pc_protocol.specs.Histories.{committed, History, moments}
use Rattle.pc_protocol.specs.Rules.{Rule}
use Rattle.pc_protocol.specs.Notes.{Note, visited, read_word, saw, published, verdict, IsTrueNote}
use Rattle.pc_protocol.specs.Bases.{HasBasis}
use Rattle.pc_protocol.proofs.Loads.{loads_tell}
use Rattle.pc_exchange_law.specs.ExchangeConditions.{KnowsOld, was_read, is_version, was_visited, was_opened, was_written, KnowsBasis}
use Rattle.pc_exchange_law.specs.Passes.{PassKnows}
use Rattle.pc_exchange_law.specs.Ties.{exchange_of}

module _ (z : Size) (h : History) (k : PassKnows) (rule : Rule h)
    (opened : (n : ℕ) (f : Field) → h.opening n f ≡ opening_cells z.starts.version n f)
    (told : (o : Note) → Has k.told o → IsTrueNote h o) where
  pub old_is : (n v : ℕ) (f : Field) (x : ℕ) → KnowsOld z k n v f x → (c : ℕ) × IsTrueNote h (read_word n v f x c)
  old_is n v f x (was_read c has) = (c, told (read_word n v f x c) has)
  old_is n v f x (is_version c field same has) =
      let seen : IsTrueNote h (visited n v c) = told (visited n v c) has in (
        c,
        (
          seen.0,
          (
            seen.1,
            (λ i le version. subst (λ (g : Field). moments h i n g ≡ x) (sym field) (version ∙ sym same)),
          ),
        ),
      )
  old_is n v f x (was_visited c e u field same at_node at_version among has) =
      let seen : IsTrueNote h (saw c e) = told (saw c e) has in
      let high : u.version ≤ moments h c u.node Version = (seen.1.visits u among).1 in (
        c,
        (
          seen.0,
          (
            subst (λ (i : ℕ × ℕ). i.1 ≤ moments h c i.0 Version) (λ j. (at_node j, at_version j)) high,
            (λ i le version. subst (λ (g : Field). moments h i n g ≡ x) (sym field) (version ∙ sym same)),
          ),
        ),
      )
  old_is n v f x (was_opened version number) = (
    0,
    subst (λ (i : ℕ × ℕ). IsTrueNote h (read_word n i.0 f i.1 0))
        (λ j. ((opened n Version ∙ sym version) j, (opened n f ∙ sym number) j)) ((loads_tell h rule).opening_word n f),
  )
  old_is n v f x (was_written y s c before old e decided at_publication changes_version changes_word) =
      let won : IsTrueNote h (verdict y (committed s)) = told (verdict y (committed s)) decided in
      let is : IsTrueNote h (published y e c) = told (published y e c) at_publication in
      let inside : (a : Changed) → IsAmong a e.changes → IsAmong a (h.op y).changes =
      λ a among. subst (λ (d : PathExchange). IsAmong a d.changes) (sym is.1) among in (
        suc s,
        (loads_tell h rule).won_word y s n f (change n Version before v) (change n f old x) won.0
            (inside (change n Version before v) changes_version) (refl, refl) (inside (change n f old x) changes_word)
            (refl, refl),
      )

  -- so the attempt has a basis
  pub basis_is : (x : Attempt) → KnowsBasis z k x → HasBasis h (exchange_of x)
  basis_is x knows a among = let there = knows a among in
      let seen = old_is a.node there.0 a.field a.old there.2 in
      (there.0, there.1, seen.0, seen.1)
