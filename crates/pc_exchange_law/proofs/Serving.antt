-- What notes serve for, as the steps of an exchange will ask it: that a stamp may be drawn, a reference be replaced by a
-- number, and a decided attempt be cleared. Each is from what the pass knows, and the rule.
use Rattle.std.proofs.Common.{◌≡◌, ℕ, ⊎_elim, false, refl, sym, ap, ◌∙◌, subst, ◌<◌, ◌≤◌, List, arith, ◌+◌, ◌*◌, ◌^◌, length}
use Rattle.pc_model.specs.declared.cell.Field.{Field}
use Rattle.pc_model.specs.Cells.{IsNode}
use Rattle.pc_model.specs.Exchanges.{Changed}
use Rattle.pc_words.specs.declared.word.WordKind.TheVariants.{Exchange}
use Rattle.pc_words.specs.declared.status.Stage.{Stage as StatusStage}
use Rattle.pc_words.specs.declared.status.Stage.TheVariants.{Withdrawn}
use Rattle.pc_rule_law.specs.Board.{Board, place_number}
use Rattle.pc_rule_law.specs.Past.{Has, Attempt, Past, change, Describes, IsFormed}
use Rattle.pc_rule_law.specs.Views.{held, clean, IsClean, IsNoted}
use Rattle.pc_rule_law.proofs.Lists.{element_at}
use Rattle.pc_protocol.specs.Histories.{Stage, History, value_by}
use Rattle.pc_protocol.specs.Rules.{Rule}
use Rattle.pc_protocol.specs.Notes.{verdict, IsTrueNote}
use Rattle.pc_protocol.specs.Steps.{CanDraw}
use Rattle.pc_exchange_law.specs.Ties.{code, last_stamp, IsStageOf, IsTied}
use Rattle.pc_exchange_law.specs.Attempts.{Scripts, AreScripts, OwnAttempt, word_in, OwnsAttempt, AttemptNote, IsTrueAttemptNote}
use Rattle.pc_exchange_law.specs.Attempts.{KnowsWord, KnowsEntry, KnowsPlaces}
use Rattle.pc_exchange_law.proofs.AttemptNotes.{attempts_are_known, known_each}
use Rattle.pc_exchange_law.proofs.TieDraws.{may_draw}
use Rattle.pc_exchange_law.proofs.TieTelling.{board_tells}

module _ (slots : ℕ) (b : Board) (t : Past) (w : Scripts) (h : History) (seat : ℕ) (o : OwnAttempt) (notes : List AttemptNote)
    (scripts : AreScripts slots b t w) (own : OwnsAttempt b h seat o)
    (noted : (k : AttemptNote) → Has notes k → IsTrueAttemptNote b t w k) (rule : Rule h) (tied : IsTied b t h)
    (p a : ℕ) where
  -- the own descriptor describes an attempt where the words that were stored do
  pub own_describes : (x : Attempt) → Describes slots x (word_in o.words) → Describes slots x (b.word seat)
  own_describes x described = subst (Describes slots x) (λ i place. sym (own.words place) i) described

  -- a stamp for an attempt that was met: each of its words is known, and noted to hold its reference
  pub notes_draw : p < 64 → (n : ℕ) (f : Field) → IsNoted b t (held p a n f) → (k : KnowsPlaces notes seat o p a)
      → ((i : ℕ) (below : i < k.count) → IsNoted b t (held p a (k.each i below).0 (k.each i below).1))
      → CanDraw h (code p a)
  notes_draw small n f met k each =
      let published = (board_tells b t h rule tied).listed p a (change n f met.2.0 met.2.1) small met.0 met.2.2 in
      may_draw b t h tied p a small published
      (λ x has u. known_each slots b t w h seat o notes scripts own noted p a
      (λ m g. b.cell m g ≡ Exchange p a) k (λ i below. (each i below).1 u) x has)

  -- what a reference is replaced by, where it's noted how the attempt was decided
  pub notes_take : (i n : ℕ) (f : Field) (old new : ℕ) (st : Stage) → KnowsEntry notes seat o p a i n f old new
      → IsTrueNote h (verdict (code p a) st) → b.cell n f ≡ Exchange p a → t.plain n f ≡ value_by st old new
  notes_take i n f old new st entry decided is =
      let known = (attempts_are_known slots b t w h seat o notes scripts own noted).entry p a i n f old new entry in
      (board_tells b t h rule tied).plain n f p a old new st is known.1 decided

  -- a clearing: each of its words is known and clean
  pub notes_clear : (k : KnowsPlaces notes seat o p a)
      → ((i : ℕ) (below : i < k.count) → IsNoted b t (clean p a (k.each i below).0 (k.each i below).1))
      → (x : Changed) → Has (t.attempt p a).changes x → IsClean t.placing p a (b.cell x.node x.field)
  notes_clear k each = known_each slots b t w h seat o notes scripts own noted p a
      (λ n f. IsClean t.placing p a (b.cell n f)) k (λ i below. (each i below).1)

  -- the own attempt is withdrawn, and not by the pass: the clock has come to its last stamp
  pub own_ran_out : seat < 64 → (b.status seat).stage ≡ Withdrawn → o.withdrew ≡ false → last_stamp ≤ b.clock
  own_ran_out small is not_own =
      let x : ℕ = code seat (b.status seat).number in
      let stage : IsStageOf Withdrawn (h.stage x) = subst (λ (s : StatusStage). IsStageOf s (h.stage x)) is
      ((tied.stages seat (b.status seat).number small).present refl) in
      ⊎_elim
      (λ own_act. absurd (own.kept not_own (ap (λ (i : ℕ). h.stage (code seat i)) (sym own.number) ∙ own_act)))
      (λ late. (board_tells b t h rule tied).ran_out x (late, tt))
      stage

  -- where the count is known, a known word below it is the number of a word of the board, or a number that fits one
  pub listed_in_range : IsFormed slots (t.attempt p a) → (c i x old new : ℕ) → KnowsWord notes seat o p a 1 c → i < c
      → KnowsWord notes seat o p a (3 + 3 * i) x → KnowsWord notes seat o p a (4 + 3 * i) old
      → KnowsWord notes seat o p a (5 + 3 * i) new
      → ((n : ℕ) × (f : Field) × (x ≡ place_number n f) × IsNode slots n) × (old < 2 ^ 62) × (new < 2 ^ 62)
  listed_in_range formed c i x old new counted below at_place at_old at_new =
      let known = (attempts_are_known slots b t w h seat o notes scripts own noted).word p a in
      let d : Describes slots (t.attempt p a) (w p a) = scripts.describe p a in
      let count : w p a 1 ≡ length (t.attempt p a).changes = d.changes in
      let is_c : w p a 1 ≡ c = (known 1 c counted).1 in
      let found = element_at (t.attempt p a).changes i (omega arith) in
      let y = found.0 in let words = d.each_change i y found.1 in
      let inside = formed.inside y (i, found.1) in (
        (y.node, y.field, sym (known (3 + 3 * i) x at_place).1 ∙ words.0, inside.0),
        subst (λ (v : ℕ). v < 2 ^ 62) (sym words.1 ∙ (known (4 + 3 * i) old at_old).1) inside.1,
        subst (λ (v : ℕ). v < 2 ^ 62) (sym words.2 ∙ (known (5 + 3 * i) new at_new).1) inside.2,
      )
