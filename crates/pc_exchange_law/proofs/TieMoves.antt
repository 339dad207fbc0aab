-- How the tie serves the rule of the board: its families of moves give what the protocol asks, and a success is such a
-- move of one status.
use Rattle.std.proofs.Common.{◌≡◌, ℕ, ◌^◌, ◌<◌, ⊎_elim, true, refl, sym, ap, ap₂, ◌∙◌, subst, arith}
use Rattle.pc_model.specs.declared.cell.Field.{Field}
use Rattle.pc_model.specs.Cells.{Cells}
use Rattle.pc_model.specs.Exchanges.{Changed}
use Rattle.pc_words.specs.declared.word.WordKind.{WordKind}
use Rattle.pc_words.specs.declared.word.WordKind.TheVariants.{Install}
use Rattle.pc_words.specs.declared.status.Stage.TheVariants.{Succeeded}
use Rattle.pc_rule_law.specs.Board.{Size, Board}
use Rattle.pc_rule_law.specs.Past.{Has, Placing, Past}
use Rattle.pc_rule_law.specs.Stages.{IsUndecided}
use Rattle.pc_rule_law.specs.Rule.{Standing, CellOk, Shared}
use Rattle.pc_rule_law.specs.Views.{held, IsNoted}
use Rattle.pc_rule_law.proofs.WordMoves.{WordMoves}
use Rattle.pc_rule_law.proofs.StatusMoves.{StatusMoves}
use Rattle.pc_rule_law.proofs.Outcomes as Outcomes
use Rattle.pc_protocol.specs.Histories.{History}
use Rattle.pc_protocol.specs.Rules.{Rule}
use Rattle.pc_protocol.specs.Steps.{commit, CanCommit}
use Rattle.pc_exchange_law.specs.Slots.{ChangesUsed}
use Rattle.pc_exchange_law.specs.Ties.{code, IsTied}
use Rattle.pc_exchange_law.specs.Changes.{at_stage, MayBecome, HoldsAll, Succeeds}
use Rattle.pc_exchange_law.specs.AttemptSteps.{BringsInstalls}
use Rattle.pc_exchange_law.proofs.TieSuccesses.{success_serves}

-- a move of one word says what the word may become
pub may_become : (z : Size) (b : Board) (t : Past) (id n : ℕ) (f : Field) (c : WordKind) (placing' : ℕ → ℕ → Placing)
    (course' : ℕ → ℕ → ℕ) → WordMoves z b t id n f c placing' course' → MayBecome z b t n f c
may_become z b t id n f c placing' course' moves = record {
  holds = λ p a is. subst (CellOk z.seats b.status t.attempt placing' course' (t.plain n f) n f) is moves.here;
  decided = moves.decided;
}

-- and it brings installs as notes of attempts allow it
module _ (sound : ℕ → Cells → Cells → Type 0) (z : Size) (b : Board) (t : Past) (id n : ℕ) (f : Field) (c : WordKind)
    (placing' : ℕ → ℕ → Placing) (course' : ℕ → ℕ → ℕ) (shared : Shared sound z b t)
    (moves : WordMoves z b t id n f c placing' course') where
  standing : (m : ℕ) (g : Field) (q k : ℕ) → b.cell m g ≡ Install q k
      → Standing t.placing t.course (t.plain m g) m g q k
  standing m g q k is = subst (CellOk z.seats b.status t.attempt t.placing t.course (t.plain m g) m g) is
      (shared.each_cell m g)

  -- an install that comes is one that the pass places
  begun : (q k : ℕ) → c ≡ Install q k → (placing' q k).early ≡ true
      → IsUndecided b.status (placing' q k).seat (placing' q k).number
  begun q k is early =
      let now : Standing placing' course' (t.plain n f) n f q k =
      subst (CellOk z.seats b.status t.attempt placing' course' (t.plain n f) n f) is moves.here in
      ⊎_elim
      (λ kept. let stands : t.course q k ≡ 1 = sym kept.0 ∙ now.stands in
      let y = shared.installs q k (omega arith) in
      let node : (t.placing q k).node ≡ n = ap (λ (x : Placing). x.node) (sym kept.1) ∙ now.at_node in
      let field : (t.placing q k).field ≡ f = ap (λ (x : Placing). x.field) (sym kept.1) ∙ now.at_field in
      absurd (kept.2 stands (sym (ap₂ b.cell node field) ∙ y.there stands)))
      (λ other. ⊎_elim
      (λ ended. let gone : course' q k ≡ 2 = ended.1 in let stands : course' q k ≡ 1 = now.stands in absurd (omega arith))
      (λ began. began.3 early)
      other)
      (moves.each q k)

  pub brings : BringsInstalls b t c placing'
  brings = record {
    placings = λ q k some. ⊎_elim (λ kept. kept.1) (λ other. ⊎_elim (λ ended. ended.2)
        (λ began. let none' : t.course q k ≡ 0 = began.0 in absurd (omega arith)) other) (moves.each q k);
    placed = λ m g q k is. let one : t.course q k ≡ 1 = (standing m g q k is).stands in omega arith;
    comes = begun;
  }

-- a note that each word of an attempt holds its reference is what a draw owes
pub notes_hold : (b : Board) (t : Past) (p a : ℕ)
    → ((x : Changed) → Has (t.attempt p a).changes x → IsNoted b t (held p a x.node x.field)) → HoldsAll b t p a
notes_hold b t p a noted x has u = (noted x has).1 u

-- So a success is such a move of one status as the board's rule asks for. What is left to be shown is that the cells
-- that the run leaves then are sound.
pub success_moves : (sound : ℕ → Cells → Cells → Type 0) (z : Size) (b : Board) (t : Past) (h : History) (id p s : ℕ) (cells' : Cells)
    → Shared sound z b t → Rule h → IsTied b t h → ChangesUsed h → p < 64 → s < 2 ^ 34
    → CanCommit h (code p (b.status p).number) s → sound z.slots cells' (commit h (code p (b.status p).number) s).plain
    → StatusMoves sound z b t id p (at_stage b p (Succeeded s)) cells' (commit h (code p (b.status p).number) s).plain
    t.attempt t.words
success_moves sound z b t h id p s cells' shared rule tied changed small low can sound_now =
    let a : ℕ = (b.status p).number in
    let done : Succeeds b t p a (commit h (code p a) s).plain = success_serves b t h tied p a small rule changed s can refl in
    Outcomes.succeeds sound z b t shared id p s cells' (commit h (code p a) s).plain low done.pending done.held done.gets
    done.stays done.rises sound_now
