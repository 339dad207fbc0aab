-- A draw under the whole rule: one is added to the clock, and what it was is the stamp. From the last stamp on the draw is
-- refused.
use Rattle.std.proofs.Common.{◌≡◌, ℕ, suc, ◌+◌, ◌%◌, ◌^◌, ◌<◌, ⊎_elim, Bool, true, List, [], refl, sym, ◌∙◌, subst, arith}
use Rattle.std.proofs.lemmas.Bool.{cases_lt}
use Rattle.std.proofs.Math.Nat.{mod-eq_of_lt}
use mathlib.Core.Option.{some, none}
use lib.ListN.{get_elem?}
use Rattle.atomic_table.specs.Table.{step, Allows}
use Rattle.pc_model.specs.Forms.{Form}
use Rattle.pc_rule_law.specs.Board.{Size, Board, at_clock, address}
use Rattle.pc_rule_law.specs.Past.{Past}
use Rattle.pc_rule_law.specs.Views.{NoteHolds}
use Rattle.pc_rule_law.specs.Plays.{SameSeat}
use Rattle.pc_rule_law.proofs.Frames.{only_clock}
use Rattle.pc_rule_law.proofs.Lists.{all_none}
use Rattle.pc_protocol.specs.Histories.{for_exchange, for_read, History}
use Rattle.pc_protocol.specs.Steps.{draw}
use Rattle.pc_exchange_law.specs.Changes.{with_next_stamp}
use Rattle.pc_exchange_law.specs.ExchangeConditions.{MayDrawFor}
use Rattle.pc_exchange_law.specs.Knowing.{after_draw, after_refusal}
use Rattle.pc_exchange_law.specs.OwnSlots.{OwnsSlots}
use Rattle.pc_exchange_law.specs.Passes.{PassKnows, IsKnown}
use Rattle.pc_exchange_law.specs.Paths.{Path, IsPathOf}
use Rattle.pc_exchange_law.specs.Ties.{code, last_stamp}
use Rattle.pc_exchange_law.specs.Wholes.{Whole, WholeKept, WholeHolds}
use Rattle.pc_exchange_law.specs.WholePlays.{WholeMine, Draws}
use Rattle.pc_exchange_law.specs.WholeSteps.{whole_draws}
use Rattle.pc_exchange_law.proofs.ClockEnds.{clock_ends}
use Rattle.pc_exchange_law.proofs.ExchangeSteps.{draw_step, refuse_step}
use Rattle.pc_exchange_law.proofs.WholeKeeping.{mine, own_here, known_here, owned_here, steps_here, path_kept, whole_goes}
use Rattle.pc_exchange_law.proofs.WholeSteps.{WholeOwes, WholeGoes, whole_allowed}
use Rattle.pc_exchange_law.proofs.Worlds.{Goes}

module _ (form : Form) (z : Size) where
  -- the clock doesn't wrap
  next_clock : (clock : ℕ) → clock + 1 < 2 ^ 64 → suc clock ≡ (clock + 1) % 2 ^ 64
  next_clock clock small = sym (mod-eq_of_lt small ∙ (let e : clock + 1 ≡ suc clock = omega arith in e))

  -- the board, the past and the view stay but for the clock, and the pass knows this, and has this path
  pub drawn : (id : ℕ) (x : Whole) → x.view.live ≡ true → (b : Board) (t : Past) (h : History) (late : ℕ → Bool)
      (views : List Whole) (k : WholeKept form z b t h late views) (at : get_elem? views id ≡ some x) (h' : History) (late' : ℕ → Bool)
      (k' : PassKnows) (p : Path) (then : Whole → Type 0)
      → Goes form z id b t t.words h late (with_next_stamp b) t t.words h' late'
      × IsKnown (with_next_stamp b) t t.words h' late' id k'
      → OwnsSlots z h' id k'.own k'.slots → IsPathOf h' id p → then (record x { knows = k'; path = p })
      → WholeGoes form z b views id at_clock ((b.clock + 1) % 2 ^ 64) then
  drawn id x live b t h late views k at h' late' k' p then step owned path told =
      let own = own_here form z b t h late views k id x at live in
      let b' : Board = with_next_stamp b in
      let y : Whole = record x { knows = k'; path = p } in record {
        view = y;
        board = b';
        past = t;
        history = h';
        late = late';
        only = only_clock b (suc b.clock);
        is = next_clock b.clock (clock_ends.fits z.seats b.clock late k.kept.few k.world.clock);
        kept = whole_goes form z b t h late views k id x at live b' t h' late' y [] step owned (refl, refl, refl, refl) refl refl
            (record { sized = own.sized; seated = own.seated; known = own.known; ahead = own.ahead; unplaced = own.unplaced })
            (λ no. let was = (mine form z b t h late views k id x at live).tries live no in (
              was.0,
              record { number = was.1.number; resting = was.1.resting; running = was.1.running; words = was.1.words },
            ))
            (all_none (NoteHolds z b' t)) path;
        told = told;
      }

  whole_draw_owes : (id : ℕ) (x : Whole) → x.view.live ≡ true → MayDrawFor x.view x.knows x.aim.0 x.aim.1
      → WholeOwes form z id x at_clock (λ n. (n + 1) % 2 ^ 64)
      (λ r y. SameSeat x.view y.view × Draws x r y at_clock)
  whole_draw_owes id x live may b t h late views k at =
      let p : ℕ = x.aim.0 in let a : ℕ = x.aim.1 in
      let own = own_here form z b t h late views k id x at live in
      let known = known_here form z b t h late views k id x at live in
      let noted = (mine form z b t h late views k id x at live).noted in
      let same : h.clock ≡ b.clock = k.world.tied.clock in
      ⊎_elim
      (λ early. let step = draw_step form z k.kept.few id b t t.words h late k.kept.shared k.world x.view own noted x.knows known
      (owned_here form z b t h late views k id x at live) p a may in
      drawn id x live b t h late views k at (draw h (for_exchange (code p a))) step.0 (after_draw x.knows (code p a) b.clock) x.path
      (λ y. SameSeat x.view y.view × Draws x b.clock y at_clock)
      (subst (λ (s : ℕ). Goes form z id b t t.words h late (with_next_stamp b) t t.words (draw h (for_exchange (code p a))) step.0
      × IsKnown (with_next_stamp b) t t.words (draw h (for_exchange (code p a))) step.0 id (after_draw x.knows (code p a) s))
      same step.1) ((steps_here form z b t h late views k id x at live).draws p a may).1.owned (path_kept form z b t h late views k id x at live (draw h (for_exchange (code p a))) step.1.0.keeps step.1.0.unread)
      ((refl, refl, refl, refl, refl), record { drawn = λ _. refl; refused = λ late_now. absurd (omega arith) }))
      (λ late_now. let step = refuse_step form z k.kept.few id b t t.words h late k.kept.shared k.world x.view own noted x.knows
      known (owned_here form z b t h late views k id x at live) may.ready in
      drawn id x live b t h late views k at (draw h (for_read id)) step.0 (after_refusal x.knows b.clock) x.path
      (λ y. SameSeat x.view y.view × Draws x b.clock y at_clock)
      (subst (λ (s : ℕ). Goes form z id b t t.words h late (with_next_stamp b) t t.words (draw h (for_read id)) step.0
      × IsKnown (with_next_stamp b) t t.words (draw h (for_read id)) step.0 id (after_refusal x.knows s))
      same step.1) ((steps_here form z b t h late views k id x at live).refuses may.ready).1.owned (path_kept form z b t h late views k id x at live (draw h (for_read id)) step.1.0.keeps step.1.0.unread)
      ((refl, refl, refl, refl, refl), record { drawn = λ early. absurd (omega arith); refused = λ _. refl }))
      (cases_lt b.clock last_stamp)

  -- a draw for the attempt whose status was loaded last
  pub whole_draw : (slots id : ℕ) (me : WholeMine) → me.0.view.size ≡ z → me.0.view.live ≡ true
      → MayDrawFor me.0.view me.0.knows me.0.aim.0 me.0.aim.1
      → Allows (WholeHolds form z) slots id me (address z at_clock) (λ n. (n + 1) % 2 ^ 64)
      (whole_draws (step slots (address z at_clock) 1 0 none) me)
  whole_draw slots id me sized live may = whole_allowed form z slots id me at_clock (λ n. (n + 1) % 2 ^ 64)
      (Draws me.0) tt sized (whole_draw_owes id me.0 live may)
