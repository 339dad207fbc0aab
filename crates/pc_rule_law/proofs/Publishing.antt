-- The own next attempt is published: its words stand in the descriptor, and the status, which was idle, says it.
use Rattle.std.proofs.Common.{◌≡◌, ℕ, ◌+◌, true, [], refl, sym, ap, ◌∙◌, subst, arith}
use mathlib.Core.Option.{none}
use Rattle.atomic_table.specs.Table.{step, Allows}
use Rattle.pc_model.specs.Cells.{Cells}
use Rattle.pc_words.specs.declared.status.Stage.TheVariants.{Undecided}
use Rattle.pc_words.specs.declared.status.Status.{Status}
use Rattle.pc_words.specs.Statuses.{packed}
use Rattle.pc_rule_law.specs.Board.{Size, own_status, at_own, address, Inside, Board, Only, put, put2}
use Rattle.pc_rule_law.specs.Past.{Attempt, Past, Describes, IsFormed}
use Rattle.pc_rule_law.specs.Stages.{IsIdle}
use Rattle.pc_rule_law.specs.Views.{word_in, View, NoteHolds}
use Rattle.pc_rule_law.specs.Rule.{Holds}
use Rattle.pc_rule_law.specs.Conditions.{CanPublish}
use Rattle.pc_rule_law.specs.Plays.{Mine, SameSeat, after_publish, Published, publishes}
use Rattle.pc_rule_law.proofs.Lists.{all_none}
use Rattle.pc_rule_law.proofs.Updates.{put-here}
use Rattle.pc_rule_law.proofs.Frames.{only_status}
use Rattle.pc_rule_law.proofs.Descriptors.{described_alike}
use Rattle.pc_rule_law.proofs.Keeping.{kept_after}
use Rattle.pc_rule_law.proofs.Outcomes.{publishes as published}
use Rattle.pc_rule_law.proofs.StatusMoves.{with_status, with_values, status_moved}
use Rattle.pc_rule_law.proofs.Steps.{Publishes, Owes, allowed}

-- the status of the own next attempt
abbrev pub next_status : View → Status
next_status v = record { number = v.attempt.number + 1; stage = Undecided }

module _ (sound : ℕ → Cells → Cells → Type 0) (z : Size) where
  pub publish_owes : (id : ℕ) (v : View) (e : Attempt) → v.size ≡ z → v.live ≡ true → CanPublish v e
      → Inside z (at_own v.seat own_status)
      → Owes sound z (Publishes id e) id v (at_own v.seat own_status) (λ _. packed (next_status v))
      (λ _ w. SameSeat v w × Published v w (at_own v.seat own_status))
  publish_owes id v e sized live can in_p b h views kept at =
      let s = kept.shared in let mine = kept.each_view id v at in let own = mine.own live in
      let both = mine.tries live can.may.0 in let tries = both.1 in
      let a : ℕ = (b.status id).number in let number : a ≡ v.attempt.number = tries.number in
      let t : Status = record { number = a + 1; stage = Undecided } in
      let is_next : t ≡ next_status v = ap (λ (k : ℕ). record { number = k + 1; stage = Undecided }) number in
      let formed : IsFormed z.slots e = subst (λ (y : Size). IsFormed y.slots e) sized can.formed in
      let described : Describes z.slots e (b.word id) = described_alike z.slots e (word_in v.attempt.words) (b.word id) formed
      (subst (λ (y : Size). Describes y.slots e (word_in v.attempt.words)) sized can.words) tries.words in
      let m = published sound z b h s id id refl e (tries.resting can.may.1) (let lt = can.number in omega arith) formed described in
      let attempt' = put2 h.attempt id (a + 1) e in let words' = put2 h.words id (a + 1) (b.word id) in
      let b' : Board = with_status b id t in let h' : Past = with_values h h.cells h.plain attempt' words' in
      let w : View = after_publish v in
      let here : b'.status id ≡ t = put-here b.status id t in
      record {
        view = w;
        board = b';
        past = h';
        only = subst (λ (i : ℕ). Only (at_own i own_status) b b') (sym own.seated.0) (only_status b id t);
        is = ap (λ (i : ℕ). packed (put b.status id t i)) own.seated.0 ∙ ap packed (here ∙ is_next);
        kept = kept_after sound z b h views id v b' h' w [] kept at live
            (status_moved sound z b h id id t h.cells h.plain attempt' words' s m v w [] (refl, refl, refl, refl) refl
            record { sized = own.sized; seated = own.seated; known = own.known; ahead = own.ahead; unplaced = own.unplaced }
            (λ _. (
              both.0,
              record {
                number = ap (λ (u : Status). u.number) here ∙ ap (λ (k : ℕ). k + 1) number;
                resting = λ no. absurd (cc);
                running = λ _ idle. subst (λ (u : Status). IsIdle u.stage) here idle;
                words = tries.words;
              },
            ))
            (all_none (NoteHolds z b' h')));
        happens = (refl, refl);
        told = ((refl, refl, refl, refl, refl), λ _. refl);
      }

  pub publish_attempt : (slots id : ℕ) (me : Mine) (e : Attempt) → me.0.size ≡ z → me.0.live ≡ true → CanPublish me.0 e
      → Inside z (at_own me.0.seat own_status)
      → Allows (Holds sound z) slots id me (address z (at_own me.0.seat own_status)) (λ _. packed (next_status me.0))
      (λ _. publishes (step slots (address z (at_own me.0.seat own_status)) (packed (next_status me.0)) 0 none) me (packed (next_status me.0)))
  publish_attempt slots id me e sized live can in_p = let v = me.0 in
      allowed sound z (Publishes id e) slots id me (at_own v.seat own_status) (λ _. packed (next_status v)) (λ _. Published v) in_p sized
      (publish_owes id v e sized live can in_p)
