-- What passes have noted of the run, and what they have of slots, is put together as they are taken in.
use Rattle.std.proofs.Common.{◌≡◌, ℕ, zero, suc, List, [], ◌∷◌, ◌++◌, sym, ap, subst, ◌∙◌}
use mathlib.Core.Option.{some, some-injective, some-ne-none}
use lib.ListN.{get_elem?}
use Rattle.pc_model.specs.declared.shape.Shape.{Ghosts}
use Rattle.pc_protocol.specs.Notes.{Note}
use Rattle.pc_rule_law.specs.Past.{Has}
use Rattle.pc_rule_law.proofs.Lists.{has_left, has_right}
use Rattle.pc_exchange_law.specs.Wholes.{SlotsAt, slots_at, all_slots_at}
use Rattle.pc_rule.specs.declared.board.Pass.{Pass}
use Rattle.pc_rule.specs.Left.{told_by, slots_by}
use Rattle.pc_rule.specs.Passes.{whole, knows}
use Rattle.pc_rule.proofs.Rooms.{in_parts, with_none}

module _ {H : Type 0} {S : Ghosts H} where
  pub told_last : (front : List (Pass H S)) (p : Pass H S) → told_by (front ++ p ∷ []) ≡ told_by front ++ (knows p).told
  told_last [] p = with_none (knows p).told
  told_last (x ∷ xs) p = ap (λ (l : List Note). (knows x).told ++ l) (told_last xs p) ∙ sym (in_parts (knows x).told (told_by xs) (knows p).told)

  pub told_taken : (old front : List (Pass H S)) (p : Pass H S) (before after : List Note) → old ≡ front ++ p ∷ [] → after ≡ (knows p).told ++ before
      → told_by old ++ before ≡ told_by front ++ after
  told_taken old front p before after e more = ap (λ (l : List (Pass H S)). told_by l ++ before) e
      ∙ (ap (λ (l : List Note). l ++ before) (told_last front p)
      ∙ (in_parts (told_by front) (knows p).told before ∙ ap (λ (l : List Note). told_by front ++ l) (sym more)))

  pub slots_last : (front : List (Pass H S)) (p : Pass H S) → slots_by (front ++ p ∷ []) ≡ slots_by front ++ all_slots_at (whole p)
  slots_last [] p = with_none (all_slots_at (whole p))
  slots_last (x ∷ xs) p = ap (λ (l : List SlotsAt). all_slots_at (whole x) ++ l) (slots_last xs p)
      ∙ sym (in_parts (all_slots_at (whole x)) (slots_by xs) (all_slots_at (whole p)))

  pub slots_taken_in : (old front : List (Pass H S)) (p : Pass H S) (before after : List SlotsAt) → old ≡ front ++ p ∷ []
      → after ≡ all_slots_at (whole p) ++ before → slots_by old ++ before ≡ slots_by front ++ after
  slots_taken_in old front p before after e more = ap (λ (l : List (Pass H S)). slots_by l ++ before) e
      ∙ (ap (λ (l : List SlotsAt). l ++ before) (slots_last front p)
      ∙ (in_parts (slots_by front) (all_slots_at (whole p)) before ∙ ap (λ (l : List SlotsAt). slots_by front ++ l) (sym more)))

  -- each pass has its own among them
  pub told_among : (passes : List (Pass H S)) (i : ℕ) (p : Pass H S) → get_elem? passes i ≡ some p → (n : Note) → Has (knows p).told n
      → Has (told_by passes) n
  told_among [] i p at n has = absurd (some-ne-none p (sym at))
  told_among (x ∷ xs) zero p at n has = has_left (knows x).told (told_by xs) n
      (subst (λ (q : Pass H S). Has (knows q).told n) (sym (some-injective x p at)) has)
  told_among (x ∷ xs) (suc i) p at n has = has_right (knows x).told (told_by xs) n (told_among xs i p at n has)

  pub slots_among : (passes : List (Pass H S)) (i : ℕ) (p : Pass H S) → get_elem? passes i ≡ some p → Has (slots_by passes) (slots_at (whole p))
  slots_among [] i p at = absurd (some-ne-none p (sym at))
  slots_among (x ∷ xs) zero p at = has_left (all_slots_at (whole x)) (slots_by xs) (slots_at (whole p))
      (has_right (whole x).taken (slots_at (whole x) ∷ []) (slots_at (whole p)) (zero, ap (λ (q : Pass H S). some (slots_at (whole q))) (some-injective x p at)))
  slots_among (x ∷ xs) (suc i) p at = has_right (all_slots_at (whole x)) (slots_by xs) (slots_at (whole p)) (slots_among xs i p at)
