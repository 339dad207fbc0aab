-- The rule holds where a board opens.
use Rattle.std.proofs.Common.{◌≡◌, ℕ, zero, suc, ◌+◌, ◌%◌, ◌==◌, ⊎_elim, None, refl, sym}
use Rattle.std.proofs.Common.{ap, ◌∙◌, subst, arith}
use Rattle.std.proofs.lemmas.Bool.{cases_eq, eq-eqb, ne_eqb, cond-true, cond-false}
use Rattle.pc_model.specs.declared.cell.Field.TheVariants.{Version}
use Rattle.pc_model.specs.Cells.{Cells, IsEven, IsOdd}
use Rattle.pc_model.specs.Linked.{opening_cells}
use Rattle.pc_history.specs.Runs.{cells_at}
use Rattle.pc_protocol.specs.Histories.{for_exchange, for_read, absent, committed, aborted, Slot, free, used, IsUsed}
use Rattle.pc_protocol.specs.Rules.{Rule}
use Rattle.pc_protocol.specs.Openings.{opened, opening_slots}
use Rattle.pc_protocol.specs.ProtocolLaws.{RuleHoldsAtOpenings}
use Rattle.pc_protocol.proofs.Stages.{none_not_some}

pub nothing_yet : (cells : Cells) (t : ℕ) → cells_at cells (λ _. None) t ≡ cells
nothing_yet cells zero = refl
nothing_yet cells (suc t) = nothing_yet cells t

pub rule_at_opening : (cells : Cells) (start last : ℕ) (owner : ℕ → ℕ) (slots : ℕ → Slot)
    → ((n : ℕ) → (IsUsed (slots n) → ⊥) → IsOdd (cells n Version)) → Rule (opened cells start last owner slots)
rule_at_opening cells start last owner slots odd = record {
  run = record { late = λ t le. refl; stands = λ t. tt; raises = λ t. tt };
  taken = λ t. tt;
  standing = λ x t is. absurd (let clash : absent ≡ committed t = is in cc);
  past = λ x p. absurd p;
  drawn = λ x t drew. absurd (let clash : for_read 0 ≡ for_exchange x = drew.1 in cc);
  held = λ x t a u drew among. absurd u;
  misses = λ x t v u drew lt. tt;
  plain_is = λ n f not_spare. sym (λ i. nothing_yet cells start i n f);
  refers = λ n f x is. absurd (none_not_some x is);
  unused = λ n not_used. subst (λ (c : Cells). IsOdd (c n Version)) (sym (nothing_yet cells start)) (odd n not_used);
  well_formed = λ x p. absurd p;
  fresh = λ x g u is. absurd u;
  apart = λ x y g k ne u v is_g is_k. absurd u;
  saw = λ x u. absurd u;
  caused = λ x w is. absurd (let clash : absent ≡ aborted w = is in cc);
  uncleared = λ n f x is. refl;
  running = λ x not_decided. refl;
}

opening_odd : (version n : ℕ) → IsEven version → (IsUsed (opening_slots n) → ⊥) → IsOdd (opening_cells version n Version)
opening_odd version n even not_used = ⊎_elim
    (λ one. absurd (not_used (subst IsUsed (sym (cond-true (n == 1) used free (eq-eqb n 1 one))) tt)))
    (λ other. let is : opening_cells version n Version ≡ version + 1 =
    cond-false (n == 1) version (version + 1) (ne_eqb n 1 other) in
    ap (λ (v : ℕ). v % 2) is ∙ (omega (arith, even)))
    (cases_eq n 1)

pub rule_holds_at_openings : RuleHoldsAtOpenings
rule_holds_at_openings = record {
  any = rule_at_opening;
  usual = λ version start last owner even. rule_at_opening (opening_cells version) start last owner opening_slots
      (λ n not_used. opening_odd version n even not_used);
}
