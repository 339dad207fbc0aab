-- An exchange that rests on a past version, on the course of Worked: it is published after another has raised the
-- sentinel's version, and whoever finds the word knows that it is outdated. One that is published in time isn't.
use Rattle.std.proofs.Common.{◌≡◌, ℕ, inl, ⊎_elim, [], ◌∷◌, None, refl, sym, subst, arith}
use Rattle.pc_model.specs.Exchanges.{Changed, Exchange}
use Rattle.pc_history.specs.Footprints.{RaisesVersionOf}
use Rattle.pc_protocol.specs.Histories.{changed, History}
use Rattle.pc_protocol.specs.Seeing.{ChangesVersion}
use Rattle.pc_protocol.specs.Notes.{read_word, outdated, IsTrueNote}
use Rattle.pc_protocol.specs.Bases.{HasBasis, IsBased}
use Rattle.pc_protocol.specs.Steps.{Keeps, publish, CanAbort}
use Rattle.pc_protocol.proofs.Stages.{none_not_some}
use Rattle.pc_protocol.proofs.Publishing.{publish_keeps}
use Rattle.pc_protocol.proofs.Bases.{bases_tell}
use Rattle.pc_protocol.proofs.Serving.{notes_serve}
use Rattle.pc_protocol.proofs.Worked.{raise, published as in_time, cleared, cleared_rule}

abbrev again : Exchange
again = record { visits = []; reads = []; changes = raise ∷ []; fresh = None }

abbrev too_late : History
too_late = publish cleared 9 again 2

own_version : ChangesVersion again 1 0
own_version = record { change = raise; among = inl refl; is_of = (refl, refl); old = refl }

-- the word had its old number from the opening on, while the node had that version
its_basis : HasBasis cleared again
its_basis a among = ⊎_elim
    (λ e. subst (λ (b : Changed). (v : ℕ) × ChangesVersion again b.node v × (c : ℕ)
    × IsTrueNote cleared (read_word b.node v b.field b.old c)) (sym e)
    (0, own_version, 0, (omega arith, (omega arith, λ t le is. is))))
    (λ none'. absurd none') among

keeps : Keeps cleared too_late
keeps = publish_keeps cleared cleared_rule 9 again 2 (record {
  is_new = refl;
  past = omega arith;
  well_formed = record {
    once = ((λ b among is. among), tt);
    raises = λ a among. ⊎_elim
        (λ e. subst (λ (b : Changed). RaisesVersionOf again b.node) (sym e)
        (record { change = raise; among = inl refl; is_of = (refl, refl); rises = inl (omega arith) }))
        (λ none'. absurd none') among;
    not_fresh = λ a g among is. absurd (none_not_some g is);
  };
  saw = record { visits = λ v among. absurd among; reads = λ r among. absurd among };
  fresh = λ g is. absurd (none_not_some g is);
  apart = λ y g k u is_g is_k. absurd (none_not_some g is_g);
})

based : IsBased too_late 9
based = (bases_tell cleared cleared_rule).begins 9 again 2 keeps its_basis

outdated_at_once : IsTrueNote too_late (outdated 9 1)
outdated_at_once = (bases_tell too_late keeps.rule).other_number 9 raise tt based (inl refl) (λ spare. spare)
    (λ same. let clash : ◌≡◌ {A = ℕ} 2 0 = same in absurd (omega (arith, clash)))

so_it_may_fail : CanAbort too_late 9 (changed 1)
so_it_may_fail = (notes_serve too_late keeps.rule).outdated_node 9 1 tt outdated_at_once

-- the exchange that was published at the opening's version isn't outdated then
not_in_time : IsTrueNote in_time (outdated 7 1) → ⊥
not_in_time noted = let past = noted.1.2 in absurd (omega (arith, past))
