-- What a pass has for itself stays at the steps of others.
use Rattle.std.proofs.Common.{◌≡◌, ℕ, Some, refl, sym, ◌∙◌}
use Rattle.std.proofs.Common.{subst, arith, le_refl}
use Rattle.pc_model.specs.declared.cell.Field.{Field}
use Rattle.pc_model.specs.declared.cell.Field.TheVariants.{Version}
use Rattle.pc_history.specs.Footprints.{LeavesWord}
use Rattle.pc_history.specs.Runs.{after}
use Rattle.pc_history.proofs.Updates.{updated_here, updated_other, on_updated, word_updated_here, word_updated_other}
use Rattle.pc_history.proofs.Footprints.{applied_left, with_changes_left}
use Rattle.pc_protocol.specs.Histories.{Purpose, for_read, spare, History, cells_now, IsSpare, IsUsed}
use Rattle.pc_protocol.specs.Rules.{Rule}
use Rattle.pc_protocol.specs.Steps.{draw, commit, CanCommit, take_slot}
use Rattle.pc_protocol.specs.Owned.{KeepsOwned, MakesNot, StepsKeepOwned}
use Rattle.pc_protocol.proofs.Stages.{no_read, spare_not_used}
use Rattle.pc_protocol.proofs.Slots.{slots_with-other}
use Rattle.pc_protocol.proofs.Drawn.{own_refers}
use Rattle.pc_protocol.proofs.Commits as Commits
use Rattle.pc_protocol.proofs.Reading as Reading

module _ (h : History) (rule : Rule h) where
  draw_owned : (d : Purpose) → KeepsOwned h (draw h d)
  draw_owned d = record {
    unread = λ p s is. (
      omega (arith, is.0),
      updated_other h.drawn_for h.clock d s (λ same. absurd (omega (arith, same, is.0))) ∙ is.1,
      is.2,
    );
    spares = λ n v is. (
      is.0,
      (λ i. after (rule.run.late h.clock (le_refl h.clock) i) (cells_now h) n Version) ∙ is.1,
    );
    filled = λ n w f is. is;
  }

  still_spare : (n m : ℕ) → IsSpare (h.slot m) → IsSpare ((take_slot h n).slot m)
  still_spare n m is = on_updated h.slot n spare IsSpare m (λ same. tt) (λ ne. is)

  module _ (x t : ℕ) (can : CanCommit h x t) (n : ℕ) (makes_not : MakesNot (h.op x) n) (is : IsSpare (h.slot n)) where
    leaves_spare : (f : Field) → LeavesWord (h.op x) n f
    leaves_spare f = record {
      unchanged = λ a among is_of. spare_not_used (h.slot n) is (subst (λ (m : ℕ). IsUsed (h.slot m)) is_of.0
          (own_refers h rule x t can.undecided can.drew a among).in_use);
      not_fresh = makes_not;
    }

    spare_after : IsSpare ((commit h x t).slot n)
    spare_after = subst IsSpare (sym (slots_with-other (h.op x).fresh h.slot n makes_not)) is

    version_after : cells_now (commit h x t) n Version ≡ cells_now h n Version
    version_after = (λ i. Commits.same_now h rule x t can i n Version)
        ∙ applied_left (h.op x) (cells_now h) n Version (leaves_spare Version)

    plain_after : (f : Field) → (commit h x t).plain n f ≡ h.plain n f
    plain_after f = with_changes_left (h.op x).changes h.plain n f (leaves_spare f).unchanged

  pub steps_keep_owned : StepsKeepOwned h
  steps_keep_owned = record {
    draws = draw_owned;
    publishes = λ x e b. record { unread = λ p s is. is; spares = λ n v is. is; filled = λ n w f is. is };
    aborts = λ x cause. record { unread = λ p s is. is; spares = λ n v is. is; filled = λ n w f is. is };
    refers = λ n f r. record { unread = λ p s is. is; spares = λ n v is. is; filled = λ n w f is. is };
    takes_slots = λ n is_free. record {
      unread = λ p s is. is;
      spares = λ m v is. (still_spare n m is.0, is.1);
      filled = λ m w f is. (still_spare n m is.0, is.1);
    };
    clears = λ x. record { unread = λ p s is. is; spares = λ n v is. is; filled = λ n w f is. is };
    commits_unread = λ x t p s can is. (
      is.0,
      is.1,
      updated_other h.item t (Some (h.op x)) s (λ same. no_read (h.drawn_for t) x p can.drew.1
          (subst (λ (u : ℕ). h.drawn_for u ≡ for_read p) same is.1)) ∙ is.2,
    );
    commits_spares = λ x t n v can makes_not is. (
      spare_after x t can n makes_not is.0,
      version_after x t can n makes_not is.0 ∙ is.1,
    );
    commits_filled = λ x t n w f can makes_not is. (
      spare_after x t can n makes_not is.0,
      plain_after x t can n makes_not is.0 f ∙ is.1,
    );
    reads_unread = λ q t e p s ne is. (is.0, is.1, updated_other h.item t (Some e) s ne ∙ is.2);
    reads_spares = λ q t e n v can is. (is.0, (λ i. Reading.same_now h rule q t e can i n Version) ∙ is.1);
    reads_filled = λ t e n w f is. is;
    fills_unread = λ m g u p s is. is;
    fills_spares = λ m g u n v is. is;
    fills_filled = λ m g u n w f other is. (is.0, word_updated_other h.plain m g u n f other ∙ is.1);
    begins_read = λ p. (
      omega arith,
      updated_here h.drawn_for h.clock (for_read p) h.clock refl,
      rule.run.late h.clock (le_refl h.clock),
    );
    begins_spare = λ n. (subst IsSpare (sym (updated_here h.slot n spare n refl)) tt, refl);
    begins_filled = λ n w f is. (is, word_updated_here h.plain n f w n f refl refl);
  }
