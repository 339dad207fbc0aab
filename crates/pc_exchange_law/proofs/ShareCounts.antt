-- Between any two steps the share of each pass is counted.
use Rattle.std.proofs.Common.{◌≡◌, ℕ, zero, suc, ◌+◌, ◌-◌, ◌≤◌, ⊎_elim, Bool, true, false, List, [], ◌∷◌, Option, sym, ap, ◌∙◌, subst, arith}
use Rattle.std.proofs.lemmas.Bool.{cases_lt}
use mathlib.Core.Option.{some, some-injective, some-ne-none}
use lib.ListN.{get_elem?}
use Rattle.pc_model.specs.Forms.{Form}
use Rattle.pc_rule_law.specs.Board.{Size, Board, slots_below, start_of}
use Rattle.pc_rule_law.specs.Past.{Past}
use Rattle.pc_rule_law.specs.Rule.{Each}
use Rattle.pc_protocol.specs.Histories.{History}
use Rattle.pc_exchange_law.specs.Attempts.{OwnAttempt}
use Rattle.pc_exchange_law.specs.OwnSlots.{OwnSlots, spare_left, still_spare, OwnsSlots, ShareIsCounted}
use Rattle.pc_exchange_law.specs.SlotCounts.{count_of, nodes_made}
use Rattle.pc_exchange_law.specs.TieLaws.{run_up_to}
use Rattle.pc_exchange_law.specs.Ties.{code}
use Rattle.pc_exchange_law.specs.Wholes.{Whole, WholeKept}
use Rattle.pc_exchange_law.proofs.OwnSlots.{unnamed_left}

-- the slots below the next pass are those below this one and its share
below_with : (shares : List ℕ) (j share : ℕ) → get_elem? shares j ≡ some share → slots_below shares (suc j) ≡ slots_below shares j + share
below_with [] j share at = absurd (some-ne-none share (sym at))
below_with (x ∷ []) zero share at = let same : x ≡ share = some-injective x share at in omega arith
below_with (x ∷ y ∷ shares) zero share at = let same : x ≡ share = some-injective x share at in omega arith
below_with (x ∷ shares) (suc j) share at = let more = below_with shares j share at in omega arith

module _ (z : Size) (h : History) (j : ℕ) (own : OwnAttempt) (o : OwnSlots) (was : OwnsSlots z h j own o) where
  pub share_is_counted : ShareIsCounted z h j own o
  share_is_counted = record {
    free = λ n share. (
      λ is. ⊎_elim (λ below. absurd (was.taken n share.0 below is)) (λ le. le) (cases_lt n o.next),
      λ le. was.free n le (let ends = was.ends in let inside = share.1 in omega arith),
    );
    counted = λ share at. let begins = was.counted in let ends = was.ends in let within = was.within in
        let next : slots_below z.shares (suc j) ≡ slots_below z.shares j + share = below_with z.shares j share at in
        let one : suc j ≡ j + 1 = omega arith in
        counts (slots_below z.shares j) share (slots_below z.shares (j + 1)) o.next o.until _ begins within ends
        (subst (λ (i : ℕ). slots_below z.shares i ≡ slots_below z.shares j + share) one next);
  }
    where
      counts : (below share after next until taken : ℕ) → next ≡ (2 + below) + taken → next ≤ until → until ≡ 2 + after
          → after ≡ below + share → (until - next) + taken ≡ share
      counts below share after next until taken is within ends more = omega arith

-- of a pass whose own attempt rests, the spare counts as it is
pub counts_resting : (z : Size) (h : History) (j : ℕ) (own : OwnAttempt) (o : OwnSlots) → OwnsSlots z h j own o → own.busy ≡ false
    → o.next ≡ start_of z j + (count_of o.spare + nodes_made z j (run_up_to h))
counts_resting z h j own o was rests =
    let left : still_spare h j own o ≡ o.spare = ap (λ (b : Bool). spare_left (h.stage (code j own.number)) b o.spare) (was.rests rests)
    ∙ unnamed_left (h.stage (code j own.number)) o.spare in
    was.counted ∙ ap (λ (p : Option ℕ). start_of z j + (count_of p + nodes_made z j (run_up_to h))) left

pub slots_are_counted : (form : Form) (z : Size) (b : Board) (t : Past) (h : History) (late : ℕ → Bool) (views : List Whole)
    → WholeKept form z b t h late views
    → Each views (λ j x. x.view.live ≡ true → ShareIsCounted z h j x.knows.own x.knows.slots)
slots_are_counted form z b t h late views k j x at live = share_is_counted z h j x.knows.own x.knows.slots (k.owned j x at live)
