-- A worked course of two exchanges that visited one node and change others: the one with the greater stamp takes effect
-- first, and then the other, below it. A third one that visited what the first changes can't take effect meanwhile.
use Rattle.std.proofs.Common.{◌≡◌, ℕ, ◌%◌, ◌<◌, ◌≤◌, ◌⊎◌, inl, inr, ⊎_elim, [], ◌∷◌, Some, None, refl, sym}
use Rattle.std.proofs.Common.{ap, ◌∙◌, subst, arith}
use Rattle.pc_model.specs.declared.cell.Field.{Field}
use Rattle.pc_model.specs.declared.cell.Field.TheVariants.{Version, Value}
use Rattle.pc_model.specs.Cells.{Cells}
use Rattle.pc_model.specs.Exchanges.{Visited, Changed, Exchange}
use Rattle.pc_history.specs.Footprints.{IsAmong, LeavesWord, RaisesVersionOf, IsWellFormed}
use Rattle.pc_history.specs.WorldRuns.{run_of}
use Rattle.pc_protocol.specs.Histories.{for_exchange, History, moments, IsUndecided, used}
use Rattle.pc_protocol.specs.Seeing.{ChangesVersion}
use Rattle.pc_protocol.specs.Rules.{Refers, Rule}
use Rattle.pc_protocol.specs.Notes.{value, looked, IsTrueNote}
use Rattle.pc_protocol.specs.Steps.{Keeps, draw, publish, commit, HasPassed, refer}
use Rattle.pc_protocol.specs.Openings.{opened}
use Rattle.pc_protocol.specs.Serving.{HasPassedByNotes}
use Rattle.pc_protocol.proofs.Stages.{none_not_some, some_same}
use Rattle.pc_protocol.proofs.Openings.{rule_at_opening}
use Rattle.pc_protocol.proofs.Words.{refer_keeps}
use Rattle.pc_protocol.proofs.Draws.{draw_keeps}
use Rattle.pc_protocol.proofs.Publishing.{publish_keeps}
use Rattle.pc_protocol.proofs.Commits.{commit_keeps}
use Rattle.pc_protocol.proofs.Drawn.{passed_others}
use Rattle.pc_protocol.proofs.Loads.{loads_tell}
use Rattle.pc_protocol.proofs.Serving.{notes_serve}

abbrev root_visit : Visited
root_visit = record { node = 1; version = 0 }

abbrev own_visit : ℕ → Visited
own_visit n = record { node = n; version = 0 }

abbrev put_value : ℕ → Changed
put_value n = record { node = n; field = Value; old = 0; new = 7 }

abbrev put_version : ℕ → Changed
put_version n = record { node = n; field = Version; old = 0; new = 2 }

-- the sentinel and a node were visited, and the node's value is changed
abbrev change : ℕ → Exchange
change n = record {
  visits = root_visit ∷ own_visit n ∷ [];
  reads = [];
  changes = put_value n ∷ put_version n ∷ [];
  fresh = None;
}

each_change : (n : ℕ) (P : Changed → Type 0) → P (put_value n) → P (put_version n) → (a : Changed)
    → IsAmong a (change n).changes
    → P a
each_change n P of_value of_version a among = ⊎_elim
    (λ e. subst P (sym e) of_value)
    (λ later. ⊎_elim (λ e. subst P (sym e) of_version) (λ none'. absurd none') later)
    among

each_visit : (n : ℕ) (P : Visited → Type 0) → P root_visit → P (own_visit n) → (v : Visited)
    → IsAmong v (change n).visits
    → P v
each_visit n P of_root of_own v among = ⊎_elim
    (λ e. subst P (sym e) of_root)
    (λ later. ⊎_elim (λ e. subst P (sym e) of_own) (λ none'. absurd none') later)
    among

change_well_formed : (n : ℕ) → IsWellFormed (change n)
change_well_formed n = record {
  once = (
    (λ b among is. ⊎_elim
        (λ e. let clash : ◌≡◌ {A = Field} Version Value = sym (ap (λ (x : Changed). x.field) e) ∙ is.1 in cc)
        (λ none'. none') among),
    ((λ b among is. among), tt),
  );
  raises = λ a among. each_change n (λ (b : Changed). RaisesVersionOf (change n) b.node) (raised n) (raised n) a among;
  not_fresh = λ a g among is. absurd (none_not_some g is);
}
  where
    raised : (n : ℕ) → RaisesVersionOf (change n) n
    raised n = record {
      change = put_version n;
      among = inr (inl refl);
      is_of = (refl, refl);
      rises = inl (omega arith);
    }

own_version : (n : ℕ) → ChangesVersion (change n) n 0
own_version n = record { change = put_version n; among = inr (inl refl); is_of = (refl, refl); old = refl }

-- The states: every node is in use

abbrev zeros : Cells
zeros = λ n f. 0

abbrev start : History
start = opened zeros 1 17179869183 (λ x. x) (λ n. used)

abbrev two_published : History
two_published = publish (publish start 5 (change 2) 1) 6 (change 3) 1

abbrev first_referred : History
first_referred = refer (refer two_published 2 Value (Some 5)) 2 Version (Some 5)

abbrev both_referred : History
both_referred = refer (refer first_referred 3 Value (Some 6)) 3 Version (Some 6)

abbrev both_drawn : History
both_drawn = draw (draw both_referred (for_exchange 5)) (for_exchange 6)

abbrev later_done : History
later_done = commit both_drawn 6 2

abbrev both_done : History
both_done = commit later_done 5 1

-- The rule in each of them

start_rule : Rule start
start_rule = rule_at_opening zeros 1 17179869183 (λ x. x) (λ n. used) (λ n not_used. absurd (not_used tt))

one_rule : Rule (publish start 5 (change 2) 1)
one_rule = (publish_keeps start start_rule 5 (change 2) 1 (record {
  is_new = refl;
  past = omega arith;
  well_formed = change_well_formed 2;
  saw = record {
    visits = each_visit 2 (λ (v : Visited). (v.version % 2 ≡ 0) × (v.version ≤ moments start 1 v.node Version))
        (refl, omega arith) (refl, omega arith);
    reads = λ r among. absurd among;
  };
  fresh = λ g is. absurd (none_not_some g is);
  apart = λ y g k u is_g is_k. absurd u;
})).rule

two_rule : Rule two_published
two_rule = (publish_keeps (publish start 5 (change 2) 1) one_rule 6 (change 3) 1 (record {
  is_new = refl;
  past = omega arith;
  well_formed = change_well_formed 3;
  saw = record {
    visits = each_visit 3 (λ (v : Visited). (v.version % 2 ≡ 0)
        × (v.version ≤ moments (publish start 5 (change 2) 1) 1 v.node Version)) (refl, omega arith)
        (refl, omega arith);
    reads = λ r among. absurd among;
  };
  fresh = λ g is. absurd (none_not_some g is);
  apart = λ y g k u is_g is_k. absurd (none_not_some g is_g);
})).rule

refers_first : (a : Changed) → IsAmong a (change 2).changes → 0 ≡ a.old → (x : ℕ) → Some 5 ≡ Some x
    → Refers two_published.stage two_published.op two_published.plain two_published.slot a.node a.field x
refers_first a among worth x is =
    subst (Refers two_published.stage two_published.op two_published.plain two_published.slot a.node a.field)
    (some_same 5 x is)
    (record { published = tt; change = a; among = among; is_of = (refl, refl); value = sym worth; in_use = tt })

refers_second : (a : Changed) → IsAmong a (change 3).changes → 0 ≡ a.old → (x : ℕ) → Some 6 ≡ Some x
    → Refers two_published.stage two_published.op two_published.plain two_published.slot a.node a.field x
refers_second a among worth x is =
    subst (Refers two_published.stage two_published.op two_published.plain two_published.slot a.node a.field)
    (some_same 6 x is)
    (record { published = tt; change = a; among = among; is_of = (refl, refl); value = sym worth; in_use = tt })

referred_rule : Rule both_referred
referred_rule =
    let one : Rule (refer two_published 2 Value (Some 5)) = (refer_keeps two_published two_rule 2 Value (Some 5) (record {
      refers = refers_first (put_value 2) (inl refl) refl;
      uncleared = λ x is. refl;
      stays = λ y is u. absurd (none_not_some y is);
    })).rule in
    let two : Rule first_referred = (refer_keeps (refer two_published 2 Value (Some 5)) one 2 Version (Some 5) (record {
      refers = refers_first (put_version 2) (inr (inl refl)) refl;
      uncleared = λ x is. refl;
      stays = λ y is u. absurd (none_not_some y is);
    })).rule in
    let three : Rule (refer first_referred 3 Value (Some 6)) = (refer_keeps first_referred two 3 Value (Some 6) (record {
      refers = refers_second (put_value 3) (inl refl) refl;
      uncleared = λ x is. refl;
      stays = λ y is u. absurd (none_not_some y is);
    })).rule in
    (refer_keeps (refer first_referred 3 Value (Some 6)) three 3 Version (Some 6) (record {
      refers = refers_second (put_version 3) (inr (inl refl)) refl;
      uncleared = λ x is. refl;
      stays = λ y is u. absurd (none_not_some y is);
    })).rule

drawn_rule : Rule both_drawn
drawn_rule =
    let one : Rule (draw both_referred (for_exchange 5)) = (draw_keeps both_referred referred_rule 5 (record {
      published = tt;
      held = λ a u among. each_change 2 (λ (b : Changed). both_referred.reference b.node b.field ≡ Some 5) refl refl a
          among;
    })).rule in
    (draw_keeps (draw both_referred (for_exchange 5)) one 6 (record {
      published = tt;
      held = λ a u among. each_change 3 (λ (b : Changed). both_referred.reference b.node b.field ≡ Some 6) refl refl a
          among;
    })).rule

-- both look at the sentinel, each for its own stamp
looks : (s : ℕ) → s < 3 → IsTrueNote both_drawn (looked s 1 (value 0))
looks s lt = (loads_tell both_drawn drawn_rule).look s 1 lt (λ spare. spare)

later_keeps : Keeps both_drawn later_done
later_keeps = commit_keeps both_drawn drawn_rule 6 2 ((notes_serve both_drawn drawn_rule).commit 6 2 tt (omega arith, refl)
    (each_visit 3 (λ (v : Visited). ChangesVersion (change 3) v.node v.version ⊎ HasPassedByNotes both_drawn 2 v)
    (inr (value 0, looks 2 (omega arith), omega arith))
    (inl (own_version 3))))

-- what the other noted before is still true, and it takes effect below
both_keep : Keeps later_done both_done
both_keep = commit_keeps later_done later_keeps.rule 5 1 ((notes_serve later_done later_keeps.rule).commit 5 1 tt
    (omega arith, refl)
    (each_visit 2 (λ (v : Visited). ChangesVersion (change 2) v.node v.version ⊎ HasPassedByNotes later_done 1 v)
    (inr (value 0, later_keeps.notes (looked 1 1 (value 0)) (looks 1 (omega arith)), omega arith))
    (inl (own_version 2))))

the_run : run_of both_done.item both_done.clock
    ≡ record { stamp = 1; what = change 2 } ∷ record { stamp = 2; what = change 3 } ∷ []
the_run = refl

before_the_second : moments both_done 2 2 Value ≡ 7
before_the_second = refl

-- An exchange that visited what an undecided one changes, and has a greater stamp, can't take effect
third_may_not_commit : (h : History) → Rule h → IsUndecided (h.stage 5) → (h.op 5 ≡ change 2)
    → (1 < h.clock) × (h.drawn_for 1 ≡ for_exchange 5) → (s : ℕ) → 1 < s → 0 ≤ moments h s 2 Version
    → HasPassed h s (own_visit 2) → ⊥
third_may_not_commit h rule u is drew s lt least passed =
    let leaves : LeavesWord (h.op 5) 2 Version = passed_others h rule s (own_visit 2) least passed 5 1 u drew lt in
    let leaves_change : LeavesWord (change 2) 2 Version = subst (λ (e : Exchange). LeavesWord e 2 Version) is leaves in
    leaves_change.unchanged (put_version 2) (inr (inl refl)) (refl, refl)

there_it_may_not : HasPassed later_done 3 (own_visit 2) → ⊥
there_it_may_not = third_may_not_commit later_done later_keeps.rule tt refl (omega arith, refl) 3 (omega arith)
    (omega arith)
