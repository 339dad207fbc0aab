-- A worked course from the opening: a spare is taken and filled, an exchange that hangs it below the sentinel is
-- published, puts its references, draws a stamp and takes effect; its references are taken out and it is cleared. An
-- exchange that visited the sentinel before that can't take effect any more, and fails.
use Rattle.std.proofs.Common.{◌≡◌, ℕ, ◌%◌, ◌≤◌, inl, inr, ⊎_elim, [], ◌∷◌, Option, Some, None, refl, sym}
use Rattle.std.proofs.Common.{ap, ◌∙◌, subst, arith}
use Rattle.pc_model.specs.declared.cell.Field.{Field}
use Rattle.pc_model.specs.declared.cell.Field.TheVariants.{Version, Key, Value, Left, Right, Parent, Height, Spare}
use Rattle.pc_model.specs.Exchanges.{Visited, Seen, Changed, FreshNode, Exchange, Stands}
use Rattle.pc_model.specs.Linked.{opening_cells}
use Rattle.pc_history.specs.Footprints.{IsAmong, RaisesVersionOf, IsWellFormed}
use Rattle.pc_history.specs.WorldRuns.{run_of, IsListOf}
use Rattle.pc_history.proofs.Updates.{from_word_updated}
use Rattle.pc_protocol.specs.Histories.{for_exchange, changed, History, moments, cells_now, IsUndecided, IsUsed}
use Rattle.pc_protocol.specs.Seeing.{ChangesVersion, Covers, Saw, SawWord}
use Rattle.pc_protocol.specs.Rules.{Refers, IsReady, Rule}
use Rattle.pc_protocol.specs.Steps.{draw, publish, commit, CanCommit, abort}
use Rattle.pc_protocol.specs.Steps.{refer, CanRefer, fill, take_slot, clear}
use Rattle.pc_protocol.specs.Openings.{opened, opening_slots}
use Rattle.pc_protocol.specs.ProtocolLaws.{StandsAtStamp}
use Rattle.pc_protocol.proofs.Stages.{none_not_some, some_same}
use Rattle.pc_protocol.proofs.Openings.{rule_holds_at_openings, nothing_yet}
use Rattle.pc_protocol.proofs.Words.{refer_keeps, fill_keeps, take_slot_keeps, clear_keeps}
use Rattle.pc_protocol.proofs.Draws.{draw_keeps}
use Rattle.pc_protocol.proofs.Publishing.{publish_keeps}
use Rattle.pc_protocol.proofs.Commits.{commit_keeps}
use Rattle.pc_protocol.proofs.Aborts.{abort_keeps}
use Rattle.pc_protocol.proofs.Drawn.{passed_version}
use Rattle.pc_protocol.proofs.Protocol.{rule_tells}

abbrev pub leaf_fields : Field → ℕ
leaf_fields Version = 2
leaf_fields Key = 5
leaf_fields Value = 50
leaf_fields Left = 0
leaf_fields Right = 0
leaf_fields Parent = 0
leaf_fields Height = 0
leaf_fields Spare = 0

abbrev pub raise : Changed
raise = record { node = 1; field = Version; old = 0; new = 2 }

abbrev pub link : Changed
link = record { node = 1; field = Left; old = 0; new = 2 }

abbrev pub leaf : FreshNode
leaf = record { node = 2; fields = leaf_fields }

abbrev pub hang : Exchange
hang = record {
  visits = record { node = 1; version = 0 } ∷ [];
  reads = record { node = 1; field = Left; number = 0 } ∷ [];
  changes = raise ∷ link ∷ [];
  fresh = Some leaf;
}

-- The states

abbrev pub at_opening : History
at_opening = opened (opening_cells 0) 1 17179869183 (λ x. x) opening_slots

abbrev pub taken : History
taken = take_slot at_opening 2

abbrev pub filled : History
filled = fill (fill (fill taken 2 Version 2) 2 Key 5) 2 Value 50

abbrev pub published : History
published = publish filled 7 hang 1

abbrev pub referred : History
referred = refer (refer published 1 Version (Some 7)) 1 Left (Some 7)

abbrev pub drawn : History
drawn = draw referred (for_exchange 7)

abbrev pub done : History
done = commit drawn 7 1

abbrev pub cleaned : History
cleaned = refer (refer done 1 Version None) 1 Left None

abbrev pub cleared : History
cleared = clear cleaned 7

-- The rule in each of them

opening_rule : Rule at_opening
opening_rule = rule_holds_at_openings.usual 0 1 17179869183 (λ x. x) refl

taken_rule : Rule taken
taken_rule = (take_slot_keeps at_opening opening_rule 2 tt).rule

filled_rule : Rule filled
filled_rule =
    let one : Rule (fill taken 2 Version 2) = (fill_keeps taken taken_rule 2 Version 2 (record {
      is_spare = tt;
      not_named = λ x g u is. absurd u;
    })).rule in
    let two : Rule (fill (fill taken 2 Version 2) 2 Key 5) = (fill_keeps (fill taken 2 Version 2) one 2 Key 5 (record {
      is_spare = tt;
      not_named = λ x g u is. absurd u;
    })).rule in
    (fill_keeps (fill (fill taken 2 Version 2) 2 Key 5) two 2 Value 50 (record {
      is_spare = tt;
      not_named = λ x g u is. absurd u;
    })).rule

at_root : (a : Changed) → IsAmong a hang.changes → a.node ≡ 1
at_root a among = ⊎_elim
    (λ e. ap (λ (x : Changed). x.node) e)
    (λ later. ⊎_elim (λ e. ap (λ (x : Changed). x.node) e) (λ none'. absurd none') later) among

is_leaf : (g : FreshNode) → hang.fresh ≡ Some g → leaf ≡ g
is_leaf g is = some_same leaf g is

hang_well_formed : IsWellFormed hang
hang_well_formed = record {
  once = (
    (λ b among is. ⊎_elim
        (λ e. let clash : ◌≡◌ {A = Field} Left Version = sym (ap (λ (x : Changed). x.field) e) ∙ is.1 in cc)
        (λ none'. none') among),
    ((λ b among is. among), tt),
  );
  raises = λ a among. subst (RaisesVersionOf hang) (sym (at_root a among)) (record {
    change = raise;
    among = inl refl;
    is_of = (refl, refl);
    rises = inl (omega arith);
  });
  not_fresh = λ a g among is same.
      let two : 2 ≡ g.node = ap (λ (x : FreshNode). x.node) (is_leaf g is) in
      absurd (omega (arith, two, same, at_root a among));
}

left_is_0 : (t : ℕ) → moments filled t 1 Left ≡ 0
left_is_0 t = λ i. nothing_yet (opening_cells 0) t i 1 Left

hang_saw : Saw (moments filled) 1 hang
hang_saw = record {
  visits = λ v among. ⊎_elim
      (λ e. subst (λ (w : Visited). (w.version % 2 ≡ 0) × (w.version ≤ moments filled 1 w.node Version)) (sym e)
      (refl, omega arith))
      (λ none'. absurd none') among;
  reads = λ r among. ⊎_elim
      (λ e. subst (λ (q : Seen). (v : ℕ) × (Covers hang q.node v) × SawWord (moments filled) 1 q.node v q.field q.number)
      (sym e) (
        0,
        inl (record {
          visit = record { node = 1; version = 0 };
          among = inl refl;
          node = refl;
          version = refl;
        }),
        (omega arith, (λ t le version. left_is_0 t)),
      ))
      (λ none'. absurd none') among;
}

leaf_filled : (f : Field) → filled.plain 2 f ≡ leaf_fields f
leaf_filled Version = refl
leaf_filled Key = refl
leaf_filled Value = refl
leaf_filled Left = refl
leaf_filled Right = refl
leaf_filled Parent = refl
leaf_filled Height = refl
leaf_filled Spare = refl

published_rule : Rule published
published_rule = (publish_keeps filled filled_rule 7 hang 1 (record {
  is_new = refl;
  past = omega arith;
  well_formed = hang_well_formed;
  saw = hang_saw;
  fresh = λ g is. subst (IsReady (cells_now filled) filled.plain filled.slot) (is_leaf g is) (record {
    is_spare = tt;
    version = refl;
    filled = leaf_filled;
  });
  apart = λ y g k u is_g is_k. absurd u;
})).rule

refers_to : (a : Changed) → IsAmong a hang.changes → a.old ≡ published.plain a.node a.field → (x : ℕ)
    → Some 7 ≡ Some x
    → Refers published.stage published.op published.plain published.slot a.node a.field x
refers_to a among value x is =
    subst (Refers published.stage published.op published.plain published.slot a.node a.field) (some_same 7 x is) (record {
      published = tt;
      change = a;
      among = among;
      is_of = (refl, refl);
      value = value;
      in_use = subst (λ (n : ℕ). IsUsed (published.slot n)) (sym (at_root a among)) tt;
    })

first_refers : CanRefer published 1 Version (Some 7)
first_refers = record {
  refers = refers_to raise (inl refl) refl;
  uncleared = λ x is. refl;
  stays = λ y is u. absurd (none_not_some y is);
}

first_rule : Rule (refer published 1 Version (Some 7))
first_rule = (refer_keeps published published_rule 1 Version (Some 7) first_refers).rule

referred_rule : Rule referred
referred_rule = (refer_keeps (refer published 1 Version (Some 7)) first_rule 1 Left (Some 7) (record {
  refers = refers_to link (inr (inl refl)) refl;
  uncleared = λ x is. refl;
  stays = λ y is u. absurd (none_not_some y is);
})).rule

held_by : (a : Changed) → IsAmong a hang.changes → referred.reference a.node a.field ≡ Some 7
held_by a among = ⊎_elim
    (λ e. subst (λ (b : Changed). referred.reference b.node b.field ≡ Some 7) (sym e) refl)
    (λ later. ⊎_elim
    (λ e. subst (λ (b : Changed). referred.reference b.node b.field ≡ Some 7) (sym e) refl)
    (λ none'. absurd none') later)
    among

drawn_rule : Rule drawn
drawn_rule = (draw_keeps referred referred_rule 7 (record {
  published = tt;
  held = λ a u among. held_by a among;
})).rule

may_commit : CanCommit drawn 7 1
may_commit = record {
  undecided = tt;
  drew = (omega arith, refl);
  checked = λ v among. ⊎_elim
      (λ e. inl (subst (λ (w : Visited). ChangesVersion hang w.node w.version) (sym e) (record {
        change = raise;
        among = inl refl;
        is_of = (refl, refl);
        old = refl;
      })))
      (λ none'. absurd none') among;
}

done_rule : Rule done
done_rule = (commit_keeps drawn drawn_rule 7 1 may_commit).rule

not_open : (y : ℕ) → Some 7 ≡ Some y → IsUndecided (done.stage y) → ⊥
not_open y is u = subst (λ (z : ℕ). IsUndecided (done.stage z)) (sym (some_same 7 y is)) u

cleaned_rule : Rule cleaned
cleaned_rule =
    let one : Rule (refer done 1 Version None) = (refer_keeps done done_rule 1 Version None (record {
      refers = λ x is. absurd (none_not_some x is);
      uncleared = λ x is. absurd (none_not_some x is);
      stays = λ y is u. absurd (not_open y is u);
    })).rule in
    (refer_keeps (refer done 1 Version None) one 1 Left None (record {
      refers = λ x is. absurd (none_not_some x is);
      uncleared = λ x is. absurd (none_not_some x is);
      stays = λ y is u. absurd (not_open y is u);
    })).rule

no_reference : (n : ℕ) (f : Field) → cleaned.reference n f ≡ Some 7 → ⊥
no_reference n f is = ⊎_elim
    (λ here. none_not_some 7 here.2)
    (λ not_left. ⊎_elim
    (λ here. none_not_some 7 here.2)
    (λ not_version. ⊎_elim
    (λ left. not_left.0 left.0 left.1)
    (λ other. ⊎_elim
    (λ version. not_version.0 version.0 version.1)
    (λ nothing. none_not_some 7 nothing.1)
    (from_word_updated at_opening.reference 1 Version (Some 7) (λ (o : Option ℕ). o ≡ Some 7) n f other.1))
    (from_word_updated (refer published 1 Version (Some 7)).reference 1 Left (Some 7) (λ (o : Option ℕ). o ≡ Some 7) n f
    not_version.1))
    (from_word_updated done.reference 1 Version None (λ (o : Option ℕ). o ≡ Some 7) n f not_left.1))
    (from_word_updated (refer done 1 Version None).reference 1 Left None (λ (o : Option ℕ). o ≡ Some 7) n f is)

pub cleared_rule : Rule cleared
cleared_rule = (clear_keeps cleaned cleaned_rule 7 (record { decided = tt; no_words = no_reference })).rule

-- What came of it

the_run : run_of cleared.item cleared.clock ≡ record { stamp = 1; what = hang } ∷ []
the_run = refl

link_now : cells_now cleared 1 Left ≡ 2
link_now = refl

key_now : cells_now cleared 2 Key ≡ 5
key_now = refl

version_then : moments cleared 1 1 Version ≡ 0
version_then = refl

version_now : cells_now cleared 1 Version ≡ 2
version_now = refl

it_stands : StandsAtStamp cleared 7 1
it_stands = (rule_tells cleared cleared_rule).committed_stands 7 1 refl

is_world : IsListOf (opening_cells 0) cleared.item 2 (run_of cleared.item 2)
is_world = (rule_tells cleared cleared_rule).world 2

-- An exchange that visited the sentinel at its old version

abbrev pub stale : Exchange
stale = record { visits = record { node = 1; version = 0 } ∷ []; reads = []; changes = []; fresh = None }

abbrev pub late : History
late = draw (publish cleared 8 stale 2) (for_exchange 8)

late_rule : Rule late
late_rule =
    let one : Rule (publish cleared 8 stale 2) = (publish_keeps cleared cleared_rule 8 stale 2 (record {
      is_new = refl;
      past = omega arith;
      well_formed = record {
        once = tt;
        raises = λ a among. absurd among;
        not_fresh = λ a g among is. absurd among;
      };
      saw = record {
        visits = λ v among. ⊎_elim
            (λ e. subst (λ (w : Visited). (w.version % 2 ≡ 0)
            × (w.version ≤ moments cleared 2 w.node Version)) (sym e)
            (refl, omega arith))
            (λ none'. absurd none') among;
        reads = λ r among. absurd among;
      };
      fresh = λ g is. absurd (none_not_some g is);
      apart = λ y g k u is_g is_k. absurd (none_not_some g is_g);
    })).rule in
    (draw_keeps (publish cleared 8 stale 2) one 8 (record { published = tt; held = λ a u among. absurd among })).rule

abbrev old_visit : Visited
old_visit = record { node = 1; version = 0 }

-- its check can't pass, so it can't take effect
stale_may_not_commit : CanCommit late 8 2 → ⊥
stale_may_not_commit can = ⊎_elim
    (λ own. own.among)
    (λ passed. let version : ◌≡◌ {A = ℕ} 2 0 = passed_version late late_rule 2 old_visit (omega arith) passed in
    absurd (omega (arith, version)))
    (can.checked old_visit (inl refl))

-- and it may fail, since the sentinel's version is above the one that it visited
failed_rule : Rule (abort late 8 (changed 1))
failed_rule = (abort_keeps late late_rule 8 (changed 1) (record {
  undecided = tt;
  cause = (
    0,
    inl (record { visit = old_visit; among = inl refl; node = refl; version = refl }),
    omega arith,
  );
})).rule

-- a history whose run lacks what took effect isn't one of the rule
lost_exchange_is_refused : Rule (record cleared { item = λ t. None }) → ⊥
lost_exchange_is_refused rule = none_not_some hang (rule.standing 7 1 refl).1

-- Histories that the rule refuses

-- an exchange took effect though what it visited had changed
stale_commit_is_refused : Rule (commit late 8 2) → ⊥
stale_commit_is_refused rule =
    let stands : Stands stale (moments (commit late 8 2) 2) = rule.run.stands 2 in
    let version : ◌≡◌ {A = ℕ} 2 0 = stands.visits.0.0 in absurd (omega (arith, version))

-- a stamp was drawn for an exchange before its words held its reference
early_draw_is_refused : Rule (draw published (for_exchange 7)) → ⊥
early_draw_is_refused rule = none_not_some 7 (rule.held 7 1 raise tt (omega arith, refl) (inl refl))

-- a word has the reference of an exchange that doesn't change it
foreign_reference_is_refused : Rule (refer published 1 Key (Some 7)) → ⊥
foreign_reference_is_refused rule =
    let there : Refers published.stage published.op published.plain published.slot 1 Key 7 = rule.refers 1 Key 7 refl in
    not_key there.change there.among there.is_of.1
  where
    not_key : (a : Changed) → IsAmong a hang.changes → a.field ≡ Key → ⊥
    not_key a among field = ⊎_elim
        (λ e. let clash : ◌≡◌ {A = Field} Version Key = sym (ap (λ (x : Changed). x.field) e) ∙ field in cc)
        (λ later. ⊎_elim
        (λ e. let clash : ◌≡◌ {A = Field} Left Key = sym (ap (λ (x : Changed). x.field) e) ∙ field in cc)
        (λ none'. none') later)
        among

-- the reference of an exchange that isn't decided was taken out after it drew its stamp
lost_reference_is_refused : Rule (refer drawn 1 Left None) → ⊥
lost_reference_is_refused rule = none_not_some 7 (rule.held 7 1 link tt (omega arith, refl) (inr (inl refl)))
