-- That a run goes and ends right: from a plan's laws along every trace that agrees with the cells, and from the
-- exchange that was written.
use Rattle.std.proofs.Common.{◌≡◌, ◌≢◌, ℕ, ◌+◌, ◌*◌, ◌%◌, ◌<◌, ◌≤◌, List, [], length, Option, Some, None, Result}
use Rattle.std.proofs.Common.{Ok, Err, IfOk, IfSome, OnOk, refl, sym, ap, ◌∙◌, subst}
use Rattle.pc_model.specs.declared.call.Reply.{Reply}
use Rattle.pc_model.specs.declared.cell.Field.{Field}
use Rattle.pc_model.specs.declared.cell.Field.TheVariants.{Version, Key, Value, Left, Right, Parent, Height, Spare}
use Rattle.pc_model.specs.Map.{Pairs}
use Rattle.pc_model.specs.Cells.{Cells, IsEven, IsOdd, IsSlot, SameButVersions}
use Rattle.pc_model.specs.Exchanges.{applied}
use Rattle.pc_model.specs.Forms.{Form}
use Rattle.pc_plan.specs.declared.change.Fresh.{Fresh}
use Rattle.pc_plan.specs.declared.plan.Ask.{Ask}
use Rattle.pc_plan.specs.declared.plan.Ask.TheVariants.{Visit, Read, Change, Answer}
use Rattle.pc_plan.specs.declared.plan.Told.{Told}
use Rattle.pc_plan.specs.declared.plan.Told.TheVariants.{Begin}
use Rattle.pc_plan.specs.Planned.{Planned}
use Rattle.pc_plan.specs.Terms.{Terms}
use Rattle.pc_plan.specs.Traces.{Event}
use Rattle.pc_plan.specs.Turns.{CanBeTold, CanGoOn}
use Rattle.pc_plan.specs.Lawful.{IsLawfulAsk, IsLawfulChange}
use Rattle.pc_plan.specs.Laws.{PlanLaws}
use Rattle.pc_plan.specs.Runs.{Takes, IsRightChange, IsRightAsk, reached, past_of, AgreesWith}
use Rattle.pc_plan.proofs.Agreement.{past_by_agreeing}
use Rattle.pc_plan.proofs.Courses.{PastHolds}
use Rattle.pc_plan.proofs.FittingPlans.{exchanges_fit}
use Rattle.pc_plain.specs.PlainCells.{PlainWords, cells_of, AreBelowLimits, kept}
use Rattle.pc_plain.specs.PlainRuns.{exchange_in, IsMade, HoldsPairs, EndsWith, ComesTo, IsRunOf, RunsRight}
use Rattle.pc_plain.specs.PlainWriting.{CanMake, IsWritten}
use Rattle.pc_plain.proofs.AgreeingTraces.{VisitsNode, AreNodes, told_words, told_kinds, visits_nodes}
use Rattle.pc_plain.proofs.KeptCells.{kept_parity}
use Rattle.pc_plain.proofs.LawfulExchanges.{lawful_fits}

-- other fields than a version are kept as they are
kept_field : (f : Field) (x : ℕ) → f ≢ Version → kept f x ≡ x
kept_field Version x ne = absurd (ne refl)
kept_field Key x ne = refl
kept_field Value x ne = refl
kept_field Left x ne = refl
kept_field Right x ne = refl
kept_field Parent x ne = refl
kept_field Height x ne = refl
kept_field Spare x ne = refl

pub kept_but_versions : (slots : ℕ) (c c' : Cells) → ((n : ℕ) (f : Field) → c' n f ≡ kept f (c n f))
    → SameButVersions slots c c'
kept_but_versions slots c c' same = record {
  fields = λ n f _ ne. same n f ∙ kept_field f (c n f) ne;
  parity = λ n _. ap (λ (x : ℕ). x % 2) (same n Version) ∙ kept_parity (c n Version);
}

-- what follows where a reply is given, from what is said of it
pub from_reply : {E : Type 0} (r : Result Reply E) (reply : Reply) (M : Type 0) (Q : Reply → Type 0)
    → IfOk r (λ x. x ≡ reply) → OnOk r M → (M → Q reply) → IfOk r Q
from_reply (Ok x) reply M Q e m q = subst Q (sym e) (q m)
from_reply (Err y) reply M Q e m q = tt

pub from_ok : {E : Type 0} (r : Result Reply E) (Q : Reply → Type 0) (M : Type 0) → IfOk r Q → ((x : Reply) → Q x → M)
    → OnOk r M
from_ok (Ok x) Q M h q = q x h
from_ok (Err y) Q M h q = tt

slot_taken : (slots slot : ℕ) (c : Cells) (fresh : Option Fresh)
    → IfSome fresh (λ _. IsSlot slots slot × IsOdd (c slot Version)) → IfSome fresh (λ _. IsSlot slots slot)
slot_taken slots slot c None takes = tt
slot_taken slots slot c (Some f) takes = takes.0

can_be_told : (form : Form) (w : PlainWords) (ps : Pairs) (terms : Terms) (past : List Event) (a : Ask)
    → IsRightAsk form w.slots (cells_of w) ps terms past a → CanBeTold w.slots (cells_of w) a
can_be_told form w ps terms past (Visit n) right = (right.0, right.1)
can_be_told form w ps terms past (Read n f) right = right
can_be_told form w ps terms past (Change p) right = tt
can_be_told form w ps terms past (Answer r) right = tt

right_visit : (form : Form) (slots : ℕ) (c : Cells) (ps : Pairs) (terms : Terms) (past : List Event) (a : Ask)
    → IsRightAsk form slots c ps terms past a → VisitsNode slots a
right_visit form slots c ps terms past (Visit n) right = right.0
right_visit form slots c ps terms past (Read n f) right = tt
right_visit form slots c ps terms past (Change p) right = tt
right_visit form slots c ps terms past (Answer r) right = tt

-- the next pairs are those of the new cells
pub holds_after : (form : Form) (terms : Terms) (old new : PlainWords) (r : Reply) → RunsRight form terms old new r
    → HoldsPairs form old → HoldsPairs form new
holds_after form terms old new r right holds = ((terms.step holds.0).pairs, (right holds.0 holds.1).1)

module _ {P C : Type 0} (start : C → P) (moves : P → Told → P × Ask) (can_call : C → Type 0) (terms : C → Terms)
    (form : Form) (laws : PlanLaws start moves can_call terms form) (w : PlainWords) (few : w.slots ≤ 61000)
    (fit : AreBelowLimits (cells_of w)) (call : C) (can : can_call call) where
  abbrev pub IsRightAfter : Pairs → List Told → Ask → Type 0
  IsRightAfter ps ts a = IsRightAsk form w.slots (cells_of w) ps (terms call) (past_of start moves call ts) a

  -- where an agreeing trace leads is right for all pairs that the cells have
  pub right_along : (ps : Pairs) → form.sound w.slots (cells_of w) ps → (ts : List Told)
      → AgreesWith start moves (cells_of w) call ts → IsRightAfter ps ts (reached start moves call ts).1
  right_along ps sound ts agrees =
      laws.runs.goes w.slots (cells_of w) ps call ts (record { few = few; is_sound = sound }) can agrees

  pub ends_before : (ps : Pairs) → form.sound w.slots (cells_of w) ps → (ts : List Told)
      → AgreesWith start moves (cells_of w) call ts → length ts < 9 * (w.slots + 2)
  ends_before ps sound ts agrees =
      laws.runs.ends w.slots (cells_of w) ps call ts (record { few = few; is_sound = sound }) can agrees

  -- and so is where the plan comes to
  pub comes_right : (a : Ask) (come : ComesTo start moves w call a) (ps : Pairs) → form.sound w.slots (cells_of w) ps
      → IsRightAfter ps come.0 a
  comes_right a come ps sound = subst (IsRightAfter ps come.0) come.2 (right_along ps sound come.0 come.1)

  -- a plan can go on from its beginning
  pub can_go_on : HoldsPairs form w → CanGoOn moves w.slots (cells_of w) (moves (start call) Begin)
  can_go_on holds ts agrees =
      can_be_told form w holds.0 (terms call) (past_of start moves call ts) (reached start moves call ts).1
      (right_along holds.0 holds.1 ts agrees)

  nodes_along : HoldsPairs form w → (ts : List Told) → AgreesWith start moves (cells_of w) call ts
      → AreNodes w.slots (past_of start moves call ts)
  nodes_along holds ts agrees =
      visits_nodes moves (cells_of w) w.slots ts [] (moves (start call) Begin) agrees
      (λ us further. right_visit form w.slots (cells_of w) holds.0 (terms call) (past_of start moves call us)
      (reached start moves call us).1 (right_along holds.0 holds.1 us further))
      tt

  module _ (p : Planned) (come : ComesTo start moves w call (Change p)) where
    abbrev past : List Event
    past = past_of start moves call come.0

    lawful_change : IsLawfulChange past p
    lawful_change = subst (IsLawfulAsk past) come.2
        (laws.lawful.asks call come.0 can (told_words moves (cells_of w) come.0 (moves (start call) Begin) fit come.1))

    past_holds : PastHolds (cells_of w) past
    past_holds = past_by_agreeing moves (cells_of w) come.0 [] (moves (start call) Begin) come.1 tt

    right_change : (ps : Pairs) → form.sound w.slots (cells_of w) ps → (slot : ℕ) → Takes w.slots (cells_of w) p slot
        → IsRightChange form w.slots (cells_of w) past ((terms call).step ps).pairs p slot
    right_change ps sound slot takes = ((comes_right (Change p) come ps sound).1 slot takes).0

    -- the exchange that the plan asks for can be made
    pub comes_to_make : HoldsPairs form w → CanMake w p
    comes_to_make holds slot takes =
        let sentinel : IsEven (applied (exchange_in w past p slot) (cells_of w) 1 Version)
        = laws.form_laws.sentinel w.slots (applied (exchange_in w past p slot) (cells_of w))
        ((terms call).step holds.0).pairs
        (right_change holds.0 holds.1 slot takes).leaves in
        lawful_fits w.slots (cells_of w) past
        (nodes_along holds come.0 come.1) past_holds p lawful_change slot takes sentinel

    module _ (new : PlainWords) (size : new.slots ≡ w.slots) (written : IsWritten w new p) where
      -- an exchange that was written was made
      pub change_made : HoldsPairs form w → IsMade form w new past p
      change_made holds = record {
        slot = written.slot;
        takes = written.takes;
        stood = (right_change holds.0 holds.1 written.slot written.takes).stands;
        fits = (exchanges_fit start moves can_call terms form laws.runs).fits w.slots call come.0 p written.slot
            (cells_of w written.slot Version) few can
            (told_kinds moves (cells_of w) come.0 (moves (start call) Begin) come.1, come.2)
            (slot_taken w.slots written.slot (cells_of w) p.fresh written.takes);
        cells = written.cells;
      }

      unfoldable pub change_run : HoldsPairs form w → IsRunOf start moves form call w new p.reply
      change_run holds = (
        come.0,
        come.1,
        subst (EndsWith form w new past p.reply) (sym come.2) (refl, change_made holds),
      )

      pub change_right : RunsRight form (terms call) w new p.reply
      change_right ps sound =
          let next : Pairs = ((terms call).step ps).pairs in
          let after : Cells = applied (exchange_in w past p written.slot) (cells_of w) in
          let left : form.sound w.slots (cells_of new) next
          = laws.form_laws.parity w.slots after (cells_of new) next
          (kept_but_versions w.slots after (cells_of new) written.cells)
          (right_change ps sound written.slot written.takes).leaves in (
            (comes_right (Change p) come ps sound).0,
            subst (λ (slots : ℕ). form.sound slots (cells_of new) next) (sym size) left,
          )
