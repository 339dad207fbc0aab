-- What stays of a pass and of its view from step to step.
use Rattle.std.proofs.Common.{ℕ, List, ◌++◌, ◌∙◌, sym, subst, ap, append_assoc}
use Rattle.pc_model.specs.declared.shape.Shape.{Ghosts}
use Rattle.pc_rule_law.specs.Past.{Has}
use Rattle.pc_rule_law.specs.Views.{Note, View, decided_below, NoteInRange, AllNotes}
use Rattle.pc_rule_law.specs.Plays.{IsLater, AddsNotes, IsNotedSince}
use Rattle.pc_rule_law.proofs.Lists.{has_left, has_right}
use Rattle.pc_rule.specs.declared.board.Board.{Board}
use Rattle.pc_rule.specs.declared.board.Pass.{Pass}
use Rattle.pc_rule.specs.Passes.{view, board_size, IsPassOf}
use Rattle.pc_dcss.specs.Installs.{IsDecidedSince, OnHeld, OnDecided}
use Rattle.pc_dcss.specs.declared.installed.Installed.{Installed}
use Rattle.pc_dcss.specs.declared.installed.Installed.TheVariants.{Held, Decided, Differs, Met, Numbers as OutOfNumbers}

module _ {H : Type 0} {S : Ghosts H} where
  -- the numbers in the notes of a pass are those of its board
  pub notes_ranged : (b : Board H) (p : Pass H S) → IsPassOf b p → AllNotes (NoteInRange (board_size b)) (view p).notes
  notes_ranged b p of = subst (λ z. AllNotes (NoteInRange z) (view p).notes) of.1 (of.3 p.live)

-- what was noted in one call and then in another
pub adds_then : (u v w : View) → AddsNotes u v → AddsNotes v w → AddsNotes u w
adds_then u v w a b = (b.0 ++ a.0, b.1 ∙ (ap (λ (l : List Note). b.0 ++ l) a.1 ∙ sym (append_assoc b.0 a.0 u.notes)))

pub is_noted : (v w : View) (x : Note) → IsNotedSince v w x → Has w.notes x
is_noted v w x a = subst (λ (l : List Note). Has l x) (sym a.1) (has_left a.0 v.notes x a.2)

pub noted_before : (u v w : View) (x : Note) → IsNotedSince u v x → AddsNotes v w → IsNotedSince u w x
unfolding adds_then
noted_before u v w x a b = (b.0 ++ a.0, (adds_then u v w (a.0, a.1) b).1, has_right b.0 a.0 x a.2)

pub noted_after : (u v w : View) (x : Note) → AddsNotes u v → IsNotedSince v w x → IsNotedSince u w x
unfolding adds_then
noted_after u v w x a b = (b.0 ++ a.0, (adds_then u v w a (b.0, b.1)).1, has_left b.0 a.0 x b.2)

pub decided_after : (u v w : View) (p a : ℕ) → AddsNotes u v → IsDecidedSince v w p a → IsDecidedSince u w p a
decided_after u v w p a adds d = (d.0, noted_after u v w (decided_below p d.0) adds d.1, d.2)

pub later_then : (u v w : View) → IsLater u v → IsLater v w → IsLater u w
later_then u v w a b = record {
  same = b.same ∙ ap (λ (x : View). record x { notes = w.notes }) a.same;
  adds = adds_then u v w a.adds b.adds;
  more = λ x h. b.more x (a.more x h);
}

-- what holds where this is the answer, by what held before
pub on_held : (X Y : Type 0) (i : Installed) → (X → Y) → OnHeld i X → OnHeld i Y
on_held X Y Held f x = f x
on_held X Y Decided f x = tt
on_held X Y (Differs y) f x = tt
on_held X Y (Met r) f x = tt
on_held X Y (OutOfNumbers n) f x = tt

pub on_decided : (X Y : Type 0) (i : Installed) → (X → Y) → OnDecided i X → OnDecided i Y
on_decided X Y Held f x = tt
on_decided X Y Decided f x = f x
on_decided X Y (Differs y) f x = tt
on_decided X Y (Met r) f x = tt
on_decided X Y (OutOfNumbers n) f x = tt
