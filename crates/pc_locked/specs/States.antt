-- A map with its history and its debts: what it has, and what always holds of it.
use Rattle.std.specs.Prelude.{◌≡◌, ℕ, ◌+◌, ◌-◌, ◌^◌, ◌<◌, ◌≤◌, List, [], ◌∷◌, length, slice_index}
use Rattle.pc_model.specs.declared.call.Call.{Call}
use Rattle.pc_model.specs.declared.call.Reply.{Reply}
use Rattle.pc_model.specs.declared.call.Entry.{Entry}
use Rattle.pc_model.specs.Debts.{Debts, no_debts}
use Rattle.pc_model.specs.Forms.{Form}
use Rattle.pc_model.specs.History.{entries_of, IsNumberedFrom, AreOfClients}
use Rattle.pc_model.specs.Replay.{fold_of, IsRight}
use Rattle.pc_model.specs.Trees.{IsSearchTree}
use Rattle.pc_model.specs.TreeForms.{tree_form}
use Rattle.pc_plain.specs.PlainCells.{PlainWords, cells_of, AreOpening}
use Rattle.pc_plain.specs.OwedRuns.{AnswersForDebts}
use Rattle.pc_avl.specs.declared.tree_kind.TreeKind.{TreeKind}
use Rattle.pc_avl.specs.declared.tree_kind.TreeKind.TheVariants.{Bst}
use Rattle.pc_avl.specs.TreeKinds.{kind_of}

-- its kind of tree, its cells, its entries so far, how many it has room for in all, and what it owes
pub record MapState : Type 0 where
  pub kind : TreeKind
  pub cells : PlainWords
  pub entries : List Entry
  pub calls : ℕ
  pub owed : Debts

-- the search trees of this kind
abbrev pub form_of : TreeKind → Form
form_of kind = tree_form (kind_of kind)

-- the stamps of the entries are these, one after another
abbrev pub IsStampedFrom : ℕ → List Entry → Type 0
IsStampedFrom n [] = Unit {0}
IsStampedFrom n (e ∷ es) = (e.stamp ≡ n) × IsStampedFrom (n + 1) es

-- What always holds: the list of entries is right, and what it leaves is the pairs of the tree; the entries of each
-- pass are numbered from 1, and each stamp is a place counted from 1; each key in debt is owed.
pub record IsRightState (s : MapState) : Type 0 where
  pub right : IsRight s.entries
  pub tree : IsSearchTree (kind_of s.kind) s.cells.slots (cells_of s.cells) (fold_of s.entries)
  pub numbered : (pass : ℕ) → IsNumberedFrom 1 (entries_of pass s.entries)
  pub stamped : IsStampedFrom 1 s.entries
  pub of_passes : AreOfClients 32 s.entries
  pub answered : AnswersForDebts (form_of s.kind) s.cells s.owed
  pub plain_owes_nothing : s.kind ≡ Bst → s.owed ≡ no_debts
  pub few : length s.entries ≤ s.calls
  pub few_calls : s.calls < 2 ^ 32
  pub few_slots : s.cells.slots ≤ 61000

-- the counts are those of the entries of each pass, pass 1's first
pub record AreCounts (counts : List ℕ) (es : List Entry) : Type 0 where
  pub passes : length counts ≡ 32
  pub each : (pass : ℕ) → 1 ≤ pass → pass ≤ 32 → slice_index counts (pass - 1) ≡ length (entries_of pass es)

-- there is room for one entry more
abbrev pub HasRoom : MapState → Type 0
HasRoom s = length s.entries < s.calls

-- the same kind of tree, with as many slots, and room for as many entries in all
pub record IsSameMap (old new : MapState) : Type 0 where
  pub kind : new.kind ≡ old.kind
  pub slots : new.cells.slots ≡ old.cells.slots
  pub calls : new.calls ≡ old.calls

-- a map that was opened just now: an empty tree of this kind, and no entries and debts
pub record IsOpened (kind : TreeKind) (slots calls : ℕ) (s : MapState) : Type 0 where
  pub kind_is : s.kind ≡ kind
  pub size : s.cells.slots ≡ slots
  pub opening : AreOpening s.cells
  pub no_entries : s.entries ≡ []
  pub room : s.calls ≡ calls
  pub owes_nothing : s.owed ≡ no_debts

-- The entry of a pass's next call behind these: its number counts the pass's own calls from 1, and its stamp is its
-- place, counted from 1.
abbrev pub next_entry : List Entry → ℕ → Call → Reply → Entry
next_entry es pass call reply = record {
  pass = pass;
  number = length (entries_of pass es) + 1;
  call = call;
  reply = reply;
  stamp = length es + 1;
}
