-- What a call on cells answers and leaves, and when it is refused.
use Rattle.std.specs.Prelude.{◌≡◌, ℕ, List, length, None}
use Rattle.pc_model.specs.declared.call.Call.{Call}
use Rattle.pc_model.specs.declared.call.Call.TheVariants.{Put, Get, Remove, Ceil, Floor}
use Rattle.pc_model.specs.declared.call.Reply.{Reply}
use Rattle.pc_model.specs.declared.call.Reply.TheVariants.{New}
use Rattle.pc_model.specs.Debts.{Debts, all_charged}
use Rattle.pc_model.specs.Forms.{Form}
use Rattle.pc_model.specs.Map.{Pairs, value_at, reply_of, pairs_after}
use Rattle.pc_model.specs.Replay.{fold_of}
use Rattle.pc_plan.specs.Terms.{Terms, IsReply}
use Rattle.pc_plain.specs.PlainCells.{PlainWords, cells_of}
use Rattle.pc_avl.specs.declared.tree_kind.TreeKind.{TreeKind}
use Rattle.pc_locked.specs.declared.fault.LockedFault.{LockedFault}
use Rattle.pc_locked.specs.declared.fault.LockedFault.TheVariants.{NoSlot, Room}
use Rattle.pc_locked.specs.States.{MapState, HasRoom, form_of}

-- the call puts a value at a key that isn't there
abbrev pub IsNewPut : Call → Pairs → Type 0
IsNewPut (Put k v) ps = value_at k ps ≡ None
IsNewPut (Get k) ps = ⊥
IsNewPut (Remove k) ps = ⊥
IsNewPut (Ceil k) ps = ⊥
IsNewPut (Floor k) ps = ⊥

-- the call wants a slot, and there is none: its key is new, and there are as many pairs as slots
abbrev pub WantsSlotInVain : Call → Pairs → ℕ → Type 0
WantsSlotInVain call ps slots = IsNewPut call ps × (length ps ≡ slots)

-- Why a call is refused on a map, and the number that is told: as many entries are held as there is room for; or there
-- is room, and it wants a slot in vain.
abbrev pub IsRefusal : Call → MapState → LockedFault → Type 0
IsRefusal call s (Room calls) = (length s.entries ≡ s.calls) × (calls ≡ s.calls)
IsRefusal call s (NoSlot live) =
    HasRoom s × WantsSlotInVain call (fold_of s.entries) s.cells.slots × (live ≡ s.cells.slots)

-- keys were charged, and nothing else became of the debts
abbrev pub AreCharged : Debts → Debts → Type 0
AreCharged before then = (keys : List ℕ) × (then ≡ all_charged keys before)

-- the reply is the map's for the tree's pairs, and the tree has the map's next pairs
abbrev pub AnswersAs : TreeKind → Call → PlainWords → PlainWords → Reply → Type 0
AnswersAs kind call old new r = (ps : Pairs) → (form_of kind).sound old.slots (cells_of old) ps
    → (r ≡ reply_of call ps) × (form_of kind).sound new.slots (cells_of new) (pairs_after call ps)

-- the call was refused: it wants a slot in vain, whatever pairs the tree has
abbrev pub IsRefusedOn : TreeKind → Call → PlainWords → Type 0
IsRefusedOn kind call w = (ps : Pairs) → (form_of kind).sound w.slots (cells_of w) ps → WantsSlotInVain call ps w.slots

-- on these cells the right reply to a call of these terms is that its key is new, and there are as many pairs as slots
abbrev pub AnswersNewInVain : Form → Terms → PlainWords → Type 0
AnswersNewInVain form terms w = (ps : Pairs) → form.sound w.slots (cells_of w) ps
    → IsReply (terms.step ps).reply New × (length ps ≡ w.slots)
