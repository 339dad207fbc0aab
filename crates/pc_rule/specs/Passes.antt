-- What clauses say of a board and its passes.
use Rattle.std.specs.Prelude.{◌≡◌, ℕ, ◌+◌, ◌<◌, ◌≤◌, Bool, List, [], length, Option, None, vec_capacity}
use mathlib.Core.Option.{some}
use lib.ListN.{get_elem?}
use Rattle.pc_model.specs.declared.call.Entry.{Entry}
use Rattle.pc_model.specs.declared.shape.Shape.{Ghosts}
use Rattle.pc_model.specs.Cells.{IsNode}
use Rattle.pc_model.specs.Exchanges.{FreshNode}
use Rattle.pc_rule_law.specs.Board.{Size}
use Rattle.pc_rule_law.specs.Views.{View}
use Rattle.pc_rule_law.specs.Plays.{IsWell}
use Rattle.pc_rule_law.specs.Tables.{size_of}
use Rattle.pc_exchange_law.specs.OwnSlots.{OwnSlots}
use Rattle.pc_exchange_law.specs.Passes.{PassKnows}
use Rattle.pc_exchange_law.specs.Paths.{Path}
use Rattle.pc_exchange_law.specs.Wholes.{Whole}
use Rattle.pc_rule.specs.declared.board.Board.{Board}
use Rattle.pc_rule.specs.declared.board.Pass.{Pass}
use Rattle.pc_rule.specs.declared.opening.Place.{Place}
use Rattle.pc_rule.specs.declared.records.Carried.{Carried}
use Rattle.pc_rule_law.specs.declared.share.Share.{Share}
use Rattle.pc_rule.specs.declared.visit.Visit.{Visit}
use Rattle.pc_rule.specs.Carrying.{entries_of}
use Rattle.pc_rule.specs.HeldSlots.{node_made}
use Rattle.pc_rule.specs.Walking.{path_with}

module _ {H : Type 0} where
  -- the size of a board
  abbrev pub board_size : Board H → Size
  board_size b = size_of b.table.shared.key

  abbrev pub HasNode : Board H → ℕ → Type 0
  HasNode b n = IsNode (board_size b).slots n

  -- the number of one of the board's passes, from 1
  abbrev pub HasPass : Board H → ℕ → Type 0
  HasPass b p = (1 ≤ p) × (p ≤ (board_size b).seats)

module _ {H : Type 0} {S : Ghosts H} where
  -- what a pass knows: its view, what it knows beside, and the attempt at which it aims
  abbrev pub whole : Pass H S → Whole
  whole p = p.seat.me.0

  abbrev pub view : Pass H S → View
  view p = (whole p).view

  abbrev pub knows : Pass H S → PassKnows
  knows p = (whole p).knows

  abbrev pub aim : Pass H S → ℕ × ℕ
  aim p = (whole p).aim

  -- what it visited and read in its operation, and its visits
  abbrev pub visits : Pass H S → List Visit
  visits p = p.visits.items

  abbrev pub path : Pass H S → Path
  path p = path_with (visits p) (whole p).path

  -- what it has of its slots; the node that the next exchange of its running operation makes; and whether its attempt that isn't cleared
  -- is known to have taken effect, as it was told
  abbrev pub slots : Pass H S → OwnSlots
  slots p = (knows p).slots

  abbrev pub fresh : Pass H S → Option FreshNode
  fresh p = node_made p.slots.filled (slots p)

  abbrev pub told_won : Pass H S → Bool
  told_won p = p.slots.won

  -- what a pass has of its board, and the calls that it recorded
  abbrev pub share_of : Pass H S → Share
  share_of p = p.share

  abbrev pub recorded : Pass H S → List Entry
  recorded p = p.records.entries.items

  -- the call that its running operation is to record
  abbrev pub carried : Pass H S → Option Carried
  carried p = p.records.carried

  -- it recorded nothing, and is to record nothing
  abbrev pub IsBlank : Pass H S → Type 0
  IsBlank p = (recorded p ≡ []) × (carried p ≡ None)

  -- what is recorded of that at a stamp, as the next one of its calls
  abbrev pub taken_down : Pass H S → ℕ → List Entry
  taken_down p s = entries_of ((view p).seat + 1) (length (recorded p) + 1) s (carried p)

  -- the words that its exchange is to change: the next one's, and those of the one that is published
  abbrev pub listed : Pass H S → List Place
  listed p = p.listed.items

  -- the pass sits at the board
  abbrev pub SitsAt : Board H → Pass H S → Type 0
  SitsAt b p = (p.seat.table_id ≡ b.table.shared.table_id) × ((view p).size ≡ board_size b) × ((view p).seat < (board_size b).seats) × IsWell (view p)

  -- the pass is one of the board's: it sits there, with the share of its seat, and recorded no more calls than that has
  abbrev pub IsPassOf : Board H → Pass H S → Type 0
  IsPassOf b p = (p.seat.table_id ≡ b.table.shared.table_id) × ((view p).size ≡ board_size b) × ((view p).seat < (board_size b).seats) × IsWell (view p)
      × (get_elem? b.shares.items (view p).seat ≡ some (share_of p)) × (length (recorded p) ≤ (share_of p).calls)

  -- the pass is where it was, on the same board, with the same share, the same calls recorded, and the same one to record
  abbrev pub IsSeatedAs : Pass H S → Pass H S → Type 0
  IsSeatedAs old new = (new.seat.table_id ≡ old.seat.table_id) × ((view new).size ≡ (view old).size) × ((view new).seat ≡ (view old).seat)
      × ((view new).last ≡ (view old).last) × ((view new).rest ≡ (view old).rest) × IsWell (view new)
      × (share_of new ≡ share_of old) × (new.records ≡ old.records)

  -- it has the same of its slots
  abbrev pub KeepsSlots : Pass H S → Pass H S → Type 0
  KeepsSlots old new = (slots new ≡ slots old) × (new.slots ≡ old.slots)

  -- the pass is where it was, lists the same words, and has the same slots
  abbrev pub StaysSeated : Pass H S → Pass H S → Type 0
  StaysSeated old new = IsSeatedAs old new × (new.listed ≡ old.listed) × KeepsSlots old new

  -- it has visited and read the same
  abbrev pub KeepsPath : Pass H S → Pass H S → Type 0
  KeepsPath old new = ((whole new).path ≡ (whole old).path) × (new.visits ≡ old.visits)

  -- the pass is where it was, lists the same words, and has visited and read the same
  abbrev pub IsSameButSlots : Pass H S → Pass H S → Type 0
  IsSameButSlots old new = IsSeatedAs old new × (new.listed ≡ old.listed) × KeepsPath old new

  -- and it has the same slots
  abbrev pub IsSamePass : Pass H S → Pass H S → Type 0
  IsSamePass old new = IsSeatedAs old new × (new.listed ≡ old.listed) × KeepsPath old new × KeepsSlots old new

  -- nothing but what it has of its slots at run time changed
  abbrev pub OnlySlots : Pass H S → Pass H S → Type 0
  OnlySlots old new = (new.seat ≡ old.seat) × (share_of new ≡ share_of old) × (new.records ≡ old.records) × (new.listed ≡ old.listed)
      × (new.visits ≡ old.visits)

  -- nothing but its list changed
  abbrev pub OnlyListed : Pass H S → Pass H S → Type 0
  OnlyListed old new = (new.seat ≡ old.seat) × (share_of new ≡ share_of old) × (new.records ≡ old.records) × (new.visits ≡ old.visits) × (new.slots ≡ old.slots)

  -- nothing but its visits changed
  abbrev pub OnlyVisited : Pass H S → Pass H S → Type 0
  OnlyVisited old new = (new.seat ≡ old.seat) × (share_of new ≡ share_of old) × (new.records ≡ old.records) × (new.listed ≡ old.listed) × (new.slots ≡ old.slots)

  -- nothing but the call that it is to record changed; and nothing but what it recorded and is to record
  abbrev pub OnlyCarried : Pass H S → Pass H S → Type 0
  OnlyCarried old new = (new.seat ≡ old.seat) × (share_of new ≡ share_of old) × (new.records.entries ≡ old.records.entries)
      × (new.listed ≡ old.listed) × (new.visits ≡ old.visits) × (new.slots ≡ old.slots)

  abbrev pub OnlyRecorded : Pass H S → Pass H S → Type 0
  OnlyRecorded old new = (new.seat ≡ old.seat) × (share_of new ≡ share_of old)
      × (vec_capacity new.records.entries ≡ vec_capacity old.records.entries) × (new.listed ≡ old.listed) × (new.visits ≡ old.visits)
      × (new.slots ≡ old.slots)

  -- the pass is where it was, on the same board, with the same share and as much room for calls, of which it may have recorded one
  abbrev pub SitsAs : Pass H S → Pass H S → Type 0
  SitsAs old new = (new.seat.table_id ≡ old.seat.table_id) × ((view new).size ≡ (view old).size) × ((view new).seat ≡ (view old).seat)
      × ((view new).last ≡ (view old).last) × ((view new).rest ≡ (view old).rest) × IsWell (view new)
      × (share_of new ≡ share_of old) × (vec_capacity new.records.entries ≡ vec_capacity old.records.entries)
