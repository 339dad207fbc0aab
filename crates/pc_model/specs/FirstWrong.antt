-- The first wrong place of a list of entries.
use Rattle.std.specs.Prelude.{◌≡◌, ◌≢◌, ◌<◌, List, Some, length, take, slice_get}
use Rattle.pc_model.specs.declared.call.Entry.{Entry}
use Rattle.pc_model.specs.declared.first_wrong.Wrong.{Wrong}
use Rattle.pc_model.specs.Map.{reply_of}
use Rattle.pc_model.specs.Replay.{fold_of, IsRight}

-- the entries before the place are right, and the map that they leave replies there what is expected,
-- which is not what the entry there says
pub record IsFirstWrong (es : List Entry) (w : Wrong) : Type 0 where
  pub inside : w.place < length es
  pub entry : Entry
  pub there : slice_get es w.place ≡ Some entry
  pub right_before : IsRight (take w.place es)
  pub expected : w.expected ≡ reply_of entry.call (fold_of (take w.place es))
  pub differs : entry.reply ≢ w.expected
