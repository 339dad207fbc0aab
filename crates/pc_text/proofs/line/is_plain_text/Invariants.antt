-- Plain bytes alone were met.
use Rattle.std.proofs.Common.{◌≡◌, true, take}
use Rattle.std.specs.List.{list_all}
use Rattle.pc_text.specs.ScriptLine.{is_plain}
use Rattle.pc_text.proofs.line.is_plain_text.Given as goal

abbrev pub invariant-loop-byte : goal.invariant-loop-byte
invariant-loop-byte l = list_all is_plain (take l.byte-index l.line) ≡ true
