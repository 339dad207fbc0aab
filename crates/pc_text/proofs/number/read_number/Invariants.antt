-- The number of the digits so far is in range.
use Rattle.std.proofs.Common.{◌≡◌, ◌≤◌, take, true}
use Rattle.std.specs.Char.{is_ascii_digit}
use Rattle.std.specs.List.{list_all}
use Rattle.std.specs.Str.Parse.{digits_value}
use Rattle.pc_text.proofs.number.read_number.Given as goal
use Rattle.pc_text.specs.declared.limits.TheConstants.{GREATEST_NUMBER}

abbrev pub invariant-loop-byte : goal.invariant-loop-byte
invariant-loop-byte l = record {
  digits : list_all is_ascii_digit (take l.byte-index l.word) ≡ true;
  value : l.value ≡ digits_value 10 (take l.byte-index l.word);
  in_range : l.value ≤ GREATEST_NUMBER;
}
