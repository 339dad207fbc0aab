-- The text of each line that is printed.
use Rattle.std.specs.Prelude.{ℕ, List}
use Rattle.pc_text.specs.declared.lines.Line.{Line}
use Rattle.pc_text.specs.declared.lines.Line.TheVariants.{Entry, Left, Pair, Height, Node, Count, End, Fault}
use Rattle.pc_text.specs.FaultLine.{fault_line}
use Rattle.pc_text.specs.Printed.{entry_line, left_line, pair_line, height_line, node_line, count_line, end_line}

abbrev pub line_text : Line → List ℕ
line_text (Entry place entry) = entry_line place entry
line_text (Left pairs) = left_line pairs
line_text (Pair key value) = pair_line (key, value)
line_text (Height height) = height_line height
line_text (Node node) = node_line node
line_text (Count entries) = count_line entries
line_text End = end_line
line_text (Fault fault) = fault_line fault
