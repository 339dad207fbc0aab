-- The parts of a run go one after another through an empty chunk.
use Rattle.std.proofs.Common.{ℕ, List, [], ◌++◌, Option, length}
use Rattle.std.specs.Prelude.{Err}
use Rattle.std.proofs.lemmas.Result.{err_from_is_err_and}
use Rattle.pc_edge.specs.Sending.{Writes}
use Rattle.pc_edge.proofs.Sends.{Writes-then, Writes-more, Writes-failed, Writes-stopped}
use Rattle.pc_text.proofs.PrintedLines.{Writes-from_empty}
use Rattle.pc_text.specs.Printed.{entry_lines, left_line, pair_lines, shape_lines, listed, end_line}
use Rattle.pc_text.proofs.print.print_all.Goals as goal

-- the sink failed before the last two parts
before_two : {K T U E F : Type 0} (held : K → Option (List ℕ)) (faults : K → ℕ) (a b : K)
    (text one two rest : List ℕ) (e : E) (f : F) → Writes {T = T} held faults a b text rest (Err e)
    → Writes {T = U} held faults a b (text ++ one ++ two) [] (Err f)
before_two {T = T} held faults a b text one two rest e f w =
    Writes-failed held faults a b (text ++ one) two rest [] e f
    (Writes-failed {U = T} held faults a b text one rest rest e e w)

-- and before three
before_three : {K T U E F : Type 0} (held : K → Option (List ℕ)) (faults : K → ℕ) (a b : K)
    (text one two three rest : List ℕ) (e : E) (f : F) → Writes {T = T} held faults a b text rest (Err e)
    → Writes {T = U} held faults a b (text ++ one ++ two ++ three) [] (Err f)
before_three {T = T} held faults a b text one two three rest e f w =
    before_two held faults a b (text ++ one) two three rest e f
    (Writes-failed {U = T} held faults a b text one rest rest e e w)

-- and before four
before_four : {K T U E F : Type 0} (held : K → Option (List ℕ)) (faults : K → ℕ) (a b : K)
    (text one two three four rest : List ℕ) (e : E) (f : F) → Writes {T = T} held faults a b text rest (Err e)
    → Writes {T = U} held faults a b (text ++ one ++ two ++ three ++ four) [] (Err f)
before_four {T = T} held faults a b text one two three four rest e f w =
    before_three held faults a b (text ++ one) two three four rest e f
    (Writes-failed {U = T} held faults a b text one rest rest e e w)

pub returns-in_err-print_entries : goal.returns-in_err-print_entries
returns-in_err-print_entries g c =
    let p = err_from_is_err_and c.from_residual.result c.from_residual.ensures.1 in
    let left = left_line (length c.args.pairs.now) in
    let pairs = pair_lines c.args.pairs.now in
    let shape = shape_lines (listed c.args.shape) in
    let entries = entry_lines 1 c.args.history.now in
    let s1 = Writes-from_empty _ _ _ _ _ entries _ _ c.new-chunk.ensures c.in_err-print_entries.ensures in
    rw p.1 (before_four _ _ _ _ entries left pairs shape end_line _ _ _ s1)

pub returns-in_err-print_line : goal.returns-in_err-print_line
returns-in_err-print_line g c =
    let p = err_from_is_err_and c.from_residual-in_err-print_line.result c.from_residual-in_err-print_line.ensures.1 in
    let left = left_line (length c.args.pairs.now) in
    let pairs = pair_lines c.args.pairs.now in
    let shape = shape_lines (listed c.args.shape) in
    let entries = entry_lines 1 c.args.history.now in
    let s1 = Writes-from_empty _ _ _ _ _ entries _ _ c.new-chunk.ensures c.in_ok-print_entries.ensures in
    let s2 = Writes-more _ _ _ _ _ entries _ left _ _ _ s1 c.in_err-print_line.ensures in
    rw p.1 (before_three _ _ _ _ (entries ++ left) pairs shape end_line _ _ _ s2)

pub returns-in_err-print_pairs : goal.returns-in_err-print_pairs
returns-in_err-print_pairs g c =
    let p = err_from_is_err_and c.from_residual-in_err-print_pairs.result
    c.from_residual-in_err-print_pairs.ensures.1 in
    let left = left_line (length c.args.pairs.now) in
    let pairs = pair_lines c.args.pairs.now in
    let shape = shape_lines (listed c.args.shape) in
    let entries = entry_lines 1 c.args.history.now in
    let s1 = Writes-from_empty _ _ _ _ _ entries _ _ c.new-chunk.ensures c.in_ok-print_entries.ensures in
    let s2 = Writes-more _ _ _ _ _ entries _ left _ _ _ s1 c.in_ok-print_line.ensures in
    let s3 = Writes-more _ _ _ _ _ (entries ++ left) _ pairs _ _ _ s2 c.in_err-print_pairs.ensures in
    rw p.1 (before_two _ _ _ _ (entries ++ left ++ pairs) shape end_line _ _ _ s3)

pub returns-in_err-print_shape : goal.returns-in_err-print_shape
returns-in_err-print_shape g c =
    let p = err_from_is_err_and c.from_residual-in_err-print_shape.result
    c.from_residual-in_err-print_shape.ensures.1 in
    let left = left_line (length c.args.pairs.now) in
    let pairs = pair_lines c.args.pairs.now in
    let shape = shape_lines (listed c.args.shape) in
    let entries = entry_lines 1 c.args.history.now in
    let s1 = Writes-from_empty _ _ _ _ _ entries _ _ c.new-chunk.ensures c.in_ok-print_entries.ensures in
    let s2 = Writes-more _ _ _ _ _ entries _ left _ _ _ s1 c.in_ok-print_line.ensures in
    let s3 = Writes-more _ _ _ _ _ (entries ++ left) _ pairs _ _ _ s2 c.in_ok-print_pairs.ensures in
    let s4 = Writes-more _ _ _ _ _ (entries ++ left ++ pairs) _ shape _ _ _ s3 c.in_err-print_shape.ensures in
    rw p.1 (Writes-failed _ _ _ _ (entries ++ left ++ pairs ++ shape) end_line _ _ _ _ s4)

pub returns-in_err-print_line-2 : goal.returns-in_err-print_line-2
returns-in_err-print_line-2 g c =
    let p = err_from_is_err_and c.from_residual-in_err-print_line-2.result
    c.from_residual-in_err-print_line-2.ensures.1 in
    let left = left_line (length c.args.pairs.now) in
    let pairs = pair_lines c.args.pairs.now in
    let shape = shape_lines (listed c.args.shape) in
    let entries = entry_lines 1 c.args.history.now in
    let s1 = Writes-from_empty _ _ _ _ _ entries _ _ c.new-chunk.ensures c.in_ok-print_entries.ensures in
    let s2 = Writes-more _ _ _ _ _ entries _ left _ _ _ s1 c.in_ok-print_line.ensures in
    let s3 = Writes-more _ _ _ _ _ (entries ++ left) _ pairs _ _ _ s2 c.in_ok-print_pairs.ensures in
    let s4 = Writes-more _ _ _ _ _ (entries ++ left ++ pairs) _ shape _ _ _ s3 c.in_ok-print_shape.ensures in
    let s5 = Writes-more _ _ _ _ _ (entries ++ left ++ pairs ++ shape) _ end_line _ _ _ s4
    c.in_err-print_line-2.ensures in
    rw p.1 (Writes-stopped _ _ _ _ (entries ++ left ++ pairs ++ shape ++ end_line) _ _ _ _ s5)

pub returns : goal.returns
returns g c =
    let left = left_line (length c.args.pairs.now) in
    let pairs = pair_lines c.args.pairs.now in
    let shape = shape_lines (listed c.args.shape) in
    let entries = entry_lines 1 c.args.history.now in
    let s1 = Writes-from_empty _ _ _ _ _ entries _ _ c.new-chunk.ensures c.in_ok-print_entries.ensures in
    let s2 = Writes-more _ _ _ _ _ entries _ left _ _ _ s1 c.in_ok-print_line.ensures in
    let s3 = Writes-more _ _ _ _ _ (entries ++ left) _ pairs _ _ _ s2 c.in_ok-print_pairs.ensures in
    let s4 = Writes-more _ _ _ _ _ (entries ++ left ++ pairs) _ shape _ _ _ s3 c.in_ok-print_shape.ensures in
    let s5 = Writes-more _ _ _ _ _ (entries ++ left ++ pairs ++ shape) _ end_line _ _ _ s4
    c.in_ok-print_line-2.ensures in
    Writes-then _ _ _ _ _ (entries ++ left ++ pairs ++ shape ++ end_line) _ _ _ c.flush.result s5
    c.flush.ensures.written
