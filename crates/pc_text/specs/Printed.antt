-- The text of a run: a line for each call of the history, how many pairs are left, the pairs, where it is wanted
-- the shape of the tree, and the end. Its summary: how many calls there were, and the end.
use Rattle.std.specs.Prelude.{ℕ, Bool, true, false, suc, ◌+◌, ℤ, pos, negsuc, Option, Some, None, List, [], ◌∷◌, ◌++◌, length, codes}
use Rattle.std.specs.Fmt.{decimal}
use denote.Bor.{Bor}
use Rattle.std.specs.Option.{option_map}
use Rattle.pc_model.specs.declared.call.Call.{Call}
use Rattle.pc_model.specs.declared.call.Call.TheVariants.{Put, Get, Remove, Ceil, Floor}
use Rattle.pc_model.specs.declared.call.Reply.{Reply}
use Rattle.pc_model.specs.declared.call.Reply.TheVariants.{New, Was, Value, None as Nothing, Pair}
use Rattle.pc_model.specs.declared.call.Entry.{Entry}
use Rattle.pc_text.specs.declared.shape.ShapeLine.{ShapeLine}

unfoldable pub call_text : Call → List ℕ
call_text (Put k v) = codes "put " ++ decimal k ++ codes " " ++ decimal v
call_text (Get k) = codes "get " ++ decimal k
call_text (Remove k) = codes "remove " ++ decimal k
call_text (Ceil k) = codes "ceil " ++ decimal k
call_text (Floor k) = codes "floor " ++ decimal k

unfoldable pub reply_text : Reply → List ℕ
reply_text New = codes "new"
reply_text (Was x) = codes "was " ++ decimal x
reply_text (Value x) = decimal x
reply_text Nothing = codes "none"
reply_text (Pair k x) = decimal k ++ codes " " ++ decimal x

-- `c.m`: the client or pass, and the number of its call
unfoldable pub turn_text : ℕ → ℕ → List ℕ
turn_text pass number = decimal pass ++ codes "." ++ decimal number

-- the line of an entry at a place in the history, from 1
unfoldable pub entry_line : ℕ → Entry → List ℕ
entry_line place e = decimal place ++ codes " " ++ turn_text e.pass e.number ++ codes " " ++ call_text e.call
    ++ codes " = " ++ reply_text e.reply ++ codes "\n"

-- the lines of entries, the first at a place
abbrev pub entry_lines : ℕ → List Entry → List ℕ
entry_lines place [] = []
entry_lines place (e ∷ es) = entry_line place e ++ entry_lines (place + 1) es

unfoldable pub left_line : ℕ → List ℕ
left_line pairs = codes "left " ++ decimal pairs ++ codes "\n"

unfoldable pub pair_line : (ℕ × ℕ) → List ℕ
pair_line p = decimal p.0 ++ codes " " ++ decimal p.1 ++ codes "\n"

abbrev pub pair_lines : List (ℕ × ℕ) → List ℕ
pair_lines [] = []
pair_lines (p ∷ ps) = pair_line p ++ pair_lines ps

unfoldable pub end_line : List ℕ
end_line = codes "end\n"

-- a number with a sign: `-` where it is negative
abbrev pub signed_text : ℤ → List ℕ
signed_text (pos n) = decimal n
signed_text (negsuc n) = codes "-" ++ decimal (suc n)

-- the line of a node: how deep it lies, its key, its height and its balance
unfoldable pub node_line : ShapeLine → List ℕ
node_line node = decimal node.depth ++ codes " " ++ decimal node.key ++ codes " " ++ decimal node.height ++ codes " "
    ++ signed_text node.balance ++ codes "\n"

abbrev pub node_lines : List ShapeLine → List ℕ
node_lines [] = []
node_lines (node ∷ nodes) = node_line node ++ node_lines nodes

-- the height of the tree whose nodes these are, the root first
abbrev pub tree_height : List ShapeLine → ℕ
tree_height [] = 0
tree_height (root ∷ nodes) = root.height

unfoldable pub height_line : ℕ → List ℕ
height_line height = codes "shape " ++ decimal height ++ codes "\n"

-- nothing, or the height of the tree and a line for each node
abbrev pub shape_lines : Option (List ShapeLine) → List ℕ
shape_lines None = []
shape_lines (Some nodes) = height_line (tree_height nodes) ++ node_lines nodes

-- the nodes that a borrowed shape lists
abbrev pub listed : Option (Bor (List ShapeLine)) → Option (List ShapeLine)
listed shape = option_map (λ nodes. nodes.now) shape

-- what is printed of a history, of the pairs that are left in the end, and of a shape or none
abbrev pub printed_run : List Entry → List (ℕ × ℕ) → Option (List ShapeLine) → List ℕ
printed_run history pairs shape =
    entry_lines 1 history ++ left_line (length pairs) ++ pair_lines pairs ++ shape_lines shape ++ end_line

-- how many entries there are
unfoldable pub count_line : ℕ → List ℕ
count_line entries = decimal entries ++ codes " lines\n"

-- the summary of a history
abbrev pub printed_summary : List Entry → List ℕ
printed_summary history = count_line (length history) ++ end_line

-- what is printed of a run: its summary, where that is wanted, and else all of it
abbrev pub run_text : Bool → List Entry → List (ℕ × ℕ) → Option (List ShapeLine) → List ℕ
run_text true history pairs shape = printed_summary history
run_text false history pairs shape = printed_run history pairs shape
