-- The words of the sentinel that trials change.
use Rattle.pc_model.specs.declared.cell.Field.{Field}
use Rattle.pc_model.specs.declared.cell.Field.TheVariants.{Version, Key, Value, Left, Right, Parent, Height, Spare}

-- its value or its height
abbrev pub IsOther : Field → Type 0
IsOther Version = ⊥
IsOther Key = ⊥
IsOther Value = Unit {0}
IsOther Left = ⊥
IsOther Right = ⊥
IsOther Parent = ⊥
IsOther Height = Unit {0}
IsOther Spare = ⊥
