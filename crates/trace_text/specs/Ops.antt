-- All operations in two parts.
use Rattle.std.specs.Prelude.{List, [], ◌∷◌}
use Rattle.trace_text.specs.declared.op.Op.{Op}
use Rattle.trace_text.specs.declared.op.Op.TheVariants.{New, Get, Put, Read, Write, Add, Swap, Move, DropReg, Load}
use Rattle.trace_text.specs.declared.op.Op.TheVariants.{Share, Pin, Unpin, Gc, Meet}

-- the operations that make an object, or work on its fields
abbrev pub field_ops : List Op
field_ops = New ∷ Get ∷ Put ∷ Read ∷ Write ∷ Add ∷ Swap ∷ []

-- the operations on roots and pins, and those that stop
abbrev pub root_ops : List Op
root_ops = Move ∷ DropReg ∷ Load ∷ Share ∷ Pin ∷ Unpin ∷ Gc ∷ Meet ∷ []
