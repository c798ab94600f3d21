-- Commands that read or change an object, and when the object lacks the field or number that they
-- name.
use Rattle.std.specs.Prelude.{◌≤◌, ◌<◌}
use Rattle.ideal_heap.specs.declared.command.Command.{Command}
use Rattle.ideal_heap.specs.declared.command.Command.TheVariants as c
use Rattle.ideal_heap.specs.declared.command.TheConstants.{REGISTERS}
use Rattle.object_model.specs.declared.shape.Shape.{Shape}

-- The command reads or changes the object in a register, which it names.
abbrev pub IsAccess : Command → Type 0
IsAccess (c.Get d s i) = s < REGISTERS
IsAccess (c.Put s i v) = s < REGISTERS
IsAccess (c.Read s j) = s < REGISTERS
IsAccess (c.Write s j n) = s < REGISTERS
IsAccess (c.Add s j n) = s < REGISTERS
IsAccess (c.Swap s j was n) = s < REGISTERS
IsAccess (c.Pin s) = s < REGISTERS
IsAccess (c.Unpin s) = s < REGISTERS
IsAccess (c.New d refs nums) = ⊥
IsAccess (c.Move d s) = ⊥
IsAccess (c.DropReg s) = ⊥
IsAccess (c.Load d g) = ⊥
IsAccess (c.Share g s) = ⊥
IsAccess c.Gc = ⊥
IsAccess c.Meet = ⊥

-- an object of this shape lacks the field or the number that the command names
abbrev pub LacksIndex : Shape → Command → Type 0
LacksIndex shape (c.Get d s i) = (s < REGISTERS) × (shape.refs ≤ i)
LacksIndex shape (c.Put s i v) = (s < REGISTERS) × (shape.refs ≤ i)
LacksIndex shape (c.Read s j) = (s < REGISTERS) × (shape.nums ≤ j)
LacksIndex shape (c.Write s j n) = (s < REGISTERS) × (shape.nums ≤ j)
LacksIndex shape (c.Add s j n) = (s < REGISTERS) × (shape.nums ≤ j)
LacksIndex shape (c.Swap s j was n) = (s < REGISTERS) × (shape.nums ≤ j)
LacksIndex shape (c.Pin s) = ⊥
LacksIndex shape (c.Unpin s) = ⊥
LacksIndex shape (c.New d refs nums) = ⊥
LacksIndex shape (c.Move d s) = ⊥
LacksIndex shape (c.DropReg s) = ⊥
LacksIndex shape (c.Load d g) = ⊥
LacksIndex shape (c.Share g s) = ⊥
LacksIndex shape c.Gc = ⊥
LacksIndex shape c.Meet = ⊥
