-- The command that a form stands for.
use Rattle.std.specs.Prelude.{◌≡◌, ℕ, ◌+◌, ◌*◌, ◌<◌, ◌/◌, ◌%◌, Bool, true, false, List, [], Option, None, Some, IfSome}
use Rattle.std.specs.Prelude.{get_or, if◌then◌else◌}
use Rattle.ideal_heap.specs.declared.command.Command.{Command}
use Rattle.ideal_heap.specs.declared.command.Command.TheVariants as commands
use Rattle.stored_commands.specs.declared.form.Form.{Form}
use Rattle.stored_commands.specs.declared.form.Short.{Short as ShortForm}
use Rattle.stored_commands.specs.declared.form.Op.{Op}
use Rattle.stored_commands.specs.declared.form.TheConstants.{VALUE_UNIT, THIRD_UNIT, NUMBER_END, DIGIT_UNIT}
use Rattle.stored_commands.specs.declared.form.Op.TheVariants.{New, Get, Put, Read, Write, Add, Swap, Move, DropReg}
use Rattle.stored_commands.specs.declared.form.Op.TheVariants.{Load, Share, Pin, Unpin, Gc, Meet, Other}
use Rattle.stored_commands.specs.declared.packed_command.Packed.{Packed}
use Rattle.stored_commands.specs.declared.packed_command.Packed.TheVariants.{Short, Long}

-- the command that does this with these numbers, where the third has both values of a `swap` (`gc`
-- if it is another)
abbrev pub command_of : Op → ℕ → ℕ → ℕ → Command
command_of New a b c = commands.New a b c
command_of Get a b c = commands.Get a b c
command_of Put a b c = commands.Put a b c
command_of Read a b c = commands.Read a b
command_of Write a b c = commands.Write a b c
command_of Add a b c = commands.Add a b c
command_of Swap a b c = commands.Swap a b (c % VALUE_UNIT) (c / VALUE_UNIT)
command_of Move a b c = commands.Move a b
command_of DropReg a b c = commands.DropReg a
command_of Load a b c = commands.Load a b
command_of Share a b c = commands.Share a b
command_of Pin a b c = commands.Pin a
command_of Unpin a b c = commands.Unpin a
command_of Gc a b c = commands.Gc
command_of Meet a b c = commands.Meet
command_of Other a b c = commands.Gc

abbrev pub is_other : Op → Bool
is_other Other = true
is_other _ = false

-- the command that a form stands for, beside these commands that are not short (`gc` past their
-- end)
abbrev pub command_in : List Command → Form → Command
command_in others form = if is_other form.op then get_or others form.c commands.Gc
    else command_of form.op form.a form.b form.c

-- the index of the command that a form stands for, if it is not short
abbrev pub index_in : Form → Option ℕ
index_in form = if is_other form.op then Some form.c else None

-- the command that a form stands for is short, or one of n others
abbrev pub IsWithin : ℕ → Form → Type 0
IsWithin n form = IfSome (index_in form) (λ k. k < n)

-- the command of 4 bytes that does this with these numbers (`gc` if it is another); the third has
-- the index of a `put` or `read`, value and half the index of a `write` or `add`, and index and
-- second value of a `swap`
abbrev pub short_command : Op → ℕ → ℕ → ℕ → Command
short_command New a b c = commands.New a b c
short_command Get a b c = commands.Get a b c
short_command Put a b c = commands.Put a c b
short_command Read a b c = commands.Read a c
short_command Write a b c = commands.Write a (b + NUMBER_END * (c / THIRD_UNIT)) (c % THIRD_UNIT)
short_command Add a b c = commands.Add a (b + NUMBER_END * (c / THIRD_UNIT)) (c % THIRD_UNIT)
short_command Swap a b c = commands.Swap a (c % THIRD_UNIT) b (c / THIRD_UNIT)
short_command Move a b c = commands.Move a b
short_command DropReg a b c = commands.DropReg a
short_command Load a b c = commands.Load a b
short_command Share a b c = commands.Share a b
short_command Pin a b c = commands.Pin a
short_command Unpin a b c = commands.Unpin a
short_command Gc a b c = commands.Gc
short_command Meet a b c = commands.Meet
short_command Other a b c = commands.Gc

-- the index that 4 bytes have the digits of
abbrev pub wide_index : ShortForm → ℕ
wide_index s = s.pair + DIGIT_UNIT * s.third

-- the command that 4 bytes stand for, beside these commands that do not fit (`gc` past their end)
abbrev pub command_beside : List Command → ShortForm → Command
command_beside wide s = if is_other s.op then get_or wide (wide_index s) commands.Gc
    else short_command s.op (s.pair % NUMBER_END) (s.pair / NUMBER_END) s.third

-- the index of the command that 4 bytes stand for, if it does not fit into them
abbrev pub index_beside : ShortForm → Option ℕ
index_beside s = if is_other s.op then Some (wide_index s) else None

-- the command that 4 bytes stand for fits into them, or is one of n others
abbrev pub IsAmong : ℕ → ShortForm → Type 0
IsAmong n s = IfSome (index_beside s) (λ k. k < n)

-- the command that is packed
abbrev pub command_packed : Packed → Command
command_packed (Short s) = command_beside [] s
command_packed (Long command) = command

-- what is packed needs no other commands
abbrev pub NeedsNoTables : Packed → Type 0
NeedsNoTables (Short s) = index_beside s ≡ None
NeedsNoTables (Long command) = Unit {0}
