-- The words on a trace's lines, for the reader and the printer.
use Rattle.std.specs.Prelude.{ℕ, ◌-◌, List, [], ◌∷◌, slice_index, codes}
use Rattle.trace_text.specs.declared.op.Op.{Op}
use Rattle.trace_text.specs.declared.op.Op.TheVariants.{New, Get, Put, Read, Write, Add, Swap, Move, DropReg, Load}
use Rattle.trace_text.specs.declared.op.Op.TheVariants.{Share, Pin, Unpin, Gc, Meet}
use Rattle.ideal_heap.specs.declared.command.Command.{Command}
use Rattle.ideal_heap.specs.declared.command.Command.TheVariants as c
use Rattle.ideal_heap.specs.declared.command.TheConstants.{MAX_REGISTER, MAX_GLOBAL, MAX_REFS, MAX_NUMS}

-- the sort of an argument
pub data Sort : Type 0 where
  Register : Sort
  Global : Sort
  RefCount : Sort
  NumCount : Sort
  RefIndex : Sort
  NumIndex : Sort
  Value : Sort

-- the largest number of a sort
abbrev pub most_of : Sort → ℕ
most_of Register = MAX_REGISTER
most_of Global = MAX_GLOBAL
most_of RefCount = MAX_REFS
most_of NumCount = MAX_NUMS
most_of RefIndex = MAX_REFS - 1
most_of NumIndex = MAX_NUMS - 1
most_of Value = 18446744073709551615

-- the letter before the numeral, or nothing
abbrev pub letter_of : Sort → List ℕ
letter_of Register = codes "r"
letter_of Global = codes "g"
letter_of RefCount = []
letter_of NumCount = []
letter_of RefIndex = []
letter_of NumIndex = []
letter_of Value = []

-- the word of an operation
abbrev pub word_of : Op → List ℕ
word_of New = codes "new"
word_of Get = codes "get"
word_of Put = codes "put"
word_of Read = codes "read"
word_of Write = codes "write"
word_of Add = codes "add"
word_of Swap = codes "swap"
word_of Move = codes "move"
word_of DropReg = codes "drop"
word_of Load = codes "load"
word_of Share = codes "share"
word_of Pin = codes "pin"
word_of Unpin = codes "unpin"
word_of Gc = codes "gc"
word_of Meet = codes "meet"

-- all operations
abbrev pub all_ops : List Op
all_ops = New ∷ Get ∷ Put ∷ Read ∷ Write ∷ Add ∷ Swap ∷ Move ∷ DropReg ∷ Load ∷ Share ∷ Pin ∷ Unpin
    ∷ Gc ∷ Meet ∷ []

-- the sorts of an operation's arguments, in their order
abbrev pub sorts_of : Op → List Sort
sorts_of New = Register ∷ RefCount ∷ NumCount ∷ []
sorts_of Get = Register ∷ Register ∷ RefIndex ∷ []
sorts_of Put = Register ∷ RefIndex ∷ Register ∷ []
sorts_of Read = Register ∷ NumIndex ∷ []
sorts_of Write = Register ∷ NumIndex ∷ Value ∷ []
sorts_of Add = Register ∷ NumIndex ∷ Value ∷ []
sorts_of Swap = Register ∷ NumIndex ∷ Value ∷ Value ∷ []
sorts_of Move = Register ∷ Register ∷ []
sorts_of DropReg = Register ∷ []
sorts_of Load = Register ∷ Global ∷ []
sorts_of Share = Global ∷ Register ∷ []
sorts_of Pin = Register ∷ []
sorts_of Unpin = Register ∷ []
sorts_of Gc = []
sorts_of Meet = []

-- the command of an operation with these arguments
abbrev pub command_of : Op → List ℕ → Command
command_of New xs = c.New (slice_index xs 0) (slice_index xs 1) (slice_index xs 2)
command_of Get xs = c.Get (slice_index xs 0) (slice_index xs 1) (slice_index xs 2)
command_of Put xs = c.Put (slice_index xs 0) (slice_index xs 1) (slice_index xs 2)
command_of Read xs = c.Read (slice_index xs 0) (slice_index xs 1)
command_of Write xs = c.Write (slice_index xs 0) (slice_index xs 1) (slice_index xs 2)
command_of Add xs = c.Add (slice_index xs 0) (slice_index xs 1) (slice_index xs 2)
command_of Swap xs =
    c.Swap (slice_index xs 0) (slice_index xs 1) (slice_index xs 2) (slice_index xs 3)
command_of Move xs = c.Move (slice_index xs 0) (slice_index xs 1)
command_of DropReg xs = c.DropReg (slice_index xs 0)
command_of Load xs = c.Load (slice_index xs 0) (slice_index xs 1)
command_of Share xs = c.Share (slice_index xs 0) (slice_index xs 1)
command_of Pin xs = c.Pin (slice_index xs 0)
command_of Unpin xs = c.Unpin (slice_index xs 0)
command_of Gc xs = c.Gc
command_of Meet xs = c.Meet

-- the operation of a command
abbrev pub op_in : Command → Op
op_in (c.New d r q) = New
op_in (c.Get d s i) = Get
op_in (c.Put s i v) = Put
op_in (c.Read s j) = Read
op_in (c.Write s j n) = Write
op_in (c.Add s j n) = Add
op_in (c.Swap s j u v) = Swap
op_in (c.Move d s) = Move
op_in (c.DropReg s) = DropReg
op_in (c.Load d g) = Load
op_in (c.Share g s) = Share
op_in (c.Pin s) = Pin
op_in (c.Unpin s) = Unpin
op_in c.Gc = Gc
op_in c.Meet = Meet

-- the arguments of a command, in their order
abbrev pub arguments_in : Command → List ℕ
arguments_in (c.New d r q) = d ∷ r ∷ q ∷ []
arguments_in (c.Get d s i) = d ∷ s ∷ i ∷ []
arguments_in (c.Put s i v) = s ∷ i ∷ v ∷ []
arguments_in (c.Read s j) = s ∷ j ∷ []
arguments_in (c.Write s j n) = s ∷ j ∷ n ∷ []
arguments_in (c.Add s j n) = s ∷ j ∷ n ∷ []
arguments_in (c.Swap s j u v) = s ∷ j ∷ u ∷ v ∷ []
arguments_in (c.Move d s) = d ∷ s ∷ []
arguments_in (c.DropReg s) = s ∷ []
arguments_in (c.Load d g) = d ∷ g ∷ []
arguments_in (c.Share g s) = g ∷ s ∷ []
arguments_in (c.Pin s) = s ∷ []
arguments_in (c.Unpin s) = s ∷ []
arguments_in c.Gc = []
arguments_in c.Meet = []
