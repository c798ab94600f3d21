-- The ranges of the numbers in a command, and tests of its kind.
use Rattle.std.specs.Prelude.{ℕ, ◌≤◌, ◌<◌, ◌^◌, ◌+◌, ◌-◌, Bool, true, false}
use Rattle.ideal_heap.specs.declared.command.Command.{Command}
use Rattle.ideal_heap.specs.declared.command.Command.TheVariants.{New, Get, Put, Read, Write, Add, Swap, Move, DropReg}
use Rattle.ideal_heap.specs.declared.command.Command.TheVariants.{Load, Share, Pin, Unpin, Gc, Meet}
use Rattle.ideal_heap.specs.declared.command.TheConstants.{MAX_REGISTER, MAX_GLOBAL, MAX_REFS, MAX_NUMS}

-- each register, global, index and number is in its range
abbrev pub IsValid : Command → Type 0
IsValid (New d r q) = (d ≤ MAX_REGISTER) × (r ≤ MAX_REFS) × (q ≤ MAX_NUMS)
IsValid (Get d s i) = (d ≤ MAX_REGISTER) × (s ≤ MAX_REGISTER) × (i ≤ MAX_REFS - 1)
IsValid (Put s i v) = (s ≤ MAX_REGISTER) × (i ≤ MAX_REFS - 1) × (v ≤ MAX_REGISTER)
IsValid (Read s j) = (s ≤ MAX_REGISTER) × (j ≤ MAX_NUMS - 1)
IsValid (Write s j n) = (s ≤ MAX_REGISTER) × (j ≤ MAX_NUMS - 1) × (n < 2 ^ 64)
IsValid (Add s j n) = (s ≤ MAX_REGISTER) × (j ≤ MAX_NUMS - 1) × (n < 2 ^ 64)
IsValid (Swap s j u v) = (s ≤ MAX_REGISTER) × (j ≤ MAX_NUMS - 1) × (u < 2 ^ 64) × (v < 2 ^ 64)
IsValid (Move d s) = (d ≤ MAX_REGISTER) × (s ≤ MAX_REGISTER)
IsValid (DropReg s) = s ≤ MAX_REGISTER
IsValid (Load d g) = (d ≤ MAX_REGISTER) × (g ≤ MAX_GLOBAL)
IsValid (Share g s) = (g ≤ MAX_GLOBAL) × (s ≤ MAX_REGISTER)
IsValid (Pin s) = s ≤ MAX_REGISTER
IsValid (Unpin s) = s ≤ MAX_REGISTER
IsValid Gc = Unit {0}
IsValid Meet = Unit {0}

abbrev pub is_new : Command → Bool
is_new (New d r q) = true
is_new _ = false

abbrev pub is_meet : Command → Bool
is_meet Meet = true
is_meet _ = false

abbrev pub is_gc : Command → Bool
is_gc Gc = true
is_gc _ = false

-- the size in words of the object that a `new` allocates, 0 for any other command
abbrev pub size_wanted : Command → ℕ
size_wanted (New d r q) = 3 + r + q
size_wanted _ = 0
