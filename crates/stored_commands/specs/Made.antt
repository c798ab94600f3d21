-- The trace of `--make N`: its commands depend only on N.
use Rattle.std.specs.Prelude.{ℕ, zero, suc, ◌+◌, ◌-◌, ◌*◌, ◌/◌, ◌%◌, ◌^◌, List, [], ◌∷◌, nat_lt, nat_eq, if◌then◌else◌}
use Rattle.ideal_heap.specs.declared.command.Command.{Command}
use Rattle.ideal_heap.specs.declared.command.Command.TheVariants.{New, Get, Put, Read, Write, Add, Swap, Move, DropReg}
use Rattle.ideal_heap.specs.declared.command.Command.TheVariants.{Load, Share, Pin, Gc}

-- A random command: from the generator's state before it is drawn, the command and the state after.
abbrev pub Drawing : Type 0
Drawing = ℕ → Command × ℕ

-- draws nothing more, and returns the command
abbrev pub give : Command → Drawing
give command x = (command, x)

abbrev pub next_state : ℕ → ℕ
next_state x = (x * 6364136223846793005 + 1442695040888963407) % 2 ^ 64

-- draws a number of 31 bits and continues with it
abbrev pub draw : (ℕ → Drawing) → Drawing
draw go x = go (next_state x / 2 ^ 33) (next_state x)

-- draws a number, reduces it modulo n, and continues with it
abbrev pub draw_below : ℕ → (ℕ → Drawing) → Drawing
draw_below n go = draw (λ v. go (v % n))

-- The arguments are drawn from left to right.
abbrev pub a_new : Drawing
a_new = draw_below 16 (λ d. draw_below 8 (λ refs. draw_below 32 (λ nums. give (New d refs nums))))

abbrev pub a_put : Drawing
a_put = draw_below 16 (λ s. draw_below 8 (λ i. draw_below 16 (λ v. give (Put s i v))))

abbrev pub a_get : Drawing
a_get = draw_below 16 (λ d. draw_below 16 (λ s. draw_below 8 (λ i. give (Get d s i))))

abbrev pub a_read : Drawing
a_read = draw_below 16 (λ s. draw_below 32 (λ j. give (Read s j)))

abbrev pub a_write : Drawing
a_write = draw_below 16 (λ s. draw_below 32 (λ j. draw (λ n. give (Write s j n))))

abbrev pub an_add : Drawing
an_add = draw_below 16 (λ s. draw_below 32 (λ j. draw (λ n. give (Add s j n))))

abbrev pub a_swap : Drawing
a_swap = draw_below 16
    (λ s. draw_below 32
    (λ j. draw_below 4 (λ was. draw_below 4 (λ next. give (Swap s j was next)))))

abbrev pub a_move : Drawing
a_move = draw_below 16 (λ d. draw_below 16 (λ s. give (Move d s)))

abbrev pub a_load : Drawing
a_load = draw_below 16 (λ d. draw_below 16 (λ g. give (Load d g)))

abbrev pub a_share : Drawing
a_share = draw_below 16 (λ g. draw_below 16 (λ s. give (Share g s)))

abbrev pub a_pin : Drawing
a_pin = draw_below 16 (λ s. give (Pin s))

-- a random command of the row with this number, 0 to 15
abbrev pub in_row : ℕ → Drawing
in_row row =
    if nat_lt row 4 then a_new
    else if nat_lt row 6 then a_put
    else if nat_lt row 8 then a_get
    else if nat_eq row 8 then a_read
    else if nat_eq row 9 then a_write
    else if nat_eq row 10 then an_add
    else if nat_eq row 11 then a_swap
    else if nat_eq row 12 then a_move
    else if nat_eq row 13 then a_load
    else if nat_eq row 14 then a_share
    else a_pin

-- Command k, from 0 on. At the start of every 1,024 commands, each register is dropped, and then
-- each global is cleared by sharing register 0, which is nil. At the start of every 65,536, a `gc`
-- follows. All other commands are of a random row.
abbrev pub command_at : ℕ → Drawing
command_at k =
    if nat_lt (k % 1024) 16 then give (DropReg (k % 1024))
    else if nat_lt (k % 1024) 32 then give (Share (k % 1024 - 16) 0)
    else if nat_eq (k % 65536) 32 then give Gc
    else draw_below 16 in_row

-- the commands from number k on, as many as are left, with x as the generator's state
abbrev pub made_from : ℕ → ℕ → ℕ → List Command
made_from k zero x = []
made_from k (suc left) x = (command_at k x).0 ∷ made_from (k + 1) left (command_at k x).1

-- the generator's first state is the number of commands
unfoldable pub made_trace : ℕ → List Command
made_trace n = made_from 0 n n
