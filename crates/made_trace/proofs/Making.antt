-- The commands of the made trace are valid.
use Rattle.std.proofs.Common.{◌≡◌, refl, ℕ, zero, suc, ◌+◌, ◌-◌, ◌/◌, ◌%◌, ◌^◌, ◌<◌, Bool, true, false, nat_lt, nat_eq, if◌then◌else◌, arith, All}
use Rattle.std.proofs.lemmas.Bool.{ltb-true}
use Rattle.std.proofs.lemmas.List.Elements.{All-cons, All-nil}
use Rattle.ideal_heap.specs.Commands.{IsValid}
use Rattle.ideal_heap.specs.declared.command.Command.TheVariants as commands
use Rattle.stored_commands.specs.Made.{Drawing, give, next_state, a_new, a_put, a_get, a_read, a_write, an_add, a_swap, a_move, a_load, a_share, in_row, command_at, made_from, made_trace}

-- each command is valid
either : (x : ℕ) (b : Bool) (t e : Drawing) → (b ≡ true → IsValid (t x).0) → (b ≡ false → IsValid (e x).0) → IsValid ((if b then t else e) x).0
either x true t e sure other = sure refl
either x false t e sure other = other refl

valid-row : (r x : ℕ) → IsValid (in_row r x).0
valid-row r x =
    either x (nat_lt r 4) a_new _ (λ is. (omega arith, omega arith, omega arith)) (λ is.
    either x (nat_lt r 6) a_put _ (λ is. (omega arith, omega arith, omega arith)) (λ is.
    either x (nat_lt r 8) a_get _ (λ is. (omega arith, omega arith, omega arith)) (λ is.
    either x (nat_eq r 8) a_read _ (λ is. (omega arith, omega arith)) (λ is.
    either x (nat_eq r 9) a_write _ (λ is. (omega arith, omega arith, omega arith)) (λ is.
    either x (nat_eq r 10) an_add _ (λ is. (omega arith, omega arith, omega arith)) (λ is.
    either x (nat_eq r 11) a_swap _ (λ is. (omega arith, omega arith, omega arith, omega arith)) (λ is.
    either x (nat_eq r 12) a_move _ (λ is. (omega arith, omega arith)) (λ is.
    either x (nat_eq r 13) a_load _ (λ is. (omega arith, omega arith)) (λ is.
    either x (nat_eq r 14) a_share _ (λ is. (omega arith, omega arith)) (λ is.
    omega arith))))))))))

valid-at : (k x : ℕ) → IsValid (command_at k x).0
valid-at k x =
    either x (nat_lt (k % 1024) 16) (give (commands.DropReg (k % 1024))) _ (λ is. let few : k % 1024 < 16 = ltb-true (k % 1024) 16 is in omega arith) (λ is.
    either x (nat_lt (k % 1024) 32) (give (commands.Share (k % 1024 - 16) 0)) _ (λ is. let few : k % 1024 < 32 = ltb-true (k % 1024) 32 is in (omega arith, omega arith)) (λ is.
    either x (nat_eq (k % 65536) 32) (give commands.Gc) _ (λ is. cc) (λ is.
    valid-row (next_state x / 2 ^ 33 % 16) (next_state x))))

made-valid : (left k x : ℕ) → All IsValid (made_from k left x)
made-valid zero k x = All-nil IsValid
made-valid (suc left) k x = All-cons IsValid (command_at k x).0 (made_from (k + 1) left (command_at k x).1) (valid-at k x) (made-valid left (k + 1) (command_at k x).1)

pub trace-valid : (n : ℕ) → All IsValid (made_trace n)
unfolding made_trace
trace-valid n = made-valid n 0 n
