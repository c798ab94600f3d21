-- What the tables of rows give is what the rows draw.
use Rattle.std.proofs.Common.{◌≡◌, ap, ◌∙◌, ℕ, zero, suc, ◌+◌, ◌*◌, ◌/◌, ◌%◌, ◌^◌, ◌-◌, ◌<◌, arith, bit_and}
use Rattle.std.specs.Prelude.{get_or}
use Rattle.std.proofs.lemmas.Nat.{and_mask}
use Rattle.ideal_heap.specs.declared.command.Command.{Command}
use Rattle.ideal_heap.specs.declared.command.Command.TheVariants as commands
use Rattle.stored_commands.specs.declared.form.Op.{Op}
use Rattle.stored_commands.specs.declared.form.Op.TheVariants.{New, Get, Put, Read, Write, Add, Swap, Move, Load, Share, Pin, Other}
use Rattle.stored_commands.specs.Forms.{command_of}
use Rattle.stored_commands.specs.declared.draws.Row.{Row}
use Rattle.stored_commands.specs.declared.draws.TheConstants.{TABLE}
use Rattle.stored_commands.specs.Made.{next_state, in_row}

-- steps of the generator as one
abbrev pub steps : ℕ → ℕ → ℕ → ℕ
steps m i x = (x * m % 2 ^ 64 + i) % 2 ^ 64

step-1 : (x : ℕ) → steps 6364136223846793005 1442695040888963407 x ≡ next_state x
step-1 x = omega arith

step-2 : (x : ℕ) → steps 7520897724310334953 1876011003808476466 x ≡ next_state (next_state x)
step-2 x = omega arith

step-3 : (x : ℕ) → steps 793875393913628917 11166244414315200793 x ≡ next_state (next_state (next_state x))
step-3 x = omega arith

step-4 : (x : ℕ) → steps 18108194425815612945 7401132627792533940 x ≡ next_state (next_state (next_state (next_state x)))
step-4 x = omega arith

-- what a draw gives
abbrev pub number : ℕ → ℕ
number x = x / 2 ^ 33

and-zero : (n : ℕ) → bit_and n 0 ≡ 0
and-zero n = and_mask n 0 ∙ omega arith

one-number : (n m k : ℕ) → bit_and n (2 ^ k - 1) + 65536 * bit_and m 0 ≡ n % 2 ^ k
one-number n m k = let low : bit_and n (2 ^ k - 1) ≡ n % 2 ^ k = and_mask n k in let no : bit_and m 0 ≡ 0 = and-zero m in ap (λ z. bit_and n (2 ^ k - 1) + 65536 * z) no ∙ omega arith ∙ low

whole-number : (x m : ℕ) → bit_and (number (next_state x)) (2 ^ 31 - 1) + 65536 * bit_and m 0 ≡ number (next_state x)
whole-number x m = one-number (number (next_state x)) m 31 ∙ omega arith

two-numbers : (n m : ℕ) → bit_and n 3 + 65536 * bit_and m 3 ≡ n % 4 + 65536 * (m % 4)
two-numbers n m = ap (λ z. z + 65536 * bit_and m 3) (and_mask n 2) ∙ ap (λ z. n % 4 + 65536 * z) (and_mask m 2)

-- a command and the state after it
abbrev pub Drawn : Type 0
Drawn = Command × ℕ

abbrev pub with : Command → ℕ → Drawn
with c s = (c, s)

same-drawn : (o : Op) (a b b' c c' s s' : ℕ) → b ≡ b' → c ≡ c' → s ≡ s' → with (command_of o a b c) s ≡ with (command_of o a b' c') s'
same-drawn o a b b' c c' s s' p q r = ap (λ n. with (command_of o a n c) s) p ∙ ap (λ n. with (command_of o a b' n) s) q ∙ ap (λ n. with (command_of o a b' c') n) r

swap-drawn : (a b n m s : ℕ) → with (command_of Swap a b (n % 4 + 65536 * (m % 4))) s ≡ with (commands.Swap a b (n % 4) (m % 4)) s
swap-drawn a b n m s =
    let low : (n % 4 + 65536 * (m % 4)) % 65536 ≡ n % 4 = omega arith in
    let high : (n % 4 + 65536 * (m % 4)) / 65536 ≡ m % 4 = omega arith in
    ap (λ v. with (commands.Swap a b v ((n % 4 + 65536 * (m % 4)) / 65536)) s) low ∙ ap (λ v. with (commands.Swap a b (n % 4) v) s) high

-- the row with this number
abbrev pub row-at : ℕ → Row
row-at r = get_or TABLE r (record { op = Other; second = 0; third = 0; fourth = 0; multiplier = 0; increment = 0 })

-- the command and the state that the tables give, for a row and the state after it was drawn
abbrev pub tabled : ℕ → ℕ → Drawn
tabled r x =
    let first : ℕ = next_state x in
    let second : ℕ = next_state first in
    let third : ℕ = next_state second in
    let fourth : ℕ = next_state third in (
      command_of (row-at r).op (number first % 16) (bit_and (number second) (row-at r).second)
          (bit_and (number third) (row-at r).third + 65536 * bit_and (number fourth) (row-at r).fourth),
      steps (row-at r).multiplier (row-at r).increment x,
    )

pub rows-drawn : (r x : ℕ) → r < 16 → tabled r x ≡ in_row r x
rows-drawn zero x within = same-drawn New (number (next_state x) % 16) (bit_and (number (next_state (next_state x))) 7) (number (next_state (next_state x)) % 8) (bit_and (number (next_state (next_state (next_state x)))) 31 + 65536 * bit_and (number (next_state (next_state (next_state (next_state x))))) 0) (number (next_state (next_state (next_state x))) % 32) _ (next_state (next_state (next_state x))) (and_mask (number (next_state (next_state x))) 3) (one-number (number (next_state (next_state (next_state x)))) (number (next_state (next_state (next_state (next_state x))))) 5) (step-3 x)
rows-drawn (suc zero) x within = same-drawn New (number (next_state x) % 16) (bit_and (number (next_state (next_state x))) 7) (number (next_state (next_state x)) % 8) (bit_and (number (next_state (next_state (next_state x)))) 31 + 65536 * bit_and (number (next_state (next_state (next_state (next_state x))))) 0) (number (next_state (next_state (next_state x))) % 32) _ (next_state (next_state (next_state x))) (and_mask (number (next_state (next_state x))) 3) (one-number (number (next_state (next_state (next_state x)))) (number (next_state (next_state (next_state (next_state x))))) 5) (step-3 x)
rows-drawn (suc (suc zero)) x within = same-drawn New (number (next_state x) % 16) (bit_and (number (next_state (next_state x))) 7) (number (next_state (next_state x)) % 8) (bit_and (number (next_state (next_state (next_state x)))) 31 + 65536 * bit_and (number (next_state (next_state (next_state (next_state x))))) 0) (number (next_state (next_state (next_state x))) % 32) _ (next_state (next_state (next_state x))) (and_mask (number (next_state (next_state x))) 3) (one-number (number (next_state (next_state (next_state x)))) (number (next_state (next_state (next_state (next_state x))))) 5) (step-3 x)
rows-drawn (suc (suc (suc zero))) x within = same-drawn New (number (next_state x) % 16) (bit_and (number (next_state (next_state x))) 7) (number (next_state (next_state x)) % 8) (bit_and (number (next_state (next_state (next_state x)))) 31 + 65536 * bit_and (number (next_state (next_state (next_state (next_state x))))) 0) (number (next_state (next_state (next_state x))) % 32) _ (next_state (next_state (next_state x))) (and_mask (number (next_state (next_state x))) 3) (one-number (number (next_state (next_state (next_state x)))) (number (next_state (next_state (next_state (next_state x))))) 5) (step-3 x)
rows-drawn (suc (suc (suc (suc zero)))) x within = same-drawn Put (number (next_state x) % 16) (bit_and (number (next_state (next_state x))) 7) (number (next_state (next_state x)) % 8) (bit_and (number (next_state (next_state (next_state x)))) 15 + 65536 * bit_and (number (next_state (next_state (next_state (next_state x))))) 0) (number (next_state (next_state (next_state x))) % 16) _ (next_state (next_state (next_state x))) (and_mask (number (next_state (next_state x))) 3) (one-number (number (next_state (next_state (next_state x)))) (number (next_state (next_state (next_state (next_state x))))) 4) (step-3 x)
rows-drawn (suc (suc (suc (suc (suc zero))))) x within = same-drawn Put (number (next_state x) % 16) (bit_and (number (next_state (next_state x))) 7) (number (next_state (next_state x)) % 8) (bit_and (number (next_state (next_state (next_state x)))) 15 + 65536 * bit_and (number (next_state (next_state (next_state (next_state x))))) 0) (number (next_state (next_state (next_state x))) % 16) _ (next_state (next_state (next_state x))) (and_mask (number (next_state (next_state x))) 3) (one-number (number (next_state (next_state (next_state x)))) (number (next_state (next_state (next_state (next_state x))))) 4) (step-3 x)
rows-drawn (suc (suc (suc (suc (suc (suc zero)))))) x within = same-drawn Get (number (next_state x) % 16) (bit_and (number (next_state (next_state x))) 15) (number (next_state (next_state x)) % 16) (bit_and (number (next_state (next_state (next_state x)))) 7 + 65536 * bit_and (number (next_state (next_state (next_state (next_state x))))) 0) (number (next_state (next_state (next_state x))) % 8) _ (next_state (next_state (next_state x))) (and_mask (number (next_state (next_state x))) 4) (one-number (number (next_state (next_state (next_state x)))) (number (next_state (next_state (next_state (next_state x))))) 3) (step-3 x)
rows-drawn (suc (suc (suc (suc (suc (suc (suc zero))))))) x within = same-drawn Get (number (next_state x) % 16) (bit_and (number (next_state (next_state x))) 15) (number (next_state (next_state x)) % 16) (bit_and (number (next_state (next_state (next_state x)))) 7 + 65536 * bit_and (number (next_state (next_state (next_state (next_state x))))) 0) (number (next_state (next_state (next_state x))) % 8) _ (next_state (next_state (next_state x))) (and_mask (number (next_state (next_state x))) 4) (one-number (number (next_state (next_state (next_state x)))) (number (next_state (next_state (next_state (next_state x))))) 3) (step-3 x)
rows-drawn (suc (suc (suc (suc (suc (suc (suc (suc zero)))))))) x within = same-drawn Read (number (next_state x) % 16) (bit_and (number (next_state (next_state x))) 31) (number (next_state (next_state x)) % 32) (bit_and (number (next_state (next_state (next_state x)))) 0 + 65536 * bit_and (number (next_state (next_state (next_state (next_state x))))) 0) (number (next_state (next_state (next_state x))) % 1) _ (next_state (next_state x)) (and_mask (number (next_state (next_state x))) 5) (one-number (number (next_state (next_state (next_state x)))) (number (next_state (next_state (next_state (next_state x))))) 0) (step-2 x)
rows-drawn (suc (suc (suc (suc (suc (suc (suc (suc (suc zero))))))))) x within = same-drawn Write (number (next_state x) % 16) (bit_and (number (next_state (next_state x))) 31) (number (next_state (next_state x)) % 32) (bit_and (number (next_state (next_state (next_state x)))) 2147483647 + 65536 * bit_and (number (next_state (next_state (next_state (next_state x))))) 0) (number (next_state (next_state (next_state x)))) _ (next_state (next_state (next_state x))) (and_mask (number (next_state (next_state x))) 5) (whole-number (next_state (next_state x)) (number (next_state (next_state (next_state (next_state x)))))) (step-3 x)
rows-drawn (suc (suc (suc (suc (suc (suc (suc (suc (suc (suc zero)))))))))) x within = same-drawn Add (number (next_state x) % 16) (bit_and (number (next_state (next_state x))) 31) (number (next_state (next_state x)) % 32) (bit_and (number (next_state (next_state (next_state x)))) 2147483647 + 65536 * bit_and (number (next_state (next_state (next_state (next_state x))))) 0) (number (next_state (next_state (next_state x)))) _ (next_state (next_state (next_state x))) (and_mask (number (next_state (next_state x))) 5) (whole-number (next_state (next_state x)) (number (next_state (next_state (next_state (next_state x)))))) (step-3 x)
rows-drawn (suc (suc (suc (suc (suc (suc (suc (suc (suc (suc (suc zero))))))))))) x within = same-drawn Swap (number (next_state x) % 16) (bit_and (number (next_state (next_state x))) 31) (number (next_state (next_state x)) % 32) (bit_and (number (next_state (next_state (next_state x)))) 3 + 65536 * bit_and (number (next_state (next_state (next_state (next_state x))))) 3) (number (next_state (next_state (next_state x))) % 4 + 65536 * (number (next_state (next_state (next_state (next_state x)))) % 4)) _ (next_state (next_state (next_state (next_state x)))) (and_mask (number (next_state (next_state x))) 5) (two-numbers (number (next_state (next_state (next_state x)))) (number (next_state (next_state (next_state (next_state x)))))) (step-4 x) ∙ swap-drawn (number (next_state x) % 16) (number (next_state (next_state x)) % 32) (number (next_state (next_state (next_state x)))) (number (next_state (next_state (next_state (next_state x))))) (next_state (next_state (next_state (next_state x))))
rows-drawn (suc (suc (suc (suc (suc (suc (suc (suc (suc (suc (suc (suc zero)))))))))))) x within = same-drawn Move (number (next_state x) % 16) (bit_and (number (next_state (next_state x))) 15) (number (next_state (next_state x)) % 16) (bit_and (number (next_state (next_state (next_state x)))) 0 + 65536 * bit_and (number (next_state (next_state (next_state (next_state x))))) 0) (number (next_state (next_state (next_state x))) % 1) _ (next_state (next_state x)) (and_mask (number (next_state (next_state x))) 4) (one-number (number (next_state (next_state (next_state x)))) (number (next_state (next_state (next_state (next_state x))))) 0) (step-2 x)
rows-drawn (suc (suc (suc (suc (suc (suc (suc (suc (suc (suc (suc (suc (suc zero))))))))))))) x within = same-drawn Load (number (next_state x) % 16) (bit_and (number (next_state (next_state x))) 15) (number (next_state (next_state x)) % 16) (bit_and (number (next_state (next_state (next_state x)))) 0 + 65536 * bit_and (number (next_state (next_state (next_state (next_state x))))) 0) (number (next_state (next_state (next_state x))) % 1) _ (next_state (next_state x)) (and_mask (number (next_state (next_state x))) 4) (one-number (number (next_state (next_state (next_state x)))) (number (next_state (next_state (next_state (next_state x))))) 0) (step-2 x)
rows-drawn (suc (suc (suc (suc (suc (suc (suc (suc (suc (suc (suc (suc (suc (suc zero)))))))))))))) x within = same-drawn Share (number (next_state x) % 16) (bit_and (number (next_state (next_state x))) 15) (number (next_state (next_state x)) % 16) (bit_and (number (next_state (next_state (next_state x)))) 0 + 65536 * bit_and (number (next_state (next_state (next_state (next_state x))))) 0) (number (next_state (next_state (next_state x))) % 1) _ (next_state (next_state x)) (and_mask (number (next_state (next_state x))) 4) (one-number (number (next_state (next_state (next_state x)))) (number (next_state (next_state (next_state (next_state x))))) 0) (step-2 x)
rows-drawn (suc (suc (suc (suc (suc (suc (suc (suc (suc (suc (suc (suc (suc (suc (suc zero))))))))))))))) x within = same-drawn Pin (number (next_state x) % 16) (bit_and (number (next_state (next_state x))) 0) 0 (bit_and (number (next_state (next_state (next_state x)))) 0 + 65536 * bit_and (number (next_state (next_state (next_state (next_state x))))) 0) (number (next_state (next_state (next_state x))) % 1) _ (next_state x) (and-zero (number (next_state (next_state x)))) (one-number (number (next_state (next_state (next_state x)))) (number (next_state (next_state (next_state (next_state x))))) 0) (step-1 x)
rows-drawn (suc (suc (suc (suc (suc (suc (suc (suc (suc (suc (suc (suc (suc (suc (suc (suc n)))))))))))))))) x within = absurd (omega (arith, within))
