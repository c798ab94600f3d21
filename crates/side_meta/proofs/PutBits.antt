-- The bits of a word in which a run of bits was replaced.
use Rattle.std.proofs.Common.{◌≡◌, ◌∙◌, sym, ap, ℕ, ◌+◌, ◌*◌, ◌-◌, ◌/◌, ◌%◌, ◌^◌, ◌<◌, ◌≤◌, ◌⊎◌, inl, inr, max, min, bit_and, bit_or, w64, add-zero, arith}
use Rattle.std.specs.Int.{bit_at, bit_not}
use Rattle.std.proofs.lemmas.Nat.{pow_pos, shl_whole, shr-shr, shr_split, mod_below}
use Rattle.std.proofs.lemmas.Nat.Bits.{bit_at-zero, bit_at-lt, bit_at_and, bit_at_or, bit_at_not, bit_at_ones, bit_at_above, bit_at_cat_low, bit_at_cat_high, same_from_bits_below}

-- the word y, with the bits of v in place of those from bit s on where m has ones
abbrev pub put_bits : ℕ → ℕ → ℕ → ℕ → ℕ
put_bits y v m s = bit_or (bit_and y (bit_not w64 (m * 2 ^ s % 18446744073709551616))) (v * 2 ^ s % 18446744073709551616)

-- a number of b bits, shifted within a word: zeros, and then its bits
shl_low : (a b s k : ℕ) → a < 2 ^ b → b + s ≤ 64 → k < s → bit_at (a * 2 ^ s % 2 ^ 64) k ≡ 0
shl_low a b s k small room below =
    ap (λ x. bit_at x k) (shl_whole a b s 64 small room ∙ sym (add-zero (a * 2 ^ s)))
    ∙ bit_at_cat_low a s 0 k below ∙ bit_at-zero k

shl_high : (a b s k : ℕ) → a < 2 ^ b → b + s ≤ 64 → s ≤ k → bit_at (a * 2 ^ s % 2 ^ 64) k ≡ bit_at a (k - s)
shl_high a b s k small room above =
    ap (λ x. bit_at x k) (shl_whole a b s 64 small room ∙ sym (add-zero (a * 2 ^ s)))
    ∙ bit_at_cat_high a s 0 k (pow_pos s) above

-- a bit of the new word, from the same bits of the three parts
joined : (y v m s k : ℕ) → k < 64
    → bit_at (put_bits y v m s) k ≡ max (min (bit_at y k) (1 - bit_at (m * 2 ^ s % 2 ^ 64) k)) (bit_at (v * 2 ^ s % 2 ^ 64) k)
joined y v m s k within =
    let mask : ℕ = m * 2 ^ s % 2 ^ 64 in
    let fits : mask < 2 ^ 64 = mod_below (m * 2 ^ s) (2 ^ 64) (pow_pos 64) in
    let clear : bit_at (bit_not w64 mask) k ≡ 1 - bit_at mask k = bit_at_not w64 mask k fits within in
    bit_at_or (bit_and y (bit_not w64 mask)) (v * 2 ^ s % 2 ^ 64) k
    ∙ ap (λ z. max z (bit_at (v * 2 ^ s % 2 ^ 64) k)) (bit_at_and y (bit_not w64 mask) k ∙ ap (λ z. min (bit_at y k) z) clear)

-- the ones below bit b
ones_fit : (b : ℕ) → 2 ^ b - 1 < 2 ^ b
ones_fit b = omega (arith, pow_pos b)

pub put_inside : (y v b s k : ℕ) → v < 2 ^ b → b + s ≤ 64 → s ≤ k → k < s + b
    → bit_at (put_bits y v (2 ^ b - 1) s) k ≡ bit_at v (k - s)
put_inside y v b s k small room above below =
    let within : k < 64 = omega arith in
    let here : k - s < b = omega arith in
    let one : bit_at ((2 ^ b - 1) * 2 ^ s % 2 ^ 64) k ≡ 1 = shl_high (2 ^ b - 1) b s k (ones_fit b) room above ∙ bit_at_ones b (k - s) here in
    let value : bit_at (v * 2 ^ s % 2 ^ 64) k ≡ bit_at v (k - s) = shl_high v b s k small room above in
    let all = joined y v (2 ^ b - 1) s k within in
    omega (arith, all, one, value)

pub put_outside : (y v b s k : ℕ) → v < 2 ^ b → b + s ≤ 64 → k < 64 → (k < s) ⊎ (s + b ≤ k)
    → bit_at (put_bits y v (2 ^ b - 1) s) k ≡ bit_at y k
put_outside y v b s k small room within (inl below) =
    let none : bit_at ((2 ^ b - 1) * 2 ^ s % 2 ^ 64) k ≡ 0 = shl_low (2 ^ b - 1) b s k (ones_fit b) room below in
    let value : bit_at (v * 2 ^ s % 2 ^ 64) k ≡ 0 = shl_low v b s k small room below in
    let all = joined y v (2 ^ b - 1) s k within in
    omega (arith, all, none, value, bit_at-lt y k)
put_outside y v b s k small room within (inr past) =
    let above : s ≤ k = omega arith in
    let over : b ≤ k - s = omega arith in
    let none : bit_at ((2 ^ b - 1) * 2 ^ s % 2 ^ 64) k ≡ 0 = shl_high (2 ^ b - 1) b s k (ones_fit b) room above ∙ bit_at_above (2 ^ b - 1) b (k - s) (ones_fit b) over in
    let value : bit_at (v * 2 ^ s % 2 ^ 64) k ≡ 0 = shl_high v b s k small room above ∙ bit_at_above v b (k - s) small over in
    let all = joined y v (2 ^ b - 1) s k within in
    omega (arith, all, none, value, bit_at-lt y k)

-- a bit of a run of b bits that is read
pub run_bit : (n s b i : ℕ) → i < b → bit_at (n / 2 ^ s % 2 ^ b) i ≡ bit_at n (s + i)
run_bit n s b i below =
    let x : ℕ = n / 2 ^ s in
    sym (bit_at_cat_low (x / 2 ^ b) b (x % 2 ^ b) i below)
    ∙ ap (λ z. bit_at z i) (shr_split x b)
    ∙ ap (λ z. z % 2) (shr-shr n s i)

-- two runs with the same bits are one number
pub same_run : (n m s b : ℕ) → ((i : ℕ) → i < b → bit_at n (s + i) ≡ bit_at m (s + i)) → n / 2 ^ s % 2 ^ b ≡ m / 2 ^ s % 2 ^ b
same_run n m s b same =
    same_from_bits_below b _ _ (mod_below (n / 2 ^ s) (2 ^ b) (pow_pos b)) (mod_below (m / 2 ^ s) (2 ^ b) (pow_pos b))
    (λ i below. run_bit n s b i below ∙ same i below ∙ sym (run_bit m s b i below))

-- the run that was written is read back
pub put_back : (y v b s : ℕ) → v < 2 ^ b → b + s ≤ 64 → put_bits y v (2 ^ b - 1) s / 2 ^ s % 2 ^ b ≡ v
put_back y v b s small room =
    same_from_bits_below b _ _ (mod_below _ (2 ^ b) (pow_pos b)) small
    (λ i below.
    let from : s ≤ s + i = omega arith in
    let to : s + i < s + b = omega arith in
    let place : s + i - s ≡ i = omega arith in
    run_bit (put_bits y v (2 ^ b - 1) s) s b i below ∙ put_inside y v b s (s + i) small room from to ∙ ap (bit_at v) place)
