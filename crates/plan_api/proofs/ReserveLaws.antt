-- Mutators that take at most the allowance keep the reserve.
use Rattle.std.proofs.Common.{◌≡◌, ℕ, ◌+◌, ◌*◌, ◌-◌, ◌≤◌, arith}
use Rattle.std.proofs.Math.Nat.{le-div_iff_mul-le}
use Rattle.sessions.specs.Plans.{Reserve, Nothing, Copies, Headroom}
use Rattle.sessions.specs.Grants.{BlockCounts, reserve_in, reserve_per_block, HoldsReserve, allowance_in, after_taking}

-- if each block taken raises the reserve by at most the plan's rate, the reserve is kept
pub reserve-kept : (r : Reserve) → ((c : BlockCounts) (n : ℕ) → reserve_in r (after_taking c n) ≤ reserve_in r c + n * reserve_per_block r)
    → (c : BlockCounts) (n : ℕ) → HoldsReserve r c → n ≤ allowance_in r c → HoldsReserve r (after_taking c n)
reserve-kept r raises c n holds few =
    let each : ℕ = 1 + reserve_per_block r in
    let less : n * each ≤ c.free - reserve_in r c = (le-div_iff_mul-le {k = each} {x = n} {y = c.free - reserve_in r c} (omega arith)).0 few in
    let sum : n * each ≡ n + n * reserve_per_block r = omega arith in
    let more = raises c n in
    omega arith

pub nothing-kept : (c : BlockCounts) (n : ℕ) → HoldsReserve Nothing c → n ≤ allowance_in Nothing c → HoldsReserve Nothing (after_taking c n)
nothing-kept = reserve-kept Nothing (λ c n. omega arith)

pub copies-kept : (c : BlockCounts) (n : ℕ) → HoldsReserve Copies c → n ≤ allowance_in Copies c → HoldsReserve Copies (after_taking c n)
copies-kept = reserve-kept Copies (λ c n. omega arith)

pub headroom-kept : (c : BlockCounts) (n : ℕ) → HoldsReserve Headroom c → n ≤ allowance_in Headroom c → HoldsReserve Headroom (after_taking c n)
headroom-kept = reserve-kept Headroom (λ c n. omega arith)
