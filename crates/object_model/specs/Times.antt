-- How often a number is in a list, and a test as 0 or 1.
use Rattle.std.specs.Prelude.{ℕ, Bool, List, if◌then◌else◌, nat_eq, count_by}

abbrev pub one_if : Bool → ℕ
one_if b = if b then 1 else 0

abbrev pub times : ℕ → List ℕ → ℕ
times x l = count_by (nat_eq x) l
