-- The collector word of an object: the number of the last collection that claimed the object, and
-- its target, the address where the object is after it. One word, so one exchange writes both.
use Rattle.std.specs.Prelude.{ℕ, ◌+◌, ◌*◌, ◌/◌, ◌%◌, ◌^◌, Bool, ◌&&◌, nat_lt, nat_le}

abbrev pub collector_word : ℕ → ℕ → ℕ
collector_word number target = number * 2 ^ 24 + target

abbrev pub number_in : ℕ → ℕ
number_in word = word / 2 ^ 24

abbrev pub target_in : ℕ → ℕ
target_in word = word % 2 ^ 24

-- The object with this collector word is old: the last full collection, `base`, or a later one
-- claimed it. Before the first full collection, where the base is 0, none is old.
abbrev pub is_old_word : ℕ → ℕ → Bool
is_old_word base word = nat_lt 0 base && nat_le base (number_in word)
