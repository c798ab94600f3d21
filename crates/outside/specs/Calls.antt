-- Calls, counted from 1, that fail by number.
use Rattle.std.specs.Prelude.{ℕ, ◌+◌, List, Bool, nat_eq, min}
use Rattle.std.specs.List.{list_any}
use Rattle.outside.specs.Outside.{LAST}

-- the list has the number of this call
abbrev pub is_listed : List ℕ → ℕ → Bool
is_listed fails call = list_any (λ n. nat_eq n call) fails

-- the number of the next call; the count stops at the maximum of its type
abbrev pub next_call : ℕ → ℕ
next_call calls = min (calls + 1) LAST
