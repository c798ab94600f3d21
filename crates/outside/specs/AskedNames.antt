-- The names that were asked for, as a source stores them.
use Rattle.std.specs.Prelude.{ℕ, List, map, String, string_bytes}
use Rattle.std.specs.declared.alloc.Global.{Global}
use Rattle.outside.specs.Outside.{Asked}

-- each name, with the count of faults before it
abbrev pub names_in : List (String Global × ℕ) → Asked
names_in names = map (λ a. (string_bytes a.0, a.1)) names
