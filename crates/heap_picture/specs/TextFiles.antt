-- What was read of a file.
use Rattle.std.specs.Prelude.{◌≡◌, List, ◌++◌, ℕ, Option, IfSome}

-- the rest of the file, if it is known, was appended
abbrev pub ReadsRest : List ℕ → List ℕ → Option (List ℕ) → Type 0
ReadsRest old new left = IfSome left (λ bytes. new ≡ old ++ bytes)
