-- Reading a whole file.
use Rattle.std.specs.Prelude.{◌≡◌, ℕ, ◌≤◌, ◌⊎◌, List, [], ◌∷◌, ◌++◌, length, take, drop, Option, Some, IfSome, Result}
use Rattle.std.specs.Prelude.{Ok, Err}
use Rattle.outside.specs.declared.reader.ReadFault.{ReadFault}
use Rattle.outside.specs.declared.reader.ReadFault.TheVariants as fault
use Rattle.outside.specs.declared.reader.TheConstants.{MAX_FILE_BYTES}
use Rattle.outside.specs.Outside.{Asked}

-- n bytes were read of those left
abbrev pub Moved : ℕ → List ℕ → Option (List ℕ) → Type 0
Moved n left left' = (n ≤ length left) × (left' ≡ Some (drop n left))

-- A consumer took n more bytes: the first ones of `left`, if those are known. `old` and `new` say
-- which bytes it had taken before and has taken after.
abbrev pub TakesMore : (List ℕ → Type 0) → (List ℕ → Type 0) → ℕ → Option (List ℕ) → Type 0
TakesMore old new n left = (bytes : List ℕ) → old bytes
    → (more : List ℕ) × (length more ≡ n) × new (bytes ++ more)
    × IfSome left (λ known. more ≡ take n known)

-- a consumer took at most the bytes of a file of the maximum size: all of the content, if it is
-- known
abbrev pub TakesAll : (List ℕ → Type 0) → (List ℕ → Type 0) → Option (List ℕ) → Type 0
TakesAll old new content = (bytes : List ℕ) → old bytes
    → (more : List ℕ) × (length more ≤ MAX_FILE_BYTES) × new (bytes ++ more)
    × IfSome content (λ known. more ≡ known)

-- this name is appended to the names asked for; if memory ran out, it may be missing
abbrev pub AsksFor : {X : Type 0} → Result X ReadFault → List ℕ → ℕ → Asked → Asked → Type 0
AsksFor (Err fault.OutOfMemory) name count before now = (now ≡ before ++ (name, count) ∷ [])
    ⊎ (now ≡ before)
AsksFor (Err fault.Failed) name count before now = now ≡ before ++ (name, count) ∷ []
AsksFor (Err fault.TooLong) name count before now = now ≡ before ++ (name, count) ∷ []
AsksFor (Ok x) name count before now = now ≡ before ++ (name, count) ∷ []
