-- The state of a source and of a sink, and what one call does to it.
use Rattle.std.specs.Prelude.{◌≡◌, ℕ, ◌<◌, ◌≤◌, ◌⊎◌, List, [], ◌∷◌, ◌++◌, length, take, drop, Option, Some, IfSome}
use Rattle.std.specs.Prelude.{Result, Ok, Err}
use Rattle.outside.specs.declared.traits.OpenFault.{OpenFault}
use Rattle.outside.specs.declared.traits.OpenFault.TheVariants as fault

-- the largest number of 64 bits, at which a count stops
abbrev pub LAST : ℕ
LAST = 18446744073709551615

-- the count has grown, or has stopped at its maximum
abbrev pub HasRisen : ℕ → ℕ → Type 0
HasRisen before now = (before < now) ⊎ (LAST ≤ now)

-- the names asked for so far, in their order, each with the count of faults before it
abbrev pub Asked : Type 0
Asked = List (List ℕ × ℕ)

-- a source: the content of each name, the bytes left of the open file, the names asked for, and the
-- count of faults; content and bytes are None if they are not known to the contract
pub record SourceState : Type 0 where
  pub content : List ℕ → Option (List ℕ)
  pub left : Option (List ℕ)
  pub asked : Asked
  pub faults : ℕ

-- a sink: the bytes written, which are None if they are not known to the contract, and the count of
-- faults
pub record SinkState : Type 0 where
  pub written : Option (List ℕ)
  pub faults : ℕ

-- after a file is opened, its whole content is left, if known; after an error, no bytes are left
abbrev pub Opens : Result (Unit {0}) OpenFault → Option (List ℕ) → Option (List ℕ) → Type 0
Opens (Ok u) content left = IfSome content (λ bytes. left ≡ Some bytes)
Opens (Err e) content left = left ≡ Some []

-- the names asked for after this call, which appends its name unless memory ran out
abbrev pub asked_after : Result (Unit {0}) OpenFault → List ℕ → ℕ → Asked → Asked
asked_after (Ok u) name count before = before ++ (name, count) ∷ []
asked_after (Err fault.Failed) name count before = before ++ (name, count) ∷ []
asked_after (Err fault.OutOfMemory) name count before = before

-- the first n bytes of `left` move to the beginning of the buffer
pub record MovesBytes (n : ℕ) (left : List ℕ) (buf : List ℕ) (left' : Option (List ℕ))
    : Type 0 where
  pub most : n ≤ length left
  pub bytes : take n buf ≡ take n left
  pub rest : left' ≡ Some (drop n left)
  -- 0 bytes in a buffer that is not empty mean the end
  pub end : n ≡ 0 → 0 < length buf → left ≡ []

-- the text is appended to the bytes written, if they are known
abbrev pub AppendsText : Option (List ℕ) → Option (List ℕ) → List ℕ → Type 0
AppendsText before after text = IfSome before (λ old. after ≡ Some (old ++ text))

-- a prefix of the text, but not the whole, is appended to the bytes written, if they are known
abbrev pub AppendsPrefix : Option (List ℕ) → Option (List ℕ) → List ℕ → Type 0
AppendsPrefix before after text = IfSome before (λ old. (n : ℕ) × (n < length text)
    × (after ≡ Some (old ++ take n text)))
