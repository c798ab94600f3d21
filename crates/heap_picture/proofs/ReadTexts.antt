-- Reading a text, piece by piece.
use Rattle.std.proofs.Common.{◌≡◌, sym, ◌∙◌, ap, subst, ℕ, ◌+◌, ◌-◌, ◌<◌, ◌≤◌, List, ◌++◌, take, drop, length, append_assoc, arith}
use Rattle.std.specs.Prelude.{Option, None, Some, IfSome}
use Rattle.std.proofs.lemmas.List.{length-drop, drop-drop, take_all}
use Rattle.std.proofs.Math.Seq.{take-add}
use Rattle.outside.specs.Outside.{MovesBytes}
use Rattle.heap_picture.specs.TextFiles.{ReadsRest}

-- so many bytes of a file were read and appended, and these are left
abbrev pub HasRead : ℕ → List ℕ → List ℕ → Option (List ℕ) → Option (List ℕ) → Type 0
HasRead n old new first left = IfSome first (λ all. (n ≤ length all) × (new ≡ old ++ take n all) × (left ≡ Some (drop n all)))

pub read_more : (n m : ℕ) (old new more buf : List ℕ) (first left next : Option (List ℕ)) → HasRead n old new first left → IfSome left (λ bytes. MovesBytes m bytes buf next)
    → more ≡ new ++ take m buf → HasRead (n + m) old more first next
read_more n m old new more buf None left next read moved is = tt
read_more n m old new more buf (Some all) left next read moved is =
    let step : MovesBytes m (drop n all) buf next = subst (λ o. IfSome o (λ bytes. MovesBytes m bytes buf next)) read.2 moved in
    let long : length (drop n all) ≡ length all - n = length-drop n all in
    let few : n ≤ length all = read.0 in
    let most : m ≤ length (drop n all) = step.most in (
      omega (arith, few, most, long),
      is ∙ ap (λ t. t ++ take m buf) read.1 ∙ ap (λ t. (old ++ take n all) ++ t) step.bytes ∙ append_assoc old (take n all) (take m (drop n all)) ∙ ap (λ t. old ++ t) (sym (take-add n m all)),
      step.rest ∙ ap Some (drop-drop m n all),
    )

-- at the end all is read
pub all_read : (n m : ℕ) (old new buf : List ℕ) (first left next : Option (List ℕ)) → HasRead n old new first left → IfSome left (λ bytes. MovesBytes m bytes buf next) → m ≡ 0 → 0 < length buf
    → ReadsRest old new first
all_read n m old new buf None left next read moved none some = tt
all_read n m old new buf (Some all) left next read moved none some =
    let step : MovesBytes m (drop n all) buf next = subst (λ o. IfSome o (λ bytes. MovesBytes m bytes buf next)) read.2 moved in
    let long : length (drop n all) ≡ length all - n = length-drop n all in
    let gone : length (drop n all) ≡ 0 = ap length (step.end none some) in
    read.1 ∙ ap (λ t. old ++ t) (take_all n all (omega (arith, long, gone)))

pub too_many : (n most : ℕ) (old new : List ℕ) (first left : Option (List ℕ)) → most < n → HasRead n old new first left → IfSome first (λ bytes. most < length bytes)
too_many n most old new None left more read = tt
too_many n most old new (Some all) left more read = let few : n ≤ length all = read.0 in omega (arith, more, few)

-- the content of an opened file is left
pub of_content : (P : List ℕ → Type 0) (content left : Option (List ℕ)) → IfSome content (λ bytes. left ≡ Some bytes) → IfSome left P → IfSome content P
of_content P None left opened is = tt
of_content P (Some bytes) left opened is = subst (λ o. IfSome o P) opened is
