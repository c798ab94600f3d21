use Rattle.std.proofs.Common.{◌≡◌, refl, sym, ◌∙◌, ap, ℕ, ◌+◌, ◌-◌, ◌≤◌, inl, inr, arith, List, [], ◌∷◌, ◌++◌, length, length-append, take, drop}
use Rattle.std.specs.Prelude.{Option, Some, Ok, Err, unwrap_or}
use Rattle.std.proofs.lemmas.List.{length-drop, take-append-drop}
use Rattle.std.proofs.Math.Seq.{take-append_seam, take-length}
use Rattle.outside.specs.Outside.{Asked}
use Rattle.outside.specs.declared.reader.ReadFault.TheVariants as fault
use Rattle.outside.specs.declared.reader.TheConstants.{MAX_FILE_BYTES}
use Rattle.outside.proofs.laws.files_are_taken_in_order.Goals as goal

-- what is left, in two parts
parts : (n : ℕ) (left rest : List ℕ) → n ≤ length left → Some rest ≡ Some (drop n left) → (take n left ++ rest ≡ left) × (n + length rest ≡ length left)
parts n left rest most is =
    let same : rest ≡ drop n left = ap (λ (o : Option (List ℕ)). unwrap_or o []) is in
    let long : length rest ≡ length left - n = ap length same ∙ length-drop n left in
    (ap (λ x. take n left ++ x) same ∙ take-append-drop n left, omega (arith, long, most))

pub returns-clause-moved : goal.returns-clause-moved
returns-clause-moved c n left buf rest m =
    let p = parts n left rest m.most m.rest in
    (ap (λ x. x ++ rest) m.bytes ∙ p.0, p.1)

pub returns-clause-left : goal.returns-clause-left
returns-clause-left c n left rest m = parts n left rest m.0 m.1

pub returns-clause-next : goal.returns-clause-next
returns-clause-next c n had has left taken =
    let a = taken had refl in
    sym a.2 ∙ ap (λ x. had ++ x) a.3

pub returns-clause-count : goal.returns-clause-count
returns-clause-count c n had has left taken =
    let a = taken had refl in
    ap length (sym a.2) ∙ length-append had a.0 ∙ ap (λ k. length had + k) a.1

pub returns-clause-all : goal.returns-clause-all
returns-clause-all c had has content taken =
    let a = taken had refl in
    sym a.2 ∙ ap (λ x. had ++ x) a.3

pub returns-clause-within : goal.returns-clause-within
returns-clause-within c had has content taken =
    let a = taken had refl in
    let long : length has ≡ length had + length a.0 = ap length (sym a.2) ∙ length-append had a.0 in
    let few : length a.0 ≤ MAX_FILE_BYTES = a.1 in
    omega (arith, long, few)

pub returns-clause-named : goal.returns-clause-named
returns-clause-named c (Ok x) name count before now asked other = asked
returns-clause-named c (Err fault.Failed) name count before now asked other = asked
returns-clause-named c (Err fault.TooLong) name count before now asked other = asked
returns-clause-named c (Err fault.OutOfMemory) name count before now asked other = absurd (other refl)

one-more : (before now : Asked) (name : List ℕ) (count : ℕ) → now ≡ before ++ (name, count) ∷ [] → take (length before) now ≡ before
one-more before now name count is = ap (λ x. take (length before) x) is ∙ take-append_seam before ((name, count) ∷ [])

pub returns-clause-kept : goal.returns-clause-kept
returns-clause-kept c (Ok x) name count before now asked = one-more before now name count asked
returns-clause-kept c (Err fault.Failed) name count before now asked = one-more before now name count asked
returns-clause-kept c (Err fault.TooLong) name count before now asked = one-more before now name count asked
returns-clause-kept c (Err fault.OutOfMemory) name count before now asked =
    elim asked as (λ _. take (length before) now ≡ before) [
      | inl more ↦ one-more before now name count more
      | inr same ↦ ap (λ x. take (length before) x) same ∙ take-length before
    ]
