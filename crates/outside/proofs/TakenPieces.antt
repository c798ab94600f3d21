-- Reading, piece by piece.
use Rattle.std.proofs.Common.{◌≡◌, sym, ◌∙◌, ap, subst, ℕ, ◌+◌, ◌-◌, ◌<◌, ◌≤◌, List, [], ◌++◌, take, drop, length, append_assoc, length-append, arith}
use Rattle.std.specs.Prelude.{Option, None, Some, IfSome, Result, Ok, Err, OnOk}
use Rattle.std.proofs.lemmas.List.{length-drop, drop-drop, take_all}
use Rattle.std.proofs.Math.Seq.{take-add}
use Rattle.outside.specs.declared.reader.TheConstants.{MAX_FILE_BYTES}
use Rattle.outside.specs.Reading.{Moved, TakesMore, TakesAll}

-- the bytes read so far, if the content is known
abbrev pub HasMoved : ℕ → Option (List ℕ) → Option (List ℕ) → Type 0
HasMoved n first left = IfSome first (λ all. Moved n all left)

pub moved_more : (n m : ℕ) (first left next : Option (List ℕ)) → HasMoved n first left → IfSome left (λ known. Moved m known next × (m ≡ 0 → known ≡ [])) → HasMoved (n + m) first next
moved_more n m None left next so_far more = tt
moved_more n m (Some all) left next so_far more =
    let P : Option (List ℕ) → Type 0 = λ o. IfSome o (λ known. Moved m known next × (m ≡ 0 → known ≡ [])) in
    let step : Moved m (drop n all) next × (m ≡ 0 → drop n all ≡ []) = subst P so_far.1 more in
    let long : length (drop n all) ≡ length all - n = length-drop n all in
    (omega (arith, so_far.0, step.0.0, long), step.0.1 ∙ ap Some (drop-drop m n all))

both_parts : (n m : ℕ) (first left : Option (List ℕ)) (p q : List ℕ) → HasMoved n first left → IfSome first (λ known. p ≡ take n known) → IfSome left (λ known. q ≡ take m known) → IfSome first (λ known. p ++ q ≡ take (n + m) known)
both_parts n m None left p q moved a b = tt
both_parts n m (Some all) left p q moved a b =
    let there : q ≡ take m (drop n all) = subst (λ o. IfSome o (λ known. q ≡ take m known)) moved.1 b in
    ap (λ l. l ++ q) a ∙ ap (λ l. take n all ++ l) there ∙ sym (take-add n m all)

pub takes_more : (old middle new : List ℕ → Type 0) (n m : ℕ) (first left : Option (List ℕ)) → HasMoved n first left → TakesMore old middle n first → TakesMore middle new m left → TakesMore old new (n + m) first
takes_more old middle new n m first left moved one two bytes had =
    let a = one bytes had in
    let b = two (bytes ++ a.0) a.2 in
    (a.0 ++ b.0, length-append a.0 b.0 ∙ ap (λ k. k + length b.0) a.1 ∙ ap (λ k. n + k) b.1, subst new (append_assoc bytes a.0 b.0) b.2, both_parts n m first left a.0 b.0 moved a.3 b.3)

-- at the end all is taken
whole_of : (n m : ℕ) (first left next : Option (List ℕ)) (p : List ℕ) → m ≡ 0 → HasMoved n first left → IfSome left (λ known. Moved m known next × (m ≡ 0 → known ≡ [])) → IfSome first (λ known. p ≡ take (n + m) known) → IfSome first (λ known. p ≡ known)
whole_of n m None left next p zero moved last a = tt
whole_of n m (Some all) left next p zero moved last a =
    let P : Option (List ℕ) → Type 0 = λ o. IfSome o (λ known. Moved m known next × (m ≡ 0 → known ≡ [])) in
    let none : drop n all ≡ [] = (subst P moved.1 last).1 zero in
    let long : length (drop n all) ≡ length all - n = length-drop n all in
    let gone : length (drop n all) ≡ 0 = ap length none in
    a ∙ take_all (n + m) all (omega (arith, long, gone))

pub takes_all : (old new : List ℕ → Type 0) (n m : ℕ) (first left next : Option (List ℕ)) → n ≤ MAX_FILE_BYTES → m ≡ 0 → HasMoved n first left → IfSome left (λ known. Moved m known next × (m ≡ 0 → known ≡ [])) → TakesMore old new (n + m) first → TakesAll old new first
takes_all old new n m first left next few zero moved last taken bytes had =
    let a = taken bytes had in
    (a.0, omega (arith, a.1, few, zero), a.2, whole_of n m first left next a.0 zero moved last a.3)

-- the content of an opened file is left
pub of_content : (P : List ℕ → Type 0) (content left : Option (List ℕ)) → IfSome content (λ bytes. left ≡ Some bytes) → IfSome left P → IfSome content P
of_content P None left opened is = tt
of_content P (Some bytes) left opened is = subst (λ o. IfSome o P) opened is

pub takes_content : {X E : Type 0} (r : Result X E) (old new : List ℕ → Type 0) (content left : Option (List ℕ)) → IfSome content (λ bytes. left ≡ Some bytes) → OnOk r (TakesAll old new left) → OnOk r (TakesAll old new content)
takes_content (Err e) old new content left opened taken = tt
takes_content (Ok x) old new content left opened taken = λ bytes had.
    let a = taken bytes had in
    (a.0, a.1, a.2, of_content (λ known. a.0 ≡ known) content left opened a.3)

-- more bytes than the maximum were read
pub too_many : (n : ℕ) (first left : Option (List ℕ)) → n ≡ MAX_FILE_BYTES + 1 → HasMoved n first left → IfSome first (λ known. MAX_FILE_BYTES < length known)
too_many n None left is moved = tt
too_many n (Some all) left is moved = omega (arith, is, moved.0)

pub left_after : (n : ℕ) (first left : Option (List ℕ)) → n ≡ MAX_FILE_BYTES + 1 → HasMoved n first left → IfSome first (λ known. left ≡ Some (drop (MAX_FILE_BYTES + 1) known))
left_after n None left is moved = tt
left_after n (Some all) left is moved = moved.1 ∙ ap (λ k. Some (drop k all)) is
