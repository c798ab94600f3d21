-- Reading and writing, piece by piece.
use Rattle.std.proofs.Common.{◌≡◌, sym, ◌∙◌, ap, subst, ℕ, ◌+◌, ◌<◌, ◌≤◌, List, ◌++◌, take, drop, length, append_assoc, length-append, get_or, suc, arith}
use Rattle.std.specs.Prelude.{Option, None, Some, IfSome, Result, Ok, Err, OnErr}
use Rattle.std.proofs.lemmas.List.{take-take, take-append-le, take-append-drop}
use Rattle.std.proofs.lemmas.Grind.{flat_map-append}
use Rattle.std.specs.List.{flat_map}
use Rattle.outside.specs.Outside.{AppendsText, AppendsPrefix}
use Rattle.std.proofs.Math.Seq.{take-add, take-append-add, drop-cons}

-- the bytes left, if known, are unchanged
abbrev pub Stays : Option (List ℕ) → Option (List ℕ) → Type 0
Stays first now = IfSome first (λ bytes. now ≡ Some bytes)

-- the bytes written so far are extended by n bytes of a piece
pub writes_more : (first now next : Option (List ℕ)) (text : List ℕ) (at n room : ℕ) → n ≤ room
    → AppendsText first now (take at text) → AppendsText now next (take n (take room (drop at text))) → AppendsText first next (take (at + n) text)
writes_more None now next text at n room few so_far added = tt
writes_more (Some before) now next text at n room few so_far added =
    let P : Option (List ℕ) → Type 0 = λ o. AppendsText o next (take n (take room (drop at text))) in
    let now_is : next ≡ Some ((before ++ take at text) ++ take n (take room (drop at text))) = subst P so_far added in
    let piece : take n (take room (drop at text)) ≡ take n (drop at text) = take-take n room (drop at text) few in
    now_is ∙ ap Some (append_assoc before (take at text) (take n (take room (drop at text))) ∙ ap (λ x. before ++ (take at text ++ x)) piece ∙ ap (λ x. before ++ x) (sym (take-add at n text)))

-- the text before a part, the part, and the text after it
pub flat_map-parts : {X A : Type 0} (f : X → List A) (xs : List X) (i : ℕ) (d : X) → i < length xs → flat_map f xs ≡ flat_map f (take i xs) ++ (f (get_or xs i d) ++ flat_map f (drop (suc i) xs))
flat_map-parts f xs i d there =
    ap (λ ys. flat_map f ys) (sym (take-append-drop i xs)) ∙ flat_map-append f (take i xs) (drop i xs) ∙ ap (λ ys. flat_map f (take i xs) ++ flat_map f ys) (drop-cons xs i d there)

-- a prefix of the next text after the text before it
pub prefix_more : (first now next : Option (List ℕ)) (xs ys zs : List ℕ) → AppendsText first now xs → AppendsPrefix now next ys → AppendsPrefix first next (xs ++ (ys ++ zs))
prefix_more None now next xs ys zs so_far added = tt
prefix_more (Some before) now next xs ys zs so_far added =
    let P : Option (List ℕ) → Type 0 = λ o. AppendsPrefix o next ys in
    let prefix : AppendsPrefix (Some (before ++ xs)) next ys = subst P so_far added in
    let n : ℕ = prefix.0 in
    let fewer : length xs + n < length (xs ++ (ys ++ zs)) = rw (length-append xs (ys ++ zs), length-append ys zs) (omega (arith, prefix.1)) in
    let few : n ≤ length ys = omega (arith, prefix.1) in
    let piece : take (length xs + n) (xs ++ (ys ++ zs)) ≡ xs ++ take n ys = take-append-add xs (ys ++ zs) n ∙ ap (λ x. xs ++ x) (take-append-le n ys zs few) in
    (length xs + n, fewer, prefix.2 ∙ ap Some (append_assoc before xs (take n ys) ∙ ap (λ x. before ++ x) (sym piece)))

-- the same, for the text of a list of parts
pub prefix_of_parts : {X : Type 0} (f : X → List ℕ) (xs : List X) (i : ℕ) (d : X) (first now next : Option (List ℕ)) → i < length xs
    → AppendsText first now (flat_map f (take i xs)) → AppendsPrefix now next (f (get_or xs i d)) → AppendsPrefix first next (flat_map f xs)
prefix_of_parts f xs i d first now next there so_far added =
    let P : List ℕ → Type 0 = λ text. AppendsPrefix first next text in
    subst P (sym (flat_map-parts f xs i d there)) (prefix_more first now next _ _ _ so_far added)

pub on_err : {T E : Type 0} (r : Result T E) (P : Type 0) → P → OnErr r P
on_err (Ok x) P p = tt
on_err (Err e) P p = p
