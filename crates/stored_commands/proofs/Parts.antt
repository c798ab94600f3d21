-- Lists in two parts.
use Rattle.std.proofs.Common.{◌≡◌, ◌∙◌, ◌<◌, ◌≤◌, ◌-◌, ◌++◌, ◌∷◌, [], ℕ, List, Some, None, refl, sym, ap, length, get_or, slice_get, append-nil, append_assoc}
use Rattle.std.proofs.lemmas.List.{get_or_append_left}
use Rattle.std.proofs.lemmas.Option.{slice_get_past, slice_get-get_or}
use Rattle.std.proofs.Math.Seq.{get_or-append_right}

pub in_first : {A : Type 0} (xs ys : List A) (k : ℕ) (d : A) → k < length xs → get_or (xs ++ ys) k d ≡ get_or xs k d
in_first xs ys k d within = get_or_append_left xs ys d k within

pub in_second : {A : Type 0} (xs ys : List A) (k : ℕ) (d : A) → length xs ≤ k → get_or (xs ++ ys) k d ≡ get_or ys (k - length xs) d
in_second xs ys k d past = get_or-append_right xs ys k d past

pub is_within : {A : Type 0} (xs : List A) (k : ℕ) (d : A) → k < length xs → slice_get xs k ≡ Some (get_or xs k d)
is_within xs k d within = slice_get-get_or xs k d within

pub is_past : {A : Type 0} (xs : List A) (k : ℕ) → length xs ≤ k → slice_get xs k ≡ None
is_past xs k past = slice_get_past xs k past

nothing : {A : Type 0} (xs : List A) → length xs ≡ 0 → xs ≡ []
nothing [] none = refl
nothing (x ∷ xs) none = cc

pub added_second : {A : Type 0} (xs ys : List A) (x : A) → xs ++ (ys ++ x ∷ []) ≡ xs ++ ys ++ x ∷ []
added_second xs ys x = sym (append_assoc xs ys (x ∷ []))
