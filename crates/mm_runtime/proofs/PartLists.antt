-- Parts of an epoch, with their seats and traces.
use Rattle.std.proofs.Common.{◌≡◌, refl, sym, ◌∙◌, ap, subst, ℕ, zero, suc, ◌+◌, ◌<◌, arith, List, [], ◌∷◌, ◌++◌, map, take, drop, length, append_assoc}
use Rattle.std.specs.Prelude.{Option, Some, None, All, slice_get, slice_index_or, unwrap_or}
use Rattle.std.proofs.lemmas.List.{length-map}
use Rattle.std.proofs.lemmas.List.Elements.{All-from_get_or}
use Rattle.std.proofs.lemmas.Option.{slice_get_within, slice_get-get_or, get_or_from_slice_get}
use mathlib.Core.Option.{some, some-injective, some-ne-none}
use lib.ListN.{get_or}
use Rattle.mutator_rule.specs.declared.seat.MutatorSeat.{MutatorSeat}
use Rattle.racing_world.specs.Closing.{IsSeatAt}
use Rattle.block_regions.proofs.Lists.{get-map, one-element}
use Rattle.mm_runtime.specs.declared.progress.PartEnd.{PartEnd}
use Rattle.mm_runtime.specs.declared.progress.PartEnd.TheVariants as end
use Rattle.mm_runtime.specs.declared.seat_part.Part.{Part}
use Rattle.mm_runtime.specs.OpenEpochs.{end_of, seat_of}

-- what holds of all holds of the one at a place, and the other way round
pub all-get : {A : Type 0} (Q : A → Type 0) (xs : List A) (k : ℕ) (x : A) → All Q xs → slice_get xs k ≡ Some x → Q x
all-get Q xs k x all is = subst Q (get_or_from_slice_get xs k x x is) (all k x (slice_get_within xs k x is))

pub all-from : {A : Type 0} (Q : A → Type 0) (xs : List A) → ((k : ℕ) (x : A) → slice_get xs k ≡ Some x → Q x) → All Q xs
all-from Q [] each = λ k d less. absurd (omega (arith, less))
all-from Q (x ∷ xs) each = All-from_get_or Q (x ∷ xs) x (λ i less. each i (get_or (x ∷ xs) i x) (slice_get-get_or (x ∷ xs) i x less))

-- the element of which the mapped one is there
pub map-get : {A B : Type 0} (f : A → B) (xs : List A) (k : ℕ) (y : B) → slice_get (map f xs) k ≡ Some y → (x : A) × (slice_get xs k ≡ Some x) × (f x ≡ y)
map-get f [] k y is = absurd (let wrong : None ≡ Some y = is in cc)
map-get f (x ∷ xs) zero y is = (x, refl, one-element (Some (f x)) (f x) y refl is)
map-get f (x ∷ xs) (suc k) y is = map-get f xs k y is

-- the seats of parts by their places
pub seat-at : (ps : List Part) (k : ℕ) (p : Part) → slice_get ps k ≡ Some p → IsSeatAt (map seat_of ps) k p.seat
seat-at [] k p is = absurd (let wrong : None ≡ Some p = is in cc)
seat-at (q ∷ ps) zero p is = ap (λ (x : Part). some x.seat) (one-element (Some q) q p refl is)
seat-at (q ∷ ps) (suc k) p is = seat-at ps k p is

pub part-at : (ps : List Part) (k : ℕ) (seat : MutatorSeat) → IsSeatAt (map seat_of ps) k seat → (p : Part) × (slice_get ps k ≡ Some p) × (p.seat ≡ seat)
part-at [] k seat is = absurd (some-ne-none seat (sym is))
part-at (q ∷ ps) zero seat is = (q, refl, some-injective q.seat seat is)
part-at (q ∷ ps) (suc k) seat is = part-at ps k seat is

-- the end of a part that has ended
has-end : (p : Part) (o : Option PartEnd) → p.end ≡ o → (p.end ≡ None → ⊥) → p.end ≡ Some (end_of p)
has-end p None is has = absurd (has is)
has-end p (Some e) is has = is ∙ ap Some (ap (λ (o : Option PartEnd). unwrap_or o end.Trace) (sym is))

pub end-at : (ps : List Part) (ends : List PartEnd) → ends ≡ map end_of ps → All (λ (p : Part). p.end ≡ None → ⊥) ps → (k : ℕ) (p : Part) (e : PartEnd) → slice_get ps k ≡ Some p → slice_get ends k ≡ Some e
    → p.end ≡ Some e
end-at ps ends same ended k p e is at =
    has-end p p.end refl (all-get (λ (q : Part). q.end ≡ None → ⊥) ps k p ended is)
    ∙ sym (get-map end_of ps k p is) ∙ ap (λ (es : List PartEnd). slice_get es k) (sym same) ∙ at

pub as-many-ends : (ps : List Part) (ends : List PartEnd) → ends ≡ map end_of ps → length ends ≡ length ps
as-many-ends ps ends same = ap length same ∙ length-map ps end_of

-- the first of the rest goes to the end of the others
pub first-moved : {A : Type 0} (xs rest after all : List A) (x : A) → xs ++ rest ≡ all → 0 < length rest → x ≡ slice_index_or rest 0 x → after ≡ take 0 rest ++ drop 1 rest
    → (xs ++ x ∷ []) ++ after ≡ all
first-moved xs [] after all x same more is left = absurd (omega (arith, more))
first-moved xs (y ∷ ys) after all x same more is left =
    let first : x ≡ y = is in
    ap (λ l. (xs ++ x ∷ []) ++ l) left ∙ append_assoc xs (x ∷ []) ys ∙ ap (λ z. xs ++ z ∷ ys) first ∙ same

-- a list that was lent as a slice and written back
pub written-back : {A : Type 0} (new old : List A) (n : ℕ) → length new ≡ length old → n ≡ length old → take n (new ++ drop (length new) old) ≡ new
written-back new old n same count = ap (λ k. take k (new ++ drop (length new) old)) count ∙ all new old same
  where
    all : {A : Type 0} (xs ys : List A) → length xs ≡ length ys → take (length ys) (xs ++ drop (length xs) ys) ≡ xs
    all [] [] same = refl
    all [] (y ∷ ys) same = absurd (let e : 0 ≡ suc (length ys) = same in omega arith)
    all (x ∷ xs) [] same = absurd (let e : suc (length xs) ≡ 0 = same in omega arith)
    all {A} (x ∷ xs) (y ∷ ys) same =
        let rest : length xs ≡ length ys = (let e : suc (length xs) ≡ suc (length ys) = same in omega arith) in
        ap (λ (l : List A). x ∷ l) (all xs ys rest)
