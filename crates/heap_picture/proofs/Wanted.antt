-- The births that `ref` replies want, and those that there are.
use Rattle.std.proofs.Common.{◌≡◌, refl, sym, ◌∙◌, subst, ℕ, ◌<◌, ◌≤◌, arith, inl, inr, Bool, true, false, nat_le, nat_lt, List, length}
use Rattle.std.specs.Prelude.{Option, None, Some, if◌then◌else◌, slice_index_or, slice_set}
use Rattle.std.proofs.lemmas.Bool.{cases_Bool, cases_eq, cases_lt, le-leb, leb-true, lt-ltb, ltb-true, true≢false}
use Rattle.std.proofs.lemmas.List.{get_or-set_same, get_or-set_other, get_or_past, length-set}
use Rattle.object_model.proofs.LawfulTests.{in-range}
use Rattle.heap_picture.specs.declared.forms.Pair.{Pair}
use Rattle.heap_picture.specs.Reading.{are_met, wanted_with}
use Rattle.heap_picture.proofs.Taken.{range_passes}

-- each mutator has the births that are wanted of it
abbrev pub Meets : List ℕ → List ℕ → Type 0
Meets ws births = (m : ℕ) → slice_index_or ws m 0 ≤ slice_index_or births m 0

abbrev with_name : Bool → List ℕ → Pair → List ℕ
with_name b ws n = if b then slice_set ws n.first n.second else ws

-- one more name
wider : (b : Bool) (ws births : List ℕ) (n : Pair) → nat_lt (slice_index_or ws n.first 0) n.second ≡ b → n.first < length ws → Meets (with_name b ws n) births → (n.second ≤ slice_index_or births n.first 0) × Meets ws births
wider true ws births n more low meets =
    let set : slice_index_or (slice_set ws n.first n.second) n.first 0 ≡ n.second = get_or-set_same ws n.first n.second 0 low in
    let less : slice_index_or ws n.first 0 < n.second = ltb-true (slice_index_or ws n.first 0) n.second more in
    let most : slice_index_or (slice_set ws n.first n.second) n.first 0 ≤ slice_index_or births n.first 0 = meets n.first in
    let own : n.second ≤ slice_index_or births n.first 0 = omega (arith, set, most) in (
      own,
      λ m. elim (cases_eq m n.first) as (λ _. slice_index_or ws m 0 ≤ slice_index_or births m 0) [
        | inl is ↦ subst (λ (j : ℕ). slice_index_or ws j 0 ≤ slice_index_or births j 0) (sym is) (omega (arith, less, own))
        | inr differ ↦ (
            let kept : slice_index_or (slice_set ws n.first n.second) m 0 ≡ slice_index_or ws m 0 = get_or-set_other ws n.first m n.second 0 differ in
            let now : slice_index_or (slice_set ws n.first n.second) m 0 ≤ slice_index_or births m 0 = meets m in
            omega (arith, kept, now))
      ],
    )
wider false ws births n more low meets =
    let least : n.second ≤ slice_index_or ws n.first 0 = elim (cases_lt (slice_index_or ws n.first 0) n.second) as (λ _. n.second ≤ slice_index_or ws n.first 0) [
      | inl less ↦ absurd (true≢false (sym (lt-ltb (slice_index_or ws n.first 0) n.second less) ∙ more))
      | inr not ↦ not
    ] in
    let now : slice_index_or ws n.first 0 ≤ slice_index_or births n.first 0 = meets n.first in
    (omega (arith, least, now), meets)

pub name-met : (ws births : List ℕ) (n : Pair) → n.first < length ws → Meets (wanted_with ws (Some n)) births → (n.second ≤ slice_index_or births n.first 0) × Meets ws births
name-met ws births n low meets = wider (nat_lt (slice_index_or ws n.first 0) n.second) ws births n refl low meets

long-by : (b : Bool) (ws : List ℕ) (n : Pair) → length (with_name b ws n) ≡ length ws
long-by true ws n = length-set ws n.first n.second
long-by false ws n = refl

pub as-long : (ws : List ℕ) (o : Option Pair) → length (wanted_with ws o) ≡ length ws
as-long ws None = refl
as-long ws (Some n) = long-by (nat_lt (slice_index_or ws n.first 0) n.second) ws n

-- and the converse
wider-by : (b : Bool) (ws births : List ℕ) (n : Pair) → n.first < length ws → n.second ≤ slice_index_or births n.first 0 → Meets ws births → Meets (with_name b ws n) births
wider-by true ws births n low most meets m = elim (cases_eq m n.first) as (λ _. slice_index_or (slice_set ws n.first n.second) m 0 ≤ slice_index_or births m 0) [
  | inl is ↦ subst (λ (j : ℕ). slice_index_or (slice_set ws n.first n.second) j 0 ≤ slice_index_or births j 0) (sym is)
      (let set : slice_index_or (slice_set ws n.first n.second) n.first 0 ≡ n.second = get_or-set_same ws n.first n.second 0 low in omega (arith, set, most))
  | inr differ ↦ (
      let kept : slice_index_or (slice_set ws n.first n.second) m 0 ≡ slice_index_or ws m 0 = get_or-set_other ws n.first m n.second 0 differ in
      let was : slice_index_or ws m 0 ≤ slice_index_or births m 0 = meets m in
      omega (arith, kept, was))
]
wider-by false ws births n low most meets m = meets m

pub met-with : (ws births : List ℕ) (n : Pair) → n.first < length ws → n.second ≤ slice_index_or births n.first 0 → Meets ws births → Meets (wanted_with ws (Some n)) births
met-with ws births n low most meets = wider-by (nat_lt (slice_index_or ws n.first 0) n.second) ws births n low most meets

-- the test of all mutators
pub met-all : (ws births : List ℕ) → length ws ≡ 17 → are_met ws births ≡ true → Meets ws births
unfolding are_met
met-all ws births long e m = elim (cases_lt m 17) as (λ _. slice_index_or ws m 0 ≤ slice_index_or births m 0) [
  | inl low ↦ leb-true (slice_index_or ws m 0) (slice_index_or births m 0) (in-range (λ (j : ℕ). nat_le (slice_index_or ws j 0) (slice_index_or births j 0)) 0 17 e m (omega arith) (omega (arith, low)))
  | inr past ↦ (let none : slice_index_or ws m 0 ≡ 0 = get_or_past ws m 0 (omega (arith, long, past)) in omega (arith, none))
]

pub all-met : (ws births : List ℕ) → ((m : ℕ) → m < 17 → slice_index_or ws m 0 ≤ slice_index_or births m 0) → are_met ws births ≡ true
unfolding are_met
all-met ws births meets = range_passes (λ (j : ℕ). nat_le (slice_index_or ws j 0) (slice_index_or births j 0)) 17 0
    (λ m from low. le-leb (slice_index_or ws m 0) (slice_index_or births m 0) (meets m (omega (arith, low))))

-- the answer of a search through them
pub met-by : (b : Bool) (ws births : List ℕ) → (b ≡ true → (m : ℕ) → m < 17 → slice_index_or ws m 0 ≤ slice_index_or births m 0)
    → (b ≡ false → (m : ℕ) × (m < 17) × (slice_index_or births m 0 < slice_index_or ws m 0)) → b ≡ are_met ws births
unfolding are_met
met-by true ws births met unmet = sym (all-met ws births (met refl))
met-by false ws births met unmet = elim (cases_Bool (are_met ws births)) as (λ _. false ≡ are_met ws births) [
  | inl all ↦ (
      let found = unmet refl in
      let low = found.1 in
      let less = found.2 in
      let most : slice_index_or ws found.0 0 ≤ slice_index_or births found.0 0 = leb-true (slice_index_or ws found.0 0) (slice_index_or births found.0 0)
      (in-range (λ (j : ℕ). nat_le (slice_index_or ws j 0) (slice_index_or births j 0)) 0 17 all found.0 (omega arith) (omega (arith, low))) in
      absurd (omega (arith, less, most)))
  | inr not ↦ sym not
]
