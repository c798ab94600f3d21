-- The blocks of small and medium objects, counted place by place and block by block.
use Rattle.std.proofs.Common.{◌≡◌, refl, sym, ◌∙◌, ap, ℕ, ◌+◌, ◌*◌, ◌<◌, ◌≤◌, arith, inl, inr, Bool, true, false, ◌||◌, nat_le, nat_lt, List, [], ◌∷◌, ◌++◌, append_assoc, append-nil}
use Rattle.std.specs.Prelude.{if◌then◌else◌}
use Rattle.std.specs.List.{AllByRecursion}
use Rattle.std.proofs.lemmas.Bool.{cases_Bool, cases_eq, and_from, and_parts, le-leb, leb-true, lt-ltb, ltb-true}
use Rattle.std.proofs.lemmas.List.Folds.{list_any-append}
use Rattle.object_model.specs.Times.{one_if}
use Rattle.object_model.proofs.HeldCounts.{below, below-none}
use Rattle.heap_picture.specs.declared.forms.Place.{Place}
use Rattle.heap_picture.specs.Marks.{has_block, is_used}
use Rattle.session_counts.specs.Sizes.{shared_blocks}
use Rattle.heap_picture.specs.Reading.{new_blocks}
use Rattle.heap_picture.specs.Texts.{IsPlaceIn, small_blocks}
use Rattle.heap_picture.proofs.Lies.{ends_within}
use Rattle.heap_picture.proofs.Mapped.{added_to}
use Rattle.session_counts.proofs.Weights.{below-same, below-sum, one-weight, weight, weight-off, weight-on}

-- how often block k is used
abbrev uses : List Place → ℕ → ℕ
uses ps k = one_if (is_used ps k)

shared-most : (size : ℕ) → shared_blocks size ≤ 1
shared-most size = elim (nat_le size 2048) as (λ b. (if b then 1 else 0) ≤ 1) [ true ↦ omega arith | false ↦ omega arith ]

-- the place has its block, if it has one
own-block : (p : Place) (b : Bool) → nat_le p.size 2048 ≡ b → has_block p.block p ≡ b
own-block p true is = and_from _ _ (le-leb p.block p.block (omega arith)) (lt-ltb p.block (p.block + shared_blocks p.size) (let one : shared_blocks p.size ≡ 1 = ap (λ t. if t then 1 else 0) is in omega (arith, one)))
own-block p false is = elim (cases_Bool (has_block p.block p)) as (λ _. has_block p.block p ≡ false) [
  | inl has ↦ absurd (let both = and_parts (nat_le p.block p.block) (nat_lt p.block (p.block + shared_blocks p.size)) has in
      let none : shared_blocks p.size ≡ 0 = ap (λ t. if t then 1 else 0) is in
      let low : p.block < p.block + shared_blocks p.size = ltb-true p.block (p.block + shared_blocks p.size) both.1 in
      omega (arith, none, low))
  | inr off ↦ off
]

other-block : (p : Place) (k : ℕ) → (k ≡ p.block → ⊥) → has_block k p ≡ false
other-block p k differ = elim (cases_Bool (has_block k p)) as (λ _. has_block k p ≡ false) [
  | inl has ↦ absurd (let both = and_parts (nat_le p.block k) (nat_lt k (p.block + shared_blocks p.size)) has in
      let from : p.block ≤ k = leb-true p.block k both.0 in
      let low : k < p.block + shared_blocks p.size = ltb-true k (p.block + shared_blocks p.size) both.1 in
      let most : shared_blocks p.size ≤ 1 = shared-most p.size in
      differ (omega (arith, from, low, most)))
  | inr off ↦ off
]

or-false : (a : Bool) → (a || (false || false)) ≡ a
or-false true = refl
or-false false = refl

-- one more place, at its block
here-by : (u b : Bool) → one_if (u || (b || false)) ≡ one_if u + (if u then 0 else one_if b)
here-by true b = refl
here-by false true = refl
here-by false false = refl

new-here : (ps : List Place) (p : Place) → new_blocks ps p ≡ (if is_used ps p.block then 0 else one_if (has_block p.block p))
new-here ps p = ap (λ (n : ℕ). if is_used ps p.block then 0 else n) (let same : has_block p.block p ≡ nat_le p.size 2048 = own-block p (nat_le p.size 2048) refl in ap one_if (sym same))

used-with : (ps : List Place) (p : Place) (k : ℕ) → uses (ps ++ p ∷ []) k ≡ uses ps k + weight (λ _. new_blocks ps p) p.block k
used-with ps p k =
    let all : is_used (ps ++ p ∷ []) k ≡ (is_used ps k || (has_block k p || false)) = list_any-append (has_block k) ps (p ∷ []) in
    elim (cases_eq k p.block) as (λ _. uses (ps ++ p ∷ []) k ≡ uses ps k + weight (λ _. new_blocks ps p) p.block k) [
      | inl same ↦ (
          let sum : uses (ps ++ p ∷ []) k ≡ uses ps k + (if is_used ps k then 0 else one_if (has_block k p)) = ap one_if all ∙ here-by (is_used ps k) (has_block k p) in
          let new : (if is_used ps k then 0 else one_if (has_block k p)) ≡ new_blocks ps p = ap (λ (j : ℕ). if is_used ps j then 0 else one_if (has_block j p)) same ∙ sym (new-here ps p) in
          let on : weight (λ _. new_blocks ps p) p.block k ≡ new_blocks ps p = weight-on (λ _. new_blocks ps p) p.block k same in
          omega (arith, sum, new, on))
      | inr differ ↦ (
          let same : uses (ps ++ p ∷ []) k ≡ uses ps k = ap one_if (all ∙ ap (λ b. is_used ps k || (b || false)) (other-block p k differ) ∙ or-false (is_used ps k)) in
          let off : weight (λ _. new_blocks ps p) p.block k ≡ 0 = weight-off (λ _. new_blocks ps p) p.block k differ in
          omega (arith, same, off))
    ]

one-more : (b : ℕ) (ps : List Place) (p : Place) → p.block < b → below (uses (ps ++ p ∷ [])) b ≡ below (uses ps) b + new_blocks ps p
one-more b ps p low =
    let w : ℕ → ℕ = λ _. new_blocks ps p in
    let each : below (uses (ps ++ p ∷ [])) b ≡ below (λ k. uses ps k + weight (λ _. new_blocks ps p) p.block k) b = below-same (uses (ps ++ p ∷ [])) (λ k. uses ps k + weight (λ _. new_blocks ps p) p.block k) b (used-with ps p) in
    let sum : below (λ k. uses ps k + weight (λ _. new_blocks ps p) p.block k) b ≡ below (uses ps) b + below (weight (λ _. new_blocks ps p) p.block) b = below-sum (uses ps) (weight (λ _. new_blocks ps p) p.block) b in
    let one : below (weight (λ _. new_blocks ps p) p.block) b ≡ new_blocks ps p = one-weight (λ _. new_blocks ps p) p.block b low in
    omega (arith, each, sum, one)

all-more : (k b : ℕ) (ps more : List Place) → AllByRecursion (IsPlaceIn k b) more → below (uses (ps ++ more)) b ≡ below (uses ps) b + added_to ps more
all-more k b ps [] each = ap (λ qs. below (uses qs) b) (append-nil ps) ∙ (let same : below (uses ps) b ≡ below (uses ps) b + 0 = omega arith in same)
all-more k b ps (p ∷ more) each =
    let some : 3 ≤ p.size = each.0.header in
    let end : 4096 * p.block + p.word + p.size ≤ 4096 * b = ends_within b p each.0.header each.0.short each.0.lies in
    let within : p.block < b = omega (arith, some, end) in
    let joined : below (uses (ps ++ p ∷ more)) b ≡ below (uses ((ps ++ p ∷ []) ++ more)) b = ap (λ qs. below (uses qs) b) (sym (append_assoc ps (p ∷ []) more)) in
    let rest : below (uses ((ps ++ p ∷ []) ++ more)) b ≡ below (uses (ps ++ p ∷ [])) b + added_to (ps ++ p ∷ []) more = all-more k b (ps ++ p ∷ []) more each.1 in
    let here : below (uses (ps ++ p ∷ [])) b ≡ below (uses ps) b + new_blocks ps p = one-more b ps p within in
    omega (arith, joined, rest, here)

pub small_are : (k b : ℕ) (ps : List Place) → AllByRecursion (IsPlaceIn k b) ps → small_blocks b ps ≡ added_to [] ps
small_are k b ps each =
    let all : below (uses ps) b ≡ below (uses []) b + added_to [] ps = all-more k b [] ps each in
    let none : below (uses []) b ≡ 0 = below-none (uses []) b (λ j less. refl) in
    let same : small_blocks b ps ≡ below (uses ps) b = refl in
    omega (arith, all, none, same)
