-- Names and their codes.
use Rattle.std.proofs.Common.{◌≡◌, ◌≢◌, ℕ, ◌+◌, ◌*◌, ◌/◌, ◌%◌, ◌<◌, false, inl, inr, List, length, slice_index_or, ap, ◌∙◌, arith}
use Rattle.std.specs.Ordering.{nat_cmp, ordering_then, is_lt}
use Rattle.std.specs.declared.cmp.Ordering.{Ordering}
use Rattle.std.specs.Cmp.{IsTotalOrder}
use Rattle.std.specs.List.Sorted.{IsSortedByKey}
use Rattle.std.proofs.lemmas.Bool.{cases_eq, cases_lt}
use Rattle.std.proofs.lemmas.Cmp.{nat_cmp_total, on_total, then_total}
use Rattle.std.proofs.lemmas.List.Sorted.{ranks_by, sorted_far}
use Rattle.ideal_heap.specs.declared.name.Name.{Name}
use Rattle.ideal_heap.specs.Names.{IsName, IsBefore, name, name_code, name_of}

pub name-code : (n : Name) → IsName n → name_of (name_code n) ≡ n
name-code n h =
    let low : (32 * n.birth + n.mutator) % 32 ≡ n.mutator = omega arith in
    let high : (32 * n.birth + n.mutator) / 32 ≡ n.birth = omega arith in
    ap (λ m. name m ((32 * n.birth + n.mutator) / 32)) low ∙ ap (λ k. name n.mutator k) high

-- the comparison of names is a total order
abbrev pub compare : Name → Name → Ordering
compare m n = ordering_then (nat_cmp m.mutator n.mutator) (nat_cmp m.birth n.birth)

compare-total : IsTotalOrder compare
compare-total = then_total (on_total (λ n. n.mutator) nat_cmp_total) (on_total (λ n. n.birth) nat_cmp_total)

-- of two different names one is before the other
ordered : (m n : Name) → m ≢ n → is_lt (compare n m) ≡ false → IsBefore m n
ordered m n differ not_less = elim (cases_lt m.mutator n.mutator) as (λ _. IsBefore m n) [
  | inl lower ↦ inl lower
  | inr upper ↦ elim (cases_eq m.mutator n.mutator) as (λ _. IsBefore m n) [
    | inl same ↦ elim (cases_lt m.birth n.birth) as (λ _. IsBefore m n) [
      | inl earlier ↦ inr (same, earlier)
      | inr later ↦ elim (cases_eq m.birth n.birth) as (λ _. IsBefore m n) [
        | inl equal ↦ absurd (differ (ap (λ k. name k m.birth) same ∙ ap (λ k. name n.mutator k) equal))
        | inr apart ↦ grind arith
      ]
    ]
    | inr apart ↦ grind arith
  ]
]

-- in a list sorted by names, different names ascend
pub rise : {X : Type 0} (key : X → Name) (xs : List X) → IsSortedByKey key compare xs → (i j : ℕ) (d : X) → i < j → j < length xs → key (slice_index_or xs i d) ≢ key (slice_index_or xs j d)
    → IsBefore (key (slice_index_or xs i d)) (key (slice_index_or xs j d))
rise key xs sorted i j d less inside differ =
    ordered _ _ differ (sorted_far (λ x y. is_lt (compare (key x) (key y))) (ranks_by compare-total key) xs sorted i j d (omega arith) inside)
