-- When a mutator may allocate.
use Rattle.std.proofs.Common.{◌≡◌, ◌↔◌, sym, ◌∙◌, ℕ, ◌+◌, ◌<◌, inl, inr, arith, false, IsTrue, ltb}
use Rattle.std.proofs.lemmas.Bool.{cases_lt, false≢true, lt-ltb, le-ltb}
use Rattle.managed_value.specs.declared.managed.ManagedHeap.{ManagedHeap}
use Rattle.managed_value.specs.Histories.{heap_births_at, collections_made}
use Rattle.managed_value.specs.Allocations.{HeapMayAllocate}

-- there were too many collections
pub not-twice : {P : Type 0} (h : ManagedHeap P) (m : ℕ) → (collections_made h + 2 < 1099511627776 → ⊥) → IsTrue false ↔ HeapMayAllocate h m
not-twice h m many = ((λ wrong. absurd (false≢true wrong)), (λ may. absurd (many may.collections)))

-- there were few, so that its births tell
pub by-births : {P : Type 0} (h : ManagedHeap P) (m births : ℕ) → births ≡ heap_births_at h m → collections_made h + 2 < 1099511627776 → IsTrue (ltb births 4294967295) ↔ HeapMayAllocate h m
by-births h m births same few = elim (cases_lt births 4294967295) as (λ _. IsTrue (ltb births 4294967295) ↔ HeapMayAllocate h m) [
  | inl below ↦ ((λ yes. record { births = omega arith; collections = few }), (λ may. lt-ltb births 4294967295 below))
  | inr past ↦ (
    (λ yes. absurd (false≢true (sym (le-ltb births 4294967295 past) ∙ yes))),
    (λ may. absurd (let most : heap_births_at h m + 1 < 4294967296 = may.births in omega arith)),
  )
]
