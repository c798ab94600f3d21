-- The counts of blocks after Free blocks were taken.
use Rattle.std.proofs.Common.{◌≡◌, ◌≢◌, refl, sym, ◌∙◌, ap, subst, ℕ, zero, suc, ◌+◌, ◌-◌, ◌%◌, ◌<◌, ◌≤◌, inl, inr, arith, Bool, true, false, IsTrue, ◌&&◌, ◌||◌, nat_eq, nat_lt, add-one}
use Rattle.std.proofs.lemmas.Bool.{cases_eq, or_from, false_from_ne_true, true≢false}
use Rattle.heap_layout.specs.declared.block.Kind.{Kind}
use Rattle.heap_layout.specs.declared.block.Kind.TheVariants as kinds
use Rattle.heap_layout.specs.Blocks.{kind_code}
use Rattle.object_model.specs.Objects.{HeapState, block_word, has_kind, HasKind}
use Rattle.object_model.proofs.OneKind.{kind-code, kind-within}
use Rattle.sessions.proofs.PlacedSmallObjects.{one_if}
use Rattle.sessions.specs.Grants.{BlockCounts, after_taking}
use Rattle.sessions.specs.Fitting.{free_of, large_of, counts_of}
use Rattle.plan_api.specs.Taking.{FreeBlockIsTaken, TakesBlocks, none, one_more}
use Rattle.plan_api.proofs.Tallies.{count_below, count-next}
use Rattle.sessions.specs.Plans.{has_holes}

-- tests that agree below n have the same count there
pub same-below : (p q : ℕ → Bool) (n : ℕ) → ((j : ℕ) → j < n → p j ≡ q j) → count_below p n ≡ count_below q n
same-below p q zero same = refl
same-below p q (suc n) same =
    let before : count_below p n ≡ count_below q n = same-below p q n (λ j less. same j (omega arith)) in
    let here : one_if (p n) ≡ one_if (q n) = ap one_if (same n (omega arith)) in
    let more : count_below p (n + 1) ≡ count_below p n + one_if (p n) = count-next p n in
    let more' : count_below q (n + 1) ≡ count_below q n + one_if (q n) = count-next q n in
    let e : n + 1 ≡ suc n = add-one n in
    sym (ap (count_below p) e) ∙ (let sum : count_below p (n + 1) ≡ count_below q (n + 1) = omega arith in sum) ∙ ap (count_below q) e

-- if index k alone no longer passes the test, the count is one less
pub one-less : (p q : ℕ → Bool) (k n : ℕ) → k < n → p k ≡ true → q k ≡ false → ((j : ℕ) → j < n → j ≢ k → q j ≡ p j) → count_below p n ≡ count_below q n + 1
one-less p q k zero less was is same = absurd (omega arith)
one-less p q k (suc n) less was is same =
    let more : count_below p (n + 1) ≡ count_below p n + one_if (p n) = count-next p n in
    let more' : count_below q (n + 1) ≡ count_below q n + one_if (q n) = count-next q n in
    let e : n + 1 ≡ suc n = add-one n in
    let sum : count_below p (n + 1) ≡ count_below q (n + 1) + 1 = elim (cases_eq k n) as (λ _. count_below p (n + 1) ≡ count_below q (n + 1) + 1) [
      | inl last ↦
          let before : count_below q n ≡ count_below p n = same-below q p n (λ j small. same j (omega arith) (λ wrong. omega arith)) in
          let one : one_if (p n) ≡ 1 = ap one_if (subst (λ (i : ℕ). p i ≡ true) last was) in
          let nil : one_if (q n) ≡ 0 = ap one_if (subst (λ (i : ℕ). q i ≡ false) last is) in
          omega arith
      | inr other ↦
          let before : count_below p n ≡ count_below q n + 1 = one-less p q k n (omega arith) was is (λ j small apart. same j (omega arith) apart) in
          let here : one_if (q n) ≡ one_if (p n) = ap one_if (same n (omega arith) (λ wrong. other (sym wrong))) in
          omega arith
    ] in
    sym (ap (count_below p) e) ∙ sum ∙ ap (λ (x : ℕ). count_below q x + 1) e

-- a test of equal block words has equal results
kind-same : (old new : HeapState) (j : ℕ) (kind : Kind) → new.blocks ≡ old.blocks → block_word new j ≡ block_word old j → has_kind new j kind ≡ has_kind old j kind
kind-same old new j kind blocks word = ap (λ (b : ℕ). nat_lt j b && nat_eq (block_word new j % 256) (kind_code kind)) blocks ∙ ap (λ (w : ℕ). nat_lt j old.blocks && nat_eq (w % 256) (kind_code kind)) word

-- a block has one kind
other-kind : (s : HeapState) (k : ℕ) (kind other : Kind) → HasKind s k kind → kind_code kind ≢ kind_code other → has_kind s k other ≡ false
other-kind s k kind other is apart = false_from_ne_true (has_kind s k other) (λ both. apart (sym (kind-code s k kind is) ∙ kind-code s k other both))

abbrev is_free : HeapState → ℕ → Bool
is_free s k = has_kind s k kinds.Free

abbrev is_large : HeapState → ℕ → Bool
is_large s k = has_kind s k kinds.LargeHead || has_kind s k kinds.LargeTail

module _ (fill : Kind) (apart : kind_code fill ≢ 0) (no_head : kind_code fill ≢ 6) (no_tail : kind_code fill ≢ 7) where
  module _ (old new : HeapState) (k : ℕ) (takes : FreeBlockIsTaken fill old new k) where
    there : k < old.blocks
    there = kind-within old k kinds.Free takes.free

    pub free-less : free_of old ≡ free_of new + 1
    free-less =
        one-less (is_free old) (is_free new) k old.blocks there takes.free (other-kind new k fill kinds.Free takes.filled apart)
        (λ j less other. kind-same old new j kinds.Free takes.blocks (takes.others j less other))
        ∙ ap (λ (b : ℕ). count_below (is_free new) b + 1) (sym takes.blocks)

    not-large : (s : HeapState) (kind : Kind) → HasKind s k kind → kind_code kind ≢ 6 → kind_code kind ≢ 7 → is_large s k ≡ false
    not-large s kind is head tail = or_from (has_kind s k kinds.LargeHead) (has_kind s k kinds.LargeTail) (other-kind s k kind kinds.LargeHead is head) (other-kind s k kind kinds.LargeTail is tail)

    large-at : (j : ℕ) → j < old.blocks → is_large old j ≡ is_large new j
    large-at j less = elim (cases_eq j k) as (λ _. is_large old j ≡ is_large new j) [
      | inl e ↦ subst (λ (i : ℕ). is_large old i ≡ is_large new i) (sym e) (not-large old kinds.Free takes.free (λ wrong. omega arith) (λ wrong. omega arith) ∙ sym (not-large new fill takes.filled no_head no_tail))
      | inr other ↦
          let head = kind-same old new j kinds.LargeHead takes.blocks (takes.others j less other) in
          let tail = kind-same old new j kinds.LargeTail takes.blocks (takes.others j less other) in
          sym (ap (λ (b : Bool). b || has_kind new j kinds.LargeTail) head ∙ ap (λ (b : Bool). has_kind old j kinds.LargeHead || b) tail)
    ]

    pub large-kept : large_of new ≡ large_of old
    large-kept = ap (count_below (is_large new)) takes.blocks ∙ sym (same-below (is_large old) (is_large new) old.blocks large-at)

  -- counts with equal fields are equal
  counts-same : (x y : BlockCounts) → x.blocks ≡ y.blocks → x.free ≡ y.free → x.large ≡ y.large → x ≡ y
  counts-same x y blocks free large =
      ap (λ (n : ℕ). let c : BlockCounts = record { blocks = n; free = x.free; large = x.large } in c) blocks
      ∙ (ap (λ (n : ℕ). let c : BlockCounts = record { blocks = y.blocks; free = n; large = x.large } in c) free
      ∙ ap (λ (n : ℕ). let c : BlockCounts = record { blocks = y.blocks; free = y.free; large = n } in c) large)

  pub counts-after : (old new : HeapState) (n : ℕ) → TakesBlocks fill old new n → (n ≤ free_of old) × (counts_of new ≡ after_taking (counts_of old) n)
  counts-after old new n (none blocks words) = (
    omega arith,
    counts-same (counts_of new) (after_taking (counts_of old) 0) blocks
        (ap (count_below (is_free new)) blocks ∙ same-below (is_free new) (is_free old) old.blocks (λ j less. kind-same old new j kinds.Free blocks (words j less)) ∙ (let e : free_of old ≡ free_of old - 0 = omega arith in e))
        (ap (count_below (is_large new)) blocks ∙ same-below (is_large new) (is_large old) old.blocks (λ j less.
        let head = kind-same old new j kinds.LargeHead blocks (words j less) in
        let tail = kind-same old new j kinds.LargeTail blocks (words j less) in
        ap (λ (b : Bool). b || has_kind new j kinds.LargeTail) head ∙ ap (λ (b : Bool). has_kind old j kinds.LargeHead || b) tail)),
  )
  counts-after old new n (one_more {mid} {n = m} k before takes) =
      let rest = counts-after old mid m before in
      let blocks : mid.blocks ≡ old.blocks = ap (λ (c : BlockCounts). c.blocks) rest.1 in
      let free : free_of mid ≡ free_of old - m = ap (λ (c : BlockCounts). c.free) rest.1 in
      let large : large_of mid ≡ large_of old = ap (λ (c : BlockCounts). c.large) rest.1 in
      let less : free_of mid ≡ free_of new + 1 = free-less mid new k takes in
      let few : m ≤ free_of old = rest.0 in
      ((let more : m + 1 ≤ free_of old = omega arith in more), counts-same (counts_of new) (after_taking (counts_of old) (m + 1)) (takes.blocks ∙ blocks) (let e : free_of new ≡ free_of old - (m + 1) = omega arith in e) (large-kept mid new k takes ∙ large))

-- blocks that have holes are not Free, and belong to no large object
pub hole-codes : (fill : Kind) → IsTrue (has_holes fill) → (kind_code fill ≢ 0) × (kind_code fill ≢ 6) × (kind_code fill ≢ 7)
hole-codes kinds.Bump has = ((λ e. omega arith), (λ e. omega arith), (λ e. omega arith))
hole-codes kinds.Young has = ((λ e. omega arith), (λ e. omega arith), (λ e. omega arith))
hole-codes kinds.Cells has = ((λ e. omega arith), (λ e. omega arith), (λ e. omega arith))
hole-codes kinds.Immix has = ((λ e. omega arith), (λ e. omega arith), (λ e. omega arith))
hole-codes kinds.Free has = absurd (true≢false (sym has))
hole-codes kinds.Mature has = absurd (true≢false (sym has))
hole-codes kinds.LargeHead has = absurd (true≢false (sym has))
hole-codes kinds.LargeTail has = absurd (true≢false (sym has))
hole-codes kinds.Kept has = absurd (true≢false (sym has))

pub taken-counts : (fill : Kind) (old new : HeapState) (n : ℕ) → IsTrue (has_holes fill) → TakesBlocks fill old new n → (n ≤ free_of old) × (counts_of new ≡ after_taking (counts_of old) n)
taken-counts fill old new n has takes = let codes = hole-codes fill has in counts-after fill codes.0 codes.1 codes.2 old new n takes
