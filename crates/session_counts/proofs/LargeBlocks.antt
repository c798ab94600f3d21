-- The large objects have exactly the blocks of large objects.
use Rattle.std.proofs.Common.{◌≡◌, refl, sym, ◌∙◌, ap, subst, ℕ, ◌+◌, ◌-◌, ◌/◌, ◌%◌, ◌<◌, ◌≤◌, arith, inl, inr, Bool, true, false, ◌&&◌, ◌||◌, nat_le, nat_lt}
use Rattle.std.specs.Prelude.{if◌then◌else◌}
use Rattle.std.specs.List.{range_with_len}
use Rattle.std.proofs.lemmas.Bool.{and_from, and_parts, cases_Bool, cases_lt, le-leb, leb-true, lt-ltb, ltb-true, or_cases, or_left, or_right, true≢false}
use Rattle.std.proofs.lemmas.List.Folds.{Any-from_list_any}
use Rattle.std.proofs.lemmas.List.FromFn.{get_or-range_with_len, length-range_with_len}
use Rattle.heap_layout.specs.Zones.{block_at, block_start, heap_of, row_words}
use Rattle.heap_layout.specs.declared.block.Kind.TheVariants as kinds
use Rattle.object_model.specs.Lawful.{IsWellFormed, LiesInRun, is_in_run}
use Rattle.object_model.specs.Objects.{HasKind, HeapState, IsHeld, blocks_for, class_at, has_kind, is_start, size_at}
use Rattle.object_model.specs.Times.{one_if}
use Rattle.object_model.proofs.HeldCounts.{below, below-none}
use Rattle.object_model.proofs.OneKind.{one-kind}
use Rattle.sessions.specs.Fitting.{large_of}
use Rattle.session_counts.specs.Sizes.{own_blocks}
use Rattle.session_counts.proofs.Weights.{below-same, counted, exactly-one, exchanged, in-range, inside, outside}

-- an address with a start bit is that of a held object
pub held-at : (s : HeapState) (a : ℕ) → is_start s a ≡ true → IsHeld s a
held-at s a start =
    let parts = and_parts (nat_le (heap_of s.blocks) a && nat_lt a (row_words s.blocks)) _ start in
    let ends = and_parts (nat_le (heap_of s.blocks) a) (nat_lt a (row_words s.blocks)) parts.0 in
    record { address = record { from = leb-true (heap_of s.blocks) a ends.0; below = ltb-true a (row_words s.blocks) ends.1 }; start = start }

module _ (s : HeapState) (order : IsWellFormed s) where
  abbrev large : ℕ → Bool
  large k = has_kind s k kinds.LargeHead || has_kind s k kinds.LargeTail

  abbrev own : ℕ → ℕ
  own a = own_blocks (size_at s a)

  abbrev block : ℕ → ℕ
  block a = block_at s.blocks a

  -- block k is one of the object's own
  abbrev has : ℕ → ℕ → Bool
  has a k = inside (block a) (own a) k

  -- an object with blocks of its own lies in a run
  pub record Runs (a : ℕ) : Type 0 where
    pub run : LiesInRun s a (size_at s a)
    pub blocks : own a ≡ blocks_for (size_at s a)

  in-run : (a : ℕ) → IsHeld s a → 0 < own a → Runs a
  in-run a held some = elim (cases_Bool (nat_le (size_at s a) 2048)) as (λ _. Runs a) [
    | inl low ↦ absurd (let none : own a ≡ 0 = ap (λ b. if b then 0 else blocks_for (size_at s a)) low in omega (arith, none, some))
    | inr high ↦ record {
      run = (order.objects.lies a held).large (elim (cases_lt 2048 (size_at s a)) as (λ _. 2048 < size_at s a) [
        | inl more ↦ more
        | inr few ↦ absurd (true≢false (sym (le-leb (size_at s a) 2048 few) ∙ high))
      ]);
      blocks = ap (λ b. if b then 0 else blocks_for (size_at s a)) high;
    }
  ]

  -- the first and the later blocks of an object
  pub record Block (a k : ℕ) : Type 0 where
    pub runs : Runs a
    pub from : block a ≤ k
    pub below : k < block a + own a

  pub block-of : (a k : ℕ) → IsHeld s a → has a k ≡ true → Block a k
  block-of a k held is =
      let both = and_parts (nat_le (block a) k) (nat_lt k (block a + own a)) is in
      let from : block a ≤ k = leb-true (block a) k both.0 in
      let less : k < block a + own a = ltb-true k (block a + own a) both.1 in
      record { runs = in-run a held (omega (arith, from, less)); from = from; below = less }

  tail-at : (a k : ℕ) → Block a k → block a < k → HasKind s k kinds.LargeTail
  tail-at a k at later =
      let same : block a + (k - block a) ≡ k = omega (arith, later) in
      let blocks : own a ≡ blocks_for (size_at s a) = at.runs.blocks in
      let less : k < block a + own a = at.below in
      subst (λ (j : ℕ). HasKind s j kinds.LargeTail) same (at.runs.run.run.tails (k - block a) (omega (arith, later)) (omega (arith, later, less, blocks)))

  pub large-at : (a k : ℕ) → IsHeld s a → has a k ≡ true → large k ≡ true
  large-at a k held is =
      let at = block-of a k held is in
      let from : block a ≤ k = at.from in
      elim (cases_lt (block a) k) as (λ _. large k ≡ true) [
        | inl later ↦ or_right (has_kind s k kinds.LargeHead) _ (tail-at a k at later)
        | inr first ↦ (
            let same : block a ≡ k = omega (arith, from, first) in
            or_left _ (has_kind s k kinds.LargeTail) (subst (λ (j : ℕ). HasKind s j kinds.LargeHead) same at.runs.run.run.head))
      ]

  -- two objects do not have one block
  not-later : (a x k : ℕ) → Block a k → Block x k → block a < block x → ⊥
  not-later a x k one two later =
      let from : block x ≤ k = two.from in
      let less : k < block a + own a = one.below in
      let tail : HasKind s (block x) kinds.LargeTail = tail-at a (block x) (record { runs = one.runs; from = omega (arith, later); below = omega (arith, from, less) }) later in
      let wrong : 6 ≡ 7 = one-kind s (block x) kinds.LargeHead kinds.LargeTail two.runs.run.run.head tail in
      omega (arith, wrong)

  same-start : (a x k : ℕ) → Block a k → Block x k → block a ≡ block x → a ≡ x
  same-start a x k one two same =
      let a-from : heap_of s.blocks ≤ a = one.runs.run.address.from in
      let x-from : heap_of s.blocks ≤ x = two.runs.run.address.from in
      let a-start : (a - heap_of s.blocks) % 4096 ≡ 0 = one.runs.run.start in
      let x-start : (x - heap_of s.blocks) % 4096 ≡ 0 = two.runs.run.start in
      let blocks : (a - heap_of s.blocks) / 4096 ≡ (x - heap_of s.blocks) / 4096 = same in
      omega (arith, a-from, x-from, a-start, x-start, blocks)

  pub one-owner : (a x k : ℕ) → IsHeld s a → IsHeld s x → has a k ≡ true → has x k ≡ true → a ≡ x
  one-owner a x k here there is other =
      let one = block-of a k here is in
      let two = block-of x k there other in
      elim (cases_lt (block a) (block x)) as (λ _. a ≡ x) [
        | inl less ↦ absurd (not-later a x k one two less)
        | inr not ↦ elim (cases_lt (block x) (block a)) as (λ _. a ≡ x) [
          | inl more ↦ absurd (not-later x a k two one more)
          | inr none ↦ same-start a x k one two (omega (arith, not, none))
        ]
      ]

  own-counted : (a : ℕ) → IsHeld s a → below (in-range (block a) (own a)) s.blocks ≡ own a
  own-counted a held = elim (cases_lt 0 (own a)) as (λ _. below (in-range (block a) (own a)) s.blocks ≡ own a) [
    | inl some ↦ (
        let at = in-run a held some in
        let blocks : own a ≡ blocks_for (size_at s a) = at.blocks in
        let end : block a + blocks_for (size_at s a) ≤ s.blocks = at.run.run.inside in
        counted (block a) (own a) s.blocks (omega (arith, blocks, end)))
    | inr not ↦ (
        let none : own a ≡ 0 = omega (arith, not) in
        below-none (in-range (block a) (own a)) s.blocks (λ k less. ap one_if (outside (block a) (own a) k (λ from past. omega (arith, from, past, none)))) ∙ sym none)
  ]

  -- each block of a large object is of one held object
  pub record Owner (k : ℕ) : Type 0 where
    pub object : ℕ
    pub held : IsHeld s object
    pub has : has object k ≡ true

  run-owner : (h k : ℕ) → HasKind s h kinds.LargeHead → h ≤ k → k < h + class_at s h → Owner k
  run-owner h k head from less =
      let a : ℕ = block_start s.blocks h in
      let first = order.objects.heads h head in
      let run : LiesInRun s a (size_at s a) = (order.objects.lies a first.0).large first.1 in
      let big : 2048 < size_at s a = first.1 in
      let at : block a ≡ h = omega arith in
      let class : class_at s h ≡ blocks_for (size_at s a) = subst (λ (j : ℕ). class_at s j ≡ blocks_for (size_at s a)) at run.run.class in
      let high : nat_le (size_at s a) 2048 ≡ false = elim (cases_Bool (nat_le (size_at s a) 2048)) as (λ _. nat_le (size_at s a) 2048 ≡ false) [
        | inl low ↦ absurd (let few : size_at s a ≤ 2048 = leb-true (size_at s a) 2048 low in omega (arith, few, big))
        | inr off ↦ off
      ] in
      let blocks : own a ≡ blocks_for (size_at s a) = ap (λ b. if b then 0 else blocks_for (size_at s a)) high in
      record {
        object = a;
        held = first.0;
        has = and_from _ _ (le-leb (block a) k (omega (arith, at, from))) (lt-ltb k (block a + own a) (omega (arith, at, less, class, blocks)));
      }

  tail-owner : (k : ℕ) → is_in_run s k ≡ true → Owner k
  tail-owner k is =
      let some = Any-from_list_any (λ h. has_kind s h kinds.LargeHead && nat_lt k (h + class_at s h)) (range_with_len 0 k) is in
      let h : ℕ = some.1 in
      let both = and_parts (has_kind s h kinds.LargeHead) (nat_lt k (h + class_at s h)) some.4 in
      let low : some.0 < k = subst (λ (n : ℕ). some.0 < n) (length-range_with_len 0 k) some.2 in
      let at : 0 + some.0 ≡ h = sym (get_or-range_with_len 0 k some.0 h low) ∙ some.3 in
      run-owner h k both.0 (omega (arith, at, low)) (ltb-true k (h + class_at s h) both.1)

  head-owner : (k : ℕ) → HasKind s k kinds.LargeHead → Owner k
  head-owner k head =
      let a : ℕ = block_start s.blocks k in
      let first = order.objects.heads k head in
      let run : LiesInRun s a (size_at s a) = (order.objects.lies a first.0).large first.1 in
      let big : 2048 < size_at s a = first.1 in
      let at : block a ≡ k = omega arith in
      let class : class_at s k ≡ blocks_for (size_at s a) = subst (λ (j : ℕ). class_at s j ≡ blocks_for (size_at s a)) at run.run.class in
      run-owner k k head (omega arith) (omega (arith, class, big))

  pub owner : (k : ℕ) → large k ≡ true → Owner k
  owner k is = elim (or_cases (has_kind s k kinds.LargeHead) (has_kind s k kinds.LargeTail) is) as (λ _. Owner k) [
    | inl head ↦ head-owner k head
    | inr tail ↦ tail-owner k (order.objects.tails k tail)
  ]

  -- object a is held and has block k
  abbrev holds : ℕ → ℕ → Bool
  holds a k = is_start s a && has a k

  -- block by block, and object by object
  in-block : (k : ℕ) → below (λ a. one_if (holds a k)) (row_words s.blocks) ≡ one_if (large k)
  in-block k = elim (cases_Bool (large k)) as (λ _. below (λ a. one_if (holds a k)) (row_words s.blocks) ≡ one_if (large k)) [
    | inl is ↦ (
        let one = owner k is in
        let there : one.object < row_words s.blocks = one.held.address.below in
        exactly-one (λ a. holds a k) (row_words s.blocks) one.object there (and_from _ _ one.held.start one.has)
        (λ a both. let parts = and_parts (is_start s a) (has a k) both in one-owner a one.object k (held-at s a parts.0) one.held parts.1 one.has)
        ∙ sym (ap one_if is))
    | inr off ↦ below-none (λ a. one_if (holds a k)) (row_words s.blocks) (λ a less. ap one_if (elim (cases_Bool (holds a k)) as (λ _. holds a k ≡ false) [
      | inl both ↦ absurd (let parts = and_parts (is_start s a) (has a k) both in true≢false (sym (large-at a k (held-at s a parts.0) parts.1) ∙ off))
      | inr free ↦ free
    ])) ∙ sym (ap one_if off)
  ]

  of-object : (a : ℕ) → below (λ k. one_if (holds a k)) s.blocks ≡ (if is_start s a then own a else 0)
  of-object a = elim (cases_Bool (is_start s a)) as (λ _. below (λ k. one_if (holds a k)) s.blocks ≡ (if is_start s a then own a else 0)) [
    | inl start ↦ ap (λ b. below (λ k. one_if (b && has a k)) s.blocks) start ∙ own-counted a (held-at s a start) ∙ sym (ap (λ b. if b then own a else 0) start)
    | inr off ↦ ap (λ b. below (λ k. one_if (b && has a k)) s.blocks) off ∙ below-none (λ k. 0) s.blocks (λ k less. refl) ∙ sym (ap (λ b. if b then own a else 0) off)
  ]

  pub large-exact : below (λ a. if is_start s a then own a else 0) (row_words s.blocks) ≡ large_of s
  large-exact =
      let n : ℕ = row_words s.blocks in
      sym (below-same (λ a. below (λ k. one_if (holds a k)) s.blocks) (λ a. if is_start s a then own a else 0) n of-object)
      ∙ sym (exchanged (λ a k. one_if (holds a k)) n s.blocks)
      ∙ below-same (λ k. below (λ a. one_if (holds a k)) n) (λ k. one_if (large k)) s.blocks in-block
