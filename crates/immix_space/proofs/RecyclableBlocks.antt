-- The counts of one block, by its kind and its marked lines; and counts of Free blocks.
use Rattle.std.proofs.Common.{◌≡◌, sym, ap, subst, ◌∙◌, ℕ, ◌+◌, ◌%◌, ◌<◌, ◌≤◌, Bool, false, cond, [], arith}
use Rattle.std.specs.Prelude.{count_by}
use Rattle.std.specs.List.{range_with_len}
use Rattle.std.proofs.lemmas.List.Sums.{sum_by-cons}
use Rattle.block_sweeps.proofs.BitCounts.{one_if, count-parts}
use Rattle.std.proofs.lemmas.Bool.{and_from, and_left, and_right, false_from_ne_true, lt-ltb, le-ltb}
use Rattle.heap_layout.specs.declared.block.Kind.TheVariants as kinds
use Rattle.object_model.specs.Objects.{HeapState, block_word, has_kind}
use Rattle.object_model.proofs.OneKind.{kind-code, kind-from}
use Rattle.sessions.specs.Collecting.{holes_in, marked_in, is_recyclable}
use Rattle.line_marks.specs.declared.holes.LineCounts.{LineCounts}
use Rattle.immix_space.specs.Candidates.{no_counts, counts_at}

some-lines : (n : ℕ) → (n ≡ 0 → ⊥) → 0 < n
some-lines n not-none = omega arith

-- a range with one more number
count-more : (test : ℕ → Bool) (n : ℕ) → count_by test (range_with_len 0 (n + 1)) ≡ count_by test (range_with_len 0 n) + one_if (test n)
count-more test n =
    let parts : count_by test (range_with_len 0 (n + 1)) ≡ count_by test (range_with_len 0 n) + count_by test (range_with_len (0 + n) 1) = count-parts test 0 n 1 in
    let last : count_by test (range_with_len (0 + n) 1) ≡ one_if (test (0 + n)) + 0 = sum_by-cons (λ (j : ℕ). one_if (test j)) (0 + n) [] in
    let same : one_if (test (0 + n)) ≡ one_if (test n) = ap (λ (j : ℕ). one_if (test j)) (let e : 0 + n ≡ n = omega arith in e) in
    omega arith

module _ (s : HeapState) (k : ℕ) where
  abbrev own : LineCounts
  own = record { holes = holes_in s k; marked = marked_in s k }

  not-recyclable : is_recyclable s k ≡ false → no_counts ≡ counts_at s k
  not-recyclable clear = sym (ap (λ b. cond b own no_counts) clear)

  pub other-kind : (block_word s k % 256 ≡ 4 → ⊥) → no_counts ≡ counts_at s k
  other-kind other = not-recyclable (and_left _ _ (and_left _ _ (false_from_ne_true (has_kind s k kinds.Immix) (λ is. other (kind-code s k kinds.Immix is)))))

  pub none-marked : marked_in s k ≡ 0 → no_counts ≡ counts_at s k
  none-marked none = not-recyclable (and_left _ _ (and_right (has_kind s k kinds.Immix) _ (le-ltb 0 (marked_in s k) (omega arith))))

  pub all-marked : (n : ℕ) → n ≡ marked_in s k → 256 ≤ n → no_counts ≡ counts_at s k
  all-marked n same all = not-recyclable (and_right _ _ (le-ltb (marked_in s k) 256 (subst (λ (m : ℕ). 256 ≤ m) same all)))

  pub counted : (c : LineCounts) → c.holes ≡ holes_in s k → c.marked ≡ marked_in s k → k < s.blocks → block_word s k % 256 ≡ 4 → (c.marked ≡ 0 → ⊥) → c.marked < 256
      → c ≡ counts_at s k
  counted c holes marked there kind some most =
      ap (λ (n : ℕ). record { holes = n; marked = c.marked }) holes ∙ ap (λ (n : ℕ). record { holes = holes_in s k; marked = n }) marked
      ∙ sym (ap (λ b. cond b own no_counts)
      (and_from _ _ (and_from _ _ (kind-from s k kinds.Immix there kind) (lt-ltb 0 (marked_in s k) (subst (λ (m : ℕ). 0 < m) marked (some-lines c.marked some))))
      (lt-ltb (marked_in s k) 256 (subst (λ (m : ℕ). m < 256) marked most))))

-- Free blocks are counted one after another
module _ (s : HeapState) (k free : ℕ) (there : k < s.blocks) (few : free ≤ k) (counted : free ≡ count_by (λ j. has_kind s j kinds.Free) (range_with_len 0 k)) where
  pub one-free : (more : ℕ) → more ≡ free + 1 → block_word s k % 256 ≡ 0 → (more ≤ k + 1) × (more ≡ count_by (λ j. has_kind s j kinds.Free) (range_with_len 0 (k + 1)))
  one-free more is kind = (omega arith, is ∙ ap (λ n. n + 1) counted ∙ sym (count-more (λ j. has_kind s j kinds.Free) k ∙ ap (λ b. count_by (λ j. has_kind s j kinds.Free) (range_with_len 0 k) + one_if b) (kind-from s k kinds.Free there kind)))

  pub none-free : (more : ℕ) → more ≡ free → (block_word s k % 256 ≡ 0 → ⊥) → (more ≤ k + 1) × (more ≡ count_by (λ j. has_kind s j kinds.Free) (range_with_len 0 (k + 1)))
  none-free more is other = (
    omega arith,
    is ∙ counted ∙ sym (count-more (λ j. has_kind s j kinds.Free) k
        ∙ ap (λ b. count_by (λ j. has_kind s j kinds.Free) (range_with_len 0 k) + one_if b) (false_from_ne_true (has_kind s k kinds.Free) (λ set. other (kind-code s k kinds.Free set)))
        ∙ rest (count_by (λ j. has_kind s j kinds.Free) (range_with_len 0 k))),
  )
    where
      rest : (m : ℕ) → m + 0 ≡ m
      rest m = omega arith
