-- The held objects have no more words than the blocks that are not free.
use Rattle.std.proofs.Common.{◌≡◌, refl, sym, ◌∙◌, ap, subst, ℕ, zero, suc, ◌+◌, ◌-◌, ◌*◌, ◌/◌, ◌<◌, ◌≤◌, arith, inl, inr, Bool, true, false, not}
use Rattle.std.proofs.Math.Nat.{zero-mul, one-mul}
use Rattle.std.proofs.lemmas.Bool.{cases_Bool, cases_lt}
use Rattle.heap_layout.specs.Zones.{heap_of, row_words}
use Rattle.heap_layout.specs.declared.block.Kind.TheVariants as kinds
use Rattle.object_model.specs.Counting.{count_words_at, held_in, kind_count}
use Rattle.object_model.specs.Lawful.{IsLawfulButLines}
use Rattle.object_model.specs.Objects.{HeapState, IsHeld, has_kind, is_start, size_at}
use Rattle.object_model.specs.Times.{one_if}
use Rattle.object_model.proofs.HeldCounts.{below, below-more, held-words, no-words-before, words_at}
use Rattle.object_model.proofs.ObjectReads.{ends_in_row}

module _ (s : HeapState) (lawful : IsLawfulButLines s) (some : (a : ℕ) → IsHeld s a → 3 ≤ size_at s a) where
  abbrev free : ℕ → Bool
  free k = has_kind s k kinds.Free

  -- how many of the heap's first words are not in free blocks
  room : ℕ → ℕ
  room zero = 0
  room (suc n) = room n + one_if (not (free (n / 4096)))

  room-more : (n d : ℕ) → room n ≤ room (n + d)
  unfolding room
  room-more n zero = let same : room (n + 0) ≡ room n = ap room (let e : n + 0 ≡ n = omega arith in e) in omega (arith, same)
  room-more n (suc d) =
      let next : room (n + suc d) ≡ room (n + d) + one_if (not (free ((n + d) / 4096))) = ap room (let e : n + suc d ≡ suc (n + d) = omega arith in e) in
      let rest : room n ≤ room (n + d) = room-more n d in
      omega (arith, next, rest)

  room-used : (n d : ℕ) → ((i : ℕ) → i < d → free ((n + i) / 4096) ≡ false) → room (n + d) ≡ room n + d
  unfolding room
  room-used n zero used = let same : room (n + 0) ≡ room n = ap room (let e : n + 0 ≡ n = omega arith in e) in omega (arith, same)
  room-used n (suc d) used =
      let next : room (n + suc d) ≡ room (n + d) + one_if (not (free ((n + d) / 4096))) = ap room (let e : n + suc d ≡ suc (n + d) = omega arith in e) in
      let here : one_if (not (free ((n + d) / 4096))) ≡ 1 = ap (λ b. one_if (not b)) (used d (omega arith)) in
      let rest : room (n + d) ≡ room n + d = room-used n d (λ i less. used i (omega (arith, less))) in
      omega (arith, next, here, rest)

  -- block by block
  room-free : (n d : ℕ) → ((i : ℕ) → i < d → free ((n + i) / 4096) ≡ true) → room (n + d) ≡ room n
  unfolding room
  room-free n zero used = ap room (let e : n + 0 ≡ n = omega arith in e)
  room-free n (suc d) used =
      let next : room (n + suc d) ≡ room (n + d) + one_if (not (free ((n + d) / 4096))) = ap room (let e : n + suc d ≡ suc (n + d) = omega arith in e) in
      let here : one_if (not (free ((n + d) / 4096))) ≡ 0 = ap (λ b. one_if (not b)) (used d (omega arith)) in
      let rest : room (n + d) ≡ room n = room-free n d (λ i less. used i (omega (arith, less))) in
      omega (arith, next, here, rest)

  block-of : (k i : ℕ) → i < 4096 → (4096 * k + i) / 4096 ≡ k
  block-of k i low = omega (arith, low)

  room-blocks : (k : ℕ) → room (4096 * k) + 4096 * below (λ j. one_if (free j)) k ≡ 4096 * k
  unfolding room
  room-blocks zero = refl
  room-blocks (suc k) =
      let one : k + 1 ≡ suc k = omega arith in
      let count : below (λ j. one_if (free j)) (suc k) ≡ below (λ j. one_if (free j)) k + one_if (free k) = ap (below (λ j. one_if (free j))) (sym one) ∙ below-more (λ j. one_if (free j)) k in
      let words : room (4096 * suc k) ≡ room (4096 * k + 4096) = ap room (let e : 4096 * suc k ≡ 4096 * k + 4096 = omega arith in e) in
      let rest : room (4096 * k) + 4096 * below (λ j. one_if (free j)) k ≡ 4096 * k = room-blocks k in
      elim (cases_Bool (free k)) as (λ _. room (4096 * suc k) + 4096 * below (λ j. one_if (free j)) (suc k) ≡ 4096 * suc k) [
        | inl is ↦ (
            let own : one_if (free k) ≡ 1 = ap one_if is in
            let here : room (4096 * k + 4096) ≡ room (4096 * k) = room-free (4096 * k) 4096 (λ i low. ap free (block-of k i low) ∙ is) in
            omega (arith, count, words, rest, own, here))
        | inr off ↦ (
            let own : one_if (free k) ≡ 0 = ap one_if off in
            let here : room (4096 * k + 4096) ≡ room (4096 * k) + 4096 = room-used (4096 * k) 4096 (λ i low. ap free (block-of k i low) ∙ off) in
            omega (arith, count, words, rest, own, here))
      ]

  -- the words of a held object are in blocks that are not free
  not-free : (n i : ℕ) → IsHeld s (heap_of s.blocks + n) → i < size_at s (heap_of s.blocks + n) → free ((n + i) / 4096) ≡ false
  not-free n i held low = elim (cases_Bool (free ((n + i) / 4096))) as (λ _. free ((n + i) / 4096) ≡ false) [
    | inr off ↦ off
    | inl is ↦ (
        let at : heap_of s.blocks + n + i - heap_of s.blocks ≡ n + i = omega arith in
        absurd ((lawful.free ((n + i) / 4096) is).empty (heap_of s.blocks + n) (heap_of s.blocks + n + i) held (record { from = omega arith; below = omega (arith, low) }) (ap (λ w. w / 4096) at)))
  ]

  -- the objects before word n of the heap end at some word, and none later begins before it
  record Packed (n : ℕ) : Type 0 where
    end : ℕ
    high : heap_of s.blocks + end ≤ row_words s.blocks
    words : below (words_at s) (heap_of s.blocks + n) ≤ room end
    later : (x : ℕ) → heap_of s.blocks + n ≤ x → IsHeld s x → heap_of s.blocks + end ≤ x

  packed-on : (n : ℕ) → heap_of s.blocks + n < row_words s.blocks → Packed n → Packed (suc n)
  packed-on n low packed =
      let a : ℕ = heap_of s.blocks + n in
      let more : below (words_at s) (heap_of s.blocks + suc n) ≡ below (words_at s) a + words_at s a = ap (below (words_at s)) (let e : heap_of s.blocks + suc n ≡ heap_of s.blocks + n + 1 = omega arith in e) ∙ below-more (words_at s) a in
      let sum : below (words_at s) a ≤ room packed.end = packed.words in
      elim (cases_Bool (is_start s a)) as (λ _. Packed (suc n)) [
        | inl start ↦ (
            let held : IsHeld s a = record { address = record { from = omega arith; below = low }; start = start } in
            let here : words_at s a ≡ size_at s a = ap (λ b. one_if b * size_at s a) start ∙ one-mul (size_at s a) in
            let ends : heap_of s.blocks + packed.end ≤ a = packed.later a (omega arith) held in
            let gap : packed.end + (n - packed.end) ≡ n = omega (arith, ends) in
            let before : room packed.end ≤ room n = subst (λ (m : ℕ). room packed.end ≤ room m) gap (room-more packed.end (n - packed.end)) in
            let used : room (n + size_at s a) ≡ room n + size_at s a = room-used n (size_at s a) (λ i less. not-free n i held less) in
            let whole : heap_of s.blocks + (n + size_at s a) ≡ a + size_at s a = omega arith in
            let inside : a + size_at s a ≤ row_words s.blocks = ends_in_row s lawful.order a held in
            record {
              end = n + size_at s a;
              high = omega (arith, whole, inside);
              words = omega (arith, more, sum, here, before, used);
              later = λ x past other. elim (cases_lt x (a + size_at s a)) as (λ _. heap_of s.blocks + (n + size_at s a) ≤ x) [
                | inl within ↦ (
                    let wide : 3 ≤ size_at s x = some x other in
                    let same : a ≡ x = lawful.order.objects.apart a x x held other (record { from = omega (arith, past); below = within }) (record { from = omega arith; below = omega (arith, wide) }) in
                    absurd (omega (arith, past, same)))
                | inr out ↦ omega (arith, whole, out)
              ];
            })
        | inr off ↦ (
            let here : words_at s a ≡ 0 = ap (λ b. one_if b * size_at s a) off ∙ zero-mul (size_at s a) in
            record { end = packed.end; high = packed.high; words = omega (arith, more, sum, here); later = λ x past other. packed.later x (omega (arith, past)) other })
      ]

  packed-to : (n : ℕ) → heap_of s.blocks + n ≤ row_words s.blocks → Packed n
  packed-to zero low =
      let first : heap_of s.blocks + 0 ≡ heap_of s.blocks = omega arith in
      record {
        end = 0;
        high = low;
        words = let none : below (words_at s) (heap_of s.blocks + 0) ≡ 0 = ap (below (words_at s)) first ∙ no-words-before s in omega (arith, none);
        later = λ x past other. past;
      }
  packed-to (suc n) low = packed-on n (omega (arith, low)) (packed-to n (omega (arith, low)))

  pub held-fit : count_words_at s (held_in s) ≤ 4096 * (s.blocks - kind_count s kinds.Free)
  held-fit =
      let whole : heap_of s.blocks + 4096 * s.blocks ≡ row_words s.blocks = omega arith in
      let packed : Packed (4096 * s.blocks) = packed-to (4096 * s.blocks) (omega (arith, whole)) in
      let all : count_words_at s (held_in s) ≡ below (words_at s) (heap_of s.blocks + 4096 * s.blocks) = held-words s ∙ ap (below (words_at s)) (sym whole) in
      let sum : below (words_at s) (heap_of s.blocks + 4096 * s.blocks) ≤ room packed.end = packed.words in
      let high : heap_of s.blocks + packed.end ≤ row_words s.blocks = packed.high in
      let gap : packed.end + (4096 * s.blocks - packed.end) ≡ 4096 * s.blocks = omega (arith, high, whole) in
      let most : room packed.end ≤ room (4096 * s.blocks) = subst (λ (m : ℕ). room packed.end ≤ room m) gap (room-more packed.end (4096 * s.blocks - packed.end)) in
      let blocks : room (4096 * s.blocks) + 4096 * below (λ j. one_if (free j)) s.blocks ≡ 4096 * s.blocks = room-blocks s.blocks in
      let count : below (λ j. one_if (free j)) s.blocks ≡ kind_count s kinds.Free = refl in
      omega (arith, all, sum, most, blocks, count)
