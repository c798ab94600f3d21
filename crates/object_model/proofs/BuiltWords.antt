-- The words of a built heap are below 2^64, by a test of its objects' words.
use Rattle.std.proofs.Common.{◌≡◌, refl, sym, ◌∙◌, ap, subst, ℕ, suc, ◌+◌, ◌*◌, ◌-◌, ◌^◌, ◌<◌, ◌≤◌, inl, inr, arith, Bool, true, List, [], ◌∷◌, length, slice_index, nat_lt, nat_le, lit<}
use Rattle.std.specs.List.{range_with_len, list_all}
use Rattle.std.proofs.lemmas.Bool.{and_parts, cases_Bool, cases_lt, ltb-true, le-ltb, cond-true, cond-false}
use Rattle.std.proofs.lemmas.List.{get_or_past}
use Rattle.std.specs.Prelude.{if◌then◌else◌}
use Rattle.std.proofs.lemmas.List.Sums.{sum_by-cons}
use Rattle.std.proofs.lemmas.List.FromFn.{get_or-map-range_with_len, length-map-range_with_len}
use Rattle.heap_layout.specs.Zones.{row_words, first, Globals, BlockWords, LineWords, StartBits, PinBits, UnlogBits, HeapWords}
use Rattle.object_model.specs.Objects.{word_at}
use Rattle.object_model.specs.WorkedHeaps.{WorkedHeap, WorkedObject, words_before, object_words, object_word, built_word, build_heap}
use Rattle.object_model.proofs.LawfulTests.{in-range, in-list}

abbrev pub fits_object : ℕ → WorkedObject → Bool
fits_object start o = list_all (λ w. nat_lt w 1152921504606846976) (object_words (start + words_before o) o)

object-most : (start i : ℕ) (xs : List WorkedObject) → list_all (fits_object start) xs ≡ true → object_word start xs i ≤ 1152921504606846976 * length xs
object-most start i [] all = omega arith
object-most start i (o ∷ xs) all =
    let both = and_parts (fits_object start o) _ all in
    let rest : object_word start xs i ≤ 1152921504606846976 * length xs = object-most start i xs both.1 in
    let word : ℕ = slice_index (object_words (start + words_before o) o) (i - words_before o) in
    let small : word < 1152921504606846976 = ltb-true _ _ (in-list (λ w. nat_lt w 1152921504606846976) (object_words (start + words_before o) o) refl both.0 (i - words_before o)) in
    elim (cases_Bool (nat_le (words_before o) i)) as (λ _. object_word start (o ∷ xs) i ≤ 1152921504606846976 * length (o ∷ xs)) [
      | inl past ↦ (let e : object_word start (o ∷ xs) i ≡ word + object_word start xs i = sum_by-cons (λ x. if nat_le (words_before x) i then slice_index (object_words (start + words_before x) x) (i - words_before x) else 0) o xs
          ∙ ap (λ w. w + object_word start xs i) (cond-true (nat_le (words_before o) i) word 0 past) in
          let more : length (o ∷ xs) ≡ suc (length xs) = refl in omega arith)
      | inr before ↦ (let e : object_word start (o ∷ xs) i ≡ 0 + object_word start xs i = sum_by-cons (λ x. if nat_le (words_before x) i then slice_index (object_words (start + words_before x) x) (i - words_before x) else 0) o xs
          ∙ ap (λ w. w + object_word start xs i) (cond-false (nat_le (words_before o) i) word 0 before) in
          let more : length (o ∷ xs) ≡ suc (length xs) = refl in omega arith)
    ]

module _ (h : WorkedHeap) (few : length h.objects ≤ 8) (objects : list_all (fits_object (first (length h.blocks) HeapWords)) h.objects ≡ true)
    (sides : list_all (λ i. nat_lt (built_word h (length h.blocks) i) (2 ^ 64)) (range_with_len 0 (first (length h.blocks) HeapWords)) ≡ true) where
  abbrev b : ℕ
  b = length h.blocks

  heap-word : (i : ℕ) → first b HeapWords ≤ i → built_word h b i ≡ object_word (first b HeapWords) h.objects (i - first b HeapWords)
  heap-word i past =
      cond-false (nat_lt i (first b Globals)) _ _ (le-ltb i (first b Globals) (omega arith)) ∙ (cond-false (nat_lt i (first b BlockWords)) _ _ (le-ltb i (first b BlockWords) (omega arith))
      ∙ (cond-false (nat_lt i (first b LineWords)) _ _ (le-ltb i (first b LineWords) (omega arith)) ∙ (cond-false (nat_lt i (first b StartBits)) _ _ (le-ltb i (first b StartBits) (omega arith))
      ∙ (cond-false (nat_lt i (first b PinBits)) _ _ (le-ltb i (first b PinBits) (omega arith)) ∙ (cond-false (nat_lt i (first b UnlogBits)) _ _ (le-ltb i (first b UnlogBits) (omega arith))
      ∙ cond-false (nat_lt i (first b HeapWords)) _ _ (le-ltb i (first b HeapWords) (omega arith)))))))

  word-fits : (i : ℕ) → built_word h b i < 2 ^ 64
  word-fits i = elim (cases_lt i (first b HeapWords)) as (λ _. built_word h b i < 2 ^ 64) [
    | inl side ↦ ltb-true _ _ (in-range (λ j. nat_lt (built_word h b j) (2 ^ 64)) 0 (first b HeapWords) sides i (omega arith) (omega (arith, side)))
    | inr past ↦
        let most : object_word (first b HeapWords) h.objects (i - first b HeapWords) ≤ 1152921504606846976 * length h.objects = object-most (first b HeapWords) (i - first b HeapWords) h.objects objects in
        subst (λ (w : ℕ). w < 2 ^ 64) (sym (heap-word i past)) (omega (arith, most, few))
  ]

  pub built-fits : (i : ℕ) → word_at (build_heap h) i < 2 ^ 64
  built-fits i = elim (cases_lt i (row_words b)) as (λ _. word_at (build_heap h) i < 2 ^ 64) [
    | inl within ↦ subst (λ (w : ℕ). w < 2 ^ 64) (sym (get_or-map-range_with_len (built_word h b) 0 (row_words b) i i 0 within (omega arith))) (word-fits i)
    | inr past ↦
        let long : length (build_heap h).words ≡ row_words b = length-map-range_with_len (built_word h b) 0 (row_words b) in
        subst (λ (w : ℕ). w < 2 ^ 64) (sym (get_or_past (build_heap h).words i 0 (subst (λ (n : ℕ). n ≤ i) (sym long) past))) (lit< tt)
  ]
