-- The kinds of all blocks add up to the blocks of the heap.
use Rattle.std.proofs.Common.{◌≡◌, refl, sym, ◌∙◌, ap, ℕ, zero, suc, ◌+◌, ◌%◌, ◌<◌, ◌≤◌, arith, true, false, ◌&&◌, ◌||◌, nat_eq, nat_lt}
use Rattle.std.proofs.lemmas.Bool.{lt-ltb}
use Rattle.heap_layout.specs.Blocks.{is_valid_for_some, kind_of_code}
use Rattle.object_model.specs.Lawful.{IsUnowned}
use Rattle.object_model.specs.Objects.{HeapState, block_word}
use Rattle.object_model.specs.Times.{one_if}
use Rattle.object_model.proofs.HeldCounts.{below, below-more}
use Rattle.heap_picture.specs.Reading.{blocks_in}
use Rattle.heap_picture.specs.Sessions.{kinds_of}

-- how many of the kinds of a report this code is
abbrev codes-in : ℕ → ℕ
codes-in v = one_if (nat_eq v 0) + one_if (nat_eq v 1) + one_if (nat_eq v 2) + one_if (nat_eq v 3) + one_if (nat_eq v 4) + one_if (nat_eq v 5)
    + one_if (nat_eq v 6 || nat_eq v 7) + one_if (nat_eq v 8)

one-code : (v class owner : ℕ) → is_valid_for_some (kind_of_code v) class owner ≡ true → codes-in v ≡ 1
one-code zero class owner valid = refl
one-code (suc zero) class owner valid = refl
one-code (suc (suc zero)) class owner valid = refl
one-code (suc (suc (suc zero))) class owner valid = refl
one-code (suc (suc (suc (suc zero)))) class owner valid = refl
one-code (suc (suc (suc (suc (suc zero))))) class owner valid = refl
one-code (suc (suc (suc (suc (suc (suc zero)))))) class owner valid = refl
one-code (suc (suc (suc (suc (suc (suc (suc zero))))))) class owner valid = refl
one-code (suc (suc (suc (suc (suc (suc (suc (suc zero)))))))) class owner valid = refl
one-code (suc (suc (suc (suc (suc (suc (suc (suc (suc v))))))))) class owner valid = absurd (let wrong : false ≡ true = valid in cc)

module _ (s : HeapState) (each : (k : ℕ) → k < s.blocks → IsUnowned s k) where
  abbrev is : ℕ → ℕ → ℕ
  is code k = one_if (nat_lt k s.blocks && nat_eq (block_word s k % 256) code)

  abbrev large : ℕ → ℕ
  large k = one_if (nat_lt k s.blocks && nat_eq (block_word s k % 256) 6 || nat_lt k s.blocks && nat_eq (block_word s k % 256) 7)

  one-kind : (k : ℕ) → k < s.blocks → is 0 k + is 1 k + is 2 k + is 3 k + is 4 k + is 5 k + large k + is 8 k ≡ 1
  one-kind k low =
      ap (λ b. one_if (b && nat_eq (block_word s k % 256) 0) + one_if (b && nat_eq (block_word s k % 256) 1) + one_if (b && nat_eq (block_word s k % 256) 2) + one_if (b && nat_eq (block_word s k % 256) 3)
      + one_if (b && nat_eq (block_word s k % 256) 4) + one_if (b && nat_eq (block_word s k % 256) 5)
      + one_if (b && nat_eq (block_word s k % 256) 6 || b && nat_eq (block_word s k % 256) 7) + one_if (b && nat_eq (block_word s k % 256) 8)) (lt-ltb k s.blocks low)
      ∙ one-code (block_word s k % 256) _ _ (each k low).code

  all-kinds : (n : ℕ) → n ≤ s.blocks → below (is 0) n + below (is 1) n + below (is 2) n + below (is 3) n + below (is 4) n + below (is 5) n + below large n + below (is 8) n ≡ n
  all-kinds zero low = refl
  all-kinds (suc n) low =
      let one : n + 1 ≡ suc n = omega arith in
      let a = ap (below (is 0)) (sym one) ∙ below-more (is 0) n in
      let b = ap (below (is 1)) (sym one) ∙ below-more (is 1) n in
      let c = ap (below (is 2)) (sym one) ∙ below-more (is 2) n in
      let d = ap (below (is 3)) (sym one) ∙ below-more (is 3) n in
      let e = ap (below (is 4)) (sym one) ∙ below-more (is 4) n in
      let f = ap (below (is 5)) (sym one) ∙ below-more (is 5) n in
      let g = ap (below large) (sym one) ∙ below-more large n in
      let h = ap (below (is 8)) (sym one) ∙ below-more (is 8) n in
      let rest = all-kinds n (omega (arith, low)) in
      let own = one-kind n (omega (arith, low)) in
      omega (arith, a, b, c, d, e, f, g, h, rest, own)

  pub kinds-add-up : blocks_in (kinds_of s) ≡ s.blocks
  kinds-add-up = all-kinds s.blocks (omega arith)
