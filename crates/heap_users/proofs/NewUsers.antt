-- Mutators that have allocated nothing, and the empty heap.
use Rattle.std.proofs.Common.{◌≡◌, refl, sym, ◌∙◌, ℕ, zero, suc, ◌+◌, ◌≤◌, ap, arith, List, [], ◌∷◌, ◌++◌, length, map}
use Rattle.std.specs.List.{range_with_len, AllByRecursion}
use Rattle.std.proofs.lemmas.List.{map-append}
use Rattle.std.proofs.lemmas.List.FromFn.{length-range_with_len, get_or-range_with_len, map-range_with_len_more}
use Rattle.mutator_calls.specs.declared.need.Mutator.{Mutator}
use Rattle.object_model.specs.Objects.{empty_heap}
use Rattle.object_model.specs.Graphs.{AreDifferent, AreRegisters, new_mutator}
use Rattle.object_model.proofs.Zeros as zeros
use Rattle.heap_users.specs.Users.{mutator_state}
use Rattle.heap_users.specs.Beginnings.{MayUse}

range-differ : (a n : ℕ) → AreDifferent (range_with_len a n)
range-differ a n i j there_i there_j same =
    let many : length (range_with_len a n) ≡ n = length-range_with_len a n in
    let both : a + i ≡ a + j = sym (get_or-range_with_len a n i 0 (omega arith)) ∙ same ∙ get_or-range_with_len a n j 0 (omega arith) in
    omega arith

range-small : (a n : ℕ) → 1 ≤ a → a + n ≤ 17 → AllByRecursion (λ m. (1 ≤ m) × (m ≤ 16)) (range_with_len a n)
range-small a zero least most = tt
range-small a (suc n) least most = ((least, omega arith), range-small (a + 1) n (omega arith) (omega arith))

nil-registers : (b : ℕ) (ms : List ℕ) → AllByRecursion (λ m. AreRegisters (empty_heap b) m.registers) (map new_mutator ms)
nil-registers b [] = tt
nil-registers b (m ∷ ms) = (λ d small some. absurd (some (zeros.zero_of 16 d)), nil-registers b ms)

-- mutators 1 to n may use the empty heap
pub new-may-use : (b n : ℕ) → n ≤ 16 → MayUse (empty_heap b) (map new_mutator (range_with_len 1 n))
new-may-use b n most = record {
  mutators = (zeros.represents b (range_with_len 1 n) (range-small 1 n (omega arith) (omega arith)) (range-differ 1 n)).mutators;
  registers = nil-registers b (range_with_len 1 n);
  names = λ a holds. absurd (zeros.none_held b a holds);
}

-- one more of them
pub new-more : (old new : List Mutator) (m : Mutator) (n : ℕ) → new ≡ old ++ m ∷ [] → mutator_state m ≡ new_mutator (n + 1)
    → map mutator_state old ≡ map new_mutator (range_with_len 1 n) → map mutator_state new ≡ map new_mutator (range_with_len 1 (n + 1))
new-more old new m n pushed is before =
    ap (map mutator_state) pushed ∙ map-append mutator_state old (m ∷ [])
    ∙ ap (λ l. l ++ mutator_state m ∷ []) before
    ∙ ap (λ x. map new_mutator (range_with_len 1 n) ++ x ∷ []) is
    ∙ sym (map-range_with_len_more new_mutator 1 n (n + 1) (omega arith))

states-length : (ms : List Mutator) → length (map mutator_state ms) ≡ length ms
states-length [] = refl
states-length (m ∷ ms) = ap suc (states-length ms)

news-length : (ms : List ℕ) → length (map new_mutator ms) ≡ length ms
news-length [] = refl
news-length (m ∷ ms) = ap suc (news-length ms)

pub new-length : (ms : List Mutator) (n : ℕ) → map mutator_state ms ≡ map new_mutator (range_with_len 1 n) → length ms ≡ n
new-length ms n same =
    sym (states-length ms) ∙ ap length same ∙ news-length (range_with_len 1 n) ∙ length-range_with_len 1 n
