-- Size classes by the highest bits of a size, and the starts of cells in a word: each compared with the definition at
-- all values that there are.
use Rattle.std.proofs.Common.{◌≡◌, refl, sym, ap, subst, ℕ, ◌+◌, ◌*◌, ◌-◌, ◌/◌, ◌%◌, ◌^◌, ◌<◌, ◌≤◌, max, arith, Bool, true, false, ◌&&◌, nat_eq, nat_le, [], ◌∷◌, slice_index, if◌then◌else◌, Option, Some, None}
use Rattle.std.specs.Int.{bit_at}
use Rattle.std.specs.Int.Count.{count_leading_zeros}
use Rattle.std.specs.List.{range_with_len, list_all}
use Rattle.std.proofs.lemmas.Bool.{and_parts, eqb-true, leb-true}
use Rattle.object_model.specs.Objects.{cell_words}
use Rattle.object_model.proofs.LawfulTests.{below}
use Rattle.sessions.specs.Fitting.{class_of}

-- the place of the second highest bit of a number, which is one less than a size
abbrev pub second : ℕ → ℕ
second last = 30 - count_leading_zeros 32 last

abbrev pub by_bits : ℕ → ℕ
by_bits last = 2 * second last + last / 2 ^ second last

abbrev is_option : Option ℕ → ℕ → Bool
is_option (Some n) m = nat_eq n m
is_option None m = false

option-is : (o : Option ℕ) (n : ℕ) → is_option o n ≡ true → o ≡ Some n
option-is (Some m) n is = ap (λ (x : ℕ). Some x) (eqb-true m n is)
option-is None n is = absurd (let wrong : false ≡ true = is in cc)

abbrev is_right : ℕ → ℕ → Bool
is_right size last = nat_le (count_leading_zeros 32 last) 30
    && (nat_le 3 (by_bits last) && (nat_le (by_bits last) 21 && is_option (class_of size) (by_bits last - 3)))

all-right : list_all (λ size. is_right size (max size 4 - 1)) (range_with_len 0 2049) ≡ true
unfolding count_leading_zeros
all-right = refl

module _ (size last : ℕ) (most : size ≤ 2048) (is : last ≡ max size 4 - 1) where
  right : is_right size last ≡ true
  right = subst (λ (n : ℕ). is_right size n ≡ true) (sym is) (below (λ n. is_right n (max n 4 - 1)) 2049 all-right size (omega arith))

  pub high : count_leading_zeros 32 last ≤ 30
  high = leb-true (count_leading_zeros 32 last) 30 (and_parts (nat_le (count_leading_zeros 32 last) 30) _ right).0

  rest : (nat_le 3 (by_bits last) && (nat_le (by_bits last) 21 && is_option (class_of size) (by_bits last - 3))) ≡ true
  rest = (and_parts (nat_le (count_leading_zeros 32 last) 30) _ right).1

  pub least : 3 ≤ by_bits last
  least = leb-true 3 (by_bits last) (and_parts (nat_le 3 (by_bits last)) _ rest).0

  last-two : (nat_le (by_bits last) 21 && is_option (class_of size) (by_bits last - 3)) ≡ true
  last-two = (and_parts (nat_le 3 (by_bits last)) _ rest).1

  pub class-most : by_bits last - 3 ≤ 18
  class-most = (let few : by_bits last ≤ 21 = leb-true (by_bits last) 21 (and_parts (nat_le (by_bits last) 21) _ last-two).0 in omega arith)

  pub class-is : class_of size ≡ Some (by_bits last - 3)
  class-is = option-is (class_of size) (by_bits last - 3) (and_parts (nat_le (by_bits last) 21) _ last-two).1

-- the words of cell starts
abbrev pub starts_of : ℕ → ℕ
starts_of class = slice_index (1229782938247303441 ∷ 1171221845949812801 ∷ 72340172838076673 ∷ 1153203048319815681 ∷ 281479271743489 ∷ 281474993487873
    ∷ 4294967297 ∷ 281474976710657 ∷ 1 ∷ 1 ∷ 1 ∷ 1 ∷ 1 ∷ 1 ∷ 1 ∷ 1 ∷ 1 ∷ 1 ∷ 1 ∷ []) class

abbrev is_start_bit : ℕ → ℕ → Bool
is_start_bit class n = nat_eq (bit_at (starts_of class) n) (if nat_eq (n % cell_words class) 0 then 1 else 0)

all-starts : list_all (λ class. list_all (is_start_bit class) (range_with_len 0 64)) (range_with_len 0 19) ≡ true
all-starts = refl

pub starts-are : (class n : ℕ) → class ≤ 18 → n < 64 → bit_at (starts_of class) n ≡ (if nat_eq (n % cell_words class) 0 then 1 else 0)
starts-are class n known small =
    let row : list_all (is_start_bit class) (range_with_len 0 64) ≡ true = below (λ k. list_all (is_start_bit k) (range_with_len 0 64)) 19 all-starts class (omega arith) in
    eqb-true _ _ (below (is_start_bit class) 64 row n small)
