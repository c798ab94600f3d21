-- Line bits are set in one word after another.
use Rattle.std.proofs.Common.{◌≡◌, ◌≢◌, ℕ, ◌+◌, ◌*◌, ◌-◌, ◌/◌, ◌%◌, ◌^◌, ◌<◌, ◌≤◌, ◌⊎◌, inl, inr, refl, sym, ap, ◌∙◌, arith, IsTrue, nat_eq, min, max, List, length, slice_index}
use Rattle.side_meta.specs.BitWords.{has_bit}
use Rattle.std.specs.Int.{bit_at}
use Rattle.std.proofs.lemmas.Bool.{cases_eq, cases_lt}
use Rattle.heap_layout.specs.Zones.{LineWords, first, heap_of, row_words, line_at, bit_of, IsAddress}
use Rattle.heap_layout.specs.declared.layout.Layout.{Layout}
use Rattle.object_model.specs.Lines.{TouchesLine}
use Rattle.object_model.specs.Objects.{state_over}
use Rattle.line_bits.specs.LineMarks.{HasTouched, MarksLines, SetsRun, IsFromTo}

abbrev IsSet : ℕ → List ℕ → ℕ → Type 0
IsSet b words n = IsTrue (bit_of b LineWords words n)

-- n is one of the lines `from` to `to`, and lies in a word before this one
pub record IsBefore (from to word n : ℕ) : Type 0 where
  pub after : from ≤ n
  pub most : n ≤ to
  pub before : n < 64 * word

-- those lines were marked, and nothing else changed
pub record MarksTo (b from to word : ℕ) (old new : List ℕ) : Type 0 where
  pub extent : length new ≡ length old
  pub added : (n : ℕ) → IsBefore from to word n → IsSet b new n
  pub kept : (n : ℕ) → IsSet b old n → IsSet b new n
  pub only : (n : ℕ) → IsSet b new n → IsSet b old n ⊎ IsBefore from to word n
  pub others : (i : ℕ) → (first b LineWords + from / 64 ≤ i → i < first b LineWords + word → ⊥) → slice_index new i ≡ slice_index old i
  pub fit : ((i : ℕ) → slice_index old i < 2 ^ 64) → (i : ℕ) → slice_index new i < 2 ^ 64

pub marks-none : (b from to : ℕ) (words : List ℕ) → MarksTo b from to (from / 64) words words
marks-none b from to words = record {
  extent = refl;
  added = λ n is. let after : from ≤ n = is.after in let before : n < 64 * (from / 64) = is.before in absurd (omega arith);
  kept = λ n is. is;
  only = λ n is. inl is;
  others = λ i outside. refl;
  fit = λ fits. fits;
}

-- a run of bits is set in one word
module _ (b word low high : ℕ) (mid new : List ℕ) (sets : SetsRun mid new (first b LineWords + word) low high) where
  here-bit : (words : List ℕ) (n : ℕ) → n / 64 ≡ word → bit_of b LineWords words n ≡ has_bit (slice_index words (first b LineWords + word)) (n % 64)
  here-bit words n here = ap (λ i. has_bit (slice_index words (first b LineWords + i)) (n % 64)) here

  other : (n : ℕ) → n / 64 ≢ word → bit_of b LineWords new n ≡ bit_of b LineWords mid n
  other n away = ap (λ v. nat_eq (bit_at v (n % 64)) 1) (sets.others (first b LineWords + n / 64) (λ e. away (omega arith)))

  pub among : (n : ℕ) → n / 64 ≡ word → IsFromTo low high (n % 64) → IsSet b new n
  among n here run = here-bit new n here ∙ sets.added (n % 64) run

  pub still : (n : ℕ) → IsSet b mid n → IsSet b new n
  still n was = elim (cases_eq (n / 64) word) as (λ _. IsSet b new n) [
    | inl here ↦ here-bit new n here ∙ sets.kept (n % 64) (sym (here-bit mid n here) ∙ was)
    | inr away ↦ other n away ∙ was
  ]

  pub set-by : (n : ℕ) → IsSet b new n → IsSet b mid n ⊎ ((n / 64 ≡ word) × IsFromTo low high (n % 64))
  set-by n is = elim (cases_eq (n / 64) word) as (λ _. IsSet b mid n ⊎ ((n / 64 ≡ word) × IsFromTo low high (n % 64))) [
    | inl here ↦ elim (sets.only (n % 64) (sym (here-bit new n here) ∙ is)) as (λ _. IsSet b mid n ⊎ ((n / 64 ≡ word) × IsFromTo low high (n % 64))) [
      | inl was ↦ inl (here-bit mid n here ∙ was)
      | inr run ↦ inr (here, run)
    ]
    | inr away ↦ inl (sym (other n away) ∙ is)
  ]

-- one word more
pub marks-more : (b from to word low high : ℕ) (old mid new : List ℕ) → from / 64 ≤ word → word < to / 64 + 1
    → low ≡ from - 64 * word → high ≡ min (to - 64 * word) 63 → MarksTo b from to word old mid
    → SetsRun mid new (first b LineWords + word) low high → MarksTo b from to (word + 1) old new
marks-more b from to word low high old mid new after below low-is high-is marks sets = record {
  extent = sets.extent ∙ marks.extent;
  added = λ n is. elim (cases_lt n (64 * word)) as (λ _. IsSet b new n) [
    | inl earlier ↦ still b word low high mid new sets n (marks.added n (record { after = is.after; most = is.most; before = earlier }))
    | inr here ↦ (let less : n < 64 * (word + 1) = is.before in let start : from ≤ n = is.after in let end : n ≤ to = is.most in
        among b word low high mid new sets n (omega arith) (record { after = omega arith; most = omega arith }))
  ];
  kept = λ n was. still b word low high mid new sets n (marks.kept n was);
  only = λ n is. elim (set-by b word low high mid new sets n is) as (λ _. IsSet b old n ⊎ IsBefore from to (word + 1) n) [
    | inl was ↦ elim (marks.only n was) as (λ _. IsSet b old n ⊎ IsBefore from to (word + 1) n) [
      | inl before ↦ inl before
      | inr earlier ↦ inr (let less : n < 64 * word = earlier.before in record { after = earlier.after; most = earlier.most; before = omega arith })
    ]
    | inr here ↦ (let run = here.1 in let start : low ≤ n % 64 = run.after in let end : n % 64 ≤ high = run.most in let at : n / 64 ≡ word = here.0 in
        inr (record { after = omega arith; most = omega arith; before = omega arith }))
  ];
  others = λ i outside. sets.others i (λ e. outside (omega arith) (omega arith)) ∙ marks.others i (λ from below. outside from (omega arith));
  fit = λ fits. sets.fit (marks.fit fits);
}

-- all bits are in one word
pub marks-in-word : (b from to : ℕ) (old new : List ℕ) → from / 64 ≡ to / 64 → SetsRun old new (first b LineWords + from / 64) (from % 64) (to % 64)
    → MarksTo b from to (from / 64 + 1) old new
marks-in-word b from to old new same sets = marks-more b from to (from / 64) (from % 64) (to % 64) old old new (omega arith) (omega arith)
    (omega arith) (omega arith) (marks-none b from to old) sets

-- an object's last word is one of the heap
pub last-address : (b a size : ℕ) → IsAddress b a → 1 ≤ size → a + size ≤ row_words b → IsAddress b (a + size - 1)
last-address b a size address some last = let from = address.from in record { from = omega arith; below = omega arith }

-- the words between those of the first and the last line have bits of touched lines
touched-word : (b a size i : ℕ) → heap_of b ≤ a → 1 ≤ size → first b LineWords + line_at b a / 64 ≤ i → i < first b LineWords + (line_at b (a + size - 1) / 64 + 1) → HasTouched b a size i
touched-word b a size i from some after below = record {
  line = max (line_at b a) (64 * (i - first b LineWords));
  touches = record { from = omega arith; below = omega arith };
  word = omega arith;
}

-- then all lines of an object are marked
pub marks-lines : (l : Layout) (a size first-line last-line word : ℕ) (old new : List ℕ) → IsAddress l.blocks a → 1 ≤ size
    → first-line ≡ line_at l.blocks a → last-line ≡ line_at l.blocks (a + size - 1) → word ≡ last-line / 64 + 1
    → MarksTo l.blocks first-line last-line word old new → MarksLines (state_over old l 0 0) (state_over new l 0 0) a size
marks-lines l a size first-line last-line word old new address some first-is last-is end marks = let from = address.from in record {
  marked = λ n has. let after = has.from in let before = has.below in marks.added n (record { after = omega arith; most = omega arith; before = omega arith });
  kept = marks.kept;
  only = λ n is. elim (marks.only n is) as (λ _. IsSet l.blocks old n ⊎ TouchesLine l.blocks a size n) [
    | inl was ↦ inl was
    | inr here ↦ inr (let after = here.after in let most = here.most in record { from = omega arith; below = omega arith })
  ];
  blocks = refl;
  extent = marks.extent;
  others = λ i outside. marks.others i (λ after below. outside (touched-word l.blocks a size i from some (omega arith) (omega arith)));
  fit = marks.fit;
}
