-- The lines in which objects begin, and those that their last objects touch.
use Rattle.std.proofs.Common.{◌≡◌, ℕ, ◌+◌, ◌*◌, ◌-◌, ◌/◌, ◌%◌, ◌^◌, ◌<◌, ◌≤◌, ◌⊎◌, ◌↔◌, inl, inr, refl, sym, ap, ◌∙◌, subst, arith, w64, IsTrue, bit_and, bit_or, min, max, List, length, slice_index}
use Rattle.std.specs.Int.{bit_at, bit_not}
use Rattle.std.proofs.lemmas.Bool.{cases_eq, cases_lt, eq-eqb, eqb-true}
use Rattle.std.proofs.lemmas.Nat.{pow_pos}
use Rattle.std.proofs.lemmas.Nat.Bits.{bit_at_and, bit_at_or, bit_at_not, bit_at_cat_low, bit_at_cat_high, bit_at-lt, bit_at-zero, bit_at-suc, bit_at_above, bit_at_clear_same, bit_at_clear_other}
use Rattle.object_model.specs.Objects.{HeapState}
use Rattle.block_sweeps.specs.Sweeping.{AreApart, IsTouchedHere}
use Rattle.block_sweeps.specs.Touches.{AddsEnds, AreBegun, AreBegunFrom, AreBitsOf, AreStarts, BeginsFrom, BeginsIn, HasLinesOf, MarksFrom, IsTouchedFrom, has_line}
use Rattle.block_sweeps.proofs.LineStarts.{begins, begins-none, own-line, two-lines}
use Rattle.block_sweeps.proofs.TouchedLines.{here-from, from-here}
use Rattle.block_sweeps.proofs.TouchedWords.{without}

-- the low bits of a number that is shifted, and the others
cut : (x i : ℕ) → i < 64 → bit_at (x % 2 ^ 64) i ≡ bit_at x i
cut x i few = sym (bit_at_cat_low (x / 2 ^ 64) 64 (x % 2 ^ 64) i few) ∙ ap (λ v. bit_at v i) (omega arith)

shifted-low : (n k i : ℕ) → i < 64 → i < k → bit_at (n * 2 ^ k % 2 ^ 64) i ≡ 0
shifted-low n k i few low = cut (n * 2 ^ k) i few ∙ ap (λ v. bit_at v i) (omega arith) ∙ bit_at_cat_low n k 0 i low ∙ bit_at-zero i

shifted-high : (n k i : ℕ) → i < 64 → k ≤ i → bit_at (n * 2 ^ k % 2 ^ 64) i ≡ bit_at n (i - k)
shifted-high n k i few high = cut (n * 2 ^ k) i few ∙ ap (λ v. bit_at v i) (omega arith) ∙ bit_at_cat_high n k 0 i (pow_pos k) high

module _ (s : HeapState) (k : ℕ) where
  -- no line is among none
  pub begun-none : (first : ℕ) → AreBegunFrom s k first 0 0
  begun-none first = record {
    set = λ i small one. absurd (omega (arith, one, bit_at-zero i));
    all = λ i few is. absurd (omega (arith, few));
  }

  -- the lines of a line's bits, which are 0 or not
  pub begun-one : (index line word bits one : ℕ) → line < 4 → bits < 2 ^ 64 → AreStarts s k index word → AreBitsOf line word bits
      → (bits ≡ 0 → one ≡ 0) → ((bits ≡ 0 → ⊥) → one ≡ 1) → AreBegunFrom s k (4 * index + line) 1 one
  begun-one index line word bits one few small starts are none some = record {
    set = λ i low set. elim (cases_eq bits 0) as (λ _. (i < 1) × BeginsIn s k (4 * index + line + i)) [
      | inl zero ↦ absurd (let clear : bit_at one i ≡ 0 = ap (λ v. bit_at v i) (none zero) ∙ bit_at-zero i in omega (arith, clear, set))
      | inr not ↦
          let first : i < 1 = elim (cases_lt i 1) as (λ _. i < 1) [
            | inl is ↦ is
            | inr past ↦ absurd (let clear : bit_at one i ≡ 0 = ap (λ v. bit_at v i) (some not) ∙ bit_at_above 1 1 i (omega arith) past in omega (arith, clear, set))
          ] in (first, subst (BeginsIn s k) (omega (arith, first)) (begins s k index line word bits few small not starts are))
    ];
    all = λ i low is. elim (cases_eq bits 0) as (λ _. bit_at one i ≡ 1) [
      | inl zero ↦ absurd (begins-none s k index line word bits few zero starts are (subst (BeginsIn s k) (omega (arith, low)) is))
      | inr not ↦ ap (λ v. bit_at v i) (some not) ∙ ap (bit_at 1) (let first : i ≡ 0 = omega (arith, low) in first)
    ];
  }

  -- the lines of some bits, and of others after them
  pub begun-join : (first count more old next : ℕ) → count + more ≤ 64 → AreBegunFrom s k first count old → AreBegunFrom s k (first + count) more next
      → AreBegunFrom s k first (count + more) (bit_or old (next * 2 ^ count % 2 ^ 64))
  begun-join first count more old next fits one two =
      let shifted : ℕ = next * 2 ^ count % 2 ^ 64 in record {
        set = λ i small set.
            let both : max (bit_at old i) (bit_at shifted i) ≡ 1 = sym (bit_at_or old shifted i) ∙ set in
            elim (cases_lt i count) as (λ _. (i < count + more) × BeginsIn s k (first + i)) [
              | inl low ↦ (omega (arith, low), (one.set i small (let is : bit_at old i ≡ 1 = omega (arith, both, shifted-low next count i small low) in is)).1)
              | inr high ↦
                  let clear : bit_at old i ≡ 0 = elim (cases_eq (bit_at old i) 1) as (λ _. bit_at old i ≡ 0) [
                    | inl is ↦ absurd (let below : i < count = (one.set i small is).0 in omega (arith, below, high))
                    | inr not ↦ omega (arith, not, bit_at-lt old i)
                  ] in
                  let is : bit_at next (i - count) ≡ 1 = omega (arith, both, clear, shifted-high next count i small high) in
                  let found = two.set (i - count) (omega (arith, small)) is in
                  (omega (arith, high, found.0), subst (BeginsIn s k) (omega (arith, high)) found.1)
            ];
        all = λ i few is. bit_at_or old shifted i ∙ elim (cases_lt i count) as (λ _. max (bit_at old i) (bit_at shifted i) ≡ 1) [
          | inl low ↦ (let both : max (bit_at old i) (bit_at shifted i) ≡ 1
              = omega (arith, one.all i low is, shifted-low next count i (omega (arith, few, fits)) low) in both)
          | inr high ↦
              let set : bit_at next (i - count) ≡ 1 = two.all (i - count) (omega (arith, few, high)) (subst (BeginsIn s k) (omega (arith, high)) is) in
              let both : max (bit_at old i) (bit_at shifted i) ≡ 1
              = omega (arith, set, bit_at-lt old i, shifted-high next count i (omega (arith, few, fits)) high) in both
        ];
      }

  -- the lines of a word
  pub are-begun : (word bits : ℕ) → AreBegunFrom s k (64 * word) 64 bits → AreBegun s k word bits
  are-begun word bits are = record { set = λ i small one. (are.set i small one).1; all = are.all }

  -- the bits that are set, and whose next higher bit is clear
  abbrev last_bits : ℕ → ℕ
  last_bits bits = bit_and bits (bit_not w64 (bits / 2))

  last-parts : (bits i : ℕ) → bits < 2 ^ 64 → i < 64 → bit_at (last_bits bits) i ≡ min (bit_at bits i) (1 - bit_at bits (i + 1))
  last-parts bits i small few =
      bit_at_and bits (bit_not w64 (bits / 2)) i
      ∙ ap (min (bit_at bits i)) (bit_at_not w64 (bits / 2) i (omega (arith, small)) few ∙ ap (λ b. 1 - b) (sym (bit_at-suc bits i) ∙ ap (bit_at bits) (omega arith)))

  module _ (word begun : ℕ) (small : begun < 2 ^ 64) (here : word < 4) (are : AreBegun s k word begun) where
    -- each of these bits is that of a line in which an object begins
    pub last-begins : (i : ℕ) → i < 64 → bit_at (last_bits begun) i ≡ 1 → BeginsIn s k (64 * word + i)
    last-begins i few one =
        let parts : min (bit_at begun i) (1 - bit_at begun (i + 1)) ≡ 1 = sym (last-parts begun i small few) ∙ one in
        are.set i few (omega (arith, parts, bit_at-lt begun i))

    -- for any other line in which an object begins, one begins in the next line
    pub next-begins : (line : ℕ) → 64 * word ≤ line → line < 64 * word + 64 → BeginsIn s k line
        → BeginsFrom s k 0 256 (line + 1) ⊎ (bit_at (last_bits begun) (line - 64 * word) ≡ 1)
    next-begins line after below is =
        let i : ℕ = line - 64 * word in
        let at : line ≡ 64 * word + i = omega arith in
        let one : bit_at begun i ≡ 1 = are.all i (omega arith) (subst (BeginsIn s k) at is) in
        let parts = last-parts begun i small (omega arith) in
        elim (cases_eq (bit_at begun (i + 1)) 1) as (λ _. BeginsFrom s k 0 256 (line + 1) ⊎ (bit_at (last_bits begun) i ≡ 1)) [
          | inl next ↦ elim (cases_lt (i + 1) 64) as (λ _. BeginsFrom s k 0 256 (line + 1) ⊎ (bit_at (last_bits begun) i ≡ 1)) [
            | inl inside ↦ inl (record { after = omega arith; below = omega arith; begins = subst (BeginsIn s k) (omega arith) (are.set (i + 1) inside next) })
            | inr past ↦ absurd (let clear : bit_at begun (i + 1) ≡ 0 = bit_at_above begun 64 (i + 1) small past in omega (arith, clear, next))
          ]
          | inr not ↦ inr (parts ∙ (let clear : bit_at begun (i + 1) ≡ 0 = omega (arith, not, bit_at-lt begun (i + 1)) in
              let both : min (bit_at begun i) (1 - bit_at begun (i + 1)) ≡ 1 = omega (arith, one, clear) in both))
        ]

  -- what is left to do of the lines of a word: those whose bits are left
  pub record EndsLeft (word rest : ℕ) (old new : List ℕ) : Type 0 where
    pub extent : length new ≡ length old
    pub kept : (n : ℕ) → IsTrue (has_line old n) → IsTrue (has_line new n)
    pub begins : (i : ℕ) → i < 64 → bit_at rest i ≡ 1 → BeginsIn s k (64 * word + i)
    pub ends : (line : ℕ) → 64 * word ≤ line → line < 64 * word + 64 → BeginsIn s k line
        → BeginsFrom s k 0 256 (line + 1) ⊎ (HasLinesOf s k line new ⊎ (bit_at rest (line - 64 * word) ≡ 1))
    pub only : (n : ℕ) → IsTrue (has_line new n) → IsTrue (has_line old n) ⊎ IsTouchedFrom s k 0 4096 n

  pub left-first : (word begun : ℕ) (lines : List ℕ) → begun < 2 ^ 64 → word < 4 → AreBegun s k word begun → EndsLeft word (last_bits begun) lines lines
  left-first word begun lines small few are = record {
    extent = refl;
    kept = λ n is. is;
    begins = last-begins word begun small few are;
    ends = λ line after below is. elim (next-begins word begun small few are line after below is)
        as (λ _. BeginsFrom s k 0 256 (line + 1) ⊎ (HasLinesOf s k line lines ⊎ (bit_at (last_bits begun) (line - 64 * word) ≡ 1))) [
          | inl next ↦ inl next
          | inr left ↦ inr (inr left)
        ];
    only = λ n is. inl is;
  }

  -- the lines of one more last object
  pub left-next : (word rest bit : ℕ) (old lines new : List ℕ) → bit < 64 → bit_at rest bit ≡ 1 → EndsLeft word rest old lines
      → MarksFrom s k (16 * (64 * word + bit)) (16 * (64 * word + bit) + 16) lines new → EndsLeft word (without rest bit) old new
  left-next word rest bit old lines new few set left marks = record {
    extent = marks.extent ∙ left.extent;
    kept = λ n is. marks.kept n (left.kept n is);
    begins = λ i small one. elim (cases_eq i bit) as (λ _. BeginsIn s k (64 * word + i)) [
      | inl same ↦ absurd (let clear : bit_at (without rest bit) bit ≡ 0 = bit_at_clear_same w64 rest bit few in
          let again : bit_at (without rest bit) bit ≡ 1 = ap (bit_at (without rest bit)) (sym same) ∙ one in omega (arith, clear, again))
      | inr other ↦ left.begins i small (sym (bit_at_clear_other w64 rest bit few i small other) ∙ one)
    ];
    ends = λ line after below is. elim (left.ends line after below is)
        as (λ _. BeginsFrom s k 0 256 (line + 1) ⊎ (HasLinesOf s k line new ⊎ (bit_at (without rest bit) (line - 64 * word) ≡ 1))) [
          | inl next ↦ inl next
          | inr (inl has) ↦ inr (inl (λ n touched. marks.kept n (has n touched)))
          | inr (inr one) ↦ elim (cases_eq (line - 64 * word) bit)
              as (λ _. BeginsFrom s k 0 256 (line + 1) ⊎ (HasLinesOf s k line new ⊎ (bit_at (without rest bit) (line - 64 * word) ≡ 1))) [
                | inl same ↦ (let at : 64 * word + bit ≡ line = omega arith in
                    inr (inl (λ n touched. marks.added n (subst (λ (l : ℕ). IsTouchedFrom s k (16 * l) (16 * l + 16) n) (sym at) touched))))
                | inr other ↦ inr (inr (bit_at_clear_other w64 rest bit few (line - 64 * word) (omega arith) other ∙ one))
              ]
        ];
    only = λ n is. elim (marks.only n is) as (λ _. IsTrue (has_line old n) ⊎ IsTouchedFrom s k 0 4096 n) [ inl was ↦ left.only n was | inr touched ↦ inr touched ];
  }

  -- nothing is left
  pub left-none : (word rest : ℕ) (old new : List ℕ) → rest ≡ 0 → EndsLeft word rest old new → AddsEnds s k (64 * word) (64 * word + 64) old new
  left-none word rest old new none left = record {
    extent = left.extent;
    kept = left.kept;
    ends = λ line after below is. elim (left.ends line after below is) as (λ _. BeginsFrom s k 0 256 (line + 1) ⊎ HasLinesOf s k line new) [
      | inl next ↦ inl next
      | inr (inl has) ↦ inr has
      | inr (inr one) ↦ absurd (let zero : bit_at rest (line - 64 * word) ≡ 0 = ap (λ v. bit_at v (line - 64 * word)) none ∙ bit_at-zero (line - 64 * word) in omega (arith, zero, one))
    ];
    only = left.only;
  }

  -- the ends of lines from one number on, and from another
  pub ends-on : (from mid to : ℕ) (old between new : List ℕ) → AddsEnds s k from mid old between → AddsEnds s k mid to between new → AddsEnds s k from to old new
  ends-on from mid to old between new one two = record {
    extent = two.extent ∙ one.extent;
    kept = λ n is. two.kept n (one.kept n is);
    ends = λ line after below is. elim (cases_lt line mid) as (λ _. BeginsFrom s k 0 256 (line + 1) ⊎ HasLinesOf s k line new) [
      | inl before ↦ elim (one.ends line after before is) as (λ _. BeginsFrom s k 0 256 (line + 1) ⊎ HasLinesOf s k line new) [
        | inl next ↦ inl next
        | inr has ↦ inr (λ n touched. two.kept n (has n touched))
      ]
      | inr past ↦ two.ends line past below is
    ];
    only = λ n is. elim (two.only n is) as (λ _. IsTrue (has_line old n) ⊎ IsTouchedFrom s k 0 4096 n) [ inl was ↦ one.only n was | inr touched ↦ inr touched ];
  }

  -- the lines in which objects begin and those of the last objects are all that are touched
  module _ (begun lines : List ℕ) (there : k < s.blocks) (apart : AreApart s k) (are : (word : ℕ) → word < 4 → AreBegun s k word (slice_index begun word))
      (adds : AddsEnds s k 0 256 begun lines) where
    begun-line : (n : ℕ) → n < 256 → BeginsIn s k n → IsTrue (has_line lines n)
    begun-line n few is =
        let at : n ≡ 64 * (n / 64) + n % 64 = omega arith in
        adds.kept n (eq-eqb (bit_at (slice_index begun (n / 64)) (n % 64)) 1 ((are (n / 64) (omega arith)).all (n % 64) (omega arith) (subst (BeginsIn s k) at is)))

    line-begun : (n : ℕ) → n < 256 → IsTrue (has_line begun n) → BeginsIn s k n
    line-begun n few is =
        let at : 64 * (n / 64) + n % 64 ≡ n = omega arith in
        subst (BeginsIn s k) at ((are (n / 64) (omega arith)).set (n % 64) (omega arith) (eqb-true (bit_at (slice_index begun (n / 64)) (n % 64)) 1 is))

    touched-line : (n : ℕ) → n < 256 → IsTouchedFrom s k 0 4096 n → IsTrue (has_line lines n)
    touched-line n few is =
        let below : is.offset < 4096 = is.below in
        let line : ℕ = is.offset / 16 in
        let begins : BeginsIn s k line = record { offset = is.offset; from = omega arith; below = omega arith; start = is.start } in
        elim (adds.ends line (omega arith) (omega arith) begins) as (λ _. IsTrue (has_line lines n)) [
          | inl next ↦
              (let last : line + 1 < 256 = next.below in
              let two = two-lines s k there apart line n is.offset (omega arith) next.begins (omega arith) (omega arith) is.start is.touches in
              elim (cases_eq n line) as (λ _. IsTrue (has_line lines n)) [
                | inl same ↦ begun-line n few (subst (BeginsIn s k) (sym same) begins)
                | inr other ↦ (let after : line ≤ n = two.after in let most : n ≤ line + 1 = two.most in begun-line n few (subst (BeginsIn s k) (omega arith) next.begins))
              ])
          | inr has ↦ has n (record { offset = is.offset; after = omega arith; below = omega arith; start = is.start; touches = is.touches })
        ]

    pub ends-all : (line : ℕ) → line < 256 → IsTrue (has_line lines line) ↔ IsTouchedHere s k line
    ends-all line few = (
      λ is. elim (adds.only line is) as (λ _. IsTouchedHere s k line) [
        | inl was ↦ here-from s k line there (own-line s k line few (line-begun line few was))
        | inr touched ↦ here-from s k line there touched
      ],
      λ is. touched-line line few (from-here s k line there is),
    )
