-- Worked heaps with one object are lawful, and some are not.
use Rattle.std.proofs.Common.{◌≡◌, ◌≢◌, refl, sym, ◌∙◌, ap, subst, ℕ, ◌+◌, ◌*◌, ◌-◌, ◌/◌, ◌%◌, ◌^◌, ◌<◌, ◌≤◌, inl, inr, arith, true, IsTrue, List, length, nat_eq, replicate, slice_index, slice_set, lit<}
use Rattle.std.specs.Int.{bit_at}
use Rattle.std.proofs.Math.Pow.{pow_mono}
use Rattle.std.proofs.Math.Nat.{div-eq_of_lt}
use Rattle.std.proofs.lemmas.Nat.Bits.{bit_at-zero, bit_at-pow_other}
use Rattle.std.proofs.lemmas.Bool.{cases_eq, cases_lt, eqb-true}
use Rattle.std.proofs.lemmas.List.{get_or-set_same, get_or-set_other, length-set, length-replicate}
use Rattle.heap_layout.specs.Zones.{StartBits, LineWords, bit_of}
use Rattle.heap_layout.specs.Blocks.{IsValidWord, code_of, kind_code}
use Rattle.heap_layout.specs.declared.block.Kind.{Kind}
use Rattle.heap_layout.specs.declared.block.Kind.TheVariants as kinds
use Rattle.heap_layout.proofs.BlockLemmas.{code_parts, kind_code_most, valid_most}
use Rattle.heap_layout.proofs.MarkLemmas.{bit_from_mark}
use Rattle.ideal_heap.specs.Names.{name}
use Rattle.object_model.specs.Objects.{HeapState, empty_heap, with_words, word_at, block_word, HasKind, class_at, IsHeld, size_at, size_of, cell_words}
use Rattle.object_model.specs.Lawful.{IsLawful, LiesInCell, has_small}
use Rattle.object_model.specs.Changes.{WritesObject}
use Rattle.object_model.specs.Births.{IsVacant, IsRoom, MarksLinesOfBirth, MakesRun, with_block}
use Rattle.object_model.specs.WorkedHeaps.{unowned, one_block, with_lines, with_first_object}
use Rattle.object_model.proofs.Zeros as zeros
use Rattle.object_model.proofs.Zeros.{zero_of}
use Rattle.object_model.proofs.Blocks as blocks
use Rattle.object_model.proofs.TakenBlocks as taken
use Rattle.object_model.proofs.Births as births
use Rattle.object_model.proofs.Births.{Adds}
use Rattle.object_model.proofs.BornHeaps as born
use Rattle.object_model.proofs.OneKind.{kind-code, kind-from, is_small_code}

clear-bit : (n k : ℕ) → n ≡ 0 → IsTrue (nat_eq (bit_at n k) 1) → ⊥
clear-bit n k e h =
    let f : bit_at n k ≡ 0 = ap (λ x. bit_at x k) e ∙ bit_at-zero k in
    let same : bit_at n k ≡ 1 = eqb-true (bit_at n k) 1 h in
    omega arith

-- a list of words without a start bit, and with zeros from there on, takes the first object
module _ (w : List ℕ) (q : ℕ) (long : length w ≡ 17190) (zero : (i : ℕ) → 38 ≤ i → slice_index w i ≡ 0) (fits : (i : ℕ) → slice_index w i < 2 ^ 64) (few : q ≤ 60000) where
  abbrev s : HeapState
  s = with_words (empty_heap 4) w

  abbrev after : HeapState
  after = with_first_object s q

  abbrev w1 : List ℕ
  w1 = slice_set w 38 1

  abbrev w2 : List ℕ
  w2 = slice_set w1 806 33

  len1 : length w1 ≡ 17190
  len1 = length-set w 38 1 ∙ long

  len2 : length w2 ≡ 17190
  len2 = length-set w1 806 33 ∙ len1

  at807 : word_at after 807 ≡ 65536 * q
  at807 = get_or-set_same w2 807 (65536 * q) 0 (omega (arith, len2))

  at806 : word_at after 806 ≡ 33
  at806 = get_or-set_other w2 807 806 (65536 * q) 0 (omega arith) ∙ get_or-set_same w1 806 33 0 (omega (arith, len1))

  at38 : word_at after 38 ≡ 1
  at38 = get_or-set_other w2 807 38 (65536 * q) 0 (omega arith) ∙ get_or-set_other w1 806 38 33 0 (omega arith) ∙ get_or-set_same w 38 1 0 (omega (arith, long))

  pub other : (i : ℕ) → i ≢ 38 → i ≢ 806 → i ≢ 807 → word_at after i ≡ word_at s i
  other i n0 n1 n2 = get_or-set_other w2 807 i (65536 * q) 0 n2 ∙ get_or-set_other w1 806 i 33 0 n1 ∙ get_or-set_other w 38 i 1 0 n0

  word-fits : (i : ℕ) → word_at after i < 2 ^ 64
  word-fits i = elim (cases_eq i 38) as (λ _. word_at after i < 2 ^ 64) [
    | inl e ↦ subst (λ (v : ℕ). v < 2 ^ 64) (sym (ap (word_at after) e ∙ at38)) (lit< tt)
    | inr n0 ↦ elim (cases_eq i 806) as (λ _. word_at after i < 2 ^ 64) [
      | inl e ↦ subst (λ (v : ℕ). v < 2 ^ 64) (sym (ap (word_at after) e ∙ at806)) (lit< tt)
      | inr n1 ↦ elim (cases_eq i 807) as (λ _. word_at after i < 2 ^ 64) [
        | inl e ↦ subst (λ (v : ℕ). v < 2 ^ 64) (sym (ap (word_at after) e ∙ at807)) (omega arith)
        | inr n2 ↦ subst (λ (v : ℕ). v < 2 ^ 64) (sym (other i n0 n1 n2)) (fits i)
      ]
    ]
  ]

  start-other : (n : ℕ) → n < 16384 → n ≢ 0 → bit_of 4 StartBits after.words n ≡ bit_of 4 StartBits w n
  start-other n small some = elim (cases_eq (n / 64) 0) as (λ _. bit_of 4 StartBits after.words n ≡ bit_of 4 StartBits w n) [
    | inl e ↦
        let new : word_at after (38 + n / 64) ≡ 1 = ap (λ k. word_at after (38 + k)) e ∙ at38 in
        let old : slice_index w (38 + n / 64) ≡ 0 = zero (38 + n / 64) (omega arith) in
        ap (λ v. nat_eq v 1) (ap (λ v. bit_at v (n % 64)) new ∙ bit_at-pow_other 0 (n % 64) (omega arith) ∙ sym (ap (λ v. bit_at v (n % 64)) old ∙ bit_at-zero (n % 64)))
    | inr later ↦ ap (λ v. nat_eq (bit_at v (n % 64)) 1) (other (38 + n / 64) (omega arith) (omega arith) (omega arith))
  ]

  pub writes : WritesObject s after 806 (name 1 1) 0 q
  writes = record {
    blocks = refl;
    number = refl;
    base = refl;
    extent = length-set w2 807 (65536 * q) ∙ len2 ∙ sym long;
    words = word-fits;
    name = at806;
    shape = at807 ∙ (omega arith);
    blank = λ i least less. other (806 + i) (omega arith) (omega arith) (omega arith) ∙ zero (806 + i) (omega arith);
    start = ap (λ v. nat_eq (bit_at v 0) 1) at38;
    starts = start-other;
    others = λ i outside away. elim outside as (λ _. word_at after i ≡ word_at s i) [ inl before ↦ other i away (omega arith) (omega arith) | inr past ↦ other i away (omega arith) (omega arith) ];
  }

  none-held : (x : ℕ) → IsHeld s x → ⊥
  none-held x holds = clear-bit _ ((x - 806) % 64) (zero (38 + (x - 806) / 64) (omega arith)) (bit_from_mark 4 StartBits w x holds.start)

  pub vacant : IsVacant s 806 (name 1 1) 0 q
  vacant = record {
    address = record { from = lit< tt; below = lit< tt };
    named = record { least = lit< tt; most = lit< tt; born = lit< tt; fits = lit< tt };
    few_refs = omega arith;
    few_nums = few;
    apart = λ x i holds inside. absurd (none-held x holds);
    fresh = λ x holds. absurd (none-held x holds);
  }

abbrev nothing : List ℕ
nothing = replicate 17190 0

long0 : length nothing ≡ 17190
long0 = length-replicate {A = ℕ} 17190 0

-- a list of this length, with other words before index 38
set-long : (w : List ℕ) (i v : ℕ) → length w ≡ 17190 → length (slice_set w i v) ≡ 17190
set-long w i v long = length-set w i v ∙ long

set-zero : (w : List ℕ) (i v : ℕ) → i < 38 → ((j : ℕ) → 38 ≤ j → slice_index w j ≡ 0) → (j : ℕ) → 38 ≤ j → slice_index (slice_set w i v) j ≡ 0
set-zero w i v low zero j high = get_or-set_other w i j v 0 (omega arith) ∙ zero j high

set-fits : (w : List ℕ) (i v : ℕ) → i < length w → v < 2 ^ 64 → ((j : ℕ) → slice_index w j < 2 ^ 64) → (j : ℕ) → slice_index (slice_set w i v) j < 2 ^ 64
set-fits w i v within fits old j = elim (cases_eq j i) as (λ _. slice_index (slice_set w i v) j < 2 ^ 64) [
  | inl e ↦ subst (λ (x : ℕ). x < 2 ^ 64) (sym (ap (slice_index (slice_set w i v)) e ∙ get_or-set_same w i v 0 within)) fits
  | inr away ↦ subst (λ (x : ℕ). x < 2 ^ 64) (sym (get_or-set_other w i j v 0 away)) (old j)
]

zero-fits : (j : ℕ) → slice_index nothing j < 2 ^ 64
zero-fits j = subst (λ (x : ℕ). x < 2 ^ 64) (sym (zero_of 17190 j)) (lit< tt)

empty-lawful : IsLawful (empty_heap 4)
empty-lawful = zeros.lawful 4 (lit< tt) (lit< tt)

is-free : (k : ℕ) → k < 4 → HasKind (empty_heap 4) k kinds.Free
is-free k there = kind-from (empty_heap 4) k kinds.Free there (ap (λ v. v % 256) (zero_of 17190 (18 + k)))

-- block 0 of a kind for small objects
module _ (kind : Kind) (class : ℕ) (valid : IsValidWord (unowned kind class)) where
  abbrev code : ℕ
  code = code_of (unowned kind class)

  abbrev w0 : List ℕ
  w0 = slice_set nothing 18 (code_of (unowned kind class))

  parts : (code % 256 ≡ kind_code kind) × (code / 256 % 256 ≡ class) × (code / 65536 ≡ 0)
  parts = code_parts (kind_code kind) class 0 code (kind_code_most kind) (valid_most kind class 0 valid).0 refl

  fit0 : (i : ℕ) → slice_index w0 i < 2 ^ 64
  fit0 = set-fits nothing 18 code (omega (arith, long0)) (taken.fits (unowned kind class) valid) zero-fits

  block0 : block_word (one_block kind class) 0 ≡ code
  block0 = blocks.block-set (empty_heap 4) 0 code (lit< tt) long0

  kind0 : HasKind (one_block kind class) 0 kind
  kind0 = kind-from (one_block kind class) 0 kind (lit< tt) (ap (λ v. v % 256) block0 ∙ parts.0)

  pub class0 : class_at (one_block kind class) 0 ≡ class
  class0 = ap (λ v. v / 256 % 256) block0 ∙ parts.1

  small0 : IsTrue (is_small_code true (kind_code kind)) → IsTrue (has_small (one_block kind class) 0)
  small0 small = ap (λ v. is_small_code true (v % 256)) block0 ∙ ap (is_small_code true) parts.0 ∙ small

  lawful0 : IsTrue (is_small_code true (kind_code kind)) → IsLawful (one_block kind class)
  lawful0 small = taken.lawful (empty_heap 4) 0 (unowned kind class) empty-lawful (is-free 0 (lit< tt)) valid refl (small0 small)

  module _ (q : ℕ) (small : IsTrue (is_small_code true (kind_code kind))) (few : 3 + q ≤ 2048) (cell : kind_code kind ≡ 5 → LiesInCell (one_block kind class) 806 (3 + q)) where
    room : IsRoom (one_block kind class) 806 (name 1 1) 0 q
    room = record {
      vacant = vacant w0 q (set-long nothing 18 code long0) (set-zero nothing 18 code (lit< tt) (λ j high. zero_of 17190 j)) fit0 (omega arith);
      small = few;
      place = record {
        address = record { from = lit< tt; below = lit< tt };
        within = omega arith;
        kind = small0 small;
        cell = λ is. cell (sym (kind-code (one_block kind class) 0 kind kind0) ∙ kind-code (one_block kind class) 0 kinds.Cells is);
      };
    }

    pub lawful-one : kind_code kind ≢ 4 → IsLawful (with_first_object (one_block kind class) q)
    lawful-one no_lines = born.lawful-small (one_block kind class) (with_first_object (one_block kind class) q) 806 0 q (name 1 1) (lawful0 small).but_lines.order room
        (writes w0 q (set-long nothing 18 code long0) (set-zero nothing 18 code (lit< tt) (λ j high. zero_of 17190 j)) fit0 (omega arith))
        (λ is. no_lines (sym (kind-code (one_block kind class) 0 kind kind0) ∙ kind-code (one_block kind class) 0 kinds.Immix is)) (lawful0 small)

pub plain : (kind : Kind) → IsValidWord (unowned kind 0) → IsTrue (is_small_code true (kind_code kind)) → kind_code kind ≢ 4 → kind_code kind ≢ 5 → IsLawful (with_first_object (one_block kind 0) 1)
plain kind valid small no_lines no_cells = lawful-one kind 0 valid 1 small (omega arith) (λ e. absurd (no_cells e)) no_lines

pub in-cell : (class q : ℕ) → IsValidWord (unowned kinds.Cells class) → 3 + q ≤ 2048 → 3 + q ≤ cell_words class → cell_words class ≤ 4096 → 0 % cell_words class ≡ 0 → IsLawful (with_first_object (one_block kinds.Cells class) q)
in-cell class q valid few room within first_cell = lawful-one kinds.Cells class valid q refl few (λ e. record {
  start = subst (λ (k : ℕ). 0 % cell_words k ≡ 0) (sym (class0 kinds.Cells class valid)) first_cell;
  room = subst (λ (k : ℕ). 3 + q ≤ cell_words k) (sym (class0 kinds.Cells class valid)) room;
  within = subst (λ (k : ℕ). 0 + cell_words k ≤ 4096) (sym (class0 kinds.Cells class valid)) (omega (arith, within));
}) (λ e. omega arith)

-- the first two lines, and no others
low-two : (line : ℕ) → line < 2 → IsTrue (nat_eq (bit_at 3 line) 1)
low-two line less = elim (cases_eq line 0) as (λ _. IsTrue (nat_eq (bit_at 3 line) 1)) [
  | inl e ↦ subst (λ (i : ℕ). IsTrue (nat_eq (bit_at 3 i) 1)) (sym e) refl
  | inr n0 ↦ subst (λ (i : ℕ). IsTrue (nat_eq (bit_at 3 i) 1)) (sym (let e : line ≡ 1 = omega arith in e)) refl
]

no-third : (line : ℕ) → 2 ≤ line → bit_at 3 line ≡ 0
no-third line more =
    let big : 2 ^ 2 ≤ 2 ^ line = pow_mono more in
    let q : 3 / 2 ^ line ≡ 0 = div-eq_of_lt (omega (arith, big)) in
    ap (λ x. x % 2) q

module _ (w : List ℕ) (long : length w ≡ 17190) (zero : (i : ℕ) → 22 ≤ i → slice_index w i ≡ 0) (fits : (i : ℕ) → slice_index w i < 2 ^ 64) where
  abbrev lined : List ℕ
  lined = slice_set w 22 3

  own : slice_index lined 22 ≡ 3
  own = get_or-set_same w 22 3 0 (omega (arith, long))

  marks-two : MarksLinesOfBirth (with_words (empty_heap 4) w) (with_words (empty_heap 4) lined) 806 23
  marks-two = record {
    blocks = refl;
    number = refl;
    base = refl;
    extent = length-set w 22 3;
    words = set-fits w 22 3 (omega (arith, long)) (lit< tt) fits;
    marked = λ line touches.
        let from : 806 + 16 * line < 806 + 23 = touches.from in
        let e : 22 + line / 64 ≡ 22 = omega arith in
        let place : line % 64 ≡ line = omega arith in
        ap (λ i. nat_eq (bit_at (slice_index lined i) (line % 64)) 1) e ∙ ap (λ v. nat_eq (bit_at v (line % 64)) 1) own ∙ ap (λ k. nat_eq (bit_at 3 k) 1) place ∙ low-two line (omega arith);
    others = λ line below outside. elim (cases_eq (line / 64) 0) as (λ _. bit_of 4 LineWords lined line ≡ bit_of 4 LineWords w line) [
      | inl e ↦
          let new : slice_index lined (22 + line / 64) ≡ 3 = ap (λ k. slice_index lined (22 + k)) e ∙ own in
          let more : 2 ≤ line % 64 = elim (cases_lt line 2) as (λ _. 2 ≤ line % 64) [
            | inl low ↦ absurd (outside (record { from = omega arith; below = omega arith }))
            | inr high ↦ omega arith
          ] in
          ap (λ v. nat_eq v 1) (ap (λ v. bit_at v (line % 64)) new ∙ no-third (line % 64) more
          ∙ sym (ap (λ v. bit_at v (line % 64)) (zero (22 + line / 64) (omega arith)) ∙ bit_at-zero (line % 64)))
      | inr later ↦ ap (λ v. nat_eq (bit_at v (line % 64)) 1) (get_or-set_other w 22 (22 + line / 64) 3 0 (omega arith))
    ];
    rest = λ i away. elim away as (λ _. slice_index lined i ≡ slice_index w i) [ inl before ↦ get_or-set_other w 22 i 3 0 (omega arith) | inr past ↦ get_or-set_other w 22 i 3 0 (omega arith) ];
  }

-- an object of 23 words in two lines of an Immix block
pub immix : IsLawful (with_first_object (with_lines (one_block kinds.Immix 0) 3) 20)
immix =
    let w : List ℕ = w0 kinds.Immix 0 refl in
    let long : length w ≡ 17190 = set-long nothing 18 4 long0 in
    let zero : (i : ℕ) → 22 ≤ i → slice_index w i ≡ 0 = λ i high. get_or-set_other nothing 18 i 4 0 (omega arith) ∙ zero_of 17190 i in
    let fits : (i : ℕ) → slice_index w i < 2 ^ 64 = fit0 kinds.Immix 0 refl in
    born.lawful-marked_before (one_block kinds.Immix 0) (with_lines (one_block kinds.Immix 0) 3) (with_first_object (with_lines (one_block kinds.Immix 0) 3) 20) 806 0 20 (name 1 1)
    (lawful0 kinds.Immix 0 refl refl) (room kinds.Immix 0 refl 20 refl (omega arith) (λ e. absurd (omega arith))) (marks-two w long zero fits)
    (writes (slice_set w 22 3) 20 (set-long w 22 3 long) (set-zero w 22 3 (lit< tt) (λ i high. zero i (omega arith))) (set-fits w 22 3 (omega (arith, long)) (lit< tt) fits) (omega arith))

-- a run of two blocks
abbrev run_words : List ℕ
run_words = slice_set (slice_set nothing 18 518) 19 7

run-long : length run_words ≡ 17190
run-long = set-long (slice_set nothing 18 518) 19 7 (set-long nothing 18 518 long0)

run-zero : (i : ℕ) → 20 ≤ i → slice_index run_words i ≡ 0
run-zero i high = get_or-set_other (slice_set nothing 18 518) 19 i 7 0 (omega arith) ∙ get_or-set_other nothing 18 i 518 0 (omega arith) ∙ zero_of 17190 i

run-fits : (i : ℕ) → slice_index run_words i < 2 ^ 64
run-fits = set-fits (slice_set nothing 18 518) 19 7 (omega (arith, set-long nothing 18 518 long0)) (lit< tt) (set-fits nothing 18 518 (omega (arith, long0)) (lit< tt) zero-fits)

makes-two : MakesRun (empty_heap 4) (with_block (one_block kinds.LargeHead 2) 1 (unowned kinds.LargeTail 0)) 0 2
makes-two = record {
  blocks = refl;
  number = refl;
  base = refl;
  extent = run-long ∙ sym long0;
  head = get_or-set_other (slice_set nothing 18 518) 19 18 7 0 (omega arith) ∙ get_or-set_same nothing 18 518 0 (omega (arith, long0));
  tails = λ j some less. let e : j ≡ 1 = omega arith in
      subst (λ (i : ℕ). slice_index run_words (18 + (0 + i)) ≡ 7) (sym e) (get_or-set_same (slice_set nothing 18 518) 19 7 0 (omega (arith, set-long nothing 18 518 long0)));
  others = λ i away. elim away as (λ _. slice_index run_words i ≡ slice_index nothing i) [
    | inl before ↦ get_or-set_other (slice_set nothing 18 518) 19 i 7 0 (omega arith) ∙ get_or-set_other nothing 18 i 518 0 (omega arith)
    | inr past ↦ get_or-set_other (slice_set nothing 18 518) 19 i 7 0 (omega arith) ∙ get_or-set_other nothing 18 i 518 0 (omega arith)
  ];
}

pub large : IsLawful (with_first_object (with_block (one_block kinds.LargeHead 2) 1 (unowned kinds.LargeTail 0)) 5000)
large = born.lawful-large (empty_heap 4) (with_block (one_block kinds.LargeHead 2) 1 (unowned kinds.LargeTail 0))
    (with_first_object (with_block (one_block kinds.LargeHead 2) 1 (unowned kinds.LargeTail 0)) 5000) 0 0 5000 (name 1 1) empty-lawful.but_lines.order
    (record {
      named = record { least = lit< tt; most = lit< tt; born = lit< tt; fits = lit< tt };
      few_refs = omega arith;
      few_nums = omega arith;
      large = lit< tt;
      inside = lit< tt;
      free = λ j less. is-free (0 + j) (omega arith);
      clear = λ j less. empty-lawful.but_lines.free (0 + j) (is-free (0 + j) (omega arith));
      fresh = λ x holds. absurd (zeros.none_held 4 x holds);
    })
    makes-two (writes run_words 5000 run-long (λ i high. run-zero i (omega arith)) run-fits (omega arith)) empty-lawful

-- the object is held, with its size
module _ (w : List ℕ) (q : ℕ) (long : length w ≡ 17190) (zero : (i : ℕ) → 38 ≤ i → slice_index w i ≡ 0) (fits : (i : ℕ) → slice_index w i < 2 ^ 64) (few : q ≤ 60000) where
  abbrev t : HeapState
  t = with_first_object (with_words (empty_heap 4) w) q

  one_more : Adds (with_words (empty_heap 4) w) t.words 806 (name 1 1) 0 q
  one_more = births.adds (with_words (empty_heap 4) w) t.words 806 (name 1 1) 0 q (writes w q long zero fits few) (vacant w q long zero fits few).address

  first-held : IsHeld t 806
  first-held = births.held-new (with_words (empty_heap 4) w) t.words 806 (name 1 1) 0 q one_more (vacant w q long zero fits few)

  first-size : size_at t 806 ≡ size_of 0 q
  first-size = births.new-size (with_words (empty_heap 4) w) t.words 806 (name 1 1) 0 q one_more (vacant w q long zero fits few)

  block-kept : (k : ℕ) → k < 4 → block_word t k ≡ slice_index w (18 + k)
  block-kept k there = other w q long zero fits few (18 + k) (omega arith) (omega arith) (omega arith)

-- an object that is larger than its cell
pub crosses : IsLawful (with_first_object (one_block kinds.Cells 0) 2) → ⊥
crosses lawful =
    let w : List ℕ = w0 kinds.Cells 0 refl in
    let long : length w ≡ 17190 = set-long nothing 18 5 long0 in
    let zero : (i : ℕ) → 38 ≤ i → slice_index w i ≡ 0 = set-zero nothing 18 5 (lit< tt) (λ j high. zero_of 17190 j) in
    let fits : (i : ℕ) → slice_index w i < 2 ^ 64 = fit0 kinds.Cells 0 refl in
    let after : HeapState = with_first_object (one_block kinds.Cells 0) 2 in
    let size : size_at after 806 ≡ 5 = first-size w 2 long zero fits (omega arith) in
    let word : block_word after 0 ≡ 5 = block-kept w 2 long zero fits (omega arith) 0 (lit< tt) ∙ block0 kinds.Cells 0 refl in
    let lies = ((lawful.but_lines.order.objects.lies 806 (first-held w 2 long zero fits (omega arith))).small (omega arith)).cell
    (kind-from after 0 kinds.Cells (lit< tt) (ap (λ x. x % 256) word)) in
    let room : size_at after 806 ≤ 4 = subst (λ (x : ℕ). size_at after 806 ≤ cell_words (x / 256 % 256)) word lies.room in
    omega arith

-- a run whose second block is not a tail
pub no-tail : IsLawful (with_first_object (with_block (one_block kinds.LargeHead 2) 1 (unowned kinds.Bump 0)) 5000) → ⊥
no-tail lawful =
    let headed : List ℕ = slice_set nothing 18 518 in
    let long1 : length headed ≡ 17190 = set-long nothing 18 518 long0 in
    let w : List ℕ = slice_set headed 19 1 in
    let long : length w ≡ 17190 = set-long headed 19 1 long1 in
    let zero : (i : ℕ) → 38 ≤ i → slice_index w i ≡ 0 = set-zero headed 19 1 (lit< tt) (set-zero nothing 18 518 (lit< tt) (λ j high. zero_of 17190 j)) in
    let fits : (i : ℕ) → slice_index w i < 2 ^ 64 = set-fits headed 19 1 (omega (arith, long1)) (lit< tt) (set-fits nothing 18 518 (omega (arith, long0)) (lit< tt) zero-fits) in
    let after : HeapState = with_first_object (with_block (one_block kinds.LargeHead 2) 1 (unowned kinds.Bump 0)) 5000 in
    let size : size_at after 806 ≡ 5003 = first-size w 5000 long zero fits (omega arith) in
    let next : block_word after 1 ≡ 1 = block-kept w 5000 long zero fits (omega arith) 1 (lit< tt) ∙ get_or-set_same headed 19 1 0 (omega (arith, long1)) in
    let run = ((lawful.but_lines.order.objects.lies 806 (first-held w 5000 long zero fits (omega arith))).large (omega arith)).run in
    let tail : block_word after 1 % 256 ≡ 7 = kind-code after 1 kinds.LargeTail (run.tails 1 (lit< tt) (omega arith)) in
    omega arith
