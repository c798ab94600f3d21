-- The bar of an object has the squares of its words, and no others.
use Rattle.std.proofs.Common.{◌≡◌, refl, ℕ, ◌+◌, ◌-◌, ◌*◌, ◌/◌, ◌%◌, ◌<◌, ◌≤◌, arith, inl, inr, Bool, true, false, nat_le, List, ◌++◌}
use Rattle.std.specs.Prelude.{◌⊎◌, if◌then◌else◌, min}
use Rattle.std.proofs.lemmas.Bool.{cases_lt, leb-true, leb-false}
use Rattle.object_model.specs.Objects.{blocks_for}
use Rattle.driver.specs.MapPlaces.{HasWord, LiesInBlocks}
use Rattle.heap_picture.specs.declared.forms.Place.{Place}
use Rattle.heap_picture.specs.declared.bars.Rect.{Rect}
use Rattle.heap_picture.specs.Bars.{BarCovers, Covers, cell_rect, word_shown, CoversOne, map_place, part_rects, whole_rects}
use Rattle.heap_picture.proofs.BarCells.{InBlocks, InPart, part_covered, covers_part, blocks_covered, rest_covered, covers_blocks}

-- the square is that of a word of the object
abbrev pub InObject : Place → ℕ → ℕ → Type 0
InObject p x y = (x < 4096) × HasWord (map_place p) (word_shown x y)

-- the cell of a word's block has its square
pub in_cell : (b x y : ℕ) → x < 4096 → 4096 * b ≤ word_shown x y → word_shown x y < 4096 * b + 4096 → Covers (cell_rect b) x y
in_cell b x y low from below = record { left = omega (arith, low, from, below); right = omega (arith, low, from, below); top = omega (arith, low, from, below); bottom = omega (arith, low, from, below) }

-- the cell of the object's block that has the word
pub in_cells : (blocks : ℕ) (p : Place) (x y : ℕ) → LiesInBlocks blocks (map_place p) → p.size ≤ 61027 → InObject p x y
    → (b : ℕ) × (p.block ≤ b) × (b < p.block + blocks_for p.size) × (b < blocks) × Covers (cell_rect b) x y
in_cells blocks p x y lies most is =
    let i : ℕ = word_shown x y in
    let from : 4096 * p.block + p.word ≤ i = is.1.from in
    let below : i < 4096 * p.block + p.word + p.size = is.1.below in
    let inside : i < 4096 * blocks = lies.inside i is.1 in
    let within : i / 4096 < p.block + blocks_for p.size = elim (cases_lt 2048 p.size) as (λ _. i / 4096 < p.block + blocks_for p.size) [
      | inl big ↦ (let start : p.word ≡ 0 = lies.large big in omega (arith, below, start))
      | inr few ↦ (let end : p.word + p.size ≤ 4096 = lies.medium (omega (arith, few)) in omega (arith, from, below, end))
    ] in
    (i / 4096, omega (arith, from), within, omega (arith, inside), in_cell (i / 4096) x y is.0 (omega arith) (omega arith))

abbrev rects_by : Bool → Place → List Rect
rects_by b p = if b then part_rects p.block p.word (p.word + p.size)
    else whole_rects p.block (p.size / 4096) ++ part_rects (p.block + p.size / 4096) 0 (p.size % 4096)

chosen_min : (m n : ℕ) → (min m n ≡ m) ⊎ (min m n ≡ n)
chosen_min m n = elim (cases_lt m n) [ inl less ↦ inl (omega (arith, less)) | inr more ↦ inr (omega (arith, more)) ]

in_small : (p : Place) (x y : ℕ) → InPart p.block p.word (p.word + p.size) x y → InObject p x y
in_small p x y h = (h.0, record { from = omega (arith, h.1); below = omega (arith, h.2) })

in_large : (p : Place) (x y : ℕ) → p.word ≡ 0 → InBlocks p.block (p.size / 4096) x y → InObject p x y
in_large p x y at h = (h.0, record { from = omega (arith, at, h.1); below = omega (arith, at, h.2) })

in_tail : (p : Place) (x y : ℕ) → p.word ≡ 0 → InPart (p.block + p.size / 4096) 0 (p.size % 4096) x y → InObject p x y
in_tail p x y at h = (h.0, record { from = omega (arith, at, h.1); below = omega (arith, at, h.2) })

module _ (p : Place) (x y : ℕ) (most : p.size ≤ 61027) (medium : p.size ≤ 2048 → p.word + p.size ≤ 4096) (large : 2048 < p.size → p.word ≡ 0) where
  has_words : (b : Bool) → nat_le p.size 2048 ≡ b → CoversOne (rects_by b p) x y → InObject p x y
  has_words true is h = in_small p x y (part_covered p.block p.word (p.word + p.size) x y (omega arith) (medium (leb-true _ _ is)) h)
  has_words false is h =
      let at = large (leb-false _ _ is) in
      let count = p.size / 4096 in
      let room = 16 - p.block % 16 in
      elim h as (λ _. InObject p x y) [
        | inl c ↦ in_large p x y at (blocks_covered p.block count (min count room) x y (omega arith) (omega arith) (omega arith) (chosen_min count room) c)
        | inr (inl c) ↦ in_large p x y at (rest_covered p.block count (min count room) x y (omega arith) (omega arith) (chosen_min count room) c)
        | inr (inr t) ↦ in_tail p x y at (part_covered (p.block + count) 0 (p.size % 4096) x y (omega arith) (omega arith) t)
      ]

  whole_or_tail : InObject p x y → p.word ≡ 0 → CoversOne (rects_by false p) x y
  whole_or_tail h at =
      let count = p.size / 4096 in
      let room = 16 - p.block % 16 in
      elim (cases_lt (word_shown x y) (4096 * (p.block + count))) as (λ _. CoversOne (rects_by false p) x y) [
        | inl low ↦ elim (covers_blocks p.block count (min count room) x y (omega arith) (omega arith) (omega arith) (chosen_min count room) (h.0, omega (arith, h.1.from), low)) as (λ _. CoversOne (rects_by false p) x y) [
          | inl c ↦ inl c
          | inr (inl c) ↦ inr (inl c)
          | inr (inr none) ↦ absurd none
        ]
        | inr high ↦ inr (inr (covers_part (p.block + count) 0 (p.size % 4096) x y (omega arith) (omega arith) (h.0, omega (arith, high), omega (arith, at, h.1.below))))
      ]

  words_have : (b : Bool) → nat_le p.size 2048 ≡ b → InObject p x y → CoversOne (rects_by b p) x y
  words_have true is h = covers_part p.block p.word (p.word + p.size) x y (omega arith) (medium (leb-true _ _ is)) (h.0, omega (arith, h.1.from), omega (arith, h.1.below))
  words_have false is h = whole_or_tail h (large (leb-false _ _ is))

  pub bar_has_words : BarCovers p x y → InObject p x y
  bar_has_words h = has_words (nat_le p.size 2048) refl h

  pub words_have_bar : InObject p x y → BarCovers p x y
  words_have_bar h = words_have (nat_le p.size 2048) refl h
