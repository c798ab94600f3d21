-- The rectangles of a bar have the squares of its object's words, and no others.
use Rattle.std.proofs.Common.{◌≡◌, refl, ℕ, ◌+◌, ◌-◌, ◌*◌, ◌/◌, ◌%◌, ◌<◌, ◌≤◌, arith, inl, inr, Bool, true, false, nat_eq, List, [], ◌∷◌}
use Rattle.std.specs.Prelude.{◌⊎◌, if◌then◌else◌}
use Rattle.heap_picture.specs.declared.bars.Rect.{Rect}
use Rattle.heap_picture.specs.Bars.{word_shown, Covers, CoversOne, rect, cell_x, cell_y, part_rects}
use Rattle.std.proofs.lemmas.Bool.{cases_lt, eqb-true, eqb-false}

-- the square is that of a word of this part of the block
abbrev pub InPart : ℕ → ℕ → ℕ → ℕ → ℕ → Type 0
InPart block from end x y = (x < 4096) × (4096 * block + from ≤ word_shown x y) × (word_shown x y < 4096 * block + end)

one_row : (block from end x y : ℕ) → from ≤ end → end ≤ 4096 → from / 256 ≡ end / 256
    → Covers (rect (cell_x block + from % 256) (cell_y block + from / 256) (end - from) 1) x y → InPart block from end x y
one_row block from end x y rise within same c = (omega (arith, c.right), omega (arith, c.left, c.right, c.top, c.bottom), omega (arith, c.left, c.right, c.top, c.bottom))

head_row : (block from end x y : ℕ) → from ≤ end → end ≤ 4096 → (from / 256 ≡ end / 256 → ⊥)
    → Covers (rect (cell_x block + from % 256) (cell_y block + from / 256) (256 - from % 256) 1) x y → InPart block from end x y
head_row block from end x y rise within other c =
    let less : from / 256 < end / 256 = omega (arith, other) in
    (omega (arith, c.right), omega (arith, c.left, c.right, c.top, c.bottom), omega (arith, less, c.left, c.right, c.top, c.bottom))

middle_rows : (block from end x y : ℕ) → from ≤ end → end ≤ 4096
    → Covers (rect (cell_x block) (cell_y block + from / 256 + 1) 256 (end / 256 - from / 256 - 1)) x y → InPart block from end x y
middle_rows block from end x y rise within c = (omega (arith, c.right), omega (arith, c.left, c.right, c.top, c.bottom), omega (arith, c.left, c.right, c.top, c.bottom))

last_row : (block from end x y : ℕ) → from ≤ end → end ≤ 4096 → (from / 256 ≡ end / 256 → ⊥)
    → Covers (rect (cell_x block) (cell_y block + end / 256) (end % 256) 1) x y → InPart block from end x y
last_row block from end x y rise within other c =
    let less : from / 256 < end / 256 = omega (arith, other) in
    (omega (arith, c.right), omega (arith, less, c.left, c.right, c.top, c.bottom), omega (arith, c.left, c.right, c.top, c.bottom))

-- the rectangles of words on one row, and of words on several
abbrev row_rects : ℕ → ℕ → ℕ → List Rect
row_rects block from end = rect (cell_x block + from % 256) (cell_y block + from / 256) (end - from) 1 ∷ []

abbrev rows_rects : ℕ → ℕ → ℕ → List Rect
rows_rects block from end = rect (cell_x block + from % 256) (cell_y block + from / 256) (256 - from % 256) 1
    ∷ rect (cell_x block) (cell_y block + from / 256 + 1) 256 (end / 256 - from / 256 - 1)
    ∷ rect (cell_x block) (cell_y block + end / 256) (end % 256) 1 ∷ []

covered : (b : Bool) (block from end x y : ℕ) → nat_eq (from / 256) (end / 256) ≡ b → from ≤ end → end ≤ 4096
    → CoversOne (if b then row_rects block from end else rows_rects block from end) x y → InPart block from end x y
covered true block from end x y is rise within h = elim h as (λ _. InPart block from end x y) [
  | inl c ↦ one_row block from end x y rise within (eqb-true _ _ is) c
  | inr none ↦ absurd none
]
covered false block from end x y is rise within h = elim h as (λ _. InPart block from end x y) [
  | inl c ↦ head_row block from end x y rise within (eqb-false _ _ is) c
  | inr (inl c) ↦ middle_rows block from end x y rise within c
  | inr (inr (inl c)) ↦ last_row block from end x y rise within (eqb-false _ _ is) c
  | inr (inr (inr none)) ↦ absurd none
]

pub part_covered : (block from end x y : ℕ) → from ≤ end → end ≤ 4096 → CoversOne (part_rects block from end) x y → InPart block from end x y
part_covered block from end x y rise within h = covered (nat_eq (from / 256) (end / 256)) block from end x y refl rise within h

-- the converse: the squares of the words of a part
in_row : (block from end x y : ℕ) → from ≤ end → end ≤ 4096 → from / 256 ≡ end / 256 → InPart block from end x y
    → Covers (rect (cell_x block + from % 256) (cell_y block + from / 256) (end - from) 1) x y
in_row block from end x y rise within same h = record {
  left = omega (arith, same, h.0, h.1, h.2);
  right = omega (arith, same, h.0, h.1, h.2);
  top = omega (arith, same, h.0, h.1, h.2);
  bottom = omega (arith, same, h.0, h.1, h.2);
}

in_head : (block from end x y : ℕ) → from ≤ end → end ≤ 4096 → from / 256 < end / 256 → InPart block from end x y → y < cell_y block + from / 256 + 1
    → Covers (rect (cell_x block + from % 256) (cell_y block + from / 256) (256 - from % 256) 1) x y
in_head block from end x y rise within less h low = record {
  left = omega (arith, h.0, h.1, h.2, low);
  right = omega (arith, h.0, h.1, h.2, low);
  top = omega (arith, h.0, h.1, h.2, low);
  bottom = omega (arith, h.0, h.1, h.2, low);
}

in_middle : (block from end x y : ℕ) → from ≤ end → end ≤ 4096 → from / 256 < end / 256 → InPart block from end x y
    → cell_y block + from / 256 + 1 ≤ y → y < cell_y block + end / 256
    → Covers (rect (cell_x block) (cell_y block + from / 256 + 1) 256 (end / 256 - from / 256 - 1)) x y
in_middle block from end x y rise within less h from_here below = record {
  left = omega (arith, h.0, h.1, h.2, from_here, below);
  right = omega (arith, h.0, h.1, h.2, from_here, below);
  top = from_here;
  bottom = omega (arith, less, below);
}

in_last : (block from end x y : ℕ) → from ≤ end → end ≤ 4096 → from / 256 < end / 256 → InPart block from end x y → cell_y block + end / 256 ≤ y
    → Covers (rect (cell_x block) (cell_y block + end / 256) (end % 256) 1) x y
in_last block from end x y rise within less h from_here = record {
  left = omega (arith, h.0, h.1, h.2, from_here);
  right = omega (arith, h.0, h.1, h.2, from_here);
  top = from_here;
  bottom = omega (arith, h.0, h.1, h.2, from_here);
}

covers : (b : Bool) (block from end x y : ℕ) → nat_eq (from / 256) (end / 256) ≡ b → from ≤ end → end ≤ 4096 → InPart block from end x y
    → CoversOne (if b then row_rects block from end else rows_rects block from end) x y
covers true block from end x y is rise within h = inl (in_row block from end x y rise within (eqb-true _ _ is) h)
covers false block from end x y is rise within h =
    let other = eqb-false _ _ is in
    let less : from / 256 < end / 256 = omega (arith, other, rise) in
    elim (cases_lt y (cell_y block + from / 256 + 1)) as (λ _. CoversOne (rows_rects block from end) x y) [
      | inl low ↦ inl (in_head block from end x y rise within less h low)
      | inr high ↦ elim (cases_lt y (cell_y block + end / 256)) as (λ _. CoversOne (rows_rects block from end) x y) [
        | inl below ↦ inr (inl (in_middle block from end x y rise within less h high below))
        | inr above ↦ inr (inr (inl (in_last block from end x y rise within less h above)))
      ]
    ]

pub covers_part : (block from end x y : ℕ) → from ≤ end → end ≤ 4096 → InPart block from end x y → CoversOne (part_rects block from end) x y
covers_part block from end x y rise within h = covers (nat_eq (from / 256) (end / 256)) block from end x y refl rise within h

-- the square is that of a word of these whole blocks
abbrev pub InBlocks : ℕ → ℕ → ℕ → ℕ → Type 0
InBlocks block count x y = (x < 4096) × (4096 * block ≤ word_shown x y) × (word_shown x y < 4096 * (block + count))

pub blocks_covered : (block count here x y : ℕ) → count ≤ 16 → here ≤ count → here ≤ 16 - block % 16 → (here ≡ count) ⊎ (here ≡ 16 - block % 16)
    → Covers (rect (cell_x block) (cell_y block) (256 * here) 16) x y → InBlocks block count x y
blocks_covered block count here x y few most fits is c = (omega (arith, c.right, fits), omega (arith, c.left, c.right, c.top, c.bottom, fits), omega (arith, most, c.left, c.right, c.top, c.bottom, fits))

pub rest_covered : (block count here x y : ℕ) → count ≤ 16 → here ≤ count → (here ≡ count) ⊎ (here ≡ 16 - block % 16)
    → Covers (rect 0 (cell_y block + 16) (256 * (count - here)) 16) x y → InBlocks block count x y
rest_covered block count here x y few most (inl is) c = absurd (omega (arith, is, c.right))
rest_covered block count here x y few most (inr is) c = (omega (arith, is, few, c.right), omega (arith, is, c.right, c.top, c.bottom), omega (arith, is, few, c.right, c.top, c.bottom))

pub covers_blocks : (block count here x y : ℕ) → count ≤ 16 → here ≤ count → here ≤ 16 - block % 16 → (here ≡ count) ⊎ (here ≡ 16 - block % 16) → InBlocks block count x y
    → CoversOne (rect (cell_x block) (cell_y block) (256 * here) 16 ∷ rect 0 (cell_y block + 16) (256 * (count - here)) 16 ∷ []) x y
covers_blocks block count here x y few most fits is h = elim (cases_lt y (cell_y block + 16)) [
  | inl low ↦ inl (record {
    left = omega (arith, low, h.0, h.1, h.2);
    right = omega (arith, low, is, most, few, fits, h.0, h.1, h.2);
    top = omega (arith, low, h.0, h.1, h.2);
    bottom = omega (arith, low);
  })
  | inr high ↦ inr (inl (record {
    left = omega arith;
    right = omega (arith, high, is, most, few, fits, h.0, h.1, h.2);
    top = high;
    bottom = omega (arith, high, is, most, few, fits, h.0, h.1, h.2);
  }))
]
