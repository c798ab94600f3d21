-- Where words of the heap are drawn, and the bar of an object.
--
-- A block's cell is 16 rows of 256 words, and there are 16 cells in a row. Word i of the heap is
-- the unit square at column x and row y.
use Rattle.std.specs.Prelude.{ℕ, ◌+◌, ◌-◌, ◌*◌, ◌/◌, ◌%◌, ◌<◌, ◌≤◌, ◌⊎◌, List, [], ◌∷◌, ◌++◌, nat_eq, nat_le, min}
use Rattle.std.specs.Prelude.{if◌then◌else◌}
use Rattle.object_model.specs.declared.shape.TheConstants.{MAX_MEDIUM_WORDS}
use Rattle.ideal_heap.specs.Names.{name}
use Rattle.driver.specs.Texts.{MapPlace}
use Rattle.heap_picture.specs.declared.bars.Rect.{Rect}
use Rattle.heap_picture.specs.declared.forms.Place.{Place}
use Rattle.heap_picture.specs.Marks.{room_words}

-- the word whose square is at column x and row y, for x below 4096
abbrev pub word_shown : ℕ → ℕ → ℕ
word_shown x y = 4096 * (16 * (y / 16) + x / 256) + 256 * (y % 16) + x % 256

-- the rectangle has the square at column x and row y
pub record Covers (r : Rect) (x y : ℕ) : Type 0 where
  pub left : r.x ≤ x
  pub right : x < r.x + r.width
  pub top : r.y ≤ y
  pub bottom : y < r.y + r.height

abbrev pub rect : ℕ → ℕ → ℕ → ℕ → Rect
rect x y width height = record { x = x; y = y; width = width; height = height }

-- the corner of a block's cell
abbrev pub cell_x : ℕ → ℕ
cell_x block = 256 * (block % 16)

abbrev pub cell_y : ℕ → ℕ
cell_y block = 16 * (block / 16)

-- a block's cell
abbrev pub cell_rect : ℕ → Rect
cell_rect block = rect (cell_x block) (cell_y block) 256 16

-- Words `from` to `end` of a block, in up to three rectangles: the rest of a row, whole rows, and
-- the beginning of a row.
abbrev pub part_rects : ℕ → ℕ → ℕ → List Rect
part_rects block from end =
    if nat_eq (from / 256) (end / 256)
    then rect (cell_x block + from % 256) (cell_y block + from / 256) (end - from) 1 ∷ []
    else rect (cell_x block + from % 256) (cell_y block + from / 256) (256 - from % 256) 1
    ∷ rect (cell_x block) (cell_y block + from / 256 + 1) 256 (end / 256 - from / 256 - 1)
    ∷ rect (cell_x block) (cell_y block + end / 256) (end % 256) 1 ∷ []

-- so many whole blocks, in up to two rectangles: one for each row of cells
abbrev pub whole_rects : ℕ → ℕ → List Rect
whole_rects block count = let here = min count (16 - block % 16) in
    rect (cell_x block) (cell_y block) (256 * here) 16
    ∷ rect 0 (cell_y block + 16) (256 * (count - here)) 16 ∷ []

-- the rectangles of an object's bar
abbrev pub bar_rects : Place → List Rect
bar_rects p = if nat_le p.size MAX_MEDIUM_WORDS
    then part_rects p.block p.word (p.word + p.size)
    else whole_rects p.block (p.size / 4096)
    ++ part_rects (p.block + p.size / 4096) 0 (p.size % 4096)

-- one of the rectangles has the square at column x and row y
abbrev pub CoversOne : List Rect → ℕ → ℕ → Type 0
CoversOne [] x y = ⊥
CoversOne (r ∷ rs) x y = Covers r x y ⊎ CoversOne rs x y

-- the bar has the square at column x and row y
abbrev pub BarCovers : Place → ℕ → ℕ → Type 0
BarCovers p x y = CoversOne (bar_rects p) x y

-- no square belongs to the bars of both places
abbrev pub AreApart : Place → Place → Type 0
AreApart p q = (x y : ℕ) → BarCovers p x y → BarCovers q x y → ⊥

-- the place of a line of the map
abbrev pub map_place : Place → MapPlace
map_place p = record {
  name = name p.mutator p.birth;
  block = p.block;
  word = p.word;
  size = p.size;
}

-- the place with all words that it has for itself
abbrev pub room_of : Place → MapPlace
room_of p = record {
  name = name p.mutator p.birth;
  block = p.block;
  word = p.word;
  size = room_words p.size;
}
