-- A bar has at most 200 bytes.
use Rattle.std.proofs.Common.{◌≡◌, refl, ℕ, ◌+◌, ◌-◌, ◌*◌, ◌/◌, ◌%◌, ◌<◌, ◌≤◌, arith, Bool, true, false, ◌||◌, nat_eq, nat_le, List, [], ◌∷◌, ◌++◌, length, length-append, Option}
use Rattle.std.specs.Prelude.{if◌then◌else◌, codes, min}
use Rattle.std.specs.Fmt.{decimal}
use Rattle.std.specs.List.{AllByRecursion, flat_map}
use Rattle.std.proofs.lemmas.Bool.{leb-true}
use Rattle.std.proofs.lemmas.Fmt.{length-decimal-le}
use Rattle.heap_picture.specs.declared.bars.Rect.{Rect}
use Rattle.heap_picture.specs.declared.colours.Colour.{Colour}
use Rattle.heap_picture.specs.declared.colours.Colour.TheVariants as colours
use Rattle.heap_picture.specs.declared.forms.Place.{Place}
use Rattle.heap_picture.specs.Bars.{bar_rects, cell_x, cell_y, part_rects, rect, whole_rects}
use Rattle.heap_picture.specs.Drawn.{bar_class, bar_head, bar_text, bar_title, class_of, colour_of, full_rect_text, is_marked, rect_text}
use Rattle.heap_picture.specs.Texts.{IsPlaceIn}
use Rattle.heap_picture.proofs.Lies.{ends_within}

joined : (xs ys : List ℕ) (a b : ℕ) → length xs ≤ a → length ys ≤ b → length (xs ++ ys) ≤ a + b
joined xs ys a b one two = let sum : length (xs ++ ys) ≡ length xs + length ys = length-append xs ys in omega (arith, sum, one, two)

four : (n : ℕ) → n < 10000 → length (decimal n) ≤ 4
four n low = length-decimal-le 4 n (omega arith) low (omega (arith, low))

two : (n : ℕ) → n < 100 → length (decimal n) ≤ 2
two n low = length-decimal-le 2 n (omega arith) low (omega (arith, low))

-- a rectangle of the picture of a heap
record IsFew (r : Rect) : Type 0 where
  x : r.x < 10000
  y : r.y < 10000
  width : r.width < 10000
  height : r.height < 100

full-short : (r : Rect) → IsFew r → length (full_rect_text r) ≤ 25
full-short r few =
    joined (codes "M") _ 1 24 (omega arith) (joined (decimal r.x) _ 4 20 (four r.x few.x)
    (joined (codes " ") _ 1 19 (omega arith) (joined (decimal r.y) _ 4 15 (four r.y few.y)
    (joined (codes "h") _ 1 14 (omega arith) (joined (decimal r.width) _ 4 10 (four r.width few.width)
    (joined (codes "v") _ 1 9 (omega arith) (joined (decimal r.height) _ 2 7 (two r.height few.height)
    (joined (codes "h-") _ 2 5 (omega arith) (joined (decimal r.width) (codes "z") 4 1 (four r.width few.width) (omega arith))))))))))

one-short : (b : Bool) (r : Rect) → IsFew r → length (if b then [] else full_rect_text r) ≤ 25
one-short true r few = omega arith
one-short false r few = full-short r few

rects-short : (rs : List Rect) → AllByRecursion IsFew rs → length (flat_map rect_text rs) ≤ 25 * length rs
rects-short [] few = omega arith
rects-short (r ∷ rs) few =
    let all = joined (rect_text r) (flat_map rect_text rs) 25 (25 * length rs) (one-short (nat_eq r.width 0 || nat_eq r.height 0) r few.0) (rects-short rs few.1) in
    omega (arith, all)

-- at most so many rectangles
abbrev AtMost : ℕ → List Rect → Type 0
AtMost n rs = AllByRecursion IsFew rs × (length rs ≤ n)

few-rect : (x y width height : ℕ) → x < 10000 → y < 10000 → width < 10000 → height < 100 → IsFew (rect x y width height)
few-rect x y width height a b c d = record { x = a; y = b; width = c; height = d }

part-by : (b : Bool) (block from end : ℕ) → block < 2000 → from ≤ end → end ≤ 4096
    → AtMost 3 (if b then rect (cell_x block + from % 256) (cell_y block + from / 256) (end - from) 1 ∷ []
    else rect (cell_x block + from % 256) (cell_y block + from / 256) (256 - from % 256) 1
    ∷ rect (cell_x block) (cell_y block + from / 256 + 1) 256 (end / 256 - from / 256 - 1)
    ∷ rect (cell_x block) (cell_y block + end / 256) (end % 256) 1 ∷ [])
part-by true block from end low rise within = ((few-rect _ _ _ _ (omega arith) (omega arith) (omega arith) (omega arith), tt), omega arith)
part-by false block from end low rise within = (
  (
    few-rect _ _ _ _ (omega arith) (omega arith) (omega arith) (omega arith),
    (
      few-rect _ _ _ _ (omega arith) (omega arith) (omega arith) (omega arith),
      (few-rect _ _ _ _ (omega arith) (omega arith) (omega arith) (omega arith), tt),
    ),
  ),
  omega arith,
)

part-few : (block from end : ℕ) → block < 2000 → from ≤ end → end ≤ 4096 → AtMost 3 (part_rects block from end)
part-few block from end low rise within = part-by (nat_eq (from / 256) (end / 256)) block from end low rise within

whole-few : (block count here : ℕ) → block < 2000 → count ≤ 16 → here ≤ count
    → AtMost 2 (rect (cell_x block) (cell_y block) (256 * here) 16 ∷ rect 0 (cell_y block + 16) (256 * (count - here)) 16 ∷ [])
whole-few block count here low few most = (
  (few-rect _ _ _ _ (omega arith) (omega arith) (omega arith) (omega arith), (few-rect _ _ _ _ (omega arith) (omega arith) (omega arith) (omega arith), tt)),
  omega arith,
)

both-few : (n m : ℕ) (rs qs : List Rect) → AtMost n rs → AtMost m qs → AtMost (n + m) (rs ++ qs)
both-few n m [] qs one two = (two.0, let most = two.1 in omega (arith, most))
both-few n m (r ∷ rs) qs one two =
    let rest = both-few (length rs) m rs qs (one.0.1, omega arith) two in
    let most = rest.1 in let these = one.1 in
    ((one.0.0, rest.0), omega (arith, most, these))

more-few : (n m : ℕ) (rs : List Rect) → n ≤ m → AtMost n rs → AtMost m rs
more-few n m rs less few = (few.0, let most = few.1 in omega (arith, less, most))

module _ (k b : ℕ) (p : Place) (few : k ≤ 16) (low : b ≤ 1024) (is : IsPlaceIn k b p) where
  block-low : p.block < 1024
  block-low = let end = ends_within b p is.header is.short is.lies in let header = is.header in omega (arith, end, header, low)

  bar-by : (c : Bool) → nat_le p.size 2048 ≡ c
      → AtMost 5 (if c then part_rects p.block p.word (p.word + p.size) else whole_rects p.block (p.size / 4096) ++ part_rects (p.block + p.size / 4096) 0 (p.size % 4096))
  bar-by true small =
      let end : p.word + p.size ≤ 4096 = is.lies.medium (leb-true _ _ small) in
      more-few 3 5 _ (omega arith) (part-few p.block p.word (p.word + p.size) (let l = block-low in omega (arith, l)) (omega arith) end)
  bar-by false large =
      let short = is.short in
      let l = block-low in
      both-few 2 3 (whole_rects p.block (p.size / 4096)) _
      (whole-few p.block (p.size / 4096) (min (p.size / 4096) (16 - p.block % 16)) (omega (arith, l)) (omega (arith, short)) (omega arith))
      (part-few (p.block + p.size / 4096) 0 (p.size % 4096) (omega (arith, l, short)) (omega arith) (omega arith))

  rects-most : length (flat_map rect_text (bar_rects p)) ≤ 125
  rects-most =
      let all = bar-by (nat_le p.size 2048) refl in
      let bytes = rects-short (bar_rects p) all.0 in
      let count = all.1 in
      omega (arith, bytes, count)

  title-most : length (bar_title p) ≤ 50
  title-most =
      joined (codes "\"><title>") _ 9 41 (omega arith)
      (joined (decimal p.mutator) _ 2 39 (two p.mutator (let most = is.most in omega (arith, most, few)))
      (joined (codes ".") _ 1 38 (omega arith)
      (joined (decimal p.birth) _ 10 28 (length-decimal-le 10 p.birth (omega arith) (let fits = is.fits in omega (arith, fits)) (let fits = is.fits in omega (arith, fits)))
      (joined (codes " ") _ 1 27 (omega arith)
      (joined (decimal p.size) _ 5 22 (length-decimal-le 5 p.size (omega arith) (let short = is.short in omega (arith, short)) (let short = is.short in omega (arith, short))) (omega arith))))))

  class-one : (c : Colour) → length (class_of c) ≤ 1
  class-one colours.Bump = omega arith
  class-one colours.Young = omega arith
  class-one colours.Mature = omega arith
  class-one colours.Immix = omega arith
  class-one colours.Cells = omega arith
  class-one colours.Large = omega arith
  class-one colours.Kept = omega arith
  class-one colours.Several = omega arith

  marked-one : (m : Bool) (c : Colour) → length (if m then codes "n" else class_of c) ≤ 1
  marked-one true c = omega arith
  marked-one false c = class-one c

  head-most : (names : Option ℕ) (c : Colour) → length (bar_head names c p) ≤ 19
  head-most names c =
      joined (codes "<path class=\"") _ 13 6 (omega arith)
      (joined (bar_class names c p) (codes "\" d=\"") 1 5 (marked-one (is_marked names p) (colour_of c p)) (omega arith))

  pub bar-short : (names : Option ℕ) (c : Colour) → length (bar_text names c p) ≤ 200
  unfolding bar_text
  bar-short names c =
      let all = joined (bar_head names c p ++ flat_map rect_text (bar_rects p)) (bar_title p) 144 50 (joined (bar_head names c p) _ 19 125 (head-most names c) rects-most) title-most in
      omega (arith, all)
