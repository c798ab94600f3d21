-- The text of a picture: plain SVG.
use Rattle.std.specs.Prelude.{ℕ, ◌+◌, ◌*◌, ◌/◌, Bool, false, ◌||◌, List, [], ◌∷◌, ◌++◌, map, Option, None, Some, nat_eq}
use Rattle.std.specs.Prelude.{nat_le, if◌then◌else◌, codes}
use Rattle.std.specs.List.{flat_map, list_all, range_with_len}
use Rattle.std.specs.Fmt.{decimal}
use Rattle.object_model.specs.declared.shape.TheConstants.{MAX_MEDIUM_WORDS}
use Rattle.sessions.specs.Plans.{plan_word}
use Rattle.command_line.specs.Orders.{plan_in}
use Rattle.heap_picture.specs.declared.bars.Rect.{Rect}
use Rattle.heap_picture.specs.declared.colours.Colour.{Colour}
use Rattle.heap_picture.specs.declared.colours.Colour.TheVariants as colours
use Rattle.heap_picture.specs.declared.parts.Part.{Part}
use Rattle.heap_picture.specs.declared.parts.Part.TheVariants as parts
use Rattle.heap_picture.specs.declared.svg.TheConstants.{LEGEND, STYLE}
use Rattle.heap_picture.specs.declared.forms.KindCounts.{KindCounts}
use Rattle.heap_picture.specs.declared.forms.Place.{Place}
use Rattle.heap_picture.specs.declared.reader.Report.{Report}
use Rattle.heap_picture.specs.Reading.{Begun}
use Rattle.heap_picture.specs.Bars.{bar_rects, cell_rect}

-- what a part of a text is
abbrev pub part_text : Part → List ℕ
part_text (parts.Text bytes) = bytes.now
part_text (parts.Number n) = decimal n

-- a rectangle, as a part of a path
abbrev pub full_rect_text : Rect → List ℕ
full_rect_text r = codes "M" ++ (decimal r.x ++ (codes " " ++ (decimal r.y
    ++ (codes "h" ++ (decimal r.width ++ (codes "v" ++ (decimal r.height
    ++ (codes "h-" ++ (decimal r.width ++ codes "z")))))))))

-- nothing for an empty rectangle
abbrev pub rect_text : Rect → List ℕ
rect_text r = if nat_eq r.width 0 || nat_eq r.height 0 then [] else full_rect_text r

-- all of these numbers are 0
abbrev pub are_none : List ℕ → Bool
are_none counts = list_all (λ n. nat_eq n 0) counts

-- The kind of the blocks that have small and medium objects, if the report says it: the one of
-- these kinds that has blocks.
abbrev pub block_colour : KindCounts → Colour
block_colour k =
    if are_none (k.young ∷ k.mature ∷ k.immix ∷ k.cells ∷ k.kept ∷ []) then colours.Bump
    else if are_none (k.bump ∷ k.mature ∷ k.immix ∷ k.cells ∷ k.kept ∷ []) then colours.Young
    else if are_none (k.bump ∷ k.young ∷ k.immix ∷ k.cells ∷ k.kept ∷ []) then colours.Mature
    else if are_none (k.bump ∷ k.young ∷ k.mature ∷ k.cells ∷ k.kept ∷ []) then colours.Immix
    else if are_none (k.bump ∷ k.young ∷ k.mature ∷ k.immix ∷ k.kept ∷ []) then colours.Cells
    else if are_none (k.bump ∷ k.young ∷ k.mature ∷ k.immix ∷ k.cells ∷ []) then colours.Kept
    else colours.Several

-- the colour of an object: large, or that of the blocks of small and medium objects
abbrev pub colour_of : Colour → Place → Colour
colour_of blocks p = if nat_le p.size MAX_MEDIUM_WORDS then blocks else colours.Large

-- the class of a colour
abbrev pub class_of : Colour → List ℕ
class_of colours.Bump = codes "b"
class_of colours.Young = codes "y"
class_of colours.Mature = codes "m"
class_of colours.Immix = codes "i"
class_of colours.Cells = codes "c"
class_of colours.Large = codes "l"
class_of colours.Kept = codes "k"
class_of colours.Several = codes "s"

-- the object is marked, as one of this mutator
abbrev pub is_marked : Option ℕ → Place → Bool
is_marked None p = false
is_marked (Some mutator) p = nat_eq mutator p.mutator

-- the class of an object's bar
abbrev pub bar_class : Option ℕ → Colour → Place → List ℕ
bar_class names blocks p =
    if is_marked names p then codes "n" else class_of (colour_of blocks p)

-- what stands before and after the rectangles of a bar
abbrev pub bar_head : Option ℕ → Colour → Place → List ℕ
bar_head names blocks p =
    codes "<path class=\"" ++ (bar_class names blocks p ++ codes "\" d=\"")

abbrev pub bar_title : Place → List ℕ
bar_title p = codes "\"><title>" ++ (decimal p.mutator ++ (codes "." ++ (decimal p.birth
    ++ (codes " " ++ (decimal p.size ++ codes " words</title></path>\n")))))

-- the bar of an object: a path of its rectangles, with its name and size as a title
unfoldable pub bar_text : Option ℕ → Colour → Place → List ℕ
bar_text names blocks p =
    bar_head names blocks p ++ flat_map rect_text (bar_rects p) ++ bar_title p

-- the cell of a block
abbrev pub cell_text : ℕ → List ℕ
cell_text block = codes "<path class=\"f\" d=\"" ++ (full_rect_text (cell_rect block)
    ++ codes "\"/>\n")

-- a line of two words, each with a number, at this height
abbrev pub pair_text : List ℕ → List ℕ → ℕ → List ℕ → ℕ → List ℕ
pair_text y word n other m = codes "<text x=\"8\" y=\"" ++ (y ++ (codes "\">" ++ (word
    ++ (decimal n ++ (other ++ (decimal m ++ codes "</text>\n"))))))

-- the first line of the report's counts
abbrev pub plan_text : Report → List ℕ
plan_text r = codes "<text x=\"8\" y=\"16\">plan " ++ (plan_word (plan_in r.plan)
    ++ (codes " blocks " ++ (decimal r.blocks ++ (codes " mutators " ++ (decimal r.mutators
    ++ codes "</text>\n")))))

-- the report's counts of commands, collections and objects
abbrev pub counts_text : Report → List ℕ
counts_text r =
    pair_text (codes "32") (codes "commands ") r.commands (codes " full ") r.full
    ++ pair_text (codes "48") (codes "collections nursery ") r.nursery (codes " full ") r.collected
    ++ pair_text (codes "64") (codes "live objects ") r.live (codes " words ") r.live_words
    ++ pair_text (codes "80") (codes "held objects ") r.held (codes " words ") r.held_words

-- the report's counts of blocks by kind
abbrev pub kinds_text : KindCounts → List ℕ
kinds_text k =
    pair_text (codes "96") (codes "blocks free ") k.free (codes " bump ") k.bump
    ++ pair_text (codes "112") (codes "blocks young ") k.young (codes " mature ") k.mature
    ++ pair_text (codes "128") (codes "blocks immix ") k.immix (codes " cells ") k.cells
    ++ pair_text (codes "144") (codes "blocks large ") k.large (codes " kept ") k.kept

-- the rows of cells
abbrev pub rows_of : ℕ → ℕ
rows_of blocks = (blocks + 15) / 16

-- the head of the file, with the height of the picture, and the colours
abbrev pub head_text : ℕ → List ℕ
head_text blocks = codes "<svg xmlns=\"http://www.w3.org/2000/svg\" width=\"1040\" height=\""
    ++ (decimal (200 + 64 * rows_of blocks) ++ STYLE.now)

-- the cells of all blocks
abbrev pub cells_text : ℕ → List ℕ
cells_text blocks = flat_map (λ cell. cell) (map cell_text (range_with_len 0 blocks))

-- what stands before and after the bars, which is of the report alone: its counts, the legend and
-- the cells
abbrev pub before_bars : Report → List ℕ
before_bars r = head_text r.blocks ++ plan_text r ++ counts_text r ++ kinds_text r.kinds
    ++ LEGEND.now ++ cells_text r.blocks

abbrev pub after_bars : List ℕ
after_bars = codes "</g></svg>\n"

-- the picture of a run: a bar for each line of the map
abbrev pub picture_text : Option ℕ → Begun → List ℕ
picture_text names s = before_bars s.report
    ++ flat_map (bar_text names (block_colour s.report.kinds)) s.places ++ after_bars
