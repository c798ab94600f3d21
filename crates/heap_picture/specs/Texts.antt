-- The text of a run with a map, as it is printed: replies, report and map.
use Rattle.heap_picture.specs.Marks.{is_used}
use Rattle.std.specs.Prelude.{◌≡◌, ℕ, ◌+◌, ◌-◌, ◌*◌, ◌≤◌, ◌<◌, ◌^◌, Bool, true, List, [], ◌∷◌, ◌++◌, length, map}
use Rattle.std.specs.Prelude.{slice_index_or, nat_eq, if◌then◌else◌, codes}
use Rattle.std.specs.List.{All, AllPairs, count_by, flat_map, sum_by, range_with_len}
use Rattle.std.specs.Fmt.{decimal}
use Rattle.ideal_heap.specs.Names.{IsBefore, name}
use Rattle.ideal_heap.specs.Runs.{is_full}
use Rattle.ideal_heap.specs.declared.name.Name.{Name}
use Rattle.ideal_heap.specs.declared.command.TheConstants.{MAX_MUTATORS}
use Rattle.ideal_heap.specs.declared.reply.Reply.{Reply}
use Rattle.ideal_heap.specs.declared.reply.Reply.TheVariants as r
use Rattle.heap_layout.specs.declared.layout.TheConstants.{BLOCK_WORDS, MAX_BLOCKS, MIN_BLOCKS}
use Rattle.object_model.specs.declared.shape.TheConstants.{HEADER_WORDS}
use Rattle.sessions.specs.Plans.{plan_word}
use Rattle.trace_text.specs.Text.{IsPrintable, ended, mutator_text, reply_text}
use Rattle.trace_text.specs.declared.limits.TheConstants.{MAX_COMMANDS}
use Rattle.made_trace.specs.Counts.{is_new_reply}
use Rattle.command_line.specs.Orders.{plan_in}
use Rattle.command_line.specs.declared.order.PlanName.{PlanName}
use Rattle.driver.specs.MapPlaces.{AreDisjoint, LiesInBlocks}
use Rattle.driver.specs.Texts.{place_line}
use Rattle.heap_picture.specs.Bars.{map_place, room_of}
use Rattle.heap_picture.specs.Forms.{LARGE, SMALL}
use Rattle.heap_picture.specs.declared.forms.KindCounts.{KindCounts}
use Rattle.heap_picture.specs.declared.forms.Place.{Place}
use Rattle.heap_picture.specs.declared.reader.Report.{Report}
use Rattle.heap_picture.specs.declared.reader.Stage.TheVariants as stages
use Rattle.heap_picture.specs.Reading.{Begun, blocks_in, has_young, no_wants, strange_in}
use Rattle.session_counts.specs.Sizes.{AreSizes, own_blocks}
use Rattle.session_counts.specs.declared.sizes.TheConstants.{MAX_OBJECT_WORDS}

-- two words, each with a number
abbrev pub two_text : List ℕ → ℕ → List ℕ → ℕ → List ℕ
two_text word n other m = word ++ (decimal n ++ (other ++ decimal m))

-- the line of the map of an object, without its newline
abbrev pub place_text : Place → List ℕ
place_text p = codes "map " ++ (decimal p.mutator ++ (codes "." ++ (decimal p.birth
    ++ (codes " block " ++ (decimal p.block
    ++ two_text (codes " word ") p.word (codes " size ") p.size)))))

-- the line of kinds of a report, without its newline
abbrev pub kinds_line_text : KindCounts → List ℕ
kinds_line_text k = codes "kinds free " ++ (decimal k.free ++ (codes " bump " ++ (decimal k.bump
    ++ (codes " young " ++ (decimal k.young ++ (codes " mature " ++ (decimal k.mature
    ++ (codes " immix " ++ (decimal k.immix ++ (codes " cells " ++ (decimal k.cells
    ++ two_text (codes " large ") k.large (codes " kept ") k.kept)))))))))))

-- the numbers of the place fit 32 bits
pub record Fits (p : Place) : Type 0 where
  pub mutator : p.mutator ≤ SMALL
  pub birth : p.birth ≤ SMALL
  pub block : p.block ≤ SMALL
  pub word : p.word ≤ SMALL
  pub size : p.size ≤ SMALL

-- the line is that of a reply, and it says whether the heap is full
abbrev pub IsReplyLine : List ℕ → Bool → Type 0
IsReplyLine line full =
    (x : Reply) × IsPrintable x × (line ≡ reply_text x) × (full ≡ is_full x)

abbrev pub plan_line : PlanName → List ℕ
plan_line plan = codes "plan " ++ plan_word (plan_in plan)

-- the lines of a report after its first, without their newlines
abbrev pub count_lines : Report → List (List ℕ)
count_lines r = (codes "blocks " ++ decimal r.blocks) ∷ (codes "mutators " ++ decimal r.mutators)
    ∷ (codes "commands " ++ decimal r.commands) ∷ (codes "full " ++ decimal r.full)
    ∷ two_text (codes "collections nursery ") r.nursery (codes " full ") r.collected
    ∷ two_text (codes "live objects ") r.live (codes " words ") r.live_words
    ∷ two_text (codes "held objects ") r.held (codes " words ") r.held_words
    ∷ kinds_line_text r.kinds ∷ []

-- the nine lines of a report
abbrev pub report_text : Report → List ℕ
report_text r = flat_map ended (plan_line r.plan ∷ count_lines r)

-- the replies of mutators m, m + 1, and so on
abbrev pub replies_from : ℕ → List (List Reply) → List ℕ
replies_from m [] = []
replies_from m (rs ∷ more) = mutator_text m rs ++ replies_from (m + 1) more

-- the name is that of one of the `born` objects of mutator m, or of an object of another mutator,
-- each of which has so many births
pub record IsKnown (births : List ℕ) (m born : ℕ) (n : Name) : Type 0 where
  pub least : 1 ≤ n.birth
  pub most : n.birth ≤ (if nat_eq n.mutator m then born else slice_index_or births n.mutator 0)

-- Each `new` reply of mutator m, after `born` objects of it, has the name of its next object, and
-- each `ref` reply that of an object.
abbrev pub NamesInOrder : List ℕ → ℕ → ℕ → List Reply → Type 0
NamesInOrder births m born [] = Unit {0}
NamesInOrder births m born (r.New n ∷ rs) =
    (n ≡ name m (born + 1)) × NamesInOrder births m (born + 1) rs
NamesInOrder births m born (r.Ref n ∷ rs) =
    IsKnown births m born n × NamesInOrder births m born rs
NamesInOrder births m born (_ ∷ rs) = NamesInOrder births m born rs

-- so it is with mutators m, m + 1, and so on
abbrev pub AllNamesInOrder : List ℕ → ℕ → List (List Reply) → Type 0
AllNamesInOrder births m [] = Unit {0}
AllNamesInOrder births m (rs ∷ more) =
    NamesInOrder births m 0 rs × AllNamesInOrder births (m + 1) more

-- how many objects each number of a mutator has names for by these replies; 0 has none
abbrev pub births_in : List (List Reply) → List ℕ
births_in replies = 0 ∷ map (count_by is_new_reply) replies

-- A place of the map: the name is that of an object of one of so many mutators, and the object,
-- which has a header at least, lies in the blocks of the heap.
pub record IsPlaceIn (mutators blocks : ℕ) (p : Place) : Type 0 where
  pub least : 1 ≤ p.mutator
  pub most : p.mutator ≤ mutators
  pub born : 1 ≤ p.birth
  pub fits : p.birth < 2 ^ 32
  pub header : HEADER_WORDS ≤ p.size
  pub short : p.size ≤ MAX_OBJECT_WORDS
  pub lies : LiesInBlocks blocks (map_place p)

-- the blocks that the large objects of the places have
abbrev pub large_blocks : List Place → ℕ
large_blocks places = sum_by (λ p. own_blocks p.size) places

-- how many of so many blocks the small and medium objects of the places have
abbrev pub small_blocks : ℕ → List Place → ℕ
small_blocks blocks places = count_by (is_used places) (range_with_len 0 blocks)

-- Sizes of the held objects that are not live. They fill the blocks that the places leave.
pub record HasOthers (r : Report) (places : List Place) : Type 0 where
  pub sizes : List ℕ
  pub are : AreSizes (r.held - r.live) (r.held_words - r.live_words)
      (r.kinds.large - large_blocks places)
      (r.blocks - r.kinds.free - r.kinds.large - small_blocks r.blocks places) sizes

-- the numbers of a report that its heap does not bound
abbrev pub numbers_in : Report → List ℕ
numbers_in r = r.commands ∷ r.full ∷ r.nursery ∷ r.collected ∷ r.live ∷ r.live_words ∷ r.held
    ∷ r.held_words ∷ r.kinds.free ∷ r.kinds.bump ∷ r.kinds.young ∷ r.kinds.mature
    ∷ r.kinds.immix ∷ r.kinds.cells ∷ r.kinds.large ∷ r.kinds.kept ∷ []

-- The collections that a report counts: those of the nursery come with young objects alone and
-- after a full one, each `full` reply comes after a full one of its own, and each is made for a
-- command.
pub record CountsCollections (r : Report) : Type 0 where
  pub young : 0 < r.nursery → has_young r.plan ≡ true
  pub first : 0 < r.nursery → 0 < r.collected
  pub refused : r.full ≤ r.collected
  pub nursery : r.nursery ≤ r.commands
  pub collected : r.collected ≤ r.commands

-- The report counts these replies, one list for each mutator, and these places. Its heap has a size
-- that a heap may have, and each number fits 64 bits.
pub record Reports (r : Report) (replies : List (List Reply)) (places : List Place) : Type 0 where
  pub mutators : r.mutators ≡ length replies
  pub some : 1 ≤ r.mutators
  pub few : r.mutators ≤ MAX_MUTATORS
  pub commands : r.commands ≡ sum_by length replies
  pub full : r.full ≡ sum_by (count_by is_full) replies
  pub live : r.live ≡ length places
  pub words : r.live_words ≡ sum_by (λ p. p.size) places
  -- the held objects are the live ones and others
  pub held : r.live ≤ r.held
  pub held_words : r.live_words ≤ r.held_words
  pub others : HasOthers r places
  pub least : MIN_BLOCKS ≤ r.blocks
  pub most : r.blocks ≤ MAX_BLOCKS
  -- the blocks that are not free have room for the held objects
  pub room : r.held_words ≤ BLOCK_WORDS * (r.blocks - r.kinds.free)
  pub collections : CountsCollections r
  pub kinds : blocks_in r.kinds ≡ r.blocks
  -- the large objects have blocks of their own
  pub large : large_blocks places ≤ r.kinds.large
  -- the others lie in blocks that are neither free nor large
  pub small : small_blocks r.blocks places ≤ r.blocks - r.kinds.free - r.kinds.large
  -- each block has a kind of the plan
  pub of_plan : strange_in r.plan r.kinds ≡ 0
  pub fit : All (λ n. n ≤ LARGE) (numbers_in r)

-- all is read that a text of this report, these births and these places has
abbrev pub whole : Report → List ℕ → List Place → Begun
whole r births places = record {
  stage = stages.Map;
  report = r;
  replied = 0;
  born = 0;
  births = births;
  wanted = no_wants;
  places = places;
  left = 0;
  large = r.kinds.large - large_blocks places;
  small = r.blocks - r.kinds.free - r.kinds.large - small_blocks r.blocks places;
}

-- a `new` reply gave the object of the place its name
abbrev pub IsBorn : List (List Reply) → Place → Type 0
IsBorn replies p = p.birth ≤ slice_index_or (births_in replies) p.mutator 0

-- The text of a run with a map that has this report and these places: replies, report and map, as
-- they are printed. The map has its objects in rising order of names. No two overlap, and the
-- blocks of a large one have no other.
pub record IsRunText (r : Report) (places : List Place) (text : List ℕ) : Type 0 where
  pub replies : List (List Reply)
  pub printable : All (All IsPrintable) replies
  -- no mutator has more replies than a trace has commands
  pub short : All (λ rs. length rs ≤ MAX_COMMANDS) replies
  pub named : AllNamesInOrder (births_in replies) 1 replies
  pub reports : Reports r replies places
  pub each : All (IsPlaceIn r.mutators r.blocks) places
  pub born : All (IsBorn replies) places
  pub apart : AllPairs (λ p q. AreDisjoint (room_of p) (room_of q)) places
  pub rise : AllPairs (λ p q. IsBefore (map_place p).name (map_place q).name) places
  pub text_is : text ≡ replies_from 1 replies ++ report_text r
      ++ flat_map place_line (map map_place places)
