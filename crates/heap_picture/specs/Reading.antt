-- How far the text of a run has been read, and what each line adds.
use Rattle.std.specs.Prelude.{◌≡◌, ℕ, ◌+◌, ◌-◌, ◌*◌, ◌/◌, Bool, true, false, not, ◌&&◌, ◌||◌, List, [], ◌∷◌, ◌++◌}
use Rattle.std.specs.Prelude.{length, replicate, Option, None, Some, Result, Ok, Err, nat_eq, nat_lt, nat_le}
use Rattle.std.specs.Prelude.{if◌then◌else◌, codes, slice_get, slice_index_or, slice_set, option_and_then}
use Rattle.std.specs.Borrow.{Bor}
use Rattle.std.specs.List.{list_all, range_with_len}
use Rattle.std.specs.Str.{bytes_eq}
use Rattle.heap_layout.specs.declared.layout.TheConstants.{BLOCK_WORDS, MAX_BLOCKS, MIN_BLOCKS}
use Rattle.ideal_heap.specs.declared.command.TheConstants.{MAX_MUTATORS}
use Rattle.object_model.specs.declared.shape.TheConstants.{HEADER_WORDS, MAX_MEDIUM_WORDS}
use Rattle.session_counts.specs.Sizes.{may_fill, own_blocks, shared_blocks}
use Rattle.session_counts.specs.declared.sizes.TheConstants.{MAX_OBJECT_WORDS}
use Rattle.trace_text.specs.Grammar.{parts_at}
use Rattle.trace_text.specs.declared.limits.TheConstants.{MAX_COMMANDS}
use Rattle.sessions.specs.Plans.{rules_of}
use Rattle.command_line.specs.Orders.{plan_in}
use Rattle.command_line.specs.declared.order.PlanName.{PlanName}
use Rattle.command_line.specs.declared.order.PlanName.TheVariants as plans
use Rattle.heap_picture.specs.declared.forms.KindCounts.{KindCounts}
use Rattle.heap_picture.specs.declared.forms.Pair.{Pair}
use Rattle.heap_picture.specs.declared.forms.Place.{Place}
use Rattle.heap_picture.specs.declared.reader.Report.{Report}
use Rattle.heap_picture.specs.declared.reader.Reader.{Reader}
use Rattle.heap_picture.specs.declared.reader.Stage.{Stage}
use Rattle.heap_picture.specs.declared.reader.Stage.TheVariants as stages
use Rattle.heap_picture.specs.declared.reader.TextFault.{TextFault}
use Rattle.heap_picture.specs.declared.reader.TextFault.TheVariants as fault
use Rattle.heap_picture.specs.declared.reader.TheConstants.{NUMBERS}
use Rattle.heap_picture.specs.Forms.{LARGE, Numbered, kinds_in, name_in, one_number, place_in, ref_in, reply_in}
use Rattle.heap_picture.specs.Forms.{two_numbers}
use Rattle.heap_picture.specs.Marks.{first_word, is_taken, is_used, room_words}

-- a number and the text after it, as the code has them
abbrev pub numbered : ℕ × Bor (List ℕ) → Numbered
numbered x = (x.0, x.1.now)

-- The lines read so far: where in the text the next one stands, the counts of mutators and replies
-- and what the report says, the places of the map, and the words, and blocks of large objects and of
-- others, that are left for places to come.
-- The mutator whose replies come has `replied` of them, which name `born` new objects; `births` are
-- those of each mutator before it, of which the first is for the number 0, and is 0. `wanted` has
-- for each number the greatest birth that a `ref` reply names.
pub record Begun : Type 0 where
  pub stage : Stage
  pub report : Report
  pub replied : ℕ
  pub born : ℕ
  pub births : List ℕ
  pub wanted : List ℕ
  pub places : List Place
  pub left : ℕ
  pub large : ℕ
  pub small : ℕ

abbrev pub begun : Reader → Begun
begun r = record {
  stage = r.stage;
  report = r.report;
  replied = r.replied;
  born = r.born;
  births = r.births.items;
  wanted = r.wanted;
  places = r.places.items.items;
  left = r.left;
  large = r.large;
  small = r.small;
}

-- nothing is read
abbrev pub no_kinds : KindCounts
no_kinds = record {
  free = 0;
  bump = 0;
  young = 0;
  mature = 0;
  immix = 0;
  cells = 0;
  large = 0;
  kept = 0;
}

abbrev pub no_report : Report
no_report = record {
  plan = plans.NoGc;
  blocks = 0;
  mutators = 0;
  commands = 0;
  full = 0;
  nursery = 0;
  collected = 0;
  live = 0;
  live_words = 0;
  held = 0;
  held_words = 0;
  kinds = no_kinds;
}

abbrev pub no_wants : List ℕ
no_wants = replicate NUMBERS 0

abbrev pub nothing : Begun
nothing = record {
  stage = stages.Replies;
  report = no_report;
  replied = 0;
  born = 0;
  births = [];
  wanted = no_wants;
  places = [];
  left = 0;
  large = 0;
  small = 0;
}

-- the report goes on at this stage
abbrev pub goes_to : Begun → Stage → Report → Begun
goes_to s stage report = record s { stage = stage; report = report }

-- a `new` reply has this name, which is that of the mutator's next object
abbrev pub is_birth : Begun → Pair → Bool
is_birth s name = nat_eq name.first s.report.mutators && nat_lt 0 name.second
    && nat_eq (name.second - 1) s.born

-- if the reply is a `new`, it has the name of the mutator's next object
abbrev pub may_be_born : Begun → Option Pair → Bool
may_be_born s None = true
may_be_born s (Some name) = is_birth s name

-- how many objects a mutator has, as far as it is known
abbrev pub births_of : Begun → ℕ → ℕ
births_of s m = if nat_eq m s.report.mutators then s.born else slice_index_or s.births m 0

-- a `ref` reply may have this name: the mutator has such an object, or its replies are to come
abbrev pub is_known : Begun → Pair → Bool
is_known s name = nat_lt 0 name.second && nat_le name.first MAX_MUTATORS
    && (nat_lt s.report.mutators name.first || nat_le name.second (births_of s name.first))

-- if the reply is a `ref`, it may have its name
abbrev pub may_be_known : Begun → Option Pair → Bool
may_be_known s None = true
may_be_known s (Some name) = is_known s name

-- what is wanted with the name that a `ref` reply has
abbrev pub wanted_with : List ℕ → Option Pair → List ℕ
wanted_with wanted None = wanted
wanted_with wanted (Some name) = if nat_lt (slice_index_or wanted name.first 0) name.second
    then slice_set wanted name.first name.second else wanted

-- each mutator has the objects that are wanted of it
unfoldable pub are_met : List ℕ → List ℕ → Bool
are_met wanted births =
    list_all (λ m. nat_le (slice_index_or wanted m 0) (slice_index_or births m 0))
    (range_with_len 0 NUMBERS)

-- how many objects the mutator has with the one that a `new` reply names
abbrev pub born_with : ℕ → Option Pair → ℕ
born_with born None = born
born_with born (Some name) = name.second

-- one more reply, which may name a new object or another one, or say that the heap is full
abbrev pub with_reply : Begun → Option Pair → Option Pair → Bool → Begun
with_reply s name other is_full = record s {
  report = record s.report {
    commands = s.report.commands + 1;
    full = if is_full then s.report.full + 1 else s.report.full;
  };
  replied = s.replied + 1;
  born = born_with s.born name;
  wanted = wanted_with s.wanted other;
}

-- a reply of a mutator, which has no more of them than a trace has commands
abbrev pub as_reply : Begun → Option Pair → Option Pair → Bool → Option Begun
as_reply s name other is_full = if nat_lt 0 s.report.mutators && nat_lt s.report.commands LARGE
    && nat_lt s.report.full LARGE && nat_lt s.replied MAX_COMMANDS && may_be_born s name
    && may_be_known s other
    then Some (with_reply s name other is_full) else None

-- the next mutator, if the one before it has what is wanted of it
abbrev pub as_mutator : Begun → ℕ → Option Begun
as_mutator s n = if nat_lt 0 n && nat_eq (n - 1) s.report.mutators
    && nat_le n MAX_MUTATORS
    && nat_le (slice_index_or s.wanted s.report.mutators 0) s.born
    then Some (record s {
      report = record s.report { mutators = n };
      replied = 0;
      born = 0;
      births = s.births ++ s.born ∷ [];
    }) else None

-- the plan that the line names
abbrev pub plan_in_line : List ℕ → Option PlanName
plan_in_line line =
    if bytes_eq line (codes "plan nogc") then Some plans.NoGc
    else if bytes_eq line (codes "plan marksweep") then Some plans.MarkSweep
    else if bytes_eq line (codes "plan semispace") then Some plans.SemiSpace
    else if bytes_eq line (codes "plan gencopy") then Some plans.GenCopy
    else if bytes_eq line (codes "plan immix") then Some plans.Immix
    else if bytes_eq line (codes "plan stickyimmix") then Some plans.StickyImmix
    else None

-- the report begins, after the replies of a mutator at least, and of all that are wanted
abbrev pub as_plan : Begun → PlanName → Option Begun
as_plan s plan = if nat_lt 0 s.report.mutators && are_met s.wanted (s.births ++ s.born ∷ [])
    then Some (record (goes_to s stages.Blocks (record s.report { plan = plan })) {
      replied = 0;
      born = 0;
      births = s.births ++ s.born ∷ [];
      wanted = no_wants;
    }) else None

-- a line before the report's second one, by what it may be: a reply, a mutator or the plan
abbrev pub early_line : Begun → Option Bool → Option Pair → Option Pair → Option ℕ
    → Option PlanName → Option Begun
early_line s (Some is_full) name other n plan = as_reply s name other is_full
early_line s None name other (Some n) plan = as_mutator s n
early_line s None name other None (Some plan) = as_plan s plan
early_line s None name other None None = None

abbrev pub at_replies : Begun → List ℕ → Option Begun
at_replies s line = early_line s (reply_in line) (name_in line) (ref_in line)
    (one_number (codes "mutator ") LARGE line) (plan_in_line line)

-- the size of the heap
abbrev pub as_blocks : Begun → ℕ → Option Begun
as_blocks s n = if nat_le MIN_BLOCKS n && nat_le n MAX_BLOCKS
    then Some (goes_to s stages.Mutators (record s.report { blocks = n })) else None

abbrev pub at_blocks : Begun → List ℕ → Option Begun
at_blocks s line = option_and_then (as_blocks s) (one_number (codes "blocks ") LARGE line)

-- a number that follows from the lines before, after this word
abbrev pub as_known : List ℕ → ℕ → Stage → Begun → List ℕ → Option Begun
as_known word known next s line = option_and_then
    (λ n. if nat_eq n known then Some (record s { stage = next }) else None)
    (one_number word LARGE line)

-- the plan has young objects
abbrev pub has_young : PlanName → Bool
has_young plan = (rules_of (plan_in plan)).young

-- Collections of the nursery and full ones that a run may make for these commands: the former only
-- with young objects and after a full one, and a full one for each `full` reply.
abbrev pub may_collect : Report → Pair → Bool
may_collect r x = nat_le r.full x.second && nat_le x.second r.commands
    && nat_le x.first r.commands
    && (nat_eq x.first 0 || has_young r.plan && nat_lt 0 x.second)

-- the counts of collections
abbrev pub as_collections : Begun → Pair → Option Begun
as_collections s x = if may_collect s.report x
    then Some
    (goes_to s stages.Live (record s.report { nursery = x.first; collected = x.second }))
    else None

abbrev pub at_collections : Begun → List ℕ → Option Begun
at_collections s line = option_and_then (as_collections s)
    (two_numbers (codes "collections nursery ") (codes " full ") LARGE line)

-- so many objects may have so many words
abbrev pub have_sizes : ℕ → ℕ → Bool
have_sizes objects words = nat_le (HEADER_WORDS * objects) words
    && nat_le words (MAX_OBJECT_WORDS * objects)

-- the counts of live objects and of their words
abbrev pub as_live : Begun → Pair → Option Begun
as_live s x = if have_sizes x.first x.second then Some (record s {
  stage = stages.Held;
  report = record s.report { live = x.first; live_words = x.second };
  left = x.second;
}) else None

abbrev pub at_live : Begun → List ℕ → Option Begun
at_live s line =
    option_and_then (as_live s) (two_numbers (codes "live objects ") (codes " words ") LARGE line)

-- the held objects are the live ones and others, and the heap has room for them
abbrev pub may_be_held : Report → Pair → Bool
may_be_held r x = nat_le r.live x.first && nat_le r.live_words x.second
    && have_sizes (x.first - r.live) (x.second - r.live_words)
    && nat_le x.second (BLOCK_WORDS * r.blocks)

-- the counts of held objects and of their words
abbrev pub as_held : Begun → Pair → Option Begun
as_held s x = if may_be_held s.report x
    then Some (goes_to s stages.Kinds (record s.report { held = x.first; held_words = x.second }))
    else None

abbrev pub at_held : Begun → List ℕ → Option Begun
at_held s line =
    option_and_then (as_held s) (two_numbers (codes "held objects ") (codes " words ") LARGE line)

-- the blocks of all kinds
abbrev pub blocks_in : KindCounts → ℕ
blocks_in k = k.free + k.bump + k.young + k.mature + k.immix + k.cells + k.large + k.kept

-- the blocks of kinds that are none of the plan's
abbrev pub strange_in : PlanName → KindCounts → ℕ
strange_in plans.NoGc k = k.young + k.mature + k.immix + k.cells + k.kept
strange_in plans.MarkSweep k = k.bump + k.young + k.mature + k.immix + k.kept
strange_in plans.SemiSpace k = k.young + k.mature + k.immix + k.cells
strange_in plans.GenCopy k = k.bump + k.immix + k.cells
strange_in plans.Immix k = k.bump + k.young + k.mature + k.cells + k.kept
strange_in plans.StickyImmix k = k.bump + k.young + k.mature + k.cells + k.kept

-- The blocks are of the plan's kinds, and those that are not free have room for the held objects,
-- which may fill them.
abbrev pub may_have_kinds : Report → KindCounts → Bool
may_have_kinds r x = nat_eq (blocks_in x) r.blocks && nat_eq (strange_in r.plan x) 0
    && nat_le r.held_words (BLOCK_WORDS * (r.blocks - x.free))
    && may_fill r.held r.held_words x.large (r.blocks - x.free - x.large)

-- the kinds of all blocks
abbrev pub as_kinds : Begun → KindCounts → Option Begun
as_kinds s x = if may_have_kinds s.report x
    then Some
    (record (goes_to s stages.Map (record s.report { kinds = x })) {
      large = x.large;
      small = s.report.blocks - x.free - x.large;
    }) else None

abbrev pub at_kinds : Begun → List ℕ → Option Begun
at_kinds s line = option_and_then (as_kinds s) (kinds_in line)

-- a `new` reply of one of so many mutators gave the name
abbrev pub is_name : ℕ → List ℕ → Place → Bool
is_name mutators births p = nat_le 1 p.mutator && nat_le p.mutator mutators && nat_le 1 p.birth
    && nat_le p.birth (slice_index_or births p.mutator 0)

-- A small or medium object ends in its block, and a large one begins at its block's first word and
-- ends in the heap of so many blocks.
abbrev pub lies_in : ℕ → Place → Bool
lies_in blocks p = if nat_le p.size MAX_MEDIUM_WORDS
    then nat_lt p.block blocks && nat_lt p.word BLOCK_WORDS && nat_le (p.word + p.size) BLOCK_WORDS
    else nat_lt p.block blocks && nat_eq p.word 0 && nat_le p.size MAX_OBJECT_WORDS
    && nat_le ((p.size + 4095) / BLOCK_WORDS) (blocks - p.block)

-- the name comes after this one
abbrev pub is_after : Place → Place → Bool
is_after last p = nat_lt last.mutator p.mutator
    || nat_eq last.mutator p.mutator && nat_lt last.birth p.birth

-- the name comes after this one, if there is one
abbrev pub follows : Option Place → Place → Bool
follows None p = true
follows (Some last) p = is_after last p

-- the name comes after those of the places
abbrev pub is_next : List Place → Place → Bool
is_next places p = follows (slice_get places (length places - 1)) p

-- no word of the place belongs to another one
abbrev pub is_free : List Place → Place → Bool
is_free places p =
    list_all (λ i. not (is_taken places i)) (range_with_len (first_word p) (room_words p.size))

-- so many objects, with so many words, may follow the place
abbrev pub leaves_room : ℕ → ℕ → Place → Bool
leaves_room objects words p = nat_lt 0 objects && nat_le p.size words
    && have_sizes (objects - 1) (words - p.size)

-- how many more blocks of small and medium objects there are with the place
abbrev pub new_blocks : List Place → Place → ℕ
new_blocks places p = if is_used places p.block then 0 else shared_blocks p.size

-- the held objects that are left after the place may fill the blocks that are left
abbrev pub leaves_others : Begun → Place → Bool
leaves_others s p = may_fill (s.report.held - (length s.places + 1))
    (s.report.held_words - s.report.live_words + (s.left - p.size))
    (s.large - own_blocks p.size) (s.small - new_blocks s.places p)

-- the place may be the next one of the map
abbrev pub may_be_next : Begun → Place → Bool
may_be_next s p = is_name s.report.mutators s.births p && lies_in s.report.blocks p
    && nat_le HEADER_WORDS p.size && is_next s.places p
    && leaves_room (s.report.live - length s.places) s.left p
    && nat_le (own_blocks p.size) s.large && nat_le (new_blocks s.places p) s.small
    && leaves_others s p && is_free s.places p

-- one more line of the map
abbrev pub as_place : Begun → Place → Option Begun
as_place s p = if may_be_next s p
    then Some (record s {
      places = s.places ++ p ∷ [];
      left = s.left - p.size;
      large = s.large - own_blocks p.size;
      small = s.small - new_blocks s.places p;
    }) else None

abbrev pub at_map : Begun → List ℕ → Option Begun
at_map s line = option_and_then (as_place s) (place_in line)

abbrev pub at_stage : Stage → Begun → List ℕ → Option Begun
at_stage stages.Replies s line = at_replies s line
at_stage stages.Blocks s line = at_blocks s line
at_stage stages.Mutators s line =
    as_known (codes "mutators ") s.report.mutators stages.Commands s line
at_stage stages.Commands s line =
    as_known (codes "commands ") s.report.commands stages.Full s line
at_stage stages.Full s line =
    as_known (codes "full ") s.report.full stages.Collections s line
at_stage stages.Collections s line = at_collections s line
at_stage stages.Live s line = at_live s line
at_stage stages.Held s line = at_held s line
at_stage stages.Kinds s line = at_kinds s line
at_stage stages.Map s line = at_map s line

-- what is read after one more line; None if it is no line of a run's text here
abbrev pub after_line : Begun → List ℕ → Option Begun
after_line s line = at_stage s.stage s line

-- all lines of the text are there, at this stage
abbrev pub is_whole_at : Stage → Begun → Bool
is_whole_at stages.Map s = nat_eq (length s.places) s.report.live && nat_eq s.left 0
is_whole_at _ s = false

abbrev pub is_whole : Begun → Bool
is_whole s = is_whole_at s.stage s

-- the value goes on to f, and where there is none, line n is at fault
abbrev pub or_fault : {X Y : Type 0} → ℕ → Option X → (X → Result Y ℕ) → Result Y ℕ
or_fault n None f = Err n
or_fault n (Some x) f = f x

-- What the parts of a text between its newlines say, the first of which has this number; or the
-- number of the first line that is no line of a run's text where it stands. A text that ends too
-- early, or without a newline, is at fault at its last part.
abbrev pub parts_from : ℕ → Begun → List (List ℕ) → Result Begun ℕ
parts_from n s [] = Err n
parts_from n s (line ∷ []) = if nat_eq (length line) 0 && is_whole s then Ok s else Err n
parts_from n s (line ∷ next ∷ parts) =
    or_fault n (after_line s line) (λ more. parts_from (n + 1) more (next ∷ parts))

-- what a text says
unfoldable pub text_read : List ℕ → Result Begun ℕ
text_read text = parts_from 1 nothing (parts_at 10 text)

-- the call read the text, unless it ran out of memory
abbrev pub ReadsText : Result Reader TextFault → Result Begun ℕ → Type 0
ReadsText (Ok r) read = read ≡ Ok (begun r)
ReadsText (Err (fault.Line n)) read = read ≡ Err n
ReadsText (Err fault.OutOfMemory) read = Unit {0}

-- one more line was taken, or it is none of a run's text
abbrev pub Takes : Bool → Option Begun → Begun → Type 0
Takes true read now = read ≡ Some now
Takes false read now = read ≡ None
