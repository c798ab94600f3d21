-- The text of a session: the replies of each mutator, the report, and the map.
use Rattle.std.specs.Prelude.{◌≡◌, ℕ, ◌<◌, ◌↔◌, Bool, List, [], ◌++◌, length, count_by, slice_index, codes}
use Rattle.std.specs.Prelude.{if◌then◌else◌}
use Rattle.std.specs.List.{Any, flat_map, range_with_len}
use Rattle.std.specs.Fmt.{decimal}
use Rattle.heap_layout.specs.Zones.{block_at, offset_at}
use Rattle.heap_layout.specs.declared.block.Kind.TheVariants as kinds
use Rattle.ideal_heap.specs.declared.name.Name.{Name}
use Rattle.ideal_heap.specs.Names.{IsBefore}
use Rattle.ideal_heap.specs.declared.reply.Reply.{Reply}
use Rattle.ideal_heap.specs.Runs.{replies_of, is_full}
use Rattle.object_model.specs.Objects.{HeapState, name_at, size_at}
use Rattle.object_model.specs.Counting.{held_in, count_words_at, kind_count}
use Rattle.object_model.specs.Graphs.{IsReachable, roots_of}
use Rattle.trace_text.specs.Text.{ended, name_text, mutator_text}
use Rattle.made_trace.specs.Counts.{is_new_reply, is_ref, is_nil, is_num, is_done, is_yes, is_no, is_null, is_range}
use Rattle.made_trace.specs.Counts.{sum_replied}
use Rattle.sessions.specs.Plans.{Plan, plan_word}
use Rattle.sessions.specs.Fitting.{large_of}
use Rattle.sessions.specs.Sessions.{Moment}

-- the replies of mutators 1 to n
abbrev pub replies_part : ℕ → Moment → List ℕ
replies_part n last = flat_map (λ m. mutator_text m (replies_of m last.done)) (range_with_len 1 n)

-- the objects that are reachable from registers and globals, each once, in rising order of names
pub record AreLive (last : Moment) (live : List ℕ) : Type 0 where
  pub all : (a : ℕ) → IsReachable last.heap (roots_of last.mutators) a ↔ Any (λ x. x ≡ a) live
  pub rise : (i j : ℕ) → i < j → j < length live
      → IsBefore (name_at last.heap (slice_index live i)) (name_at last.heap (slice_index live j))

abbrev pub live_line : HeapState → List ℕ → List ℕ
live_line s live = ended (codes "live objects " ++ decimal (length live)
    ++ codes " words " ++ decimal (count_words_at s live))

abbrev pub held_line : HeapState → List ℕ
held_line s = ended (codes "held objects " ++ decimal (length (held_in s))
    ++ codes " words " ++ decimal (count_words_at s (held_in s)))

abbrev pub kinds_line : HeapState → List ℕ
kinds_line s = ended (codes "kinds free " ++ decimal (kind_count s kinds.Free)
    ++ codes " bump " ++ decimal (kind_count s kinds.Bump)
    ++ codes " young " ++ decimal (kind_count s kinds.Young) ++ codes " mature "
    ++ decimal (kind_count s kinds.Mature)
    ++ codes " immix " ++ decimal (kind_count s kinds.Immix) ++ codes " cells "
    ++ decimal (kind_count s kinds.Cells)
    ++ codes " large " ++ decimal (large_of s) ++ codes " kept "
    ++ decimal (kind_count s kinds.Kept))

-- nine lines on a session of n mutators, whose last heap has these live objects
abbrev pub report_part : Plan → ℕ → Moment → List ℕ → List ℕ
report_part plan n last live =
    ended (codes "plan " ++ plan_word plan)
    ++ ended (codes "blocks " ++ decimal last.heap.blocks)
    ++ ended (codes "mutators " ++ decimal n)
    ++ ended (codes "commands " ++ decimal (length last.done))
    ++ ended (codes "full " ++ decimal (count_by (λ e. is_full e.reply) last.done))
    ++ ended (codes "collections nursery " ++ decimal last.nursery ++ codes " full "
    ++ decimal last.full)
    ++ live_line last.heap live
    ++ held_line last.heap
    ++ kinds_line last.heap

-- a place: `size` words from word `word` of block `block` on, which the object of a name takes
pub record MapPlace : Type 0 where
  pub name : Name
  pub block : ℕ
  pub word : ℕ
  pub size : ℕ

-- the place of the object at a
abbrev pub place_of : HeapState → ℕ → MapPlace
place_of s a = record {
  name = name_at s a;
  block = block_at s.blocks a;
  word = offset_at s.blocks a;
  size = size_at s a;
}

abbrev pub place_line : MapPlace → List ℕ
place_line p =
    ended (codes "map " ++ name_text p.name ++ codes " block " ++ decimal p.block
    ++ codes " word " ++ decimal p.word ++ codes " size " ++ decimal p.size)

-- the map line of an object: its name, where it lies, and its size in words
abbrev pub map_line : HeapState → ℕ → List ℕ
map_line s a = place_line (place_of s a)

abbrev pub map_part : Moment → List ℕ → List ℕ
map_part last live = flat_map (map_line last.heap) live

-- the text after the replies of a session with files; the map only if it is asked for
pub record IsReport (plan : Plan) (n : ℕ) (has_map : Bool) (last : Moment) (text : List ℕ)
    : Type 0 where
  pub live : List ℕ
  pub are : AreLive last live
  pub printed : text ≡ report_part plan n last live
      ++ (if has_map then map_part last live else [])

-- the whole text of a session with files; the map only if it is asked for
pub record IsSessionText (plan : Plan) (n : ℕ) (has_map : Bool) (last : Moment) (text : List ℕ)
    : Type 0 where
  pub live : List ℕ
  pub are : AreLive last live
  pub printed : text ≡ replies_part n last ++ report_part plan n last live
      ++ (if has_map then map_part last live else [])

-- a line of the summary: how many replies are of this kind
abbrev pub count_line : List ℕ → (Reply → Bool) → List Reply → List ℕ
count_line word p replies = ended (word ++ decimal (count_by p replies))

-- the counts of replies in the summary of a made trace of n commands
abbrev pub counts_part : ℕ → List Reply → List ℕ
counts_part n replies =
    ended (codes "make " ++ decimal n)
    ++ count_line (codes "new ") is_new_reply replies
    ++ count_line (codes "full ") is_full replies
    ++ count_line (codes "ref ") is_ref replies
    ++ count_line (codes "nil ") is_nil replies
    ++ ended (codes "num " ++ decimal (count_by is_num replies)
    ++ codes " sum " ++ decimal (sum_replied replies))
    ++ count_line (codes "ok ") is_done replies
    ++ count_line (codes "yes ") is_yes replies
    ++ count_line (codes "no ") is_no replies
    ++ count_line (codes "null ") is_null replies
    ++ count_line (codes "range ") is_range replies

abbrev pub summary_part : ℕ → HeapState → List ℕ → List Reply → List ℕ
summary_part n s live replies = counts_part n replies ++ live_line s live

-- the whole text of a session of a made trace of n commands
pub record IsSummary (n : ℕ) (last : Moment) (text : List ℕ) : Type 0 where
  pub live : List ℕ
  pub are : AreLive last live
  pub printed : text ≡ summary_part n last.heap live (replies_of 1 last.done)
