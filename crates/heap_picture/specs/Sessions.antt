-- What a picture shows of a session's last moment: its report, its replies, and the places of its
-- live objects.
use Rattle.std.specs.Prelude.{ℕ, ◌≤◌, List, length, map}
use Rattle.std.specs.List.{All, AllByRecursion, count_by, range_with_len}
use Rattle.heap_layout.specs.declared.block.Kind.TheVariants as kinds
use Rattle.ideal_heap.specs.Runs.{Entry, is_full, replies_of}
use Rattle.ideal_heap.specs.declared.reply.Reply.{Reply}
use Rattle.object_model.specs.Counting.{held_in, count_words_at, kind_count}
use Rattle.object_model.specs.Objects.{HeapState}
use Rattle.sessions.specs.Fitting.{large_of}
use Rattle.sessions.specs.Sessions.{Moment}
use Rattle.trace_text.specs.Text.{IsPrintable}
use Rattle.command_line.specs.declared.order.PlanName.{PlanName}
use Rattle.driver.specs.Texts.{MapPlace, place_of}
use Rattle.heap_picture.specs.Forms.{LARGE}
use Rattle.heap_picture.specs.Texts.{numbers_in}
use Rattle.heap_picture.specs.declared.forms.KindCounts.{KindCounts}
use Rattle.heap_picture.specs.declared.forms.Place.{Place}
use Rattle.heap_picture.specs.declared.reader.Report.{Report}

-- the place that a line of the map has
abbrev pub place_seen : MapPlace → Place
place_seen p = record {
  mutator = p.name.mutator;
  birth = p.name.birth;
  block = p.block;
  word = p.word;
  size = p.size;
}

abbrev pub places_of : HeapState → List ℕ → List Place
places_of s live = map (λ a. place_seen (place_of s a)) live

abbrev pub kinds_of : HeapState → KindCounts
kinds_of s = record {
  free = kind_count s kinds.Free;
  bump = kind_count s kinds.Bump;
  young = kind_count s kinds.Young;
  mature = kind_count s kinds.Mature;
  immix = kind_count s kinds.Immix;
  cells = kind_count s kinds.Cells;
  large = large_of s;
  kept = kind_count s kinds.Kept;
}

-- the report on n mutators, whose last heap has these live objects
abbrev pub report_of : PlanName → ℕ → Moment → List ℕ → Report
report_of plan n last live = record {
  plan = plan;
  blocks = last.heap.blocks;
  mutators = n;
  commands = length last.done;
  full = count_by (λ e. is_full e.reply) last.done;
  nursery = last.nursery;
  collected = last.full;
  live = length live;
  live_words = count_words_at last.heap live;
  held = length (held_in last.heap);
  held_words = count_words_at last.heap (held_in last.heap);
  kinds = kinds_of last.heap;
}

-- the numbers of the replies and of the report have 64 bits, as they have in the code
pub record HasNumbers (r : Report) (done : List Entry) : Type 0 where
  pub replies : AllByRecursion (λ e. IsPrintable e.reply) done
  pub report : All (λ n. n ≤ LARGE) (numbers_in r)

-- the replies of mutators 1 to n
abbrev pub replies_in : ℕ → Moment → List (List Reply)
replies_in n last = map (λ m. replies_of m last.done) (range_with_len 1 n)
