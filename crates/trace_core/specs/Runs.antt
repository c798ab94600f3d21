-- A collection as a tracer gets it, and the collection that it begins so.
use Rattle.std.specs.Prelude.{◌≡◌, ℕ, ◌+◌, ◌*◌, ◌^◌, ◌<◌, Bool, true, false, ◌||◌, IsTrue, List, [], ◌++◌, take, drop}
use Rattle.std.specs.Prelude.{length, slice_get, slice_index, Option, Some, None, replicate, if◌then◌else◌, slice_set}
use Rattle.std.specs.Prelude.{◌∷◌, nat_lt}
use Rattle.forward_word.specs.declared.words.TheConstants.{NUMBER_BITS}
use Rattle.heap_layout.specs.Zones.{LineWords, UnlogBits, first}
use Rattle.heap_layout.specs.declared.layout.TheConstants.{BLOCK_BIT_WORDS, BLOCK_LINE_BIT_WORDS}
use Rattle.object_model.specs.declared.collect.Collect.{Collect}
use Rattle.object_model.specs.declared.collect.Collect.TheVariants.{Nursery, Full}
use Rattle.object_model.specs.Objects.{HeapState, has_kind, with_words}
use Rattle.object_model.specs.BitWords.{bit_word, bit_place}
use Rattle.object_model.specs.Times.{one_if, times}
use Rattle.side_meta.specs.BitWords.{with_bit}
use Rattle.object_model.specs.Ages.{RemembersYoung, ListsLogged}
use Rattle.trace_core.specs.Setups.{Setup, blocks, collection, is_copy_kind, was_logged}
use Rattle.trace_core.specs.Outcomes.{base_after_trace}
use Rattle.trace_core.specs.declared.run.TraceRun.{TraceRun}
use Rattle.heap_layout.specs.declared.block.Kind.TheVariants as kinds

-- a nursery collection
abbrev pub is_nursery : Collect → Bool
is_nursery Nursery = true
is_nursery Full = false

-- a flag of a list, false beyond its end
abbrev pub is_some_true : Option Bool → Bool
is_some_true None = false
is_some_true (Some b) = b

-- the list with n elements from index a on replaced by zeros
abbrev pub zeroed : List ℕ → ℕ → ℕ → List ℕ
zeroed xs a n = take a xs ++ (replicate n 0 ++ drop (a + n) xs)

-- the row with all line bits clear, and with all unlog bits clear
abbrev pub without_lines : HeapState → HeapState
without_lines s =
    with_words s (zeroed s.words (first s.blocks LineWords) (BLOCK_LINE_BIT_WORDS * s.blocks))

abbrev pub without_unlogs : HeapState → HeapState
without_unlogs s =
    with_words s (zeroed s.words (first s.blocks UnlogBits) (BLOCK_BIT_WORDS * s.blocks))

-- the row with the unlog bits of these objects set
abbrev pub set_unlogs : ℕ → List ℕ → List ℕ → List ℕ
set_unlogs b [] words = words
set_unlogs b (a ∷ objects) words = set_unlogs b objects (slice_set words (bit_word b UnlogBits a)
    (with_bit (slice_index words (bit_word b UnlogBits a)) (bit_place b a)))

abbrev pub with_unlogs : HeapState → List ℕ → HeapState
with_unlogs s objects = with_words s (set_unlogs s.blocks objects s.words)

-- The heap as its tracing begins, where a set unlog bit means that the object has its target. So a
-- full collection begins by clearing these bits, and a nursery one by setting those of the logged
-- objects. Under a plan with lines a full one clears the line bits too.
abbrev pub begun : HeapState → TraceRun → HeapState
begun s run = if is_nursery run.collect then with_unlogs s run.logged.items
    else without_unlogs (if run.lines then without_lines s else s)

-- the collection as its tracing begins
abbrev pub setup_of : HeapState → TraceRun → ℕ → Setup
setup_of s run workers = record {
  before = begun s run;
  nursery = is_nursery run.collect;
  logged = λ a. nat_lt 0 (times a run.logged.items);
  from = λ b. is_some_true (slice_get run.from.items b);
  copy = run.copy_kind;
  workers = workers;
}

-- A tracing of this heap may begin so.
pub record MayRun (s : HeapState) (run : TraceRun) : Type 0 where
  pub number : run.number ≡ s.number + 1
  pub limit : run.number < 2 ^ NUMBER_BITS
  pub base : run.base ≡ (if is_nursery run.collect then s.base else run.number)
  -- a nursery collection comes after a full one, and finds each reference from an old object to a
  -- young one logged
  pub full : IsTrue (is_nursery run.collect) → 0 < s.base
  pub remembers : IsTrue (is_nursery run.collect) → RemembersYoung s
  pub nursery : IsTrue (is_nursery run.collect) → ListsLogged s run.logged.items
  pub none : is_nursery run.collect ≡ false → run.logged.items ≡ []
  pub kind : IsTrue (is_copy_kind run.copy_kind)
  -- no object leaves a large block, and none leaves any block where none are copied
  pub from : length run.from.items ≡ s.blocks
  pub small : (b : ℕ) → slice_get run.from.items b ≡ Some true
      → IsTrue (has_kind s b kinds.LargeHead || has_kind s b kinds.LargeTail) → ⊥
  pub fixed : run.copy_kind ≡ kinds.Free → (b : ℕ) → slice_get run.from.items b ≡ Some true → ⊥

-- what the tracer got is so
pub record IsRunOf (p : Setup) (run : TraceRun) : Type 0 where
  pub number : run.number ≡ collection p
  pub base : run.base ≡ base_after_trace p
  pub from : (b : ℕ) → b < blocks p → slice_get run.from.items b ≡ Some (p.from b)
  pub kind : run.copy_kind ≡ p.copy
  pub nursery : p.nursery ≡ is_nursery run.collect
  -- the list has each logged object once
  pub logged : (x : ℕ) → times x run.logged.items ≡ one_if (was_logged p x)
