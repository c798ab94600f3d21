-- What it takes to serve items of packets, and what is done then.
use Rattle.std.specs.Prelude.{◌≡◌, ℕ, ◌+◌, ◌*◌, ◌<◌, ◌≤◌, ◌⊎◌, IsTrue, nat_eq, Some, List, [], ◌++◌, map, length}
use Rattle.std.specs.Prelude.{slice_index, if◌then◌else◌, All}
use Rattle.heap_layout.specs.Zones.{LineWords, bit_of}
use Rattle.heap_layout.specs.declared.layout.TheConstants.{BLOCK_LINES}
use Rattle.object_model.specs.Objects.{IsHeld}
use Rattle.object_model.specs.Lines.{TouchesLine}
use Rattle.trace_core.specs.Setups.{Setup, blocks, size, refs}
use Rattle.trace_core.specs.Machine.{Event}
use Rattle.trace_core.specs.Traces.{heap_after, target_of}
use Rattle.trace_core.specs.Views.{View, hits}
use Rattle.object_model.specs.Times.{times}
use Rattle.plain_tracer.specs.TokenRights.{IsGrey, IsReached, grey_of, copied_in, to_scan_in}
use Rattle.plain_tracer.specs.Tracers.{Tracks}
use Rattle.plain_tracer.specs.declared.plain_trace.PlainTrace.{PlainTrace}
use Rattle.plain_tracer.specs.declared.tokens.Grey.{Grey}
use Rattle.plain_tracer.specs.declared.tokens.Reached.{Reached}
use Rattle.collector.specs.declared.item.Item.{Item}
use Rattle.collector.specs.Items.{registers, globals, objects, tokens_of}

-- The view has the rights that these items need, each once, and these roots are nil or refer to
-- objects.
pub record HasRights (p : Setup) (v : View) (roots : List ℕ) (items : List Item) : Type 0 where
  pub none_won : v.won ≡ []
  pub tokens : All (IsGrey p v) (tokens_of items)
  pub objects_once : (x : ℕ) → objects x items ≤ hits x 0 v.grey
  pub globals_once : (g : ℕ) → globals g items ≤ times g v.unset
  pub roots_once : (i : ℕ) → registers i items ≤ 1
  pub places : (i : ℕ) → 0 < registers i items → i < length roots
  pub refer : (i : ℕ) → 0 < registers i items → (slice_index roots i ≡ 0)
      ⊎ IsHeld p.before (slice_index roots i)

-- t is the target of the root r, nil of nil
abbrev pub IsTargetOf : View → ℕ → ℕ → Type 0
IsTargetOf v r t = ((r ≡ 0) × (t ≡ 0)) ⊎ ((0 < r) × (0 < hits r t v.known))

-- The object that was at x has its target, and the lines that it touches there are marked.
pub record HasItsLines (p : Setup) (es : List Event) (x : ℕ) : Type 0 where
  pub target : ℕ
  pub known : target_of p es x ≡ Some target
  pub marked : (n : ℕ) → n < BLOCK_LINES * blocks p → TouchesLine (blocks p) target (size p x) n
      → IsTrue (bit_of (blocks p) LineWords (heap_after p es).words n)

-- The items were served: the tracer, whose view was v, made more events, the objects of the items
-- were scanned, and their lines marked if the run marks lines, the globals set and the roots
-- replaced by their targets. The tokens are those of the objects that were copied meanwhile.
pub record ServesItems (p : Setup) (es : List Event) (v : View) (t : PlainTrace) (roots : List ℕ)
    (items : List Item)
    (t' : PlainTrace) (roots' : List ℕ) (pushed : List Grey) : Type 0 where
  pub events : List Event
  pub view : View
  pub tracks : Tracks p (es ++ events) t' view
  pub run : t'.run ≡ t.run
  pub none_won : view.won ≡ []
  pub sparse : view.sparse ≡ v.sparse
  pub known : (x u : ℕ) → 0 < hits x u v.known → 0 < hits x u view.known
  -- objects
  pub copied : (x : ℕ) → times x view.copied ≡ times x (copied_in pushed) + times x v.copied
  pub tokens : All (IsGrey p view) pushed
  pub grey : (x k : ℕ) → hits x k view.grey + (if nat_eq k 0 then objects x items else 0)
      ≡ hits x k (to_scan_in pushed) + hits x k v.grey
      + (if nat_eq k (refs p x) then objects x items else 0)
  pub lines : IsTrue t.run.lines → (x : ℕ) → 0 < objects x items → HasItsLines p (es ++ events) x
  -- globals
  pub unset : (g : ℕ) → times g view.unset + globals g items ≡ times g v.unset
  pub set : (g : ℕ) → times g view.set ≡ globals g items + times g v.set
  -- roots
  pub as_many : length roots' ≡ length roots
  pub served : (i : ℕ) → 0 < registers i items
      → IsTargetOf view (slice_index roots i) (slice_index roots' i)
  pub others : (i : ℕ) → registers i items ≡ 0 → slice_index roots' i ≡ slice_index roots i
  pub asks : (i : ℕ) → 0 < registers i items → 0 < slice_index roots i
      → 0 < times (slice_index roots i) view.asked
  pub asked : (x : ℕ) → 0 < times x v.asked → 0 < times x view.asked
  pub by_roots : (x : ℕ) → 0 < times x view.asked
      → (0 < times x v.asked) ⊎ ((i : ℕ) × (0 < registers i items) × (slice_index roots i ≡ x))

-- These are the tokens with the shapes of their objects, whatever collection the tracer traces
-- where they are rights.
pub record AreShaped (t : PlainTrace) (reached : List Reached) (greys : List Grey) : Type 0 where
  pub shaped : (p : Setup) (es : List Event) (v : View) → Tracks p es t v
      → All (IsReached p v) reached → map (grey_of p) reached ≡ greys
  pub as_many : length greys ≡ length reached
