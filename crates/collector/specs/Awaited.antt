-- A tracing of which some items are left to serve.
use Rattle.std.specs.Prelude.{◌≡◌, ℕ, ◌<◌, ◌⊎◌, IsTrue, List, [], length, slice_index}
use Rattle.heap_layout.specs.declared.layout.TheConstants.{GLOBALS}
use Rattle.object_model.specs.Objects.{HeapState}
use Rattle.trace_core.specs.Setups.{Setup, refs, was_logged}
use Rattle.trace_core.specs.Machine.{Event}
use Rattle.trace_core.specs.Traces.{stage_of}
use Rattle.trace_core.specs.Outcomes.{image}
use Rattle.trace_core.specs.Views.{View, hits}
use Rattle.object_model.specs.Times.{times}
use Rattle.plain_tracer.specs.Tracers.{Tracks}
use Rattle.trace_core.specs.Runs.{setup_of}
use Rattle.trace_core.specs.declared.run.TraceRun.{TraceRun}
use Rattle.collector.specs.declared.item.Item.{Item}
use Rattle.collector.specs.declared.packet_tracer.PacketTracer.{PacketTracer}
use Rattle.collector.specs.Items.{registers, globals, objects}
use Rattle.collector.specs.Serving.{HasRights, IsTargetOf, HasItsLines}
use Rattle.collector.specs.Tallies.{IsTally}

-- The worker's tracer has made these events, and may serve these items.
pub record TracerAwaits (p : Setup) (run : TraceRun) (events : List Event) (view : View)
    (w : PacketTracer) (items : List Item) : Type 0 where
  -- it traces in this run, and has all rights of the view
  pub tracks : Tracks p events w.tracer view
  pub runs : w.tracer.run ≡ run
  -- among them is the right to serve each item
  pub rights : HasRights p view w.roots.items items
  -- no copy is under way, and no block is left sparse
  pub none : w.won.items ≡ []
  pub sparse : view.sparse ≡ []

-- What is to be done with objects that are copied or were logged is done, or left to these items.
pub record ObjectsAwait (p : Setup) (run : TraceRun) (events : List Event) (view : View)
    (items : List Item) : Type 0 where
  -- an object that is copied is an item, or is scanned up to its last field
  pub scanned : (x : ℕ) → 0 < times x view.copied
      → (0 < objects x items) ⊎ (0 < hits x (refs p x) view.grey)
  -- so is one that was logged
  pub logged : (x : ℕ) → IsTrue (was_logged p x)
      → (0 < objects x items) ⊎ (0 < hits x (refs p x) view.grey)
  -- if the run marks lines, one that is copied is an item, or its lines are marked
  pub lines : IsTrue run.lines → (x : ℕ) → 0 < times x view.copied
      → (0 < objects x items) ⊎ HasItsLines p events x

-- The roots, now these, are replaced by their targets, or left to these items.
pub record RootsAwait (view : View) (roots now : List ℕ) (items : List Item) : Type 0 where
  -- a root is an item and as it was, or is replaced by its target
  pub as_many : length now ≡ length roots
  pub waiting : (i : ℕ) → 0 < registers i items → slice_index now i ≡ slice_index roots i
  pub served : (i : ℕ) → i < length roots → registers i items ≡ 0
      → IsTargetOf view (slice_index roots i) (slice_index now i)
  -- each root that was served has asked for its object, and nothing else has asked
  pub asked : (i : ℕ) → registers i items ≡ 0 → 0 < slice_index roots i
      → 0 < times (slice_index roots i) view.asked
  pub by_roots : (x : ℕ) → 0 < times x view.asked → (i : ℕ) × (slice_index roots i ≡ x)

-- A tracing of this heap from these roots is finished once these items, and no others, are served.
pub record IsAwaited (s : HeapState) (run : TraceRun) (roots : List ℕ) (w : PacketTracer)
    (items : List Item) : Type 0 where
  pub events : List Event
  pub view : View
  pub tracer : TracerAwaits (setup_of s run 1) run events view w items
  pub of_objects : ObjectsAwait (setup_of s run 1) run events view items
  -- a global is an item, or is set
  pub settled : (g : ℕ) → g < GLOBALS → (0 < globals g items) ⊎ (0 < times g view.set)
  pub of_roots : RootsAwait view roots w.roots.items items
  -- what is copied is counted
  pub tally : IsTally s (image (stage_of (setup_of s run 1) events)) view.copied w.tally
