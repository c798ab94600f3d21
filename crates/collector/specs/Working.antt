-- What the worker of a collection is, by its tracing: the packets it may run, its steps, and what
-- it awaits.
use Rattle.std.specs.Prelude.{◌≡◌, ℕ, ◌<◌, ◌⊎◌, List, [], All}
use Rattle.std.specs.List.Sorted.{IsPermutation}
use Rattle.work_packets.specs.declared.packet.Packet.{Packet}
use Rattle.work_packets.specs.declared.packet.Bucket.TheVariants as buckets
use Rattle.object_model.specs.Objects.{state_of}
use Rattle.object_model.specs.Heaps.{heap_state}
use Rattle.trace_core.specs.Setups.{Setup}
use Rattle.trace_core.specs.Machine.{Event}
use Rattle.trace_core.specs.Views.{View}
use Rattle.plain_tracer.specs.Tracers.{Tracks}
use Rattle.trace_core.specs.Runs.{MayRun}
use Rattle.plain_tracer.specs.declared.tokens.Grey.{Grey}
use Rattle.collector.specs.declared.item.Item.{Item}
use Rattle.collector.specs.declared.packet_tracer.PacketTracer.{PacketTracer}
use Rattle.collector.specs.declared.worker.TracingStart.{TracingStart}
use Rattle.collector.specs.Items.{registers, items_of, tokens_of}
use Rattle.collector.specs.Serving.{HasRights, ServesItems}
use Rattle.collector.specs.Awaited.{IsAwaited}
use Rattle.collector.specs.Tallies.{Counts, unclaimed}

-- each root of the packet is at a place of a list of h roots
abbrev pub TakesPlaces : ℕ → Packet Item → Type 0
TakesPlaces h p = (i : ℕ) → 0 < registers i p.items.items → i < h

-- The worker ran a packet and pushed these: whatever collection it traces, it served the items of
-- the packet and pushed the objects that it copied meanwhile, which it counted.
pub record RunsPacket (w : PacketTracer) (p : Packet Item) (q : List (Packet Item))
    (v : PacketTracer) : Type 0 where
  pub won : List Grey
  pub pushed : IsPermutation won (tokens_of (items_of q))
  pub closure : All (λ packet. packet.bucket ≡ buckets.Closure) q
  pub counts : Counts w.tally v.tally won
  pub serves : (setup : Setup) (es : List Event) (view : View) → Tracks setup es w.tracer view
      → HasRights setup view w.roots.items p.items.items
      → ServesItems setup es view w.tracer w.roots.items p.items.items v.tracer v.roots.items won

-- the objects that the tracing has still to claim are at most so many
abbrev pub unclaimed_by : PacketTracer → ℕ
unclaimed_by w = unclaimed (state_of w.tracer.row) w.tracer.run.number

-- the packet is run while objects are traced
abbrev pub IsOfTrace : Packet Item → Type 0
IsOfTrace p = (p.bucket ≡ buckets.Roots) ⊎ (p.bucket ≡ buckets.Closure)

-- The tracing began so, and these packets are left.
pub record AwaitsPackets (start : TracingStart) (w : PacketTracer) (ps : List (Packet Item))
    : Type 0 where
  pub awaited : IsAwaited (heap_state start.heap) start.run start.roots.items w (items_of ps)
  pub buckets : All IsOfTrace ps

-- The tracing of a collection, full or nursery, began so, and nothing is left to serve.
pub record AwaitsNothing (start : TracingStart) (w : PacketTracer) : Type 0 where
  pub may : MayRun (heap_state start.heap) start.run
  pub awaited : IsAwaited (heap_state start.heap) start.run start.roots.items w []
