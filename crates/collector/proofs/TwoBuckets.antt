-- The one worker of a trace runs the packets of roots and then those that scan objects, and awaits nothing more.
use Rattle.std.proofs.Common.{◌≡◌, refl, subst, ℕ, ◌<◌, ◌⊎◌, inl, inr, arith, true, false, List, [], ◌∷◌, length}
use Rattle.std.specs.Prelude.{All}
use Rattle.std.specs.List.Sorted.{IsPermutation}
use Rattle.std.proofs.lemmas.List.Elements.{All-nil, All-cons, All-head, filter_passes}
use Rattle.std.proofs.lemmas.List.Sorted.{All-permutation, IsPermutation-refl}
use Rattle.work_packets.specs.declared.packet.Bucket.{Bucket}
use Rattle.work_packets.specs.declared.packet.Bucket.TheVariants.{Roots, Closure}
use Rattle.work_packets.specs.declared.packet.Packet.{Packet}
use Rattle.work_packets.specs.Awaiting.{AwaitsAll}
use Rattle.work_packets.specs.Buckets.{is_before}
use Rattle.work_packets.specs.Packets.{packets_after}
use Rattle.object_model.specs.Heaps.{heap_state}
use Rattle.collector.specs.declared.item.Item.{Item}
use Rattle.collector.specs.declared.packet_tracer.PacketTracer.{PacketTracer}
use Rattle.collector.specs.declared.worker.TracingStart.{TracingStart}
use Rattle.collector.specs.Items.{registers, items_of}
use Rattle.collector.specs.Working.{AwaitsPackets, IsOfTrace, TakesPlaces}
use Rattle.collector.proofs.ItemCounts.{registers-append, all-both, packets-same}
use Rattle.collector.proofs.AwaitedSteps.{same-awaited}

no-truth : false ≡ true → ⊥
no-truth e = cc

-- the order of packets is open
pub awaits-all : (start : TracingStart) (w : PacketTracer) (ps : List (Packet Item)) → AwaitsPackets start w ps → AwaitsAll AwaitsPackets start w ps
awaits-all start w ps aw = λ qs order. record {
  awaited = same-awaited (heap_state start.heap) start.run start.roots.items w (items_of ps) (items_of qs) (packets-same ps qs order) aw.awaited;
  buckets = All-permutation IsOfTrace ps qs order aw.buckets;
}

-- each root of the packets is at a place of the list
module _ (h : ℕ) where
  places-of : (ps : List (Packet Item)) → ((i : ℕ) → 0 < registers i (items_of ps) → i < h) → All (TakesPlaces h) ps
  places-of [] places = All-nil (TakesPlaces h)
  places-of (p ∷ ps) places = All-cons (TakesPlaces h) p ps
      (λ i some. places i (let both = registers-append i p.items.items (items_of ps) in omega arith))
      (places-of ps (λ i some. places i (let both = registers-append i p.items.items (items_of ps) in omega arith)))

pub takes-awaited : (start : TracingStart) (w : PacketTracer) (ps : List (Packet Item)) → AwaitsPackets start w ps → All (TakesPlaces (length w.roots.items)) ps
takes-awaited start w ps aw = places-of (length w.roots.items) ps aw.awaited.tracer.rights.places

-- packets of the trace after one of its buckets
module _ (b : Bucket) where
  abbrev IsTraced : Type 0
  IsTraced = (b ≡ Roots) ⊎ (b ≡ Closure)

  after-roots : is_before Roots b ≡ true → IsTraced → b ≡ Closure
  after-roots after is = elim is as (λ _. b ≡ Closure) [
    | inl e ↦ absurd (no-truth (subst (λ c. is_before Roots c ≡ true) e after))
    | inr e ↦ e
  ]

  after-closure : is_before Closure b ≡ true → IsTraced → ⊥
  after-closure after is = elim is as (λ _. ⊥) [
    | inl e ↦ no-truth (subst (λ c. is_before Closure c ≡ true) e after)
    | inr e ↦ no-truth (subst (λ c. is_before Closure c ≡ true) e after)
  ]

module _ (ps later : List (Packet Item)) where
  all-after : (b : Bucket) → IsPermutation (packets_after b ps) later → All (λ p. is_before b p.bucket ≡ true) later
  all-after b left = All-permutation (λ p. is_before b p.bucket ≡ true) (packets_after b ps) later left (filter_passes (λ (p : Packet Item). is_before b p.bucket) ps)

  pub scans-left : IsPermutation (packets_after Roots ps) later → All IsOfTrace later → All (λ p. p.bucket ≡ Closure) later
  scans-left left of = all-both (λ p. is_before Roots p.bucket ≡ true) IsOfTrace (λ p. p.bucket ≡ Closure) (λ p after is. after-roots p.bucket after is) later (all-after Roots left) of

none-of : (later : List (Packet Item)) → All (λ p. is_before Closure p.bucket ≡ true) later → All IsOfTrace later → later ≡ []
none-of [] after of = refl
none-of (p ∷ later) after of = absurd (after-closure p.bucket (All-head (λ p. is_before Closure p.bucket ≡ true) p later after) (All-head IsOfTrace p later of))

pub none-left : (ps later : List (Packet Item)) → IsPermutation (packets_after Closure ps) later → All IsOfTrace later → later ≡ []
none-left ps later left of = none-of later (all-after ps later Closure left) of

-- the worker of a trace
module _ {W : Type 0} (trace : W → PacketTracer) where
  abbrev pub Waits : TracingStart → W → List (Packet Item) → Type 0
  Waits start w ps = AwaitsPackets start (trace w) ps

  -- after the scans it awaits nothing
  pub nothing-awaited : (start : TracingStart) (w : W) (ps later : List (Packet Item)) → AwaitsAll Waits start w later → IsPermutation (packets_after Closure ps) later → AwaitsPackets start (trace w) []
  nothing-awaited start w ps later all left =
      let aw : AwaitsPackets start (trace w) later = all later (IsPermutation-refl later) in
      subst (AwaitsPackets start (trace w)) (none-left ps later left aw.buckets) aw
