use Rattle.std.proofs.Common.{◌≡◌, ◌++◌, ◌≤◌, List, All, length}
use Rattle.std.specs.List.Sorted.{IsPermutation}
use Rattle.work_packets.specs.Packets.{HasItems}
use Rattle.work_packets.specs.declared.packet.Bucket.TheVariants as buckets
use Rattle.plain_tracer.specs.declared.tokens.Grey.{Grey}
use Rattle.plain_tracer.specs.declared.tokens.Reached.{Reached}
use Rattle.collector.specs.Items.{items_of, tokens_of, IsObject}
use Rattle.collector.specs.Serving.{AreShaped}
use Rattle.collector.specs.Tallies.{Counts}
use Rattle.collector.proofs.packet_tracer.PacketTracer.hand_on.Given as goal

abbrev pub invariant-loop-self : goal.invariant-loop-self
invariant-loop-self l = record {
  tokens : (handed : List Reached) × (l.fn.self.won.items ≡ l.self.won.items ++ handed) × (greys : List Grey) × AreShaped l.fn.self.tracer handed greys
      × IsPermutation greys (tokens_of (items_of l.pushed.items)) × Counts l.fn.self.tally l.self.tally greys × (length l.pushed.items ≤ length handed);
  objects : All IsObject (items_of l.pushed.items);
  bucket : All (λ q. q.bucket ≡ buckets.Closure) l.pushed.items;
  sizes : All HasItems l.pushed.items;
  tracer : l.self.tracer ≡ l.fn.self.tracer;
  roots : l.self.roots ≡ l.fn.self.roots;
}

abbrev pub decreases-loop-self : goal.decreases-loop-self
decreases-loop-self l = length l.self.won.items
