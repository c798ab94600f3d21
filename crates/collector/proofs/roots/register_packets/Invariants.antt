use Rattle.std.proofs.Common.{◌≡◌, map}
use Rattle.std.specs.List.{range_with_len}
use Rattle.collector.specs.declared.item.Item.TheVariants as item
use Rattle.collector.specs.Items.{items_of}
use Rattle.collector.specs.RootPackets.{AreRootPackets}
use Rattle.collector.proofs.roots.register_packets.Given as goal

abbrev pub invariant-loop-place : goal.invariant-loop-place
invariant-loop-place l = (items_of l.packets.items ≡ map (λ i. item.Register i) (range_with_len 0 l.place)) × AreRootPackets l.packets.items
