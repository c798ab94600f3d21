use Rattle.std.proofs.Common.{◌≡◌, map}
use Rattle.std.specs.List.{range_with_len}
use Rattle.racing_collector.specs.declared.item.RaceItem.TheVariants as item
use Rattle.racing_collector.specs.Items.{items_of}
use Rattle.racing_collector.specs.Items.{AreRootPackets}
use Rattle.racing_collector.proofs.root_packets.register_packets.Given as goal

abbrev pub invariant-loop-place : goal.invariant-loop-place
invariant-loop-place l = (items_of l.packets.items ≡ map (λ i. item.Register i) (range_with_len 0 l.place)) × AreRootPackets l.packets.items
