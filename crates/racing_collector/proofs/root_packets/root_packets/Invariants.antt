use Rattle.std.proofs.Common.{◌≡◌, ◌++◌, map}
use Rattle.std.specs.List.{range_with_len}
use Rattle.racing_collector.specs.declared.item.RaceItem.TheVariants as item
use Rattle.racing_collector.specs.Items.{items_of}
use Rattle.racing_collector.specs.Items.{AreRootPackets}
use Rattle.racing_collector.proofs.root_packets.root_packets.Given as goal

abbrev pub invariant-loop-grey : goal.invariant-loop-grey
invariant-loop-grey l = (items_of l.packets.items ≡ (map (λ i. item.Register i) (range_with_len 0 l.fn.count) ++ map (λ root. item.Global root) l.fn.globals.items)
    ++ map (λ grey. item.Object grey) l.yielded) × AreRootPackets l.packets.items
