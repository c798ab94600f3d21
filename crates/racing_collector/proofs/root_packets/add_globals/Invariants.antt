use Rattle.std.proofs.Common.{◌≡◌, ◌++◌, map}
use Rattle.racing_collector.specs.declared.item.RaceItem.TheVariants as item
use Rattle.racing_collector.specs.Items.{items_of}
use Rattle.racing_collector.specs.Items.{AreRootPackets}
use Rattle.racing_collector.proofs.root_packets.add_globals.Given as goal

abbrev pub invariant-loop-root : goal.invariant-loop-root
invariant-loop-root l = (items_of l.packets.items ≡ items_of l.fn.packets.items ++ map (λ root. item.Global root) l.yielded) × AreRootPackets l.packets.items
