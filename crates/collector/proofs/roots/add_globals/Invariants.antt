use Rattle.std.proofs.Common.{◌≡◌, ◌++◌, map}
use Rattle.collector.specs.declared.item.Item.TheVariants as item
use Rattle.collector.specs.Items.{items_of}
use Rattle.collector.specs.RootPackets.{AreRootPackets}
use Rattle.collector.proofs.roots.add_globals.Given as goal

abbrev pub invariant-loop-root : goal.invariant-loop-root
invariant-loop-root l = (items_of l.packets.items ≡ items_of l.fn.packets.items ++ map (λ root. item.Global root) l.yielded) × AreRootPackets l.packets.items
