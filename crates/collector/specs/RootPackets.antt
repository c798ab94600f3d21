-- Packets of roots.
use Rattle.std.specs.Prelude.{◌≡◌, ℕ, List, [], ◌∷◌, ◌++◌, map, length, All}
use Rattle.std.specs.List.{range_with_len}
use Rattle.heap_layout.specs.declared.layout.TheConstants.{GLOBALS}
use Rattle.plain_tracer.specs.declared.tokens.GlobalRoot.{GlobalRoot}
use Rattle.plain_tracer.specs.declared.tokens.Grey.{Grey}
use Rattle.work_packets.specs.declared.packet.Packet.{Packet}
use Rattle.work_packets.specs.declared.packet.Bucket.TheVariants as buckets
use Rattle.work_packets.specs.declared.packet.TheConstants.{MAX_ITEMS}
use Rattle.work_packets.specs.Packets.{HasItems}
use Rattle.collector.specs.declared.item.Item.{Item}
use Rattle.collector.specs.declared.item.Item.TheVariants.{Register, Global, Object}

-- each packet but the last has 64 items
abbrev pub AllButLastAreFull : List (Packet Item) → Type 0
AllButLastAreFull [] = Unit {0}
AllButLastAreFull (p ∷ []) = Unit {0}
AllButLastAreFull (p ∷ q ∷ ps) = (length p.items.items ≡ MAX_ITEMS) × AllButLastAreFull (q ∷ ps)

-- the packets are of the bucket of roots, and each but the last has 64 items
pub record AreRootPackets (ps : List (Packet Item)) : Type 0 where
  pub bucket : All (λ p. p.bucket ≡ buckets.Roots) ps
  pub sizes : All HasItems ps
  pub full : AllButLastAreFull ps

-- The items are those of the roots, in order: n registers, the globals, and these logged objects.
pub record AreRootItems (n : ℕ) (logged : List ℕ) (items : List Item) : Type 0 where
  pub globals : List GlobalRoot
  pub greys : List Grey
  pub all : map (λ root. root.global) globals ≡ range_with_len 0 GLOBALS
  pub every : map (λ grey. grey.object) greys ≡ logged
  pub order : items ≡ (map (λ i. Register i) (range_with_len 0 n)
      ++ map (λ root. Global root) globals) ++ map (λ grey. Object grey) greys
