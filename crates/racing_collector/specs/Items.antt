-- Items of packets of a racing trace.
use Rattle.std.specs.Prelude.{◌≡◌, ℕ, ◌<◌, ◌≤◌, ◌⊎◌, Bool, true, false, nat_eq, All, List, [], ◌∷◌, length, count_by}
use Rattle.std.specs.Prelude.{sum_by}
use Rattle.std.specs.List.{flat_map}
use Rattle.work_packets.specs.declared.packet.Packet.{Packet}
use Rattle.work_packets.specs.declared.packet.Bucket.TheVariants as buckets
use Rattle.work_packets.specs.declared.packet.TheConstants.{MAX_ITEMS}
use Rattle.work_packets.specs.Packets.{HasItems}
use Rattle.trace_table.specs.Seats.{IsGlobalRoot, IsGrey}
use Rattle.trace_table.specs.declared.table.TraceTable.{TraceTable}
use Rattle.racing_collector.specs.declared.item.RaceItem.{RaceItem}
use Rattle.racing_collector.specs.declared.item.RaceItem.TheVariants.{Register, Global, Object}
use Rattle.racing_collector.specs.declared.item.TheConstants.{MAX_REFERENCES}
use Rattle.racing_collector.specs.declared.racing.Racing.{Racing}

abbrev pub is_register : ℕ → RaceItem → Bool
is_register i (Register j) = nat_eq i j
is_register i (Global root) = false
is_register i (Object grey) = false

abbrev pub is_token : RaceItem → Bool
is_token (Register j) = false
is_token (Global root) = true
is_token (Object grey) = true

-- how many items are for this root, and how many have a token
abbrev pub registers : ℕ → List RaceItem → ℕ
registers i items = count_by (is_register i) items

abbrev pub tokens : List RaceItem → ℕ
tokens items = count_by is_token items

abbrev pub items_of : List (Packet RaceItem) → List RaceItem
items_of ps = flat_map (λ p. p.items.items) ps

-- a worker of the trace may serve the item
abbrev pub IsItemOf : Racing → RaceItem → Type 0
IsItemOf r (Register i) = i < length r.roots.items
IsItemOf r (Global root) = IsGlobalRoot r.table root
IsItemOf r (Object grey) = IsGrey r.table grey

pub record IsPacketOf (r : Racing) (p : Packet RaceItem) : Type 0 where
  pub bucket : (p.bucket ≡ buckets.Roots) ⊎ (p.bucket ≡ buckets.Closure)
  pub items : All (IsItemOf r) p.items.items

-- the item is an object to scan, with a token of the table
abbrev pub IsScan : TraceTable → RaceItem → Type 0
IsScan t (Register i) = ⊥
IsScan t (Global root) = ⊥
IsScan t (Object grey) = IsGrey t grey

-- a packet of objects to scan
pub record AreScans (t : TraceTable) (p : Packet RaceItem) : Type 0 where
  pub bucket : p.bucket ≡ buckets.Closure
  pub objects : All (IsScan t) p.items.items

abbrev pub references : RaceItem → ℕ
references (Register i) = 0
references (Global root) = 0
references (Object grey) = grey.refs

-- the packet has one item, or few references
abbrev pub IsCut : Packet RaceItem → Type 0
IsCut p = (length p.items.items ≡ 1) ⊎ (sum_by references p.items.items ≤ MAX_REFERENCES)

-- each packet but the last has 64 items
abbrev pub AllButLastAreFull : List (Packet RaceItem) → Type 0
AllButLastAreFull [] = Unit {0}
AllButLastAreFull (p ∷ []) = Unit {0}
AllButLastAreFull (p ∷ q ∷ ps) = (length p.items.items ≡ MAX_ITEMS) × AllButLastAreFull (q ∷ ps)

-- the packets are of the bucket of roots, and each but the last has 64 items
pub record AreRootPackets (ps : List (Packet RaceItem)) : Type 0 where
  pub bucket : All (λ p. p.bucket ≡ buckets.Roots) ps
  pub sizes : All HasItems ps
  pub full : AllButLastAreFull ps
