-- Packets of work and the buckets they are for.
use Rattle.std.specs.Prelude.{◌≡◌, ◌≤◌, List, All, length}
use Rattle.std.specs.List.{filter}
use Rattle.work_packets.specs.declared.packet.Bucket.{Bucket}
use Rattle.work_packets.specs.declared.packet.Packet.{Packet}
use Rattle.work_packets.specs.declared.packet.TheConstants.{MAX_ITEMS}
use Rattle.work_packets.specs.Buckets.{is_before, is_same}

module _ {T : Type 0} where
  -- it has an item, and at most as many as a packet may have
  pub record HasItems (p : Packet T) : Type 0 where
    pub some : 1 ≤ length p.items.items
    pub few : length p.items.items ≤ MAX_ITEMS

  -- those of a bucket
  abbrev pub packets_of : Bucket → List (Packet T) → List (Packet T)
  packets_of b ps = filter (λ p. is_same b p.bucket) ps

  -- those of the buckets after it
  abbrev pub packets_after : Bucket → List (Packet T) → List (Packet T)
  packets_after b ps = filter (λ p. is_before b p.bucket) ps

module _ {W H : Type 0} where
  -- the workers have this home
  abbrev pub HaveHome : (W → H) → H → List W → Type 0
  HaveHome home h ws = All (λ w. home w ≡ h) ws
