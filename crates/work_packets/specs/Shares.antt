-- The shares in which packets are dealt to workers.
use Rattle.std.specs.Prelude.{◌≡◌, ℕ, ◌+◌, ◌<◌, ◌≤◌, ◌^◌, List, [], ◌∷◌, All, length, map}
use Rattle.std.specs.List.{flat_map}
use Rattle.work_packets.specs.declared.packet.Bucket.{Bucket}
use Rattle.work_packets.specs.declared.packet.Packet.{Packet}
use Rattle.work_packets.specs.declared.plain_split.Finished.{Finished}
use Rattle.work_packets.specs.declared.share.Share.{Share}
use Rattle.work_packets.specs.Awaiting.{AwaitsAll}
use Rattle.work_packets.specs.Packets.{HasItems}
use Rattle.work_packets.specs.Steps.{Step, RunsShare}

module _ {T W : Type 0} where
  -- the packets of all shares
  abbrev pub packets_in : List (Share T W) → List (Packet T)
  packets_in shares = flat_map (λ s. s.packets.items) shares

  -- the number of packets of each
  abbrev pub sizes : List (Share T W) → List ℕ
  sizes shares = map (λ s. length s.packets.items) shares

  -- no share has two packets more than another
  abbrev pub AreEven : List (Share T W) → Type 0
  AreEven shares = (n : ℕ) × All (λ size. (n ≤ size) × (size ≤ n + 1)) (sizes shares)

-- these are the numbers from `a` on, as far as they are below 2 ^ 32
abbrev pub AreNumberedFrom : ℕ → List ℕ → Type 0
AreNumberedFrom a [] = Unit {0}
AreNumberedFrom a (n ∷ ns) = (a < 2 ^ 32 → n ≡ a) × AreNumberedFrom (a + 1) ns

module _ {T W H S : Type 0} (home : W → H) (takes : H → Packet T → Type 0) (awaits : S → W
    → List (Packet T) → Type 0) (b : Bucket) where
  -- its packets are of this bucket, and its worker may run and awaits them
  pub record IsRunnable (share : Share T W) : Type 0 where
    pub in_bucket : All (λ p. p.bucket ≡ b) share.packets.items
    pub sized : All HasItems share.packets.items
    pub taken : All (takes (home share.worker)) share.packets.items
    pub awaited : (start : S) × AwaitsAll awaits start share.worker share.packets.items

  -- its worker has run its packets and all that it pushed for this bucket; what it pushed for later
  -- ones is left, and it awaits that alone
  pub record Finishes (steps : W → Packet T → List (Packet T) → W
      → Type 0) (share : Share T W) (f : Finished T W) : Type 0 where
    pub same_home : home f.worker ≡ home share.worker
    pub sized : All HasItems f.later.items
    pub taken : All (takes (home share.worker)) f.later.items
    pub log : List (Step W T)
    pub runs : RunsShare steps (record {
      bucket = b;
      before = share.worker;
      first = share.packets.items;
      log = log;
      after = f.worker;
      todo = [];
      later = f.later.items;
    })
    pub awaits_later : (start : S) → AwaitsAll awaits start share.worker share.packets.items
        → AwaitsAll awaits start f.worker f.later.items
