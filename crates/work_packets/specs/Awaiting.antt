-- The packets that workers have still to run.
use Rattle.std.specs.Prelude.{◌≡◌, ◌⊎◌, List, [], ◌∷◌}
use Rattle.std.specs.List.Sorted.{IsPermutation}
use Rattle.work_packets.specs.declared.packet.Packet.{Packet}

module _ {S W T : Type 0} where
  -- whatever their order, these packets are what the worker awaits
  abbrev pub AwaitsAll : (S → W → List (Packet T) → Type 0) → S → W → List (Packet T) → Type 0
  AwaitsAll awaits start w ps = (qs : List (Packet T)) → IsPermutation ps qs → awaits start w qs

  -- one worker awaits the first packets; each of several awaits whatever it is given
  abbrev pub MayAwait : (S → W → List (Packet T) → Type 0) → List W → List (Packet T) → Type 0
  MayAwait awaits ws first =
      ((start : S) × (w : W) × (ws ≡ w ∷ []) × AwaitsAll awaits start w first)
      ⊎ ((w : W) (ps : List (Packet T)) → (start : S) × AwaitsAll awaits start w ps)
