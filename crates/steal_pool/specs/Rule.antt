-- The rule of a deque: what its owner put is what was taken and what is there.
use Rattle.std.specs.Prelude.{◌≡◌, ℕ, ◌+◌, List, [], ◌∷◌, ◌++◌, All}
use Rattle.std.specs.List.Sorted.{IsPermutation}
use Rattle.work_packets.specs.declared.packet.Packet.{Packet}
use Rattle.steal_pool.specs.declared.rule.Hand.{Hand}
use Rattle.steal_pool.specs.declared.rule.TheConstants.{PARTS}

module _ {T : Type 0} where
  abbrev pub hand : ℕ → List (Packet T) → List (Packet T) → Hand T
  hand n put taken = record { parts = n; put = put; taken = taken }

  abbrev pub parts_of : List (Hand T) → ℕ
  parts_of [] = 0
  parts_of (v ∷ vs) = v.parts + parts_of vs

  abbrev pub taken_by : List (Hand T) → List (Packet T)
  taken_by [] = []
  taken_by (v ∷ vs) = v.taken ++ taken_by vs

  -- the owner's is the first
  abbrev pub put_by_owner : List (Hand T) → List (Packet T)
  put_by_owner [] = []
  put_by_owner (v ∷ vs) = v.put

  -- who has no part has taken nothing
  abbrev pub AreIdle : List (Hand T) → Type 0
  AreIdle [] = Unit {0}
  AreIdle (v ∷ vs) = (v.parts ≡ 0 → v.taken ≡ []) × AreIdle vs

  pub record IsBalanced (fits : Packet T → Type 0) (packets : List (Packet T))
      (views : List (Hand T)) : Type 0 where
    -- all parts are somewhere
    pub parts : parts_of views ≡ PARTS
    -- each packet that was put was taken, or is there, once
    pub once : IsPermutation (put_by_owner views) (taken_by views ++ packets)
    pub idle : AreIdle views
    -- packets that may stand there alone are there
    pub fit : All fits packets
