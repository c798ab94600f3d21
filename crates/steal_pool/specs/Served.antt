-- What a worker has done with its packets and with those that it stole.
use Rattle.std.specs.Prelude.{◌≡◌, List, [], ◌++◌, All}
use Rattle.std.specs.List.Sorted.{IsPermutation}
use Rattle.work_packets.specs.declared.packet.Bucket.{Bucket}
use Rattle.work_packets.specs.declared.packet.Packet.{Packet}
use Rattle.work_packets.specs.Awaiting.{AwaitsAll}
use Rattle.work_packets.specs.Buckets.{IsSameOrLater}
use Rattle.work_packets.specs.Packets.{HasItems, packets_of, packets_after}
use Rattle.work_packets.specs.Steps.{Step, Reaches, AllReach, ran, ran_by_all, pushed, pushed_by_all}

pub record Service (W T : Type 0) : Type 0 where
  pub bucket : Bucket
  -- the worker before it
  pub before : W
  -- the packets that were dealt to it
  pub first : List (Packet T)
  -- its steps
  pub log : List (Step W T)
  -- the worker after it
  pub after : W
  -- the packets that its deque refused
  pub refused : List (Packet T)
  -- the packets that it put into its deque
  pub put : List (Packet T)
  -- the packets that it took, from its deque and from others
  pub got : List (Packet T)
  -- the packets that it has yet to run
  pub held : List (Packet T)
  -- the packets that are left for later buckets
  pub later : List (Packet T)

module _ {W T H : Type 0} (home : W → H) (takes : H → Packet T → Type 0)
    (steps : W → Packet T → List (Packet T) → W → Type 0) where
  pub record Serves (work : Service W T) : Type 0 where
    pub same_home : home work.after ≡ home work.before
    pub reached : Reaches steps work.before work.log work.after
    -- what was dealt to it, and what it pushed for this bucket, was refused or stands in its deque
    pub offered : IsPermutation (work.first ++ packets_of work.bucket (pushed work.log))
        (work.refused ++ work.put)
    -- what was refused, and what it took, was run, or it has yet to run it
    pub once : IsPermutation (work.refused ++ work.got) (ran work.log ++ work.held)
    -- what it pushed for later buckets is left
    pub left : IsPermutation (packets_after work.bucket (pushed work.log)) work.later
    pub order : All (λ p. IsSameOrLater work.bucket p.bucket) (pushed work.log)
    pub sized : All HasItems work.later
    pub taken : All (takes (home work.before)) work.later

  -- by some steps it came there
  abbrev pub IsServed : Bucket → W → List (Packet T) → W
      → List (Packet T) → List (Packet T) → List (Packet T) → List (Packet T) → Type 0
  IsServed b before first after put got held later = (log : List (Step W T))
      × (refused : List (Packet T)) × Serves (record {
        bucket = b;
        before = before;
        first = first;
        log = log;
        after = after;
        refused = refused;
        put = put;
        got = got;
        held = held;
        later = later;
      })

module _ {T H : Type 0} where
  -- the packets that may stand in the deques: those of the bucket that the workers may run
  pub record IsFitting (fits : Packet T → Type 0) (b : Bucket)
      (takes : H → Packet T → Type 0) (h : H) : Type 0 where
    pub in_bucket : (p : Packet T) → fits p → p.bucket ≡ b
    pub sized : (p : Packet T) → fits p → HasItems p
    pub taken : (p : Packet T) → fits p → takes h p
    pub fit : (p : Packet T) → p.bucket ≡ b → HasItems p → takes h p → fits p

module _ {S W T : Type 0} where
  -- a worker awaits whatever it is given
  abbrev pub AwaitsAny : (S → W → List (Packet T) → Type 0) → Type 0
  AwaitsAny awaits = (w : W) (ps : List (Packet T)) → (start : S) × AwaitsAll awaits start w ps

module _ {W T : Type 0} (steps : W → Packet T → List (Packet T) → W → Type 0) (b : Bucket) where
  -- the workers ran a part of the bucket's packets by these steps, and the rest is left
  pub record RunsPart (before : List W) (first : List (Packet T))
      (logs : List (List (Step W T))) (after : List W) (rest later : List (Packet T)) : Type 0 where
    pub reached : AllReach steps before logs after
    pub once : IsPermutation (first ++ packets_of b (pushed_by_all logs)) (ran_by_all logs ++ rest)
    pub left : IsPermutation (packets_after b (pushed_by_all logs)) later
    pub order : All (λ p. IsSameOrLater b p.bucket) (pushed_by_all logs)
