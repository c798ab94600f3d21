-- Steps of workers, and what they say of a bucket that was run.
use Rattle.std.specs.Prelude.{◌≡◌, List, [], ◌∷◌, ◌++◌, All, map}
use Rattle.std.specs.List.{flat_map}
use Rattle.std.specs.List.Sorted.{IsPermutation}
use Rattle.work_packets.specs.declared.packet.Bucket.{Bucket}
use Rattle.work_packets.specs.declared.packet.Packet.{Packet}
use Rattle.work_packets.specs.Buckets.{IsSameOrLater}
use Rattle.work_packets.specs.Packets.{packets_of, packets_after}

-- a worker ran a packet, pushed packets in this order, and became another
pub record Step (W T : Type 0) : Type 0 where
  pub packet : Packet T
  pub pushed : List (Packet T)
  pub worker : W

-- what workers did with a bucket
pub record BucketWork (W T : Type 0) : Type 0 where
  pub bucket : Bucket
  -- the workers before it
  pub before : List W
  -- the packets of the bucket that there were at first
  pub first : List (Packet T)
  -- the steps of each worker, at its place
  pub logs : List (List (Step W T))
  -- the workers after it
  pub after : List W
  -- the packets that are left for later buckets
  pub later : List (Packet T)

-- what a worker did with a part of its share of a bucket
pub record ShareWork (W T : Type 0) : Type 0 where
  pub bucket : Bucket
  -- the worker before it
  pub before : W
  -- the packets of the share
  pub first : List (Packet T)
  -- the worker's steps
  pub log : List (Step W T)
  -- the worker after it
  pub after : W
  -- the packets of the bucket that it has yet to run
  pub todo : List (Packet T)
  -- the packets that are left for later buckets
  pub later : List (Packet T)

module _ {W T : Type 0} where
  -- by these steps, one after another, the first worker becomes the second
  abbrev pub Reaches : (W → Packet T → List (Packet T) → W → Type 0) → W → List (Step W T)
      → W → Type 0
  Reaches steps w [] v = v ≡ w
  Reaches steps w (s ∷ log) v = steps w s.packet s.pushed s.worker × Reaches steps s.worker log v

  -- each worker becomes the one at its place by the steps at its place
  abbrev pub AllReach : (W → Packet T → List (Packet T) → W → Type 0) → List W
      → List (List (Step W T)) → List W → Type 0
  AllReach steps [] [] [] = Unit {0}
  AllReach steps (w ∷ ws) (log ∷ logs) (v ∷ vs) = Reaches steps w log v × AllReach steps ws logs vs
  AllReach steps _ _ _ = ⊥

  -- the packets that were run
  abbrev pub ran : List (Step W T) → List (Packet T)
  ran log = map (λ s. s.packet) log

  abbrev pub ran_by_all : List (List (Step W T)) → List (Packet T)
  ran_by_all logs = flat_map (λ log. ran log) logs

  -- the packets that were pushed
  abbrev pub pushed : List (Step W T) → List (Packet T)
  pushed log = flat_map (λ s. s.pushed) log

  abbrev pub pushed_by_all : List (List (Step W T)) → List (Packet T)
  pushed_by_all logs = flat_map (λ log. pushed log) logs

  -- The workers ran the packets of the bucket by these steps.
  pub record RunsBucket (steps : W → Packet T → List (Packet T) → W → Type 0)
      (work : BucketWork W T) : Type 0 where
    -- each worker became the one at its place
    pub reached : AllReach steps work.before work.logs work.after
    -- what they ran are the first packets and those that they pushed for this bucket, each once
    pub once : IsPermutation (work.first ++ packets_of work.bucket (pushed_by_all work.logs))
        (ran_by_all work.logs)
    -- what they pushed for later buckets is left, each packet once
    pub left : IsPermutation (packets_after work.bucket (pushed_by_all work.logs)) work.later
    -- they pushed nothing for an earlier bucket
    pub order : All (λ p. IsSameOrLater work.bucket p.bucket) (pushed_by_all work.logs)

  -- The worker ran a part of its share by these steps.
  pub record RunsShare (steps : W → Packet T → List (Packet T) → W → Type 0)
      (work : ShareWork W T) : Type 0 where
    -- the worker became the one after
    pub reached : Reaches steps work.before work.log work.after
    -- what it ran and has yet to run are its first packets and those that it pushed for this
    -- bucket, each once
    pub once : IsPermutation (work.first ++ packets_of work.bucket (pushed work.log))
        (ran work.log ++ work.todo)
    -- what it pushed for later buckets is left, each packet once
    pub left : IsPermutation (packets_after work.bucket (pushed work.log)) work.later
    -- it pushed nothing for an earlier bucket
    pub order : All (λ p. IsSameOrLater work.bucket p.bucket) (pushed work.log)
