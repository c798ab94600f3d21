-- The order in which a collection runs its buckets.
use Rattle.std.specs.Prelude.{◌≡◌, Bool, true, false}
use Rattle.work_packets.specs.declared.packet.Bucket.{Bucket}
use Rattle.work_packets.specs.declared.packet.Bucket.TheVariants.{Prepare, Roots, Closure, Release}

-- the first bucket is run before the second
abbrev pub is_before : Bucket → Bucket → Bool
is_before _ Prepare = false
is_before Prepare _ = true
is_before _ Roots = false
is_before Roots _ = true
is_before Closure Release = true
is_before _ _ = false

-- they are one bucket
abbrev pub is_same : Bucket → Bucket → Bool
is_same Prepare Prepare = true
is_same Roots Roots = true
is_same Closure Closure = true
is_same Release Release = true
is_same _ _ = false

-- the second bucket is the first or a later one
abbrev pub IsSameOrLater : Bucket → Bucket → Type 0
IsSameOrLater b c = is_before c b ≡ false
