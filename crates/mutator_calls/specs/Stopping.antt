-- The stop word that an answer to a poll gives.
use Rattle.std.specs.Prelude.{ℕ}
use Rattle.mutator_calls.specs.declared.need.Polled.{Polled}
use Rattle.mutator_calls.specs.declared.need.Polled.TheVariants.{Go, Raised}

-- 0, or the number of the mutator that raised a stop
abbrev pub stop_of : Polled → ℕ
stop_of Go = 0
stop_of (Raised m) = m
