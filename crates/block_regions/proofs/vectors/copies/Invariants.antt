use Rattle.std.proofs.Common.{◌≡◌, replicate}
use Rattle.block_regions.proofs.vectors.copies.Given as goal

abbrev pub invariant-loop : goal.invariant-loop
invariant-loop g l = l.list.items ≡ replicate l.counter l.value
