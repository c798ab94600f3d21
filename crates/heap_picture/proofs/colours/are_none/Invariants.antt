use Rattle.std.proofs.Common.{◌≡◌, drop}
use Rattle.heap_picture.specs.Drawn.{are_none}
use Rattle.heap_picture.proofs.colours.are_none.Given as goal

-- the result depends on the rest alone
abbrev pub invariant-loop-count : goal.invariant-loop-count
invariant-loop-count l = are_none (drop l.count-index l.counts) ≡ are_none l.counts
