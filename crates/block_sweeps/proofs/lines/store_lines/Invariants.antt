use Rattle.std.proofs.Common.{◌+◌, ◌-◌, slice_index}
use Rattle.block_sweeps.specs.Stores.{Fills}
use Rattle.block_sweeps.proofs.lines.store_lines.Given as goal

abbrev pub invariant-loop-index : goal.invariant-loop-index
invariant-loop-index g l = Fills (g.W.Words.words l.initial.words) (g.W.Words.words l.words) l.at (l.at + l.index) (λ i. slice_index l.lines (i - l.at))
