use Rattle.std.proofs.Common.{◌+◌, ◌*◌, ◌-◌, slice_index}
use Rattle.heap_layout.specs.Zones.{first, UnlogBits}
use Rattle.block_sweeps.specs.Stores.{Fills}
use Rattle.block_sweeps.proofs.clearing.unlog_block.Given as goal

abbrev pub invariant-loop-index : goal.invariant-loop-index
invariant-loop-index g l = Fills (g.W.Words.words l.initial.words) (g.W.Words.words l.words)
    (first l.layout.blocks UnlogBits + 64 * l.block) (first l.layout.blocks UnlogBits + l.index)
    (λ i. slice_index (g.W.Words.words l.initial.words) (i - 128 * l.layout.blocks))
