use Rattle.std.proofs.Common.{◌+◌}
use Rattle.heap_layout.specs.Zones.{first, BlockWords}
use Rattle.heap_layout.specs.declared.block.Kind.TheVariants as kinds
use Rattle.heap_layout.specs.Blocks.{kind_code}
use Rattle.block_sweeps.specs.Stores.{Fills}
use Rattle.large_space.proofs.placing.make_tails.Given as goal

abbrev pub invariant-loop-block : goal.invariant-loop-block
invariant-loop-block g l = Fills (g.W.Words.words l.initial.words) (g.W.Words.words l.words)
    (first l.layout.blocks BlockWords + l.from) (first l.layout.blocks BlockWords + l.block) (λ _. kind_code kinds.LargeTail)
