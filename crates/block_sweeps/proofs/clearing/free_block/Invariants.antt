use Rattle.block_sweeps.specs.Stores.{Fills}
use Rattle.block_sweeps.proofs.clearing.free_block.Given as goal

abbrev pub invariant-loop-index : goal.invariant-loop-index
invariant-loop-index g l = Fills (g.W.Words.words l.initial.words) (g.W.Words.words l.words) l.lines l.index (λ _. 0)
