use Rattle.std.proofs.Common.{◌∙◌}
use Rattle.object_model.specs.Heaps.{heap_state}
use Rattle.heap_graph.proofs.WalkLemmas.{walk-empty}
use Rattle.heap_graph.proofs.walk.Walk.new.Goals as goal

pub returns-clause-walk : goal.returns-clause-walk
returns-clause-walk c = walk-empty (heap_state c.args.heap.now) _ c.new-2.ensures.items (c.in_ok-visited.ensures.blocks ∙ c.layout.ensures) c.in_ok-visited.ensures.empty
