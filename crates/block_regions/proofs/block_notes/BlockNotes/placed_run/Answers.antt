use Rattle.std.proofs.Common.{refl}
use Rattle.object_model.specs.Heaps.{heap_state}
use Rattle.block_regions.proofs.PlacedRuns.{after-run}
use Rattle.block_regions.proofs.BlockFlags.{covers-placed}
use Rattle.block_regions.proofs.block_notes.BlockNotes.placed_run.Goals as goal

pub returns-clause-notes : goal.returns-clause-notes
returns-clause-notes c = λ fill old a refs nums block fills are placed.
    after-run fill fills old (heap_state c.args.heap.now) c.args.heap.now.lawful a refs nums block placed c.args.self.now _ are c.block_counts-self.ensures refl refl

pub returns-clause-flags : goal.returns-clause-flags
returns-clause-flags c = λ rules old a refs nums block cover placed base.
    covers-placed rules old (heap_state c.args.heap.now) c.args.self.now.flags.items a refs nums placed.blocks base placed.object cover
