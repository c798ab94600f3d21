use Rattle.std.proofs.Common.{◌≡◌, ℕ, ◌<◌}
use Rattle.object_model.specs.Heaps.{heap_state}
use Rattle.block_regions.specs.Notes.{AreNotes, LacksHoles}
use Rattle.block_regions.proofs.block_notes.BlockNotes.lowest_hole.Given as goal

abbrev pub invariant-loop-block : goal.invariant-loop-block
invariant-loop-block l = AreNotes l.fill (heap_state l.heap) l.self × (l.self.flags ≡ l.fn.self.flags) × ((k : ℕ) → k < l.block → LacksHoles l.fill (heap_state l.heap) k l.size)
