-- What is known of the blocks as an epoch begins.
use Rattle.std.proofs.Common.{◌∙◌, sym}
use Rattle.heap_layout.specs.declared.block.Kind.{Kind}
use Rattle.object_model.specs.Objects.{HeapState}
use Rattle.object_model.specs.Lawful.{IsLawful}
use Rattle.block_regions.specs.Notes.{AreNotes, FillsHoles}
use Rattle.block_regions.specs.declared.block_notes.BlockNotes.{BlockNotes}
use Rattle.block_regions.proofs.NoteLemmas.{notes-after}
use Rattle.heap_users.specs.Beginnings.{without_stop}
use Rattle.heap_users.proofs.Cleared as cleared

-- stop word and budget word say nothing of the blocks
pub notes-cleared : (s : HeapState) → IsLawful s → (fill : Kind) → FillsHoles fill → (n : BlockNotes) → AreNotes fill s n → AreNotes fill (without_stop s) n
notes-cleared s lawful fill fills n are = record {
  counts = are.counts ∙ sym (cleared.counts-cleared s lawful);
  notes = notes-after s (without_stop s).words (cleared.keeps-blocks s lawful) fill fills n.notes.items are.notes;
  unowned = are.unowned;
  owned = are.owned;
  room = are.room;
}
