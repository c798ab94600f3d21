use Rattle.std.proofs.Common.{refl, ap, ◌∙◌}
use Rattle.object_model.specs.Objects.{state_of}
use Rattle.object_model.specs.Heaps.{heap_state}
use Rattle.object_model.proofs.Counts.{counted, lawful-counted}
use Rattle.collector.proofs.CountedNotes.{note-counted}
use Rattle.collector.proofs.collecting.count_only.Goals as goal

pub from_row-requires : goal.from_row-requires
from_row-requires c = lawful-counted (state_of c.into_row-row.result) c.into_row-row.ensures.lawful

pub returns-clause-note : goal.returns-clause-note
returns-clause-note c =
    let s = heap_state c.args.heap in
    note-counted c.args.collect s (heap_state c.from_row.result) _ c.held_count-kept.result.0 c.held_count-kept.result.1 c.requires.full
    (c.from_row.ensures ∙ ap counted c.into_row-row.ensures.state) c.held_count-kept.ensures.objects c.held_count-kept.ensures.words
    refl refl refl refl refl (ap (λ n. n.free) c.block_counts-free_blocks.ensures)
