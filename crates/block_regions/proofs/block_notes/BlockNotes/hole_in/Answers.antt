use Rattle.std.proofs.Common.{◌≡◌, ◌<◌, ◌∙◌, ap, arith, length}
use Rattle.std.specs.Prelude.{Some, slice_get}
use Rattle.object_model.specs.Heaps.{heap_state}
use Rattle.block_regions.specs.declared.block_notes.BlockNote.{BlockNote}
use Rattle.block_regions.specs.declared.block_notes.BlockNote.TheVariants.{Unowned}
use Rattle.block_regions.specs.Notes.{IsUnownedNote}
use Rattle.block_regions.proofs.Elements.{read-some, set-changes}
use Rattle.block_regions.proofs.Regions.{none-first}
use Rattle.block_regions.proofs.KeptNotes.{notes-lacking, none-changed}
use Rattle.block_regions.proofs.block_notes.BlockNotes.hole_in.Goals as goal

pub returns-in_default-clause-none : goal.returns-in_default-clause-none
returns-in_default-clause-none c = λ at hole.
    let notes = c.args.self.now.notes.items in
    let there : c.args.block < length notes = (let many = c.requires.notes.notes.len in let b = c.requires.block in omega arith) in
    c.requires.notes.unowned c.args.block c.in_default.field-0 c.in_default.field-1
    (read-some notes c.args.block c.index.result.now there c.index.ensures ∙ ap (λ (n : BlockNote). Some n) c.in_default.is)

pub returns-then-least-size-clause-none : goal.returns-then-least-size-clause-none
returns-then-least-size-clause-none c = λ at hole.
    let s = heap_state c.args.heap.now in
    let notes = c.args.self.now.notes.items in
    let there : c.args.block < length notes = (let many = c.requires.notes.notes.len in let b = c.requires.block in omega arith) in
    let note : slice_get notes c.args.block ≡ Some (Unowned c.in-Unowned.least)
    = read-some notes c.args.block c.index.result.now there c.index.ensures ∙ ap (λ (n : BlockNote). Some n) c.in-Unowned.is in
    let is : IsUnownedNote c.args.fill s c.args.block c.in-Unowned.least = c.requires.notes.notes.each c.args.block (Unowned c.in-Unowned.least) note in
    is.none at c.args.size (omega arith) hole

pub returns-then-decides-clause-notes : goal.returns-then-decides-clause-notes
returns-then-decides-clause-notes c =
    let s = heap_state c.args.heap.now in
    let notes = c.args.self.now.notes.items in
    let there : c.args.block < length notes = (let many = c.requires.notes.notes.len in let b = c.requires.block in omega arith) in
    let changes = set-changes notes c.args.block (Unowned c.args.size) there in
    record {
      counts = c.requires.notes.counts;
      notes = notes-lacking c.args.fill c.requires.fills s c.args.heap.now.lawful notes _ c.args.block c.args.size c.requires.notes.notes c.requires.block
          (omega arith) c.requires.most (c.decides.ensures c.if-decides.true) (rw c.in-None.is at c.hole_of.ensures) changes;
      unowned = none-changed notes _ c.args.block c.args.size c.requires.notes.unowned changes;
      owned = c.requires.notes.owned;
      room = c.requires.notes.room;
    }

pub returns-then-decides-clause-none : goal.returns-then-decides-clause-none
returns-then-decides-clause-none c = λ at hole.
    none-first c.args.fill (heap_state c.args.heap.now) c.args.block c.args.size (rw c.in-None.is at c.hole_of.ensures) at hole

pub returns-else-decides-clause-none : goal.returns-else-decides-clause-none
returns-else-decides-clause-none c = λ at hole.
    none-first c.args.fill (heap_state c.args.heap.now) c.args.block c.args.size (rw c.in-None.is at c.hole_of.ensures) at hole

pub returns-in-Some-clause-some : goal.returns-in-Some-clause-some
returns-in-Some-clause-some c = (c.in-Some.region.end, rw c.in-Some.is at c.hole_of.ensures)
