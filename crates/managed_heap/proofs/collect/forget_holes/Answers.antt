use Rattle.std.proofs.Common.{◌≡◌, ◌∙◌, ap, subst, ℕ, sym, replicate}
use Rattle.object_model.specs.Heaps.{heap_state}
use Rattle.block_regions.specs.declared.block_notes.BlockNote.TheVariants.{Unowned}
use Rattle.block_regions.specs.Notes.{HasNotes, AreUnowned}
use Rattle.block_regions.proofs.KeptNotes.{notes-unknown, none-unknown}
use Rattle.managed_heap.proofs.collect.forget_holes.Goals as goal

pub returns-clause-notes : goal.returns-clause-notes
returns-clause-notes c = λ fill.
    let s = heap_state c.args.heap.now in
    let items : c.fill.new.self.items ≡ replicate s.blocks (Unowned 4097)
    = c.fill.ensures.items (λ y e. e)
    ∙ ap (λ (n : ℕ). replicate n (Unowned 4097)) (c.args.notes.now.notes.ok.0 ∙ c.requires.blocks) in
    record {
      counts = c.block_counts-notes.ensures;
      notes = subst (HasNotes fill s) (sym items) (notes-unknown fill s c.args.heap.now.lawful);
      unowned = subst AreUnowned (sym items) (none-unknown s.blocks 4097);
      owned = c.requires.owned;
      room = c.requires.room;
    }
