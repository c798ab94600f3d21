use Rattle.std.proofs.Common.{◌≡◌, ◌≤◌, sym, ◌∙◌, ap, subst, ℕ, replicate}
use Rattle.std.specs.Prelude.{vec_capacity}
use Rattle.object_model.specs.Heaps.{heap_state}
use Rattle.sessions.specs.Grants.{BlockCounts}
use Rattle.block_regions.specs.declared.block_notes.BlockNote.TheVariants.{Unowned}
use Rattle.block_regions.specs.Notes.{HasNotes, AreUnowned}
use Rattle.block_regions.proofs.KeptNotes.{notes-unknown, none-unknown}
use Rattle.block_regions.proofs.block_notes.BlockNotes.with_flags.Goals as goal

pub returns-clause-notes : goal.returns-clause-notes
returns-clause-notes c = λ fill.
    let s = heap_state c.args.heap.now in
    let blocks : c.block_counts-counts.result.blocks ≡ s.blocks = ap (λ (k : BlockCounts). k.blocks) c.block_counts-counts.ensures in
    let items : c.in_ok-notes.notes.items ≡ replicate s.blocks (Unowned 4097)
    = c.in_ok-notes.ensures ∙ ap (λ (n : ℕ). replicate n c.nothing_known.result) blocks ∙ ap (replicate s.blocks) c.nothing_known.ensures in
    record {
      counts = c.block_counts-counts.ensures;
      notes = subst (HasNotes fill s) (sym items) (notes-unknown fill s c.args.heap.now.lawful);
      unowned = subst AreUnowned (sym items) (none-unknown s.blocks 4097);
      owned = c.in_ok-owned.ensures.items;
      room = subst (λ (n : ℕ). n ≤ vec_capacity c.in_ok-owned.owned) blocks c.in_ok-owned.ensures.capacity;
    }

pub returns-clause-flags : goal.returns-clause-flags
returns-clause-flags c = c.in_ok-flags.ensures ∙ ap (λ (n : ℕ). replicate n c.args.flag) (ap (λ (k : BlockCounts). k.blocks) c.block_counts-counts.ensures)
