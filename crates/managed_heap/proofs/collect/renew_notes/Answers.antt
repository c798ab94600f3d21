use Rattle.std.proofs.Common.{◌≡◌, sym, ◌∙◌, ap, subst, ℕ, false, replicate}
use Rattle.std.specs.Prelude.{vec_len}
use Rattle.object_model.specs.Heaps.{heap_state}
use Rattle.block_regions.specs.Notes.{FlagsCover}
use Rattle.block_regions.proofs.BlockFlags.{covers-none}
use Rattle.managed_heap.proofs.collect.renew_notes.Goals as goal

pub returns-clause-notes : goal.returns-clause-notes
returns-clause-notes c = λ fill. let notes = c.forget_holes.ensures.notes fill in record {
  counts = notes.counts;
  notes = notes.notes;
  unowned = notes.unowned;
  owned = notes.owned;
  room = notes.room;
}

pub returns-clause-flags : goal.returns-clause-flags
returns-clause-flags c = λ rules none.
    let s = heap_state c.args.heap.now in
    let items : c.fill.new.self.items ≡ replicate s.blocks false
    = c.fill.ensures.items (λ y e. e)
    ∙ ap (λ (n : ℕ). replicate n false) (ap vec_len c.forget_holes.ensures.flags ∙ c.args.notes.now.flags.ok.0 ∙ c.requires.flags) in
    subst (FlagsCover rules s) (sym items) (covers-none rules s none)
