use Rattle.std.proofs.Common.{sym, subst}
use Rattle.std.proofs.lemmas.Result.{IfOk-weaker}
use Rattle.object_model.specs.Heaps.{heap_state}
use Rattle.block_regions.specs.Notes.{FlagsCover}
use Rattle.block_regions.proofs.BlockFlags.{covers-none}
use Rattle.block_regions.proofs.block_notes.BlockNotes.new_unflagged.Goals as goal

pub returns-clause-flags : goal.returns-clause-flags
returns-clause-flags c = IfOk-weaker c.with_flags.result _ _ (λ n is rules none.
    subst (FlagsCover rules (heap_state c.args.heap.now)) (sym is) (covers-none rules (heap_state c.args.heap.now) none)) c.with_flags.ensures.flags
