use Rattle.std.proofs.Common.{◌≡◌, ◌≢◌, ◌∙◌, Some, sym, ap, subst}
use Rattle.std.proofs.lemmas.List.Elements.{All-pop}
use Rattle.heap_layout.specs.declared.block.Kind.TheVariants as kinds
use Rattle.object_model.specs.Heaps.{heap_state}
use Rattle.object_model.specs.Objects.{HeapState}
use Rattle.trace_core.specs.Runs.{MayRun, setup_of}
use Rattle.trace_core.specs.Setups.{Setup}
use Rattle.trace_core.specs.declared.run.TraceRun.{TraceRun}
use Rattle.trace_table.specs.Seats.{setup_at, IsSeat}
use Rattle.trace_table.proofs.WorkedRaces.{raced-run}
use Rattle.trace_table.proofs.tests.take_blocks.Goals as goal

pub begin-requires-clause-run : goal.begin-requires-clause-run
begin-requires-clause-run g c = let run = c.in_ok-run.ensures.run in let lists = c.in_ok-run.ensures.lists in
    subst (λ (s : HeapState). MayRun s c.in_ok-run.run') (sym c.in_ok-heap.ensures) (raced-run c.in_ok-run.run' run.0 run.1 run.2 run.3 lists.0 lists.1)

pub take_copy_block-first-requires-clause-seat : goal.take_copy_block-first-requires-clause-seat
take_copy_block-first-requires-clause-seat g c = (All-pop (IsSeat c.in_ok-table.table) _ _ (Some c.in-Some.seat) c.in-Some.ensures.items c.in_ok-table.ensures.seats.each).1

-- the blocks that are taken are Bump blocks
copies-some : (p : Setup) (s : HeapState) (run : TraceRun) → p ≡ setup_of s run 1 → run.copy_kind ≡ kinds.Bump → p.copy ≢ kinds.Free
copies-some p s run is kind = λ none. (let wrong : kinds.Bump ≡ kinds.Free = sym kind ∙ sym (ap (λ (q : Setup). q.copy) is) ∙ none in cc)

pub take_copy_block-first-requires-clause-copies : goal.take_copy_block-first-requires-clause-copies
take_copy_block-first-requires-clause-copies g c = copies-some (setup_at c.in_ok-table.table) (heap_state c.in_ok-heap.heap) c.in_ok-run.run' c.in_ok-table.ensures.setup c.in_ok-run.ensures.run.3

pub take_copy_block-second-requires-clause-copies : goal.take_copy_block-second-requires-clause-copies
take_copy_block-second-requires-clause-copies g c = copies-some (setup_at c.in_ok-table.table) (heap_state c.in_ok-heap.heap) c.in_ok-run.run' c.in_ok-table.ensures.setup c.in_ok-run.ensures.run.3

pub take_copy_block-third-requires-clause-copies : goal.take_copy_block-third-requires-clause-copies
take_copy_block-third-requires-clause-copies g c = copies-some (setup_at c.in_ok-table.table) (heap_state c.in_ok-heap.heap) c.in_ok-run.run' c.in_ok-table.ensures.setup c.in_ok-run.ensures.run.3

pub take_copy_block-none-requires-clause-copies : goal.take_copy_block-none-requires-clause-copies
take_copy_block-none-requires-clause-copies g c = copies-some (setup_at c.in_ok-table.table) (heap_state c.in_ok-heap.heap) c.in_ok-run.run' c.in_ok-table.ensures.setup c.in_ok-run.ensures.run.3
