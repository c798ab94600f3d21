use Rattle.std.proofs.Common.{sym, subst}
use Rattle.object_model.specs.Heaps.{heap_state}
use Rattle.write_barrier.specs.Listed.{CoverLogged}
use Rattle.block_regions.proofs.BlockFlags.{covers-logged}
use Rattle.world_tests.proofs.flag_tests.next_epoch.Goals as goal

pub check_flags-requires : goal.check_flags-requires
check_flags-requires g c =
    subst (CoverLogged (heap_state c.close_with-heap.result.0)) (sym c.deref.ensures.value)
    (covers-logged g.P.Plan.rules (heap_state c.close_with-heap.result.0) c.close_with-heap.result.2.flags.items
    (c.close_with-heap.ensures.flags g.P.Plan.rules (sym c.requires.open.young)) c.requires.young)

pub begin_with-requires-clause-remembers : goal.begin_with-requires-clause-remembers
begin_with-requires-clause-remembers g c = c.close_with-heap.ensures.remembers g.P.Plan.rules (sym c.requires.open.young)

pub begin_with-requires-clause-flags : goal.begin_with-requires-clause-flags
begin_with-requires-clause-flags g c = c.close_with-heap.ensures.flags g.P.Plan.rules (sym c.requires.open.young)
