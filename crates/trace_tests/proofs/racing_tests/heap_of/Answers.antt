use Rattle.std.proofs.Common.{sym, subst}
use Rattle.object_model.specs.Heaps.{heap_state}
use Rattle.object_model.specs.Lawful.{AreRoots}
use Rattle.trace_tests.proofs.racing_tests.heap_of.Goals as goal

pub graph-requires : goal.graph-requires
graph-requires g c = subst (AreRoots (heap_state c.in_ok-built.built.heap)) (sym c.deref.ensures.value) c.in_ok-built.built.roots
