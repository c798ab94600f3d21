use Rattle.std.proofs.Common.{ℕ, ◌<◌}
use Rattle.std.specs.Prelude.{Vec, slice_index_or}
use Rattle.std.specs.declared.alloc.Global.{Global}
use Rattle.ideal_heap.specs.declared.command.Command.{Command}
use Rattle.driver.specs.Prelude.{IsRunnableTrace}
use Rattle.session_tests.proofs.whole_sessions.check_runnable.Given as goal

abbrev pub invariant-loop-trace : goal.invariant-loop-trace
invariant-loop-trace g l = (k : ℕ) (d : Vec Command Global) → k < l.trace-index → IsRunnableTrace (slice_index_or l.traces.items k d).items
