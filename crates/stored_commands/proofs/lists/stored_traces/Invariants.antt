-- The first traces are stored.
use Rattle.std.proofs.Common.{◌≡◌, take}
use Rattle.stored_commands.specs.Lists.{lists_of}
use Rattle.stored_commands.proofs.lists.stored_traces.Given as goal

abbrev pub invariant-loop-trace : goal.invariant-loop-trace
invariant-loop-trace l = l.all.items ≡ lists_of (take l.trace-index l.traces)
