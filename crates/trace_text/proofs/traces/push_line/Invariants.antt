use Rattle.std.proofs.Common.{◌≡◌, ◌++◌, take}
use Rattle.std.specs.List.{flat_map}
use Rattle.trace_text.specs.Arguments.{argument_bytes}
use Rattle.trace_text.proofs.traces.push_line.Given as goal

abbrev pub invariant-loop-argument : goal.invariant-loop-argument
invariant-loop-argument l = l.to.items ≡ l.fn.to.items ++ l.word ++ flat_map argument_bytes (take l.argument-index l.arguments)
