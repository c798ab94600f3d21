use Rattle.std.proofs.Common.{◌≡◌, ◌≤◌, map}
use Rattle.std.specs.Prelude.{vec_capacity, vec_len}
use Rattle.std.specs.List.{range_with_len}
use Rattle.heap_layout.specs.declared.layout.TheConstants.{GLOBALS}
use Rattle.plain_tracer.proofs.plain_trace.PlainTrace.take_globals.Given as goal

abbrev pub invariant-loop-global : goal.invariant-loop-global
invariant-loop-global l =
    (map (λ token. token.global) l.tokens.items ≡ range_with_len 0 l.global) × (vec_len l.tokens ≡ l.global) × (GLOBALS ≤ vec_capacity l.tokens)
