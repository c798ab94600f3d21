use Rattle.std.proofs.Common.{◌≡◌, ◌≤◌, List, map, take}
use Rattle.std.specs.Prelude.{vec_capacity, vec_len}
use Rattle.trace_core.specs.Setups.{Setup}
use Rattle.trace_core.specs.Machine.{Event}
use Rattle.trace_core.specs.Views.{View}
use Rattle.plain_tracer.specs.TokenRights.{logged_token}
use Rattle.plain_tracer.specs.Tracers.{Tracks}
use Rattle.plain_tracer.proofs.plain_trace.PlainTrace.logged_tokens.Given as goal

abbrev pub invariant-loop-place : goal.invariant-loop-place
invariant-loop-place l =
    ((p : Setup) (es : List Event) (v : View) → Tracks p es l.self v → l.tokens.items ≡ map (logged_token p) (take l.place l.self.run.logged.items))
    × (vec_len l.tokens ≡ l.place) × (l.count ≤ vec_capacity l.tokens)
