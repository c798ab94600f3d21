-- A tracer goes on as it takes blocks to copy into.
use Rattle.std.proofs.Common.{ℕ, List, [], ◌∷◌, ◌++◌, Option, Some, None}
use Rattle.std.specs.Prelude.{IfSome, IfNone}
use Rattle.trace_core.specs.Setups.{Setup}
use Rattle.trace_core.specs.Machine.{Event, TakeBlock}
use Rattle.trace_core.specs.Views.{View, left_view}
use Rattle.plain_tracer.specs.declared.plain_trace.PlainTrace.{PlainTrace}
use Rattle.plain_tracer.specs.Tracers.{Tracks, TracerHolds}

pub tracing-on : (old new : PlainTrace) (block : Option ℕ)
    → IfSome block (λ b. (p : Setup) (es : List Event) (v : View) → Tracks p es old v → Tracks p (es ++ TakeBlock b 1 ∷ []) new (left_view b v))
    → IfNone block ((p : Setup) (es : List Event) (v : View) → Tracks p es old v → Tracks p es new v)
    → TracerHolds old (λ p es v. Unit {0}) → TracerHolds new (λ p es v. Unit {0})
tracing-on old new None some none t = record {
  setup = t.setup;
  events = t.events;
  view = t.view;
  tracks = none t.setup t.events t.view t.tracks;
  right = tt;
}
tracing-on old new (Some b) some none t = record {
  setup = t.setup;
  events = t.events ++ TakeBlock b 1 ∷ [];
  view = left_view b t.view;
  tracks = some t.setup t.events t.view t.tracks;
  right = tt;
}
