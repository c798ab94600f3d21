use Rattle.std.proofs.Common.{◌≡◌, ◌+◌, ◌≤◌, false, map, List, [], vec_len, vec_capacity}
use Rattle.trace_core.specs.Setups.{Setup}
use Rattle.trace_core.specs.Machine.{Event}
use Rattle.trace_core.specs.Views.{View}
use Rattle.plain_tracer.specs.TokenRights.{IsGrey, grey_of}
use Rattle.plain_tracer.specs.Tracers.{Tracks, ScansFields, KeepsRun}
use Rattle.plain_tracer.proofs.plain_trace.PlainTrace.reach_each.Given as goal

abbrev pub invariant-loop-field : goal.invariant-loop-field
invariant-loop-field l = record {
  scans : (p : Setup) (es : List Event) (v : View) → Tracks p es l.fn.self v → IsGrey p v l.grey → v.won ≡ []
      → ScansFields p es v l.self false l.grey l.field (map (grey_of p) l.fn.out.items) (map (grey_of p) l.out.items);
  room : vec_len l.out ≤ vec_len l.fn.out + l.field;
  capacity : vec_capacity l.out ≡ vec_capacity l.fn.out;
  keeps : KeepsRun l.fn.self l.self;
}
