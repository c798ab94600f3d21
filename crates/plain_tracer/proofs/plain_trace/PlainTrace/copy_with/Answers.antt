use Rattle.std.proofs.Common.{◌++◌, sym, subst}
use Rattle.trace_core.specs.Views.{copied_view}
use Rattle.plain_tracer.specs.Tracers.{Tracks}
use Rattle.trace_core.specs.CallEvents.{copying}
use Rattle.plain_tracer.proofs.CopiedObjects.{moving-of, copied-here}
use Rattle.plain_tracer.proofs.plain_trace.PlainTrace.copy_with.Goals as goal

pub copy_in_place-requires-clause-tracing : goal.copy_in_place-requires-clause-tracing
copy_in_place-requires-clause-tracing c = let r = c.requires.tracing in
    record { setup = r.setup; events = r.events; view = r.view; tracks = r.tracks; right = copied-here r.setup r.events r.view c.args.won r.right c.if-target-object.true }

pub move_object-requires-clause-tracing : goal.move_object-requires-clause-tracing
move_object-requires-clause-tracing c = let r = c.requires.tracing in
    record { setup = r.setup; events = r.events; view = r.view; tracks = r.tracks; right = moving-of r.setup r.events r.view c.args.won r.right (λ e. c.if-target-object.false e) }

pub returns-then-target-object-clause-tracks : goal.returns-then-target-object-clause-tracks
returns-then-target-object-clause-tracks c = λ p es v tracks won.
    subst (λ t. Tracks p (es ++ copying p c.args.won.object t) c.copy_in_place.new.self (copied_view p c.args.won.object t v)) (sym c.if-target-object.true)
    (c.copy_in_place.ensures.copies p es v tracks (copied-here p es v c.args.won won c.if-target-object.true))

pub returns-else-target-object-clause-tracks : goal.returns-else-target-object-clause-tracks
returns-else-target-object-clause-tracks c = λ p es v tracks won. c.move_object.ensures.moves p es v tracks (moving-of p es v c.args.won won (λ e. c.if-target-object.false e))
