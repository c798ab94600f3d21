use Rattle.plain_tracer.proofs.TracedRows.{tracing-extent}
use Rattle.plain_tracer.proofs.plain_trace.PlainTrace.next_free.Goals as goal

pub is_free-requires-clause-extent : goal.is_free-requires-clause-extent
is_free-requires-clause-extent c = tracing-extent _ _ c.requires
