use Rattle.plain_tracer.proofs.TracedRows.{tracing-extent}
use Rattle.plain_tracer.proofs.plain_trace.PlainTrace.take_block.Goals as goal

pub set_block-requires-clause-extent : goal.set_block-requires-clause-extent
set_block-requires-clause-extent c = tracing-extent _ _ c.requires.tracing
