use Rattle.trace_tests.proofs.NextBlocks.{tracing-on}
use Rattle.trace_tests.proofs.tests.take.Goals as goal

pub returns-clause-tracing : goal.returns-clause-tracing
returns-clause-tracing c =
    let taken = c.take_copy_block.ensures in
    tracing-on c.args.tracer.now c.take_copy_block.new.self c.take_copy_block.result taken.some taken.same c.requires.tracing
