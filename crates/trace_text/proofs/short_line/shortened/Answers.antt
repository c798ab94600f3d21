use Rattle.std.proofs.Common.{take}
use Rattle.trace_text.proofs.ShortLines.{next_byte}
use Rattle.trace_text.proofs.short_line.shortened.Goals as goal

pub loop-byte-preserved : goal.loop-byte-preserved
loop-byte-preserved c =
    next_byte c.args.line.now c.loop-byte.byte-index c.add.new.self c.loop-byte-test.true (c.in_ok-add.ensures (take c.loop-byte.byte-index c.args.line.now) c.loop-byte.invariant)
