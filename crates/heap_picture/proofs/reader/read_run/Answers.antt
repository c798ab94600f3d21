use Rattle.std.proofs.Common.{◌∙◌, arith}
use Rattle.heap_picture.specs.Reading.{begun, text_read}
use Rattle.heap_picture.proofs.Walks.{goes_on, stops, is_taken, is_none}
use Rattle.heap_picture.proofs.reader.read_run.Goals as goal

pub loop-line-preserved : goal.loop-line-preserved
loop-line-preserved c =
    let at = c.loop-line.invariant in
    let more = is_taken c.in_ok-taken.taken _ _ c.in_ok-taken.ensures c.if-not-taken.false in (
      at.0 ∙ goes_on c.loop-line.number (begun c.loop-line.reader) (begun c.take.new.self) c.loop-line.rest.now c.in-Some.line.now c.in-Some.after.now c.in-Some.ensures.parts more,
      omega (arith, at.1, c.in-Some.ensures.shorter),
    )

pub returns-then-not-taken : goal.returns-then-not-taken
unfolding text_read
returns-then-not-taken c =
    c.loop-line.invariant.0 ∙ stops c.loop-line.number (begun c.loop-line.reader) c.loop-line.rest.now c.in-Some.line.now c.in-Some.after.now c.in-Some.ensures.parts
    (is_none c.in_ok-taken.taken _ _ c.in_ok-taken.ensures c.if-not-taken.true)
