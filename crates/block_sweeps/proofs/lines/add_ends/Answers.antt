use Rattle.std.proofs.Common.{arith, w64}
use Rattle.std.specs.Int.{trailing_zeros}
use Rattle.std.proofs.lemmas.Nat.Bits.{bit_at-trailing_zeros}
use Rattle.object_model.specs.Objects.{HeapState, state_over}
use Rattle.block_sweeps.proofs.LineEnds.{left-first, left-next, left-none}
use Rattle.block_sweeps.proofs.TouchedWords.{cleared-less}
use Rattle.block_sweeps.proofs.lines.add_ends.Goals as goal

pub loop-rest-init : goal.loop-rest-init
loop-rest-init g c =
    let s : HeapState = state_over (g.W.Words.words c.args.words.now) c.args.layout.now 0 0 in
    left-first s c.args.block c.args.word c.args.begun c.args.lines.now c.ranges.begun.fits c.requires.word c.requires.begun

pub add_last-requires-clause-begins : goal.add_last-requires-clause-begins
add_last-requires-clause-begins g c =
    let found = bit_at-trailing_zeros w64 c.loop-rest.rest (omega (arith, c.loop-rest-test.true)) c.loop-rest.auto.rest-fits.fits in
    c.loop-rest.invariant.begins (trailing_zeros w64 c.loop-rest.rest) found.0 found.1

pub loop-rest-smaller : goal.loop-rest-smaller
loop-rest-smaller g c =
    let found = bit_at-trailing_zeros w64 c.loop-rest.rest (omega (arith, c.loop-rest-test.true)) c.loop-rest.auto.rest-fits.fits in
    cleared-less c.loop-rest.rest (trailing_zeros w64 c.loop-rest.rest) found.0 found.1

pub loop-rest-preserved : goal.loop-rest-preserved
loop-rest-preserved g c =
    let s : HeapState = state_over (g.W.Words.words c.args.words.now) c.args.layout.now 0 0 in
    let found = bit_at-trailing_zeros w64 c.loop-rest.rest (omega (arith, c.loop-rest-test.true)) c.loop-rest.auto.rest-fits.fits in
    left-next s c.args.block c.args.word c.loop-rest.rest (trailing_zeros w64 c.loop-rest.rest) c.args.lines.now c.loop-rest.lines c.add_last.new.lines
    found.0 found.1 c.loop-rest.invariant c.add_last.ensures

pub returns : goal.returns
returns g c =
    let s : HeapState = state_over (g.W.Words.words c.args.words.now) c.args.layout.now 0 0 in
    left-none s c.args.block c.args.word c.loop-rest.rest c.args.lines.now c.loop-rest.lines c.loop-rest-test.false c.loop-rest.invariant
