use Rattle.block_sweeps.proofs.LineStarts.{bits-of}
use Rattle.block_sweeps.proofs.lines.line_bits.Goals as goal

pub returns : goal.returns
returns c = bits-of c.args.line c.args.word c.run_mask.result c.run_mask.ensures.inside c.run_mask.ensures.only
