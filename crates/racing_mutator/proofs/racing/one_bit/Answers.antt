use Rattle.side_meta.proofs.BitWords.{one-shifted}
use Rattle.racing_mutator.proofs.racing.one_bit.Goals as goal

pub returns : goal.returns
returns c = one-shifted c.args.bit c.requires
