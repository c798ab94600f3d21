use Rattle.block_release.proofs.UnlogBits.{marks}
use Rattle.block_release.proofs.laws.unlog_bits_show_what_lives.Goals as goal

pub returns : goal.returns
returns c = λ p es k trace finished. marks p es trace finished k
