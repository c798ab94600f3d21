use Rattle.std.proofs.Common.{sym, ◌∙◌}
use Rattle.sessions.specs.Fitting.{counts_of}
use Rattle.immix_space.proofs.reserve.headroom.Goals as goal

pub returns : goal.returns
returns c = λ s same. c.headroom_for.ensures (counts_of s) (same ∙ sym c.blocks-2.ensures)
