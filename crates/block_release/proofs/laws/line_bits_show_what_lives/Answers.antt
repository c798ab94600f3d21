use Rattle.block_release.proofs.MarkedLines.{lines-show, kept-lines-show}
use Rattle.block_release.proofs.laws.line_bits_show_what_lives.Goals as goal

pub returns-clause-all : goal.returns-clause-all
returns-clause-all c p es k trace finished marks there = lines-show p es trace finished marks k there

pub returns-clause-kept : goal.returns-clause-kept
returns-clause-kept c p es k trace finished marks there whole = kept-lines-show p es trace finished marks k there whole
