use Rattle.std.proofs.Common.{◌∙◌, ap, w32}
use Rattle.std.specs.Int.{from_le_bytes}
use Rattle.trace_text.proofs.FirstFour.{four_are}
use Rattle.trace_text.proofs.tokens.first_four.Goals as goal

pub returns : goal.returns
returns c = c.from_le_bytes.ensures ∙ ap (from_le_bytes w32) (four_are c.args.text.now c.requires)
