use Rattle.trace_words.specs.Rule.{setup_in}
use Rattle.trace_words.proofs.ScanSteps.{look-at-lines}
use Rattle.trace_words.proofs.scans.look_at_lines.Goals as goal

pub load-requires : goal.load-requires
load-requires c = (c.requires.own.0, c.requires.own.1, look-at-lines (setup_in c.args.row.now.key) _ _ _ c.args.word c.requires.live)
