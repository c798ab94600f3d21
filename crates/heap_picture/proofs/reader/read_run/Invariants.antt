use Rattle.std.proofs.Common.{◌≡◌, ◌+◌, ◌≤◌, length}
use Rattle.trace_text.specs.Grammar.{parts_at}
use Rattle.heap_picture.specs.Reading.{begun, nothing, parts_from}
use Rattle.heap_picture.proofs.reader.read_run.Given as goal

-- what is left to read gives the same, and each line has a byte at least
abbrev pub invariant-loop-line : goal.invariant-loop-line
invariant-loop-line l = (parts_from 1 nothing (parts_at 10 l.text) ≡ parts_from l.number (begun l.reader) (parts_at 10 l.rest))
    × (l.number + length l.rest ≤ 1 + length l.text)

abbrev pub decreases-loop-line : goal.decreases-loop-line
decreases-loop-line l = length l.rest
