use Rattle.std.proofs.Common.{take}
use Rattle.trace_text.specs.Shortening.{IsShort}
use Rattle.trace_text.proofs.short_line.shortened.Given as goal

-- the bytes so far are shortened
abbrev pub invariant-loop-byte : goal.invariant-loop-byte
invariant-loop-byte l = IsShort (take l.byte-index l.line) l.short
