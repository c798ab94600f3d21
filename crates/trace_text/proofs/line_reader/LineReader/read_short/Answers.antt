-- One good line more.
use Rattle.std.proofs.Common.{◌∙◌, ◌+◌, ◌-◌, ◌<◌, ℕ, List, arith, refl, take, drop, length}
use Rattle.std.proofs.lemmas.Bool.{le-ltb}
use Rattle.trace_text.specs.declared.line_reader.LineReader.{LineReader}
use Rattle.trace_text.specs.declared.limits.TheConstants.{MAX_COMMANDS}
use Rattle.trace_text.proofs.FirstLines.{front_read, front_shorter}
use Rattle.trace_text.proofs.ReaderLemmas.{one_more}
use Rattle.trace_text.proofs.line_reader.LineReader.read_short.Goals as goal

pub loop-command-preserved : goal.loop-command-preserved
loop-command-preserved c =
    let old : LineReader = c.loop-command.self in
    let new : LineReader = record { commands = c.push.new.self; number = old.number + 1; fault = old.fault } in
    let rest : List ℕ = c.loop-command.rest.now in
    let end : ℕ = c.in-Some.end in
    let left : List ℕ = take (length rest - end) (drop end rest) in
    let now = c.loop-command.invariant in
    let after : 1 < old.number + 1 = omega (arith, now.begun) in
    let more = one_more old new rest left c.in-Some.command (front_read c.in-Some.command rest end c.in-Some.ensures) now.none now.begun
    (le-ltb (MAX_COMMANDS + 1) old.number (grind arith)) now.none after refl c.in_ok-push.ensures in
    let shorter : length left < length rest = front_shorter c.in-Some.command rest end c.in-Some.ensures in record {
      none = now.none;
      begun = after;
      so_far = λ ls. more ls ∙ now.so_far ls;
      fewer = let few = now.fewer in omega arith;
    }
