use Rattle.std.proofs.Common.{◌≡◌, ◌∙◌, ap, arith, length}
use Rattle.stored_commands.specs.Made.{made_trace}
use Rattle.stored_commands.proofs.Copies.{copied-more, copied-all}
use Rattle.stored_commands.proofs.Stretches.{trace-length}
use Rattle.made_trace.proofs.Making.{trace-valid}
use Rattle.made_trace.proofs.makers.made.Goals as goal

pub loop-command-preserved : goal.loop-command-preserved
loop-command-preserved c =
    let now = c.loop-command.invariant in
    rw (c.prepare-in-Some.ensures, c.in_ok-push.ensures.items) (copied-more c.loop-command.trace c.loop-command.commands.items c.command.result now.0 (grind arith), now.1)

pub returns-clause-made : goal.returns-clause-made
returns-clause-made c =
    let now = c.loop-command.invariant in
    copied-all c.loop-command.trace c.loop-command.commands.items now.0 (grind arith) ∙ now.1

pub returns-clause-count : goal.returns-clause-count
returns-clause-count c =
    let now = c.loop-command.invariant in
    let all : c.loop-command.commands.items ≡ made_trace c.args.n = copied-all c.loop-command.trace c.loop-command.commands.items now.0 (grind arith) ∙ now.1 in
    ap length all ∙ trace-length c.args.n

pub returns-clause-valid : goal.returns-clause-valid
returns-clause-valid c =
    let now = c.loop-command.invariant in
    let all : c.loop-command.commands.items ≡ made_trace c.args.n = copied-all c.loop-command.trace c.loop-command.commands.items now.0 (grind arith) ∙ now.1 in
    rw all (trace-valid c.args.n)
