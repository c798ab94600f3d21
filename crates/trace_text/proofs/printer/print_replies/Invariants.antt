use Rattle.std.proofs.Common.{◌≡◌, ◌+◌, ◌*◌, ◌-◌, ◌≤◌, ◌++◌, length, vec_len, vec_capacity}
use Rattle.trace_text.specs.Text.{mutator_text}
use Rattle.trace_text.proofs.printer.print_replies.Given as goal

abbrev pub invariant-loop-reply : goal.invariant-loop-reply
invariant-loop-reply l =
    (l.text.items ≡ l.fn.to.items ++ mutator_text l.fn.mutator l.yielded)
    × (vec_len l.text + 46 * (length l.fn.replies.items - length l.yielded) ≤ vec_capacity l.text)
