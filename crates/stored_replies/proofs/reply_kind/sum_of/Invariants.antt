-- The numbers that were read are summed.
use Rattle.std.proofs.Common.{◌≡◌, ◌%◌, ◌^◌, take}
use Rattle.std.specs.Prelude.{sum}
use Rattle.stored_replies.proofs.reply_kind.sum_of.Given as goal

abbrev pub invariant-loop-number : goal.invariant-loop-number
invariant-loop-number l = l.sum ≡ sum (take l.number-index l.numbers) % 2 ^ 64
