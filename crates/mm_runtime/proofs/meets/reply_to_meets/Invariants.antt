use Rattle.mm_runtime.specs.Replying.{is_meet_at, RepliesBelow}
use Rattle.mm_runtime.proofs.meets.reply_to_meets.Given as goal

abbrev pub invariant-loop-m : goal.invariant-loop-m
invariant-loop-m l = RepliesBelow (is_meet_at l.fn.progress.items) l.m l.fn.progress.items l.progress.items
