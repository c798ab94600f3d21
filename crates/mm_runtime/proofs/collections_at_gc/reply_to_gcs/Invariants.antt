use Rattle.mm_runtime.specs.Replying.{is_gc_at, RepliesBelow}
use Rattle.mm_runtime.proofs.collections_at_gc.reply_to_gcs.Given as goal

abbrev pub invariant-loop-m : goal.invariant-loop-m
invariant-loop-m l = RepliesBelow (is_gc_at l.ends) l.m l.fn.progress.items l.progress.items
