-- The replies that were read are copied.
use Rattle.std.proofs.Common.{◌≡◌}
use Rattle.stored_replies.proofs.stored_replies.StoredReplies.to_vec.Given as goal

abbrev pub invariant-loop-reply : goal.invariant-loop-reply
invariant-loop-reply l = l.replies.items ≡ l.yielded
