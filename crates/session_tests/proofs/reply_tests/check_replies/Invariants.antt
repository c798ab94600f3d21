use Rattle.std.proofs.Common.{◌≡◌}
use Rattle.ideal_heap.specs.Plain.{mutators_of}
use Rattle.session_tests.proofs.reply_tests.check_replies.Given as goal

abbrev pub invariant-loop-n : goal.invariant-loop-n
invariant-loop-n g l = mutators_of l.ideal ≡ 1
