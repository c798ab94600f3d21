use Rattle.sessions.specs.Plans.{NoGc as no_gc, rules_of}
use Rattle.plain_world.specs.Calls.{IsOpen}
use Rattle.world_tests.proofs.calls.check_polls.Given as goal

abbrev pub invariant-loop-raises : goal.invariant-loop-raises
invariant-loop-raises g l = IsOpen (rules_of no_gc) l.world
