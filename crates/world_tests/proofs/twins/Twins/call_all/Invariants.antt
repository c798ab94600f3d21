use Rattle.sessions.specs.Plans.{NoGc as no_gc, rules_of}
use Rattle.plain_world.specs.Calls.{IsOpen}
use Rattle.world_tests.proofs.twins.Twins.call_all.Given as goal

abbrev pub invariant-loop-command : goal.invariant-loop-command
invariant-loop-command g l = IsOpen (rules_of no_gc) l.self.world
