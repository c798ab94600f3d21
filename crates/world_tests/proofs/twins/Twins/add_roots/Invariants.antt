use Rattle.sessions.specs.Plans.{NoGc as no_gc, rules_of}
use Rattle.plain_world.specs.Calls.{IsOpen}
use Rattle.world_tests.proofs.twins.Twins.add_roots.Given as goal

abbrev pub invariant-loop-root : goal.invariant-loop-root
invariant-loop-root g l = IsOpen (rules_of no_gc) l.self.world
