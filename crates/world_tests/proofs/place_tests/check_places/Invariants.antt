use Rattle.sessions.specs.Plans.{Immix as immix, rules_of}
use Rattle.plain_world.specs.Calls.{IsOpen}
use Rattle.world_tests.proofs.place_tests.check_places.Given as goal

abbrev pub invariant-loop-m : goal.invariant-loop-m
invariant-loop-m g l = IsOpen (rules_of immix) l.world
