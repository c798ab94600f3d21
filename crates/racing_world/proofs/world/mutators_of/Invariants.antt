use Rattle.std.proofs.Common.{◌≡◌, map, take}
use Rattle.heap_users.specs.Users.{mutator_state}
use Rattle.racing_world.specs.Closing.{mutator_at}
use Rattle.racing_world.proofs.world.mutators_of.Given as goal

abbrev pub invariant-loop-i : goal.invariant-loop-i
invariant-loop-i l = map mutator_state l.mutators.items ≡ take l.i (map mutator_at l.seats.items)
