use Rattle.std.proofs.Common.{◌≡◌, ℕ, ◌<◌, ◌≤◌, map}
use Rattle.std.specs.List.{Any}
use Rattle.object_model.specs.Objects.{IsHeld, name_at}
use Rattle.object_model.specs.Heaps.{heap_state}
use Rattle.heap_users.specs.Users.{mutator_state}
use Rattle.heap_users.proofs.users.have_names.Given as goal

abbrev pub invariant-loop-address : goal.invariant-loop-address
invariant-loop-address l = (a : ℕ) → a < l.address → IsHeld (heap_state l.heap) a
    → Any (λ m. ((name_at (heap_state l.heap) a).mutator ≡ m.number) × ((name_at (heap_state l.heap) a).birth ≤ m.births)) (map mutator_state l.mutators)
