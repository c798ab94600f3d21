use Rattle.std.proofs.Common.{◌≡◌, ◌<◌, ℕ, true, length}
use Rattle.std.specs.Prelude.{Some, slice_get}
use Rattle.mutator_rule.specs.declared.seat.MutatorSeat.{MutatorSeat}
use Rattle.racing_world.specs.Closing.{IsSeatAt}
use Rattle.racing_world.proofs.world.join_flags.Given as goal

abbrev pub invariant-loop-j : goal.invariant-loop-j
invariant-loop-j l = record {
  len : length l.flags.items ≡ length l.initial.flags.items;
  kept : (k : ℕ) → slice_get l.initial.flags.items k ≡ Some true → slice_get l.flags.items k ≡ Some true;
  joined : (j k : ℕ) (seat : MutatorSeat) → j < l.j → IsSeatAt l.seats.items j seat → slice_get seat.notes.flags.items k ≡ Some true → slice_get l.flags.items k ≡ Some true;
}
