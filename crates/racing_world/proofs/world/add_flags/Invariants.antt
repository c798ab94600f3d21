use Rattle.std.proofs.Common.{◌≡◌, ◌<◌, ℕ, true, length}
use Rattle.std.specs.Prelude.{Some, slice_get}
use Rattle.racing_world.proofs.world.add_flags.Given as goal

abbrev pub invariant-loop-k : goal.invariant-loop-k
invariant-loop-k l = record {
  len : length l.flags.items ≡ length l.initial.flags.items;
  kept : (k : ℕ) → slice_get l.initial.flags.items k ≡ Some true → slice_get l.flags.items k ≡ Some true;
  added : (k : ℕ) → k < l.k → slice_get l.more.items k ≡ Some true → slice_get l.flags.items k ≡ Some true;
}
