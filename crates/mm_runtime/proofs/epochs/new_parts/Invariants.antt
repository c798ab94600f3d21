-- The parts of the traces so far, with the first seats. The others are left.
use Rattle.std.proofs.Common.{◌≡◌, ◌≤◌, ◌++◌, ℕ, map, length}
use Rattle.std.specs.Prelude.{None, Some, slice_get, vec_capacity}
use Rattle.racing_world.specs.Calls.{number_of}
use Rattle.mm_runtime.specs.declared.seat_part.Part.{Part}
use Rattle.mm_runtime.specs.OpenEpochs.{seat_of, trace_in}
use Rattle.mm_runtime.proofs.epochs.new_parts.Given as goal

abbrev pub invariant-loop-trace : goal.invariant-loop-trace
invariant-loop-trace l = record {
  traces : map trace_in l.parts.items ≡ l.yielded;
  seats : map seat_of l.parts.items ++ l.seats.items ≡ l.fn.seats.items;
  each : (k : ℕ) (p : Part) → slice_get l.parts.items k ≡ Some p → (p.mutator ≡ number_of p.seat) × (p.end ≡ None);
  room : length l.fn.progress.items ≤ vec_capacity l.parts;
}
