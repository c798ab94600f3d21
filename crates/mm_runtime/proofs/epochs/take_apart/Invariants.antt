-- The seats and traces of the parts so far.
use Rattle.std.proofs.Common.{◌≡◌, ◌≤◌, map, length}
use Rattle.std.specs.Prelude.{vec_capacity}
use Rattle.mm_runtime.specs.OpenEpochs.{end_of, seat_of, trace_in}
use Rattle.mm_runtime.proofs.epochs.take_apart.Given as goal

abbrev pub invariant-loop-part : goal.invariant-loop-part
invariant-loop-part l = record {
  seats : l.seats.items ≡ map seat_of l.yielded;
  traces : l.progress.items ≡ map trace_in l.yielded;
  ends : l.ends.items ≡ map end_of l.yielded;
  room_seats : length l.fn.parts.items ≤ vec_capacity l.seats;
  room_traces : length l.fn.parts.items ≤ vec_capacity l.progress;
  room_ends : length l.fn.parts.items ≤ vec_capacity l.ends;
}
