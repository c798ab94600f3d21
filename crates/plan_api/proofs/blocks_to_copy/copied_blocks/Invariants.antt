use Rattle.std.proofs.Common.{◌≡◌, ◌≤◌, map}
use Rattle.std.specs.Prelude.{vec_capacity, vec_len}
use Rattle.std.specs.List.{range_with_len}
use Rattle.sessions.specs.Plans.{Rules}
use Rattle.sessions.specs.Collecting.{is_copied_out}
use Rattle.object_model.specs.Heaps.{heap_state}
use Rattle.plan_api.specs.Evacuation.{HasFills}
use Rattle.plan_api.proofs.blocks_to_copy.copied_blocks.Given as goal

abbrev pub invariant-loop-block : goal.invariant-loop-block
invariant-loop-block l = record {
  len : vec_len l.from ≡ l.block;
  room : (heap_state l.heap).blocks ≤ vec_capacity l.from;
  copied : (r : Rules) → HasFills r l.fills → l.from.items ≡ map (is_copied_out r l.collect (heap_state l.heap)) (range_with_len 0 l.block);
}
