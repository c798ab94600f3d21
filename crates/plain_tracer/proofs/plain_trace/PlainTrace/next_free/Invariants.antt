-- No block before the loop's block is Free.
use Rattle.std.proofs.Common.{◌<◌, ◌≤◌, ℕ}
use Rattle.heap_layout.specs.declared.block.Kind.TheVariants as kinds
use Rattle.object_model.specs.Objects.{HasKind, state_of}
use Rattle.plain_tracer.proofs.plain_trace.PlainTrace.next_free.Given as goal

abbrev pub invariant-loop-block : goal.invariant-loop-block
invariant-loop-block l = (c : ℕ) → l.fn.self.next_block ≤ c → c < l.block → HasKind (state_of l.fn.self.row) c kinds.Free → ⊥
