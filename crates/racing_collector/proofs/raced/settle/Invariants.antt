use Rattle.std.proofs.Common.{◌≡◌, ◌<◌, ℕ, All, length, slice_index}
use Rattle.std.specs.Vec.Iter.{into_iter_items}
use Rattle.object_model.specs.Times.{times}
use Rattle.racing_collector.specs.Accounts.{places}
use Rattle.racing_collector.specs.declared.served.Served.{Served}
use Rattle.racing_collector.proofs.raced.settle.Given as goal

abbrev pub invariant-loop-s : goal.invariant-loop-s
invariant-loop-s l = record {
  inside : All (λ (s : Served). s.place < length l.fn.roots.items) (into_iter_items l.s-iterator);
  count : length l.roots.items ≡ length l.fn.roots.items;
  targets : (F : ℕ → ℕ) → All (λ (s : Served). s.target ≡ F s.place) l.yielded → (i : ℕ) → 0 < times i (places l.yielded) → slice_index l.roots.items i ≡ F i;
}
