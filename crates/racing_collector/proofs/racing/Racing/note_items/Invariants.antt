use Rattle.std.proofs.Common.{◌≡◌, ◌≤◌, length}
use Rattle.racing_collector.proofs.racing.Racing.note_items.Given as goal

abbrev pub invariant-loop-item : goal.invariant-loop-item
invariant-loop-item l = (length l.ahead ≡ 512) × (l.count ≤ 512)
