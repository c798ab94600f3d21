use Rattle.std.proofs.Common.{◌≡◌, ℕ, ◌+◌, ◌<◌, [], All, length, map}
use Rattle.std.specs.List.{flat_map}
use Rattle.steal_pool.specs.Ends.{AreTickets, stolen}
use Rattle.steal_pool.specs.Seats.{account, deques, got_by, HasParts}
use Rattle.steal_pool.proofs.Places.{AreUpTo}
use Rattle.steal_pool.proofs.seats.cut_row.Given as goal

abbrev pub invariant-loop-i : goal.invariant-loop-i
invariant-loop-i g l = record {
  parts : (n : ℕ) → 0 < n → All (HasParts (n + 1)) l.initial.seats.items → AreUpTo (HasParts n) (HasParts (n + 1)) l.i l.seats.items;
  account : map account l.seats.items ≡ map account l.initial.seats.items;
  got : map (λ s. got_by s) l.seats.items ≡ map (λ s. got_by s) l.initial.seats.items;
  tickets : map (λ s. s.tickets) l.seats.items ≡ map (λ s. s.tickets) l.initial.seats.items;
  row : AreTickets (deques l.initial.seats.items) l.row.items;
  count : length l.row.items ≡ l.i;
  none : flat_map stolen l.row.items ≡ [];
}
