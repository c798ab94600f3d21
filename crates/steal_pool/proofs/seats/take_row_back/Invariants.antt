use Rattle.std.proofs.Common.{◌≡◌, ℕ, ◌+◌, ◌++◌, All, length, map}
use Rattle.std.specs.List.{flat_map}
use Rattle.std.specs.List.Sorted.{IsPermutation}
use Rattle.steal_pool.specs.Ends.{AreTickets, stolen}
use Rattle.steal_pool.specs.Seats.{account, deques, got_by, HasParts}
use Rattle.steal_pool.proofs.Places.{AreUpTo}
use Rattle.steal_pool.proofs.seats.take_row_back.Given as goal

abbrev pub invariant-loop-ticket : goal.invariant-loop-ticket
invariant-loop-ticket g l = record {
  parts : (n : ℕ) → All (HasParts n) l.initial.seats.items → AreUpTo (HasParts n) (HasParts (n + 1)) (length l.row.items) l.seats.items;
  account : map account l.seats.items ≡ map account l.initial.seats.items;
  tickets : map (λ s. s.tickets) l.seats.items ≡ map (λ s. s.tickets) l.initial.seats.items;
  row : AreTickets (deques l.initial.seats.items) l.row.items;
  taken : IsPermutation (flat_map (λ s. got_by s) l.initial.seats.items ++ flat_map stolen l.initial.row.items) (flat_map (λ s. got_by s) l.seats.items ++ flat_map stolen l.row.items);
}

abbrev pub decreases-loop-ticket : goal.decreases-loop-ticket
decreases-loop-ticket g l = goal.left-loop-ticket g l
