use Rattle.std.proofs.Common.{◌≡◌, ◌+◌, ◌-◌, [], All, length, map}
use Rattle.std.specs.List.{flat_map}
use Rattle.std.specs.List.Sorted.{IsPermutation}
use Rattle.steal_pool.specs.declared.rule.TheConstants.{PARTS}
use Rattle.steal_pool.specs.Ends.{AreTickets}
use Rattle.steal_pool.specs.Seats.{account, deques, got_by, HasParts}
use Rattle.steal_pool.proofs.Places.{AreUpTo}
use Rattle.steal_pool.proofs.seats.take_tickets_back.Given as goal

abbrev pub invariant-loop-i : goal.invariant-loop-i
invariant-loop-i g l = record {
  parts : All (HasParts ((PARTS - length l.initial.seats.items) + l.i)) l.seats.items;
  account : map account l.seats.items ≡ map account l.initial.seats.items;
  tickets : AreUpTo (λ ts. ts.items ≡ []) (λ ts. AreTickets (deques l.initial.seats.items) ts.items × (length ts.items ≡ length (deques l.initial.seats.items))) l.i (map (λ s. s.tickets) l.seats.items);
  taken : IsPermutation (flat_map (λ s. got_by s) l.initial.seats.items) (flat_map (λ s. got_by s) l.seats.items);
}
