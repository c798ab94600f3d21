use Rattle.std.proofs.Common.{◌≡◌, ◌-◌, [], All, length, map}
use Rattle.steal_pool.specs.declared.rule.TheConstants.{PARTS}
use Rattle.steal_pool.specs.Ends.{AreTickets}
use Rattle.steal_pool.specs.Seats.{account, deques, got_by, HasParts}
use Rattle.steal_pool.proofs.Places.{AreUpTo}
use Rattle.steal_pool.proofs.seats.cut_tickets.Given as goal

abbrev pub invariant-loop-i : goal.invariant-loop-i
invariant-loop-i g l = record {
  parts : All (HasParts (PARTS - l.i)) l.seats.items;
  account : map account l.seats.items ≡ map account l.initial.seats.items;
  none : All (λ s. got_by s ≡ []) l.seats.items;
  tickets : AreUpTo (λ ts. AreTickets (deques l.initial.seats.items) ts.items × (length ts.items ≡ length l.initial.seats.items)) (λ ts. Unit {0}) l.i (map (λ s. s.tickets) l.seats.items);
}
