use Rattle.std.proofs.Common.{◌≡◌, ◌++◌, All, map}
use Rattle.std.specs.List.{flat_map}
use Rattle.std.specs.List.Sorted.{IsPermutation}
use Rattle.std.specs.Vec.Iter.{into_iter_items}
use Rattle.steal_pool.specs.declared.rule.TheConstants.{PARTS}
use Rattle.steal_pool.specs.Ends.{puts, takings}
use Rattle.steal_pool.specs.Seats.{desk_of, HasParts}
use Rattle.steal_pool.proofs.steal.gather.Given as goal

abbrev pub invariant-loop-seat : goal.invariant-loop-seat
invariant-loop-seat g l = record {
  parts : All (HasParts PARTS) (into_iter_items l.seat-iterator);
  workers : l.workers.items ≡ map (λ s. (desk_of s).worker) l.yielded;
  later : l.all_later.items ≡ flat_map (λ s. (desk_of s).later.items) l.yielded;
  rest : IsPermutation (flat_map (λ s. puts (desk_of s).own) l.yielded) (flat_map (λ s. takings (desk_of s).own) l.yielded ++ l.rest.items);
  fit : All g.K.Fits.fits l.rest.items;
}
