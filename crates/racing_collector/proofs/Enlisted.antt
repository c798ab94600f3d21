-- The workers of new seats.
use Rattle.std.proofs.Common.{refl, sym, subst, ℕ, List, [], ◌∷◌, All, map}
use Rattle.std.specs.List.{range_with_len}
use Rattle.std.proofs.lemmas.List.Elements.{All-nil, All-cons, All-head, All-tail}
use Rattle.object_model.specs.Lawful.{AreRoots}
use Rattle.trace_words.specs.Shares.{worker_share}
use Rattle.trace_words.specs.Steps.{IsDone}
use Rattle.trace_words.specs.declared.share.Share.{Share}
use Rattle.trace_table.specs.Ends.{IsOneWorkers, NewSeats, shares_of}
use Rattle.trace_table.specs.Seats.{IsTable, IsSeat, setup_at}
use Rattle.trace_table.specs.declared.table.WorkerSeat.{WorkerSeat}
use Rattle.trace_table.proofs.SeatEnds.{new-seats-done}
use Rattle.racing_collector.specs.declared.racing.Racing.{Racing}
use Rattle.racing_collector.specs.Accounts.{IsRacer}

all-ones : (ks : List ℕ) → All IsOneWorkers (map (worker_share 1) ks)
all-ones [] = All-nil IsOneWorkers
all-ones (k ∷ ks) = All-cons IsOneWorkers (worker_share 1 k) (map (worker_share 1) ks) (refl, refl) (all-ones ks)

of-seats : (P : Share → Type 0) (seats : List WorkerSeat) → All P (shares_of seats) → All (λ s. P s.seat.me.0) seats
of-seats P [] all = All-nil (λ s. P s.seat.me.0)
of-seats P (s ∷ seats) all = All-cons (λ u. P u.seat.me.0) s seats (All-head P s.seat.me.0 (shares_of seats) all) (of-seats P seats (All-tail P s.seat.me.0 (shares_of seats) all))

module _ (r : Racing) (table : IsTable r.table) (roots : AreRoots (setup_at r.table).before r.roots.items) where
  both : (seats : List WorkerSeat) → All (IsSeat r.table) seats → All (λ s. IsDone (setup_at r.table) s.seat.me.0) seats → All (λ s. IsOneWorkers s.seat.me.0) seats → All (IsRacer r) seats
  both [] each done ones = All-nil (IsRacer r)
  both (s ∷ seats) each done ones = All-cons (IsRacer r) s seats (record {
    table = table;
    seat = All-head (IsSeat r.table) s seats each;
    done = All-head (λ u. IsDone (setup_at r.table) u.seat.me.0) s seats done;
    one = All-head (λ u. IsOneWorkers u.seat.me.0) s seats ones;
    roots = roots;
  }) (both seats (All-tail (IsSeat r.table) s seats each) (All-tail (λ u. IsDone (setup_at r.table) u.seat.me.0) s seats done) (All-tail (λ u. IsOneWorkers u.seat.me.0) s seats ones))

  pub new-racers : (n : ℕ) (seats : List WorkerSeat) → NewSeats r.table n seats → All (IsRacer r) seats
  new-racers n seats new = both seats new.each (new-seats-done (setup_at r.table) r.table n seats new)
      (of-seats IsOneWorkers seats (subst (All IsOneWorkers) (sym new.shares) (all-ones (range_with_len 1 n))))
