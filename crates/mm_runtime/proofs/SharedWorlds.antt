-- The end of an epoch whose mutators ran on threads.
use Rattle.std.proofs.Common.{◌≡◌, sym, ap, subst, List, map}
use Rattle.std.specs.Prelude.{All}
use Rattle.ideal_heap.specs.Runs.{IsRun}
use Rattle.object_model.specs.Heaps.{heap_state}
use Rattle.object_model.specs.Objects.{HeapState}
use Rattle.object_model.specs.Graphs.{MutatorState, Represents, numbers_of}
use Rattle.sessions.specs.Plans.{Rules}
use Rattle.sessions.specs.Sessions.{Setting, Moment, Stopped, ideal_at}
use Rattle.mutator_core.specs.Machine.{Epoch}
use Rattle.mutator_core.proofs.Beginnings.{log-ends}
use Rattle.mutator_rule.specs.declared.seat.MutatorSeat.{MutatorSeat}
use Rattle.mutator_rule.specs.Seats.{known}
use Rattle.mutator_rule.specs.Views.{epoch_with}
use Rattle.heap_users.specs.Beginnings.{epoch_of, without_stop}
use Rattle.heap_users.specs.Users.{mutator_state}
use Rattle.heap_users.proofs.Cleared as cleared
use Rattle.racing_world.specs.declared.world.World.{World}
use Rattle.racing_mutator.specs.RacingSeats.{MayCall}
use Rattle.racing_world.specs.Calls.{epoch_of_world}
use Rattle.racing_world.specs.Closing.{EndsEpoch as ClosesWorld}
use Rattle.racing_world.proofs.Begun.{all-at-place}
use Rattle.managed_heap.specs.declared.stopped_heap.StoppedHeap.{StoppedHeap}
use Rattle.managed_heap.specs.Stopped.{EndsEpoch, HeapStandsAt}
use Rattle.managed_heap.proofs.NeedsWritten.{stands-represents}

module _ {P : Type 0} (rules : Rules) (old new : StoppedHeap P) (w : World P) (t : Setting) (now : Moment) (seats : List MutatorSeat) (stands : HeapStandsAt rules old t now)
    (began : epoch_of_world rules w ≡ epoch_of rules (heap_state old.heap) (map mutator_state old.mutators.items)) (calls : All (MayCall rules w.row) seats)
    (ends : ClosesWorld rules (epoch_of_world rules w) seats (heap_state new.heap) (map mutator_state new.mutators.items)) where
  abbrev before : HeapState
  before = heap_state old.heap

  abbrev ms : List MutatorState
  ms = map mutator_state old.mutators.items

  represents : Represents (epoch_of_world rules w).before (epoch_of_world rules w).mutators (ideal_at now)
  represents = subst (λ (p : Epoch). Represents p.before p.mutators (ideal_at now)) (sym began)
      (cleared.represents-cleared before (old.heap.lawful) ms (ideal_at now) (stands-represents rules old t now stands))

  -- the seat that saw the whole history
  run : IsRun (ideal_at now) ends.history
  run =
      let seat : MutatorSeat = ends.longest.1 in
      let may = all-at-place (MayCall rules w.row) seats ends.longest.0 seat calls ends.longest.2 in
      let p : Epoch = epoch_with rules (known seat).start in
      let same : p ≡ epoch_of_world rules w = ap (epoch_with rules) may.0.own.1 in
      let log = may.0.own.2.epoch in
      subst (IsRun (ideal_at now)) ends.longest.3
      (log-ends p (ideal_at now) (known seat).seen log.ready (subst (λ (q : Epoch). Represents q.before q.mutators (ideal_at now)) (sym same) represents) log.steps).run

  stopped : Stopped rules (numbers_of now.mutators) (without_stop now.heap) (ideal_at now) ends.history (heap_state new.heap) (map mutator_state new.mutators.items)
  stopped =
      subst (λ (s : HeapState). Stopped rules (numbers_of now.mutators) (without_stop s) (ideal_at now) ends.history (heap_state new.heap) (map mutator_state new.mutators.items)) stands.heap
      (subst (λ (xs : List MutatorState). Stopped rules (numbers_of xs) (without_stop before) (ideal_at now) ends.history (heap_state new.heap) (map mutator_state new.mutators.items)) stands.mutators
      (subst (λ (p : Epoch). Stopped rules (numbers_of p.mutators) p.before (ideal_at now) ends.history (heap_state new.heap) (map mutator_state new.mutators.items)) began
      (ends.stopped (ideal_at now) represents)))

  pub ends-epoch : new.nursery ≡ old.nursery → new.full ≡ old.full → new.workers ≡ old.workers → EndsEpoch rules old now ends.history new
  ends-epoch nursery full workers = record { run = run; stopped = stopped; nursery = nursery; full = full; workers = workers }
