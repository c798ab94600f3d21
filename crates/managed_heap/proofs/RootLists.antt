-- The roots of a collection: the registers of all mutators.
use Rattle.std.proofs.Common.{◌≡◌, refl, ℕ, zero, suc, ◌+◌, ◌*◌, ◌<◌, ◌≤◌, arith, List, [], ◌∷◌, ◌++◌, length, length-append, map}
use Rattle.std.specs.Prelude.{slice_index}
use Rattle.std.specs.List.{AllByRecursion}
use Rattle.std.proofs.lemmas.List.{length-map}
use Rattle.object_model.specs.Heaps.{heap_state}
use Rattle.object_model.specs.Objects.{HeapState}
use Rattle.object_model.specs.Lawful.{IsRoot, AreRoots}
use Rattle.object_model.specs.Graphs.{MutatorState, AreRegisters, roots_of}
use Rattle.sessions.specs.Plans.{Rules}
use Rattle.sessions.specs.Sessions.{ideal_at}
use Rattle.sessions.proofs.SameStates.{HaveRegisters}
use Rattle.sessions.proofs.CollectedMoments.{registers-of}
use Rattle.heap_users.specs.Beginnings.{MayUse}
use Rattle.heap_users.specs.Users.{mutator_state}
use Rattle.plain_world.proofs.Closed.{may-use}
use Rattle.managed_heap.specs.declared.stopped_heap.StoppedHeap.{StoppedHeap}
use Rattle.managed_heap.specs.Stopped.{IsStopped}
use Rattle.managed_heap.proofs.NeedsWritten.{stands-represents}

pub length-roots : (ms : List MutatorState) → HaveRegisters ms → length (roots_of ms) ≡ 16 * length ms
length-roots [] all = refl
length-roots (m ∷ ms) all =
    let both : length (roots_of (m ∷ ms)) ≡ length m.registers + length (roots_of ms) = length-append m.registers (roots_of ms) in
    let one : length m.registers ≡ 16 = all.0 in
    let rest : length (roots_of ms) ≡ 16 * length ms = length-roots ms all.1 in
    omega arith

root-at : (s : HeapState) (xs ys : List ℕ) → ((d : ℕ) → d < length xs → IsRoot s (slice_index xs d)) → ((d : ℕ) → d < length ys → IsRoot s (slice_index ys d))
    → (d : ℕ) → d < length (xs ++ ys) → IsRoot s (slice_index (xs ++ ys) d)
root-at s [] ys front back d less = back d less
root-at s (x ∷ xs) ys front back zero less = front 0 (omega arith)
root-at s (x ∷ xs) ys front back (suc d) less =
    root-at s xs ys (λ e below. front (suc e) (omega (arith, below))) back d (let inside : suc d < suc (length (xs ++ ys)) = less in omega arith)

pub held-roots : (s : HeapState) (ms : List MutatorState) → HaveRegisters ms → AllByRecursion (λ m. AreRegisters s m.registers) ms
    → (d : ℕ) → d < length (roots_of ms) → IsRoot s (slice_index (roots_of ms) d)
held-roots s [] all registers d less = absurd (omega (arith, less))
held-roots s (m ∷ ms) all registers d less =
    root-at s m.registers (roots_of ms) (λ e below. registers.0 e (let many : length m.registers ≡ 16 = all.0 in omega (arith, many, below))) (held-roots s ms all.1 registers.1) d less

module _ {P : Type 0} (rules : Rules) (h : StoppedHeap P) (stopped : IsStopped rules h) where
  use-them : MayUse (heap_state h.heap) (map mutator_state h.mutators.items)
  use-them = may-use (heap_state h.heap) (map mutator_state h.mutators.items) (ideal_at stopped.now) (stands-represents rules h stopped.setting stopped.now stopped.stands)

  pub sixteen : HaveRegisters (map mutator_state h.mutators.items)
  sixteen = registers-of (map mutator_state h.mutators.items) use-them.mutators.each

  pub roots-held : AreRoots (heap_state h.heap) (roots_of (map mutator_state h.mutators.items))
  roots-held = held-roots (heap_state h.heap) (map mutator_state h.mutators.items) sixteen use-them.registers

  pub roots-many : length (roots_of (map mutator_state h.mutators.items)) ≡ 16 * length h.mutators.items
  roots-many =
      let many : length (roots_of (map mutator_state h.mutators.items)) ≡ 16 * length (map mutator_state h.mutators.items) = length-roots (map mutator_state h.mutators.items) sixteen in
      let same : length (map mutator_state h.mutators.items) ≡ length h.mutators.items = length-map h.mutators.items mutator_state in
      omega arith

  pub roots-few : length (roots_of (map mutator_state h.mutators.items)) ≤ 1000000
  roots-few =
      let many : length (roots_of (map mutator_state h.mutators.items)) ≡ 16 * length h.mutators.items = roots-many in
      let few : length h.mutators.items ≤ 16 = stopped.order.few in
      omega arith
