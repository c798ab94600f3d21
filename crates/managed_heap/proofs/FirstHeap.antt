-- A heap that begins stands at the first moment of each session of its plan.
use Rattle.std.proofs.Common.{◌≡◌, refl, sym, ◌∙◌, ap, ℕ, ◌+◌, ◌/◌, ◌^◌, ◌<◌, ◌≤◌, ◌&&◌, not, nat_lt, nat_le, arith, List, [], length, map, replicate}
use Rattle.std.specs.List.{range_with_len}
use Rattle.std.proofs.lemmas.Bool.{and_parts, ltb-true}
use Rattle.std.proofs.lemmas.List.{length-replicate}
use Rattle.ideal_heap.specs.declared.command.Command.{Command}
use Rattle.object_model.specs.Heaps.{heap_state}
use Rattle.object_model.specs.Objects.{HeapState, empty_heap, word_at, is_start, is_unlogged}
use Rattle.object_model.specs.Ages.{is_old, is_logged}
use Rattle.object_model.specs.Graphs.{new_mutator}
use Rattle.sessions.specs.Plans.{Rules}
use Rattle.sessions.specs.Sessions as sessions
use Rattle.sessions.specs.Sessions.{Setting, first_moment}
use Rattle.sessions.proofs.Soundness.{session-sound}
use Rattle.heap_users.specs.Users.{mutator_state}
use Rattle.block_regions.specs.Notes.{AreNotes, FlagsCover, NoneIsLogged}
use Rattle.managed_heap.specs.declared.stopped_heap.StoppedHeap.{StoppedHeap}
use Rattle.managed_heap.specs.Stopped.{IsHeapInOrder, HeapStandsAt, IsStopped}

-- an empty heap has no old object
none-logged : (rules : Rules) (blocks : ℕ) {s : HeapState} → s ≡ empty_heap blocks → NoneIsLogged rules s
none-logged rules blocks {s} same a logged =
    let none : s.base ≡ 0 = ap (λ (x : HeapState). x.base) same in
    let aged = (and_parts (is_start s a) (is_old s a) (and_parts (is_start s a && is_old s a) (not (is_unlogged s a)) (and_parts rules.young (is_logged s a) logged).1).0).1 in
    let some : 0 < s.base = ltb-true 0 s.base (and_parts (nat_lt 0 s.base) (nat_le s.base (word_at s (a + 2) / 2 ^ 24)) aged).0 in
    omega arith

module _ {P : Type 0} (rules : Rules) (h : StoppedHeap P) (blocks count : ℕ)
    (heap : heap_state h.heap ≡ empty_heap blocks) (notes : AreNotes rules.fill (heap_state h.heap) h.notes)
    (flags : NoneIsLogged rules (heap_state h.heap) → FlagsCover rules (heap_state h.heap) h.notes.flags.items)
    (mutators : map mutator_state h.mutators.items ≡ map new_mutator (range_with_len 1 count)) (as_many : length h.mutators.items ≡ count)
    (nursery : h.nursery ≡ 0) (full : h.full ≡ 0) (few : count ≤ 16) (some_worker : 1 ≤ h.workers) (few_workers : h.workers ≤ 16) where
  in-order : IsHeapInOrder rules h
  in-order = record {
    few = omega arith;
    notes = notes;
    flags = flags (none-logged rules blocks heap);
    number = (let e : (heap_state h.heap).number ≡ 0 = ap (λ (s : HeapState). s.number) heap in omega arith);
    some_worker = some_worker;
    few_workers = few_workers;
  }

  pub stands-first : (t : Setting) → t.rules ≡ rules → t.workers ≡ h.workers → t.blocks ≡ blocks → length t.traces ≡ count → HeapStandsAt rules h t (first_moment t)
  stands-first t rules_are one blocks_are traces =
      let order = h.heap.lawful.but_lines.order.row in
      let as_blocks : (heap_state h.heap).blocks ≡ blocks = ap (λ (s : HeapState). s.blocks) heap in
      record {
        rules_are = rules_are;
        workers = one;
        blocks = refl;
        heap = heap ∙ ap empty_heap (sym blocks_are);
        mutators = mutators ∙ ap (λ n. map new_mutator (range_with_len 1 n)) (sym traces);
        nursery = nursery;
        full = full;
        sound = session-sound t (first_moment t) (let e = order.least in omega arith) (let e : (heap_state h.heap).blocks ≤ 1024 = order.most in omega arith) (omega arith) sessions.begun;
        run = tt;
      }

  pub stopped-first : IsStopped rules h
  stopped-first =
      let empties : List (List Command) = replicate count [] in
      let t : Setting = record { rules = rules; blocks = blocks; workers = h.workers; traces = empties } in
      record { order = in-order; setting = t; now = first_moment t; stands = stands-first t refl refl refl (length-replicate count []) }
